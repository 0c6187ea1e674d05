-- A host that starts stands where a life begins.
use Rattle.std.specs.Prelude.{ℕ, Bool, List, length}
use Rattle.acceptor.specs.Content.{Content}
use Rattle.hosts.specs.Hosts.{StandsAs}
use Rattle.hosts.specs.Starting.{StandsBehind}
use Rattle.hosts.specs.Views.{AreBegun, first_from, opening}
use Rattle.hosts.specs.declared.host.Host.{Host}
use Rattle.hosts.specs.declared.opens.Opens.{Ghosts}
use Rattle.node.specs.declared.node.Node.{Ghosts as Nodes}
use Rattle.host_lives.specs.Beginning.{IsFirst, NewLife, begun, new_host, nothing}
use Rattle.host_lives.specs.Served.{BeginOver}

-- a life behind these epochs, over records that hold this, with a node of the epoch before where there is one
abbrev pub life_behind : Bool → List (List (List ℕ)) → (ℕ → Content) → NewLife
life_behind has_before passed contents = record { contents = contents; passed = passed; first = first_from has_before (length passed) }

-- a host that started behind full epochs, whose nodes begin over what its records hold, stands where such a life begins
abbrev pub StartsLife : {O N : Type 0} {g : Ghosts O N} {h : Nodes N} → Host O N g h → Type 0
StartsLife {O} {N} {g} {h} host =
    (opens : O) (contents : ℕ → Content) (places : ℕ) (has_before : Bool) (passed : List (List (List ℕ))) → BeginOver (g.begins opens) contents
    → StandsBehind (g.begins opens) places has_before passed host
    → StandsAs host (begun places (life_behind has_before passed contents)) × IsFirst (life_behind has_before passed contents)

-- and one that has done nothing, over records that hold nothing, where the first life does
abbrev pub StartsNew : {O N : Type 0} {g : Ghosts O N} {h : Nodes N} → Host O N g h → Type 0
StartsNew {O} {N} {g} {h} host =
    (opens : O) (contents : ℕ → Content) → BeginOver (g.begins opens) nothing → AreBegun (g.begins opens) 1 2 contents → StandsAs host (opening contents)
    → StandsAs host new_host
