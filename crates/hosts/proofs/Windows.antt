-- Of which epochs a host has nodes, as it stands.
use Rattle.std.proofs.Common.{◌≡◌, ◌⊎◌, ◌∙◌, ℕ, ◌+◌, ◌<◌, ◌≤◌, Bool, true, false, sym, inl, inr, arith}
use Rattle.std.specs.Prelude.{nat_lt}
use Rattle.std.proofs.lemmas.Bool.{cases_lt, ltb-false, ltb-true}
use Rattle.hosts.specs.Acting.{IsAskedIn, IsWithout}
use Rattle.hosts.specs.Hosts.{StandsAs, has_before}
use Rattle.hosts.specs.Views.{HostView, IsGone, IsNear, number}
use Rattle.hosts.specs.declared.host.Host.{Host}
use Rattle.hosts.specs.declared.opens.Opens.{Ghosts}
use Rattle.node.specs.declared.node.Node.{Ghosts as Nodes}

-- where the epoch before has a node it is none below the first one
pub above_first : (first n : ℕ) (has : Bool) → has ≡ nat_lt first n → has ≡ true → first < n
above_first first n has is there = ltb-true first n (sym is ∙ there)

-- an epoch below its own one of which it has no node is below the window
pub is_gone : {O N : Type 0} {g : Ghosts O N} {h : Nodes N} (host : Host O N g h) (v : HostView) → StandsAs host v → (e : ℕ) → IsWithout host e → IsGone v e
is_gone host v stands e without = by (cases_lt (e + 1) (number v))
  where
    by : (e + 1 < number v) ⊎ (number v ≤ e + 1) → IsGone v e
    by (inl far) = inr far
    by (inr near) =
        let is : e + 1 ≡ host.number = omega (arith, near, without.below, stands.epoch) in
        let none : nat_lt v.first (number v) ≡ false = sym stands.before ∙ without.far is in
        let first : number v ≤ v.first = ltb-false v.first (number v) none in
        inl (omega (arith, first, is, stands.epoch))

-- one that may be asked of is near
pub is_asked_near : {O N : Type 0} {g : Ghosts O N} {h : Nodes N} (host : Host O N g h) (v : HostView) → StandsAs host v → (e said : ℕ) → IsAskedIn host e said → IsNear v e
is_asked_near host v stands e said asked = by (cases_lt (e + 1) (host.number + 1))
  where
    by : (e + 1 < host.number + 1) ⊎ (host.number + 1 ≤ e + 1) → IsNear v e
    by (inr high) = record {
      some = omega (arith, high, host.first);
      there = omega (arith, high, stands.epoch, stands.since);
      low = omega (arith, high, stands.epoch);
      high = omega (arith, asked.high, stands.epoch);
    }
    by (inl below) =
        let is : e + 1 ≡ host.number = omega (arith, below, asked.low) in
        let has : has_before host ≡ true = asked.before is in
        let above : v.first < number v = above_first v.first (number v) (has_before host) stands.before has in
        let some : 1 < host.number = host.window has in
        record { some = omega (arith, is, some); there = omega (arith, is, above, stands.epoch); low = omega (arith, is, stands.epoch); high = omega (arith, is, stands.epoch) }
