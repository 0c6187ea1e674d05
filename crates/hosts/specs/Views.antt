-- Where a host stands, and what it does.
use Rattle.std.specs.Prelude.{◌≡◌, ◌≢◌, ◌⊎◌, ℕ, ◌+◌, ◌<◌, ◌≤◌, ◌==◌, ◌&&◌, nat_le, nat_lt, Bool, true, false}
use Rattle.std.specs.Prelude.{if◌then◌else◌}
use Rattle.std.specs.Prelude.{List, [], ◌∷◌, ◌++◌, length, Option, Some, None, slice_get, Contains}
use Rattle.acceptor.specs.Content.{Content, no_content}
use Rattle.ballots.specs.Rows.{at}
use Rattle.map_release.specs.Released.{released}
use Rattle.node.specs.View.{Standing, started}
use Rattle.node.specs.View.Standing.{Running, Stopped}
use Rattle.proposer.specs.declared.fault.NodeFault.{NodeFault}
use Rattle.proposer.specs.declared.fault.NodeFault.TheVariants.{OutOfMemory}
use Rattle.seats.specs.Acted.{letters_of, outputs_of, told}
use Rattle.seats.specs.Acts.{GoesTo}
use Rattle.seats.specs.Moves.{Ask}
use Rattle.grant_machine.specs.declared.output.Output.{Output}
use Rattle.epochs.specs.Again.{again_of}
use Rattle.epochs.specs.Epochs.{outputs_over, values_of}
use Rattle.epochs.specs.Scheduling.{most_applied, tables_after}
use Rattle.hosts.specs.Beyond.{is_beyond}
use Rattle.hosts.specs.declared.acted.Given.{Given}
use Rattle.hosts.specs.declared.acted.Given.TheVariants.{Outputs, Failed}
use Rattle.hosts.specs.declared.acted.HostActed.{HostActed}
use Rattle.hosts.specs.declared.acted.HostActed.TheVariants.{Of, Ended, Ahead, Gone, OtherPlaces}

-- where a host stands: the values of the epochs that it passed, those of its own that it took up, its node of each
-- epoch, how many outputs it gave, and the first epoch of which it has a node
pub record HostView : Type 0 where
  pub passed : List (List (List ℕ))
  pub own : List (List ℕ)
  pub nodes : ℕ → Standing
  pub cursor : ℕ
  pub first : ℕ

-- the number of its epoch, from 1
abbrev pub number : HostView → ℕ
number v = length v.passed + 1

-- what it knows of each epoch
abbrev pub known : HostView → List (List (List ℕ))
known v = v.passed ++ v.own ∷ []

-- and of all of them, one after another
abbrev pub values : ℕ → HostView → List (List ℕ)
values places v = values_of places (known v)

-- nodes that may begin so were opened over these contents, of the epochs from one to another; of others there is
-- nothing
pub record AreBegun (begins : ℕ → Content → Type 0) (first last : ℕ) (contents : ℕ → Content) : Type 0 where
  pub begun : (e : ℕ) → first ≤ e → e ≤ last → begins e (contents e)
  pub others : (e : ℕ) → (e < first) ⊎ (last < e) → contents e ≡ no_content

-- a host that has done nothing, whose nodes begin over these contents
abbrev pub opening : (ℕ → Content) → HostView
opening contents = record { passed = []; own = []; nodes = λ e. Running (started (contents e)); cursor = 0; first = 1 }

-- a host that starts at the epoch behind these full ones, whose nodes begin over these contents, from this epoch on
abbrev pub resuming : (places : ℕ) → List (List (List ℕ)) → (first : ℕ) → (ℕ → Content) → HostView
resuming places passed first contents = record {
  passed = passed;
  own = [];
  nodes = λ e. Running (started (contents e));
  cursor = length (values_of places passed);
  first = first;
}

-- the first epoch of which it has a node then, where so many were passed: the one before its own, if it has a node of
-- that
abbrev pub first_from : Bool → ℕ → ℕ
first_from has_before passed = if has_before && nat_lt 0 passed then passed else passed + 1

-- an epoch of the window: its own, the one before or the one after, and none below the first one
pub record IsNear (v : HostView) (e : ℕ) : Type 0 where
  pub some : 1 ≤ e
  pub there : v.first ≤ e
  pub low : number v ≤ e + 1
  pub high : e ≤ number v + 1

-- an epoch below the window
abbrev pub IsGone : HostView → ℕ → Type 0
IsGone v e = (e < v.first) ⊎ (e + 1 < number v)

-- the node of one epoch stands so
abbrev pub with_node : HostView → ℕ → Standing → HostView
with_node v e t = record v { nodes = λ x. if x == e then t else v.nodes x }

-- the value that a node has learned at a place
abbrev pub learned_at : Standing → ℕ → Option (List ℕ)
learned_at (Running view) p = at view.tally.learned p
learned_at (Stopped content doubt) p = None

-- its own epoch is full, all outputs up to its end were given, and those of the next one can be numbered
abbrev pub is_passed : ℕ → HostView → Bool
is_passed places v = (length v.own == places) && ((v.cursor == length (values places v)) && nat_lt (length (values places v) + places) most_applied)

-- it goes on in the next one
abbrev pub shifted : HostView → HostView
shifted v = record v { passed = v.passed ++ v.own ∷ []; own = [] }

-- from where it goes on: it does where its own epoch is passed, and opens the node behind the next one, which may begin
-- so
abbrev pub GoesFrom : (ℕ → Content → Type 0) → (places : ℕ) → HostView → HostView → Type 0
GoesFrom begins places v w =
    ((is_passed places v ≡ true) × ((c : Content) × begins (number v + 2) c × (w ≡ with_node (shifted v) (number v + 2) (Running (started c)))))
    ⊎ ((is_passed places v ≡ false) × (w ≡ v))

-- it takes up these values behind those that it has, each learned by its own epoch's node at its place
pub record TakesUp (places : ℕ) (v : HostView) (more : List (List ℕ)) : Type 0 where
  pub learned : (i : ℕ) (x : List ℕ) → slice_get more i ≡ Some x → learned_at (v.nodes (number v)) (length v.own + i + 1) ≡ Some x
  pub fits : length v.own + length more ≤ places

-- the same with these taken up
abbrev pub with_more : HostView → List (List ℕ) → HostView
with_more v more = record v { own = v.own ++ more }

-- nothing is left to take up
abbrev pub IsAll : ℕ → HostView → Type 0
IsAll places v = (length v.own ≡ places) ⊎ (learned_at (v.nodes (number v)) (length v.own + 1) ≡ None)

-- all outputs are given
abbrev pub all_given : ℕ → HostView → HostView
all_given places v = record v { cursor = length (values places v) }

-- the first of the epochs whose nodes one whose own epoch is number n lacks where it goes to epoch e above it
abbrev pub first_lacked : (n e : ℕ) → ℕ
first_lacked n e = if e == n + 1 then e + 1 else e

-- it lacks the node of epoch f, of these two
abbrev pub is_lacked : (n e f : ℕ) → Bool
is_lacked n e f = nat_le (first_lacked n e) f && nat_le f (e + 1)

-- a host goes to the start of the epoch behind these full ones, which is above its own. Of the nodes that it has those
-- of the window stay, and those that it lacked begin over these contents; where it has none of the epoch before, that
-- one is below its window from here on
abbrev pub joined : ℕ → HostView → List (List (List ℕ)) → (ℕ → Content) → HostView
joined places v passed contents = record {
  passed = passed;
  own = [];
  nodes = λ e. if is_lacked (number v) (length passed + 1) e then Running (started (contents e)) else v.nodes e;
  cursor = length (values_of places passed);
  first = if nat_le (length passed) (number v + 1) then v.first else length passed + 1;
}

-- host me of so many members, which stood at v, was asked so of the node of epoch e, by who has so many places in an
-- epoch, and stands at v'
abbrev pub MovesIn : (members me places : ℕ) → HostView → (e said : ℕ) → Ask → HostActed → HostView → Type 0
MovesIn members me places v e said ask (Of acted) v' =
    (said ≡ places) × IsNear v e × (is_beyond places (v.nodes e) ask ≡ false)
    × ((t : Standing) × GoesTo members me (v.nodes e) ask (told acted) (letters_of acted) (outputs_of acted) (λ u. u ≡ t) × (v' ≡ with_node v e t))
MovesIn members me places v e said ask Ended v' = (said ≡ places) × IsNear v e × (is_beyond places (v.nodes e) ask ≡ true) × (v' ≡ v)
MovesIn members me places v e said ask Ahead v' = (said ≡ places) × (number v + 1 < e) × (v' ≡ v)
MovesIn members me places v e said ask Gone v' = (said ≡ places) × IsGone v e × (v' ≡ v)
MovesIn members me places v e said ask OtherPlaces v' = (said ≢ places) × (v' ≡ v)

-- these are the outputs behind the cursor, without the MAPs that have ended by now, and it says the number of its
-- epoch, and the first place of it that it lacks
abbrev pub Gives : (places : ℕ) → HostView → (now : ℕ) → Given → Type 0
Gives places v now (Outputs outputs epoch place) =
    (outputs.items ≡ released now v.cursor (outputs_over places (known v))) × (epoch ≡ number v) × (place ≡ length v.own + 1)
Gives places v now (Failed fault) = ⊥

-- a host, whose nodes may begin so and may fail to open so, takes up all that is there, from where it goes on, and
-- gives all behind its cursor; or the node that it goes on with fails to open, or the state isn't kept; or memory ends
-- before it took up all, and nothing is given
abbrev pub Releases : (ℕ → Content → Type 0) → (NodeFault → Type 0) → (places : ℕ) → HostView → (now : ℕ) → Given → HostView → Type 0
Releases begins may_fail places v now (Outputs outputs epoch place) v' =
    (w : HostView) × GoesFrom begins places v w × ((more : List (List ℕ)) × TakesUp places w more × IsAll places (with_more w more)
    × Gives places (with_more w more) now (Outputs outputs epoch place) × (v' ≡ all_given places (with_more w more)))
Releases begins may_fail places v now (Failed fault) v' =
    ((is_passed places v ≡ true) × may_fail fault × (v' ≡ v))
    ⊎ ((w : HostView) × GoesFrom begins places v w × ((more : List (List ℕ)) × TakesUp places w more × (v' ≡ with_more w more) × (fault ≡ OutOfMemory)))

-- these are what the tables behind the values that it took up tell again, and each was an output of these values
pub record TellsAgain (places : ℕ) (v : HostView) (outputs : List Output) : Type 0 where
  pub all : outputs ≡ again_of (tables_after (values places v))
  pub told : (o : Output) → Contains outputs o → Contains (outputs_over places (known v)) o
