-- What a call of a node that is up does to its records, where these are in memory.
use Rattle.std.proofs.Common.{◌≡◌, inl, inr, ℕ, ◌<◌, List, [], ◌∷◌, Bool, true, false, Option, Some, None, Result, Ok, Err}
use Rattle.std.proofs.Common.{Vec, refl, sym, ap, subst, ◌∙◌, arith}
use Rattle.std.specs.declared.alloc.Global.{Global}
use Rattle.acceptor.specs.Content.{AreRowsFrom, Content, Write, after_write}
use Rattle.acceptor.specs.Content.Write.{Tries, Promises, Votes, Learns}
use Rattle.acceptor.specs.Kept.{is_it, no_break, no_failures}
use Rattle.ballots.specs.declared.letters.Letter.{Letter}
use Rattle.map_release.specs.declared.numbered.Numbered.{Numbered}
use Rattle.node.specs.Calls.{Called, Cause, Kept, KeptByRestart, Restarts, StoreFails, TellsFresh, Who, answer}
use Rattle.node.specs.Calls.Cause.{Lead, Offer, Receive}
use Rattle.node.specs.Releases.{Releases, outputs, released_all}
use Rattle.node.specs.Sched.{Stands, view_over, who_of}
use Rattle.node.specs.Step.{Outcome}
use Rattle.node.specs.View.{Standing, View, started}
use Rattle.node.specs.View.Standing.{Running}
use Rattle.node.specs.declared.parts.Parts.{Parts}
use Rattle.node_writes.specs.Writes.{LeadTo, Spells, SpellsOf}
use Rattle.node_writes.specs.declared.write_bytes.WriteBytes.{WriteBytes}
use Rattle.proposer.specs.declared.fault.NodeFault.{NodeFault as Fault}
use Rattle.told_writes.proofs.Callers.{leads_on}
use Rattle.told_writes.specs.States.{NodeState}
use Rattle.told_writes.specs.Told.{IsToldOf}
use Rattle.told_writes.specs.Telling.{IsOpen, WritesAfter}
use Rattle.kept_node.specs.Told.{IsWriteOfCall}

-- bytes that say there is no write change nothing
pub writes_none : (r : WriteBytes) (write : Option Write) (c : Content) → Spells r write → r.kind ≡ 0 → after_write c write ≡ c
writes_none r None c spells none = refl
writes_none r (Some (Tries b)) c spells none = absurd (omega (arith, spells.0, none))
writes_none r (Some (Promises b)) c spells none = absurd (omega (arith, spells.0, none))
writes_none r (Some (Votes p cast)) c spells none = absurd (omega (arith, spells.0, none))
writes_none r (Some (Learns p v)) c spells none = absurd (omega (arith, spells.0, none))

-- bytes of a node that spell no write
abbrev pub blank : ℕ → WriteBytes
blank id = record { kind = 0; node = id; value_len = 0; ballot = []; place = []; value = [] }

abbrev pub who : Parts Content → Who
who n = who_of no_failures no_break n

-- the letters of a call, or its fault
abbrev Given : Type 0
Given = Result (Vec Letter Global) Fault

-- a store that isn't broken leaves the node up
pub stays_up : {T : Type 0} (a b : Parts Content) (result : Result T Fault) → Kept (who a) result (who b) → a.is_down ≡ false → b.is_down ≡ false
stays_up a b (Ok given) kept up = kept.4 ∙ up
stays_up a b (Err Fault.NotLeading) kept up = kept.4 ∙ up
stays_up a b (Err Fault.LogFull) kept up = kept.4 ∙ up
stays_up a b (Err Fault.RoundsSpent) kept up = kept.4 ∙ up
stays_up a b (Err Fault.ValueTooLong) kept up = kept.4 ∙ up
stays_up a b (Err Fault.OutOfMemory) kept up = kept.4 ∙ up
stays_up a b (Err Fault.StoreRefused) kept up = kept.4 ∙ up
stays_up a b (Err Fault.Down) (id, members, grows, inl (failed, broken), down) up = let no : false ≡ true = broken in cc
stays_up a b (Err Fault.Down) (id, members, grows, inr (was, served), down) up = let no : false ≡ true = sym up ∙ was in cc

pub restarts_up : {T : Type 0} (a b : Parts Content) (result : Result T Fault) → KeptByRestart (who a) result (who b) → a.is_down ≡ false → b.is_down ≡ false
restarts_up a b (Ok given) kept up = kept.4
restarts_up a b (Err Fault.NotLeading) kept up = kept.4 ∙ up
restarts_up a b (Err Fault.LogFull) kept up = kept.4 ∙ up
restarts_up a b (Err Fault.RoundsSpent) kept up = kept.4 ∙ up
restarts_up a b (Err Fault.ValueTooLong) kept up = kept.4 ∙ up
restarts_up a b (Err Fault.OutOfMemory) kept up = kept.4 ∙ up
restarts_up a b (Err Fault.StoreRefused) kept up = kept.4 ∙ up
restarts_up a b (Err Fault.Down) kept up = let no : false ≡ true = kept.3.1 in cc

module _ (a b : Parts Content) (up : a.is_down ≡ false) (still : b.is_down ≡ false) where
  abbrev view : View
  view = view_over a a.records

  abbrev state : NodeState
  state = record { id = (who a).id; members = (who a).members; view = view }

  abbrev Moves : (Standing → Standing → Type 0) → Type 0
  Moves Ends = (s : Standing) → Stands is_it a s → (t : Standing) × Ends s t × Stands is_it b t

  stood : Stands is_it a (Running view)
  stood = (up, refl, (∣ refl ∣₁, λ d is. is))

  content_is : (v : View) → Stands is_it b (Running v) → b.records ≡ v.content
  content_is v stands = stands.2.1 b.records refl

  quiet : (v : View) (t : Standing) → v.content ≡ a.records → t ≡ Running v → Stands is_it b t → b.records ≡ a.records
  quiet v t same is stands = content_is v (subst (Stands is_it b) is stands) ∙ same

  fails_so : (f : Fault) (t : Standing) → StoreFails view f t → Stands is_it b t → b.records ≡ a.records
  fails_so Fault.OutOfMemory t is stands = quiet view t refl is stands
  fails_so Fault.StoreRefused t is stands = quiet view t refl is stands
  fails_so Fault.Down t is stands = let no : true ≡ false = sym (subst (Stands is_it b) is stands).0 ∙ still in cc
  fails_so Fault.NotLeading t none stands = absurd none
  fails_so Fault.LogFull t none stands = absurd none
  fails_so Fault.RoundsSpent t none stands = absurd none
  fails_so Fault.ValueTooLong t none stands = absurd none

  pub released : (now : ℕ) (result : Result (Vec Numbered Global) Fault) → Moves (λ s t. Releases s now (outputs result) t) → b.records ≡ a.records
  released now (Ok given) moves = let to = moves (Running view) stood in quiet (released_all view) to.0 refl to.1.1 to.2
  released now (Err f) moves = let to = moves (Running view) stood in fails_so f to.0 to.1 to.2

  pub restarted : (result : Result (Unit {0}) Fault) → Moves (λ s t. Restarts s result t) → b.records ≡ a.records
  restarted (Ok given) moves = let to = moves (Running view) stood in quiet (started a.records) to.0 refl to.1 to.2
  restarted (Err f) moves = let to = moves (Running view) stood in fails_so f to.0 to.1 to.2

  pub told_fresh : (result : Result Bool Fault) → Moves (λ s t. TellsFresh s result t) → b.records ≡ a.records
  told_fresh (Ok given) moves = let to = moves (Running view) stood in quiet view to.0 refl to.1.1 to.2
  told_fresh (Err f) moves = let to = moves (Running view) stood in fails_so f to.0 to.1 to.2

  module _ (some : 0 < (who a).members) (ordered : AreRowsFrom 1 a.records.votes) (r : WriteBytes) where
    abbrev LeadsOn : Type 0
    LeadsOn = LeadTo (who a).id (r ∷ []) a.records b.records

    none_made : (t : Standing) → t ≡ Running view → Stands is_it b t → SpellsOf (who a).id r None → LeadsOn
    none_made t is stands spells = (None, spells, quiet view t refl is stands)

    -- the write that is told of a call leads on
    call_leads : (cause : Cause) (given : Given) → Moves (λ s t. Called (who a).members (who a).id s cause (answer given) t)
        → ((letters : Vec Letter Global) (o : Outcome) → given ≡ Ok letters → letters.items ≡ o.letters → b.knowledge.tally.learned ≡ o.view.tally.learned → IsToldOf state cause o r)
        → ((f : Fault) → given ≡ Err f → SpellsOf (who a).id r None) → LeadsOn
    call_leads cause given moves told none = let to = moves (Running view) stood in ends given to.0 to.1 to.2 told none
      where
        ends : (given : Given) (t : Standing) → Called (who a).members (who a).id (Running view) cause (answer given) t → Stands is_it b t
            → ((letters : Vec Letter Global) (o : Outcome) → given ≡ Ok letters → letters.items ≡ o.letters → b.knowledge.tally.learned ≡ o.view.tally.learned → IsToldOf state cause o r)
            → ((f : Fault) → given ≡ Err f → SpellsOf (who a).id r None) → LeadsOn
        ends (Ok letters) t (o, course, same, is) stands told none =
            let there : Stands is_it b (Running o.view) = subst (Stands is_it b) is stands in
            subst (LeadTo (who a).id (r ∷ []) a.records) (sym (content_is o.view there))
            (leads_on state cause o r some course (told letters o refl same (sym (ap (λ (v : View). v.tally.learned) there.1))) ordered)
        ends (Err Fault.OutOfMemory) t is stands told none = none_made t is stands (none Fault.OutOfMemory refl)
        ends (Err Fault.StoreRefused) t is stands told none = none_made t is stands (none Fault.StoreRefused refl)
        ends (Err Fault.NotLeading) t (declined, is) stands told none = none_made t is stands (none Fault.NotLeading refl)
        ends (Err Fault.LogFull) t (declined, is) stands told none = none_made t is stands (none Fault.LogFull refl)
        ends (Err Fault.RoundsSpent) t (declined, is) stands told none = none_made t is stands (none Fault.RoundsSpent refl)
        ends (Err Fault.ValueTooLong) t (declined, is) stands told none = none_made t is stands (none Fault.ValueTooLong refl)
        ends (Err Fault.Down) t (inl is) stands told none = let no : true ≡ false = sym (subst (Stands is_it b) is stands).0 ∙ still in cc
        ends (Err Fault.Down) t (inr (o, course, is)) stands told none = let no : true ≡ false = sym (subst (Stands is_it b) is stands).0 ∙ still in cc

    abbrev Writes : Option ℕ → Given → Type 0
    Writes place given = IsWriteOfCall (who b).id b.knowledge.tally.learned place (answer given) r

    -- what the letters tell of
    told_after : (me : (who b).id ≡ (who a).id) (place : Option ℕ) (given : Given) → Writes place given
        → (letters : Vec Letter Global) (o : Outcome) → given ≡ Ok letters → letters.items ≡ o.letters → b.knowledge.tally.learned ≡ o.view.tally.learned
        → WritesAfter (who a).id o.view.tally.learned o.letters place r
    told_after me place given writes letters o is same learned =
        subst (λ (id : ℕ). WritesAfter id o.view.tally.learned o.letters place r) me
        (subst (λ (rows : List (ℕ × List ℕ)). WritesAfter (who b).id rows o.letters place r) learned
        (subst (λ (ls : List Letter). WritesAfter (who b).id b.knowledge.tally.learned ls place r) same (subst (Writes place) is writes)))

    none_after : (me : (who b).id ≡ (who a).id) (place : Option ℕ) (given : Given) → Writes place given → (f : Fault) → given ≡ Err f → SpellsOf (who a).id r None
    none_after me place given writes f is = subst (λ (id : ℕ). SpellsOf id r None) me (subst (Writes place) is writes)

    pub led : (me : (who b).id ≡ (who a).id) (given : Given) → Moves (λ s t. Called (who a).members (who a).id s Lead (answer given) t) → Writes None given → LeadsOn
    led me given moves writes = call_leads Lead given moves (told_after me None given writes) (none_after me None given writes)

    pub received : (me : (who b).id ≡ (who a).id) (letter : Letter) (place : Option ℕ) (given : Given)
        → Moves (λ s t. Called (who a).members (who a).id s (Receive letter) (answer given) t) → IsOpen a.knowledge.tally.learned letter.note place → Writes place given → LeadsOn
    received me letter place given moves opened writes =
        call_leads (Receive letter) given moves (λ letters o is same learned. (place, opened, told_after me place given writes letters o is same learned)) (none_after me place given writes)

  -- an offer makes no write
  pub offered : 0 < (who a).members → AreRowsFrom 1 a.records.votes → (value : List ℕ) (given : Given) → Moves (λ s t. Called (who a).members (who a).id s (Offer value) (answer given) t)
      → LeadTo (who a).id (blank (who a).id ∷ []) a.records b.records
  offered some ordered value given moves =
      let none : SpellsOf (who a).id (blank (who a).id) None = (refl, omega arith, refl) in
      call_leads some ordered (blank (who a).id) (Offer value) given moves (λ letters o is same learned. none) (λ f is. none)
