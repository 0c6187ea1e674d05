-- What waits leads from what a store holds to what the node has in memory.
use Rattle.std.proofs.Common.{◌≡◌, ℕ, ◌<◌, ◌==◌, List, [], ◌∷◌, ◌++◌, Bool, true, false, Option, None, refl, sym}
use Rattle.std.proofs.Common.{Vec, ap, subst, ◌∙◌, arith, IsTrue, if◌then◌else◌}
use Rattle.std.specs.declared.alloc.Global.{Global}
use Rattle.acceptor.specs.Content.{AreRowsFrom, Content}
use Rattle.acceptor.specs.Found.{Holds}
use Rattle.ballots.specs.declared.letters.Letter.{Letter}
use Rattle.kept_node.specs.Noted.{HasKept, IsKept, NotesTo}
use Rattle.kept_node.specs.declared.noted.NotedWrites.{NotedWrites}
use Rattle.kept_node.specs.declared.store.WriteStore.{Ghosts as Stores}
use Rattle.kept_node.proofs.Callers.{began as kept_began, kept_then, notes_on}
use Rattle.node.specs.Calls.{Cause, Who}
use Rattle.node.specs.Calls.Cause.{Lead as AskedToLead, Offer as Offered, Receive as Received, Tell as AskedToTell}
use Rattle.node.specs.Step.{Outcome}
use Rattle.node.specs.View.{Standing, View}
use Rattle.node.specs.View.Standing.{Running, Stopped}
use Rattle.node.specs.declared.node.Node.{Ghosts as Nodes}
use Rattle.node.specs.declared.parts.Parts.{Parts}
use Rattle.node_lines.specs.declared.request.Request.{Request}
use Rattle.node_lines.specs.declared.request.Request.TheVariants as request
use Rattle.node_service.specs.Seated.{DoesAsAsked}
use Rattle.node_writes.specs.Writes.{LeadTo, SpellsOf}
use Rattle.node_writes.specs.declared.write_bytes.WriteBytes.{WriteBytes}
use Rattle.seats.specs.Seat.{Shown}
use Rattle.seats.specs.Occupant.{Stands, is_up, node_of, who_of}
use Rattle.seats.specs.declared.acted.Acted.{Acted}
use Rattle.seats.specs.declared.acted.Acted.TheVariants as acted
use Rattle.seats.specs.declared.seat.Seat.{Seat}
use Rattle.told_writes.proofs.Callers.{leads_on}
use Rattle.told_writes.specs.States.{NodeState}
use Rattle.told_writes.specs.Told.{IsToldOf}
use Rattle.told_writes.specs.Telling.{IsOpen, WritesAfter}
use Rattle.batched_node.proofs.Memory.{Effect, IsPlain, IsSure, Leads, known, memory, moved, stands_up, view_of}
use Rattle.batched_node.specs.Noted.{IsAllNoted}
use Rattle.batched_node.specs.Serves.{content_of}
use Rattle.batched_node.specs.Told.{IsOpenFor, IsWriteOf}

-- a write was noted, for which there was room
pub record Notes {W : Type 0} (old : NotedWrites W) (r : WriteBytes) (new : NotedWrites W) : Type 0 where
  pub store : new.store ≡ old.store
  pub waits : new.ended ≡ None → new.waiting.items ≡ (if r.kind == 0 then old.waiting.items else old.waiting.items ++ r ∷ [])
  pub ended : new.ended ≡ old.ended

-- nothing was sent
abbrev pub NotSent : Acted → Type 0
NotSent (acted.Sent letters) = ⊥
NotSent other = Unit {0}

none_written : (id : ℕ) (learned : List (ℕ × List ℕ)) (asked : Request) (given : Acted) (place : Option ℕ) (r : WriteBytes) → IsWriteOf id learned asked given place r → NotSent given → SpellsOf id r None
none_written id learned asked (acted.Sent letters) place r writes none = absurd none
none_written id learned asked (acted.Fault f) place r writes none = writes
none_written id learned asked (acted.Released outputs) place r writes none = writes
none_written id learned asked acted.Finished place r writes none = writes
none_written id learned asked (acted.Refused refusal) place r writes none = writes

module _ {N : Type 0} {g : Nodes N} (parts : N → Parts Content) (plain : IsPlain g parts) where
  abbrev state_of : Seat N g → NodeState
  state_of seat = record { id = (who_of seat).id; members = (who_of seat).members; view = view_of parts plain seat }

  running_is : (up : Bool) (n : N) (view : View) → Shown up (g.stands n) (Running view) → g.stands n (Running view)
  running_is true n view (may, v, is) = may
  running_is false n view (Running v, may, is) = absurd (cc (is))
  running_is false n view (Stopped c doubt, may, is) = absurd (cc (is))

  -- what it has learned is in its view
  learned_is : (b : Seat N g) (view : View) → Stands b (Running view) → g.values (node_of b) ≡ view.tally.learned
  learned_is b view stands =
      plain.values (node_of b) ∙ sym (ap (λ (v : View). v.tally.learned) (plain.stands (node_of b) (Running view) (running_is (is_up b) (node_of b) view stands)).1)

  module _ (a b : Seat N g) (me : (who_of b).id ≡ (who_of a).id) (place : Option ℕ) (r : WriteBytes) where
    -- what the letters tell of
    told_after : (o : Outcome) (letters : List Letter) (p : Option ℕ) → letters ≡ o.letters → Stands b (Running o.view) → WritesAfter (who_of b).id (g.values (node_of b)) letters p r
        → WritesAfter (who_of a).id o.view.tally.learned o.letters p r
    told_after o letters p same stands told =
        subst (λ (id : ℕ). WritesAfter id o.view.tally.learned o.letters p r) me
        (subst (λ (rows : List (ℕ × List ℕ)). WritesAfter (who_of b).id rows o.letters p r) (learned_is b o.view stands)
        (subst (λ (ls : List Letter). WritesAfter (who_of b).id (g.values (node_of b)) ls p r) same told))

    told_none : SpellsOf (who_of b).id r None → SpellsOf (who_of a).id r None
    told_none spells = subst (λ (id : ℕ). SpellsOf id r None) me spells

    module _ (some : 0 < (who_of a).members) (ordered : AreRowsFrom 1 (memory parts plain a).votes) where
      abbrev LeadsOn : Type 0
      LeadsOn = LeadTo (who_of a).id (r ∷ []) (memory parts plain a) (memory parts plain b)

      quiet_leads : (t : Standing) → Stands b t → content_of t ≡ memory parts plain a → IsSure t → SpellsOf (who_of b).id r None → LeadsOn
      quiet_leads t stands same sure spells = (None, told_none spells, sym (known parts plain b t stands sure) ∙ same)

      call_given : (cause : Cause) (given : Acted) (t : Standing) → Leads (who_of a).members (who_of a).id (view_of parts plain a) cause given t → Stands b t
          → ((letters : Vec Letter Global) (o : Outcome) → given ≡ acted.Sent letters → letters.items ≡ o.letters → Stands b (Running o.view) → IsToldOf (state_of a) cause o r)
          → (NotSent given → SpellsOf (who_of b).id r None) → LeadsOn
      call_given cause (acted.Sent letters) t (o, course, same, is) stands told none =
          let there : Stands b (Running o.view) = subst (λ (s : Standing). Stands b s) is stands in
          subst (LeadTo (who_of a).id (r ∷ []) (memory parts plain a)) (known parts plain b (Running o.view) there tt)
          (leads_on (state_of a) cause o r some course (told letters o refl same there) ordered)
      call_given cause (acted.Fault f) t (same, sure) stands told none = quiet_leads t stands same sure (none tt)
      call_given cause (acted.Released outputs) t (same, sure) stands told none = quiet_leads t stands same sure (none tt)
      call_given cause acted.Finished t (same, sure) stands told none = quiet_leads t stands same sure (none tt)
      call_given cause (acted.Refused refusal) t (same, sure) stands told none = quiet_leads t stands same sure (none tt)

      abbrev Writes : Request → Acted → Type 0
      Writes asked given = IsWriteOf (who_of b).id (g.values (node_of b)) asked given place r

      -- the write of what was asked leads on
      asked_leads : (asked : Request) (given : Acted) (t : Standing) → Effect (who_of a).members (who_of a).id (view_of parts plain a) asked given t → Stands b t
          → IsOpenFor (g.values (node_of a)) asked place → Writes asked given → LeadsOn
      asked_leads request.Lead given t did stands opened writes =
          call_given AskedToLead given t did stands (λ letters o is same there. subst (λ (p : Option ℕ). WritesAfter (who_of a).id o.view.tally.learned o.letters p r) opened
          (told_after o letters.items place same there (subst (Writes request.Lead) is writes))) (none_written (who_of b).id (g.values (node_of b)) request.Lead given place r writes)
      asked_leads (request.Offer value) given t did stands opened writes =
          call_given (Offered value) given t did stands (λ letters o is same there. told_none (subst (Writes (request.Offer value)) is writes)) (none_written (who_of b).id (g.values (node_of b)) (request.Offer value) given place r writes)
      asked_leads (request.Letter letter) given t did stands opened writes =
          call_given (Received letter) given t did stands
          (λ letters o is same there. (
            place,
            subst (λ (rows : List (ℕ × List ℕ)). IsOpen rows letter.note place) (plain.values (node_of a)) opened,
            told_after o letters.items place same there (subst (Writes (request.Letter letter)) is writes),
          ))
          (none_written (who_of b).id (g.values (node_of b)) (request.Letter letter) given place r writes)
      asked_leads (request.Tell to p) given t did stands opened writes =
          call_given (AskedToTell to p) given t did stands (λ letters o is same there. told_none (subst (Writes (request.Tell to p)) is writes)) (none_written (who_of b).id (g.values (node_of b)) (request.Tell to p) given place r writes)
      asked_leads (request.Release now) given t did stands opened writes = quiet_leads t stands did.0 did.1 (release_writes given writes)
        where
          release_writes : (given : Acted) → Writes (request.Release now) given → SpellsOf (who_of b).id r None
          release_writes (acted.Sent letters) writes = writes
          release_writes (acted.Fault f) writes = writes
          release_writes (acted.Released outputs) writes = writes
          release_writes acted.Finished writes = writes
          release_writes (acted.Refused refusal) writes = writes

  -- so what waits leads on, with this write
  noted_on : {W : Type 0} (h : Stores W) (old new : NotedWrites W) (a b : Seat N g) (asked : Request) (given : Acted) (place : Option ℕ) (r : WriteBytes)
      → is_up a ≡ true → DoesAsAsked a asked given b → IsOpenFor (g.values (node_of a)) asked place → IsWriteOf (who_of b).id (g.values (node_of b)) asked given place r
      → Notes old r new → IsAllNoted h old (who_of a) (memory parts plain a) → IsAllNoted h new (who_of b) (memory parts plain b)
  noted_on h old new a b asked given place r up does opened writes notes noted =
      let me = does.same.0 in
      let all = does.same.1 in
      let goes_on : new.ended ≡ None = notes.ended ∙ noted.goes_on in
      let move = moved parts plain a b asked given up does (view_of parts plain a) (stands_up parts plain a up) in
      record {
        some = omega (arith, noted.some, all);
        goes_on = goes_on;
        waits = notes_on h old new r (who_of a).id (who_of b).id (memory parts plain a) (memory parts plain b) notes.store notes.waits (λ goes. noted.goes_on) me
            (λ ordered. asked_leads a b me place r noted.some ordered asked given move.0.standing move.5 move.4 opened writes) (λ goes. noted.waits) goes_on;
      }

-- the same, with the seats told first, and their nodes as they are seen
pub noted_after : {N W : Type 0} {g : Nodes N} (a b : Seat N g) (m n : N) → m ≡ node_of a → n ≡ node_of b → (parts : N → Parts Content) (plain : IsPlain g parts) (h : Stores W) (old new : NotedWrites W) (asked : Request) (given : Acted) (place : Option ℕ) (r : WriteBytes)
    → is_up a ≡ true → DoesAsAsked a asked given b → IsOpenFor (g.values m) asked place → IsWriteOf (g.who n).id (g.values n) asked given place r
    → Notes old r new → IsAllNoted h old (who_of a) (parts (node_of a)).records → IsAllNoted h new (who_of b) (parts (node_of b)).records
noted_after {N} {W} {g} a b m n before after parts plain h old new asked given place r up does opened writes notes noted =
    noted_on parts plain h old new a b asked given place r up does (subst (λ (x : N). IsOpenFor (g.values x) asked place) before opened)
    (subst (λ (x : N). IsWriteOf (g.who x).id (g.values x) asked given place r) after writes) notes noted

-- a node that begins beside a store that holds what it holds
pub began : {N W : Type 0} {g : Nodes N} (seat : Seat N g) (parts : N → Parts Content) (plain : IsPlain g parts) (h : Stores W) (noted : NotedWrites W) (store : W) (n : N) → node_of seat ≡ n → 0 < (g.who n).members
    → noted.store ≡ store → noted.waiting.items ≡ [] → noted.ended ≡ None
    → (IsTrue (h.honest store) → (view : View) × g.stands n (Running view) × Holds (h.may_find store) view.content × AreRowsFrom 1 view.content.votes)
    → IsAllNoted h noted (who_of seat) (parts (node_of seat)).records × IsKept h noted.store (parts (node_of seat)).records
began {N} {W} {g} seat parts plain h noted store n is some same none goes_on holds =
    let both = begins in (
      record { some = subst (λ (m : N). 0 < (g.who m).members) (sym is) some; goes_on = goes_on; waits = both.0 goes_on },
      both.1.kept,
    )
  where
    begins : NotesTo h noted (who_of seat).id (parts (node_of seat)).records × HasKept h noted (parts (node_of seat)).records
    begins = subst (λ (m : N). NotesTo h noted (g.who m).id (parts m).records × HasKept h noted (parts m).records) (sym is)
        (subst (λ (w : Who). NotesTo h noted w.id (parts n).records × HasKept h noted (parts n).records) (sym (plain.who n))
        (kept_began h noted store (parts n) same none goes_on
        (λ honest. let at = holds honest in (at.0, plain.stands n (Running at.0) at.1, at.2, at.3))))

-- what a commit stored of writes that are told otherwise
pub committed : {W : Type 0} (h : Stores W) (old new : NotedWrites W) (who : Who) (c : Content) (seen : ℕ) → seen ≡ who.id → new.ended ≡ None → ((d : Content) → NotesTo h old seen d → NotesTo h new seen d)
    → IsAllNoted h old who c → IsAllNoted h new who c
committed h old new who c seen me goes_on stored noted = record {
  some = noted.some;
  goes_on = goes_on;
  waits = subst (λ (n : ℕ). NotesTo h new n c) me (stored c (subst (λ (n : ℕ). NotesTo h old n c) (sym me) (λ goes. noted.waits))) goes_on;
}

-- and then the store holds what the node has
pub kept_after : {W : Type 0} (h : Stores W) (noted : NotedWrites W) (who : Who) (c : Content) → noted.waiting.items ≡ [] → IsAllNoted h noted who c → IsKept h noted.store c
kept_after h noted who c none all = kept_then h noted.store who.id noted.waiting.items c none all.waits
