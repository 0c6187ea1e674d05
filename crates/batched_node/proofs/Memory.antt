-- What a node with records in memory holds there, wherever it stands.
use Rattle.std.proofs.Common.{◌≡◌, ◌⊎◌, inl, inr, ℕ, Bool, true, false, Option, None, Result, Ok, Err, refl, sym, ap}
use Rattle.std.proofs.Common.{subst, ◌∙◌, IsTrue}
use Rattle.acceptor.specs.Content.{Content, Write, after_write}
use Rattle.acceptor.specs.Kept.{is_it, no_break, no_failures}
use Rattle.node.specs.Calls.{Cause, Course, TellsStore, Who}
use Rattle.node.specs.Calls.Cause.{Lead as AskedToLead, Offer as Offered, Receive as Received, Tell as AskedToTell}
use Rattle.node.specs.Sched.{Stands as StandsOver, view_over, who_of as who_over}
use Rattle.node.specs.Step.{Outcome, nothing}
use Rattle.node.specs.View.{Standing, View}
use Rattle.node.specs.View.Standing.{Running, Stopped}
use Rattle.node.specs.declared.node.Node.{Ghosts as Nodes}
use Rattle.node.specs.declared.parts.Parts.{Parts}
use Rattle.node.specs.Releases.{released_all}
use Rattle.node_lines.specs.declared.request.Request.{Request}
use Rattle.node_lines.specs.declared.request.Request.TheVariants as request
use Rattle.node_service.specs.Seated.{DoesAsAsked, asked_of}
use Rattle.proposer.specs.declared.fault.NodeFault.{NodeFault}
use Rattle.proposer.specs.declared.fault.NodeFault.TheVariants as fault
use Rattle.seats.specs.Acted.{letters_of, outputs_of, told}
use Rattle.seats.specs.Acts.{TellsStoreOf}
use Rattle.seats.specs.Moves.{Ends, Fails, Move, Moves, Releases, quiet}
use Rattle.seats.specs.Occupant.{Stands, is_up, node_of, who_of}
use Rattle.seats.specs.Seat.{Shown}
use Rattle.seats.specs.declared.acted.Acted.{Acted}
use Rattle.seats.specs.declared.acted.Acted.TheVariants as acted
use Rattle.seats.specs.declared.seat.Seat.{Seat}
use Rattle.batched_node.specs.Serves.{content_of}

-- a node whose records are in memory, which are among its parts
pub record IsPlain {N : Type 0} (g : Nodes N) (parts : N → Parts Content) : Type 0 where
  pub stands : (n : N) (s : Standing) → g.stands n s → StandsOver is_it (parts n) s
  pub stood : (n : N) (s : Standing) → StandsOver is_it (parts n) s → g.stands n s
  pub who : (n : N) → g.who n ≡ who_over no_failures no_break (parts n)
  pub values : (n : N) → g.values n ≡ (parts n).knowledge.tally.learned
  pub honest : (n : N) → IsTrue (g.honest n)

-- no write is in doubt
abbrev pub IsSure : Standing → Type 0
IsSure (Running view) = Unit {0}
IsSure (Stopped c doubt) = doubt ≡ None

-- no broken store is told
abbrev pub NotDown : Acted → Type 0
NotDown (acted.Fault fault.Down) = ⊥
NotDown other = Unit {0}

-- a call that was answered so came out so, and any other changed nothing in the records
abbrev pub Leads : ℕ → ℕ → View → Cause → Acted → Standing → Type 0
Leads members me view cause (acted.Sent letters) t = (o : Outcome) × Course members me view cause (Ok o) × (letters.items ≡ o.letters) × (t ≡ Running o.view)
Leads members me view cause other t = (content_of t ≡ view.content) × IsSure t

-- the same of what was asked
abbrev pub Effect : ℕ → ℕ → View → Request → Acted → Standing → Type 0
Effect members me view request.Lead given t = Leads members me view AskedToLead given t
Effect members me view (request.Offer value) given t = Leads members me view (Offered value) given t
Effect members me view (request.Letter letter) given t = Leads members me view (Received letter) given t
Effect members me view (request.Tell to place) given t = Leads members me view (AskedToTell to place) given t
Effect members me view (request.Release now) given t = (content_of t ≡ view.content) × IsSure t

-- a fault leaves the content, and no doubt
quietly : (view : View) (m : Move) (s : Standing) → IsSure s → content_of s ≡ view.content → m ≡ quiet s → (content_of m.standing ≡ view.content) × IsSure m.standing
quietly view m s sure same is = (ap (λ (x : Move). content_of x.standing) is ∙ same, subst (λ (x : Move). IsSure x.standing) (sym is) sure)

fails_quietly : (view : View) (IsCourse : Result Outcome NodeFault → Type 0) (f : NodeFault) (m : Move) → Fails view IsCourse f m → NotDown (acted.Fault f) → (content_of m.standing ≡ view.content) × IsSure m.standing
fails_quietly view IsCourse fault.OutOfMemory m is awake = quietly view m (Stopped view.content None) refl refl is
fails_quietly view IsCourse fault.StoreRefused m is awake = quietly view m (Stopped view.content None) refl refl is
fails_quietly view IsCourse fault.Down m is awake = absurd awake
fails_quietly view IsCourse fault.NotLeading m is awake = quietly view m (Running view) tt refl is.1
fails_quietly view IsCourse fault.LogFull m is awake = quietly view m (Running view) tt refl is.1
fails_quietly view IsCourse fault.RoundsSpent m is awake = quietly view m (Running view) tt refl is.1
fails_quietly view IsCourse fault.ValueTooLong m is awake = quietly view m (Running view) tt refl is.1

call_ends : (members me : ℕ) (view : View) (cause : Cause) (given : Acted) (m : Move) → Ends view (Course members me view cause) (told given) m → m.letters ≡ letters_of given → NotDown given → Leads members me view cause given m.standing
call_ends members me view cause (acted.Sent letters) m (o, course, count, is) same awake = (o, course, sym same ∙ ap (λ (x : Move). x.letters) is, ap (λ (x : Move). x.standing) is)
call_ends members me view cause (acted.Fault f) m fails same awake = fails_quietly view (Course members me view cause) f m fails awake
call_ends members me view cause (acted.Released outputs) m none same awake = absurd none
call_ends members me view cause acted.Finished m none same awake = absurd none
call_ends members me view cause (acted.Refused refusal) m none same awake = absurd none

release_ends : (view : View) (now : ℕ) (given : Acted) (m : Move) → Releases view now (told given) m → NotDown given → (content_of m.standing ≡ view.content) × IsSure m.standing
release_ends view now (acted.Released outputs) m (count, is) awake = (ap (λ (x : Move). content_of x.standing) is, subst (λ (x : Move). IsSure x.standing) (sym is) tt)
release_ends view now (acted.Fault f) m fails awake = fails_quietly view (λ course. course ≡ Ok (nothing (released_all view))) f m fails awake
release_ends view now (acted.Sent letters) m none awake = absurd none
release_ends view now acted.Finished m none awake = absurd none
release_ends view now (acted.Refused refusal) m none awake = absurd none

effect : (members me : ℕ) (view : View) (asked : Request) (given : Acted) (m : Move) → Moves members me (Running view) (asked_of asked) (told given) m → m.letters ≡ letters_of given → NotDown given
    → Effect members me view asked given m.standing
effect members me view request.Lead given m moves same awake = call_ends members me view AskedToLead given m moves.1 same awake
effect members me view (request.Offer value) given m moves same awake = call_ends members me view (Offered value) given m moves.1 same awake
effect members me view (request.Letter letter) given m moves same awake = call_ends members me view (Received letter) given m moves.1 same awake
effect members me view (request.Tell to place) given m moves same awake = call_ends members me view (AskedToTell to place) given m moves.1 same awake
effect members me view (request.Release now) given m moves same awake = release_ends view now given m moves awake

leads_surely : (members me : ℕ) (view : View) (cause : Cause) (given : Acted) (t : Standing) → Leads members me view cause given t → IsSure t
leads_surely members me view cause (acted.Sent letters) t (o, course, same, is) = subst IsSure (sym is) tt
leads_surely members me view cause (acted.Fault f) t (same, sure) = sure
leads_surely members me view cause (acted.Released outputs) t (same, sure) = sure
leads_surely members me view cause acted.Finished t (same, sure) = sure
leads_surely members me view cause (acted.Refused refusal) t (same, sure) = sure

-- no doubt is left
pub surely : (members me : ℕ) (view : View) (asked : Request) (given : Acted) (t : Standing) → Effect members me view asked given t → IsSure t
surely members me view request.Lead given t did = leads_surely members me view AskedToLead given t did
surely members me view (request.Offer value) given t did = leads_surely members me view (Offered value) given t did
surely members me view (request.Letter letter) given t did = leads_surely members me view (Received letter) given t did
surely members me view (request.Tell to place) given t did = leads_surely members me view (AskedToTell to place) given t did
surely members me view (request.Release now) given t did = did.1

module _ {N : Type 0} {g : Nodes N} (parts : N → Parts Content) (plain : IsPlain g parts) where
  abbrev pub memory : Seat N g → Content
  memory seat = (parts (node_of seat)).records

  pub view_is : (n : N) (view : View) → g.stands n (Running view) → view.content ≡ (parts n).records
  view_is n view stands = sym ((plain.stands n (Running view) stands).2.1 (parts n).records refl)

  by_flag : (up : Bool) (n : N) (s : Standing) → Shown up (g.stands n) s → IsSure s → content_of s ≡ (parts n).records
  by_flag true n s (may, view, is) sure = ap content_of is ∙ view_is n view (subst (g.stands n) is may)
  by_flag false n s (Running view, may, is) sure = ap content_of is ∙ view_is n view may
  by_flag false n s (Stopped c doubt, may, is) sure =
      let none : doubt ≡ None = subst IsSure is sure in
      let here : ((parts n).records ≡ c) ⊎ ((parts n).records ≡ after_write c doubt) = (plain.stands n (Stopped c doubt) may).1 (parts n).records refl in
      ap content_of is ∙ either here none
    where
      either : ((parts n).records ≡ c) ⊎ ((parts n).records ≡ after_write c doubt) → doubt ≡ None → c ≡ (parts n).records
      either (inl same) none = sym same
      either (inr other) none = sym (other ∙ ap (λ (w : Option Write). after_write c w) none)

  -- where it stands without a doubt, it has its records' content
  pub known : (seat : Seat N g) (s : Standing) → Stands seat s → IsSure s → content_of s ≡ memory seat
  known seat s stands sure = by_flag (is_up seat) (node_of seat) s stands sure

  -- so it stands while it is up
  abbrev pub view_of : Seat N g → View
  view_of seat = view_over (parts (node_of seat)) (memory seat)

  pub is_awake : (seat : Seat N g) → is_up seat ≡ true → (parts (node_of seat)).is_down ≡ false
  is_awake seat up = ap (λ (w : Who). w.down) (sym (plain.who (node_of seat))) ∙ seat.runs up

  pub stands_up : (seat : Seat N g) → is_up seat ≡ true → Stands seat (Running (view_of seat))
  stands_up seat up =
      subst (λ (b : Bool). Shown b (g.stands (node_of seat)) (Running (view_of seat))) (sym up)
      (plain.stood (node_of seat) (Running (view_of seat)) (is_awake seat up, refl, (∣ refl ∣₁, λ d is. is)), view_of seat, refl)

  -- its store doesn't fail
  never_down : (a b : Seat N g) → is_up a ≡ true → TellsStore {T = Unit {0}} (who_of a) (Err fault.Down) (who_of b) → ⊥
  never_down a b up (inl (failed, broken)) = let no : false ≡ true = sym (ap (λ (w : Who). w.broken) (plain.who (node_of b))) ∙ broken in cc
  never_down a b up (inr (down, served)) = let no : false ≡ true = sym (a.runs up) ∙ down in cc

  not_down : (a b : Seat N g) → is_up a ≡ true → (asked : Request) (given : Acted) → TellsStoreOf (told given) (asked_of asked) (who_of a) (who_of b) → NotDown given
  not_down a b up request.Lead (acted.Fault fault.Down) tells = never_down a b up tells
  not_down a b up (request.Offer value) (acted.Fault fault.Down) tells = never_down a b up tells
  not_down a b up (request.Release now) (acted.Fault fault.Down) tells = never_down a b up tells
  not_down a b up (request.Letter letter) (acted.Fault fault.Down) tells = never_down a b up tells
  not_down a b up (request.Tell to place) (acted.Fault fault.Down) tells = never_down a b up tells
  not_down a b up asked (acted.Fault fault.NotLeading) tells = tt
  not_down a b up asked (acted.Fault fault.LogFull) tells = tt
  not_down a b up asked (acted.Fault fault.RoundsSpent) tells = tt
  not_down a b up asked (acted.Fault fault.ValueTooLong) tells = tt
  not_down a b up asked (acted.Fault fault.OutOfMemory) tells = tt
  not_down a b up asked (acted.Fault fault.StoreRefused) tells = tt
  not_down a b up asked (acted.Sent letters) tells = tt
  not_down a b up asked (acted.Released outputs) tells = tt
  not_down a b up asked acted.Finished tells = tt
  not_down a b up asked (acted.Refused refusal) tells = tt

  -- one that is up does what it is asked, and stands as the answer says
  pub moved : (a b : Seat N g) (asked : Request) (given : Acted) → is_up a ≡ true → DoesAsAsked a asked given b → (view : View) → Stands a (Running view)
      → (m : Move) × Moves (who_of a).members (who_of a).id (Running view) (asked_of asked) (told given) m × (m.letters ≡ letters_of given) × (m.outputs ≡ outputs_of given)
      × Stands b m.standing × Effect (who_of a).members (who_of a).id view asked given m.standing
  moved a b asked given up does view stands =
      let goes = does.moves (plain.honest (node_of b)) (Running view) stands in
      (goes.0, goes.1, goes.2, goes.3, goes.4, effect (who_of a).members (who_of a).id view asked given goes.0 goes.1 goes.2 (not_down a b up asked given does.tells))
