-- Each event can be answered: the computed run of a script in which nothing fails is a run.
use Rattle.std.proofs.Common.{◌≡◌, ◌⊎◌, inl, inr, ℕ, ◌+◌, ◌-◌, ◌*◌, ◌/◌, ◌%◌, ◌^◌, ◌<◌, ◌≤◌, max, nat_lt, nat_le, List}
use Rattle.std.proofs.Common.{[], ◌++◌, length, if◌then◌else◌, refl, sym, ◌∙◌, ap, arith, append-nil, Option, Some}
use Rattle.std.proofs.Common.{None, Result, Ok, Err, slice_get}
use Rattle.std.proofs.lemmas.Bool.{cond_both, ltb-true, ltb-false, leb-true, leb-false}
use Rattle.std.proofs.lemmas.Option.{slice_get_within}
use Rattle.ballots.specs.Ballots.{IsBallotOf, IsLeastAbove, NoneAbove}
use Rattle.ballots.specs.declared.letters.Letter.{Letter}
use Rattle.acceptor.specs.Content.{Content, Write}
use Rattle.node.specs.View.{View, Standing, gapless, started}
use Rattle.node.specs.View.Standing.{Running, Stopped}
use Rattle.proposer.specs.declared.fault.NodeFault.{NodeFault as Fault}
use Rattle.proposer.specs.declared.fault.NodeFault.TheVariants as fault
use Rattle.node.specs.Calls.Cause.{Lead as AskedToLead, Offer as Offered, Receive as Received, Tell as AskedToTell}
use Rattle.ballots.specs.Limits.{longest_value, most_places}
use Rattle.node.specs.Step.{Outcome, receive, offer, tell, limit, sends, to_all, Leads}
use Rattle.proposer.specs.declared.role.Role.{Role}
use Rattle.proposer.specs.declared.role.Role.TheVariants.{Idle, Preparing, Leading}
use Rattle.ballots.specs.declared.letters.Note.TheVariants.{Accept}
use Rattle.world_events.specs.declared.event.Event.TheVariants as event
use Rattle.seats.specs.declared.answer.Answer.{Answer}
use Rattle.seats.specs.declared.answer.Answer.TheVariants as answer
use Rattle.world_events.specs.declared.refusal.EventRefusal.TheVariants as refusal
use Rattle.seats.specs.declared.answer.Transmission.{Transmission}
use Rattle.network_script.specs.World.{Written}
use Rattle.seats.specs.Receiver.{Receiver}
use Rattle.seats.specs.Modems.{OfModem}
use Rattle.seats.specs.Moves.{Ask, Move, quiet, whole, lost, gives, Fails, Ends, IsToldLast, MovesUp, Moves}
use Rattle.seats.specs.Moves.Ask.{Call, TakeThenCrash, Release as ReleaseAt, Crash, Restart}
use Rattle.network_script.specs.Next.{OfNode, after, Next}
use Rattle.network_script.proofs.After.{after_same}
use Rattle.network_script.specs.Plain as plain
use Rattle.network_script.specs.Plain.{least_ballot, lead_at, lead, act, EachIsAnswered}

-- what is told of the least ballot
abbrev IsToldLeast : ℕ → ℕ → Option ℕ → Type 0
IsToldLeast above node None = NoneAbove above node
IsToldLeast above node (Some b) = IsLeastAbove above node b

above_least : (above node round : ℕ) → node < 8 → round ≡ max 1 ((above + 8 - node) / 8) → above < round * 8 + node
above_least above node round small is = omega arith

least_least : (above node round c : ℕ) → node < 8 → round ≡ max 1 ((above + 8 - node) / 8) → 8 ≤ c → c % 8 ≡ node → above < c → round * 8 + node ≤ c
least_least above node round c small is from node_is higher = omega arith

least_ballot_tells : (above node : ℕ) → node < 8 → IsToldLeast above node (least_ballot above node)
least_ballot_tells above node small =
    cond_both (nat_lt round (2 ^ 40)) (Some (round * 8 + node)) None (λ o. IsToldLeast above node o)
    (λ less. let low : round < 2 ^ 40 = ltb-true round (2 ^ 40) less in
    ((omega arith, omega arith, omega arith), above_least above node round small refl, λ c of_node higher. least_least above node round c small refl of_node.0 of_node.2 higher))
    (λ no c of_node. let high : 2 ^ 40 ≤ round = ltb-false round (2 ^ 40) no in none c of_node high (le_or_above c above))
  where
    round : ℕ
    round = max 1 ((above + 8 - node) / 8)

    le_or_above : (a b : ℕ) → (a ≤ b) ⊎ (b < a)
    le_or_above a b = grind arith

    none : (c : ℕ) → IsBallotOf node c → 2 ^ 40 ≤ round → (c ≤ above) ⊎ (above < c) → c ≤ above
    none c of_node high (inl le) = le
    none c of_node high (inr higher) = let least : round * 8 + node ≤ c = least_least above node round c small refl of_node.0 of_node.2 higher in absurd (omega (arith, of_node.1))

leads_so : (members k : ℕ) (view : View) (o : Option ℕ) → length (gapless view) < most_places → IsToldLeast (limit view) k o → Leads members k view (lead_at members k view o)
leads_so members k view None room told = inr (refl, room, told)
leads_so members k view (Some b) room told = (room, (b, told, refl))

lead_leads : (members k : ℕ) (view : View) → k < 8 → Leads members k view (lead members k view)
lead_leads members k view small =
    cond_both (nat_le most_places (length (gapless view))) (Err fault.LogFull) (lead_at members k view (least_ballot (limit view) k)) (λ course. Leads members k view course) (λ full. inl (refl, leb-true most_places (length (gapless view)) full))
    (λ room. leads_so members k view (least_ballot (limit view) k) (leb-false most_places (length (gapless view)) room) (least_ballot_tells (limit view) k small))

-- node k may move so, and the world is then this one
abbrev Comes : (Answer → Move → Type 0) → Written → ℕ → Answer → Written → Type 0
Comes May w k told w' = (m : Move) × May told m × (w' ≡ after w k m)

module _ (w : Written) (k : ℕ) (view : View) (here : slice_get w.nodes k ≡ Some (Running view)) where
  stays_so : w ≡ after w k (quiet (Running view))
  stays_so = sym (after_same w k (Running view) here)

  fails_so : (IsCourse : Result Outcome Fault → Type 0) (f : Fault) → IsCourse (Err f) → Comes (λ told. Fails view IsCourse f) w k (answer.Fault f) (plain.after_fault w k view f)
  fails_so IsCourse fault.OutOfMemory is = (quiet (Stopped view.content None), refl, refl)
  fails_so IsCourse fault.StoreRefused is = (quiet (Stopped view.content None), refl, refl)
  fails_so IsCourse fault.Down is = (quiet (Stopped view.content None), inl refl, refl)
  fails_so IsCourse declined is = (quiet (Running view), (is, refl), stays_so)

  ends_so : (IsCourse : Result Outcome Fault → Type 0) (course : Result Outcome Fault) → IsCourse course → Comes (Ends view IsCourse) w k (plain.ends w k view course).0 (plain.ends w k view course).1
  ends_so IsCourse (Ok o) is = (whole o, (o, is, refl, refl), refl)
  ends_so IsCourse (Err f) is = fails_so IsCourse f is

asks_so : (members : ℕ) (w : Written) (k : ℕ) (asked : Ask) (go : View → Answer × Written) (there : Option Standing) → slice_get w.nodes k ≡ there
    → ((c : Content) (doubt : Option Write) → Moves members k (Stopped c doubt) asked (answer.Refused refusal.NodeDown) (quiet (Stopped c doubt)))
    → ((view : View) → slice_get w.nodes k ≡ Some (Running view) → Comes (MovesUp members k view asked) w k (go view).0 (go view).1)
    → OfNode members w k there asked (plain.asks w there go).0 (plain.asks w there go).1
asks_so members w k asked go None at down up = (refl, refl)
asks_so members w k asked go (Some (Stopped c doubt)) at down up = (quiet (Stopped c doubt), down c doubt, sym (after_same w k (Stopped c doubt) at))
asks_so members w k asked go (Some (Running view)) at down up = up view at

restarts_so : (members : ℕ) (w : Written) (k : ℕ) (there : Option Standing) → slice_get w.nodes k ≡ there → OfNode members w k there Restart (plain.restarts w k there).0 (plain.restarts w k there).1
restarts_so members w k None at = (refl, refl)
restarts_so members w k (Some (Running view)) at = (quiet (Running view), (refl, refl), sym (after_same w k (Running view) at))
restarts_so members w k (Some (Stopped c doubt)) at = (quiet (Running (started c)), inl refl, refl)

module _ (members : ℕ) (w : Written) where
  takes_so : (i : ℕ) (letter : Option Letter) → slice_get w.letters i ≡ letter → Next members w (event.Deliver i) (act members w (event.Deliver i)).0 (act members w (event.Deliver i)).1
  takes_so i None is = rw is (refl, refl)
  takes_so i (Some l) is = rw is (asks_so members w l.to (Call (Received l)) _ (slice_get w.nodes l.to) refl (λ c doubt. (refl, refl)) (λ view here.
      let made = ends_so w l.to view here (λ course. course ≡ Ok (receive members l.to view l)) (Ok (receive members l.to view l)) refl in
      (made.0, (tt, made.1), made.2)))

  takes_then_crashes_so : (i : ℕ) (letter : Option Letter) → slice_get w.letters i ≡ letter → Next members w (event.DeliverThenCrash i) (act members w (event.DeliverThenCrash i)).0 (act members w (event.DeliverThenCrash i)).1
  takes_then_crashes_so i None is = rw is (refl, refl)
  takes_then_crashes_so i (Some l) is = rw is (asks_so members w l.to (TakeThenCrash l) _ (slice_get w.nodes l.to) refl (λ c doubt. (refl, refl)) (λ view here.
      (lost (receive members l.to view l), (receive members l.to view l, refl, refl), refl)))

no_modems_so : (modems : List Receiver) (m : ℕ) (Does : Receiver → Answer → Receiver → Type 0) → modems ≡ [] → OfModem modems m (slice_get modems m) Does (answer.Refused refusal.NoModem) modems
no_modems_so modems m Does none = rw none (refl, refl)

same_world : (w : Written) (more : List Transmission) → more ≡ [] → w ≡ record w { modems = w.modems; transmissions = w.transmissions ++ more }
same_world w more none = λ i. record w { transmissions = (sym (append-nil w.transmissions) ∙ ap (λ (ts : List Transmission). w.transmissions ++ ts) (sym none)) i }

-- a call that is computed isn't told to lack memory or a store
lead_told : (w : Written) (k : ℕ) (view : View) → IsToldLast (length w.nodes) k view AskedToLead (plain.ends w k view (lead (length w.nodes) k view)).0
lead_told w k view =
    cond_both (nat_le most_places (length (gapless view))) (Err fault.LogFull) (lead_at (length w.nodes) k view (least_ballot (limit view) k))
    (λ course. IsToldLast (length w.nodes) k view AskedToLead (plain.ends w k view course).0)
    (λ full stop. absurd stop) (λ room. tries (least_ballot (limit view) k))
  where
    tries : (o : Option ℕ) → IsToldLast (length w.nodes) k view AskedToLead (plain.ends w k view (lead_at (length w.nodes) k view o)).0
    tries None = λ stop. absurd stop
    tries (Some b) = tt

offer_told : (w : Written) (k : ℕ) (view : View) (role : Role) (value : List ℕ) → view.role ≡ role → IsToldLast (length w.nodes) k view (Offered value) (plain.ends w k view (offer (length w.nodes) k view role value)).0
offer_told w k view Idle value is = λ stop. absurd stop
offer_told w k view (Preparing b q counted joined) value is = λ stop. absurd stop
offer_told w k view (Leading b next) value is =
    cond_both (nat_lt longest_value (length value)) (Err fault.ValueTooLong) (if nat_lt most_places next then Err fault.LogFull else Ok whole) Told
    (λ long stop. absurd stop)
    (λ short. cond_both (nat_lt most_places next) (Err fault.LogFull) (Ok whole) Told (λ full stop. absurd stop) (λ room. tt))
  where
    whole : Outcome
    whole = sends (record view { role = Leading b (next + 1) }) (to_all (length w.nodes) k (Accept b next value))

    Told : Result Outcome Fault → Type 0
    Told course = IsToldLast (length w.nodes) k view (Offered value) (plain.ends w k view course).0

pub each_is_answered : EachIsAnswered
each_is_answered w (event.Lead k) few none =
    asks_so (length w.nodes) w k (Call AskedToLead) _ (slice_get w.nodes k) refl (λ c doubt. (refl, refl)) (λ view here.
    let small : k < 8 = (let within : k < length w.nodes = slice_get_within w.nodes k (Running view) here in omega arith) in
    let made = ends_so w k view here (Leads (length w.nodes) k view) (lead (length w.nodes) k view) (lead_leads (length w.nodes) k view small) in
    (made.0, (lead_told w k view, made.1), made.2))
each_is_answered w (event.Offer k value) few none =
    asks_so (length w.nodes) w k (Call (Offered value)) _ (slice_get w.nodes k) refl (λ c doubt. (refl, refl)) (λ view here.
    let made = ends_so w k view here (λ course. course ≡ offer (length w.nodes) k view view.role value) (offer (length w.nodes) k view view.role value) refl in
    (made.0, (offer_told w k view view.role value refl, made.1), made.2))
each_is_answered w (event.Tell k to place) few none =
    asks_so (length w.nodes) w k (Call (AskedToTell to place)) _ (slice_get w.nodes k) refl (λ c doubt. (refl, refl)) (λ view here.
    let made = ends_so w k view here (λ course. course ≡ Ok (tell (length w.nodes) k view to place)) (Ok (tell (length w.nodes) k view to place)) refl in
    (made.0, (tt, made.1), made.2))
each_is_answered w (event.Deliver i) few none = takes_so (length w.nodes) w i (slice_get w.letters i) refl
each_is_answered w (event.DeliverThenCrash i) few none = takes_then_crashes_so (length w.nodes) w i (slice_get w.letters i) refl
each_is_answered w (event.Crash k) few none =
    asks_so (length w.nodes) w k Crash _ (slice_get w.nodes k) refl (λ c doubt. (refl, refl)) (λ view here. (quiet (Stopped view.content None), (refl, refl), refl))
each_is_answered w (event.Restart k) few none = restarts_so (length w.nodes) w k (slice_get w.nodes k) refl
each_is_answered w (event.Release k now) few none =
    asks_so (length w.nodes) w k (ReleaseAt now) _ (slice_get w.nodes k) refl (λ c doubt. (refl, refl)) (λ view here. (gives view now, (refl, refl), refl))
each_is_answered w of_modem few none = (w.modems, no_modems_so w.modems _ _ none, same_world w [] refl)
