-- What a call of a node is, as its seat shows it.
use Rattle.std.proofs.Common.{◌≡◌, ◌<◌, ◌≤◌, inl, inr, ⊎_elim, ℕ, ◌+◌, List, [], length, None, Option, Ok, Err, Result}
use Rattle.std.proofs.Common.{Bool, true, false, IsTrue, Vec, is_ok, nat_lt, if◌then◌else◌, refl, sym, ap, ◌∙◌, subst}
use Rattle.std.proofs.Common.{arith}
use Rattle.std.specs.Prelude.{◌↔◌, IfErr, IfOk, IsOk, IsOkAnd, OnErr, OnOk}
use Rattle.std.specs.declared.alloc.Global.{Global}
use Rattle.std.proofs.lemmas.Bool.{cond_both, false≢true}
use Rattle.ballots.specs.Ballots.{NoneAbove}
use Rattle.ballots.specs.Limits.{longest_value, most_places}
use Rattle.ballots.specs.declared.letters.Letter.{Letter}
use Rattle.ballots.specs.declared.letters.Note.TheVariants.{Accept}
use Rattle.acceptor.specs.Calls.{KeepsTrust}
use Rattle.acceptor.specs.Content.{Content, Write, after_write}
use Rattle.acceptor.specs.Faults.{HasRisen}
use Rattle.map_release.specs.declared.numbered.Numbered.{Numbered}
use Rattle.node.specs.declared.node.Node.{Ghosts}
use Rattle.node.specs.View.{View, Standing, started, values_from}
use Rattle.node.specs.View.Standing.{Running, Stopped}
use Rattle.node.specs.Calls.{Called, Cause, Course, CallEnds, IsNothingNew, IsStop, Kept, KeptByRestart, MayGoOn}
use Rattle.node.specs.Calls.{Restarts, StopsLast, StoreFails, TakesTurn, Who, answer}
use Rattle.node.specs.Calls.Cause.{Lead as AskedToLead, Receive as Received}
use Rattle.node.specs.Releases.{Releases, outputs, released_all}
use Rattle.node.specs.Step.{Outcome, is_heeded, nothing}
use Rattle.proposer.specs.Faults.{IsOfOffer}
use Rattle.proposer.specs.Letters.{to_all}
use Rattle.proposer.specs.Turns.{Turn, offer}
use Rattle.proposer.specs.declared.role.Role.{Role}
use Rattle.proposer.specs.declared.role.Role.TheVariants.{Idle, Preparing, Leading}
use Rattle.proposer.specs.declared.fault.NodeFault.{NodeFault}
use Rattle.proposer.specs.declared.fault.NodeFault.TheVariants.{NotLeading, LogFull, RoundsSpent, ValueTooLong}
use Rattle.proposer.specs.declared.fault.NodeFault.TheVariants.{OutOfMemory, StoreRefused, Down}
use Rattle.seats.specs.Acted.{ask_of, come_of, letters_of, outputs_of, told}
use Rattle.seats.specs.Acts.{Acts, AnswersDown, GoOut, GoesTo, KeepsRest, MayAnswer, MayFail, MovesBy, TellsStoreOf}
use Rattle.seats.specs.Moves.{Ask, Move, Moves, Fails, gives, lost, quiet, whole}
use Rattle.seats.specs.Moves.Ask.{Call, TakeThenCrash, Release, Crash, Restart}
use Rattle.seats.specs.Occupant.{Stands}
use Rattle.seats.specs.Owes.{Outside, Owes, TakesOffer, TellsLetters, outside}
use Rattle.seats.specs.Seat.{Shown, crashed, stays_up, survives}
use Rattle.seats.specs.StoreFaults.{is_store_fault}
use Rattle.seats.specs.declared.acted.Acted.TheVariants as acted
use Rattle.seats.specs.declared.acted.Asked.{Asked}
use Rattle.seats.specs.declared.acted.Asked.TheVariants as asked
use Rattle.seats.specs.declared.answer.Answer.{Answer}
use Rattle.seats.specs.declared.answer.Answer.TheVariants.{Sent, Finished, Refused, Fault}
use Rattle.seats.specs.declared.seat.Seat.{Seat}
use Rattle.world_events.specs.declared.refusal.EventRefusal.TheVariants.{NodeDown, NodeUp}

-- a node doesn't survive want of memory, and a store that failed
stop_falls : (failed : NodeFault) → IsStop failed → survives failed ≡ false
stop_falls OutOfMemory stop = refl
stop_falls StoreRefused stop = refl
stop_falls Down stop = refl
stop_falls declined stop = absurd stop

-- a fault of a call of a node that runs
fails : (view : View) (IsCourse : Result Outcome NodeFault → Type 0) (failed : NodeFault) (may : Standing → Type 0) (t : Standing)
    → CallEnds IsCourse view (Err failed) t → may t
    → (m : Move) × Fails view IsCourse failed m × (m.letters ≡ []) × (m.outputs ≡ []) × Shown (survives failed) may m.standing
fails view IsCourse OutOfMemory may t is at = (quiet (Stopped view.content None), refl, refl, refl, (t, at, sym (ap crashed is)))
fails view IsCourse StoreRefused may t is at = (quiet (Stopped view.content None), refl, refl, refl, (t, at, sym (ap crashed is)))
fails view IsCourse Down may t (inl is) at = (quiet (Stopped view.content None), inl refl, refl, refl, (t, at, sym (ap crashed is)))
fails view IsCourse Down may t (inr (o, course, is)) at = (quiet (Stopped view.content o.write), inr (o, course, refl), refl, refl, (t, at, sym (ap crashed is)))
fails view IsCourse declined may t ends at = (quiet (Running view), (ends.0, refl), refl, refl, (subst may ends.1 at, view, refl))

-- the same of a call that writes nothing
store_ends : (view : View) (IsCourse : Result Outcome NodeFault → Type 0) (failed : NodeFault) (t : Standing) → StoreFails view failed t → CallEnds IsCourse view (Err failed) t
store_ends view IsCourse OutOfMemory t is = is
store_ends view IsCourse StoreRefused t is = is
store_ends view IsCourse Down t is = inl is
store_ends view IsCourse declined t is = absurd is

-- a call whose letters go out
called : (members me : ℕ) (view : View) (cause : Cause) (may : Standing → Type 0) (given : Result (Vec Letter Global) NodeFault) (t : Standing)
    → CallEnds (Course members me view cause) view (answer given) t → StopsLast members me view cause (answer given) → may t
    → GoesTo members me (Running view) (Call cause) (told (come_of acted.Sent given)) (letters_of (come_of acted.Sent given)) (outputs_of (come_of acted.Sent given)) (Shown (stays_up given) may)
called members me view cause may (Ok letters) t (o, course, same, is) last at = (whole o, (tt, (o, course, ap length same, refl)), sym same, refl, (subst may is at, o.view, refl))
called members me view cause may (Err failed) t ends last at =
    let r = fails view (Course members me view cause) failed may t ends at in
    (r.0, (last, r.1), r.2, r.3, r.4)

-- one whose letters are thrown away, and after which it crashes
called_last : (members me : ℕ) (view : View) (l : Letter) (may : Standing → Type 0) (given : Result (Vec Letter Global) NodeFault) (t : Standing)
    → CallEnds (Course members me view (Received l)) view (answer given) t → IfErr given IsStop → may t
    → GoesTo members me (Running view) (TakeThenCrash l) (told (come_of (λ letters. acted.Finished) given)) (letters_of (come_of (λ letters. acted.Finished) given)) (outputs_of (come_of (λ letters. acted.Finished) given)) (Shown false may)
called_last members me view l may (Ok letters) t (o, course, same, is) stop at = (lost o, (o, course, refl), refl, refl, (t, at, sym (ap crashed is)))
called_last members me view l may (Err failed) t ends stop at =
    let r = fails view (Course members me view (Received l)) failed may t ends at in
    (r.0, r.1, r.2, r.3, subst (λ (up : Bool). Shown up may r.0.standing) (stop_falls failed stop) r.4)

-- a release
gave : (members me now : ℕ) (view : View) (may : Standing → Type 0) (given : Result (Vec Numbered Global) NodeFault) (t : Standing)
    → Releases (Running view) now (outputs given) t → may t
    → GoesTo members me (Running view) (Release now) (told (come_of acted.Released given)) (letters_of (come_of acted.Released given)) (outputs_of (come_of acted.Released given)) (Shown (stays_up given) may)
gave members me now view may (Ok released) t (same, is) at = (gives view now, (ap length same, refl), refl, sym same, (subst may is at, released_all view, refl))
gave members me now view may (Err failed) t ends at =
    let course : Result Outcome NodeFault → Type 0 = λ made. made ≡ Ok (nothing (released_all view)) in
    fails view course failed may t (store_ends view course failed t ends) at

-- a restart that failed left the node down as it was
failed_stops : (s : Standing) (failed : NodeFault) (t : Standing) → Restarts s (Err failed) t → IsStop failed × (crashed s ≡ crashed t)
failed_stops (Running view) OutOfMemory t failed = (tt, sym (ap crashed failed))
failed_stops (Running view) StoreRefused t failed = (tt, sym (ap crashed failed))
failed_stops (Running view) Down t failed = (tt, sym (ap crashed failed))
failed_stops (Running view) declined t failed = absurd failed
failed_stops (Stopped c doubt) fault t failed = (failed.0, sym (ap crashed failed.1))

starts : (members me : ℕ) (s : Standing) (may : Standing → Type 0) (given : Result (Unit {0}) NodeFault) (t : Standing)
    → Restarts s given t → may t
    → GoesTo members me (crashed s) Restart (told (come_of (λ done. acted.Finished) given)) (letters_of (come_of (λ done. acted.Finished) given)) (outputs_of (come_of (λ done. acted.Finished) given)) (Shown (is_ok given) may)
starts members me (Running view) may (Ok done) t is at = (quiet (Running (started view.content)), inl refl, refl, refl, (subst may is at, started view.content, refl))
starts members me (Stopped c doubt) may (Ok done) t (inl is) at = (quiet (Running (started c)), inl refl, refl, refl, (subst may is at, started c, refl))
starts members me (Stopped c doubt) may (Ok done) t (inr is) at =
    (record { standing = Running (started (after_write c doubt)); letters = []; outputs = []; write = doubt }, inr refl, refl, refl, (subst may is at, started (after_write c doubt), refl))
starts members me (Running view) may (Err fault) t failed at =
    let stop = failed_stops (Running view) fault t failed in
    (quiet (Stopped view.content None), (stop.0, refl), refl, refl, (t, at, stop.1))
starts members me (Stopped c doubt) may (Err fault) t failed at =
    let stop = failed_stops (Stopped c doubt) fault t failed in
    (quiet (Stopped c doubt), (stop.0, refl), refl, refl, (t, at, stop.1))

-- a fault of the store of a node that was up comes only where its count rose
err_rose : (T : Type 0) (old new : Who) (failed : NodeFault) → old.down ≡ false → Kept {T = T} old (Err failed) new → is_store_fault (Fault failed) ≡ true → HasRisen old.failures new.failures
err_rose T old new StoreRefused up kept loud = kept.3.0
err_rose T old new Down up kept loud = ⊎_elim (λ failed. failed.0) (λ was. absurd (false≢true (sym up ∙ was.0))) kept.3
err_rose T old new declined up kept loud = absurd (false≢true loud)

restart_rose : (old new : Who) (failed : NodeFault) → KeptByRestart {T = Unit {0}} old (Err failed) new → is_store_fault (Fault failed) ≡ true → HasRisen old.failures new.failures
restart_rose old new StoreRefused kept loud = kept.3.0
restart_rose old new Down kept loud = kept.3.0
restart_rose old new declined kept loud = absurd (false≢true loud)

-- what a node tells of its store
err_tells : (T : Type 0) (ask : Ask) (old new : Who) (failed : NodeFault) → (ask ≡ Restart → ⊥) → Kept {T = T} old (Err failed) new → TellsStoreOf (Fault failed) ask old new
err_tells T Restart old new failed other kept = absurd (other refl)
err_tells T ask old new StoreRefused other kept = kept.3
err_tells T ask old new Down other kept = kept.3
err_tells T ask old new declined other kept = kept.3

-- an offer fails as its proposer's turn says
pub turn_fails : (members me : ℕ) (role : Role) (value : List ℕ) (given : Result (Vec Letter Global) NodeFault) → TakesTurn (offer members me role value) (answer given) → IfErr given IsOfOffer
turn_fails members me role value (Ok letters) turn = tt
turn_fails members me Idle value (Err failed) turn = let same : failed ≡ NotLeading = cc in subst IsOfOffer (sym same) tt
turn_fails members me (Preparing b q counted joined) value (Err failed) turn = let same : failed ≡ NotLeading = cc in subst IsOfOffer (sym same) tt
turn_fails members me (Leading b next) value (Err failed) turn =
    cond_both (nat_lt longest_value (length value)) (Err ValueTooLong) (if nat_lt most_places next then Err LogFull else Ok taken) Told
    (λ long. told_is ValueTooLong tt)
    (λ short. cond_both (nat_lt most_places next) (Err LogFull) (Ok taken) Told (λ full. told_is LogFull tt) (λ room turned. subst IsOfOffer (sym turned) tt))
    turn
  where
    taken : Turn
    taken = record { role = Leading b (next + 1); letters = to_all members me (Accept b next value) }

    Told : Result Turn NodeFault → Type 0
    Told result = TakesTurn result (Err failed) → IsOfOffer failed

    told_is : (declined : NodeFault) → IsOfOffer declined → Told (Err declined)
    told_is declined of_offer turned = let same : failed ≡ declined = cc in subst IsOfOffer (sym same) of_offer

-- what a node that is up owes of a letter, as the node's call tells it
pub owes_letter : (members me : ℕ) (was : Outside) (l : Letter) (given : Result (Vec Letter Global) NodeFault)
    → (is_heeded members me l ≡ false → IsOkAnd given (λ letters. letters.items ≡ [])) → (IsNothingNew was.role was.values l.from l.note → IsOk given)
    → Owes members me was (Call (Received l)) (told (come_of acted.Sent given)) (letters_of (come_of acted.Sent given))
    × Owes members me was (TakeThenCrash l) (told (come_of (λ letters. acted.Finished) given)) (letters_of (come_of (λ letters. acted.Finished) given))
owes_letter members me was l (Ok letters) passed new = ((λ over. ap (λ (ls : List Letter). Sent (length ls)) (passed over), λ nothing. tt), (λ over. refl, λ nothing. tt))
owes_letter members me was l (Err failed) passed new = ((λ over. absurd (passed over), λ nothing. absurd (false≢true (new nothing))), (λ over. absurd (passed over), λ nothing. absurd (false≢true (new nothing))))

same_fault : {T : Type 0} (f g : NodeFault) (r : Result T NodeFault) → r ≡ Err f → r ≡ Err g → f ≡ g
same_fault f g r is also = cc

-- of a lead
pub owes_lead : (members me : ℕ) (was : Outside) (given : Result (Vec Letter Global) NodeFault)
    → (given ≡ Err LogFull ↔ most_places ≤ length (values_from 1 was.values)) → (length (values_from 1 was.values) < most_places → NoneAbove was.rest.hint me → given ≡ Err RoundsSpent)
    → Owes members me was (Call AskedToLead) (told (come_of acted.Sent given)) (letters_of (come_of acted.Sent given))
owes_lead members me was (Ok letters) full heard = ((λ is. cc, λ past. cc_of (full.1 past)), λ room none. cc_of (heard room none))
  where
    cc_of : {A : Type 0} {failed : NodeFault} → Ok letters ≡ Err failed → A
    cc_of is = cc
owes_lead members me was (Err failed) full heard = (
  (λ is. full.0 (ap (λ (f : NodeFault). Err f) (same is)), λ past. ap (λ (f : NodeFault). Fault f) (same_fault failed LogFull (Err failed) refl (full.1 past))),
  λ room none. ap (λ (f : NodeFault). Fault f) (same_fault failed RoundsSpent (Err failed) refl (heard room none)),
)
  where
    same : Fault failed ≡ Fault LogFull → failed ≡ LogFull
    same is = cc

-- of an offer
pub owes_offer : (turn : Result Turn NodeFault) (given : Result (Vec Letter Global) NodeFault) → TakesTurn turn (answer given) → TakesOffer turn (told (come_of acted.Sent given)) (letters_of (come_of acted.Sent given))
owes_offer (Ok turn) (Ok letters) took = took
owes_offer (Ok turn) (Err failed) took = took
owes_offer (Err declined) (Ok letters) took = cc
owes_offer (Err declined) (Err failed) took = cc

-- of what it is to tell
pub owes_tell : (said : List Letter) (given : Result (Vec Letter Global) NodeFault) → IfOk given (λ letters. letters.items ≡ said) → (said ≡ [] → IsOk given) → TellsLetters said (told (come_of acted.Sent given)) (letters_of (come_of acted.Sent given))
owes_tell said (Ok letters) same some = same
owes_tell said (Err failed) same some = λ none. absurd (false≢true (some none))

-- nothing declines the call
pub goes_on_last : (members me : ℕ) (view : View) (cause : Cause) (given : Result (List Letter) NodeFault) → MayGoOn members me view cause → StopsLast members me view cause given
goes_on_last members me view cause (Ok letters) goes = tt
goes_on_last members me view cause (Err failed) goes = λ stop. goes

-- where nothing changed, nothing beside the records did
same_rest : (reply : Answer) (rest : View) → KeepsRest reply rest rest
same_rest (Fault failed) rest = refl
same_rest (Refused refusal) rest = refl
same_rest reply rest = tt

-- a node that stays as it is keeps its trust
pub same_trust : {N : Type 0} (honest clean : N → Bool) (node : N) → KeepsTrust honest clean node node
same_trust honest clean node = record { honest = λ was. was; clean = λ was. was; sure = λ is was. was }

-- and what it has beside its records
pub same_err : (rest : View) (given : Result (Vec Letter Global) NodeFault) → OnErr given (rest ≡ rest)
same_err rest (Ok letters) = tt
same_err rest (Err failed) = refl

module _ {N : Type 0} {g : Ghosts N} (old : Seat N g) where
  -- where a node that is up may stand
  runs_at : (s : Standing) → old.up ≡ true → Stands old s → (view : View) × (s ≡ Running view) × g.stands old.node (Running view)
  runs_at s up shown =
      let was = subst (λ (b : Bool). Shown b (g.stands old.node) s) up shown in
      (was.1, was.2, subst (g.stands old.node) was.2 was.0)

  -- nothing changed
  still : (ask : Ask) (reply : Answer) (up : Bool) → old.up ≡ up → is_store_fault reply ≡ false → GoOut reply [] [] → MayAnswer up ask reply up → (up ≡ true → Owes (g.who old.node).members (g.who old.node).id (outside old) ask reply [])
      → TellsStoreOf reply ask (g.who old.node) (g.who old.node)
      → ((s : Standing) → Shown up (g.stands old.node) s → Moves (g.who old.node).members (g.who old.node).id s ask reply (quiet s)) → Acts old ask reply [] [] old
  still ask reply up is quiet_answer none may owes tells moves = record {
    same = (refl, refl);
    grows = omega arith;
    tells = tells;
    rose = λ loud. absurd (false≢true (sym quiet_answer ∙ loud));
    honesty = λ honest. honest;
    trust = record { honest = λ honest. honest; clean = λ clean. clean; sure = λ clean honest. honest };
    answers = record { may = subst (λ (b : Bool). MayAnswer b ask reply b) (sym is) may; goes_out = none; owes = λ on. owes (sym is ∙ on); rest = same_rest reply (g.rest old.node) };
    moves = λ honest s shown. (quiet s, moves s (subst (λ (b : Bool). Shown b (g.stands old.node) s) is shown), refl, refl, shown);
  }

  -- a restart of a node that is up
  pub stays_up_so : old.up ≡ true → Acts old Restart (Refused NodeUp) [] [] old
  stays_up_so up = still Restart (Refused NodeUp) true up refl (refl, refl) refl (λ on. tt) (refl, refl) (λ s shown. subst (λ (x : Standing). Moves (g.who old.node).members (g.who old.node).id x Restart (Refused NodeUp) (quiet x)) (sym shown.2) (refl, refl))

  -- a node that crashed takes nothing but a restart
  stays_down : (ask : Ask) → old.up ≡ false → AnswersDown ask (Refused NodeDown) false → TellsStoreOf (Refused NodeDown) ask (g.who old.node) (g.who old.node)
      → ((c : Content) (doubt : Option Write) → Moves (g.who old.node).members (g.who old.node).id (Stopped c doubt) ask (Refused NodeDown) (quiet (Stopped c doubt))) → Acts old ask (Refused NodeDown) [] [] old
  stays_down ask down may tells moves = still ask (Refused NodeDown) false down refl (refl, refl) may (λ on. absurd (false≢true on)) tells (λ s shown.
      let there = stopped shown.0 in
      subst (λ (x : Standing). Moves (g.who old.node).members (g.who old.node).id x ask (Refused NodeDown) (quiet x)) (sym (shown.2 ∙ there.2)) (moves there.0 there.1))
    where
      stopped : (s : Standing) → (c : Content) × (doubt : Option Write) × (crashed s ≡ Stopped c doubt)
      stopped (Running view) = (view.content, None, refl)
      stopped (Stopped c doubt) = (c, doubt, refl)

  pub refuses : (what : Asked) → (what ≡ asked.Restart → ⊥) → old.up ≡ false → Acts old (ask_of what) (Refused NodeDown) [] [] old
  refuses asked.Restart other down = absurd (other refl)
  refuses what other down = stays_down (ask_of what) down refl (refl, refl) (λ c doubt. (refl, refl))

  -- a crash
  pub crashes : (runs : false ≡ true → (g.who old.node).down ≡ false) → old.up ≡ true → Acts old Crash Finished [] [] (record { node = old.node; up = false; runs = runs })
  crashes runs up = record {
    same = (refl, refl);
    grows = omega arith;
    tells = (refl, refl);
    rose = λ loud. absurd (false≢true loud);
    honesty = λ honest. honest;
    trust = record { honest = λ honest. honest; clean = λ clean. clean; sure = λ clean honest. honest };
    answers = record { may = subst (λ (b : Bool). MayAnswer b Crash Finished false) (sym up) refl; goes_out = (refl, refl); owes = λ on. tt; rest = tt };
    moves = λ honest s shown.
        let at = runs_at s up shown in
        (quiet (Stopped at.0.content None), subst (λ (x : Standing). Moves (g.who old.node).members (g.who old.node).id x Crash Finished (quiet (Stopped at.0.content None))) (sym at.1) (refl, refl), refl, refl, (Running at.0, at.2, refl));
  }

  -- a call of a node that is up
  built : (new : Seat N g) (ask : Ask) (answer : Answer) (letters : List Letter) (outs : List Numbered) (b : Bool) {T : Type 0} (given : Result T NodeFault) (Ends : Standing → Standing → Type 0) → old.up ≡ true → new.up ≡ b
      → KeepsTrust g.honest g.clean old.node new.node → Kept (g.who old.node) given (g.who new.node)
      → TellsStoreOf answer ask (g.who old.node) (g.who new.node) → (is_store_fault answer ≡ true → HasRisen (g.who old.node).failures (g.who new.node).failures)
      → MayAnswer true ask answer new.up → GoOut answer letters outs → Owes (g.who old.node).members (g.who old.node).id (outside old) ask answer letters → KeepsRest answer (g.rest old.node) (g.rest new.node)
      → (IsTrue (g.honest new.node) → (s : Standing) → g.stands old.node s → (t : Standing) × Ends s t × g.stands new.node t)
      → (IsTrue (g.honest new.node) → (view : View) → g.stands old.node (Running view) → (t : Standing) → Ends (Running view) t → g.stands new.node t → GoesTo (g.who old.node).members (g.who old.node).id (Running view) ask answer letters outs (Shown b (g.stands new.node)))
      → Acts old ask answer letters outs new
  built new ask answer letters outs b given Ends up turned trust kept tells rose may out owes rest done goes = record {
    same = (kept.0, kept.1);
    grows = kept.2;
    tells = tells;
    rose = rose;
    honesty = trust.honest;
    trust = trust;
    answers = record { may = subst (λ (was : Bool). MayAnswer was ask answer new.up) (sym up) may; goes_out = out; owes = λ on. owes; rest = rest };
    moves = λ honest s shown.
        let at = runs_at s up shown in
        let one = done honest (Running at.0) at.2 in
        subst (λ (x : Standing). GoesTo (g.who old.node).members (g.who old.node).id x ask answer letters outs (Stands new)) (sym at.1)
        (subst (λ (now : Bool). GoesTo (g.who old.node).members (g.who old.node).id (Running at.0) ask answer letters outs (Shown now (g.stands new.node))) (sym turned) (goes honest at.0 at.2 one.0 one.1 one.2));
  }

  -- one whose letters go out
  pub calls : (new : Seat N g) (cause : Cause) (given : Result (Vec Letter Global) NodeFault) → old.up ≡ true → new.up ≡ stays_up given
      → KeepsTrust g.honest g.clean old.node new.node → OnErr given (g.rest new.node ≡ g.rest old.node) → Kept (g.who old.node) given (g.who new.node) → IfErr given (MayFail cause)
      → Owes (g.who old.node).members (g.who old.node).id (outside old) (Call cause) (told (come_of acted.Sent given)) (letters_of (come_of acted.Sent given))
      → (IsTrue (g.honest new.node) → (s : Standing) → g.stands old.node s → (t : Standing) × Called (g.who old.node).members (g.who old.node).id s cause (answer given) t × g.stands new.node t)
      → (IsTrue (g.honest new.node) → (view : View) → g.stands old.node (Running view) → StopsLast (g.who old.node).members (g.who old.node).id view cause (answer given))
      → Acts old (Call cause) (told (come_of acted.Sent given)) (letters_of (come_of acted.Sent given)) (outputs_of (come_of acted.Sent given)) new
  calls new cause (Ok letters) up turned trust rest kept may owes done order = built new (Call cause) _ _ _ true (Ok letters) _ up turned trust kept kept.3 (λ loud. absurd (false≢true loud)) turned (refl, refl) owes tt done
      (λ honest view runs t ends at. called (g.who old.node).members (g.who old.node).id view cause (g.stands new.node) (Ok letters) t ends (order honest view runs) at)
  calls new cause (Err failed) up turned trust rest kept may owes done order = built new (Call cause) _ _ _ (survives failed) {T = Vec Letter Global} (Err failed) _ up turned trust kept
      (err_tells (Vec Letter Global) (Call cause) (g.who old.node) (g.who new.node) failed (λ e. cc) kept) (err_rose (Vec Letter Global) (g.who old.node) (g.who new.node) failed (old.runs up) kept) (may, turned) (refl, refl) owes rest done
      (λ honest view runs t ends at. called (g.who old.node).members (g.who old.node).id view cause (g.stands new.node) (Err failed) t ends (order honest view runs) at)

  -- a letter that is taken before a crash
  pub takes : (new : Seat N g) (l : Letter) (given : Result (Vec Letter Global) NodeFault) → old.up ≡ true → new.up ≡ false
      → KeepsTrust g.honest g.clean old.node new.node → OnErr given (g.rest new.node ≡ g.rest old.node) → Kept (g.who old.node) given (g.who new.node) → IfErr given IsStop
      → Owes (g.who old.node).members (g.who old.node).id (outside old) (TakeThenCrash l) (told (come_of (λ letters. acted.Finished) given)) (letters_of (come_of (λ letters. acted.Finished) given))
      → (IsTrue (g.honest new.node) → (s : Standing) → g.stands old.node s → (t : Standing) × Called (g.who old.node).members (g.who old.node).id s (Received l) (answer given) t × g.stands new.node t)
      → Acts old (TakeThenCrash l) (told (come_of (λ letters. acted.Finished) given)) (letters_of (come_of (λ letters. acted.Finished) given)) (outputs_of (come_of (λ letters. acted.Finished) given)) new
  takes new l (Ok letters) up turned trust rest kept stop owes done = built new (TakeThenCrash l) _ _ _ false (Ok letters) _ up turned trust kept kept.3 (λ loud. absurd (false≢true loud)) turned (refl, refl) owes tt done
      (λ honest view runs t ends at. called_last (g.who old.node).members (g.who old.node).id view l (g.stands new.node) (Ok letters) t ends stop at)
  takes new l (Err failed) up turned trust rest kept stop owes done = built new (TakeThenCrash l) _ _ _ false {T = Vec Letter Global} (Err failed) _ up turned trust kept
      (err_tells (Vec Letter Global) (TakeThenCrash l) (g.who old.node) (g.who new.node) failed (λ e. cc) kept) (err_rose (Vec Letter Global) (g.who old.node) (g.who new.node) failed (old.runs up) kept) (stop, turned) (refl, refl) owes rest done
      (λ honest view runs t ends at. called_last (g.who old.node).members (g.who old.node).id view l (g.stands new.node) (Err failed) t ends stop at)

  -- a release
  pub releases : (new : Seat N g) (now : ℕ) (given : Result (Vec Numbered Global) NodeFault) → old.up ≡ true → new.up ≡ stays_up given
      → KeepsTrust g.honest g.clean old.node new.node → OnErr given (g.rest new.node ≡ g.rest old.node) → Kept (g.who old.node) given (g.who new.node) → IfErr given IsStop
      → (IsTrue (g.honest new.node) → (s : Standing) → g.stands old.node s → (t : Standing) × Releases s now (outputs given) t × g.stands new.node t)
      → Acts old (Release now) (told (come_of acted.Released given)) (letters_of (come_of acted.Released given)) (outputs_of (come_of acted.Released given)) new
  releases new now (Ok released) up turned trust rest kept stop done = built new (Release now) _ _ _ true (Ok released) _ up turned trust kept kept.3 (λ loud. absurd (false≢true loud)) turned (refl, refl) tt tt done
      (λ honest view runs t ends at. gave (g.who old.node).members (g.who old.node).id now view (g.stands new.node) (Ok released) t ends at)
  releases new now (Err failed) up turned trust rest kept stop done = built new (Release now) _ _ _ (survives failed) {T = Vec Numbered Global} (Err failed) _ up turned trust kept
      (err_tells (Vec Numbered Global) (Release now) (g.who old.node) (g.who new.node) failed (λ e. cc) kept) (err_rose (Vec Numbered Global) (g.who old.node) (g.who new.node) failed (old.runs up) kept) (stop, turned ∙ stop_falls failed stop) (refl, refl) tt rest done
      (λ honest view runs t ends at. gave (g.who old.node).members (g.who old.node).id now view (g.stands new.node) (Err failed) t ends at)

  -- a restart of a node that crashed
  rises : (new : Seat N g) (given : Result (Unit {0}) NodeFault) → old.up ≡ false → new.up ≡ is_ok given
      → (IsTrue (g.honest new.node) → (s : Standing) → g.stands old.node s → (t : Standing) × Restarts s given t × g.stands new.node t)
      → IsTrue (g.honest new.node) → MovesBy (g.who old.node).members (g.who old.node).id (Stands old) Restart (told (come_of (λ done. acted.Finished) given)) (letters_of (come_of (λ done. acted.Finished) given)) (outputs_of (come_of (λ done. acted.Finished) given)) (Stands new)
  rises new given down turned done honest s shown =
      let was = subst (λ (b : Bool). Shown b (g.stands old.node) s) down shown in
      let one = done honest was.0 was.1 in
      subst (λ (x : Standing). GoesTo (g.who old.node).members (g.who old.node).id x Restart (told (come_of (λ done. acted.Finished) given)) (letters_of (come_of (λ done. acted.Finished) given)) (outputs_of (come_of (λ done. acted.Finished) given)) (Stands new)) (sym was.2)
      (subst (λ (b : Bool). GoesTo (g.who old.node).members (g.who old.node).id (crashed was.0) Restart (told (come_of (λ done. acted.Finished) given)) (letters_of (come_of (λ done. acted.Finished) given)) (outputs_of (come_of (λ done. acted.Finished) given)) (Shown b (g.stands new.node))) (sym turned)
      (starts (g.who old.node).members (g.who old.node).id was.0 (g.stands new.node) given one.0 one.1 one.2))

  pub restarts : (new : Seat N g) (given : Result (Unit {0}) NodeFault) → old.up ≡ false → new.up ≡ is_ok given
      → (IsTrue (g.honest new.node) → IsTrue (g.honest old.node)) → KeepsTrust g.honest g.clean old.node new.node → OnErr given (g.rest new.node ≡ g.rest old.node) → KeptByRestart (g.who old.node) given (g.who new.node) → IfErr given IsStop
      → (IsTrue (g.honest new.node) → (s : Standing) → g.stands old.node s → (t : Standing) × Restarts s given t × g.stands new.node t)
      → Acts old Restart (told (come_of (λ done. acted.Finished) given)) (letters_of (come_of (λ done. acted.Finished) given)) (outputs_of (come_of (λ done. acted.Finished) given)) new
  restarts new (Ok finished) down turned honesty trust rest kept stop done = record {
    same = (kept.0, kept.1);
    grows = kept.2;
    tells = kept.3;
    rose = λ loud. absurd (false≢true loud);
    honesty = honesty;
    trust = trust;
    answers = record { may = subst (λ (b : Bool). MayAnswer b Restart Finished new.up) (sym down) turned; goes_out = (refl, refl); owes = λ on. tt; rest = tt };
    moves = rises new (Ok finished) down turned done;
  }
  restarts new (Err failed) down turned honesty trust rest kept stop done = record {
    same = (kept.0, kept.1);
    grows = kept.2;
    tells = kept.3;
    rose = restart_rose (g.who old.node) (g.who new.node) failed kept;
    honesty = honesty;
    trust = trust;
    answers = record { may = subst (λ (b : Bool). MayAnswer b Restart (Fault failed) new.up) (sym down) (stop, turned); goes_out = (refl, refl); owes = λ on. tt; rest = rest };
    moves = rises new (Err failed) down turned done;
  }
