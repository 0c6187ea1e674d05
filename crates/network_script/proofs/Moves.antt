-- Each event of a run keeps the invariant, and moves the world in one of few ways.
use Rattle.std.proofs.Common.{◌∙◌, ap, ◌≡◌, ◌⊎◌, inl, inr, ⊎_elim, ℕ, ◌<◌, max, not, ◌&&◌, nat_lt, ◌==◌, List, ◌++◌}
use Rattle.std.proofs.Common.{drop, refl, sym, subst, Option, Some, None, Result, Ok, Err, slice_get, slice_set}
use Rattle.std.proofs.lemmas.Bool.{cond_both, and_parts, ltb-true}
use Rattle.ballots.specs.declared.letters.Note.{Note}
use Rattle.ballots.specs.declared.letters.Letter.{Letter}
use Rattle.ballots.specs.declared.letters.Note.TheVariants.{Prepare, Promise, Accept, Voted, Higher, Known}
use Rattle.ballots.specs.Voting.{Entry, IsIn}
use Rattle.ballots.specs.Rows.{at}
use Rattle.acceptor.specs.Content.{Content, Write, after_write, record_write}
use Rattle.command_log.specs.Values.{outputs_of_values}
use Rattle.node.specs.View.{View, Standing, gapless, started}
use Rattle.node.specs.Calls.Cause.{Lead as AskedToLead, Offer as Offered, Receive as Received, Tell as AskedToTell}
use Rattle.node.specs.View.Standing.{Running, Stopped}
use Rattle.proposer.specs.declared.fault.NodeFault.{NodeFault as Fault}
use Rattle.proposer.specs.declared.fault.NodeFault.TheVariants as fault
use Rattle.node.specs.Step.{Outcome, nothing, is_heeded, is_sound, heed, receive, offer, tell, Leads}
use Rattle.world_events.specs.declared.event.Event.{Event}
use Rattle.world_events.specs.declared.event.Event.TheVariants as event
use Rattle.seats.specs.declared.answer.Answer.{Answer}
use Rattle.seats.specs.declared.answer.Answer.TheVariants as answer
use Rattle.seats.specs.declared.answer.ReleasedOutput.{ReleasedOutput}
use Rattle.map_release.specs.Released.{numbered, has_ended}
use Rattle.seats.specs.Release.{released, released_all}
use Rattle.network_script.specs.World.{Written, released_by}
use Rattle.seats.specs.Modems.{ModemNext, sent_at}
use Rattle.seats.specs.Moves.{Ask, Move, quiet, lost, Fails, Ends, EndsInCrash, Releases, Starts, MovesUp, MovesDown}
use Rattle.seats.specs.Moves.Ask.{Call, TakeThenCrash, Release as ReleaseAt, Crash as CrashNow, Restart as StartAgain}
use Rattle.network_script.specs.Next.{after, OfNode, Comes, OnModems, Next}
use Rattle.network_script.proofs.After.{after_quiet, after_same, after_write_alone, after_lost, after_whole}
use Rattle.network_script.proofs.After.{after_gives}
use Rattle.network_script.proofs.Invariant.{IsProposed, WriteOk, UpOk, DownOk, LetterOk, Invariant}
use Rattle.network_script.proofs.Lists.{in_left, in_append, in_filter, get_in}
use Rattle.network_script.proofs.Kept.{goes_quietly}
use Rattle.network_script.proofs.Sound.{Sound, whole_kept, lost_kept, broken_kept, restarted_kept}
use Rattle.network_script.proofs.Acceptors.{nothing_sound, prepare_sound, accept_sound, known_sound, tell_sound}
use Rattle.network_script.proofs.Learners.{voted_sound, higher_sound}
use Rattle.network_script.proofs.Proposers.{promise_sound, SoundIfOk, offer_sound, lead_sound}
use Rattle.network_script.proofs.Outputs.{FromChosen, learned_chosen, in_drop, in_numbered, in_released_by}
use Rattle.network_script.proofs.Outputs.{written_keeps}

-- the letter that is taken, if one is
abbrev taken : Ask → Option Letter
taken (Call (Received l)) = Some l
taken (TakeThenCrash l) = Some l
taken other = None

module _ (members : ℕ) (h : List Entry) (sent : List Letter) (states : List Standing) (k : ℕ) (view : View) (inv : Invariant members h sent states) (here : slice_get states k ≡ Some (Running view)) where
  was : UpOk members h sent k view
  was = inv.nodes k (Running view) here

  heed_sound : (from : ℕ) (note : Note) → from < members → LetterOk members h from note → ((b p : ℕ) (v : List ℕ) → note ≡ Accept b p v → IsProposed sent b p v) → Sound members h sent k view (heed members k view from note)
  heed_sound from (Prepare b q) member ok proposed = prepare_sound members h sent states k view inv here b q from
  heed_sound from (Promise b q votes) member ok proposed = promise_sound members h sent states k view inv here view.role b q votes from was.role was.own member ok
  heed_sound from (Accept b p v) member ok proposed = accept_sound members h sent states k view inv here b p v from (proposed b p v refl)
  heed_sound from (Voted b p v) member ok proposed = voted_sound members h sent states k view inv here (at view.tally.learned p) b p v from ok
  heed_sound from (Higher b) member ok proposed = higher_sound members h sent states k view inv here b (max view.hint b) view.role was.role was.own
  heed_sound from (Known p v) member ok proposed = known_sound members h sent states k view inv here (at view.tally.learned p) p v ok

  -- any sent letter may come
  receive_sound : (l : Letter) → IsIn sent l → Sound members h sent k view (receive members k view l)
  receive_sound l sent_it =
      cond_both (is_heeded members k l) (heed members k view l.from l.note) (nothing view) (λ o. Sound members h sent k view o)
      (λ heeded.
      let x = and_parts (nat_lt l.from members && nat_lt l.to members && l.to == k) (is_sound l l.note) heeded in
      let y = and_parts (nat_lt l.from members && nat_lt l.to members) (l.to == k) x.0 in
      let z = and_parts (nat_lt l.from members) (nat_lt l.to members) y.0 in
      heed_sound l.from l.note (ltb-true l.from members z.0) (inv.letters l sent_it) (λ b p v is. (l, sent_it, is)))
      (λ no. nothing_sound members h sent states k view inv here)

  leads_sound : (course : Result Outcome Fault) → Leads members k view course → SoundIfOk members h sent states k view inv here course
  leads_sound (Ok o) leads = subst (λ (x : Outcome). Sound members h sent k view x) (sym leads.1.2) (lead_sound members h sent states k view inv here leads.1.0 leads.1.1)
  leads_sound (Err fault) leads = tt

-- the event keeps the invariant; the history and the outputs only grow, what is newly released is from chosen values, and the modems go on by it or stay
pub record Moved (members : ℕ) (w : Written) (happens : Event) (told : Answer) (w' : Written) : Type 0 where
  pub fine : Invariant members w'.history w'.letters w'.nodes
  pub keeps : (e : Entry) → IsIn w.history e → IsIn w'.history e
  pub stays : (x : ReleasedOutput) → IsIn w.outputs x → IsIn w'.outputs x
  pub fresh : (x : ReleasedOutput) → IsIn w'.outputs x → IsIn w.outputs x ⊎ FromChosen members w'.history x
  pub modems : ((w'.modems ≡ w.modems) × (w'.transmissions ≡ w.transmissions)) ⊎ (ModemNext w.modems w.outputs happens told w'.modems × (w'.transmissions ≡ w.transmissions ++ sent_at happens told))

module _ (members : ℕ) (w : Written) (inv : Invariant members w.history w.letters w.nodes) (happens : Event) where
  -- what the event may do, whatever is answered
  abbrev Moves : Answer → Written → Type 0
  Moves told w' = Moved members w happens told w'

  -- the nodes, the letters and the history change, and nothing else
  on_nodes : (told : Answer) (nodes : List Standing) (letters : List Letter) (k : ℕ) (write : Option Write) → Invariant members (record_write k write w.history) letters nodes
      → Moves told (record w { nodes = nodes; letters = letters; history = record_write k write w.history })
  on_nodes told nodes letters k write fine = record { fine = fine; keeps = written_keeps k write w.history; stays = λ x here. here; fresh = λ x here. inl here; modems = inl (refl, refl) }

  same : (told : Answer) (w' : Written) → w' ≡ w → Moves told w'
  same told w' is = subst (Moves told) (sym is) (on_nodes told w.nodes w.letters 0 None inv)

  module _ (k : ℕ) (view : View) (here : slice_get w.nodes k ≡ Some (Running view)) where
    -- a call that is whole does what keeps the invariant
    abbrev AreSound : (Result Outcome Fault → Type 0) → Type 0
    AreSound IsCourse = (o : Outcome) → IsCourse (Ok o) → Sound members w.history w.letters k view o

    broken : (told : Answer) (write : Option Write) → WriteOk members w.history w.letters view.content write → (w' : Written) → w' ≡ record w { nodes = slice_set w.nodes k (Stopped view.content write) } → Moves told w'
    broken told write fine w' is = subst (Moves told) (sym is) (on_nodes told _ w.letters k None (broken_kept members w.history w.letters w.nodes k view inv here write fine))

    lost_moves : (told : Answer) (o : Outcome) → Sound members w.history w.letters k view o → (w' : Written)
        → w' ≡ record w { nodes = slice_set w.nodes k (Stopped o.view.content None); history = record_write k o.write w.history } → Moves told w'
    lost_moves told o sound w' is = subst (Moves told) (sym is) (on_nodes told _ w.letters k o.write (lost_kept members w.history w.letters w.nodes k view inv here o sound))

    whole_moves : (told : Answer) (o : Outcome) → Sound members w.history w.letters k view o → (w' : Written)
        → w' ≡ record w { nodes = slice_set w.nodes k (Running o.view); letters = w.letters ++ o.letters; history = record_write k o.write w.history } → Moves told w'
    whole_moves told o sound w' is = subst (Moves told) (sym is) (on_nodes told _ (w.letters ++ o.letters) k o.write (whole_kept members w.history w.letters w.nodes k view inv here o sound))

    -- the node moved so
    abbrev Made : Answer → Move → Type 0
    Made told m = Moves told (after w k m)

    crashes : (told : Answer) (m : Move) → m ≡ quiet (Stopped view.content None) → Made told m
    crashes told m is = broken told None tt (after w k m) (ap (after w k) is ∙ after_quiet w k (Stopped view.content None))

    stays : (told : Answer) (m : Move) → m ≡ quiet (Running view) → Made told m
    stays told m is = same told (after w k m) (ap (after w k) is ∙ after_same w k (Running view) here)

    loses : (told : Answer) (o : Outcome) → Sound members w.history w.letters k view o → (m : Move) → m ≡ lost o → Made told m
    loses told o sound m is = lost_moves told o sound (after w k m) (ap (after w k) is ∙ after_lost w k o)

    fails : (IsCourse : Result Outcome Fault → Type 0) → AreSound IsCourse → (told : Answer) (f : Fault) (m : Move) → Fails view IsCourse f m → Made told m
    fails IsCourse sound told fault.OutOfMemory m is = crashes told m is
    fails IsCourse sound told fault.StoreRefused m is = crashes told m is
    fails IsCourse sound told fault.Down m (inl is) = crashes told m is
    fails IsCourse sound told fault.Down m (inr is) =
        broken told is.0.write (sound is.0 is.1).write (after w k m) (ap (after w k) is.2 ∙ after_quiet w k (Stopped view.content is.0.write))
    fails IsCourse sound told declined m is = stays told m is.1

    ends : (IsCourse : Result Outcome Fault → Type 0) → AreSound IsCourse → (told : Answer) (m : Move) → Ends view IsCourse told m → Made told m
    ends IsCourse sound (answer.Sent n) m is = whole_moves _ is.0 (sound is.0 is.1) (after w k m) (ap (after w k) is.3 ∙ after_whole w k is.0)
    ends IsCourse sound answer.Crashed m is = loses _ is.0 (sound is.0 is.1) m is.3
    ends IsCourse sound (answer.Fault f) m is = fails IsCourse sound (answer.Fault f) f m is
    ends IsCourse sound other m is = absurd is

    ends_in_crash : (IsCourse : Result Outcome Fault → Type 0) → AreSound IsCourse → (told : Answer) (m : Move) → EndsInCrash view IsCourse told m → Made told m
    ends_in_crash IsCourse sound answer.Finished m is = loses _ is.0 (sound is.0 is.1) m is.2
    ends_in_crash IsCourse sound (answer.Fault f) m is = fails IsCourse sound (answer.Fault f) f m is
    ends_in_crash IsCourse sound other m is = absurd is

    view_was : UpOk members w.history w.letters k view
    view_was = inv.nodes k (Running view) here

    -- a view whose cursor has moved
    releases_sound : Sound members w.history w.letters k view (nothing (released_all view))
    releases_sound =
        let s = nothing_sound members w.history w.letters w.nodes k view inv here in
        record { write = s.write; content = s.content; letters = s.letters; role = s.role; own = s.own; counted = s.counted; learned = s.learned; written = s.written }

    given_from : (now : ℕ) (x : ReleasedOutput) → IsIn (released_by k (released view now)) x → FromChosen members w.history x
    given_from now x new =
        let item = in_released_by k (released view now) x new in
        let kept = (in_filter (λ y. not (has_ended now y.output)) (drop view.cursor (numbered 1 (outputs_of_values (gapless view)))) x.numbered item).0 in
        (gapless view, learned_chosen members w.history view view_was.learned, in_numbered 1 (outputs_of_values (gapless view)) x.numbered (in_drop view.cursor (numbered 1 (outputs_of_values (gapless view))) x.numbered kept))

    gives : (now : ℕ) (told : Answer) (w' : Written) → w' ≡ record w { nodes = slice_set w.nodes k (Running (released_all view)); outputs = w.outputs ++ released_by k (released view now) } → Moves told w'
    gives now told w' is = subst (Moves told) (sym is) record {
      fine = goes_quietly members w.history w.letters w.nodes k (Running view) inv here None (Running (released_all view)) tt
          record { content = view_was.content; own = view_was.own; role = view_was.role; counted = view_was.counted; learned = view_was.learned; written = view_was.written };
      keeps = λ e there. there;
      stays = λ x there. in_left w.outputs (released_by k (released view now)) x there;
      fresh = λ x there. ⊎_elim (λ old. inl old) (λ new. inr (given_from now x new)) (in_append w.outputs (released_by k (released view now)) x there);
      modems = inl (refl, refl);
    }

    releases : (now : ℕ) (told : Answer) (m : Move) → Releases view now told m → Made told m
    releases now (answer.Released n) m is = gives now _ (after w k m) (ap (after w k) is.1 ∙ after_gives w k view now)
    releases now answer.Crashed m is = crashes _ m is.1
    releases now (answer.Fault f) m is =
        fails (λ course. course ≡ Ok (nothing (released_all view))) (λ o course. let e : o ≡ nothing (released_all view) = cc (course) in subst (λ (x : Outcome). Sound members w.history w.letters k view x) (sym e) releases_sound) (answer.Fault f) f m is
    releases now other m is = absurd is

    receives : (l : Letter) → IsIn w.letters l → AreSound (λ course. course ≡ Ok (receive members k view l))
    receives l sent_it o course =
        let e : o ≡ receive members k view l = cc (course) in
        subst (λ (x : Outcome). Sound members w.history w.letters k view x) (sym e) (receive_sound members w.history w.letters w.nodes k view inv here l sent_it)

    offers : (value : List ℕ) → AreSound (λ course. course ≡ offer members k view view.role value)
    offers value o course =
        subst (λ (c : Result Outcome Fault). SoundIfOk members w.history w.letters w.nodes k view inv here c) (sym course)
        (offer_sound members w.history w.letters w.nodes k view inv here view.role value view_was.role view_was.own)

    tells : (to place : ℕ) → AreSound (λ course. course ≡ Ok (tell members k view to place))
    tells to place o course =
        let e : o ≡ tell members k view to place = cc (course) in
        subst (λ (x : Outcome). Sound members w.history w.letters k view x) (sym e) (tell_sound members w.history w.letters w.nodes k view inv here to place)

    leads : AreSound (Leads members k view)
    leads o course = leads_sound members w.history w.letters w.nodes k view inv here (Ok o) course

    -- whatever it is asked, where a letter that it takes was sent
    moves_up : (asked : Ask) → ((l : Letter) → taken asked ≡ Some l → IsIn w.letters l) → (told : Answer) (m : Move) → MovesUp members k view asked told m → Made told m
    moves_up (Call AskedToLead) sent_it told m is = ends (Leads members k view) leads told m is.1
    moves_up (Call (Offered value)) sent_it told m is = ends (λ course. course ≡ offer members k view view.role value) (offers value) told m is.1
    moves_up (Call (AskedToTell to place)) sent_it told m is = ends (λ course. course ≡ Ok (tell members k view to place)) (tells to place) told m is.1
    moves_up (Call (Received l)) sent_it told m is = ends (λ course. course ≡ Ok (receive members k view l)) (receives l (sent_it l refl)) told m is.1
    moves_up (TakeThenCrash l) sent_it told m is = ends_in_crash (λ course. course ≡ Ok (receive members k view l)) (receives l (sent_it l refl)) told m is
    moves_up (ReleaseAt now) sent_it told m is = releases now told m is
    moves_up CrashNow sent_it told m is = crashes told m is.1
    moves_up StartAgain sent_it told m is = stays told m is.1

  module _ (k : ℕ) (c : Content) (doubt : Option Write) (here : slice_get w.nodes k ≡ Some (Stopped c doubt)) where
    stays_down : (told : Answer) (m : Move) → m ≡ quiet (Stopped c doubt) → Moves told (after w k m)
    stays_down told m is = same told (after w k m) (ap (after w k) is ∙ after_same w k (Stopped c doubt) here)

    starts : (told : Answer) (m : Move) → Starts c doubt told m → Moves told (after w k m)
    starts answer.Finished m (inl without) =
        subst (Moves _) (sym (ap (after w k) without ∙ after_quiet w k (Running (started c))))
        (on_nodes _ _ w.letters k None (restarted_kept members w.history w.letters w.nodes k c doubt None inv here tt))
    starts answer.Finished m (inr with_it) =
        let ok : DownOk members w.history w.letters k c doubt = inv.nodes k (Stopped c doubt) here in
        subst (Moves _) (sym (ap (after w k) with_it ∙ after_write_alone w k (Running (started (after_write c doubt))) doubt))
        (on_nodes _ _ w.letters k doubt (restarted_kept members w.history w.letters w.nodes k c doubt doubt inv here ok.doubt))
    starts (answer.Fault f) m failed = stays_down _ m failed.1
    starts other m none = absurd none

    moves_down : (asked : Ask) (told : Answer) (m : Move) → MovesDown c doubt asked told m → Moves told (after w k m)
    moves_down StartAgain told m is = starts told m is
    moves_down other told m is = stays_down told m is.1

  of_node : (k : ℕ) (asked : Ask) → ((l : Letter) → taken asked ≡ Some l → IsIn w.letters l) → (told : Answer) (w' : Written)
      → (there : Option Standing) → slice_get w.nodes k ≡ there → OfNode members w k there asked told w' → Moves told w'
  of_node k asked sent_it told w' None is unmoved = same told w' unmoved.1
  of_node k asked sent_it told w' (Some (Stopped c doubt)) is moved = subst (Moves told) (sym moved.2) (moves_down k c doubt is asked told moved.0 moved.1)
  of_node k asked sent_it told w' (Some (Running view)) is moved = subst (Moves told) (sym moved.2) (moves_up k view is asked sent_it told moved.0 moved.1)

  comes : (i : ℕ) (takes : Letter → Ask) → ((l x : Letter) → taken (takes l) ≡ Some x → x ≡ l) → (told : Answer) (w' : Written)
      → (letter : Option Letter) → slice_get w.letters i ≡ letter → Comes members w letter takes told w' → Moves told w'
  comes i takes its told w' None is unmoved = same told w' unmoved.1
  comes i takes its told w' (Some l) is goes =
      of_node l.to (takes l) (λ x is_taken. subst (IsIn w.letters) (sym (its l x is_taken)) (get_in w.letters i l is)) told w' (slice_get w.nodes l.to) refl goes

  on_modems : (told : Answer) (w' : Written) → OnModems w happens told w' → Moves told w'
  on_modems told w' is = subst (Moves told) (sym is.2) record { fine = inv; keeps = λ e here. here; stays = λ x here. here; fresh = λ x here. inl here; modems = inr (is.1, refl) }

pub next_moves : (members : ℕ) (w : Written) → Invariant members w.history w.letters w.nodes → (happens : Event) (told : Answer) (w' : Written) → Next members w happens told w' → Moved members w happens told w'
next_moves members w inv (event.Lead k) told w' goes = of_node members w inv (event.Lead k) k _ (λ l is. absurd (cc (is))) told w' (slice_get w.nodes k) refl goes
next_moves members w inv (event.Offer k value) told w' goes = of_node members w inv (event.Offer k value) k _ (λ l is. absurd (cc (is))) told w' (slice_get w.nodes k) refl goes
next_moves members w inv (event.Tell k to place) told w' goes = of_node members w inv (event.Tell k to place) k _ (λ l is. absurd (cc (is))) told w' (slice_get w.nodes k) refl goes
next_moves members w inv (event.Deliver i) told w' goes =
    comes members w inv (event.Deliver i) i _ (λ l x is. cc (is)) told w' (slice_get w.letters i) refl goes
next_moves members w inv (event.DeliverThenCrash i) told w' goes =
    comes members w inv (event.DeliverThenCrash i) i _ (λ l x is. cc (is)) told w' (slice_get w.letters i) refl goes
next_moves members w inv (event.Crash k) told w' goes = of_node members w inv (event.Crash k) k _ (λ l is. absurd (cc (is))) told w' (slice_get w.nodes k) refl goes
next_moves members w inv (event.Restart k) told w' goes = of_node members w inv (event.Restart k) k _ (λ l is. absurd (cc (is))) told w' (slice_get w.nodes k) refl goes
next_moves members w inv (event.Release k now) told w' goes = of_node members w inv (event.Release k now) k _ (λ l is. absurd (cc (is))) told w' (slice_get w.nodes k) refl goes
next_moves members w inv of_modem told w' goes = on_modems members w inv of_modem told w' goes
