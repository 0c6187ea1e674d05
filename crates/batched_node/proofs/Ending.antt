-- How a node beside a store ends, and what the store holds then.
use Rattle.std.proofs.Common.{◌≡◌, inl, inr, ℕ, List, [], ◌∷◌, ◌++◌, Bool, true, false, cond, IsTrue, refl, sym, ap, subst, ◌∙◌}
use Rattle.std.proofs.KnownBytes.{Appends-trans}
use Rattle.std.proofs.lemmas.List.{append-nil}
use Rattle.std.proofs.lemmas.List.Sums.{take_while-cons}
use Rattle.std.proofs.lemmas.List.Elements.{All-append}
use Rattle.acceptor.specs.Content.{Content}
use Rattle.acceptor.specs.declared.records.RecordsFault.{RecordsFault}
use Rattle.node.specs.View.{Standing, View}
use Rattle.node.specs.View.Standing.{Running, Stopped}
use Rattle.node.specs.declared.node.Node.{Ghosts as Nodes}
use Rattle.node.specs.declared.parts.Parts.{Parts}
use Rattle.node_lines.specs.Input.{IsLine}
use Rattle.node_lines.specs.declared.writing.Unwritten.{Unwritten}
use Rattle.node_service.specs.Batched.{DoesNoMore, EndsBatchedBy, FailsToTell, ReadsNoMore, ServesBatched, StopsAt}
use Rattle.node_service.specs.Batched.{left_of, replies_in, text_in}
use Rattle.node_service.specs.Texts.{reply_text}
use Rattle.node_service.specs.declared.batches.BatchedEnd.{BatchedEnd}
use Rattle.node_service.specs.declared.batches.BatchedEnd.TheVariants as ends
use Rattle.node_service.specs.declared.keeper.Keeper.{Ghosts as Keepers}
use Rattle.node_service.specs.declared.lines.Lines.{Ghosts as Inputs}
use Rattle.node_service.specs.declared.outbox.Outbox.{Ghosts as Outputs}
use Rattle.node_service.specs.declared.outgoing.Reply.{Reply}
use Rattle.seats.specs.Occupant.{Stands, is_up, node_of, who_of}
use Rattle.seats.specs.Seat.{Shown, crashed}
use Rattle.seats.specs.declared.seat.Seat.{Seat}
use Rattle.std.specs.Io.KnownBytes.{Appends}
use Rattle.std.specs.List.{flat_map}
use Rattle.upsched_node.specs.Serving.{IsDown, IsUp}
use Rattle.batched_node.proofs.Memory.{IsPlain, known, memory}
use Rattle.batched_node.proofs.Running.{IsAt, IsSeated, batched_as, batched_lines, unkept_as, unkept_lines}
use Rattle.kept_node.specs.Noted.{FailsToStore, IsKept, IsLeftBy}
use Rattle.batched_node.specs.Serves.{BatchedRun, IsAllStored, RunsBatched, ServesBatchedAs, content_of}
use Rattle.kept_node.specs.declared.store.WriteStore.{Ghosts as Stores}

shown_up : (up : Bool) (may : Standing → Type 0) (t : Standing) → up ≡ true → Shown up may t → IsUp t
shown_up true may t is (stands, view, runs) = subst IsUp (sym runs) tt
shown_up false may t is shown = cc

crashed_down : (t : Standing) → IsDown (crashed t)
crashed_down (Running view) = tt
crashed_down (Stopped c doubt) = tt

shown_down : (up : Bool) (may : Standing → Type 0) (t : Standing) → up ≡ false → Shown up may t → IsDown t
shown_down true may t is shown = cc
shown_down false may t is (stood, stands, same) = subst IsDown (sym same) (crashed_down stood)

module _ {N A W I O : Type 0} {g : Nodes N} (parts : N → Parts Content) (plain : IsPlain g parts) (h : Stores W) (keeper : Keepers A Reply) (seat_of : A → Seat N g) (store_of : A → W) (seated : IsSeated h parts plain keeper seat_of store_of) (input : Inputs I) (output : Outputs O) (members me : ℕ) where
  abbrev At : A → Standing → Type 0
  At a s = IsAt parts plain h keeper seat_of store_of seated input members me a s

  abbrev Serves : List (List ℕ × Reply) → List (List ℕ × Reply) → List (List ℕ × Reply) → A → I → O → A → I → O → Type 0
  Serves seen unseen waiting a i o b j p = ServesBatched keeper reply_text input output seen unseen waiting a i o b j p

  -- the run of what was served
  record Ran (a : A) (i : I) (o : O) (b : A) (j : I) (p : O) (seen unseen waiting : List (List ℕ × Reply)) (s : Standing) : Type 0 where
    stored : Standing
    last : Standing
    runs : RunsBatched input output members me s i o record { seen = seen; unseen = unseen; waiting = waiting; stored = stored; last = last; rest = j; sent = p }
    at : At b last
    kept : IsKept h (store_of b) (content_of stored)

  ran : (seen unseen waiting : List (List ℕ × Reply)) (a : A) (i : I) (o : O) (b : A) (j : I) (p : O) (s : Standing) → Serves seen unseen waiting a i o b j p → At a s → Ran a i o b j p seen unseen waiting s
  ran seen unseen waiting a i o b j p s serves at =
      let first = batched_as parts plain h keeper seat_of store_of seated input members me (seen ++ unseen) a i serves.mid serves.from serves.turned s at in
      let then = unkept_as parts plain h keeper seat_of store_of seated input members me waiting serves.mid serves.from b j serves.waits first.0 first.2 in
      let there = known parts plain (seat_of serves.mid) first.0 first.2.0 first.2.1 in
      record {
        stored = first.0;
        last = then.0;
        runs = record {
          whole = All-append (λ turn. IsLine turn.0) (seen ++ unseen) waiting
              (batched_lines parts plain h keeper seat_of store_of seated input members me (seen ++ unseen) a i serves.mid serves.from serves.turned)
              (unkept_lines parts plain h keeper seat_of store_of seated input members me waiting serves.mid serves.from b j serves.waits);
          runs = first.1;
          goes_on = then.1;
          read = serves.read;
          written = serves.written;
        };
        at = then.2;
        kept = subst (IsKept h (store_of b)) (sym there) (subst (λ (x : W). IsKept h x (memory parts plain (seat_of serves.mid))) (sym then.3) (seated.kept serves.mid serves.kept));
      }

  run_of : (seen unseen waiting : List (List ℕ × Reply)) (a : A) (i : I) (o : O) (b : A) (j : I) (p : O) (s : Standing) → Ran a i o b j p seen unseen waiting s → BatchedRun I O
  run_of seen unseen waiting a i o b j p s r = record { seen = seen; unseen = unseen; waiting = waiting; stored = r.stored; last = r.last; rest = j; sent = p }

  abbrev Ends : BatchedEnd → Standing → I → O → A → I → O → Type 0
  Ends end s i o b j p = ServesBatchedAs h input output members me s end i o j p (store_of b)

  abbrev all_of : (seen : List (List ℕ × Reply)) (a : A) (i : I) (o : O) (b : A) (j : I) (p : O) (s : Standing) (r : Ran a i o b j p seen [] [] s)
      → IsAllStored h (store_of b) record { seen = seen; unseen = []; waiting = []; stored = r.stored; last = r.last; rest = j; sent = p }
  all_of seen a i o b j p s r = record { none_unseen = refl; none_waits = refl; left = subst (IsKept h (store_of b)) (ap content_of (sym r.runs.goes_on)) r.kept }

  is_running : (b : A) (t : Standing) → At b t → keeper.up b ≡ true → IsUp t
  is_running b t at up = shown_up (is_up (seat_of b)) (g.stands (node_of (seat_of b))) t (sym (seated.up b) ∙ up) at.0

  is_down : (b : A) (t : Standing) → At b t → keeper.up b ≡ false → IsDown t
  is_down b t at up = shown_down (is_up (seat_of b)) (g.stands (node_of (seat_of b))) t (sym (seated.up b) ∙ up) at.0

  -- what wasn't stored
  left_of_store : (a : A) (i : I) (o : O) (b : A) (j : I) (p : O) (seen unseen waiting : List (List ℕ × Reply)) (s : Standing) (r : Ran a i o b j p seen unseen waiting s) (why : RecordsFault) (b' : A)
      → FailsToStore h why (store_of b) (store_of b') (memory parts plain (seat_of b))
      → IsTrue (h.honest (store_of b')) → IsLeftBy why (h.may_find (store_of b')) (content_of r.stored) (content_of r.last)
  left_of_store a i o b j p seen unseen waiting s r why b' fails honest =
      subst (IsLeftBy why (h.may_find (store_of b')) (content_of r.stored)) (sym (known parts plain (seat_of b) r.last r.at.0 r.at.1))
      (fails.left honest (content_of r.stored) (r.kept (fails.honest honest)))

  -- no line is done apart
  none_apart : (i i' : I) → DoesNoMore keeper input i i' → ReadsNoMore input i i'
  none_apart i i' (inl none) = none
  none_apart i i' (inr (line, apart, gives)) = absurd (cc (apart, seated.apart line))

  -- behind a commit that failed no reply is told
  none_left : (told : Reply) (replies : List Reply) → left_of keeper told replies ≡ []
  none_left told [] = refl
  none_left told (reply ∷ replies) = take_while-cons (keeper.may_tell told) reply replies ∙ ap (λ (t : Bool). cond t (reply ∷ left_of keeper told replies) []) (seated.untold told reply)

  none_text : (told : Reply) (replies : List Reply) → flat_map reply_text (left_of keeper told replies) ≡ []
  none_text told replies = ap (λ (rs : List Reply). flat_map reply_text rs) (none_left told replies)

  still : (seen unseen waiting : List (List ℕ × Reply)) (a : A) (i : I) (o : O) (b : A) (j : I) (sent held : O) (told : Reply) (replies : List Reply) → Serves seen unseen waiting a i o b j sent
      → Appends (output.bytes_held sent) (output.bytes_held held) (flat_map reply_text (left_of keeper told replies)) → Serves seen unseen waiting a i o b j held
  still seen unseen waiting a i o b j sent held told replies serves more = record {
    mid = serves.mid;
    from = serves.from;
    turned = serves.turned;
    kept = serves.kept;
    waits = serves.waits;
    read = serves.read;
    written = subst (Appends (output.bytes_held o) (output.bytes_held held)) (ap (λ (bs : List ℕ). text_in reply_text seen ++ bs) (none_text told replies) ∙ append-nil (text_in reply_text seen))
        (Appends-trans (output.bytes_held o) (output.bytes_held sent) (output.bytes_held held) (text_in reply_text seen) (flat_map reply_text (left_of keeper told replies)) serves.written more);
  }

  none_stops : (replies : List Reply) (why : Unwritten) (o o' : O) → replies ≡ [] → ¬ StopsAt reply_text output replies why o o'
  none_stops replies why o o' none ([], later, next, held, split, written, fails) = absurd (cc (none, split))
  none_stops replies why o o' none (x ∷ front, later, next, held, split, written, fails) = absurd (cc (none, split))

  pub serves_as : (end : BatchedEnd) (a : A) (i : I) (o : O) (a' : A) (i' : I) (o' : O) → EndsBatchedBy keeper reply_text input output end a i o a' i' o' → (s : Standing) → At a s → Ends end s i o a' i' o'
  serves_as ends.Input a i o a' i' o' (turns, rest, left, serves, up, gives, reads) s at =
      let r = ran turns [] [] a i o a' rest o' s serves at in
      (record { seen = turns; unseen = []; waiting = []; stored = r.stored; last = r.last; rest = rest; sent = o' }, r.runs, (all_of turns a i o a' rest o' s r, is_running a' r.last r.at up, refl, gives, (left, reads)))
  serves_as ends.Crashed a i o a' i' o' (turns, serves, down) s at =
      let r = ran turns [] [] a i o a' i' o' s serves at in
      (record { seen = turns; unseen = []; waiting = []; stored = r.stored; last = r.last; rest = i'; sent = o' }, r.runs, (all_of turns a i o a' i' o' s r, is_down a' r.last r.at down, refl, refl))
  serves_as ends.Unreadable a i o a' i' o' (turns, rest, serves, up, fails) s at =
      let r = ran turns [] [] a i o a' rest o' s serves at in
      (record { seen = turns; unseen = []; waiting = []; stored = r.stored; last = r.last; rest = rest; sent = o' }, r.runs, (all_of turns a i o a' rest o' s r, is_running a' r.last r.at up, refl, fails))
  serves_as ends.Uncommitted a i o a' i' o' (turns, waiting, before, rest, sent, given, serves, no_more, fails, down, left, (held, front, tells)) s at =
      let r = ran turns [] waiting a i o before rest held s (still turns [] waiting a i o before rest sent held given (replies_in waiting) serves front) at in
      let why = seated.fails before given a' fails in (
        record { seen = turns; unseen = []; waiting = waiting; stored = r.stored; last = r.last; rest = rest; sent = held },
        r.runs,
        (
          (
            why.0,
            left_of_store a i o before rest held turns [] waiting s r why.0 a' why.2,
            subst (λ (x : Reply). Appends (output.bytes_held held) (output.bytes_held o') (reply_text x)) why.1 tells,
          ),
          refl,
          none_apart rest i' no_more,
        ),
      )
  serves_as (ends.Unwritten why) a i o a' i' o' (turns, unseen, waiting, before, rest, sent, serves, no_more, inl (same, fails)) s at =
      let r = ran turns unseen waiting a i o before rest sent s serves at in (
        record { seen = turns; unseen = unseen; waiting = waiting; stored = r.stored; last = r.last; rest = rest; sent = sent },
        r.runs,
        (inl (subst (λ (x : A). IsKept h (store_of x) (content_of r.stored)) (sym same) r.kept, inl fails), none_apart rest i' no_more),
      )
  serves_as (ends.Unwritten why) a i o a' i' o' (turns, unseen, waiting, before, rest, sent, serves, no_more, inr (inl (turn, later, is, same, fails))) s at =
      let r = ran turns unseen waiting a i o before rest sent s serves at in (
        record { seen = turns; unseen = unseen; waiting = waiting; stored = r.stored; last = r.last; rest = rest; sent = sent },
        r.runs,
        (inl (subst (λ (x : A). IsKept h (store_of x) (content_of r.stored)) (sym same) r.kept, inr (turn, later, is, fails)), none_apart rest i' no_more),
      )
  serves_as (ends.Unwritten why) a i o a' i' o' (turns, unseen, waiting, before, rest, sent, serves, no_more, inr (inr (given, none, fails, left, inl stops))) s at =
      absurd (none_stops (left_of keeper given (replies_in waiting)) why sent o' (none_left given (replies_in waiting)) stops)
  serves_as (ends.Unwritten why) a i o a' i' o' (turns, unseen, waiting, before, rest, sent, serves, no_more, inr (inr (given, none, fails, left, inr (held, front, untold)))) s at =
      let r = ran turns unseen waiting a i o before rest held s (still turns unseen waiting a i o before rest sent held given (replies_in waiting) serves front) at in
      let fault = seated.fails before given a' fails in (
        record { seen = turns; unseen = unseen; waiting = waiting; stored = r.stored; last = r.last; rest = rest; sent = held },
        r.runs,
        (
          inr (
            fault.0,
            left_of_store a i o before rest held turns unseen waiting s r fault.0 a' fault.2,
            subst (λ (x : Reply). FailsToTell output (reply_text x) why held o') fault.1 untold,
          ),
          none_apart rest i' no_more,
        ),
      )
  serves_as ends.Spent a i o a' i' o' (turns, serves, count) s at =
      let r = ran turns [] [] a i o a' i' o' s serves at in
      (record { seen = turns; unseen = []; waiting = []; stored = r.stored; last = r.last; rest = i'; sent = o' }, r.runs, (all_of turns a i o a' i' o' s r, count, refl, refl))

-- the same of one that serves, with what it was and is told first
pub served : {A W N I O : Type 0} {g : Nodes N} (a : A) (i : I) (o : O) (a' : A) (i' : I) (o' : O) (seat_of : A → Seat N g) (store_of : A → W) (parts : N → Parts Content) (plain : IsPlain g parts) (h : Stores W)
    (keeper : Keepers A Reply) (seated : IsSeated h parts plain keeper seat_of store_of) (input : Inputs I) (output : Outputs O) (end : BatchedEnd) → EndsBatchedBy keeper reply_text input output end a i o a' i' o'
    → (view : View) → Stands (seat_of a) (Running view)
    → ServesBatchedAs h input output (who_of (seat_of a)).members (who_of (seat_of a)).id (Running view) end i o i' o' (store_of a')
served a i o a' i' o' seat_of store_of parts plain h keeper seated input output end by view stands =
    serves_as parts plain h keeper seat_of store_of seated input output (who_of (seat_of a)).members (who_of (seat_of a)).id end a i o a' i' o' by (Running view) (stands, tt, refl, refl)
