-- What an event owes, by what it asks of a node.
use Rattle.std.proofs.Common.{◌≡◌, ◌<◌, ◌≤◌, ◌++◌, inl, inr, ℕ, List, [], ◌∷◌, Option, Some, None, Bool, true, false}
use Rattle.std.proofs.Common.{map, length, get_or, slice_get, slice_set, refl, sym, ap, ◌∙◌, subst, arith, is_ok}
use Rattle.std.proofs.Common.{if◌then◌else◌, Result, Ok, Err, append_assoc, append-nil}
use Rattle.std.specs.Prelude.{OnErr, OnOk}
use Rattle.std.proofs.lemmas.List.{map-set, map-append, length-map, length-set}
use Rattle.std.proofs.lemmas.Option.{slice_get_past, slice_get_read}
use Rattle.ballots.specs.Voting.{Entry}
use Rattle.ballots.specs.declared.letters.Letter.{Letter}
use Rattle.acceptor.specs.Content.{record_write}
use Rattle.map_release.specs.declared.numbered.Numbered.{Numbered}
use Rattle.node.specs.declared.node.Node.{Ghosts}
use Rattle.node.specs.View.{Standing}
use Rattle.node.specs.Calls.Cause.{Receive as Received}
use Rattle.seats.specs.Acts.{Acts, AnswersAsOwed, kept_of}
use Rattle.seats.specs.Modems.{ModemNext, sent_at}
use Rattle.seats.specs.Moves.{Ask, Move, Moves}
use Rattle.seats.specs.Moves.Ask.{Call, TakeThenCrash, Restart}
use Rattle.seats.specs.Occupant.{IsHonest, Stands, member}
use Rattle.seats.specs.Owes.{Outside, outside}
use Rattle.seats.specs.Receiver.{Receiver}
use Rattle.seats.specs.Receiving.{Hold, sent_by}
use Rattle.seats.specs.StoreFaults.{is_store_fault}
use Rattle.seats.specs.declared.answer.Answer.{Answer}
use Rattle.seats.specs.declared.answer.Answer.TheVariants.{Refused}
use Rattle.seats.specs.declared.answer.ReleasedOutput.{ReleasedOutput}
use Rattle.seats.specs.declared.receivers.Receivers.{Receivers}
use Rattle.seats.specs.declared.seat.Seat.{Seat}
use Rattle.world_events.specs.declared.event.Event.{Event}
use Rattle.world_events.specs.declared.event.Event.TheVariants as event
use Rattle.world_events.specs.declared.refusal.EventRefusal.TheVariants.{NoLetter, NoNode}
use Rattle.network_script.specs.declared.world.World.{World}
use Rattle.network_script.specs.Asking.{Asks, Delivers, HappensTo, IsUnchanged, Went}
use Rattle.network_script.specs.Counts.{CountNext, Counts, called_by, counts}
use Rattle.network_script.specs.Next.{Comes, Next, OfNode, OnModems, after, taking}
use Rattle.network_script.specs.Outward.{OfModems, Outward, SeenNext, SeenOfNode, SeenToCome, outward}
use Rattle.network_script.specs.Seats.{AllHonest, AllKeepTrust, AreStandings}
use Rattle.network_script.specs.World.{Written, released_by}
use Rattle.network_script.specs.Worlds.{AreHonest, Happens, letters_of, outputs_of, receivers_of, seats_of}
use Rattle.network_script.specs.Worlds.{transmissions_of, written}
use Rattle.network_script.proofs.Counted.{count_one, count_still, quiet_answer}
use Rattle.network_script.proofs.Lists.{get_left}
use Rattle.network_script.proofs.Places.{each_at, each_length, each_set, honest_at, honest_before, seen_at, trust_at}
use Rattle.network_script.proofs.Places.{trust_same, who_at}
use Rattle.network_script.proofs.Same.{same_world}

-- one more output is numbered, and one less is left
pub numbered_more : (outputs new : List ReleasedOutput) (k : ℕ) (x : Numbered) (rest left : List Numbered) (all : List ReleasedOutput) → new ≡ outputs ++ record { node = k; numbered = x } ∷ [] → rest ≡ x ∷ left
    → outputs ++ released_by k rest ≡ all → new ++ released_by k left ≡ all
numbered_more outputs new k x rest left all more is whole =
    ap (λ (xs : List ReleasedOutput). xs ++ released_by k left) more
    ∙ (append_assoc outputs (record { node = k; numbered = x } ∷ []) (released_by k left) ∙ (sym (ap (λ (r : List Numbered). outputs ++ released_by k r) is) ∙ whole))

-- what is kept is added
pub kept_more : {A : Type 0} (xs new more : List A) (kept : Bool) → new ≡ (if kept then xs ++ more else xs) → new ≡ xs ++ kept_of kept more
kept_more xs new more true is = is
kept_more xs new more false is = is ∙ sym (append-nil xs)

pub none_kept : {A : Type 0} (xs : List A) (kept : Bool) → xs ≡ xs ++ kept_of {A = A} kept []
none_kept xs true = sym (append-nil xs)
none_kept xs false = sym (append-nil xs)

pub released_more : {T E : Type 0} (xs new : List ReleasedOutput) (k : ℕ) (more : List Numbered) (result : Result T E) → OnOk result (new ≡ xs ++ released_by k more) → OnErr result (new ≡ xs) → new ≡ xs ++ released_by k (kept_of (is_ok result) more)
released_more xs new k more (Ok done) ok err = ok
released_more xs new k more (Err failed) ok err = err ∙ sym (append-nil xs)

pub none_released : (xs : List ReleasedOutput) (k : ℕ) (kept : Bool) → xs ≡ xs ++ released_by k (kept_of kept [])
none_released xs k true = sym (append-nil xs)
none_released xs k false = sym (append-nil xs)

module _ {N : Type 0} {g : Ghosts N} (old : World N g) where
  -- an event asks node k so: what that is in a written world, and from without
  pub record Calls (event : Event) (k : ℕ) (ask : Ask) : Type 0 where
    pub next : (members : ℕ) (w w' : Written) (answer : Answer) → w.letters ≡ letters_of old → OfNode members w k (slice_get w.nodes k) ask answer w' → Next members w event answer w'
    pub seen : (o o' : Outward) (answer : Answer) → o.letters ≡ letters_of old → SeenOfNode o k (slice_get o.nodes k) ask answer o' → SeenNext o event answer o'
    pub called : called_by (map (λ (letter : Letter). letter.to) (letters_of old)) event ≡ Some k

  -- an event of no node, by what it is in a written world and from without
  apart : (new : World N g) (event : Event) (answer : Answer) → seats_of new ≡ seats_of old → letters_of new ≡ letters_of old → is_store_fault answer ≡ false
      → ((modems : List Receiver) → Hold (receivers_of old) modems → (later : List Receiver) × Hold (receivers_of new) later
      × ((nodes : List Standing) (history : List Entry) → length nodes ≡ length (seats_of old) → Next (length nodes) (written old nodes modems history) event answer (written new nodes later history))
      × SeenNext (outward old modems) event answer (outward new later))
      → HappensTo old event answer new
  apart new event answer seats letters quiet goes = record {
    honesty = λ honest. subst (λ (ss : List (Seat N g)). AllHonest ss) seats honest;
    trust = subst (λ (ss : List (Seat N g)). AllKeepTrust (seats_of old) ss) (sym seats) (trust_same (seats_of old));
    members = ap (λ (ss : List (Seat N g)). length ss) seats;
    next = λ honest nodes modems history each hold.
        let R : Seat N g → Standing → Type 0 = Stands in
        let r = goes modems hold in
        (nodes, r.0, history, subst (λ (ss : List (Seat N g)). AreStandings ss nodes) (sym seats) each, r.1, r.2 nodes history (each_length R (seats_of old) nodes each));
    counted =
        let F : Seat N g → ℕ = λ seat. (g.who seat.node).failures in
        let same : counts new ≡ counts old = λ i. record { failures = map F (seats i); addressees = map (λ (letter : Letter). letter.to) (letters i) } in
        subst (λ (n : Counts). CountNext (counts old) event answer n) (sym same) (count_still (counts old) event answer quiet);
    seen = λ modems hold. let r = goes modems hold in (r.0, r.3, r.1);
  }

  -- nothing changed
  unchanged : (new : World N g) (event : Event) (answer : Answer) → IsUnchanged old new → is_store_fault answer ≡ false
      → ((members : ℕ) (w : Written) → w.letters ≡ letters_of old → length w.nodes ≡ length (seats_of old) → Next members w event answer w)
      → ((o : Outward) → o.letters ≡ letters_of old → o.nodes ≡ map outside (seats_of old) → SeenNext o event answer o)
      → HappensTo old event answer new
  unchanged new event answer same quiet next seen = apart new event answer same.0 same.1 quiet (λ modems hold.
      let f : Seat N g → Outside = outside in
      let is : outward new modems ≡ outward old modems = λ i. record { nodes = map f (same.0 i); letters = same.1 i; outputs = same.2 i; modems = modems; transmissions = sent_by (same.3 i) } in (
        modems,
        subst (λ (r : Receivers). Hold r modems) (sym same.3) hold,
        (λ nodes history size.
            let w = written old nodes modems history in
            subst (λ (v : Written). Next (length nodes) w event answer v) (sym (same_world (written new nodes modems history) w refl same.1 same.2 refl (ap (λ (r : Receivers). sent_by r) same.3) refl)) (next (length nodes) w refl size)),
        subst (λ (o : Outward). SeenNext (outward old modems) event answer o) (sym is) (seen (outward old modems) refl refl),
      ))

  -- there is no node k
  missing : (new : World N g) (event : Event) (k : ℕ) (ask : Ask) → Calls event k ask → IsUnchanged old new → length (seats_of old) ≤ k → HappensTo old event (Refused NoNode) new
  missing new event k ask calls same past = unchanged new event (Refused NoNode) same refl
      (λ members w letters size. calls.next members w w (Refused NoNode) letters
      (subst (λ (s : Option Standing). OfNode members w k s ask (Refused NoNode) w) (sym (slice_get_past w.nodes k (omega (arith, size, past)))) (refl, refl)))
      (λ o letters nodes. calls.seen o o (Refused NoNode) letters
      (subst (λ (was : Option Outside). SeenOfNode o k was ask (Refused NoNode) o) (sym (none o nodes)) (refl, refl)))
    where
      none : (o : Outward) → o.nodes ≡ map outside (seats_of old) → slice_get o.nodes k ≡ None
      none o nodes =
          let f : Seat N g → Outside = outside in
          ap (λ (ns : List Outside). slice_get ns k) nodes ∙ slice_get_past (map f (seats_of old)) k (omega (arith, length-map (seats_of old) f, past))

  module _ (new : World N g) (event : Event) (k : ℕ) (ask : Ask) (answer : Answer) (calls : Calls event k ask) (went : Went old k ask answer new) where
    abbrev seats : List (Seat N g)
    seats = seats_of old

    abbrev acts : Acts went.before ask answer went.letters went.outputs went.after
    acts = went.acts

    set_honest : AllHonest (seats_of new) → AllHonest (slice_set seats k went.after)
    set_honest honest = subst (λ (ss : List (Seat N g)). AllHonest ss) went.seats honest

    goes_next : AreHonest new → Happens old event answer new
    goes_next honest nodes modems history each hold =
        let R : Seat N g → Standing → Type 0 = Stands in
        let w = written old nodes modems history in
        let there = each_at R seats nodes k went.before each went.within went.at in
        let mine : IsHonest went.after = honest_at seats k went.after went.within (set_honest honest) in
        let named : member went.before ≡ (k, length nodes) = rw (each_length R seats nodes each) (who_at seats k went.before went.within went.at old.numbered) in
        let to = acts.moves mine there.0 there.2 in
        let m : Move = to.0 in
        let moved = subst (λ (who : ℕ × ℕ). Moves who.1 who.0 there.0 ask answer m) named to.1 in
        let w' = written new (slice_set nodes k m.standing) modems (record_write k m.write history) in
        let is : w' ≡ after w k m = same_world w' (after w k m) refl
        (went.sent ∙ ap (λ (ls : List Letter). letters_of old ++ ls) (sym to.2))
        (went.released ∙ ap (λ (xs : List Numbered). outputs_of old ++ released_by k xs) (sym to.3))
        refl (ap (λ (r : Receivers). sent_by r) went.receivers) refl in (
          slice_set nodes k m.standing,
          modems,
          record_write k m.write history,
          subst (λ (ss : List (Seat N g)). AreStandings ss (slice_set nodes k m.standing)) (sym went.seats) (each_set R seats nodes k went.after m.standing each to.4),
          subst (λ (r : Receivers). Hold r modems) (sym went.receivers) hold,
          calls.next (length nodes) w w' answer refl (subst (λ (s : Option Standing). OfNode (length nodes) w k s ask answer w') (sym there.1) (m, moved, is)),
        )

    is_seen : (modems : List Receiver) → Hold (receivers_of old) modems → (later : List Receiver) × SeenNext (outward old modems) event answer (outward new later) × Hold (receivers_of new) later
    is_seen modems hold =
        let f : Seat N g → Outside = outside in
        let o = outward old modems in
        let o' = outward new modems in
        let there : slice_get o.nodes k ≡ Some (outside went.before) = seen_at f seats k went.before went.within went.at in
        let named : member went.before ≡ (k, length o.nodes) = who_at seats k went.before went.within went.at old.numbered ∙ ap (λ (n : ℕ). (k, n)) (sym (length-map seats f)) in
        let answers = subst (λ (who : ℕ × ℕ). AnswersAsOwed who.1 who.0 (outside went.before) ask answer went.letters went.outputs (outside went.after)) named acts.answers in
        let nodes : o'.nodes ≡ slice_set o.nodes k (outside went.after) = ap (λ (ss : List (Seat N g)). map f ss) went.seats ∙ map-set f seats k went.after in
        let is : o' ≡ record o { nodes = slice_set o.nodes k (outside went.after); letters = o.letters ++ went.letters; outputs = o.outputs ++ released_by k went.outputs } =
        λ i. record { nodes = nodes i; letters = went.sent i; outputs = went.released i; modems = modems; transmissions = sent_by (went.receivers i) } in (
          modems,
          calls.seen o o' answer refl (subst (λ (was : Option Outside). SeenOfNode o k was ask answer o') (sym there) (outside went.after, went.letters, went.outputs, answers, is)),
          subst (λ (r : Receivers). Hold r modems) (sym went.receivers) hold,
        )

    is_counted : CountNext (counts old) event answer (counts new)
    is_counted =
        let F : Seat N g → ℕ = λ seat. (g.who seat.node).failures in
        let To : Letter → ℕ = λ letter. letter.to in
        let letters : (i n : ℕ) → slice_get (map To (letters_of old)) i ≡ Some n → slice_get (map To (letters_of new)) i ≡ Some n = λ i n at.
        rw (went.sent, map-append) (get_left (map To (letters_of old)) (map To went.letters) i n at) in
        count_one (counts old) (counts new) event answer k (F went.before) (F went.after) letters
        (seen_at F seats k went.before went.within went.at) (ap (λ (ss : List (Seat N g)). map F ss) went.seats ∙ map-set F seats k went.after)
        acts.grows calls.called acts.rose (quiet_answer answer ask (g.who went.before.node) (g.who went.after.node) acts.tells)

    goes : HappensTo old event answer new
    goes = record {
      honesty = λ honest. honest_before seats k went.before went.after went.within went.at acts.honesty (set_honest honest);
      trust = subst (λ (ss : List (Seat N g)). AllKeepTrust seats ss) (sym went.seats) (trust_at seats k went.before went.after went.within went.at acts.trust);
      members = ap (λ (ss : List (Seat N g)). length ss) went.seats ∙ length-set seats k went.after;
      next = goes_next;
      counted = is_counted;
      seen = is_seen;
    }

  -- an event that asks node k
  pub asked : (new : World N g) (event : Event) (k : ℕ) (ask : Ask) (answer : Answer) → Calls event k ask → Asks old k ask answer new → HappensTo old event answer new
  asked new event k ask answer calls (inl (past, told, same)) =
      subst (λ (a : Answer). HappensTo old event a new) (sym told) (missing new event k ask calls same past)
  asked new event k ask answer calls (inr went) = goes new event k ask answer calls went

  -- one that asks by number
  pub by_number : (event : Event) (k : ℕ) (ask : Ask) → ((members : ℕ) (w w' : Written) (answer : Answer) → OfNode members w k (slice_get w.nodes k) ask answer w' → Next members w event answer w')
      → ((o o' : Outward) (answer : Answer) → SeenOfNode o k (slice_get o.nodes k) ask answer o' → SeenNext o event answer o')
      → called_by (map (λ (letter : Letter). letter.to) (letters_of old)) event ≡ Some k → Calls event k ask
  by_number event k ask next seen called =
      record { next = λ members w w' answer letters of. next members w w' answer of; seen = λ o o' answer letters of. seen o o' answer of; called = called }

  pub to_restart : (k : ℕ) → Calls (event.Restart k) k Restart
  to_restart k = record { next = λ members w w' answer letters of. of; seen = λ o o' answer letters of. of; called = refl }

  -- one by which a letter comes
  module _ (i : ℕ) (l : Letter) (within : i < length (letters_of old)) (at : l ≡ get_or (letters_of old) i l) where
    there : (letters : List Letter) → letters ≡ letters_of old → slice_get letters i ≡ Some l
    there letters same = ap (λ (ls : List Letter). slice_get ls i) same ∙ slice_get_read (letters_of old) (length (letters_of old)) i l refl within at

    takes : (event : Event) (ask : Letter → Ask) → ((members : ℕ) (w w' : Written) (answer : Answer) → Comes members w (slice_get w.letters i) ask answer w' → Next members w event answer w')
        → ((o o' : Outward) (answer : Answer) → SeenToCome o (slice_get o.letters i) ask answer o' → SeenNext o event answer o')
        → called_by (map (λ (letter : Letter). letter.to) (letters_of old)) event ≡ slice_get (map (λ (letter : Letter). letter.to) (letters_of old)) i → Calls event l.to (ask l)
    takes event ask next seen called = record {
      next = λ members w w' answer letters of. next members w w' answer (subst (λ (found : Option Letter). Comes members w found ask answer w') (sym (there w.letters letters)) of);
      seen = λ o o' answer letters of. seen o o' answer (subst (λ (found : Option Letter). SeenToCome o found ask answer o') (sym (there o.letters letters)) of);
      called = called ∙ seen_at (λ (letter : Letter). letter.to) (letters_of old) i l within at;
    }

    pub to_take : Calls (event.Deliver i) l.to (Call (Received l))
    to_take = takes (event.Deliver i) (λ x. Call (Received x)) (λ members w w' answer of. of) (λ o o' answer of. of) refl

    pub to_take_last : Calls (event.DeliverThenCrash i) l.to (TakeThenCrash l)
    to_take_last = takes (event.DeliverThenCrash i) TakeThenCrash (λ members w w' answer of. of) (λ o o' answer of. of) refl

  -- there is no letter i
  no_letter : (new : World N g) (event : Event) (ask : Letter → Ask) (i : ℕ) → IsUnchanged old new
      → ((members : ℕ) (w w' : Written) (answer : Answer) → Comes members w (slice_get w.letters i) ask answer w' → Next members w event answer w')
      → ((o o' : Outward) (answer : Answer) → SeenToCome o (slice_get o.letters i) ask answer o' → SeenNext o event answer o')
      → length (letters_of old) ≤ i → HappensTo old event (Refused NoLetter) new
  no_letter new event ask i same next seen past = unchanged new event (Refused NoLetter) same refl
      (λ members w letters size. next members w w (Refused NoLetter) (subst (λ (found : Option Letter). Comes members w found ask (Refused NoLetter) w) (sym (none w.letters letters)) (refl, refl)))
      (λ o letters nodes. seen o o (Refused NoLetter) (subst (λ (found : Option Letter). SeenToCome o found ask (Refused NoLetter) o) (sym (none o.letters letters)) (refl, refl)))
    where
      none : (letters : List Letter) → letters ≡ letters_of old → slice_get letters i ≡ None
      none letters same = ap (λ (ls : List Letter). slice_get ls i) same ∙ slice_get_past (letters_of old) i past

  pub delivered : (new : World N g) (i : ℕ) (answer : Answer) → Delivers old i (taking false) answer new → HappensTo old (event.Deliver i) answer new
  delivered new i answer (inl (past, told, same)) =
      subst (λ (a : Answer). HappensTo old (event.Deliver i) a new) (sym told)
      (no_letter new (event.Deliver i) (λ l. Call (Received l)) i same (λ members w w' a of. of) (λ o o' a of. of) past)
  delivered new i answer (inr (l, k, within, at, to, asks)) =
      asked new (event.Deliver i) l.to (Call (Received l)) answer (to_take i l within at) (subst (λ (n : ℕ). Asks old n (Call (Received l)) answer new) to asks)

  pub delivered_last : (new : World N g) (i : ℕ) (answer : Answer) → Delivers old i (taking true) answer new → HappensTo old (event.DeliverThenCrash i) answer new
  delivered_last new i answer (inl (past, told, same)) =
      subst (λ (a : Answer). HappensTo old (event.DeliverThenCrash i) a new) (sym told)
      (no_letter new (event.DeliverThenCrash i) TakeThenCrash i same (λ members w w' a of. of) (λ o o' a of. of) past)
  delivered_last new i answer (inr (l, k, within, at, to, asks)) =
      asked new (event.DeliverThenCrash i) l.to (TakeThenCrash l) answer (to_take_last i l within at) (subst (λ (n : ℕ). Asks old n (TakeThenCrash l) answer new) to asks)

  -- an event of a modem
  pub listened : (new : World N g) (event : Event) (answer : Answer)
      → ((members : ℕ) (w w' : Written) → OnModems w event answer w' → Next members w event answer w')
      → ((o o' : Outward) → OfModems o event answer o' → SeenNext o event answer o')
      → seats_of new ≡ seats_of old → letters_of new ≡ letters_of old → outputs_of new ≡ outputs_of old → is_store_fault answer ≡ false
      → transmissions_of new ≡ transmissions_of old ++ sent_at event answer
      → ((modems : List Receiver) → Hold (receivers_of old) modems → (later : List Receiver) × ModemNext modems (outputs_of old) event answer later × Hold (receivers_of new) later)
      → HappensTo old event answer new
  listened new event answer to_next to_seen seats letters outputs quiet transmissions next = apart new event answer seats letters quiet (λ modems hold.
      let f : Seat N g → Outside = outside in
      let r = next modems hold in
      let is : outward new r.0 ≡ record (outward old modems) { modems = r.0; transmissions = transmissions_of old ++ sent_at event answer } =
      λ i. record { nodes = map f (seats i); letters = letters i; outputs = outputs i; modems = r.0; transmissions = transmissions i } in (
        r.0,
        r.2,
        (λ nodes history size. to_next (length nodes) (written old nodes modems history) (written new nodes r.0 history) (r.0, r.1, same_world (written new nodes r.0 history) _ refl letters outputs refl transmissions refl)),
        to_seen (outward old modems) (outward new r.0) (r.0, r.1, is),
      ))
