-- How a host's run of lines ends.
use Rattle.std.proofs.Common.{◌≡◌, ◌∙◌, inl, inr, ℕ, List, [], ◌∷◌, ◌++◌, All, drop, refl, sym, ap, subst, append_assoc}
use Rattle.std.specs.Io.KnownBytes.{Appends, Consumes}
use Rattle.std.specs.List.{flat_map, prefix_len, take_while}
use Rattle.std.proofs.KnownBytes.{Appends-trans}
use Rattle.std.proofs.lemmas.Grind.{flat_map-append}
use Rattle.std.proofs.lemmas.List.{append-nil, take-append-drop}
use Rattle.std.proofs.lemmas.List.Folds.{flat_map-map}
use Rattle.acceptor.specs.Content.{Content}
use Rattle.hosts.specs.Hosts.{AreMembers, StandsAs, begins_of, member_of, places_of}
use Rattle.hosts.specs.Keeping.{HaveKept}
use Rattle.hosts.specs.Views.{HostView}
use Rattle.hosts.specs.declared.host.Host.{Host}
use Rattle.hosts.specs.declared.opens.Opens.{Ghosts}
use Rattle.node.specs.declared.node.Node.{Ghosts as Nodes}
use Rattle.node_lines.specs.Input.{IsLine}
use Rattle.node_lines.specs.declared.writing.Unwritten.{Unwritten}
use Rattle.node_service.specs.Batched.{DoesNoMore as NoMoreOf, EndsBatchedBy, FailsToTellLeft, ServesBatched, lines_in}
use Rattle.node_service.specs.Batched.{replies_in, text_in}
use Rattle.node_service.specs.declared.batches.BatchedEnd.{BatchedEnd}
use Rattle.node_service.specs.declared.batches.BatchedEnd.TheVariants as ends
use Rattle.node_service.specs.declared.lines.Lines.{Ghosts as Inputs}
use Rattle.node_service.specs.declared.outbox.Outbox.{Ghosts as Outputs}
use Rattle.host_service.specs.Replying.{FailsSo, host_keeper, host_of, may_tell}
use Rattle.host_service.specs.Serving.{EndsAs, IfAllTold, IsUnkept, NeverLie, ServesAs, TellsSome}
use Rattle.host_service.specs.Texts.{host_text}
use Rattle.host_service.specs.declared.number.EpochNumber.{EpochNumber}
use Rattle.host_service.specs.declared.reply.HostReply.{HostReply}
use Rattle.host_service.specs.declared.service.HostServer.{HostServer}
use Rattle.host_service.proofs.Runs.{IsThere, Runs, batched_places, batched_runs, batched_whole, both_whole, lives_as}
use Rattle.host_service.proofs.Runs.{runs_on, unkept_places, unkept_runs, unkept_whole}

abbrev Turns : Type 0
Turns = List (List ℕ × HostReply)

-- all lines that were done, from where the host stood on
record Done {O N : Type 0} {g : Ghosts O N} {h : Nodes N} (host : Host O N g h) (begins : ℕ → Content → Type 0) (members me places : ℕ) (v : HostView) (turns : Turns) : Type 0 where
  runs : Runs host begins members me places v turns
  whole : All (λ turn. IsLine turn.0) turns

all_runs : {O N I Q : Type 0} {g : Ghosts O N} {h : Nodes N} (input : Inputs I) (output : Outputs Q) (seen unseen waiting : Turns) (a : HostServer O N g h) (i : I) (o : Q) (b : HostServer O N g h) (j : I) (q : Q) (begins : ℕ → Content → Type 0) (members me places : ℕ) (v : HostView)
    → ServesBatched host_keeper host_text input output seen unseen waiting a i o b j q → NeverLie h → IsThere (host_of a) begins members me places v → Done (host_of b) begins members me places v ((seen ++ unseen) ++ waiting)
all_runs {O} {N} {I} {Q} {g} {h} input output seen unseen waiting a i o b j q begins members me places v serves never there = record {
  runs = runs_on (IsThere (host_of serves.mid) begins members me places) (IsThere (host_of b) begins members me places) begins g.may_fail members me places v (seen ++ unseen) waiting
      (batched_runs input (seen ++ unseen) a i serves.mid serves.from begins members me places v serves.turned never there)
      (λ u at. unkept_runs input waiting serves.mid serves.from b j begins members me places u serves.waits never at);
  whole = both_whole (seen ++ unseen) waiting (batched_whole input (seen ++ unseen) a i serves.mid serves.from serves.turned)
      (unkept_whole input waiting serves.mid serves.from b j serves.waits);
}

-- where none wait
alone : (seen : Turns) → (seen ++ []) ++ [] ≡ seen
alone seen = append-nil (seen ++ []) ∙ append-nil seen

seen_runs : {O N I Q : Type 0} {g : Ghosts O N} {h : Nodes N} (input : Inputs I) (output : Outputs Q) (seen : Turns) (a : HostServer O N g h) (i : I) (o : Q) (b : HostServer O N g h) (j : I) (q : Q) (begins : ℕ → Content → Type 0) (members me places : ℕ) (v : HostView)
    → ServesBatched host_keeper host_text input output seen [] [] a i o b j q → NeverLie h → IsThere (host_of a) begins members me places v
    → Done (host_of b) begins members me places v seen × Consumes (input.bytes_left i) (input.bytes_left j) (lines_in seen)
seen_runs input output seen a i o b j q begins members me places v serves never there = (
  subst (λ (turns : Turns). Done (host_of b) begins members me places v turns) (alone seen) (all_runs input output seen [] [] a i o b j q begins members me places v serves never there),
  subst (λ (turns : Turns). Consumes (input.bytes_left i) (input.bytes_left j) (lines_in turns)) (alone seen) serves.read,
)

-- the lines that were done, where the replies to the first ones alone were written
some_told : {O N I Q : Type 0} {g : Ghosts O N} {h : Nodes N} (input : Inputs I) (output : Outputs Q) (seen unseen waiting : Turns) (a : HostServer O N g h) (i : I) (o : Q) (b : HostServer O N g h) (j i' : I) (q : Q) (untold : Turns)
    → ServesBatched host_keeper host_text input output seen unseen waiting a i o b j q → NoMoreOf (host_keeper {O = O} {N = N} {g = g} {h = h}) input j i' → (seen ++ unseen) ++ waiting ≡ seen ++ untold
    → TellsSome input output ((seen ++ unseen) ++ waiting) seen untold i o i' q
some_told input output seen unseen waiting a i o b j i' q untold serves no_more are =
    record { rest = j; read = serves.read; no_more = no_more; are = are; written = serves.written }

-- replies that are split are those of turns that are split so
split_turns : (turns : Turns) (front back : List HostReply) → replies_in turns ≡ front ++ back
    → (first last : Turns) × (turns ≡ first ++ last) × (replies_in first ≡ front) × (replies_in last ≡ back)
split_turns turns [] back is = ([], turns, refl, refl, is)
split_turns [] (x ∷ front) back is = absurd (cc (is))
split_turns (turn ∷ turns) (x ∷ front) back is =
    let head : turn.1 ≡ x = cc (is) in
    let tail : replies_in turns ≡ front ++ back = cc (is) in
    let rest = split_turns turns front back tail in
    (turn ∷ rest.0, rest.1, ap (λ (ts : Turns). turn ∷ ts) rest.2, cc (head, rest.3), rest.4)

first_turn : (turns : Turns) (x : HostReply) (xs : List HostReply) → replies_in turns ≡ x ∷ xs → (turn : List ℕ × HostReply) × (later : Turns) × (turns ≡ turn ∷ later) × (turn.1 ≡ x)
first_turn [] x xs is = absurd (cc (is))
first_turn (turn ∷ turns) x xs is = (turn, turns, refl, cc (is))

-- more of them were told
told_on : {I Q : Type 0} (input : Inputs I) (output : Outputs Q) (all seen unseen first last : Turns) (front : List HostReply) (i : I) (o : Q) (i' : I) (sent held : Q)
    → TellsSome input output all seen unseen i o i' sent → unseen ≡ first ++ last → replies_in first ≡ front → Appends (output.bytes_held sent) (output.bytes_held held) (flat_map host_text front)
    → TellsSome input output all (seen ++ first) last i o i' held
told_on input output all seen unseen first last front i o i' sent held tells split are written =
    let texts : flat_map host_text front ≡ text_in host_text first = sym (ap (λ (rs : List HostReply). flat_map host_text rs) are) ∙ flat_map-map host_text (λ (t : List ℕ × HostReply). t.1) first in
    record {
      rest = tells.rest;
      read = tells.read;
      no_more = tells.no_more;
      are = tells.are ∙ ap (λ (ts : Turns). seen ++ ts) split ∙ sym (append_assoc seen first last);
      written = subst (Appends (output.bytes_held o) (output.bytes_held held)) (sym (flat_map-append (λ (t : List ℕ × HostReply). host_text t.1) seen first))
          (Appends-trans (output.bytes_held o) (output.bytes_held sent) (output.bytes_held held) (text_in host_text seen) (text_in host_text first) tells.written
          (subst (Appends (output.bytes_held sent) (output.bytes_held held)) texts written));
    }

-- the number of an epoch, as a host writes it
abbrev number_in : {O N : Type 0} {g : Ghosts O N} {h : Nodes N} → HostServer O N g h → ℕ → EpochNumber
number_in server epoch = record { epoch = epoch; places = places_of (host_of server) }

-- what is told of a commit that failed
unkept_in : {O N I Q : Type 0} {g : Ghosts O N} {h : Nodes N} (input : Inputs I) (output : Outputs Q) (seen unseen waiting : Turns) (a : HostServer O N g h) (i : I) (o : Q) (b : HostServer O N g h) (j : I) (q : Q) (told : HostReply) (b' : HostServer O N g h) (places : ℕ)
    → ServesBatched host_keeper host_text input output seen unseen waiting a i o b j q → (fails : FailsSo (host_of b) told (host_of b')) → places_of (host_of a) ≡ places → IsUnkept places (number_in b fails.epoch) fails.why (host_text told)
unkept_in input output seen unseen waiting a i o b j q told b' places serves fails many = record {
  places = unkept_places input waiting serves.mid serves.from b j serves.waits ∙ (batched_places input (seen ++ unseen) a i serves.mid serves.from serves.turned ∙ many);
  told = ap host_text fails.told;
}

-- the run of a host, with how it ends
ended : {O N I Q : Type 0} {g : Ghosts O N} {h : Nodes N} (input : Inputs I) (output : Outputs Q) (end : BatchedEnd) (b : HostServer O N g h) (i : I) (o : Q) (i' : I) (o' : Q) (begins : ℕ → Content → Type 0) (members me places : ℕ) (v : HostView) (turns : Turns)
    → Done (host_of b) begins members me places v turns → EndsAs input output places end turns i o i' o' → ServesAs input output begins g.may_fail members me places v end i o i' o'
ended {O} {N} {I} {Q} {g} {h} input output end b i o i' o' begins members me places v turns done how = record {
  turns = turns;
  whole = done.whole;
  lives = lives_as (IsThere (host_of b) begins members me places) begins g.may_fail members me places v turns done.runs;
  ends = how;
}

-- the turns whose replies are left behind a commit that failed
left_turns : (told : HostReply) (turns : Turns) → (first last : Turns) × (turns ≡ first ++ last) × (replies_in first ≡ take_while (may_tell told) (replies_in turns))
    × (replies_in last ≡ drop (prefix_len (may_tell told) (replies_in turns)) (replies_in turns))
left_turns told turns =
    let n : ℕ = prefix_len (may_tell told) (replies_in turns) in
    split_turns turns (take_while (may_tell told) (replies_in turns)) (drop n (replies_in turns)) (sym (take-append-drop n (replies_in turns)))

-- one of these, or what is told of the commit, couldn't be written
fails_left : {O N I Q : Type 0} {g : Ghosts O N} {h : Nodes N} (input : Inputs I) (output : Outputs Q) (turns waiting : Turns) (a : HostServer O N g h) (i : I) (o : Q) (b : HostServer O N g h) (j : I) (sent : Q) (told : HostReply) (a' : HostServer O N g h) (i' : I) (o' : Q) (why : Unwritten) (begins : ℕ → Content → Type 0) (members me places : ℕ) (v : HostView)
    → ServesBatched host_keeper host_text input output turns [] waiting a i o b j sent → NoMoreOf (host_keeper {O = O} {N = N} {g = g} {h = h}) input j i' → FailsSo (host_of b) told (host_of a')
    → FailsToTellLeft (host_keeper {O = O} {N = N} {g = g} {h = h}) host_text output told (replies_in waiting) why sent o' → NeverLie h → IsThere (host_of a) begins members me places v
    → ServesAs input output begins g.may_fail members me places v (ends.Unwritten why) i o i' o'
fails_left input output turns waiting a i o b j sent told a' i' o' why begins members me places v serves no_more fails (inl (front, later, next, held, split, written, failed)) never there =
    let all = all_runs input output turns [] waiting a i o b j sent begins members me places v serves never there in
    let n : ℕ = prefix_len (may_tell told) (replies_in waiting) in
    let behind : List HostReply = drop n (replies_in waiting) in
    let cut : replies_in waiting ≡ front ++ next ∷ (later ++ behind) =
    sym (take-append-drop n (replies_in waiting)) ∙ ap (λ (rs : List HostReply). rs ++ behind) split ∙ append_assoc front (next ∷ later) behind in
    let parts = split_turns waiting front (next ∷ (later ++ behind)) cut in
    let one = first_turn parts.1 next (later ++ behind) parts.4 in
    ended input output (ends.Unwritten why) b i o i' o' begins members me places v ((turns ++ []) ++ waiting) all (
      turns ++ parts.0,
      parts.1,
      held,
      told_on input output ((turns ++ []) ++ waiting) turns waiting parts.0 parts.1 front i o i' sent held
          (some_told input output turns [] waiting a i o b j i' sent waiting serves no_more (ap (λ (xs : Turns). xs ++ waiting) (append-nil turns))) parts.2 parts.3 written,
      inr (inl (one.0, one.1, one.2, subst (λ (r : HostReply). output.fails held (host_text r) why o') (sym one.3) failed)),
    )
fails_left input output turns waiting a i o b j sent told a' i' o' why begins members me places v serves no_more fails (inr (held, written, untold)) never there =
    let all = all_runs input output turns [] waiting a i o b j sent begins members me places v serves never there in
    let parts = left_turns told waiting in
    ended input output (ends.Unwritten why) b i o i' o' begins members me places v ((turns ++ []) ++ waiting) all (
      turns ++ parts.0,
      parts.1,
      held,
      told_on input output ((turns ++ []) ++ waiting) turns waiting parts.0 parts.1 (take_while (may_tell told) (replies_in waiting)) i o i' sent held
          (some_told input output turns [] waiting a i o b j i' sent waiting serves no_more (ap (λ (xs : Turns). xs ++ waiting) (append-nil turns))) parts.2 parts.3 written,
      inr (inr (number_in b fails.epoch, fails.why, host_text told, unkept_in input output turns [] waiting a i o b j sent told a' places serves fails there.many, untold)),
    )

pub serves_as : {O N I Q : Type 0} {g : Ghosts O N} {h : Nodes N} (input : Inputs I) (output : Outputs Q) (end : BatchedEnd) (a : HostServer O N g h) (i : I) (o : Q) (a' : HostServer O N g h) (i' : I) (o' : Q) (begins : ℕ → Content → Type 0) (members me places : ℕ) (v : HostView)
    → EndsBatchedBy host_keeper host_text input output end a i o a' i' o' → NeverLie h → IsThere (host_of a) begins members me places v → ServesAs input output begins g.may_fail members me places v end i o i' o'
serves_as input output ends.Input a i o a' i' o' begins members me places v (turns, rest, left, serves, up, gives, reads) never there =
    let all = seen_runs input output turns a i o a' rest o' begins members me places v serves never there in
    ended input output ends.Input a' i o i' o' begins members me places v turns all.0 (serves.written, (rest, left, all.1, gives, reads))
serves_as input output ends.Crashed a i o a' i' o' begins members me places v (turns, serves, down) never there =
    let all = seen_runs input output turns a i o a' i' o' begins members me places v serves never there in
    ended input output ends.Crashed a' i o i' o' begins members me places v turns all.0 (serves.written, all.1)
serves_as input output ends.Unreadable a i o a' i' o' begins members me places v (turns, rest, serves, up, fails) never there =
    let all = seen_runs input output turns a i o a' rest o' begins members me places v serves never there in
    ended input output ends.Unreadable a' i o i' o' begins members me places v turns all.0 (serves.written, (rest, all.1, fails))
serves_as input output ends.Uncommitted a i o a' i' o' begins members me places v (turns, waiting, before, rest, sent, told, serves, no_more, fails, down, left, (held, front, written)) never there =
    let all = all_runs input output turns [] waiting a i o before rest sent begins members me places v serves never there in
    let parts = left_turns told waiting in
    ended input output ends.Uncommitted before i o i' o' begins members me places v ((turns ++ []) ++ waiting) all (
      turns ++ parts.0,
      parts.1,
      held,
      told_on input output ((turns ++ []) ++ waiting) turns waiting parts.0 parts.1 (take_while (may_tell told) (replies_in waiting)) i o i' sent held
          (some_told input output turns [] waiting a i o before rest i' sent waiting serves no_more (ap (λ (xs : Turns). xs ++ waiting) (append-nil turns))) parts.2 parts.3 front,
      (
        number_in before fails.epoch,
        fails.why,
        host_text told,
        unkept_in input output turns [] waiting a i o before rest sent told a' places serves fails there.many,
        written,
      ),
    )
serves_as input output (ends.Unwritten why) a i o a' i' o' begins members me places v (turns, unseen, waiting, before, rest, sent, serves, no_more, inl (same, fails)) never there =
    let all = all_runs input output turns unseen waiting a i o before rest sent begins members me places v serves never there in
    ended input output (ends.Unwritten why) before i o i' o' begins members me places v ((turns ++ unseen) ++ waiting) all (
      turns,
      unseen ++ waiting,
      sent,
      some_told input output turns unseen waiting a i o before rest i' sent (unseen ++ waiting) serves no_more (append_assoc turns unseen waiting),
      inl fails,
    )
serves_as input output (ends.Unwritten why) a i o a' i' o' begins members me places v (turns, unseen, waiting, before, rest, sent, serves, no_more, inr (inl (turn, later, is, same, fails))) never there =
    let all = all_runs input output turns unseen waiting a i o before rest sent begins members me places v serves never there in
    ended input output (ends.Unwritten why) before i o i' o' begins members me places v ((turns ++ unseen) ++ waiting) all (
      turns,
      unseen ++ waiting,
      sent,
      some_told input output turns unseen waiting a i o before rest i' sent (unseen ++ waiting) serves no_more (append_assoc turns unseen waiting),
      inr (inl (turn, later ++ waiting, ap (λ (xs : Turns). xs ++ waiting) is, fails)),
    )
serves_as {O} {N} {I} {Q} {g} {h} input output (ends.Unwritten why) a i o a' i' o' begins members me places v (turns, unseen, waiting, before, rest, sent, serves, no_more, inr (inr (told, none, fails, left, tells))) never there =
    fails_left input output turns waiting a i o before rest sent told a' i' o' why begins members me places v
    (subst (λ (u : Turns). ServesBatched (host_keeper {O = O} {N = N} {g = g} {h = h}) host_text input output turns u waiting a i o before rest sent) none serves) no_more fails tells never there
serves_as input output ends.Spent a i o a' i' o' begins members me places v (turns, serves, count) never there =
    let all = seen_runs input output turns a i o a' i' o' begins members me places v serves never there in
    ended input output ends.Spent a' i o i' o' begins members me places v turns all.0 (serves.written, all.1, count)

-- from what is seen of a host
pub serves_from : {O N I Q : Type 0} {g : Ghosts O N} {h : Nodes N} (input : Inputs I) (output : Outputs Q) (end : BatchedEnd) (a : HostServer O N g h) (i : I) (o : Q) (a' : HostServer O N g h) (i' : I) (o' : Q)
    → EndsBatchedBy host_keeper host_text input output end a i o a' i' o' → NeverLie h → AreMembers (host_of a) → (v : HostView) → StandsAs (host_of a) v
    → ServesAs input output (begins_of (host_of a)) g.may_fail (member_of (host_of a)).1 (member_of (host_of a)).0 (places_of (host_of a)) v end i o i' o'
serves_from input output end a i o a' i' o' served never members v stands =
    serves_as input output end a i o a' i' o' (begins_of (host_of a)) (member_of (host_of a)).1 (member_of (host_of a)).0 (places_of (host_of a)) v served never
    (record { who = refl; many = refl; over = λ e c begun. begun; are = members; stands = stands })

-- where nothing waits, all is kept
kept_of : {O N I Q : Type 0} {g : Ghosts O N} {h : Nodes N} (input : Inputs I) (output : Outputs Q) (seen : Turns) (a : HostServer O N g h) (i : I) (o : Q) (b : HostServer O N g h) (j : I) (q : Q)
    → ServesBatched host_keeper host_text input output seen [] [] a i o b j q → HaveKept (host_of b)
kept_of {O} {N} {I} {Q} {g} {h} input output seen a i o b j q serves = subst (λ (x : HostServer O N g h). HaveKept (host_of x)) (sym serves.waits.0) serves.kept

pub all_kept : {O N I Q : Type 0} {g : Ghosts O N} {h : Nodes N} (input : Inputs I) (output : Outputs Q) (end : BatchedEnd) (a : HostServer O N g h) (i : I) (o : Q) (a' : HostServer O N g h) (i' : I) (o' : Q)
    → EndsBatchedBy host_keeper host_text input output end a i o a' i' o' → IfAllTold end (HaveKept (host_of a'))
all_kept input output ends.Input a i o a' i' o' (turns, rest, left, serves, up, gives, reads) = kept_of input output turns a i o a' rest o' serves
all_kept input output ends.Crashed a i o a' i' o' (turns, serves, down) = kept_of input output turns a i o a' i' o' serves
all_kept input output ends.Unreadable a i o a' i' o' (turns, rest, serves, up, fails) = kept_of input output turns a i o a' rest o' serves
all_kept input output ends.Uncommitted a i o a' i' o' ended = tt
all_kept input output (ends.Unwritten why) a i o a' i' o' ended = tt
all_kept input output ends.Spent a i o a' i' o' (turns, serves, count) = kept_of input output turns a i o a' i' o' serves
