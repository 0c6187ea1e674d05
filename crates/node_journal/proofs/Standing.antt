-- Why followers that stand still don't go on.
use Rattle.std.proofs.Common.{◌≡◌, ◌≢◌, ◌∙◌, ◌⊎◌, inl, inr, ℕ, ◌+◌, ◌<◌, ◌≤◌, List, length, take, Option, Some}
use Rattle.std.proofs.Common.{Bool, Contains, IfSome, IsTrue}
use Rattle.std.proofs.Common.{get_or, slice_get, sym, ap, subst, arith}
use Rattle.std.proofs.lemmas.Option.{slice_get-get_or, slice_get_within}
use Rattle.ballots.specs.Members.{member_count}
use Rattle.ballots.specs.declared.letters.Letter.{Letter}
use Rattle.ballots.specs.declared.members.Members.{Members}
use Rattle.node_journal.proofs.Orders.{as_records, element, one_further, sound_records, wrote_all}
use Rattle.node_journal.specs.Following.{AreEnded, AreOrdered, AreStill, IsReached}
use Rattle.node_journal.specs.Following.{IsReplayed, IsStill, IsTornAt, IsWaitingAt, IsWhyOfLetter, StandsAt}
use Rattle.node_journal.specs.Following.{StopsSo, Waits}
use Rattle.node_journal.specs.Journal.{Writes}
use Rattle.node_journal.specs.Tears.{AreEndedBefore, IsAtLetter, IsFirst, IsWhy, StandsStill}
use Rattle.node_journal.specs.declared.follower.Follower.{Follower}
use Rattle.node_journal.specs.declared.following.Following.{Following}
use Rattle.node_journal.specs.declared.following.Stop.{Stop}
use Rattle.node_journal.specs.declared.tear.Why.{Why}
use Rattle.node_journal.specs.declared.tear.Why.TheVariants.{OtherReply, Unsent, NoLine}
use Rattle.node_worker.specs.Legal.{IsSound, entries_of, letters_of}
use Rattle.node_worker.specs.declared.entry.Done.{Done}

module _ (journals : List (List ℕ)) (x : Following) (reached : IsReached journals x) where
  -- one more stands still
  abbrev AreSoFar : ℕ → ℕ → Type 0
  AreSoFar count n =
      (j : ℕ) (f : Follower) (text : List ℕ) → j < n → slice_get x.followers.items j ≡ Some f → slice_get journals j ≡ Some text
      → (j < count → IsStill x.sent text f) × IsReplayed f

  pub one_still : (count k : ℕ) (asked : Bool) → StandsAt journals x k asked → (k < count → IsTrue asked) → AreSoFar count k → AreSoFar count (k + 1)
  one_still count k asked s is before =
      one_further (λ (j : ℕ) (g : Follower) (journal : List ℕ). (j < count → IsStill x.sent journal g) × IsReplayed g)
      x.followers.items journals k s.0 s.1 s.2 s.3 (λ below. s.4 (is below), s.5) before

  abbrev records : List Done
  records = reached.order.0

  abbrev ordered : AreOrdered x.followers.items x.sent records
  ordered = reached.order.1

  -- the letter at which a follower stands, by the records
  at_letter : (k : ℕ) (f : Follower) (text : List ℕ) (letter : Letter) → slice_get x.followers.items k ≡ Some f → IsAtLetter f.id f.members text f.kept.entries f.place letter
      → IsAtLetter k x.members text (entries_of k records) f.place letter
  at_letter k f text letter at reads =
      as_records x.members journals x.followers.items x.sent records reached.followed ordered (λ n ms es. IsAtLetter n ms text es f.place letter) k f at reads

  -- a letter that didn't come to a follower didn't come by the records
  not_come : (k : ℕ) (f : Follower) (letter : Letter) → slice_get x.followers.items k ≡ Some f → ¬ ((letter.to ≡ f.id) × Contains x.sent letter) → ¬ ((letter.to ≡ k) × Contains (letters_of records) letter)
  not_come k f letter at never come =
      never (come.0 ∙ sym (reached.followed.numbered k f at).0, subst (λ (ls : List Letter). Contains ls letter) ordered.letters come.1)

  still_so : (k : ℕ) (f : Follower) (text : List ℕ) → slice_get x.followers.items k ≡ Some f → slice_get journals k ≡ Some text → IsStill x.sent text f
      → StandsStill (letters_of records) k x.members text (entries_of k records)
  still_so k f text at there (inl end) = inl (wrote_all x.members journals x.followers.items x.sent records reached.followed ordered k f text at there end)
  still_so k f text at there (inr (letter, waits)) = inr (f.place, letter, at_letter k f text letter at waits.0, not_come k f letter at waits.1)

  some_still : (count : ℕ) → AreStill journals x count → (j : ℕ) (text : List ℕ) → j < count → slice_get journals j ≡ Some text
      → StandsStill (letters_of records) j x.members text (entries_of j records)
  some_still count still j text below at =
      let within : j < length x.followers.items = subst (λ n. j < n) (reached.followed.each ∙ sym reached.followed.many) (slice_get_within journals j text at) in
      let f = element x.followers.items j within in
      still_so j f.0 text f.1 at ((still j f.0 text f.1 at).0 below)

  is_sound : (count : ℕ) → AreStill journals x count → IsSound (member_count x.members) records
  is_sound count still =
      sound_records x.members journals x.followers.items x.sent records reached.followed ordered (λ j g words has got. (still j g words has got).1)

  -- and the journal of a follower is the first that doesn't go on, if those before it stand still
  is_first : (count : ℕ) → AreStill journals x count → (k : ℕ) (f : Follower) (text : List ℕ) → k ≤ count
      → slice_get x.followers.items k ≡ Some f → slice_get journals k ≡ Some text → IsFirst x.members journals k text f.place
  is_first count still k f text within at there = record {
    records = records;
    sound = is_sound count still;
    here = (
      f.phase,
      as_records x.members journals x.followers.items x.sent records reached.followed ordered
          (λ n ms es. Writes n ms (take f.place text) es f.phase) k f at (reached.followed.followed k f text at there).written,
    );
    before = λ j words below is. some_still count still j words (omega (arith, below, within)) is;
  }

  all_ended : (k : ℕ) → AreEnded journals x k → AreEndedBefore x.members journals k records
  all_ended k ended j text below at =
      let within : j < length x.followers.items = subst (λ n. j < n) (reached.followed.each ∙ sym reached.followed.many) (slice_get_within journals j text at) in
      let f = element x.followers.items j within in
      wrote_all x.members journals x.followers.items x.sent records reached.followed ordered j f.0 text f.1 at (ended j f.0 text below f.1 at)

  why_so : AreStill journals x (length journals) → (k : ℕ) → AreEnded journals x k → (f : Follower) (text : List ℕ) (letter : Letter) (why : Why)
      → slice_get x.followers.items k ≡ Some f → slice_get journals k ≡ Some text → Waits x.sent text f letter
      → IsWhyOfLetter x.members f.id letter why → IsWhy x.members journals k text f.place why
  why_so still k ended f text letter NoLine at there waits is =
      let id = (reached.followed.numbered k f at).0 in
      let other = subst (λ (n : ℕ). (letter.to ≢ n) ⊎ (member_count x.members ≤ letter.from)) id is in
      let within : k < length journals = slice_get_within journals k text there in (
        inr (entries_of k records, letter, at_letter k f text letter at waits.0, other),
        is_first (length journals) still k f text (omega (arith, within)) at there,
      )
  why_so still k ended f text letter (Unsent n) at there waits is =
      let to : letter.to ≡ k = is.0 ∙ (reached.followed.numbered k f at).0 in
      record {
        records = records;
        sound = is_sound (length journals) still;
        still = λ j words has. some_still (length journals) still j words (slice_get_within journals j words has) has;
        ended = all_ended k ended;
        letter = letter;
        reads = at_letter k f text letter at waits.0;
        to = to;
        from = is.1;
        member = is.2;
        unsent = λ sent. not_come k f letter at waits.1 (to, sent);
      }
  why_so still k ended f text letter OtherReply at there waits is = absurd is

  -- so a follower stops that waits where all stand still
  pub stops_waiting : AreStill journals x (length journals) → (k : ℕ) → AreEnded journals x k → (s : Stop) → IsWaitingAt journals x k s
      → StopsSo x.members journals s
  stops_waiting still k ended s w = (
    w.text,
    subst (λ (n : ℕ). slice_get journals n ≡ Some w.text) (sym w.number) w.journal,
    subst (λ (n : ℕ). IsWhy x.members journals n w.text s.place s.why) (sym w.number)
        (subst (λ (p : ℕ). IsWhy x.members journals k w.text p s.why) (sym w.place)
        (why_so still k ended w.follower w.text w.letter s.why w.there w.journal w.waits w.why)),
  )

  torn_so : (k : ℕ) → AreStill journals x k → (f : Follower) (text : List ℕ) (why : Why) → slice_get x.followers.items k ≡ Some f → slice_get journals k ≡ Some text
      → f.why ≡ Some why → IsWhy x.members journals k text f.place why
  torn_so k still f text why at there is = by_why why (subst (λ (w : Option Why). IfSome w (IsTornAt k x.members text f.place)) is named)
    where
      named : IfSome f.why (IsTornAt k x.members text f.place)
      named =
          subst (λ (ms : Members). IfSome f.why (IsTornAt k ms text f.place)) (reached.followed.numbered k f at).1
          (subst (λ (n : ℕ). IfSome f.why (IsTornAt n f.members text f.place)) (reached.followed.numbered k f at).0 (reached.followed.followed k f text at there).torn)

      by_why : (w : Why) → IsTornAt k x.members text f.place w → IsWhy x.members journals k text f.place w
      by_why OtherReply torn = (torn, is_first k still k f text (omega arith) at there)
      by_why NoLine torn = (torn, is_first k still k f text (omega arith) at there)
      by_why (Unsent n) torn = absurd torn

  -- and so one that is torn
  pub stops_torn : (k : ℕ) → AreStill journals x k → (f : Follower) (why : Why) → k < length journals → f ≡ get_or x.followers.items k f → f.why ≡ Some why
      → (text : List ℕ) × (slice_get journals k ≡ Some text) × IsWhy x.members journals k text f.place why
  stops_torn k still f why within f_is is =
      let many : length x.followers.items ≡ length journals = reached.followed.many ∙ sym reached.followed.each in
      let text = element journals k within in
      let at : slice_get x.followers.items k ≡ Some f = slice_get-get_or x.followers.items k f (omega (arith, many, within)) ∙ ap (λ (g : Follower). Some g) (sym f_is) in
      (text.0, text.1, torn_so k still f text.0 why at text.1 is)
