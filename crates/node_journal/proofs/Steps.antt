-- A step of one who follows a journal.
use Rattle.std.proofs.Common.{◌≡◌, ◌∙◌, inl, inr, ℕ, ◌+◌, ◌≤◌, List, [], ◌∷◌, ◌++◌, Vec, length, take, drop, refl, sym}
use Rattle.std.proofs.Common.{◌≢◌, ◌⊎◌, ◌<◌, Option, Some, None, IfSome, IsTrue, slice_get, ap, subst, arith}
use Rattle.std.specs.Option.{MatchOption}
use Rattle.std.proofs.lemmas.List.{append-nil}
use Rattle.std.specs.declared.alloc.Global.{Global}
use Rattle.ballots.specs.Members.{member_count}
use Rattle.ballots.specs.declared.letters.Letter.{Letter}
use Rattle.ballots.specs.declared.members.Members.{Members}
use Rattle.node_journal.proofs.Pieces.{behind_line, common_part, common_whole, fits, goes_there, line_part, line_size}
use Rattle.node_journal.proofs.Pieces.{took}
use Rattle.node_journal.specs.Following.{Adds, IsCrashPart, IsDoubtOf, IsFollowed, IsHalf, IsOfLife, IsQuiet, IsTornAt}
use Rattle.node_journal.specs.Following.{IsWholeCrash, SamePlace, Steps, Works, WorksAs}
use Rattle.node_journal.specs.Tears.{Gives, GoesOn, GoesOtherwise, IsAtLetter, IsAtLife}
use Rattle.node_journal.specs.Tears.IsAtLife.{at_first, in_first, in_next, behind_crash}
use Rattle.node_journal.specs.declared.replies.CrashPart.{CrashPart}
use Rattle.node_journal.specs.declared.tear.Why.{Why}
use Rattle.node_journal.specs.declared.tear.Why.TheVariants.{OtherReply, NoLine}
use Rattle.node_journal.specs.Journal.{Writes, fresh_head, restarted_head}
use Rattle.node_journal.specs.Journal.Writes.{nothing, begins, begins_part, replies, refuses, ends, ends_before}
use Rattle.node_journal.specs.Journal.Writes.{ends_refusing, ends_behind, idles, crashes, restarts, restarts_part}
use Rattle.node_journal.specs.Turns.{BeginsWith, IsTurn, cause_of, crash_entry, restart_entry}
use Rattle.node_journal.specs.declared.follower.Follower.{Follower}
use Rattle.node_journal.specs.declared.follower.Step.{Step}
use Rattle.node_journal.specs.declared.follower.Step.TheVariants.{Did, Moved, Waits, Ends, Torn}
use Rattle.node_journal.specs.declared.phase.Phase.{Phase}
use Rattle.node_journal.specs.declared.phase.Phase.TheVariants.{Unborn, Up, Cut, Down}
use Rattle.node_lines.specs.Input.{IsLine}
use Rattle.node_lines.specs.Lines.{Asks}
use Rattle.node_lines.specs.declared.fault.LineFault.{LineFault}
use Rattle.node_lines.specs.declared.request.Request.{Request}
use Rattle.node_lines.specs.declared.request.Request.TheVariants as request
use Rattle.node_service.specs.Incoming.{IsTurnedAway}
use Rattle.node_service.specs.Texts.{acted_text, refused_text}
use Rattle.node_worker.specs.Entries.{EntryView}
use Rattle.node_worker.specs.Legal.{Comes}
use Rattle.node_worker.specs.declared.entry.Cause.{Cause}
use Rattle.node.specs.View.{Standing}
use Rattle.node_worker.specs.KeptView.{IsReplay}
use Rattle.node_worker.specs.Replays.{ReplaysTo}
use Rattle.seats.specs.Acted.{letters_of}
use Rattle.seats.specs.declared.acted.Acted.{Acted}
use Rattle.seats.specs.declared.acted.Acted.TheVariants.{Fault}

-- a node of which no life began did nothing
unborn_idle : {me : ℕ} {members : Members} {text : List ℕ} {done : List EntryView} → Writes me members text done Unborn → done ≡ []
unborn_idle nothing = refl
unborn_idle (idles text written) = refl

pub same_place : (f : Follower) → SamePlace f f
same_place f = record { id = refl; members = refl; place = refl; phase = refl; why = refl; node = refl; count = refl }

-- what it wrote, in this phase
pub written_in : (text : List ℕ) (f : Follower) (phase : Phase) → IsFollowed text f → f.phase ≡ phase → Writes f.id f.members (take f.place text) f.kept.entries phase
written_in text f phase old is = subst (λ (p : Phase). Writes f.id f.members (take f.place text) f.kept.entries p) is old.written

followed_on : (text : List ℕ) (f g : Follower) (part : List ℕ) (n : ℕ) (phase : Phase) (why : Option Why) → IsFollowed text f → SamePlace f g → length part ≡ n → BeginsWith part (drop f.place text)
    → Writes f.id f.members (take f.place text ++ part) g.kept.entries phase → IfSome why (IsTornAt f.id f.members text (f.place + n))
    → IsFollowed text (record g { place = g.place + n; phase = phase; why = why })
followed_on text f g part n phase why old same size begun written torn =
    let at : take (g.place + n) text ≡ take f.place text ++ part = ap (λ p. take (p + n) text) same.place ∙ (ap (λ m. take (f.place + m) text) (sym size) ∙ took text part begun.0 f.place begun.1) in
    let fitting : f.place + n ≤ length text = subst (λ m. f.place + m ≤ length text) size (fits text part begun.0 f.place old.within begun.1) in
    record {
      node = same.node ∙ (old.node ∙ sym same.id);
      members = same.count ∙ (old.members ∙ ap member_count (sym same.members));
      within = subst (λ p. p + n ≤ length text) (sym same.place) fitting;
      written = subst (λ (me : ℕ). Writes me g.members (take (g.place + n) text) g.kept.entries phase) (sym same.id)
          (subst (λ (ms : Members). Writes f.id ms (take (g.place + n) text) g.kept.entries phase) (sym same.members)
          (subst (λ (t : List ℕ). Writes f.id f.members t g.kept.entries phase) (sym at) written));
      torn = subst (λ (me : ℕ). IfSome why (IsTornAt me g.members text (g.place + n))) (sym same.id)
          (subst (λ (ms : Members). IfSome why (IsTornAt f.id ms text (g.place + n))) (sym same.members)
          (subst (λ (p : ℕ). IfSome why (IsTornAt f.id f.members text (p + n))) (sym same.place) torn));
    }

adds_none : (sent : List Letter) (me : ℕ) (old new : List EntryView) (step : Step) → IsQuiet step → new ≡ old → Adds sent me old step new
adds_none sent me old new (Did letters) quiet same = absurd quiet
adds_none sent me old new Moved quiet same = same
adds_none sent me old new Waits quiet same = same
adds_none sent me old new Ends quiet same = same
adds_none sent me old new Torn quiet same = same

-- the journal goes on by a part, and the node did nothing
moved : (text : List ℕ) (sent : List Letter) (f : Follower) (part : List ℕ) (n : ℕ) (phase : Phase) (why : Option Why) (step : Step) → IsFollowed text f → IsQuiet step → length part ≡ n → BeginsWith part (drop f.place text)
    → Writes f.id f.members (take f.place text ++ part) f.kept.entries phase → IfSome why (IsTornAt f.id f.members text (f.place + n))
    → Steps text sent f step (record f { place = f.place + n; phase = phase; why = why })
moved text sent f part n phase why step old quiet size begun written torn = record {
  followed = followed_on text f f part n phase why old (same_place f) size begun written torn;
  id = refl;
  members = refl;
  adds = adds_none sent f.id f.kept.entries f.kept.entries step quiet refl;
}

-- the same where it did something
did : (text : List ℕ) (sent : List Letter) (f g : Follower) (part : List ℕ) (n : ℕ) (phase : Phase) (why : Option Why) (e : EntryView) (letters : Vec Letter Global) → IsFollowed text f → SamePlace f g
    → g.kept.entries ≡ f.kept.entries ++ e ∷ [] → letters.items ≡ e.letters → Comes sent f.id e.cause → length part ≡ n → BeginsWith part (drop f.place text)
    → Writes f.id f.members (take f.place text ++ part) (f.kept.entries ++ e ∷ []) phase → IfSome why (IsTornAt f.id f.members text (f.place + n))
    → Steps text sent f (Did letters) (record g { place = g.place + n; phase = phase; why = why })
did text sent f g part n phase why e letters old same added given comes size begun written torn = record {
  followed = followed_on text f g part n phase why old same size begun (subst (λ (es : List EntryView). Writes f.id f.members (take f.place text ++ part) es phase) (sym added) written) torn;
  id = same.id;
  members = same.members;
  adds = (e, added, given, comes);
}

-- what is known of why it is torn stays where it stays
torn_here : (text : List ℕ) (f : Follower) → IsFollowed text f → IfSome f.why (IsTornAt f.id f.members text (f.place + 0))
torn_here text f old = let here : f.place ≡ f.place + 0 = omega arith in subst (λ (p : ℕ). IfSome f.why (IsTornAt f.id f.members text p)) here old.torn

-- why it is torn within the first lines of a life
life_torn : (text : List ℕ) (f : Follower) (part : List ℕ) (n : ℕ) (why : Option Why) → IsFollowed text f → length part ≡ n → BeginsWith part (drop f.place text)
    → (part ≢ [] → IsAtLife f.id f.members (take f.place text ++ part)) → IsOfLife f (drop f.place text) n why
    → IfSome why (IsTornAt f.id f.members text (f.place + n))
life_torn text f part n why old size begun at_life (inl (none, was)) =
    let here : f.place ≡ f.place + n = omega (arith, none) in
    subst (λ (p : ℕ). IfSome why (IsTornAt f.id f.members text p)) here (subst (λ (w : Option Why). IfSome w (IsTornAt f.id f.members text f.place)) (sym was) old.torn)
life_torn text f part n None old size begun at_life (inr goes) = tt
life_torn text f part n (Some w) old size begun at_life (inr (is, where_it, goes)) =
    subst (λ (why : Why). IsTornAt f.id f.members text (f.place + n) why) (sym is) (inl (in_life part size begun at_life where_it, goes_there text f.place n goes))
  where
    in_life : (part : List ℕ) → length part ≡ n → BeginsWith part (drop f.place text) → (part ≢ [] → IsAtLife f.id f.members (take f.place text ++ part)) → (0 < n) ⊎ (f.place ≡ 0)
        → IsAtLife f.id f.members (take (f.place + n) text)
    in_life [] size begun at_life (inl some) = absurd (omega (arith, size, some))
    in_life [] size begun at_life (inr first) =
        let none : 0 ≡ f.place + n = omega (arith, size, first) in
        subst (λ (p : ℕ). IsAtLife f.id f.members (take p text)) none at_first
    in_life (b ∷ bs) size begun at_life either =
        let some : b ∷ bs ≢ [] = λ is. absurd (cc (is)) in
        let at : take (f.place + n) text ≡ take f.place text ++ (b ∷ bs) = ap (λ m. take (f.place + m) text) (sym size) ∙ took text (b ∷ bs) begun.0 f.place begun.1 in
        subst (λ (t : List ℕ). IsAtLife f.id f.members t) (sym at) (at_life some)

pub begins_whole : (text : List ℕ) (sent : List Letter) (f : Follower) (head : List ℕ) (n : ℕ) → IsFollowed text f → f.phase ≡ Unborn → head ≡ fresh_head f.id f.members
    → take n (drop f.place text) ≡ take n head → n ≡ length head → Steps text sent f Moved (record f { place = f.place + n; phase = Up; why = None })
begins_whole text sent f head n old is head_is same whole =
    let w = written_in text f Unborn old is in
    let none : f.kept.entries ≡ [] = unborn_idle w in
    let before : Writes f.id f.members (take f.place text) [] Unborn = subst (λ (es : List EntryView). Writes f.id f.members (take f.place text) es Unborn) none w in
    moved text sent f head n Up None Moved old tt (sym whole) (common_whole (drop f.place text) head n whole same)
    (subst (λ (es : List EntryView). Writes f.id f.members (take f.place text ++ head) es Up) (sym none)
    (subst (λ (h : List ℕ). Writes f.id f.members (take f.place text ++ h) [] Up) (sym head_is) (begins (take f.place text) before))) tt

pub begins_in_part : (text : List ℕ) (sent : List Letter) (f : Follower) (head : List ℕ) (n : ℕ) (why : Option Why) (step : Step) → IsFollowed text f → f.phase ≡ Unborn → head ≡ fresh_head f.id f.members
    → n ≤ length (drop f.place text) → take n (drop f.place text) ≡ take n head → IsQuiet step → IsOfLife f (drop f.place text) n why
    → Steps text sent f step (record f { place = f.place + n; phase = Cut; why = why })
begins_in_part text sent f head n why step old is head_is within same quiet of_life =
    let w = written_in text f Unborn old is in
    let none : f.kept.entries ≡ [] = unborn_idle w in
    let before : Writes f.id f.members (take f.place text) [] Unborn = subst (λ (es : List EntryView). Writes f.id f.members (take f.place text) es Unborn) none w in
    let common = common_part (drop f.place text) head n within same in
    let begun = subst (λ (h : List ℕ). BeginsWith common.0 h) head_is common.3 in
    moved text sent f common.0 n Cut why step old quiet common.1 common.2
    (subst (λ (es : List EntryView). Writes f.id f.members (take f.place text ++ common.0) es Cut) (sym none)
    (begins_part (take f.place text) common.0 before begun))
    (life_torn text f common.0 n why old common.1 common.2 (λ some. in_first (take f.place text) common.0 f.kept.entries w begun some) of_life)

pub starts_whole : (text : List ℕ) (sent : List Letter) (f g : Follower) (head : List ℕ) (n : ℕ) (letters : Vec Letter Global) → IsFollowed text f → f.phase ≡ Down → head ≡ restarted_head f.id f.members
    → take n (drop f.place text) ≡ take n head → n ≡ length head → WorksAs restart_entry f g → letters.items ≡ [] → Steps text sent f (Did letters) (record g { place = g.place + n; phase = Up; why = None })
starts_whole text sent f g head n letters old is head_is same whole works none =
    did text sent f g head n Up None restart_entry letters old works.same works.added none tt (sym whole) (common_whole (drop f.place text) head n whole same)
    (subst (λ (h : List ℕ). Writes f.id f.members (take f.place text ++ h) (f.kept.entries ++ restart_entry ∷ []) Up) (sym head_is)
    (restarts (take f.place text) f.kept.entries (written_in text f Down old is))) tt

pub starts_in_part : (text : List ℕ) (sent : List Letter) (f : Follower) (head : List ℕ) (n : ℕ) (why : Option Why) (step : Step) → IsFollowed text f → f.phase ≡ Down → head ≡ restarted_head f.id f.members
    → n ≤ length (drop f.place text) → take n (drop f.place text) ≡ take n head → IsQuiet step → IsOfLife f (drop f.place text) n why
    → Steps text sent f step (record f { place = f.place + n; phase = Down; why = why })
starts_in_part text sent f head n why step old is head_is within same quiet of_life =
    let common = common_part (drop f.place text) head n within same in
    let w = written_in text f Down old is in
    let begun = subst (λ (h : List ℕ). BeginsWith common.0 h) head_is common.3 in
    moved text sent f common.0 n Down why step old quiet common.1 common.2
    (restarts_part (take f.place text) f.kept.entries common.0 w begun)
    (life_torn text f common.0 n why old common.1 common.2 (λ some. in_next (take f.place text) common.0 f.kept.entries w begun some) of_life)

-- nothing is read
no_part : (text : List ℕ) (f : Follower) (done : List EntryView) (phase : Phase) → Writes f.id f.members (take f.place text) done phase → Writes f.id f.members (take f.place text ++ []) done phase
no_part text f done phase written = subst (λ (t : List ℕ). Writes f.id f.members t done phase) (sym (append-nil (take f.place text))) written

pub ends_idle : (text : List ℕ) (sent : List Letter) (f : Follower) → IsFollowed text f → f.phase ≡ Cut → f.kept.entries ≡ [] → Steps text sent f Moved (record f { place = f.place + 0; phase = Unborn; why = f.why })
ends_idle text sent f old is none =
    let before : Writes f.id f.members (take f.place text) [] Cut = subst (λ (es : List EntryView). Writes f.id f.members (take f.place text) es Cut) none (written_in text f Cut old is) in
    moved text sent f [] 0 Unborn f.why Moved old tt refl (drop f.place text, refl)
    (no_part text f f.kept.entries Unborn (subst (λ (es : List EntryView). Writes f.id f.members (take f.place text) es Unborn) (sym none) (idles (take f.place text) before)))
    (torn_here text f old)

pub ends_crashed : (text : List ℕ) (sent : List Letter) (f g : Follower) (letters : Vec Letter Global) → IsFollowed text f → f.phase ≡ Cut → WorksAs crash_entry f g → letters.items ≡ []
    → Steps text sent f (Did letters) (record g { place = g.place + 0; phase = Down; why = f.why })
ends_crashed text sent f g letters old is works none =
    did text sent f g [] 0 Down f.why crash_entry letters old works.same works.added none tt refl (drop f.place text, refl)
    (no_part text f (f.kept.entries ++ crash_entry ∷ []) Down (crashes (take f.place text) f.kept.entries (written_in text f Cut old is)))
    (torn_here text f old)

-- a line is there, with what stands behind it
module _ (text : List ℕ) (sent : List Letter) (f : Follower) (line after : List ℕ) (old : IsFollowed text f) (is : f.phase ≡ Up) (at : drop f.place text ≡ line ++ 10 ∷ after) (whole : IsLine line) where
  -- so far the journal goes, and so it goes on
  so_far : (part : List ℕ) (n : ℕ) → length part ≡ n → BeginsWith part after → take (f.place + (length line + 1 + n)) text ≡ take f.place text ++ (line ++ 10 ∷ part)
  so_far part n size begun =
      let behind = line_part (drop f.place text) line after part at begun in
      ap (λ m. take (f.place + m) text) (sym (line_size line part n size)) ∙ took text (line ++ 10 ∷ part) behind.0 f.place behind.1

  -- why it is torn within a reply
  reply_torn : (reply part : List ℕ) (n : ℕ) (why : Option Why) → Gives f.id f.members f.kept.entries line reply → length part ≡ n → BeginsWith part after → BeginsWith part reply
      → IfSome why (λ w. (w ≡ OtherReply) × GoesOtherwise after n reply n) → IfSome why (IsTornAt f.id f.members text (f.place + (length line + 1 + n)))
  reply_torn reply part n None gives size begun begins_reply otherwise = tt
  reply_torn reply part n (Some w) gives size begun begins_reply (is_other, otherwise) =
      subst (λ (why : Why). IsTornAt f.id f.members text (f.place + (length line + 1 + n)) why) (sym is_other) record {
        before = take f.place text;
        done = f.kept.entries;
        up = written_in text f Up old is;
        line = line;
        whole = whole;
        reply = reply;
        gives = gives;
        part = part;
        begins = begins_reply;
        so_far = so_far part n size begun;
        otherwise = subst (λ (k : ℕ). GoesOtherwise text (f.place + (length line + 1 + n)) reply k) (sym size)
            (subst (λ (o : Option ℕ). MatchOption o ⊥ (λ byte. MatchOption (slice_get reply n) ⊥ (λ owed. (byte ≢ 10) × (byte ≢ owed)))) (sym (behind_line text line after f.place n at)) otherwise);
      }

  -- why it is torn behind the reply that the node crashed
  crash_torn : (p : CrashPart) (why : Option Why) (asked : Request) → Asks line asked → (IsTrue p.is_whole → IsWholeCrash after p.count) → IfSome why (λ w. (w ≡ NoLine) × IsTrue p.is_whole × GoesOn after p.count)
      → IfSome why (IsTornAt f.id f.members text (f.place + (length line + 1 + p.count)))
  crash_torn p None asked asks crashed goes = tt
  crash_torn p (Some w) asked asks crashed (is_none, all, goes) =
      let crash = crashed all in
      let at_life = behind_crash (take f.place text) line f.kept.entries asked crash.0 (written_in text f Up old is) whole asks crash.1 in
      subst (λ (why : Why). IsTornAt f.id f.members text (f.place + (length line + 1 + p.count)) why) (sym is_none)
      (inl (
        subst (λ (t : List ℕ). IsAtLife f.id f.members t) (sym (so_far (acted_text (Fault crash.0)) p.count crash.2 crash.3)) at_life,
        subst (λ (o : Option ℕ). MatchOption o ⊥ (λ byte. byte ≢ 10)) (sym (behind_line text line after f.place p.count at)) goes,
      ))

  pub refuses_whole : (why : LineFault) (reply : List ℕ) (n : ℕ) → IsTurnedAway line why → reply ≡ refused_text why → take n after ≡ take n reply → n ≡ length reply
      → Steps text sent f Moved (record f { place = f.place + (length line + 1 + n); phase = Up; why = None })
  refuses_whole why reply n away told same all =
      moved text sent f (line ++ 10 ∷ reply) (length line + 1 + n) Up None Moved old tt (line_size line reply n (sym all)) (line_part (drop f.place text) line after reply at (common_whole after reply n all same))
      (subst (λ (r : List ℕ). Writes f.id f.members (take f.place text ++ (line ++ 10 ∷ r)) f.kept.entries Up) (sym told)
      (refuses (take f.place text) f.kept.entries line why (written_in text f Up old is) whole away)) tt

  pub refuses_in_part : (why : LineFault) (reply : List ℕ) (n : ℕ) (torn : Option Why) → IsTurnedAway line why → reply ≡ refused_text why → n ≤ length after → take n after ≡ take n reply
      → IfSome torn (λ w. (w ≡ OtherReply) × GoesOtherwise after n reply n)
      → Steps text sent f Moved (record f { place = f.place + (length line + 1 + n); phase = Cut; why = torn })
  refuses_in_part why reply n torn away told within same otherwise =
      let common = common_part after reply n within same in
      moved text sent f (line ++ 10 ∷ common.0) (length line + 1 + n) Cut torn Moved old tt (line_size line common.0 n common.1) (line_part (drop f.place text) line after common.0 at common.2)
      (ends_refusing (take f.place text) f.kept.entries line why common.0 (written_in text f Up old is) whole away (subst (λ (r : List ℕ). BeginsWith common.0 r) told common.3))
      (reply_torn reply common.0 n torn (inl (why, away, told)) common.1 common.2 common.3 otherwise)

  pub leaves : (p : CrashPart) (torn : Option Why) → ((asked : Request) × Asks line asked) → IsCrashPart after p
      → IfSome torn (λ w. (w ≡ NoLine) × IsTrue p.is_whole × GoesOn after p.count)
      → Steps text sent f Moved (record f { place = f.place + (length line + 1 + p.count); phase = Cut; why = torn })
  leaves p torn (asked, asks) (left, crashed) goes =
      let n = p.count in
      moved text sent f (line ++ 10 ∷ left.0) (length line + 1 + n) Cut torn Moved old tt (line_size line left.0 n left.1) (line_part (drop f.place text) line after left.0 at left.2)
      (ends_before (take f.place text) f.kept.entries line asked left.0 (written_in text f Up old is) whole asks left.3)
      (crash_torn p torn asked asks crashed goes)

  -- the line asked for what the node did
  turn_of : (g : Follower) (asked : Request) (acted : Acted) (cause : Cause) (works : Works cause f acted g) → cause ≡ cause_of asked → Asks line asked → IsTurn line works.entry (acted_text acted)
  turn_of g asked acted cause works causes asks = record {
    whole = whole;
    asked = asked;
    asks = asks;
    cause = works.causes ∙ causes;
    acted = acted;
    tells = works.tells;
    text = refl;
  }

  -- and so the reply is the one that it gives
  answers : (g : Follower) (asked : Request) (acted : Acted) (cause : Cause) (reply : List ℕ) → IsReplay g.kept → IsTrue g.kept.honest → Works cause f acted g → cause ≡ cause_of asked → Asks line asked → reply ≡ acted_text acted
      → (e : EntryView) × IsTurn line e reply × ((t : Standing) × ReplaysTo (member_count f.members) f.id (f.kept.entries ++ e ∷ []) t)
  answers g asked acted cause reply replay honest works causes asks told =
      let t = replay honest in
      let id : g.kept.node ≡ f.id = works.same.node ∙ old.node in
      let count : g.kept.members ≡ member_count f.members = works.same.count ∙ old.members in (
        works.entry,
        subst (λ (r : List ℕ). IsTurn line works.entry r) (sym told) (turn_of g asked acted cause works causes asks),
        (
          t.0,
          subst (λ (es : List EntryView). ReplaysTo (member_count f.members) f.id es t.0) works.added
              (subst (λ (n : ℕ). ReplaysTo (member_count f.members) n g.kept.entries t.0) id
              (subst (λ (m : ℕ). ReplaysTo m g.kept.node g.kept.entries t.0) count t.1)),
        ),
      )

  came : (g : Follower) (asked : Request) (acted : Acted) (cause : Cause) (works : Works cause f acted g) → cause ≡ cause_of asked → Comes sent f.id (cause_of asked) → Comes sent f.id works.entry.cause
  came g asked acted cause works causes comes = subst (λ (x : Cause). Comes sent f.id x) (sym (works.causes ∙ causes)) comes

  pub stops_behind : (g : Follower) (asked : Request) (acted : Acted) (cause : Cause) (letters : Vec Letter Global) (p : CrashPart) (torn : Option Why) → Works cause f acted g → cause ≡ cause_of asked → Asks line asked
      → letters.items ≡ letters_of acted → IsDoubtOf after p.count → (IsTrue p.is_whole → IsWholeCrash after p.count) → Comes sent f.id (cause_of asked)
      → IfSome torn (λ w. (w ≡ NoLine) × IsTrue p.is_whole × GoesOn after p.count)
      → Steps text sent f (Did letters) (record g { place = g.place + (length line + 1 + p.count); phase = Cut; why = torn })
  stops_behind g asked acted cause letters p torn works causes asks given stop crashed comes goes =
      let n = p.count in
      did text sent f g (line ++ 10 ∷ stop.0) (length line + 1 + n) Cut torn works.entry letters old works.same works.added (given ∙ works.tells.letters) (came g asked acted cause works causes comes)
      (line_size line stop.0 n stop.1) (line_part (drop f.place text) line after stop.0 at stop.2)
      (ends_behind (take f.place text) f.kept.entries line works.entry (acted_text acted) stop.0 (written_in text f Up old is) (turn_of g asked acted cause works causes asks) (inr stop.3))
      (crash_torn p torn asked asks crashed goes)

  pub obeys_whole : (g : Follower) (asked : Request) (acted : Acted) (cause : Cause) (letters : Vec Letter Global) (reply : List ℕ) (n : ℕ) → Works cause f acted g → cause ≡ cause_of asked → Asks line asked
      → letters.items ≡ letters_of acted → reply ≡ acted_text acted → take n after ≡ take n reply → n ≡ length reply → Comes sent f.id (cause_of asked)
      → Steps text sent f (Did letters) (record g { place = g.place + (length line + 1 + n); phase = Up; why = None })
  obeys_whole g asked acted cause letters reply n works causes asks given told same all comes =
      did text sent f g (line ++ 10 ∷ reply) (length line + 1 + n) Up None works.entry letters old works.same works.added (given ∙ works.tells.letters) (came g asked acted cause works causes comes)
      (line_size line reply n (sym all)) (line_part (drop f.place text) line after reply at (common_whole after reply n all same))
      (subst (λ (r : List ℕ). Writes f.id f.members (take f.place text ++ (line ++ 10 ∷ r)) (f.kept.entries ++ works.entry ∷ []) Up) (sym told)
      (replies (take f.place text) f.kept.entries line works.entry (acted_text acted) (written_in text f Up old is) (turn_of g asked acted cause works causes asks))) tt

  pub obeys_in_part : (g : Follower) (asked : Request) (acted : Acted) (cause : Cause) (letters : Vec Letter Global) (reply : List ℕ) (n : ℕ) (torn : Option Why) → IsReplay g.kept → IsTrue g.kept.honest → Works cause f acted g → cause ≡ cause_of asked → Asks line asked
      → letters.items ≡ letters_of acted → reply ≡ acted_text acted → n ≤ length after → take n after ≡ take n reply → Comes sent f.id (cause_of asked)
      → IfSome torn (λ w. (w ≡ OtherReply) × GoesOtherwise after n reply n)
      → Steps text sent f (Did letters) (record g { place = g.place + (length line + 1 + n); phase = Cut; why = torn })
  obeys_in_part g asked acted cause letters reply n torn replay honest works causes asks given told within same comes otherwise =
      let common = common_part after reply n within same in
      did text sent f g (line ++ 10 ∷ common.0) (length line + 1 + n) Cut torn works.entry letters old works.same works.added (given ∙ works.tells.letters) (came g asked acted cause works causes comes)
      (line_size line common.0 n common.1) (line_part (drop f.place text) line after common.0 at common.2)
      (ends_behind (take f.place text) f.kept.entries line works.entry (acted_text acted) common.0 (written_in text f Up old is) (turn_of g asked acted cause works causes asks)
      (inl (subst (λ (r : List ℕ). BeginsWith common.0 r) told common.3)))
      (reply_torn reply common.0 n torn (inr (answers g asked acted cause reply replay honest works causes asks told)) common.1 common.2 common.3 otherwise)

pub halves : (text : List ℕ) (sent : List Letter) (f : Follower) (n : ℕ) → IsFollowed text f → f.phase ≡ Up → IsHalf (drop f.place text) n → Steps text sent f Moved (record f { place = f.place + n; phase = Cut; why = None })
halves text sent f n old is half =
    moved text sent f half.0 n Cut None Moved old tt half.1 half.2 (ends (take f.place text) f.kept.entries half.0 (written_in text f Up old is) half.3) tt

-- the letter that is read where it stands
pub letter_there : (text : List ℕ) (f : Follower) (line after : List ℕ) (letter : Letter) → IsFollowed text f → f.phase ≡ Up → drop f.place text ≡ line ++ 10 ∷ after → IsLine line → Asks line (request.Letter letter)
    → IsAtLetter f.id f.members text f.kept.entries f.place letter
letter_there text f line after letter old is at whole asks = record {
  up = written_in text f Up old is;
  line = line;
  after = after;
  behind = at;
  whole = whole;
  asks = asks;
}
