-- Which of some states counts, and which of one more.
use Rattle.std.proofs.Common.{◌≡◌, ◌∙◌, sym, ap, subst, inl, inr, arith, ℕ, ◌<◌, ◌≤◌, List, [], ◌∷◌, ◌++◌, Option}
use Rattle.std.proofs.Common.{Some, None}
use Rattle.std.proofs.Common.{Bool, ◌+◌, length, take, get_or}
use Rattle.std.specs.Prelude.{Contains, MatchOption, if◌then◌else◌}
use Rattle.std.proofs.lemmas.Bool.{cases_lt, le-ltb, lt-ltb}
use Rattle.std.proofs.lemmas.List.{take_more}
use Rattle.std.proofs.lemmas.List.Elements.{Contains-append_left, Contains-push, Contains-push_cases}
use Rattle.flow_state.specs.Rows.{Rows}
use Rattle.host_states.specs.declared.head.StateHead.{StateHead}
use Rattle.stored_hosts.specs.Finding.{Counts, IsBest, IsWhole, NoneCounts, later}
use Rattle.stored_hosts.specs.declared.finding.StateFile.{StateFile}

-- none of no files
pub none_of_none : NoneCounts []
none_of_none file head rows (k, within, is) = omega (arith, within)

module _ (files : List StateFile) (file : StateFile) where
  abbrev more : List StateFile
  more = files ++ file ∷ []

  old_or_new : (P : StateFile → Type 0) → ((other : StateFile) → Contains files other → P other) → P file → (other : StateFile) → Contains more other → P other
  old_or_new P old new other is =
      elim (Contains-push_cases files file other is) [
        | inl before ↦ old other before
        | inr last ↦ subst P last new
      ]

  kept : (head : StateHead) (rows : Rows) → Counts files head rows → ((other : StateHead) (others : Rows) → IsWhole file other others → other.epoch ≤ head.epoch) → Counts more head rows
  kept head rows counts below = record {
    whole = (counts.whole.0, Contains-append_left files (file ∷ []) counts.whole.0 counts.whole.1, counts.whole.2);
    greatest = λ one other others is. old_or_new (λ f. (h : StateHead) (rs : Rows) → IsWhole f h rs → h.epoch ≤ head.epoch) (λ f in_it h rs. counts.greatest f h rs in_it) below one is other others;
  }

  taken : (head : StateHead) (rows : Rows) → IsWhole file head rows → ((one : StateFile) (other : StateHead) (others : Rows) → Contains files one → IsWhole one other others → other.epoch ≤ head.epoch) → Counts more head rows
  taken head rows whole below = record {
    whole = (file, Contains-push files file, whole);
    greatest = λ one other others is. old_or_new (λ f. (h : StateHead) (rs : Rows) → IsWhole f h rs → h.epoch ≤ head.epoch) (λ f in_it h rs. below f h rs in_it)
        (λ h rs so. omega (arith, so.epoch, whole.epoch)) one is other others;
  }

  -- the best of one more is the later one of both
  pub best_next : (best state : Option (StateHead × Rows)) → IsBest files best → MatchOption state ((head : StateHead) (rows : Rows) → ¬ IsWhole file head rows) (λ s. IsWhole file s.0 s.1)
      → IsBest more (later best state)
  best_next None None none no_state = λ one head rows is. old_or_new (λ f. (h : StateHead) (rs : Rows) → ¬ IsWhole f h rs) (λ f in_it h rs. none f h rs in_it) no_state one is head rows
  best_next (Some b) None counts no_state = kept b.0 b.1 counts (λ other others so. absurd (no_state other others so))
  best_next None (Some s) none whole = taken s.0 s.1 whole (λ one other others is so. absurd (none one other others is so))
  best_next (Some b) (Some s) counts whole = elim (cases_lt s.0.epoch b.0.epoch) [
    | inl below ↦ subst (IsBest more) (ap (λ (t : Bool). if t then Some b else Some s) (sym (lt-ltb s.0.epoch b.0.epoch below)))
        (kept b.0 b.1 counts (λ other others so. omega (arith, so.epoch, whole.epoch, below)))
    | inr above ↦ subst (IsBest more) (ap (λ (t : Bool). if t then Some b else Some s) (sym (le-ltb s.0.epoch b.0.epoch above)))
        (taken s.0 s.1 whole (λ one other others is so. omega (arith, counts.greatest one other others is so, above)))
  ]

-- of the first files and the next one
pub best_more : (files : List StateFile) (i : ℕ) (file : StateFile) → i < length files → get_or files i file ≡ file → (best state next : Option (StateHead × Rows)) → next ≡ later best state
    → IsBest (take i files) best → MatchOption state ((head : StateHead) (rows : Rows) → ¬ IsWhole file head rows) (λ s. IsWhole file s.0 s.1) → IsBest (take (i + 1) files) next
best_more files i file within here best state next is before found =
    subst (λ t. IsBest t next) (sym (take_more files i file within ∙ ap (λ (f : StateFile). take i files ++ f ∷ []) here))
    (subst (λ b. IsBest (take i files ++ file ∷ []) b) (sym is) (best_next (take i files) file best state before found))
