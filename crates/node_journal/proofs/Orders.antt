-- An order of what nodes did, with one more step.
use Rattle.std.proofs.Common.{◌≡◌, ◌≢◌, ◌∙◌, ◌⊎◌, inl, inr, ⊎_elim, ℕ, zero, suc, ◌+◌, ◌<◌, ◌==◌, List, [], ◌∷◌, ◌++◌}
use Rattle.std.proofs.Common.{Vec, All, Some, IsTrue, length, map, filter, take, slice_get, slice_set, refl, sym, ap}
use Rattle.std.proofs.Common.{subst, arith}
use Rattle.std.proofs.lemmas.Bool.Decides.{eqb_tells}
use Rattle.std.proofs.lemmas.Grind.{flat_map-append}
use Rattle.std.proofs.lemmas.List.{append-nil, length-set, map-append, take-append-le, take_all}
use Rattle.std.proofs.lemmas.List.Elements.{All-push, filter-append}
use Rattle.std.proofs.lemmas.Option.{slice_get_within}
use Rattle.std.proofs.Math.Seq.{take-append_seam}
use Rattle.std.specs.declared.alloc.Global.{Global}
use Rattle.ballots.specs.Members.{member_count}
use Rattle.ballots.specs.declared.letters.Letter.{Letter}
use Rattle.ballots.specs.declared.members.Members.{Members}
use Rattle.node_journal.specs.Following.{Adds, AreFollowed, AreOrdered, HaveOrder, IsFollowed, IsQuiet, Steps}
use Rattle.node_journal.specs.declared.follower.Follower.{Follower}
use Rattle.node_journal.specs.Journal.{Writes}
use Rattle.node_journal.specs.Legal.{AreLegalJournals}
use Rattle.node_journal.specs.declared.follower.Step.{Step}
use Rattle.node_journal.specs.declared.follower.Step.TheVariants.{Did, Moved, Waits, Ends, Torn}
use Rattle.node.specs.View.{Standing}
use Rattle.node_worker.specs.KeptView.{IsReplay}
use Rattle.node_worker.specs.Replays.{ReplaysTo}
use Rattle.node_worker.specs.Entries.{EntryView}
use Rattle.node_journal.specs.declared.phase.Phase.{Phase}
use Rattle.node_worker.specs.Legal.{AllCome, Comes, IsSound, entries_of, letters_of}
use Rattle.node_worker.specs.declared.entry.Done.{Done}

-- the element that was set, and any other
pub set_here : {A : Type 0} (xs : List A) (k : ℕ) (x y : A) → slice_get xs k ≡ Some x → slice_get (slice_set xs k y) k ≡ Some y
set_here [] k x y at = absurd (let no : k < 0 = slice_get_within [] k x at in omega (arith, no))
set_here (z ∷ xs) zero x y at = refl
set_here (z ∷ xs) (suc k) x y at = set_here xs k x y at

pub set_there : {A : Type 0} (xs : List A) (k j : ℕ) (y : A) → k ≢ j → slice_get (slice_set xs k y) j ≡ slice_get xs j
set_there [] k j y other = refl
set_there (z ∷ xs) zero zero y other = absurd (other refl)
set_there (z ∷ xs) zero (suc j) y other = refl
set_there (z ∷ xs) (suc k) zero y other = refl
set_there (z ∷ xs) (suc k) (suc j) y other = set_there xs k j y (λ e. other (ap suc e))

-- what holds of all but one element, and of the one that is set, holds of all
pub set_all : {A : Type 0} (P : ℕ → A → Type 0) (xs : List A) (k : ℕ) (x y : A) → slice_get xs k ≡ Some x → P k y → ((j : ℕ) (z : A) → k ≢ j → slice_get xs j ≡ Some z → P j z)
    → (j : ℕ) (z : A) → slice_get (slice_set xs k y) j ≡ Some z → P j z
set_all {A} P xs k x y at here others j z got =
    ⊎_elim
    (λ same.
    let there : slice_get (slice_set xs k y) k ≡ Some z = subst (λ n. slice_get (slice_set xs k y) n ≡ Some z) (sym same.1) got in
    let both : Some y ≡ Some z = sym (set_here xs k x y at) ∙ there in
    let is : y ≡ z = cc in
    subst (λ n. P n z) same.1 (subst (λ w. P k w) is here))
    (λ other. others j z other.1 (sym (set_there xs k j y other.1) ∙ got))
    (eqb_tells k j)

entries_of-append : (k : ℕ) (xs ys : List Done) → entries_of k (xs ++ ys) ≡ entries_of k xs ++ entries_of k ys
entries_of-append k xs ys =
    ap (λ (ds : List Done). map (λ d. d.entry) ds) (filter-append (λ (d : Done). d.node == k) xs ys)
    ∙ map-append (λ (d : Done). d.entry) (filter (λ d. d.node == k) xs) (filter (λ d. d.node == k) ys)

-- one record is an entry of its node, and of no other
of_its_node : (k : ℕ) (d : Done) → d.node ≡ k → entries_of k (d ∷ []) ≡ d.entry ∷ []
of_its_node k d is =
    ⊎_elim (λ yes. rw yes.0) (λ no. absurd (no.1 is)) (eqb_tells d.node k)

of_no_other : (k : ℕ) (d : Done) → d.node ≢ k → entries_of k (d ∷ []) ≡ []
of_no_other k d other =
    ⊎_elim (λ yes. absurd (other yes.1)) (λ no. rw no.0) (eqb_tells d.node k)

-- the element at a place of a list with one more
slice_get_snoc : {A : Type 0} (xs : List A) (x y : A) (i : ℕ) → slice_get (xs ++ x ∷ []) i ≡ Some y → (slice_get xs i ≡ Some y) ⊎ ((i ≡ length xs) × (y ≡ x))
slice_get_snoc [] x y zero h = inr (refl, cc)
slice_get_snoc [] x y (suc i) h = absurd cc
slice_get_snoc (z ∷ xs) x y zero h = inl h
slice_get_snoc (z ∷ xs) x y (suc i) h = ⊎_elim inl (λ e. inr (ap suc e.0, e.1)) (slice_get_snoc xs x y i h)

all_come : (ds : List Done) (d : Done) → AllCome ds → Comes (letters_of ds) d.node d.entry.cause → AllCome (ds ++ d ∷ [])
all_come ds d come here i e at =
    let P : List Done → Type 0 = λ before. Comes (letters_of before) e.node e.entry.cause in
    ⊎_elim
    (λ old. subst P (sym (take-append-le i ds (d ∷ []) (omega (arith, slice_get_within ds i e old)))) (come i e old))
    (λ new.
    let before : take i (ds ++ d ∷ []) ≡ ds = ap (λ n. take n (ds ++ d ∷ [])) new.0 ∙ take-append_seam ds (d ∷ []) in
    let Q : Done → Type 0 = λ x. Comes (letters_of ds) x.node x.entry.cause in
    subst P (sym before) (subst Q (sym new.1) here))
    (slice_get_snoc ds d e i at)

letters_more : (ds : List Done) (d : Done) → letters_of (ds ++ d ∷ []) ≡ letters_of ds ++ d.entry.letters
letters_more ds d = flat_map-append (λ (x : Done). x.entry.letters) ds (d ∷ []) ∙ ap (λ ls. letters_of ds ++ ls) (append-nil d.entry.letters)

-- a node did one thing more
pub ordered_did : (followers : List Follower) (sent : List Letter) (k : ℕ) (f g : Follower) (e : EntryView) → slice_get followers k ≡ Some f → g.kept.entries ≡ f.kept.entries ++ e ∷ [] → Comes sent k e.cause
    → HaveOrder followers sent → HaveOrder (slice_set followers k g) (sent ++ e.letters)
ordered_did followers sent k f g e at added comes (records, ordered) =
    let d : Done = record { node = k; entry = e } in (
      records ++ d ∷ [],
      record {
        named = All-push (λ (x : Done). x.node < length (slice_set followers k g)) records d
            (subst (λ n. All (λ (x : Done). x.node < n) records) (sym (length-set followers k g)) ordered.named)
            (subst (λ n. k < n) (sym (length-set followers k g)) (slice_get_within followers k f at));
        come = all_come records d ordered.come (subst (λ (ls : List Letter). Comes ls k e.cause) (sym ordered.letters) comes);
        letters = letters_more records d ∙ ap (λ ls. ls ++ e.letters) ordered.letters;
        done = set_all (λ j h. entries_of j (records ++ d ∷ []) ≡ h.kept.entries) followers k f g at
            (entries_of-append k records (d ∷ []) ∙ (ap (λ es. entries_of k records ++ es) (of_its_node k d refl) ∙ (ap (λ es. es ++ e ∷ []) (ordered.done k f at) ∙ sym added)))
            (λ j h other got. entries_of-append j records (d ∷ []) ∙ (ap (λ es. entries_of j records ++ es) (of_no_other j d other) ∙ (append-nil (entries_of j records) ∙ ordered.done j h got)));
      },
    )

-- it did nothing
pub ordered_quiet : (followers : List Follower) (sent : List Letter) (k : ℕ) (f g : Follower) → slice_get followers k ≡ Some f → g.kept.entries ≡ f.kept.entries → HaveOrder followers sent → HaveOrder (slice_set followers k g) sent
ordered_quiet followers sent k f g at same (records, ordered) = (
  records,
  record {
    named = subst (λ n. All (λ (x : Done). x.node < n) records) (sym (length-set followers k g)) ordered.named;
    come = ordered.come;
    letters = ordered.letters;
    done = set_all (λ j h. entries_of j records ≡ h.kept.entries) followers k f g at (ordered.done k f at ∙ sym same) (λ j h other got. ordered.done j h got);
  },
)

-- each still follows its journal
pub followed_step : (members : Members) (journals : List (List ℕ)) (followers : List Follower) (sent : List Letter) (k : ℕ) (f g : Follower) (journal : List ℕ) (step : Step) → slice_get followers k ≡ Some f → slice_get journals k ≡ Some journal
    → Steps journal sent f step g → AreFollowed members journals followers → AreFollowed members journals (slice_set followers k g)
followed_step members journals followers sent k f g journal step at there steps all = record {
  many = length-set followers k g ∙ all.many;
  each = all.each;
  numbered = set_all (λ j h. (h.id ≡ j) × (h.members ≡ members)) followers k f g at
      (steps.id ∙ (all.numbered k f at).0, steps.members ∙ (all.numbered k f at).1)
      (λ j h other got. all.numbered j h got);
  followed = λ j h text got has.
      set_all (λ i x. (words : List ℕ) → slice_get journals i ≡ Some words → IsFollowed words x) followers k f g at
      (λ words is. let both : Some journal ≡ Some words = sym there ∙ is in let same : journal ≡ words = cc in subst (λ (t : List ℕ). IsFollowed t g) same steps.followed)
      (λ i x other found words is. all.followed i x words found is)
      j h got text has;
}

-- a step that adds nothing
quiet_adds : (sent : List Letter) (me : ℕ) (old new : List EntryView) (step : Step) → IsQuiet step → Adds sent me old step new → new ≡ old
quiet_adds sent me old new (Did letters) quiet adds = absurd quiet
quiet_adds sent me old new Moved quiet adds = adds
quiet_adds sent me old new Waits quiet adds = adds
quiet_adds sent me old new Ends quiet adds = adds
quiet_adds sent me old new Torn quiet adds = adds

-- an element at each place
pub element : {A : Type 0} (xs : List A) (k : ℕ) → k < length xs → (x : A) × (slice_get xs k ≡ Some x)
element [] k within = absurd (omega (arith, within))
element (x ∷ xs) zero within = (x, refl)
element (x ∷ xs) (suc k) within = element xs k (omega (arith, within))

-- the order after a step
pub order_after_did : (followers : List Follower) (sent more : List Letter) (k : ℕ) (f g : Follower) (journal : List ℕ) (step : Step) (letters : Vec Letter Global) → slice_get followers k ≡ Some f → f.id ≡ k
    → Steps journal sent f step g → step ≡ Did letters → more ≡ sent ++ letters.items → HaveOrder followers sent → HaveOrder (slice_set followers k g) more
order_after_did followers sent more k f g journal step letters at named steps is grown order =
    let adds : Adds sent f.id f.kept.entries (Did letters) g.kept.entries = subst (λ (s : Step). Adds sent f.id f.kept.entries s g.kept.entries) is steps.adds in
    let e : EntryView = adds.0 in
    subst (λ (ls : List Letter). HaveOrder (slice_set followers k g) ls) (sym (grown ∙ ap (λ ls. sent ++ ls) adds.2))
    (ordered_did followers sent k f g e at adds.1 (subst (λ (me : ℕ). Comes sent me e.cause) named adds.3) order)

pub order_after_quiet : (followers : List Follower) (sent : List Letter) (k : ℕ) (f g : Follower) (journal : List ℕ) (step : Step) → slice_get followers k ≡ Some f → IsQuiet step
    → Steps journal sent f step g → HaveOrder followers sent → HaveOrder (slice_set followers k g) sent
order_after_quiet followers sent k f g journal step at quiet steps order =
    ordered_quiet followers sent k f g at (quiet_adds sent f.id f.kept.entries g.kept.entries step quiet steps.adds) order

-- at the beginning nothing was done
pub nothing_done : (followers : List Follower) → ((k : ℕ) (f : Follower) → slice_get followers k ≡ Some f → f.kept.entries ≡ []) → HaveOrder followers []
nothing_done followers none = (
  [],
  record {
    named = λ j d within. absurd (omega (arith, within));
    come = λ i d at. absurd (let no : i < 0 = slice_get_within [] i d at in omega (arith, no));
    letters = refl;
    done = λ k f at. sym (none k f at);
  },
)

-- the records of followers that are replays are sound
pub sound_records : (members : Members) (journals : List (List ℕ)) (followers : List Follower) (sent : List Letter) (records : List Done) → AreFollowed members journals followers → AreOrdered followers sent records
    → ((k : ℕ) (f : Follower) (journal : List ℕ) → slice_get followers k ≡ Some f → slice_get journals k ≡ Some journal → IsReplay f.kept × IsTrue f.kept.honest)
    → IsSound (member_count members) records
sound_records members journals followers sent records all ordered replays = record {
  named = subst (λ n. All (λ (d : Done). d.node < n) records) all.many ordered.named;
  replay = λ k within.
      let f = element followers k (subst (λ n. k < n) (sym all.many) within) in
      let j = element journals k (subst (λ n. k < n) (sym all.each) within) in
      let is = all.followed k f.0 j.0 f.1 j.1 in
      let replay = replays k f.0 j.0 f.1 j.1 in
      let at : (t : Standing) × ReplaysTo f.0.kept.members f.0.kept.node f.0.kept.entries t = replay.0 replay.1 in
      let id : f.0.kept.node ≡ k = is.node ∙ (all.numbered k f.0 f.1).0 in
      let count : f.0.kept.members ≡ member_count members = is.members ∙ ap member_count (all.numbered k f.0 f.1).1 in (
        at.0,
        subst (λ (es : List EntryView). ReplaysTo (member_count members) k es at.0) (sym (ordered.done k f.0 f.1))
            (subst (λ (n : ℕ). ReplaysTo (member_count members) n f.0.kept.entries at.0) id
            (subst (λ (m : ℕ). ReplaysTo m f.0.kept.node f.0.kept.entries at.0) count at.1)),
      );
  come = ordered.come;
}

-- what a follower knows, of journal k and by the records
pub as_records : (members : Members) (journals : List (List ℕ)) (followers : List Follower) (sent : List Letter) (records : List Done) → AreFollowed members journals followers → AreOrdered followers sent records
    → (P : ℕ → Members → List EntryView → Type 0) (k : ℕ) (f : Follower) → slice_get followers k ≡ Some f → P f.id f.members f.kept.entries → P k members (entries_of k records)
as_records members journals followers sent records all ordered P k f at holds =
    subst (λ (es : List EntryView). P k members es) (sym (ordered.done k f at))
    (subst (λ (ms : Members). P k ms f.kept.entries) (all.numbered k f at).1
    (subst (λ (n : ℕ). P n f.members f.kept.entries) (all.numbered k f at).0 holds))

-- what a follower wrote whose journal is followed to its end
pub wrote_all : (members : Members) (journals : List (List ℕ)) (followers : List Follower) (sent : List Letter) (records : List Done) → AreFollowed members journals followers → AreOrdered followers sent records
    → (k : ℕ) (f : Follower) (journal : List ℕ) → slice_get followers k ≡ Some f → slice_get journals k ≡ Some journal → f.place ≡ length journal
    → (phase : Phase) × Writes k members journal (entries_of k records) phase
wrote_all members journals followers sent records all ordered k f journal at there end =
    let whole : take f.place journal ≡ journal = ap (λ n. take n journal) end ∙ take_all (length journal) journal (omega arith) in (
      f.phase,
      as_records members journals followers sent records all ordered (λ n ms es. Writes n ms journal es f.phase) k f at
          (subst (λ (t : List ℕ). Writes f.id f.members t f.kept.entries f.phase) whole (all.followed k f journal at there).written),
    )

-- where each journal is followed to its end, the records are those of which the journals are the lines
pub lines_of : (members : Members) (journals : List (List ℕ)) (followers : List Follower) (sent : List Letter) → AreFollowed members journals followers → HaveOrder followers sent
    → ((k : ℕ) (f : Follower) (journal : List ℕ) → slice_get followers k ≡ Some f → slice_get journals k ≡ Some journal → (f.place ≡ length journal) × IsReplay f.kept × IsTrue f.kept.honest)
    → AreLegalJournals members journals
lines_of members journals followers sent all (records, ordered) ended = (
  records,
  record {
    each = all.each;
    sound = sound_records members journals followers sent records all ordered (λ k f journal at there. ((ended k f journal at there).1, (ended k f journal at there).2));
    written = λ k journal at.
        let within : k < member_count members = subst (λ n. k < n) all.each (slice_get_within journals k journal at) in
        let f = element followers k (subst (λ n. k < n) (sym all.many) within) in
        wrote_all members journals followers sent records all ordered k f.0 journal f.1 at (ended k f.0 journal f.1 at).0;
  },
)

-- what holds of each element holds with one more
pub one_more : {A : Type 0} (P : ℕ → A → Type 0) (xs : List A) (x : A) → P (length xs) x → ((k : ℕ) (y : A) → slice_get xs k ≡ Some y → P k y) → (k : ℕ) (y : A) → slice_get (xs ++ x ∷ []) k ≡ Some y → P k y
one_more P xs x here others k y at =
    ⊎_elim (λ old. others k y old) (λ new. subst (λ n. P n y) (sym new.0) (subst (λ z. P (length xs) z) (sym new.1) here)) (slice_get_snoc xs x y k at)

less : (k n : ℕ) → k < n + 1 → k ≢ n → k < n
less k n below other = omega (arith, below, other)

-- what holds up to a place holds behind it too
pub one_further : {A B : Type 0} (P : ℕ → A → B → Type 0) (xs : List A) (ys : List B) (n : ℕ) (x : A) (y : B) → slice_get xs n ≡ Some x → slice_get ys n ≡ Some y → P n x y
    → ((k : ℕ) (a : A) (b : B) → k < n → slice_get xs k ≡ Some a → slice_get ys k ≡ Some b → P k a b)
    → (k : ℕ) (a : A) (b : B) → k < n + 1 → slice_get xs k ≡ Some a → slice_get ys k ≡ Some b → P k a b
one_further {A} {B} P xs ys n x y at there here before k a b below left right =
    ⊎_elim
    (λ same.
    let first : Some x ≡ Some a = sym at ∙ subst (λ m. slice_get xs m ≡ Some a) same.1 left in
    let second : Some y ≡ Some b = sym there ∙ subst (λ m. slice_get ys m ≡ Some b) same.1 right in
    let is : x ≡ a = cc in
    let other : y ≡ b = cc in
    subst (λ (m : ℕ). P m a b) (sym same.1) (subst (λ (v : B). P n a v) other (subst (λ (u : A). P n u y) is here)))
    (λ other. before k a b (less k n below other.1) left right)
    (eqb_tells k n)
