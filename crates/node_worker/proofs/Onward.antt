-- Records that go on with their node's next entry.
use Rattle.std.proofs.Common.{◌≡◌, ℕ, ◌<◌, ◌≤◌, ◌+◌, ◌==◌, List, [], ◌∷◌, ◌++◌, length, take, get_or, sym, ap, subst}
use Rattle.std.proofs.Common.{◌∙◌, Some, None, slice_get, ⊎_elim, arith, set, length-append, count_by}
use Rattle.std.proofs.lemmas.List.{length-take, take_more, get_or-set_same, get_or-set_other}
use Rattle.std.proofs.lemmas.List.Sums.{count_by-le-length}
use Rattle.std.proofs.lemmas.Option.{same_Some, get_or_from_slice_get}
use Rattle.network_script.proofs.Callers.{get_behind}
use Rattle.node_worker.specs.Entries.{EntryView}
use Rattle.node_worker.specs.KeptView.{KeptView}
use Rattle.node_worker.specs.Legal.{entries_of, letters_of, Comes, Begins}
use Rattle.node_worker.specs.Audits.{Fits, FitsAt, IsEntry}
use Rattle.node_worker.specs.declared.entry.Done.{Done}
use Rattle.node_worker.proofs.Plants.{entries_of_last}
use Rattle.node_worker.proofs.Comparisons.{one_begins}
use Rattle.node_worker.proofs.Wholes.{fits_begin, length-entries_of}

-- the rest begins with what is read behind xs
goes_on_with : (xs rest entries : List EntryView) (e : EntryView) → xs ++ rest ≡ entries → slice_get entries (length xs) ≡ Some e → (more : List EntryView) × (rest ≡ e ∷ more)
goes_on_with xs [] entries e told at =
    let none : None ≡ Some e = sym (get_behind xs [] 0 (length xs) (omega arith)) ∙ (ap (λ (es : List EntryView). slice_get es (length xs)) told ∙ at) in
    absurd (cc none)
goes_on_with xs (r ∷ more) entries e told at =
    let same : Some r ≡ Some e = sym (get_behind xs (r ∷ more) 0 (length xs) (omega arith)) ∙ (ap (λ (es : List EntryView). slice_get es (length xs)) told ∙ at) in
    (more, ap (λ (x : EntryView). x ∷ more) (same_Some r e same))

-- with what is read behind those that begin the entries, they begin them too
read_begins : (xs entries : List EntryView) (e : EntryView) → Begins xs entries → slice_get entries (length xs) ≡ Some e → Begins (xs ++ e ∷ []) entries
read_begins xs entries e begins at =
    let found : (more : List EntryView) × (begins.0 ≡ e ∷ more) = goes_on_with xs begins.0 entries e begins.1 at in
    one_begins xs begins.0 entries e found.0 begins.1 found.1

-- where the records before fit, and n of them are of its node, a record that is entry n and whose letter came fits
pub follows_fits :
    (kepts : List KeptView) (records : List Done) (i n : ℕ) (d : Done)
    → i ≤ length records → ((j : ℕ) → j < i → FitsAt kepts records j) → n ≡ length (entries_of d.node (take i records))
    → IsEntry kepts d n → Comes (letters_of (take i records)) d.node d.entry.cause → Fits kepts (take i records) d
follows_fits kepts records i n d within fit counted is come =
    let P : ℕ → Type 0 = λ m. slice_get is.0.entries m ≡ Some d.entry in
    ((is.0, is.1, read_begins (entries_of d.node (take i records)) is.0.entries d.entry (fits_begin kepts records d.node is.0 is.1 i within fit) (subst P counted is.2)), come)

-- a record that was read at i fits at i
pub fits_here :
    (kepts : List KeptView) (records : List Done) (i : ℕ) (d : Done)
    → i < length records → d ≡ get_or records i d → Fits kepts (take i records) d → FitsAt kepts records i
fits_here kepts records i d within is fits x at =
    let P : Done → Type 0 = λ y. Fits kepts (take i records) y in
    subst P (is ∙ get_or_from_slice_get records i x d at) fits

-- with one record more, its node has one more, and no other has
pub counted_more :
    (records : List Done) (i : ℕ) (d : Done) (counts : List ℕ) (n : ℕ)
    → i < length records → d ≡ get_or records i d → d.node < length counts → n ≡ length (entries_of d.node (take i records))
    → ((k : ℕ) → k < 5 → get_or counts k 0 ≡ length (entries_of k (take i records)))
    → (k : ℕ) → k < 5 → get_or (set counts d.node (n + 1)) k 0 ≡ length (entries_of k (take (i + 1) records))
counted_more records i d counts n within is below counted each k small =
    let more : take (i + 1) records ≡ take i records ++ d ∷ [] =
    take_more records i d within ∙ ap (λ (x : Done). take i records ++ x ∷ []) (sym is) in
    ⊎_elim
    (λ same.
    let P : ℕ → Type 0 = λ m. get_or (set counts d.node (n + 1)) m 0 ≡ length (entries_of k (take (i + 1) records)) in
    let Q : ℕ → Type 0 = λ m. n ≡ length (entries_of m (take i records)) in
    let own : n ≡ length (entries_of k (take i records)) = subst Q same.0 counted in
    let longer : length (entries_of k (take (i + 1) records)) ≡ length (entries_of k (take i records)) + 1 =
    ap length (ap (entries_of k) more ∙ same.1) ∙ length-append (entries_of k (take i records)) (d.entry ∷ []) in
    subst P same.0 (get_or-set_same counts d.node (n + 1) 0 below ∙ omega (arith, own, longer)))
    (λ other.
    get_or-set_other counts d.node k (n + 1) 0 (λ e. other.0 (sym e)) ∙ (each k small ∙ ap length (sym (ap (entries_of k) more ∙ other.1))))
    (entries_of_last k (take i records) d)

-- of the first i records no more than i are of one node
pub few_of : (k : ℕ) (records : List Done) (i : ℕ) → length (entries_of k (take i records)) ≤ i
few_of k records i =
    let counted : length (entries_of k (take i records)) ≡ count_by (λ (d : Done). d.node == k) (take i records) = length-entries_of k (take i records) in
    let most : count_by (λ (d : Done). d.node == k) (take i records) ≤ length (take i records) = count_by-le-length (λ (d : Done). d.node == k) (take i records) in
    omega (arith, counted, most, length-take i records)
