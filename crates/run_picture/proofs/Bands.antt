-- The bands of a node, one row after another.
use Rattle.std.proofs.Common.{◌≡◌, ◌<◌, ◌≤◌, ◌+◌, ℕ, List, ◌++◌, Option, Result, Ok, Err, OnOk, sym, ap, ◌∙◌}
use Rattle.std.proofs.Common.{append_assoc, length, drop, get_or, slice_get, suc, add-one}
use Rattle.std.proofs.Math.Seq.{drop-cons}
use Rattle.std.proofs.lemmas.List.{drop_all}
use Rattle.xml_text.specs.Xml.{Xml, join, render}
use Rattle.xml_text.proofs.Callers.{joined}
use Rattle.watched_runs.specs.declared.post.Post.{Post}
use Rattle.watched_runs.specs.Rows.{Row}
use Rattle.run_picture.specs.Roles.{band, band_if, bands_from, new_post, post_after, row_after}

-- one row more
pub bands_on : (lanes bottom k : ℕ) (run : List Row) (post later : Post) (start begun i d : ℕ) (rows : List ℕ) (next : Option Post) (old new whole : List ℕ)
    → i < length rows → next ≡ new_post k (slice_get run i) → new ≡ old ++ render (band_if lanes k post start (get_or rows i d) next)
    → later ≡ post_after post next → begun ≡ row_after start (get_or rows i d) next
    → old ++ render (bands_from lanes bottom k run post start i (drop i rows)) ≡ whole
    → new ++ render (bands_from lanes bottom k run later begun (i + 1) (drop (i + 1) rows)) ≡ whole
bands_on lanes bottom k run post later start begun i d rows next old new whole lt is_next is_new is_later is_begun before =
    let y : ℕ = get_or rows i d in
    let n : Option Post = new_post k (slice_get run i) in
    let band : Xml = band_if lanes k post start y n in
    let rest : Xml = bands_from lanes bottom k run (post_after post n) (row_after start y n) (suc i) (drop (suc i) rows) in
    let all = rw (drop-cons rows i d lt, add-one i) at before in
    rw (is_new, is_later, is_begun, is_next, add-one i) (append_assoc old (render band) (render rest) ∙ ap (λ t. old ++ t) (sym (joined band rest)) ∙ all)

-- after the last row
pub bands_end : {T E : Type 0} (r : Result T E) (lanes bottom k : ℕ) (run : List Row) (post : Post) (start i : ℕ) (rows : List ℕ) (old new whole : List ℕ)
    → length rows ≤ i → old ++ render (bands_from lanes bottom k run post start i (drop i rows)) ≡ whole
    → OnOk r (new ≡ old ++ render (band lanes k post start bottom)) → OnOk r (new ≡ whole)
bands_end (Err e) lanes bottom k run post start i rows old new whole past before drawn = tt
bands_end (Ok x) lanes bottom k run post start i rows old new whole past before drawn = drawn ∙ (rw (drop_all i rows past) at before)

-- one element behind another
pub two_drawn : {T E : Type 0} (r : Result T E) (old mid new : List ℕ) (a b : Xml) → mid ≡ old ++ render a → OnOk r (new ≡ mid ++ render b) → OnOk r (new ≡ old ++ render (join a b))
two_drawn (Err e) old mid new a b first drawn = tt
two_drawn (Ok x) old mid new a b first drawn = drawn ∙ ap (λ t. t ++ render b) first ∙ append_assoc old (render a) (render b) ∙ ap (λ t. old ++ t) (sym (joined a b))
