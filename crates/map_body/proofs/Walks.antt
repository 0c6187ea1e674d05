-- A walk over elements with one more behind them.
use Rattle.std.proofs.Common.{◌≡◌, ◌⊎◌, ℕ, ◌<◌, None, ◌≤◌, Bool, true, false, List, [], ◌∷◌, ◌++◌, length, Option, Some}
use Rattle.std.proofs.Common.{refl, sym, ap, subst, ◌∙◌, arith, inl, inr, append_assoc}
use Rattle.std.specs.Option.{is_some}
use Rattle.std.proofs.lemmas.Bool.Decides.{Decides-eqb}
use Rattle.std.proofs.lemmas.Option.{slice_get_within}
use Rattle.map_body.specs.declared.element.Element.{Element}
use Rattle.std.specs.Int.{w32, to_be_bytes}
use Rattle.std.specs.List.{flat_map, AllByRecursion}
use Rattle.std.proofs.lemmas.List.{append-nil, length-append}
use Rattle.map_body.specs.declared.fault.MapFault.{MapFault}
use Rattle.map_body.specs.declared.fault.MapFault.TheVariants.{Short, Trailing, Expansion, OutOfOrder, NoNull}
use Rattle.map_body.specs.declared.fault.MapFault.TheVariants.{OutOfMemory, TooMany}
use Rattle.map_body.specs.declared.reading.Walk.{Walk}
use Rattle.map_body.specs.Rules.{FitsElement, IsFirstNull, AreElements, FirstElementFault}
use Rattle.map_body.specs.Intervals.{is_null}
use Rattle.map_body.specs.Looking.{Scanned, IsFound, IsWalked, AreLaid}
use Rattle.map_body.specs.Layout.{element_word, element_bytes}
use Rattle.map_body.proofs.Prefixes.{all_push}
use Rattle.map_body.proofs.Readings.{laid_front, laid_all, flat_push}
use Rattle.map_body.proofs.Looks.{last_get, iuc_on, iuc_back, found_on, found_expansion, found_fall, scanned_on}
use Rattle.map_body.proofs.Scan.{all_scanned, no_fault}

-- the first Null stays the first
first_on : (es : List Element) (e : Element) (k : ℕ) → IsFirstNull es k → IsFirstNull (es ++ e ∷ []) k
first_on es e k h =
    let within = slice_get_within es k h.0.0 h.0.1 in
    (iuc_on es e k 7 h.0, λ j lt null. h.1 j lt (iuc_back es e j 7 (omega (arith, lt, within)) null))

by_code : (e : Element) (seen : Bool) → seen ≡ true → ((e.iuc ≡ 7) × (seen ≡ true)) ⊎ (¬ (e.iuc ≡ 7) × (seen ≡ seen))
by_code e seen on = go (is_null e) refl
  where
    go : (b : Bool) → is_null e ≡ b → ((e.iuc ≡ 7) × (seen ≡ true)) ⊎ (¬ (e.iuc ≡ 7) × (seen ≡ seen))
    go true is = inl ((Decides-eqb e.iuc 7).0 is, on)
    go false is = inr ((λ h. let same : is_null e ≡ true = (Decides-eqb e.iuc 7).1 h in absurd (let no : true ≡ false = sym same ∙ is in cc)), refl)

-- behind a Null
pub walk_behind : (es : List Element) (e : Element) (w : Walk) → IsWalked es w → ¬ (e.iuc ≡ 15) → is_some w.null ≡ true → IsWalked (es ++ e ∷ []) (record { null = w.null; last = e.offset })
walk_behind es e w walked plain seen = record {
  scanned = scanned_on es e (is_some w.null) (is_some w.null) w.last walked.scanned plain (inl seen) (by_code e (is_some w.null) seen);
  first = λ k is. first_on es e k (walked.first k is);
}

-- the first Null
pub walk_null : (es : List Element) (e : Element) (w : Walk) (i : ℕ) → IsWalked es w → length es ≡ i → ¬ (e.iuc ≡ 15) → is_some w.null ≡ false → w.last ≤ e.offset → e.iuc ≡ 7 → IsWalked (es ++ e ∷ []) (record { null = Some i; last = e.offset })
walk_null es e w i walked len plain unseen order is = record {
  scanned = scanned_on es e (is_some w.null) true w.last walked.scanned plain (inr order) (inl (is, refl));
  first = λ k same. let at : length es ≡ k = cc in subst (IsFirstNull (es ++ e ∷ [])) at here;
}
  where
    here : IsFirstNull (es ++ e ∷ []) (length es)
    here = ((e, last_get es e, is), λ j lt null. walked.scanned.clear unseen j lt (iuc_back es e j 7 lt null))

-- before a Null
pub walk_before : (es : List Element) (e : Element) (w : Walk) → IsWalked es w → ¬ (e.iuc ≡ 15) → is_some w.null ≡ false → w.last ≤ e.offset → ¬ (e.iuc ≡ 7) → IsWalked (es ++ e ∷ []) (record { null = w.null; last = e.offset })
walk_before es e w walked plain unseen order isnt = record {
  scanned = scanned_on es e (is_some w.null) (is_some w.null) w.last walked.scanned plain (inr order) (inr (isnt, refl));
  first = λ k is. first_on es e k (walked.first k is);
}

-- what all of the elements come to
pub walked_all : (es : List Element) (w : Walk) (null : ℕ) → IsWalked es w → w.null ≡ Some null → AreElements es × IsFirstNull es null
walked_all es w null walked is =
    (all_scanned es (length es) w.last (omega arith) (subst (λ (o : Option ℕ). Scanned es (length es) (is_some o) w.last) is walked.scanned), walked.first null is)

-- ---- faults

-- a fault that was found stays the first, whatever comes behind it
found_more : (es rest : List Element) (f : MapFault) → IsFound es f → IsFound (es ++ rest) f
found_more es [] f h = subst (λ (xs : List Element). IsFound xs f) (sym (append-nil es)) h
found_more es (d ∷ ds) f h = subst (λ (xs : List Element). IsFound xs f) (append_assoc es (d ∷ []) ds) (found_more (es ++ d ∷ []) ds f (found_on es d f h))

found_first : (es : List Element) (f : MapFault) → IsFound es f → FirstElementFault es f
found_first es (Expansion i) h = h
found_first es (OutOfOrder i) h = h
found_first es NoNull h = absurd h
found_first es Short h = absurd h
found_first es Trailing h = absurd h
found_first es OutOfMemory h = absurd h
found_first es TooMany h = absurd h

found_no : (es rest : List Element) (e : Element) (f : MapFault) → IsFound (es ++ e ∷ []) f → AreElements (es ++ e ∷ rest) → ⊥
found_no es rest e f h are =
    no_fault ((es ++ e ∷ []) ++ rest) f (subst AreElements (sym (append_assoc es (e ∷ []) rest)) are) (found_first ((es ++ e ∷ []) ++ rest) f (found_more (es ++ e ∷ []) rest f h))

pub walk_expansion : (es rest : List Element) (e : Element) (w : Walk) → IsWalked es w → e.iuc ≡ 15 → AreElements (es ++ e ∷ rest) → ⊥
walk_expansion es rest e w walked is = found_no es rest e (Expansion (length es)) (found_expansion es e (is_some w.null) w.last walked.scanned is)

pub walk_fall : (es rest : List Element) (e : Element) (w : Walk) → IsWalked es w → ¬ (e.iuc ≡ 15) → is_some w.null ≡ false → e.offset < w.last → AreElements (es ++ e ∷ rest) → ⊥
walk_fall es rest e w walked plain unseen below = found_no es rest e (OutOfOrder (length es)) (found_fall es e w.last (subst (λ b. Scanned es (length es) b w.last) unseen walked.scanned) plain below)

-- no Null among all of the elements
pub walk_none : (es : List Element) (w : Walk) → IsWalked es w → w.null ≡ None → AreElements es → ⊥
walk_none es w walked is are =
    let unseen : is_some w.null ≡ false = ap (λ (o : Option ℕ). is_some o) is in
    let null = are.has_null in
    walked.scanned.clear unseen null.0 (slice_get_within es null.0 null.1.0 null.1.1) null.1

-- elements of which one is a fault
pub laid_fault : (bytes rest after : List ℕ) (xs es : List Element) (e : Element) (word count i : ℕ) → bytes ≡ flat_map element_bytes xs ++ rest → rest ≡ to_be_bytes w32 word ++ after → element_word e ≡ word
    → AllByRecursion FitsElement xs → FitsElement e → length xs ≡ i → i < count → AreLaid bytes count es → ((tail : List Element) → AreElements (xs ++ e ∷ tail) → ⊥) → AreElements es → ⊥
laid_fault bytes rest after xs es e word count i front more is fits fit len lt laid none are =
    let joined : flat_map element_bytes es ≡ flat_map element_bytes (xs ++ e ∷ []) ++ after =
    sym laid.bytes_are ∙ front ∙ ap (λ (ns : List ℕ). flat_map element_bytes xs ++ ns) (more ∙ ap (λ n. to_be_bytes w32 n ++ after) (sym is)) ∙ sym (flat_push xs e after) in
    let parts = laid_front es (xs ++ e ∷ []) after laid.fit (all_push FitsElement xs e fits fit) joined (omega (arith, length-append xs (e ∷ []), laid.as_many, len, lt)) in
    let same : es ≡ xs ++ e ∷ parts.0 = parts.1 ∙ append_assoc xs (e ∷ []) parts.0 in
    none parts.0 (subst AreElements same are)

-- elements without a Null
pub laid_none : (bytes rest : List ℕ) (xs es : List Element) (w : Walk) (count : ℕ) → bytes ≡ flat_map element_bytes xs ++ rest → AllByRecursion FitsElement xs → length xs ≡ count → AreLaid bytes count es → IsWalked xs w → w.null ≡ None → AreElements es → ⊥
laid_none bytes rest xs es w count front fits len laid walked is are =
    walk_none xs w walked is (subst AreElements (laid_all es xs rest laid.fit fits (sym laid.bytes_are ∙ front) (len ∙ sym laid.as_many)) are)
