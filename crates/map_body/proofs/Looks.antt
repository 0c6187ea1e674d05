-- What is seen of elements with one more behind them.
use Rattle.std.proofs.Common.{◌≡◌, ◌⊎◌, ℕ, ◌<◌, ◌≤◌, Bool, true, false, List, [], ◌∷◌, ◌++◌, length, Option, Some, None}
use Rattle.std.proofs.Common.{refl, sym, ap, subst, ◌∙◌, arith, inl, inr, slice_get}
use Rattle.std.specs.Prelude.{if◌then◌else◌, MatchOption}
use Rattle.std.specs.Option.{is_some}
use Rattle.std.proofs.lemmas.Bool.Decides.{Decides-eqb}
use Rattle.std.proofs.lemmas.List.{length-append}
use Rattle.std.proofs.lemmas.Option.{slice_get_within}
use Rattle.map_body.specs.declared.element.Element.{Element}
use Rattle.map_body.specs.declared.fault.MapFault.{MapFault}
use Rattle.map_body.specs.declared.fault.MapFault.TheVariants.{Short, Trailing, Expansion, OutOfOrder, NoNull}
use Rattle.map_body.specs.declared.fault.MapFault.TheVariants.{OutOfMemory, TooMany}
use Rattle.map_body.specs.declared.judging.Seen.{Seen}
use Rattle.map_body.specs.Rules.{HasIuc, Falls, SoundBefore, AreElements, FirstElementFault}
use Rattle.map_body.specs.Intervals.{is_null, null_offset}
use Rattle.map_body.specs.Looking.{Scanned, IsSound, IsFound, Saw}
use Rattle.map_body.proofs.Lists.{get_front, get_behind}
use Rattle.map_body.proofs.Scan.{expands, falls, scans_on, iuc_at, all_scanned, none_null}

pub last_get : (es : List Element) (e : Element) → slice_get (es ++ e ∷ []) (length es) ≡ Some e
last_get es e = get_behind es (e ∷ []) 0 (length es) (omega arith)

module _ (es : List Element) (e : Element) where
  pub iuc_on : (k n : ℕ) → HasIuc es k n → HasIuc (es ++ e ∷ []) k n
  iuc_on k n (d, at, is) = (d, get_front es (e ∷ []) k (slice_get_within es k d at) ∙ at, is)

  pub iuc_back : (k n : ℕ) → k < length es → HasIuc (es ++ e ∷ []) k n → HasIuc es k n
  iuc_back k n lt (d, at, is) = (d, sym (get_front es (e ∷ []) k lt) ∙ at, is)

  falls_on : (k : ℕ) → Falls es k → Falls (es ++ e ∷ []) k
  falls_on k f =
      let within = slice_get_within es k f.here f.here_is in
      record {
        before = f.before;
        here = f.here;
        place = f.place;
        next = f.next;
        before_is = get_front es (e ∷ []) f.place (omega (arith, f.next, within)) ∙ f.before_is;
        here_is = get_front es (e ∷ []) k within ∙ f.here_is;
        below = f.below;
        not_after_null = λ j lt null. f.not_after_null j lt (iuc_back j 7 (omega (arith, lt, within)) null);
      }

  falls_back : (k : ℕ) → k < length es → Falls (es ++ e ∷ []) k → Falls es k
  falls_back k within f = record {
    before = f.before;
    here = f.here;
    place = f.place;
    next = f.next;
    before_is = sym (get_front es (e ∷ []) f.place (omega (arith, f.next, within))) ∙ f.before_is;
    here_is = sym (get_front es (e ∷ []) k within) ∙ f.here_is;
    below = f.below;
    not_after_null = λ j lt null. f.not_after_null j lt (iuc_on j 7 null);
  }

  sound_on : (i : ℕ) → i ≤ length es → SoundBefore es i → SoundBefore (es ++ e ∷ []) i
  sound_on i le s = λ k lt. ((λ h. (s k lt).0 (iuc_back k 15 (omega (arith, lt, le)) h)), (λ f. (s k lt).1 (falls_back k (omega (arith, lt, le)) f)))

  -- what was scanned stays scanned
  scan_on : (null_seen : Bool) (last : ℕ) → Scanned es (length es) null_seen last → Scanned (es ++ e ∷ []) (length es) null_seen last
  scan_on null_seen last s = record {
    sound = sound_on (length es) (omega arith) s.sound;
    clear = λ off k lt null. s.clear off k lt (iuc_back k 7 lt null);
    seen = λ on. let k = s.seen on in (k.0, k.1, iuc_on k.0 7 k.2);
    last_is = λ j d next at. s.last_is j d next (sym (get_front es (e ∷ []) j (omega (arith, next))) ∙ at);
    first = s.first;
  }

  -- a fault that was found stays the first
  pub found_on : (f : MapFault) → IsFound es f → IsFound (es ++ e ∷ []) f
  found_on (Expansion i) h = (iuc_on i 15 h.0, sound_on i (let lt = slice_get_within es i h.0.0 h.0.1 in omega (arith, lt)) h.1)
  found_on (OutOfOrder i) h =
      let lt = slice_get_within es i h.1.here h.1.here_is in
      ((λ x. h.0 (iuc_back i 15 lt x)), falls_on i h.1, sound_on i (omega (arith, lt)) h.2)
  found_on NoNull h = h
  found_on Short h = h
  found_on Trailing h = h
  found_on OutOfMemory h = h
  found_on TooMany h = h

  -- an expansion, or an element that falls
  pub found_expansion : (null_seen : Bool) (last : ℕ) → Scanned es (length es) null_seen last → e.iuc ≡ 15 → IsFound (es ++ e ∷ []) (Expansion (length es))
  found_expansion null_seen last s is = expands (es ++ e ∷ []) (length es) last null_seen e (scan_on null_seen last s) (last_get es e) is

  pub found_fall : (last : ℕ) → Scanned es (length es) false last → ¬ (e.iuc ≡ 15) → e.offset < last → IsFound (es ++ e ∷ []) (OutOfOrder (length es))
  found_fall last s plain below =
      let on = scan_on false last s in
      ((λ h. plain (iuc_at (es ++ e ∷ []) (length es) 15 e (last_get es e) h)), falls (es ++ e ∷ []) (length es) last e on (last_get es e) below, on.sound)

  -- an element with which nothing is wrong
  pub scanned_on : (null_seen after : Bool) (last : ℕ) → Scanned es (length es) null_seen last → ¬ (e.iuc ≡ 15) → (null_seen ≡ true) ⊎ (last ≤ e.offset) → ((e.iuc ≡ 7) × (after ≡ true)) ⊎ (¬ (e.iuc ≡ 7) × (after ≡ null_seen)) → Scanned (es ++ e ∷ []) (length (es ++ e ∷ [])) after e.offset
  scanned_on null_seen after last s plain order null =
      subst (λ n. Scanned (es ++ e ∷ []) n after e.offset) (sym (length-append es (e ∷ []))) (scans_on (es ++ e ∷ []) (length es) last null_seen after e (scan_on null_seen last s) (last_get es e) plain order null)

-- the Null's offset with one element more
null_step : (d e : Element) (es : List Element) (n : ℕ) → (null_offset es ≡ Some n → null_offset (es ++ e ∷ []) ≡ Some n) → (b : Bool) → (if b then Some d.offset else null_offset es) ≡ Some n → (if b then Some d.offset else null_offset (es ++ e ∷ [])) ≡ Some n
null_step d e es n rest true h = h
null_step d e es n rest false h = rest h

null_kept : (es : List Element) (e : Element) (n : ℕ) → null_offset es ≡ Some n → null_offset (es ++ e ∷ []) ≡ Some n
null_kept [] e n h = cc
null_kept (d ∷ es) e n h = null_step d e es n (null_kept es e n) (is_null d) h

next_step : (d e : Element) (es : List Element) → (null_offset es ≡ None → null_offset (es ++ e ∷ []) ≡ (if is_null e then Some e.offset else None)) → (b : Bool) → (if b then Some d.offset else null_offset es) ≡ None → (if b then Some d.offset else null_offset (es ++ e ∷ [])) ≡ (if is_null e then Some e.offset else None)
next_step d e es rest true h = absurd (let no : Some d.offset ≡ None = h in cc)
next_step d e es rest false h = rest h

null_next : (es : List Element) (e : Element) → null_offset es ≡ None → null_offset (es ++ e ∷ []) ≡ (if is_null e then Some e.offset else None)
null_next [] e h = refl
null_next (d ∷ es) e h = next_step d e es (null_next es e) (is_null d) h

-- what was seen, where a fault was found or none was
pub look_found : (es : List Element) (e : Element) (s : Seen) → is_some s.fault ≡ true → Saw es s → Saw (es ++ e ∷ []) s
look_found es e s h saw = go s.fault h saw
  where
    go : (o : Option MapFault) → is_some o ≡ true → MatchOption o (IsSound es s) (λ f. IsFound es f) → MatchOption o (IsSound (es ++ e ∷ []) s) (λ f. IsFound (es ++ e ∷ []) f)
    go None h m = absurd (let no : false ≡ true = h in cc)
    go (Some f) h m = found_on es e f m

pub sound_of : (es : List Element) (s : Seen) → is_some s.fault ≡ false → Saw es s → IsSound es s
sound_of es s h saw = go s.fault h saw
  where
    go : (o : Option MapFault) → is_some o ≡ false → MatchOption o (IsSound es s) (λ f. IsFound es f) → IsSound es s
    go None h m = m
    go (Some f) h m = absurd (let no : true ≡ false = h in cc)

pub sound_if_none : (es : List Element) (s : Seen) → s.fault ≡ None → Saw es s → IsSound es s
sound_if_none es s h saw = subst (λ (o : Option MapFault). MatchOption o (IsSound es s) (λ f. IsFound es f)) h saw

pub saw_sound : (es : List Element) (s : Seen) → is_some s.fault ≡ false → IsSound es s → Saw es s
saw_sound es s h sound = go s.fault h
  where
    go : (o : Option MapFault) → is_some o ≡ false → MatchOption o (IsSound es s) (λ f. IsFound es f)
    go None h = sound
    go (Some f) h = absurd (let no : true ≡ false = h in cc)

no_null : (o : Option ℕ) → is_some o ≡ false → o ≡ None
no_null None h = refl
no_null (Some n) h = absurd (let no : true ≡ false = h in cc)

null_is : (e : Element) → e.iuc ≡ 7 → is_null e ≡ true
null_is e h = (Decides-eqb e.iuc 7).1 h

null_isnt : (e : Element) → ¬ (e.iuc ≡ 7) → is_null e ≡ false
null_isnt e h = go (is_null e) refl
  where
    go : (b : Bool) → is_null e ≡ b → is_null e ≡ false
    go true is = absurd (h ((Decides-eqb e.iuc 7).0 is))
    go false is = is

-- behind a Null
pub more_behind : (es : List Element) (e : Element) (s : Seen) → IsSound es s → ¬ (e.iuc ≡ 15) → is_some s.null ≡ true → IsSound (es ++ e ∷ []) (record { null = s.null; last = e.offset; fault = s.fault })
more_behind es e s sound plain seen = record {
  scanned = scanned_on es e (is_some s.null) (is_some s.null) s.last sound.scanned plain (inl seen) (by_code (is_null e) refl);
  null = kept s.null seen sound.null;
}
  where
    by_code : (b : Bool) → is_null e ≡ b → ((e.iuc ≡ 7) × (is_some s.null ≡ true)) ⊎ (¬ (e.iuc ≡ 7) × (is_some s.null ≡ is_some s.null))
    by_code true is = inl ((Decides-eqb e.iuc 7).0 is, seen)
    by_code false is = inr ((λ h. let on : is_null e ≡ true = null_is e h in absurd (let no : true ≡ false = sym on ∙ is in cc)), refl)

    kept : (o : Option ℕ) → is_some o ≡ true → null_offset es ≡ o → null_offset (es ++ e ∷ []) ≡ o
    kept None h is = absurd (let no : false ≡ true = h in cc)
    kept (Some n) h is = null_kept es e n is

-- the first Null
pub more_null : (es : List Element) (e : Element) (s : Seen) → IsSound es s → ¬ (e.iuc ≡ 15) → is_some s.null ≡ false → s.last ≤ e.offset → e.iuc ≡ 7 → IsSound (es ++ e ∷ []) (record { null = Some e.offset; last = e.offset; fault = s.fault })
more_null es e s sound plain unseen order is = record {
  scanned = scanned_on es e (is_some s.null) true s.last sound.scanned plain (inr order) (inl (is, refl));
  null = null_next es e (sound.null ∙ no_null s.null unseen) ∙ ap (λ b. if b then Some e.offset else None) (null_is e is);
}

-- before a Null
pub more_before : (es : List Element) (e : Element) (s : Seen) → IsSound es s → ¬ (e.iuc ≡ 15) → is_some s.null ≡ false → s.last ≤ e.offset → ¬ (e.iuc ≡ 7) → IsSound (es ++ e ∷ []) (record { null = s.null; last = e.offset; fault = s.fault })
more_before es e s sound plain unseen order isnt = record {
  scanned = scanned_on es e (is_some s.null) (is_some s.null) s.last sound.scanned plain (inr order) (inr (isnt, refl));
  null = null_next es e (sound.null ∙ no_null s.null unseen) ∙ ap (λ b. if b then Some e.offset else None) (null_isnt e isnt) ∙ sym (no_null s.null unseen);
}

-- what all of the elements come to
pub judged_null : (es : List Element) (s : Seen) (len : ℕ) → IsSound es s → s.null ≡ Some len → AreElements es × (null_offset es ≡ Some len)
judged_null es s len sound is =
    (all_scanned es (length es) s.last (omega arith) (subst (λ (o : Option ℕ). Scanned es (length es) (is_some o) s.last) is sound.scanned), sound.null ∙ is)

pub judged_none : (es : List Element) (s : Seen) → IsSound es s → s.null ≡ None → FirstElementFault es NoNull
judged_none es s sound is =
    none_null es (length es) s.last (omega arith) (subst (λ (o : Option ℕ). Scanned es (length es) (is_some o) s.last) is sound.scanned)
