-- One thing is done after another.
use Rattle.std.proofs.Common.{◌≡◌, ◌∙◌, refl, sym, ap, subst, ℕ, suc, ◌+◌, ◌<◌, List, [], ◌∷◌, ◌++◌, length, take, drop}
use Rattle.std.proofs.Common.{get_or, Bool, true, false, Option, Some, None, append_assoc}
use Rattle.std.specs.Prelude.{cond, filter, map, IfErr, Result, Ok, Err}
use Rattle.std.specs.Result.{result_err}
use Rattle.std.proofs.lemmas.List.{map-append, take-append-drop, append-nil}
use Rattle.std.proofs.lemmas.List.Elements.{filter-append, filter_more}
use Rattle.std.proofs.Math.Seq.{drop-cons}
use Rattle.stored_hosts.specs.Acts.{Act, AreDone, FailsAmong}
use Rattle.stored_hosts.specs.Acts.Act.{Removes}
use Rattle.stored_hosts.specs.declared.names.HostFile.{HostFile}

-- of these files those that go are removed, one after another
abbrev pub gone : (HostFile → Bool) → List HostFile → List Act
gone goes files = map Removes (filter goes files)

gone_both : (goes : HostFile → Bool) (xs ys : List HostFile) → gone goes (xs ++ ys) ≡ gone goes xs ++ gone goes ys
gone_both goes xs ys = ap (map Removes) (filter-append goes xs ys) ∙ map-append Removes (filter goes xs) (filter goes ys)

module _ (goes : HostFile → Bool) (files : List HostFile) (i : ℕ) (d : HostFile) (within : i < length files) where
  abbrev here : HostFile
  here = get_or files i d

  pub gone_on : goes here ≡ true → gone goes (take (i + 1) files) ≡ gone goes (take i files) ++ Removes here ∷ []
  gone_on passes =
      ap (map Removes) (filter_more goes files i d within ∙ ap (λ (b : Bool). filter goes (take i files) ++ cond b (here ∷ []) []) passes)
      ∙ map-append Removes (filter goes (take i files)) (here ∷ [])

  pub kept_on : goes here ≡ false → gone goes (take (i + 1) files) ≡ gone goes (take i files)
  kept_on fails =
      ap (map Removes) (filter_more goes files i d within ∙ ap (λ (b : Bool). filter goes (take i files) ++ cond b (here ∷ []) []) fails ∙ append-nil (filter goes (take i files)))

  pub gone_at : goes here ≡ true → gone goes files ≡ gone goes (take i files) ++ Removes here ∷ gone goes (drop (suc i) files)
  gone_at passes =
      ap (gone goes) (sym (take-append-drop i files) ∙ ap (λ (t : List HostFile). take i files ++ t) (drop-cons files i d within))
      ∙ gone_both goes (take i files) (here ∷ drop (suc i) files)
      ∙ ap (λ (t : List HostFile). gone goes (take i files) ++ map Removes t) first
    where
      first : filter goes (here ∷ drop (suc i) files) ≡ here ∷ filter goes (drop (suc i) files)
      first = ap (λ (b : Bool). cond b (here ∷ filter goes (drop (suc i) files)) (filter goes (drop (suc i) files))) passes

module _ {F E : Type 0} (does : F → Act → Option E → F → Type 0) where
  -- what is done behind what is done
  pub done_behind : (f g h : F) (xs ys : List Act) → AreDone does f xs g → AreDone does g ys h → AreDone does f (xs ++ ys) h
  done_behind f g h [] ys is more = subst (λ k. AreDone does k ys h) (sym is) more
  done_behind f g h (x ∷ xs) ys (k, it, rest) more = (k, it, done_behind k g h xs ys rest more)

  pub done_next : (f g h : F) (xs : List Act) (act : Act) → AreDone does f xs g → does g act None h → AreDone does f (xs ++ act ∷ []) h
  done_next f g h xs act done it = done_behind f g h xs (act ∷ []) done (h, it, refl)

  -- one fails behind those that are done
  pub fails_at : (f g h : F) (xs ys : List Act) (act : Act) (why : E) → AreDone does f xs g → does g act (Some why) h → FailsAmong does f (xs ++ act ∷ ys) why h
  fails_at f g h xs ys act why done it = record { front = xs; act = act; rest = ys; are = refl; h = g; done = done; failed = it }

  -- one of those before others fails, or one behind others that are done
  pub fails_before : (f h : F) (xs ys : List Act) (why : E) → FailsAmong does f xs why h → FailsAmong does f (xs ++ ys) why h
  fails_before f h xs ys why it = record {
    front = it.front;
    act = it.act;
    rest = it.rest ++ ys;
    are = ap (λ (t : List Act). t ++ ys) it.are ∙ append_assoc it.front (it.act ∷ it.rest) ys;
    h = it.h;
    done = it.done;
    failed = it.failed;
  }

  pub fails_behind : (f g h : F) (xs ys : List Act) (why : E) → AreDone does f xs g → FailsAmong does g ys why h → FailsAmong does f (xs ++ ys) why h
  fails_behind f g h xs ys why done it = record {
    front = xs ++ it.front;
    act = it.act;
    rest = it.rest;
    are = ap (λ (t : List Act). xs ++ t) it.are ∙ sym (append_assoc xs it.front (it.act ∷ it.rest));
    h = it.h;
    done = done_behind f g it.h xs it.front done it.done;
    failed = it.failed;
  }

  -- a result that is an error says how
  pub told_failed : {A : Type 0} (r : Result A E) (why : E) (f g : F) (acts : List Act) → r ≡ Err why → FailsAmong does f acts why g → IfErr r (λ e. FailsAmong does f acts e g)
  told_failed r why f g acts is it = subst (λ t. IfErr t (λ e. FailsAmong does f acts e g)) (sym is) it

  -- what an act that may have failed says
  pub last_failed : {A : Type 0} (r : Result A E) (f g h : F) (xs : List Act) (act : Act) → AreDone does f xs g → does g act (result_err r) h
      → IfErr r (λ why. FailsAmong does f (xs ++ act ∷ []) why h)
  last_failed (Ok x) f g h xs act done it = tt
  last_failed (Err why) f g h xs act done it = fails_at f g h xs [] act why done it
