-- What holds of records whose content is certain.
use Rattle.std.proofs.Common.{◌≡◌, ◌⊎◌, inr, refl, sym, ap, ◌∙◌, Result, Ok, Err, IfErr, OnErr}
use Rattle.std.proofs.Math.Logic.{∥∥₁_map}
use Rattle.acceptor.specs.Content.{Content}
use Rattle.acceptor.specs.declared.records.RecordsFault.{RecordsFault}
use Rattle.acceptor.specs.declared.records.RecordsFault.TheVariants.{OutOfMemory}
use Rattle.acceptor.specs.Found.{Findable, Holds, HoldsEither, FindsSame}

-- the content that alone may be found is the one that they hold
pub held : (old c : Content) → Holds (λ d. d ≡ old) c → old ≡ c
held old c h = h.1 old refl

pub wrote : (old new : Content) (f : Content → Content) → new ≡ f old → (c : Content) → Holds (λ d. d ≡ old) c → Holds (λ d. d ≡ new) (f c)
wrote old new f e c h = (∥∥₁_map h.0 (λ is. ap f is ∙ sym e), λ d is. is ∙ e ∙ ap f (held old c h))

pub doubted : (old new : Content) (f : Content → Content) → new ≡ f old → (c : Content) → Holds (λ d. d ≡ old) c → HoldsEither (λ d. d ≡ new) c (f c)
doubted old new f e c h d is = inr (is ∙ e ∙ ap f (held old c h))

-- a call after which the same may be found keeps the content
pub still_holds : (old new : Findable) (c : Content) → FindsSame old new → Holds old c → Holds new c
still_holds old new c same h = (∥∥₁_map h.0 (same c).0, λ d found. h.1 d ((same d).1 found))

pub same_then : (old mid new : Findable) → FindsSame old mid → FindsSame mid new → FindsSame old new
same_then old mid new first second d = (λ found. (second d).0 ((first d).0 found), λ found. (first d).1 ((second d).1 found))

pub on_err : {T E : Type 0} {P : Type 0} (r : Result T E) → P → OnErr r P
on_err (Ok x) p = tt
on_err (Err e) p = p

-- what holds anyway holds where memory wants
pub at_want : {T : Type 0} (A B : Type 0) (r : Result T RecordsFault) → B → IfErr r (λ e. e ≡ OutOfMemory → A ⊎ B)
at_want A B (Ok x) b = tt
at_want A B (Err e) b = λ _. inr b

-- a write's content was to be found before, with the write
pub added : (old new : Content) (f : Content → Content) → new ≡ f old → (d : Content) → d ≡ new → ∥ ((d ≡ old) ⊎ ((c : Content) × (c ≡ old) × (d ≡ f c))) ∥₁
added old new f e d is = ∣ inr (old, refl, is ∙ e) ∣₁
