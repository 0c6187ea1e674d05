-- How a call of a node that is up ends, by what its records did.
use Rattle.std.proofs.Common.{◌≡◌, ◌⊎◌, ⊎_elim, inl, inr, refl, sym, ap, subst, true, false, List, None, Result, Ok}
use Rattle.std.proofs.Common.{Err, Vec, ℕ, [], cond}
use Rattle.ballots.specs.declared.letters.Letter.{Letter}
use Rattle.acceptor.specs.Content.{Content, after_write}
use Rattle.acceptor.specs.Found.{Holds, HoldsEither, AddsNothing, FindsSame, Keeps}
use Rattle.acceptor.specs.Faults.{IsHarmless}
pub use Rattle.acceptor.proofs.Callers.{still_holds}
use Rattle.acceptor.specs.declared.records.RecordsFault.{RecordsFault}
use Rattle.acceptor.specs.declared.records.RecordsFault.TheVariants.{Refused, Broken, OutOfMemory}
use Rattle.node.specs.View.{View, Standing, started}
use Rattle.node.specs.View.Standing.{Running, Stopped}
use Rattle.ballots.specs.Members.{member_count}
use Rattle.node.specs.Step.{Outcome, heed, is_heeded, nothing}
use Rattle.node.specs.Calls.{Called}
use Rattle.node.specs.Calls.Cause.{Receive}
use Rattle.std.specs.declared.alloc.Global.{Global}
use Rattle.node.specs.Calls.{CallEnds, Restarts, answer}
use Rattle.node.specs.Sched.{Stands, Does, AfterStoreFault, view_over}
use Rattle.proposer.specs.declared.fault.NodeFault.{NodeFault as Fault}
use Rattle.node.specs.declared.parts.Parts.{Parts}

pub either_same : (found : Content → Type 0) (c : Content) → Holds found c → HoldsEither found c c
either_same found c h d is = inl (h.1 d is)

module _ {R : Type 0} (may_find : R → Content → Type 0) (old : Parts R) (up : old.is_down ≡ false) (content : Content) (holds : Holds (may_find old.records) content) (IsCourse : Result Outcome Fault → Type 0) where
  -- the call ends so
  abbrev pub EndsSo : Result (List Letter) Fault → Parts R → Type 0
  EndsSo result new = (t : Standing) × CallEnds IsCourse (view_over old content) result t × Stands may_find new t

  pub unchanged : (result : Result (List Letter) Fault) → result ≡ Err Fault.OutOfMemory → EndsSo result old
  unchanged result is = subst (λ r. EndsSo r old) (sym is) (Running (view_over old content), refl, (up, refl, holds))

  -- the same view in other words
  pub same_view : (new : Parts R) → new.is_down ≡ false → view_over old content ≡ view_over new content → new.records ≡ old.records
      → (result : Result (List Letter) Fault) → result ≡ Err Fault.OutOfMemory → EndsSo result new
  same_view new still same records result is = subst (λ r. EndsSo r new) (sym is) (Running (view_over old content), refl, (still, same, subst (λ r. Holds (may_find r) content) (sym records) holds))

  -- a call that writes nothing
  pub turns : (new : Parts R) (o : Outcome) (letters : List Letter) → new.is_down ≡ false → view_over new content ≡ o.view → new.records ≡ old.records
      → IsCourse (Ok o) → letters ≡ o.letters → EndsSo (Ok letters) new
  turns new o letters still same records course sent =
      (Running o.view, (o, course, sent, refl), subst (λ v. Stands may_find new (Running v)) same (still, refl, subst (λ r. Holds (may_find r) content) (sym records) holds))

  module _ (a : R) where
    abbrev pub later : Parts R
    later = record old { records = a }

    pub ends : (o : Outcome) (letters : List Letter) (d : Content) → IsCourse (Ok o) → letters ≡ o.letters → o.view ≡ view_over old d → Holds (may_find a) d → EndsSo (Ok letters) later
    ends o letters d course sent is found = (Running o.view, (o, course, sent, refl), subst (λ v. Stands may_find later (Running v)) (sym is) (up, refl, found))

    pub kept : (result : Result (List Letter) Fault) → result ≡ Err Fault.OutOfMemory → Holds (may_find a) content → EndsSo result later
    kept result is found = subst (λ r. EndsSo r later) (sym is) (Running (view_over old content), refl, (up, refl, found))

    -- a store's fault, where the write of this outcome may have been made
    pub fails : (May : Type 0) (o : Outcome) (fault : RecordsFault) (told : Fault) (new : Parts R) → AfterStoreFault later fault told new
        → (IsHarmless fault → FindsSame (may_find old.records) (may_find a)) → (May → IsCourse (Ok o))
        → HoldsEither (may_find a) content content ⊎ (May × HoldsEither (may_find a) content (after_write content o.write))
        → EndsSo (Err told) new
    fails May o Refused told new so harmless course doubt = rw (so.0, so.1) (Running (view_over old content), refl, (up, refl, still_holds (may_find old.records) (may_find a) content (harmless tt) holds))
    fails May o OutOfMemory told new so harmless course doubt = rw (so.0, so.1) (Running (view_over old content), refl, (up, refl, still_holds (may_find old.records) (may_find a) content (harmless tt) holds))
    fails May o Broken told new so harmless course (inl found) = rw (so.0, so.1) (Stopped content None, inl refl, (refl, found))
    fails May o Broken told new so harmless course (inr (may, either)) = rw (so.0, so.1) (Stopped content o.write, inr (o, course may, refl), (refl, either))

-- what a part of a call does, it does for each view that the node stands for
pub for_view : {R : Type 0} (may_find : R → Content → Type 0) (old new : Parts R) (IsCourse : View → Result Outcome Fault → Type 0) (result : Result (Vec Letter Global) Fault)
    → Does may_find old IsCourse result new → (view : View) → Stands may_find old (Running view) → (t : Standing) × CallEnds (IsCourse view) view (answer result) t × Stands may_find new t
for_view may_find old new IsCourse result does view stands = subst (λ v. (t : Standing) × CallEnds (IsCourse v) v (answer result) t × Stands may_find new t) (sym stands.1) (does view.content stands.2)

-- a restart that failed, where the records found nothing new, and after a harmless fault hold what they held
module _ {R : Type 0} (may_find : R → Content → Type 0) (old : Parts R) (a : R) (adds : AddsNothing (may_find old.records) (may_find a)) where
  abbrev pub FailsSo : Standing → Fault → Parts R → Type 0
  FailsSo s told new = (t : Standing) × Restarts s (Err told) t × Stands may_find new t

  pub restart_fails : (fault : RecordsFault) (told : Fault) (new : Parts R) → (IsHarmless fault → (c : Content) → Holds (may_find old.records) c → Holds (may_find a) c) → AfterStoreFault record old { records = a } fault told new → (s : Standing) → Stands may_find old s → FailsSo s told new
  restart_fails Refused told new harmless so (Running view) stands = rw (so.0, so.1) (Running view, refl, (stands.0, stands.1, harmless tt view.content stands.2))
  restart_fails OutOfMemory told new harmless so (Running view) stands = rw (so.0, so.1) (Running view, refl, (stands.0, stands.1, harmless tt view.content stands.2))
  restart_fails Broken told new harmless so (Running view) stands = rw (so.0, so.1) (Stopped view.content None, refl, (refl, λ d is. inl (stands.2.1 d (adds d is))))
  restart_fails Broken told new harmless so (Stopped c doubt) stands = rw (so.0, so.1) (Stopped c doubt, (tt, refl), (refl, λ d is. stands.1 d (adds d is)))
  restart_fails Refused told new harmless so (Stopped c doubt) stands = rw (so.0, so.1) (Stopped c doubt, (tt, refl), (stands.0, λ d is. stands.1 d (adds d is)))
  restart_fails OutOfMemory told new harmless so (Stopped c doubt) stands = rw (so.0, so.1) (Stopped c doubt, (tt, refl), (stands.0, λ d is. stands.1 d (adds d is)))

-- what a reopen and then a read leave, by what the read did
module _ (old mid new : Content → Type 0) (finds : (a b : Content) → HoldsEither old a b → Holds mid a ⊎ Holds mid b) where
  held : (c : Content) → Holds old c → Holds mid c
  held c holds = ⊎_elim (λ h. h) (λ h. h) (finds c c (either_same old c holds))

  pub reads : FindsSame mid new → (a b : Content) → HoldsEither old a b → Holds new a ⊎ Holds new b
  reads same a b either = ⊎_elim (λ h. inl (still_holds mid new a same h)) (λ h. inr (still_holds mid new b same h)) (finds a b either)

  pub reads_harmless : (T : Type 0) (fault : RecordsFault) → Keeps {T = T} (Err fault) mid new → IsHarmless fault → (c : Content) → Holds old c → Holds new c
  reads_harmless T Refused keeps harmless c holds = still_holds mid new c keeps (held c holds)
  reads_harmless T OutOfMemory keeps harmless c holds = still_holds mid new c keeps (held c holds)
  reads_harmless T Broken keeps harmless c holds = absurd harmless

-- nothing is found after a reopen and a read that failed but what was to be found before
pub adds_nothing : (T : Type 0) (old mid new : Content → Type 0) → AddsNothing old mid → (fault : RecordsFault) → Keeps {T = T} (Err fault) mid new → AddsNothing old new
adds_nothing T old mid new adds Refused keeps d is = adds d ((keeps d).1 is)
adds_nothing T old mid new adds OutOfMemory keeps d is = adds d ((keeps d).1 is)
adds_nothing T old mid new adds Broken keeps d is = adds d (keeps d is)

-- a restart that is Ok
pub restart_ends : {R : Type 0} (may_find : R → Content → Type 0) (old new : Parts R) → new.is_down ≡ false → ((c : Content) → Holds (may_find new.records) c → view_over new c ≡ started c)
    → ((a b : Content) → HoldsEither (may_find old.records) a b → Holds (may_find new.records) a ⊎ Holds (may_find new.records) b)
    → (s : Standing) → Stands may_find old s → (t : Standing) × Restarts s (Ok tt) t × Stands may_find new t
restart_ends may_find old new up fresh finds (Running view) stands =
    let h = ⊎_elim (λ h. h) (λ h. h) (finds view.content view.content (either_same (may_find old.records) view.content stands.2)) in
    (Running (started view.content), refl, (up, sym (fresh view.content h), h))
restart_ends may_find old new up fresh finds (Stopped c doubt) stands = ⊎_elim
    (λ h. (Running (started c), inl refl, (up, sym (fresh c h), h)))
    (λ h. (Running (started (after_write c doubt)), inr refl, (up, sym (fresh (after_write c doubt) h), h)))
    (finds c (after_write c doubt) stands.1)

-- what is read of records is read of those after the read
pub read_after : (old new : Content → Type 0) → FindsSame old new → (c : Content) → Holds new c → Holds old c
read_after old new same c holds = still_holds new old c (λ d. ((same d).1, (same d).0)) holds

-- a letter that isn't heeded
pub unheeded : {R : Type 0} (may_find : R → Content → Type 0) (count_of : R → ℕ) (n : Parts R) (l : Letter) → n.is_down ≡ false → is_heeded (member_count n.proposer.members) n.proposer.id l ≡ false → (letters : List Letter) → letters ≡ []
    → (s : Standing) → Stands may_find n s → (t : Standing) × Called (member_count n.proposer.members) n.proposer.id s (Receive l) (Ok letters) t × Stands may_find n t
unheeded may_find count_of n l up not_so letters none (Running view) stands =
    (Running view, (nothing view, sym (ap (λ x. Ok (cond x (heed (member_count n.proposer.members) n.proposer.id view l.from l.note) (nothing view))) not_so), none, refl), stands)
unheeded may_find count_of n l up not_so letters none (Stopped c doubt) stands = absurd (cc (up, stands.0))

-- a letter that is heeded
pub received : {R : Type 0} (may_find : R → Content → Type 0) (count_of : R → ℕ) (old new : Parts R) (l : Letter) → old.is_down ≡ false → is_heeded (member_count old.proposer.members) old.proposer.id l ≡ true → (result : Result (Vec Letter Global) Fault)
    → Does may_find old (λ view course. course ≡ Ok (heed (member_count old.proposer.members) old.proposer.id view l.from l.note)) result new
    → (s : Standing) → Stands may_find old s → (t : Standing) × Called (member_count old.proposer.members) old.proposer.id s (Receive l) (answer result) t × Stands may_find new t
received may_find count_of old new l up so result does (Running view) stands =
    subst (λ (o : Outcome). (t : Standing) × CallEnds (λ course. course ≡ Ok o) view (answer result) t × Stands may_find new t)
    (sym (ap (λ x. cond x (heed (member_count old.proposer.members) old.proposer.id view l.from l.note) (nothing view)) so))
    (for_view may_find old new (λ view course. course ≡ Ok (heed (member_count old.proposer.members) old.proposer.id view l.from l.note)) result does view stands)
received may_find count_of old new l up so result does (Stopped c doubt) stands = absurd (cc (up, stands.0))
