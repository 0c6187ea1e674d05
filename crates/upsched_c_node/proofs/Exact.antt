-- What a call of a node says where its records are in memory.
use Rattle.std.proofs.Common.{◌≡◌, ◌⊎◌, ⊎_elim, ℕ, ◌<◌, Bool, true, false, IsTrue, is_ok, List, [], length, Result, Ok}
use Rattle.std.proofs.Common.{Err, Vec, refl, sym, ap, subst, ◌∙◌, arith}
use Rattle.std.proofs.lemmas.Bool.{false≢true}
use Rattle.std.specs.Prelude.{IfErr, IsOk, IsOkAnd}
use Rattle.std.specs.declared.alloc.Global.{Global}
use Rattle.ballots.specs.Ballots.{IsLeastAbove}
use Rattle.ballots.specs.Members.{member_count}
use Rattle.ballots.specs.declared.letters.Letter.{Letter}
use Rattle.acceptor.specs.Content.{Content}
use Rattle.acceptor.specs.Faults.{HasRisen}
use Rattle.acceptor.specs.Found.{Holds}
use Rattle.acceptor.specs.Kept.{is_it, no_failures, no_break}
use Rattle.node.specs.Calls.{Called, Cause, IsNothingNew, Kept as KeepsWho, StopsLast, Who as WhoIs, answer}
use Rattle.node.specs.Calls.Cause.{Receive, Lead, Offer, Tell}
use Rattle.node.specs.Releases.{Releases, outputs, released_all}
use Rattle.map_release.specs.declared.numbered.Numbered.{Numbered}
use Rattle.node.specs.Sched.{Stands, view_over, who_of}
use Rattle.node.specs.Step.{is_heeded, letters_told, limit, offer, receive, lead_with, tell}
use Rattle.ballots.specs.Limits.{most_places}
use Rattle.node.specs.View.{View, Standing, gapless, started}
use Rattle.node.specs.View.Standing.{Running}
use Rattle.node.specs.declared.parts.Parts.{Parts}
use Rattle.proposer.specs.declared.fault.NodeFault.{NodeFault as Fault}
use Rattle.upsched_c_node.specs.States.{Answered, MayLack, NodeState, Released, started_as, state_of}

-- records in memory hold their content
pub holds : (c : Content) → Holds (is_it c) c
holds c = (∣ refl ∣₁, λ d is. is)

-- a node that is up stands for its view
pub stands_so : (parts : Parts Content) → parts.is_down ≡ false → Stands is_it parts (Running (view_over parts parts.records))
stands_so parts up = (up, refl, holds parts.records)

-- and for no other
pub stands_for : (parts : Parts Content) (view : View) → Stands is_it parts (Running view) → view ≡ view_over parts parts.records
stands_for parts view stands = stands.1 ∙ ap (λ (c : Content). view_over parts c) (sym (stands.2.1 parts.records refl))

abbrev Who : Parts Content → WhoIs
Who parts = who_of no_failures no_break parts

-- no store of it can fail
no_failure : {P : Type 0} → HasRisen 0 0 → P
no_failure risen = absurd (omega (arith, risen))

module _ (old new : Parts Content) (up : old.is_down ≡ false) where
  abbrev n : NodeState
  n = state_of old

  -- so it stays up
  stays_so : (r : Result (Vec Letter Global) Fault) → KeepsWho (Who old) r (Who new) → new.is_down ≡ false
  stays_so (Ok letters) k = k.4 ∙ up
  stays_so (Err Fault.Down) k = ⊎_elim (λ failed. no_failure failed.0) (λ was. absurd (cc (was.0, up))) k.3
  stays_so (Err Fault.StoreRefused) k = k.4 ∙ up
  stays_so (Err Fault.OutOfMemory) k = k.4 ∙ up
  stays_so (Err Fault.NotLeading) k = k.4 ∙ up
  stays_so (Err Fault.LogFull) k = k.4 ∙ up
  stays_so (Err Fault.RoundsSpent) k = k.4 ∙ up
  stays_so (Err Fault.ValueTooLong) k = k.4 ∙ up

  pub stays_up : (r : Result (Vec Letter Global) Fault) → KeepsWho (Who old) r (Who new) → new.is_down ≡ false
  stays_up = stays_so

  -- where it stands for a view, that is its state
  state_is : (view : View) → new.proposer.id ≡ old.proposer.id → member_count new.proposer.members ≡ member_count old.proposer.members → Stands is_it new (Running view)
      → state_of new ≡ record n { view = view }
  state_is view id members stands = let is = stands_for new view stands in
      λ i. record { id = id i; members = members i; view = sym is i }

  module _ (cause : Cause) where
    abbrev Done : Result (List Letter) Fault → Type 0
    Done answered = (s : Standing) → Stands is_it old s → (t : Standing) × Called (member_count old.proposer.members) old.proposer.id s cause answered t × Stands is_it new t

    -- the call is answered so
    pub answered : (r : Result (Vec Letter Global) Fault) → KeepsWho (Who old) r (Who new) → Done (answer r) → (r ≡ Err Fault.OutOfMemory → MayLack n cause)
        → Answered n cause (answer r) (state_of new)
    answered (Ok letters) k done lacks =
        let d = done (Running n.view) (stands_so old up) in
        let o = d.1.0 in
        (o, d.1.1, d.1.2, state_is o.view k.0 k.1 (subst (Stands is_it new) d.1.3 d.2))
    answered (Err Fault.OutOfMemory) k done lacks = let d = done (Running n.view) (stands_so old up) in (lacks refl, state_is n.view k.0 k.1 (subst (Stands is_it new) d.1 d.2))
    answered (Err Fault.StoreRefused) k done lacks = no_failure k.3.0
    answered (Err Fault.Down) k done lacks = ⊎_elim (λ failed. no_failure failed.0) (λ was. absurd (cc (was.0, up))) k.3
    answered (Err Fault.NotLeading) k done lacks = let d = done (Running n.view) (stands_so old up) in (d.1.0, state_is n.view k.0 k.1 (subst (Stands is_it new) d.1.1 d.2))
    answered (Err Fault.LogFull) k done lacks = let d = done (Running n.view) (stands_so old up) in (d.1.0, state_is n.view k.0 k.1 (subst (Stands is_it new) d.1.1 d.2))
    answered (Err Fault.RoundsSpent) k done lacks = let d = done (Running n.view) (stands_so old up) in (d.1.0, state_is n.view k.0 k.1 (subst (Stands is_it new) d.1.1 d.2))
    answered (Err Fault.ValueTooLong) k done lacks = let d = done (Running n.view) (stands_so old up) in (d.1.0, state_is n.view k.0 k.1 (subst (Stands is_it new) d.1.1 d.2))

  -- a release is answered so
  module _ (now : ℕ) where
    abbrev Lets : Result (Vec Numbered Global) Fault → Type 0
    Lets r = (s : Standing) → Stands is_it old s → (t : Standing) × Releases s now (outputs r) t × Stands is_it new t

    pub released_ok : (numbered : Vec Numbered Global) → KeepsWho {T = Vec Numbered Global} (Who old) (Ok numbered) (Who new) → Lets (Ok numbered) → Released n now (Ok numbered.items) (state_of new)
    released_ok numbered k lets = let d = lets (Running n.view) (stands_so old up) in (d.1.0, state_is (released_all n.view) k.0 k.1 (subst (Stands is_it new) d.1.1 d.2))

    pub released_err : (fault : Fault) → KeepsWho {T = Vec Numbered Global} (Who old) (Err fault) (Who new) → Lets (Err fault) → state_of new ≡ n
    released_err Fault.OutOfMemory k lets = let d = lets (Running n.view) (stands_so old up) in state_is n.view k.0 k.1 (subst (Stands is_it new) d.1 d.2)
    released_err Fault.StoreRefused k lets = no_failure k.3.0
    released_err Fault.Down k lets = ⊎_elim (λ failed. no_failure failed.0) (λ was. absurd (cc (was.0, up))) k.3
    released_err Fault.NotLeading k lets = absurd (lets (Running n.view) (stands_so old up)).1
    released_err Fault.LogFull k lets = absurd (lets (Running n.view) (stands_so old up)).1
    released_err Fault.RoundsSpent k lets = absurd (lets (Running n.view) (stands_so old up)).1
    released_err Fault.ValueTooLong k lets = absurd (lets (Running n.view) (stands_so old up)).1

-- what is OK is some
ok_is : {T E : Type 0} (r : Result T E) → IsTrue (is_ok r) → (x : T) × (Ok x ≡ r)
ok_is (Ok x) is = (x, refl)
ok_is (Err e) is = absurd (cc (is))

module _ (n : NodeState) where
  -- a lead that lacks memory could have led
  pub lead_lacks : (r : Result (Vec Letter Global) Fault) → r ≡ Err Fault.OutOfMemory → StopsLast n.members n.id n.view Lead (answer r)
      → IfErr r (λ fault. fault ≡ Fault.OutOfMemory → ((mid : Content) × Unit {0} × ⊥) ⊎ ((b : ℕ) × IsLeastAbove (limit n.view) n.id b)) → MayLack n Lead
  lead_lacks r is last memory =
      let few : length (gapless n.view) < most_places = subst (λ (a : Result (Vec Letter Global) Fault). StopsLast n.members n.id n.view Lead (answer a)) is last tt in
      let b = ⊎_elim (λ none. absurd none.2) (λ some. some) (subst (λ (a : Result (Vec Letter Global) Fault). IfErr a (λ fault. fault ≡ Fault.OutOfMemory → ((mid : Content) × Unit {0} × ⊥) ⊎ ((b : ℕ) × IsLeastAbove (limit n.view) n.id b))) is memory refl) in
      ((lead_with n.members n.id n.view b.0, (few, (b.0, b.1, refl))), tt)

  pub offer_lacks : (v : List ℕ) (r : Result (Vec Letter Global) Fault) → r ≡ Err Fault.OutOfMemory → StopsLast n.members n.id n.view (Offer v) (answer r) → MayLack n (Offer v)
  offer_lacks v r is last =
      let may : IsTrue (is_ok (offer n.members n.id n.view n.view.role v)) = subst (λ (a : Result (Vec Letter Global) Fault). StopsLast n.members n.id n.view (Offer v) (answer a)) is last tt in
      (ok_is (offer n.members n.id n.view n.view.role v) may, tt)

  pub receive_lacks : (l : Letter) (r : Result (Vec Letter Global) Fault) → r ≡ Err Fault.OutOfMemory
      → (is_heeded n.members n.id l ≡ false → IsOkAnd r (λ letters. letters.items ≡ [])) → (IsNothingNew n.view.role n.view.tally.learned l.from l.note → IsOk r) → MayLack n (Receive l)
  receive_lacks l r is passed_over no_memory = ((receive n.members n.id n.view l, refl), (heeded (is_heeded n.members n.id l) refl, λ nothing_new. false≢true (subst IsOk is (no_memory nothing_new))))
    where
      heeded : (b : Bool) → b ≡ is_heeded n.members n.id l → IsTrue b
      heeded true eq = refl
      heeded false eq = absurd (subst (λ (a : Result (Vec Letter Global) Fault). IsOkAnd a (λ letters. letters.items ≡ [])) is (passed_over (sym eq)))

  pub tell_lacks : (to q : ℕ) (r : Result (Vec Letter Global) Fault) → r ≡ Err Fault.OutOfMemory → (letters_told n.members n.id n.view.tally.learned to q ≡ [] → IsOk r) → MayLack n (Tell to q)
  tell_lacks to q r is no_memory = ((tell n.members n.id n.view to q, refl), λ none. false≢true (subst IsOk is (no_memory none)))

-- a node that starts over records stands for what they hold
pub started_so : (new : Parts Content) (id members : ℕ) (c : Content) → new.proposer.id ≡ id → member_count new.proposer.members ≡ members
    → (t : Standing) → t ≡ Running (started c) → Stands is_it new t → state_of new ≡ started_as id members c
started_so new id members c same all t is stands =
    let view = stands_for new (started c) (subst (Stands is_it new) is stands) in
    λ i. record { id = same i; members = all i; view = sym view i }
