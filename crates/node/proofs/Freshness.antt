-- Whether a node is fresh.
use Rattle.std.proofs.Common.{length, ◌≡◌, inl, ◌↔◌, ℕ, ◌+◌, ◌≤◌, max, Bool, true, false, IsTrue, cond, ◌==◌, ◌&&◌}
use Rattle.std.proofs.Common.{List, [], ◌∷◌, refl, sym, ap, subst, ◌∙◌, arith, rules, Result, Ok, Err, IfOk, None}
use Rattle.std.proofs.lemmas.Bool.{and_from, and_parts, eq-eqb, eqb-true, le-leb}
use Rattle.std.proofs.lemmas.List.{nil_from_length}
use Rattle.std.proofs.Math.Logic.{∥∥₁_elim, ∥∥₁_prop}
use Rattle.std.proofs.Math.Nat.{ℕ_set}
use Rattle.ballots.specs.Rows.{rows_from}
use Rattle.ballots.specs.declared.letters.Cast.{Cast}
use Rattle.acceptor.specs.Content.{Content, IsSound, AreRowsFrom, no_content, promised}
use Rattle.acceptor.specs.Found.{Holds, FindsSame, Keeps}
use Rattle.acceptor.specs.declared.records.RecordsFault.{RecordsFault}
use Rattle.acceptor.specs.declared.records.RecordsFault.TheVariants.{Refused, Broken, OutOfMemory}
use Rattle.acceptor.proofs.Callers.{greatest_apart}
use Rattle.proposer.specs.declared.fault.NodeFault.{NodeFault as Fault}
use Rattle.node.specs.View.{View, Standing, started}
use Rattle.node.specs.View.Standing.{Running, Stopped}
use Rattle.node.specs.Calls.{TellsFresh, down_after}
use Rattle.node.specs.Learned.{Learned}
use Rattle.node.specs.Sched.{Stands, AfterStoreFault, IsUntouched, view_over}
use Rattle.node.specs.declared.parts.Parts.{Parts}
use Rattle.node.proofs.Endings.{still_holds}

-- the rows from place 1 on are all rows
pub all_rows : {V : Type 0} (p : ℕ) (rows : List (ℕ × V)) → 1 ≤ p → AreRowsFrom p rows → rows_from rows 1 ≡ rows
all_rows p [] first are = refl
all_rows p (row ∷ rows) first are =
    let at_first : 1 ≤ row.0 = omega (arith, first, are.0) in
    ap (λ b. cond b (row ∷ rows_from rows 1) (rows_from rows 1)) (le-leb 1 row.0 at_first) ∙ ap (λ r. row ∷ r) (all_rows (row.0 + 1) rows (omega (arith, at_first)) are.2)

empty_content : (c : Content) (used : ℕ) → used ≡ max c.tried (promised c) → used ≡ 0 → IsSound c → rows_from c.votes 1 ≡ [] → rows_from c.learned 1 ≡ [] → c ≡ no_content
empty_content c used is none sound empty unlearned =
    let above : c.row ≤ promised c = omega (arith, greatest_apart c.row c.votes) in
    let tried : c.tried ≡ 0 = omega (arith, is, none) in
    let row : c.row ≡ 0 = omega (arith, is, none, above) in
    let votes : c.votes ≡ [] = sym (all_rows 1 c.votes (omega arith) sound.0) ∙ empty in
    let learned : c.learned ≡ [] = sym (all_rows 1 c.learned (omega arith) sound.1) ∙ unlearned in
    (λ i. record { tried = tried i; row = row i; votes = votes i; learned = learned i })

-- records with no ballot, no vote and no learned row hold nothing, and no others do
pub nothing_so : (c : Content) (used : ℕ) (votes : List (ℕ × Cast)) (rows : List (ℕ × List ℕ)) → IsSound c → used ≡ max c.tried (promised c) → votes ≡ rows_from c.votes 1 → rows ≡ rows_from c.learned 1
    → IsTrue (used == 0 && length votes == 0 && length rows == 0) ↔ (c ≡ no_content)
nothing_so c used votes rows sound is some more = (
  λ none.
      let x = and_parts (used == 0 && length votes == 0) (length rows == 0) none in
      let y = and_parts (used == 0) (length votes == 0) x.0 in
      empty_content c used is (eqb-true used 0 y.0) sound (sym some ∙ nil_from_length votes (eqb-true (length votes) 0 y.1)) (sym more ∙ nil_from_length rows (eqb-true (length rows) 0 x.1)),
  λ empty. and_from (used == 0 && length votes == 0) (length rows == 0)
      (and_from (used == 0) (length votes == 0) (eq-eqb used 0 (is ∙ ap (λ (d : Content). max d.tried (promised d)) empty)) (eq-eqb (length votes) 0 (ap length (some ∙ ap (λ (d : Content). rows_from d.votes 1) empty))))
      (eq-eqb (length rows) 0 (ap length (more ∙ ap (λ (d : Content). rows_from d.learned 1) empty))),
)

module _ {R : Type 0} (may_find : R → Content → Type 0) (old : Parts R) (up : old.is_down ≡ false) where
  -- it is fresh exactly where it is untouched over no content
  pub fresh_so : (c : Content) → c ≡ no_content → (fresh : Bool) → (IsTrue fresh ↔ IsUntouched old) → IsTrue fresh ↔ (view_over old c ≡ started no_content)
  fresh_so c empty fresh is = (
    λ yes. let so = is.0 yes in (λ i. record { content = empty i; role = so.0 i; hint = so.1 i; tally = ap (λ (l : Learned). l.tally) so.2 i; cursor = ap (λ (l : Learned). l.cursor) so.2 i }),
    λ same. is.1 (ap (λ (v : View). v.role) same, ap (λ (v : View). v.hint) same, ap (λ (v : View). record { tally = v.tally; cursor = v.cursor }) same),
  )

  module _ (a : R) where
    abbrev pub later : Parts R
    later = record old { records = a }

    pub tells : FindsSame (may_find old.records) (may_find a) → (fresh : Bool) → ((c : Content) → Holds (may_find old.records) c → IsTrue fresh ↔ (view_over old c ≡ started no_content))
        → (s : Standing) → Stands may_find old s → (t : Standing) × TellsFresh s (Ok fresh) t × Stands may_find later t
    tells same fresh is (Running view) stands =
        (Running view, (subst (λ v. IsTrue fresh ↔ (v ≡ started no_content)) (sym stands.1) (is view.content stands.2), refl), (up, stands.1, still_holds (may_find old.records) (may_find a) view.content same stands.2))
    tells same fresh is (Stopped c doubt) stands = absurd (cc (up, stands.0))

    abbrev FailsSo : Standing → Fault → Parts R → Type 0
    FailsSo s told new = (t : Standing) × TellsFresh s (Err told) t × Stands may_find new t

    pub tell_fails : (fault : RecordsFault) (told : Fault) (new : Parts R) → Keeps {T = Bool} (Err fault) (may_find old.records) (may_find a) → AfterStoreFault later fault told new
        → (s : Standing) → Stands may_find old s → FailsSo s told new
    tell_fails Refused told new keeps so (Running view) stands = rw (so.0, so.1) (Running view, refl, (up, stands.1, still_holds (may_find old.records) (may_find a) view.content keeps stands.2))
    tell_fails OutOfMemory told new keeps so (Running view) stands = rw (so.0, so.1) (Running view, refl, (up, stands.1, still_holds (may_find old.records) (may_find a) view.content keeps stands.2))
    tell_fails Broken told new keeps so (Running view) stands = rw (so.0, so.1) (Stopped view.content None, refl, (refl, λ d is. inl (stands.2.1 d (keeps d is))))
    tell_fails fault told new keeps so (Stopped c doubt) stands = absurd (cc (up, stands.0))

-- it isn't fresh
pub no_tell : (P : Type 0) → (P → ⊥) → IsTrue false ↔ P
no_tell P none = (λ no. absurd (search rules), λ is. absurd (none is))

-- a node that told that it is fresh stands as one that starts over nothing
module _ {R : Type 0} (may_find : R → Content → Type 0) (old new : Parts R) (somewhere : ∥ ((s : Standing) × Stands may_find old s) ∥₁)
    (done : (s : Standing) → Stands may_find old s → (t : Standing) × TellsFresh s (Ok true) t × Stands may_find new t) where
  it_holds : (s : Standing) × Stands may_find old s → Holds (may_find new.records) no_content
  it_holds (Running view, stands) =
      let told = done (Running view) stands in
      let empty : view.content ≡ no_content = ap (λ (v : View). v.content) (told.1.0.0 (search rules)) in
      let after : Stands may_find new (Running view) = subst (Stands may_find new) told.1.1 told.2 in
      subst (Holds (may_find new.records)) empty after.2
  it_holds (Stopped c doubt, stands) = let told = done (Stopped c doubt) stands in absurd (cc (told.1.0))

  is_empty : (d : Content) → (Holds (may_find new.records) no_content → d ≡ no_content) → d ≡ no_content
  is_empty d same =
      let tried : d.tried ≡ 0 = ∥∥₁_elim somewhere (ℕ_set d.tried 0) (λ s. ap (λ (c : Content). c.tried) (same (it_holds s))) in
      let row : d.row ≡ 0 = ∥∥₁_elim somewhere (ℕ_set d.row 0) (λ s. ap (λ (c : Content). c.row) (same (it_holds s))) in
      let count : length d.votes ≡ 0 = ∥∥₁_elim somewhere (ℕ_set (length d.votes) 0) (λ s. ap (λ (c : Content). length c.votes) (same (it_holds s))) in
      let votes : d.votes ≡ [] = nil_from_length d.votes count in
      let several : length d.learned ≡ 0 = ∥∥₁_elim somewhere (ℕ_set (length d.learned) 0) (λ s. ap (λ (c : Content). length c.learned) (same (it_holds s))) in
      let learned : d.learned ≡ [] = nil_from_length d.learned several in
      (λ i. record { tried = tried i; row = row i; votes = votes i; learned = learned i })

  pub stands_fresh : new.is_down ≡ false → IsUntouched new → Stands may_find new (Running (started no_content))
  stands_fresh up untouched = (
    up,
    (λ i. record { content = no_content; role = sym untouched.0 i; hint = sym untouched.1 i; tally = ap (λ (l : Learned). l.tally) (sym untouched.2) i; cursor = ap (λ (l : Learned). l.cursor) (sym untouched.2) i }),
    (∥∥₁_elim somewhere ∥∥₁_prop (λ s. (it_holds s).0), λ d found. is_empty d (λ holds. holds.1 d found)),
  )

pub fresh_if_ok : {R : Type 0} (may_find : R → Content → Type 0) (old new : Parts R) → old.is_down ≡ false → (result : Result Bool Fault) → ∥ ((s : Standing) × Stands may_find old s) ∥₁
    → ((s : Standing) → Stands may_find old s → (t : Standing) × TellsFresh s result t × Stands may_find new t) → new.is_down ≡ down_after result old.is_down → IfOk result (λ fresh. IsTrue fresh → IsUntouched new)
    → IfOk result (λ fresh. IsTrue fresh → Stands may_find new (Running (started no_content)))
fresh_if_ok may_find old new up (Ok true) somewhere done down untouched = λ is. stands_fresh may_find old new somewhere done (down ∙ up) (untouched is)
fresh_if_ok may_find old new up (Ok false) somewhere done down untouched = λ is. absurd (search rules)
fresh_if_ok may_find old new up (Err fault) somewhere done down untouched = tt
