-- What is known of tables that were claimed, by what was read of them.
use Rattle.std.proofs.Common.{◌≡◌, ◌≢◌, ◌≤◌, inr, Bool, Result, Ok, Err, IfOk, IfErr, refl, sym, subst, ◌∙◌}
use Rattle.sqlite_trees.specs.View.{doubt}
use Rattle.acceptor_store.proofs.Words.{Ghosts, Trees, HasCleanDisk, Held, state, IsClean, Third, Owner, schema_of}
use Rattle.acceptor_store.proofs.Words.{HoldsNoneOwned, Numbers, OpenFault, Foreign, OwnerFault, Open, Blank, Unowned}
use Rattle.acceptor_store.proofs.Words.{OtherNode, OtherMembers, FailsAnew, FindsFor, IsDue}
use Rattle.acceptor_store.specs.Owning.{Claims, IsToldOther, Names}
use Rattle.acceptor_store.specs.declared.OpenFault.TheVariants.{Refused, Broken, OutOfMemory}
use Rattle.acceptor_store.proofs.CountsKnown.{names_read}

module _ {S : Type 0} (g : Ghosts S) (wanted : Owner) (conn : Held S) where
  pub claimed_tables : (read : Result (Held S × Owner × Numbers) (OpenFault × S)) (it : Result (Held S × Numbers) (OwnerFault × S)) → Claims g wanted read it
      → IfOk read (λ r. HasCleanDisk (state g r.0) → (state g conn).now.schema ≡ schema_of Third → FindsFor g r.1 conn r.0 r.2)
      → IfOk it (λ r. HasCleanDisk (state g r.0) → (state g conn).now.schema ≡ schema_of Third → FindsFor g wanted conn r.0 r.1)
  claimed_tables (Ok read) (Ok it) claims finds = λ clean schema.
      let now = finds (subst (λ (c : Held S). HasCleanDisk (state g c)) claims.1 clean) schema in
      subst (λ n. FindsFor g wanted conn it.0 n) (sym claims.2)
      (subst (λ (c : Held S). FindsFor g wanted conn c read.2) (sym claims.1) (subst (λ o. FindsFor g o conn read.0 read.2) claims.0 now))
  claimed_tables (Ok read) (Err told) claims finds = tt
  claimed_tables (Err unread) (Ok it) claims finds = absurd claims
  claimed_tables (Err unread) (Err told) claims finds = tt

  pub claimed_clean : (read : Result (Held S × Owner × Numbers) (OpenFault × S)) (it : Result (Held S × Numbers) (OwnerFault × S)) → Claims g wanted read it
      → IfOk read (λ r. doubt (state g conn).is_clean ≤ doubt (state g r.0).is_clean) → IfOk it (λ r. doubt (state g conn).is_clean ≤ doubt (state g r.0).is_clean)
  claimed_clean (Ok read) (Ok it) claims clean = subst (λ (c : Held S). doubt (state g conn).is_clean ≤ doubt (state g c).is_clean) (sym claims.1) clean
  claimed_clean (Ok read) (Err told) claims clean = tt
  claimed_clean (Err unread) (Ok it) claims clean = absurd claims
  claimed_clean (Err unread) (Err told) claims clean = tt

  pub claimed_left : (read : Result (Held S × Owner × Numbers) (OpenFault × S)) (it : Result (Held S × Numbers) (OwnerFault × S)) → Claims g wanted read it
      → IfOk read (λ r. HasCleanDisk (state g r.0) → (db : Trees) → (state g r.0).may_leave db → (state g conn).may_leave db)
      → IfErr read (λ e. IsClean (g.view e.1) → (db : Trees) → g.recovers e.1 db → (state g conn).may_leave db)
      → IfErr it (λ e. IsClean (g.view e.1) → (db : Trees) → g.recovers e.1 db → (state g conn).may_leave db)
  claimed_left (Ok read) (Ok it) claims leaves left = tt
  claimed_left (Ok read) (Err told) claims leaves left = λ clean db may. let back = claims.1 clean in leaves back.0 db (back.1 db may)
  claimed_left (Err unread) (Ok it) claims leaves left = absurd claims
  claimed_left (Err unread) (Err told) claims leaves left = subst (λ (s : S). IsClean (g.view s) → (db : Trees) → g.recovers s db → (state g conn).may_leave db) (sym claims.1) left

  -- what a crash leaves of tables that are the owner's
  pub claimed_leaves : (read : Result (Held S × Owner × Numbers) (OpenFault × S)) (it : Held S × Numbers) → Claims g wanted read (Ok it)
      → IfOk read (λ r. HasCleanDisk (state g r.0) → (db : Trees) → (state g r.0).may_leave db → (state g conn).may_leave db) → HasCleanDisk (state g it.0) → (db : Trees) → (state g it.0).may_leave db → (state g conn).may_leave db
  claimed_leaves (Ok read) it claims leaves = subst (λ (c : Held S). HasCleanDisk (state g c) → (db : Trees) → (state g c).may_leave db → (state g conn).may_leave db) (sym claims.1) leaves
  claimed_leaves (Err unread) it claims leaves = absurd claims

  told_other : (is_new : Bool) (found : Owner) (fault : OwnerFault) → (state g conn).now.schema ≡ schema_of Third → (numbers : Numbers) (new : Held S) → FindsFor g found conn new numbers → IsToldOther wanted found fault → IsDue g wanted is_new conn fault
  told_other is_new found (OtherNode other) schema numbers new finds it =
      let named : Names g conn other = subst (Names g conn) (sym it.0) (schema, names_read found numbers.count (state g conn).committed.trees finds.0 finds.1.1) in
      (named, subst (λ (o : Owner). o.node ≢ wanted.node) (sym it.0) it.1)
  told_other is_new found (OtherMembers other) schema numbers new finds it =
      let named : Names g conn other = subst (Names g conn) (sym it.0) (schema, names_read found numbers.count (state g conn).committed.trees finds.0 finds.1.1) in
      let differs = subst (λ (o : Owner). (o.node ≡ wanted.node) × (o.members ≢ wanted.members)) (sym it.0) (it.1, it.2) in
      (named, differs.0, differs.1)
  told_other is_new found Blank schema numbers new finds other = absurd other
  told_other is_new found Unowned schema numbers new finds other = absurd other
  told_other is_new found (Open fault) schema numbers new finds other = absurd other

  told_unread : (is_new : Bool) (fault : OpenFault) → (state g conn).now.schema ≡ schema_of Third → (fault ≡ Foreign → HoldsNoneOwned (state g conn).committed.trees) → IsDue g wanted is_new conn (Open fault)
  told_unread is_new Foreign schema none = inr (schema, none refl)
  told_unread is_new Refused schema none = tt
  told_unread is_new Broken schema none = tt
  told_unread is_new OutOfMemory schema none = tt

  pub claimed_due : (is_new : Bool) (read : Result (Held S × Owner × Numbers) (OpenFault × S)) (it : Result (Held S × Numbers) (OwnerFault × S)) → Claims g wanted read it
      → (state g conn).now.schema ≡ schema_of Third
      → IfOk read (λ r. HasCleanDisk (state g r.0) → (state g conn).now.schema ≡ schema_of Third → FindsFor g r.1 conn r.0 r.2)
      → IfErr read (λ e. e.0 ≡ Foreign → IsClean (g.view e.1) → HoldsNoneOwned (state g conn).committed.trees)
      → IfErr it (λ e. IsClean (g.view e.1) → IsDue g wanted is_new conn e.0)
  claimed_due is_new (Ok read) (Ok it) claims schema finds none = tt
  claimed_due is_new (Ok read) (Err told) claims schema finds none = λ clean. told_other is_new read.1 told.0 schema read.2 read.0 (finds (claims.1 clean).0 schema) claims.0
  claimed_due is_new (Err unread) (Ok it) claims schema finds none = absurd claims
  claimed_due is_new (Err unread) (Err told) claims schema finds none = λ clean.
      subst (IsDue g wanted is_new conn) (sym claims.0) (told_unread is_new unread.0 schema (λ foreign. none foreign (subst (λ (s : S). IsClean (g.view s)) claims.1 clean)))

  pub claimed_refused : (read : Result (Held S × Owner × Numbers) (OpenFault × S)) (it : Result (Held S × Numbers) (OwnerFault × S)) → Claims g wanted read it
      → IfErr read (λ e. e.0 ≡ Refused → IsClean (g.view e.1) → FailsAnew g Third conn e.1)
      → IfErr it (λ e. e.0 ≡ Open Refused → IsClean (g.view e.1) → FailsAnew g Third conn e.1)
  claimed_refused (Ok read) (Ok it) claims fails = tt
  claimed_refused (Ok read) (Err told) claims fails = λ refused. absurd (subst (IsToldOther wanted read.1) refused claims.0)
  claimed_refused (Err unread) (Ok it) claims fails = absurd claims
  claimed_refused (Err unread) (Err told) claims fails = λ refused clean.
      let is : unread.0 ≡ Refused = (let e : Open unread.0 ≡ Open Refused = sym claims.0 ∙ refused in cc) in
      subst (λ (s : S). FailsAnew g Third conn s) (sym claims.1) (fails is (subst (λ (s : S). IsClean (g.view s)) claims.1 clean))
