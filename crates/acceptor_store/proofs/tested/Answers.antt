use Rattle.std.proofs.Common.{◌≡◌, Option, Some, None, IfSome, refl, sym, ap, subst, ◌∙◌, arith}
use Rattle.sqlite.specs.Schema.{Schema}
use Rattle.acceptor_store.proofs.Words.{HasCleanDisk, state, survives_weaker, Version, Owner, schema_for, version_for}
use Rattle.acceptor_store.proofs.Words.{ServesKnown, schema_of, as_version}
use Rattle.acceptor_store.proofs.CountsKnown.{still_known}
use Rattle.acceptor_store.proofs.Reopening.{tells, tests_leave}
use Rattle.acceptor_store.proofs.tested.Goals as goal

known : (owner : Option Owner) {version : Version} {seen has : Schema} → seen ≡ has → seen ≡ schema_of version → version ≡ version_for owner → has ≡ schema_for owner
known owner value ok is = sym value ∙ (ok ∙ (ap schema_of is ∙ sym (as_version owner)))

pub returns-in-None-clause-survives : goal.returns-in-None-clause-survives
returns-in-None-clause-survives g c =
    let schema = known c.args.owner.now c.schema.ensures.value (c.in-Ok-true.ensures.ok c.in-Ok-true.field-0-test) c.version_of_owner.ensures in
    survives_weaker (state g.S.Store c.args.conn.now) (state g.S.Store c.count_for.new.conn) _ _ (λ _ db other. absurd (other schema)) c.count_for.ensures.survives

pub returns-in-Some-clause-survives : goal.returns-in-Some-clause-survives
returns-in-Some-clause-survives g c =
    let schema = known c.args.owner.now c.schema.ensures.value (c.in-Ok-true.ensures.ok c.in-Ok-true.field-0-test) c.version_of_owner.ensures in
    tests_leave c.args.owner.now (state g.S.Store c.args.conn.now) (state g.S.Store c.count_for.new.conn) (state g.S.Store c.numbers_at.new.conn) schema (λ clean x was. (c.in-Some.ensures.serves clean schema x was).2.serves) c.count_for.ensures.survives c.numbers_at.ensures.survives

some_all : {T : Type 0} {A B C D : T → Type 0} (o : Option T) → IfSome o A → IfSome o B → IfSome o C → ((x : T) → A x → B x → C x → D x) → IfSome o D
some_all None a b c f = tt
some_all (Some x) a b c f = f x a b c

pub returns-in-Some-clause-tells : goal.returns-in-Some-clause-tells
returns-in-Some-clause-tells g c clean =
    let schema = known c.args.owner.now c.schema.ensures.value (c.in-Ok-true.ensures.ok c.in-Ok-true.field-0-test) c.version_of_owner.ensures in
    let mid : HasCleanDisk (state g.S.Store c.count_for.new.conn) = omega (arith, c.numbers_at.ensures.survives.clean, clean) in
    let serves = c.in-Some.ensures.serves mid schema in
    let survives = returns-in-Some-clause-survives g c in
    some_all c.numbers_at.result (c.numbers_at.ensures.value clean) c.numbers_at.ensures.count (c.numbers_at.ensures.stays clean) (λ numbers value count still.
    tells g.S.Store g.met.S.Store.settled g.met.S.Store.stays c.args.owner.now c.args.conn.now c.numbers_at.new.conn numbers schema clean (λ x was. value x (serves x was).2.serves)
    (λ x was. subst (λ k. ServesKnown c.args.owner.now k (state g.S.Store c.numbers_at.new.conn) x) (sym count) (still_known (state g.S.Store c.count_for.new.conn) (state g.S.Store c.numbers_at.new.conn) still c.args.owner.now c.in-Some.count x (serves x was))) survives)
