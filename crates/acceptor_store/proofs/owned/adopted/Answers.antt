use Rattle.std.proofs.Common.{◌≡◌, inl, inr, refl, sym, subst, ◌∙◌, arith}
use Rattle.acceptor_store.proofs.Words.{IfErr-weaker, IfOk-weaker, HasCleanDisk, state, HasFacts, Open}
use Rattle.acceptor_store.specs.declared.OpenFault.TheVariants.{Refused}
use Rattle.acceptor_store.proofs.Owning.{adopts_owned, adopts_plain, left_adopting, left_owned, left_plain, owned_due}
use Rattle.acceptor_store.proofs.Owning.{plain_due, store_due_before}
use Rattle.acceptor_store.proofs.owned.adopted.Goals as goal

pub returns-then-has_facts-clause-tables : goal.returns-then-has_facts-clause-tables
returns-then-has_facts-clause-tables g c = IfOk-weaker c.prepared_for.result _ _ (λ x h clean. adopts_owned g.S.Store c.args.owner.now c.args.conn x.0 x.1 (h clean)) c.prepared_for.ensures.tables

pub returns-then-has_facts-clause-whole : goal.returns-then-has_facts-clause-whole
returns-then-has_facts-clause-whole g c = IfErr-weaker c.prepared_for.result _ _ (λ e h clean db may. left_owned g.S.Store c.args.owner.now c.args.conn db (h clean db may)) c.prepared_for.ensures.whole

pub returns-then-has_facts-clause-due : goal.returns-then-has_facts-clause-due
returns-then-has_facts-clause-due g c =
    IfErr-weaker c.prepared_for.result _ _ (λ e h clean. owned_due g.S.Store c.args.owner.now c.args.conn e.0 (subst HasFacts c.schema-2.ensures.value (c.if-has_facts.ensures.yes refl)) (h clean)) c.prepared_for.ensures.due

pub returns-in-Err-clause-due : goal.returns-in-Err-clause-due
returns-in-Err-clause-due g c sure =
    plain_due g.S.Store c.args.owner.now c.args.conn c.in-Err.fault (λ facts. absurd (let e = c.if-has_facts.ensures.all (subst HasFacts (sym c.schema-2.ensures.value) facts) in cc)) (λ is. c.in-Err.ensures.foreign is sure)

pub returns-in-Err-clause-whole : goal.returns-in-Err-clause-whole
returns-in-Err-clause-whole g c sure db may = left_plain g.S.Store c.args.owner.now c.args.conn db (c.in-Err.ensures.whole sure db may)

pub returns-in-Ok-make-clause-tables : goal.returns-in-Ok-make-clause-tables
returns-in-Ok-make-clause-tables g c clean =
    let mid : HasCleanDisk (state g.S.Store c.in-Ok.found.0) = omega (arith, c.in-Ok-make.ensures.clean, clean) in
    adopts_plain g.S.Store c.args.owner.now c.args.conn c.in-Ok.found.0 c.in-Ok-make.owned c.in-Ok.found.1 c.at.result
    (λ facts. absurd (let e = c.if-has_facts.ensures.all (subst HasFacts (sym c.schema-2.ensures.value) facts) in cc))
    (λ blank. absurd (let e = c.if-is_blank.ensures.all (c.schema.ensures.value ∙ blank) in cc)) (c.in-Ok.ensures.tables mid) (c.in-Ok-make.ensures.made clean) c.at.ensures.ballots c.at.ensures.count

pub returns-in-Err-make-clause-due : goal.returns-in-Err-make-clause-due
returns-in-Err-make-clause-due g c sure = store_due_before g.S.Store c.args.owner.now c.args.conn c.stopped.result c.stopped.ensures.ours

pub returns-in-Err-make-clause-whole : goal.returns-in-Err-make-clause-whole
returns-in-Err-make-clause-whole g c sure db may =
    let mid : HasCleanDisk (state g.S.Store c.in-Ok.found.0) = omega (arith, c.in-Err-make.ensures.trusted, sure) in
    left_adopting g.S.Store c.args.owner.now c.args.conn g.met.S.Store.settled c.in-Ok.found.0 c.in-Ok.found.1 (c.in-Ok.ensures.tables mid) db (c.in-Err-make.ensures.left sure db may)

pub returns-then-has_facts-clause-refused : goal.returns-then-has_facts-clause-refused
returns-then-has_facts-clause-refused g c = IfErr-weaker c.prepared_for.result _ _ (λ e h refused clean. inr (inl (h refused clean))) c.prepared_for.ensures.refused

pub returns-in-Err-clause-refused : goal.returns-in-Err-clause-refused
returns-in-Err-clause-refused g c refused clean =
    let is : c.in-Err.fault ≡ Refused = (let e : Open c.in-Err.fault ≡ Open Refused = refused in cc) in
    inl (c.in-Err.ensures.refused is clean)

pub returns-in-Err-make-clause-refused : goal.returns-in-Err-make-clause-refused
returns-in-Err-make-clause-refused g c refused sure =
    let mid : HasCleanDisk (state g.S.Store c.in-Ok.found.0) = omega (arith, c.in-Err-make.ensures.trusted, sure) in
    let it = c.in-Ok.ensures.tables mid in
    inr (inr (λ facts. absurd (let e = c.if-has_facts.ensures.all (subst HasFacts (sym c.schema-2.ensures.value) facts) in cc), (it.0, it.1)))
