use Rattle.std.proofs.Common.{refl, sym, subst, ◌∙◌, inl, inr, Err, ap}
use Rattle.acceptor_store.proofs.Words.{IfErr-weaker, IfOk-weaker, no_content, IsBroken, IsUnowned, HasFurtherAs, first_count}
use Rattle.acceptor_store.proofs.Owning.{prepares_for, schema_due}
use Rattle.acceptor_store.proofs.owned.prepared_for.Goals as goal

pub taken_for-requires : goal.taken_for-requires
taken_for-requires g c = sym c.schema-2.ensures.value ∙ c.in-Ok-judged.ensures.own

pub returns-in-Ok-judged-clause-tables : goal.returns-in-Ok-judged-clause-tables
returns-in-Ok-judged-clause-tables g c = IfOk-weaker c.taken_for.result _ _ (λ x h clean. prepares_for g.S.Store c.args.owner.now c.args.is_new c.args.conn x.0 x.1 (h clean)) c.taken_for.ensures.tables

pub returns-in-Ok-judged-clause-due : goal.returns-in-Ok-judged-clause-due
returns-in-Ok-judged-clause-due g c = IfErr-weaker c.taken_for.result _ _ (λ e h clean. h clean c.args.is_new) c.taken_for.ensures.due

pub returns-in-Ok-judged-clause-whole : goal.returns-in-Ok-judged-clause-whole
returns-in-Ok-judged-clause-whole g c = IfErr-weaker c.taken_for.result _ _ (λ e h clean db may. elim (h clean db may) [ inl before ↦ inl before | inr made ↦ inr (inr made) ]) c.taken_for.ensures.whole

pub returns-in-Ok-judged-clause-broken : goal.returns-in-Ok-judged-clause-broken
returns-in-Ok-judged-clause-broken g c free broken = absurd (let e = c.in-Ok-judged.ensures.broken (subst IsBroken (sym c.schema-2.ensures.value) broken) in cc)

pub returns-in-Ok-judged-clause-unowned : goal.returns-in-Ok-judged-clause-unowned
returns-in-Ok-judged-clause-unowned g c free unowned = absurd (let e = c.in-Ok-judged.ensures.unowned (subst IsUnowned (sym c.schema-2.ensures.value) unowned) in cc)

pub returns-in-Ok-judged-clause-further : goal.returns-in-Ok-judged-clause-further
returns-in-Ok-judged-clause-further g c free further = absurd (further.2 (sym c.schema-2.ensures.value ∙ c.in-Ok-judged.ensures.own))

pub returns-in-Err-judged-clause-due : goal.returns-in-Err-judged-clause-due
returns-in-Err-judged-clause-due g c clean = schema_due g.S.Store c.args.owner.now c.args.is_new c.args.conn c.in-Err-judged.fault (rw c.schema-2.ensures.value at c.in-Err-judged.ensures.due)

pub returns-in-Err-judged-clause-broken : goal.returns-in-Err-judged-clause-broken
returns-in-Err-judged-clause-broken g c free broken = let e = c.in-Err-judged.ensures.broken (subst IsBroken (sym c.schema-2.ensures.value) broken) in cc

pub returns-in-Err-judged-clause-unowned : goal.returns-in-Err-judged-clause-unowned
returns-in-Err-judged-clause-unowned g c free unowned = let e = c.in-Err-judged.ensures.unowned (subst IsUnowned (sym c.schema-2.ensures.value) unowned) in cc

pub returns-in-Err-judged-clause-further : goal.returns-in-Err-judged-clause-further
returns-in-Err-judged-clause-further g c free further =
    let it = subst HasFurtherAs (sym c.schema-2.ensures.value) further in
    c.in-Err-judged.ensures.further it.0 it.1 it.2

pub returns-in-Ok-judged-clause-refused : goal.returns-in-Ok-judged-clause-refused
returns-in-Ok-judged-clause-refused g c = IfErr-weaker c.taken_for.result _ _ (λ e h refused clean. elim (h refused clean) [ inl count ↦ inr (inr (inl (inr count))) | inr fails ↦ inr (inr (inr fails)) ]) c.taken_for.ensures.refused

pub returns-in-Err-judged-clause-refused : goal.returns-in-Err-judged-clause-refused
returns-in-Err-judged-clause-refused g c refused clean =
    let it = c.in-Err-judged.ensures.refused (ap Err refused) in
    inr (inl (
      λ broken. it.0 (subst IsBroken (sym c.schema-2.ensures.value) broken),
      λ unowned. it.1 (subst IsUnowned (sym c.schema-2.ensures.value) unowned),
      λ is. it.2 (c.schema-2.ensures.value ∙ is),
      λ is. absurd (let e = c.if-is_blank.ensures.all (c.schema.ensures.value ∙ is) in cc),
    ))

pub returns-in-Ok-clause-tables : goal.returns-in-Ok-clause-tables
returns-in-Ok-clause-tables g c clean =
    let blank = sym c.schema.ensures.value ∙ c.if-is_blank.ensures.yes refl in
    (no_content, inl (blank, c.if-not-is_new.false, refl), (first_count, c.none.ensures.count, c.in-Ok.ensures.made clean no_content (blank, refl)), c.none.ensures.content)

pub returns-in-Err-clause-whole : goal.returns-in-Err-clause-whole
returns-in-Err-clause-whole g c sure db may =
    let blank = sym c.schema.ensures.value ∙ c.if-is_blank.ensures.yes refl in
    elim (c.in-Err.ensures.left sure db may) [ inl before ↦ inl before | inr made ↦ inr (inl (blank, c.if-not-is_new.false, (made no_content (blank, refl)).0)) ]
