use Rattle.std.proofs.Common.{inl, Err, refl, sym, ap, subst, ◌∙◌, inr}
use Rattle.acceptor_store.proofs.Words.{IfErr-weaker, IfOk-weaker, no_content, IsForeignSchema, HasFurther, first_count}
use Rattle.acceptor_store.proofs.Reopening.{always, unowned_version}
use Rattle.acceptor_store.proofs.opening.prepared.Goals as goal

pub returns-in-Ok-judged-clause-foreign : goal.returns-in-Ok-judged-clause-foreign
returns-in-Ok-judged-clause-foreign g c = IfErr-weaker c.brought_up.result _ _ (λ e h foreign clean. inr (c.in-Ok-judged.version, sym c.schema-2.ensures.value ∙ c.in-Ok-judged.ensures.own, h foreign clean)) c.brought_up.ensures.foreign

pub returns-in-Err-judged-clause-foreign : goal.returns-in-Err-judged-clause-foreign
returns-in-Err-judged-clause-foreign g c foreign clean = inl (subst IsForeignSchema c.schema-2.ensures.value (c.in-Err-judged.ensures.foreign (ap Err foreign)))

pub returns-in-Err-judged-clause-unowned : goal.returns-in-Err-judged-clause-unowned
returns-in-Err-judged-clause-unowned g c free foreign = c.in-Err-judged.ensures.unowned (subst IsForeignSchema (sym c.schema-2.ensures.value) foreign)

pub returns-in-Err-judged-clause-further : goal.returns-in-Err-judged-clause-further
returns-in-Err-judged-clause-further g c free further = let it = subst HasFurther (sym c.schema-2.ensures.value) further in c.in-Err-judged.ensures.further it.0 it.1

pub returns-in-Ok-judged-clause-tables : goal.returns-in-Ok-judged-clause-tables
returns-in-Ok-judged-clause-tables g c = IfOk-weaker c.brought_up.result _ _ (λ x h clean. h clean (sym c.schema-2.ensures.value ∙ c.in-Ok-judged.ensures.own)) c.brought_up.ensures.tables

pub returns-in-Ok-judged-clause-unowned : goal.returns-in-Ok-judged-clause-unowned
returns-in-Ok-judged-clause-unowned g c free foreign = absurd (c.in-Ok-judged.ensures.ours (subst IsForeignSchema (sym c.schema-2.ensures.value) foreign))

pub returns-in-Ok-judged-clause-whole : goal.returns-in-Ok-judged-clause-whole
returns-in-Ok-judged-clause-whole g c = IfErr-weaker c.brought_up.result _ _ (λ e h clean. h clean (sym c.schema-2.ensures.value ∙ c.in-Ok-judged.ensures.own)) c.brought_up.ensures.whole

pub brought_up-requires : goal.brought_up-requires
brought_up-requires g c = record { unowned = unowned_version _ c.in-Ok-judged.version c.in-Ok-judged.ensures.own c.in-Ok-judged.ensures.ours }

pub returns-in-Ok-judged-clause-ours : goal.returns-in-Ok-judged-clause-ours
returns-in-Ok-judged-clause-ours g c = always c.brought_up.result (λ foreign. c.in-Ok-judged.ensures.ours (subst IsForeignSchema (sym c.schema-2.ensures.value) foreign))

pub returns-in-Ok-judged-clause-refused : goal.returns-in-Ok-judged-clause-refused
returns-in-Ok-judged-clause-refused g c =
    IfErr-weaker c.brought_up.result _ _ (λ e h refused clean. elim (h refused clean (sym c.schema-2.ensures.value ∙ c.in-Ok-judged.ensures.own)) [ inl made ↦ inr (inr (inl made)) | inr fails ↦ inr (inr (inr (c.in-Ok-judged.version, fails))) ]) c.brought_up.ensures.refused

pub returns-in-Err-judged-clause-refused : goal.returns-in-Err-judged-clause-refused
returns-in-Err-judged-clause-refused g c refused clean = inr (inl (
  λ foreign. absurd (let e = c.in-Err-judged.ensures.unowned (subst IsForeignSchema (sym c.schema-2.ensures.value) foreign) in cc),
  λ version is. c.in-Err-judged.ensures.refused (ap Err refused) version (c.schema-2.ensures.value ∙ is),
  λ is. absurd (let e = c.if-is_blank.ensures.all (c.schema.ensures.value ∙ is) in cc),
))

pub returns-in-Ok-clause-tables : goal.returns-in-Ok-clause-tables
returns-in-Ok-clause-tables g c clean =
    let blank = sym c.schema.ensures.value ∙ c.if-is_blank.ensures.yes refl in
    (no_content, inl (blank, refl), (first_count, c.none.ensures.count, c.in-Ok.ensures.made clean no_content (blank, refl)), c.none.ensures.content)

pub returns-in-Err-clause-whole : goal.returns-in-Err-clause-whole
returns-in-Err-clause-whole g c sure db may =
    let blank = sym c.schema.ensures.value ∙ c.if-is_blank.ensures.yes refl in
    elim (c.in-Err.ensures.left sure db may) [ inl before ↦ inl before | inr made ↦ inr (no_content, inl (blank, refl), (made no_content (blank, refl)).0) ]
