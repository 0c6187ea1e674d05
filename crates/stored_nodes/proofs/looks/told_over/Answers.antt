use Rattle.std.proofs.Common.{◌∙◌, subst, sym, true≢false}
use Rattle.acceptor_store_parts.specs.Foreign.{IsUnowned}
use Rattle.stored_nodes.proofs.looks.told_over.Goals as goal

pub returns-then-is_unowned : goal.returns-then-is_unowned
returns-then-is_unowned g c always opens =
    c.told_as_unowned.ensures always opens (subst (λ s. IsUnowned s) c.schema.ensures.value (c.is_unowned.ensures.yes c.if-is_unowned.true))

pub returns-else-is_unowned : goal.returns-else-is_unowned
returns-else-is_unowned g c always opens =
    c.told_as_owned.ensures always opens (λ is. absurd (true≢false (sym (c.is_unowned.ensures.all (subst (λ s. IsUnowned s) (sym c.schema.ensures.value) is)) ∙ c.if-is_unowned.false)))
