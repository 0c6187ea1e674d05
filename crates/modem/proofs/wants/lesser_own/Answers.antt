use Rattle.std.proofs.Common.{sym, ◌∙◌}
use Rattle.modem.proofs.Least.{least_led, least_strange, least_kept}
use Rattle.modem.proofs.wants.lesser_own.Goals as goal

pub returns-then-not-leads : goal.returns-then-not-leads
returns-then-not-leads c = least_kept c.args.leases.now c.args.«at» c.args.want c.args.ch c.args.least (sym c.leads.ensures ∙ c.if-not-leads.true)

pub returns-then-is_own_at : goal.returns-then-is_own_at
returns-then-is_own_at c = least_led c.args.leases.now c.args.«at» c.args.want c.args.ch c.args.least (sym c.is_own_at.ensures ∙ c.if-is_own_at.true) (sym c.leads.ensures ∙ c.if-not-leads.false)

pub returns-else-is_own_at : goal.returns-else-is_own_at
returns-else-is_own_at c = least_strange c.args.leases.now c.args.«at» c.args.want c.args.ch c.args.least (sym c.is_own_at.ensures ∙ c.if-is_own_at.false)
