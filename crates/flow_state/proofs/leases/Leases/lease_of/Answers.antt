use Rattle.std.proofs.Common.{rules, ◌&&◌, not, eqb, ltb, sym, ap, ◌∙◌}
use Rattle.std.specs.List.{find}
use Rattle.std.proofs.lemmas.Iterator.{YieldsList-from_slice}
use Rattle.std.proofs.lemmas.Iterator.Search.{find_from_yields_List}
use borrow.Author.Tests.{tests}
use Rattle.flow_state.specs.Rows.{Lease}
use Rattle.flow_state.proofs.leases.Leases.lease_of.Goals as goal

pub returns : goal.returns
returns c = λ t same start.
    c.copied.ensures
    ∙ find_from_yields_List (λ l. eqb l.modem c.args.modem && eqb l.tag c.args.tag && not (ltb l.last c.args.start)) _ _ _ c.find.ensures.ran (YieldsList-from_slice c.deref-2.result.now cc) (λ x b q k. search (rules, tests))
    ∙ ap (find (λ l. eqb l.modem c.args.modem && eqb l.tag c.args.tag && not (ltb l.last c.args.start))) (c.deref-2.ensures.value ∙ c.self.view_is ∙ sym same)
    ∙ ap (λ n. find (λ (l : Lease). eqb l.modem c.args.modem && eqb l.tag c.args.tag && not (ltb l.last n)) t.leases) (sym start)
