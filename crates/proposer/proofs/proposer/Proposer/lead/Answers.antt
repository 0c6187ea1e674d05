use Rattle.std.proofs.Common.{◌+◌, ◌∙◌, ap, max, subst, sym}
use Rattle.ballots.specs.Ballots.{IsLeastAbove}
use Rattle.ballots.specs.Members.{member_count}
use Rattle.ballots.specs.declared.letters.Note.TheVariants.{Prepare}
use Rattle.proposer.specs.declared.role.Role.TheVariants.{Preparing}
use Rattle.proposer.specs.Letters.{to_all}
use Rattle.proposer.specs.Proposing.{Proposing}
use Rattle.proposer.specs.Turns.{MayHaveTried}
use Rattle.proposer.proofs.Turning.{on_err, next_ballot, may_have_tried, has_next, not_spent}
use Rattle.acceptor.proofs.Callers.{still_holds}
use Rattle.proposer.proofs.proposer.Proposer.lead.Goals as goal

pub returns-in_err-put_tried-clause-doubt : goal.returns-in_err-put_tried-clause-doubt
returns-in_err-put_tried-clause-doubt g c honest =
    let me = c.args.self.now in
    let first = c.put_tried.ensures.trust.honest honest in
    let top = c.max.ensures ∙ ap (λ (p : Proposing). max c.in_ok-used.used p.hint) c.self.view_is in
    let least = subst (λ (p : Proposing). IsLeastAbove c.max.result p.id c.in-Ok.ballot) c.self.view_is c.in-Ok.ensures in
    let next = next_ballot (g.R.Records.may_find c.args.records.now) me.hint me.id c.in-Ok.ballot c.in_ok-used.used c.max.result (c.in_ok-used.ensures.value first) top least in
    on_err _ (MayHaveTried (g.R.Records.may_find c.args.records.now) (g.R.Records.may_find c.put_tried.new.self) me.hint me.id)
    (may_have_tried (g.R.Records.may_find c.args.records.now) (g.R.Records.may_find c.greatest_used.new.records) (g.R.Records.may_find c.put_tried.new.self) me.hint me.id c.in-Ok.ballot next (c.in_ok-used.ensures.kept first) ((c.put_tried.ensures.writes honest).doubt))

pub returns-clause-ok : goal.returns-clause-ok
returns-clause-ok g c honest =
    let me = c.args.self.now in
    let first = c.put_tried.ensures.trust.honest honest in
    let top = c.max.ensures ∙ ap (λ (p : Proposing). max c.in_ok-used.used p.hint) c.self.view_is in
    let least = subst (λ (p : Proposing). IsLeastAbove c.max.result p.id c.in-Ok.ballot) c.self.view_is c.in-Ok.ensures in
    let next = next_ballot (g.R.Records.may_find c.args.records.now) me.hint me.id c.in-Ok.ballot c.in_ok-used.used c.max.result (c.in_ok-used.ensures.value first) top least in
    let sent = c.in_ok-letters.ensures ∙ ap (λ (p : Proposing). to_all (member_count p.members) p.id (Prepare c.in-Ok.ballot (c.args.prefix + 1))) c.self.view_is in
    (c.in-Ok.ballot, next, (λ i. record { role = Preparing c.in-Ok.ballot (c.args.prefix + 1) (sym c.new.ensures i) (sym c.new-2.ensures i); letters = sym sent i }), λ content holds. (c.in_ok-put_tried.ensures.writes honest).ok content (still_holds (g.R.Records.may_find c.args.records.now) (g.R.Records.may_find c.greatest_used.new.records) content (c.in_ok-used.ensures.kept first) holds))

pub returns-in_err-put_tried-clause-memory : goal.returns-in_err-put_tried-clause-memory
returns-in_err-put_tried-clause-memory g c honest =
    let me = c.args.self.now in
    let first = c.put_tried.ensures.trust.honest honest in
    let top = c.max.ensures ∙ ap (λ (p : Proposing). max c.in_ok-used.used p.hint) c.self.view_is in
    let least = subst (λ (p : Proposing). IsLeastAbove c.max.result p.id c.in-Ok.ballot) c.self.view_is c.in-Ok.ensures in
    let next = next_ballot (g.R.Records.may_find c.args.records.now) me.hint me.id c.in-Ok.ballot c.in_ok-used.used c.max.result (c.in_ok-used.ensures.value first) top least in
    has_next _ _ (g.R.Records.may_find c.args.records.now) me.hint me.id c.in-Ok.ballot next

pub returns-in_err-put_tried-clause-spent : goal.returns-in_err-put_tried-clause-spent
returns-in_err-put_tried-clause-spent g c honest content holds room none =
    let me = c.args.self.now in
    let first = c.put_tried.ensures.trust.honest honest in
    let top = c.max.ensures ∙ ap (λ (p : Proposing). max c.in_ok-used.used p.hint) c.self.view_is in
    let least = subst (λ (p : Proposing). IsLeastAbove c.max.result p.id c.in-Ok.ballot) c.self.view_is c.in-Ok.ensures in
    let next = next_ballot (g.R.Records.may_find c.args.records.now) me.hint me.id c.in-Ok.ballot c.in_ok-used.used c.max.result (c.in_ok-used.ensures.value first) top least in
    absurd (not_spent (g.R.Records.may_find c.args.records.now) me.hint me.id c.in-Ok.ballot next content holds none)

pub returns-clause-spent : goal.returns-clause-spent
returns-clause-spent g c honest content holds room none =
    let me = c.args.self.now in
    let first = c.put_tried.ensures.trust.honest honest in
    let top = c.max.ensures ∙ ap (λ (p : Proposing). max c.in_ok-used.used p.hint) c.self.view_is in
    let least = subst (λ (p : Proposing). IsLeastAbove c.max.result p.id c.in-Ok.ballot) c.self.view_is c.in-Ok.ensures in
    let next = next_ballot (g.R.Records.may_find c.args.records.now) me.hint me.id c.in-Ok.ballot c.in_ok-used.used c.max.result (c.in_ok-used.ensures.value first) top least in
    absurd (not_spent (g.R.Records.may_find c.args.records.now) me.hint me.id c.in-Ok.ballot next content holds none)
