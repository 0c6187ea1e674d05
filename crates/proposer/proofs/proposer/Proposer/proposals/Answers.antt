use Rattle.std.proofs.Common.{◌≡◌, ◌++◌, ◌+◌, ◌-◌, ap, ◌∙◌, rules, arith}
use Rattle.std.proofs.lemmas.Grind.{common_steps}
use Rattle.ballots.specs.Members.{member_count}
use Rattle.ballots.specs.Rows.{at}
use Rattle.ballots.specs.declared.letters.Note.TheVariants.{Accept}
use Rattle.proposer.specs.Joining.{proposal}
use Rattle.proposer.specs.Letters.{to_all, proposals}
use Rattle.proposer.specs.Proposing.{Proposing}
use Rattle.proposer.proofs.Turning.{proposals_step}
use Rattle.proposer.proofs.proposer.Proposer.proposals.Goals as goal

pub loop-place-preserved : goal.loop-place-preserved
loop-place-preserved c =
    let members = member_count c.args.self.now.members in
    let me = c.args.self.now.id in
    let note = Accept c.args.ballot c.loop-place.place (proposal (at c.args.joined.now c.loop-place.place)) in
    let here = to_all members me note in
    let made : c.in_ok-to_all.field-0.items ≡ here = c.in_ok-to_all.ensures ∙ ap (λ v. to_all (member_count c.self.inside.members) c.self.inside.id (Accept c.args.ballot c.loop-place.place v)) c.in_ok-proposal.ensures
    ∙ ap (λ (p : Proposing). to_all (member_count p.members) p.id note) c.self.view_is in
    let appended : c.append.new.self.items ≡ c.loop-place.letters.items ++ c.in_ok-to_all.field-0.items = first_of (search rules, grind (arith, common_steps)) in
    ap (λ ls. ls ++ proposals members me c.args.ballot c.args.joined.now (c.loop-place.place + 1) (c.args.next - (c.loop-place.place + 1))) (appended ∙ ap (λ ls. c.loop-place.letters.items ++ ls) made)
    ∙ proposals_step members me c.args.ballot c.args.joined.now c.loop-place.place c.args.next c.loop-place.letters.items c.loop-place-test.true
    ∙ c.loop-place.invariant
