use Rattle.std.proofs.Common.{◌≡◌, ℕ, subst, sym, Ok}
use Rattle.ballots.specs.declared.letters.Note.TheVariants.{Accept}
use Rattle.ballots.specs.Members.{member_count}
use Rattle.ballots.specs.declared.letters.Note.{Note}
use Rattle.node.specs.View.{Standing}
use Rattle.node.specs.Calls.{CallEnds, answer}
use Rattle.node.specs.Sched.{Stands, view_over}
use Rattle.node.specs.Step.{heed}
use Rattle.node.proofs.parts.Parts.heed.Goals as goal

pub returns-in-Accept-clause-done : goal.returns-in-Accept-clause-done
returns-in-Accept-clause-done g c honest content holds =
    let view = view_over c.args.self.now content in
    let EndsSo : Note → Type 0 = λ note. (t : Standing) × CallEnds (λ course. course ≡ Ok (heed (member_count c.args.self.now.proposer.members) c.args.self.now.proposer.id view c.args.letter.now.from note)) view (answer c.take_accept.result) t × Stands g.R.Records.may_find c.take_accept.new.self t in
    let Placed : ℕ → Type 0 = λ place. EndsSo (Accept c.in-Accept.ballot place c.in-Accept.value) in
    subst EndsSo (sym c.in-Accept.is) (subst Placed c.place_of-in-Accept.ensures (c.take_accept.ensures.done honest content holds))
