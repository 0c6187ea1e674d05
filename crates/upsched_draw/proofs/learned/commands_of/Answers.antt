use Rattle.std.proofs.Common.{◌≡◌, [], List, None, subst, sym, ◌∙◌, ap}
use Rattle.std.specs.Option.{option_copied}
use Rattle.std.proofs.lemmas.List.{append-nil}
use Rattle.grant_machine.specs.declared.command.Command.{Command}
use Rattle.upsched_draw.specs.Learned.{AreLearned}
use Rattle.upsched_draw.proofs.Seen.{one_more}
use Rattle.upsched_draw.proofs.learned.commands_of.Goals as goal

pub returns-in_default : goal.returns-in_default
returns-in_default g c = λ s stands.
    let none = sym (c.learned_at.ensures s stands) ∙ ap option_copied c.in_default.is in
    subst (AreLearned s) (append-nil c.loop-place.commands.items) (c.loop-place.invariant s stands [] none)

pub loop-place-preserved : goal.loop-place-preserved
loop-place-preserved g c = λ s stands cs more.
    one_more s c.loop-place.place c.loop-place.commands.items c.push.new.self.items cs c.read_command.result.0 c.in-Some.value.now (option_copied c.learned_at.result)
    (c.loop-place.invariant s stands) (c.learned_at.ensures s stands) (ap option_copied c.in-Some.is) (rw c.as_slice.ensures at c.read_command.ensures.value) c.in_ok-push.ensures.items more
