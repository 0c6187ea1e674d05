use Rattle.std.proofs.Common.{◌≡◌, [], ◌∙◌, arith}
use Rattle.grant_machine_parts.proofs.Carved.{all_free}
use Rattle.grant_machine_parts.proofs.placing.Filling.open.Goals as goal

pub invariant_of-self-2 : goal.invariant_of-self-2
invariant_of-self-2 c =
    let none : c.reserve-3.new.self.items ≡ [] = c.in_ok-reserve-3.ensures.items ∙ c.clear-3.ensures.items in
    record {
      gaps = rw (c.in_ok-push.ensures.items, c.in_ok-reserve.ensures.items, c.clear.ensures.items, none) (all_free c.args.len);
      short = c.requires.short;
      early = c.requires.early;
      few = rw none (omega arith);
      uses = rw none tt;
      apart = λ still. rw none tt;
    }
