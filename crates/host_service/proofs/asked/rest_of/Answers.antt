use Rattle.std.proofs.Common.{◌≡◌, ◌-◌, ◌∙◌, length, take, ap, arith}
use Rattle.host_service.proofs.Behind.{moved_front}
use Rattle.host_service.proofs.asked.rest_of.Goals as goal

pub returns : goal.returns
returns c =
    let ks = c.args.line.items in
    let size : c.len-len.result ≡ length ks = omega (arith, c.len-len.ensures, c.args.line.ok.0) in
    c.truncate.ensures.items ∙ ap (take (c.len-len.result - c.args.place)) c.copy_within.ensures.items ∙ moved_front ks c.args.place c.len-len.result size (omega (arith, c.requires, size, c.args.line.ok.0))
