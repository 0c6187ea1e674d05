use Rattle.std.proofs.Common.{inl}
use Rattle.host_service.proofs.Apart.{asks_apart}
use Rattle.host_service.proofs.service.reply_alone.Goals as goal

pub returns-in-Ok : goal.returns-in-Ok
returns-in-Ok g c =
    inl (c.in-Ok.asked, c.in-Ok.ensures, c.requires (asks_apart c.args.line.items c.in-Ok.asked c.in-Ok.ensures), c.reply_of_host.ensures)
