use Rattle.std.proofs.Common.{◌≡◌, Some, ap, inl, refl}
use Rattle.host_service.specs.declared.reply.HostReply.TheVariants.{Joined}
use Rattle.host_service.proofs.waiting.heed_state.Goals as goal

pub returns-in-Ok : goal.returns-in-Ok
returns-in-Ok g c =
    let had : c.args.waiting.now.opens ≡ Some c.in-Some.opens = cc (c.take.ensures.value, c.in-Some.is) in
    let made = c.in-Ok.ensures in (
      c.in-Some.opens,
      had,
      inl (record {
        host = c.in-Ok.host;
        is = refl;
        none = c.take.ensures.after;
        joined = record {
          member = made.member;
          places = made.places;
          members = made.members;
          kept = made.kept;
          begins = made.begins;
          state = (made.starts.0, made.starts.1, made.starts.2, made.starts.3);
          stands = made.stands;
        };
        told = ap Joined c.number-epoch.ensures;
      }),
    )
