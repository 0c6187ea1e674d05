use Rattle.std.proofs.Common.{◌≡◌, refl, rules}
use Rattle.ballots.specs.Members.{member_count}
use Rattle.hosts.specs.Hosts.{AreMembers, member_of, places_of}
use Rattle.hosts.specs.New.{ArePlaces}
use Rattle.upsched_host.proofs.AsNamed.{new_server, stands_empty}
use Rattle.upsched_host.proofs.named.new_server.Goals as goal

pub returns-in-Ok : goal.returns-in-Ok
returns-in-Ok c =
    let host = c.in-Ok.host in
    let are : ArePlaces c.args.places = search rules in
    let member : member_of host ≡ (c.args.id, member_count c.args.members) = search rules in
    let places : places_of host ≡ c.args.places = search rules in
    let members : AreMembers host = search rules in
    let opened = c.in-Ok.ensures.opens (λ e seat at. refl) in (
      are,
      new_server c.new-in-Ok.result host (c.args.id, c.args.members, c.args.places) c.new-in-Ok.ensures member places members c.in-Ok.ensures.kept
          (stands_empty host opened.0 opened.1 opened.2) (λ node. refl),
    )
