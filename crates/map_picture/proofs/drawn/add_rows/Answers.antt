use Rattle.std.proofs.Common.{◌≡◌, ℕ, ◌+◌, ◌*◌, length, ap}
use Rattle.xml_text.specs.Xml.{Xml, join}
use Rattle.map_picture.specs.Pictures.{frames, heading, owners, requests, strips, ChannelRows}
use Rattle.map_picture.specs.Scales.{no_map, scale}
use Rattle.map_picture.proofs.Rendered.{behind}
use Rattle.map_picture.proofs.drawn.add_rows.Goals as goal

pub returns : goal.returns
returns c =
    let all : ChannelRows = c.args.channel.now in
    let ch : c.channel.inside.page.ch ≡ all.page.ch = ap (λ (v : ChannelRows). v.page.ch) c.channel.view_is in
    let axis : c.channel.inside.page.axis ≡ all.page.axis = ap (λ (v : ChannelRows). v.page.axis) c.channel.view_is in
    let numbers : c.channel.inside.numbers.now ≡ all.numbers = ap (λ (v : ChannelRows). v.numbers) c.channel.view_is in
    let leases : c.channel.inside.owners.now ≡ all.owners = ap (λ (v : ChannelRows). v.owners) c.channel.view_is in
    let waiting : c.channel.inside.requests.now ≡ all.requests = ap (λ (v : ChannelRows). v.requests) c.channel.view_is in
    let first : ℕ = 22 * length all.owners in
    let second : ℕ = 22 * length all.requests in
    let head : Xml = heading all.page.ch c.args.y in
    let none : Xml = no_map all.page.axis c.args.y in
    let above : Xml = scale all.page.axis c.args.y all.numbers in
    let around : Xml = frames all (c.args.y + 42) (first + second + 2) in
    let given : Xml = owners all (c.args.y + 46) in
    let asked : Xml = requests all (c.args.y + 46 + first) in
    let maps : Xml = strips all (c.args.y + 60 + first + second) in
    behind _ _ _ (join (join (join (join (join head none) above) around) given) asked) maps
    (behind _ _ _ (join (join (join (join head none) above) around) given) asked
    (behind _ _ _ (join (join (join head none) above) around) given
    (behind _ _ _ (join (join head none) above) around
    (behind _ _ _ (join head none) above
    (behind _ _ _ head none (rw ch at c.in_ok-add_heading.ensures) (rw axis at c.in_ok-add_no_map.ensures))
    (rw (axis, numbers) at c.in_ok-add_scale.ensures)) (rw (leases, waiting) at c.in_ok-add_frames.ensures))
    c.in_ok-add_owners.ensures) (rw leases at c.in_ok-add_requests.ensures)) (rw (leases, waiting) at c.in_ok-add_strips.ensures)
