use Rattle.std.proofs.Common.{◌≡◌, ap}
use Rattle.xml_text.specs.Xml.{Xml, join}
use Rattle.map_picture.specs.Cells.{cells}
use Rattle.map_picture.specs.Pictures.{strip_name, strip_words, ChannelRows}
use Rattle.map_picture.specs.Scales.{ticks}
use Rattle.map_picture.specs.Wedges.{wedges}
use Rattle.map_picture.proofs.Rendered.{behind}
use Rattle.map_picture.proofs.rows.add_strip.Goals as goal

pub returns : goal.returns
returns c =
    let numbers : c.channel.inside.numbers.now ≡ c.args.channel.now.numbers = ap (λ (v : ChannelRows). v.numbers) c.channel.view_is in
    let transmitted : c.channel.inside.sent.now ≡ c.args.channel.now.sent = ap (λ (v : ChannelRows). v.sent) c.channel.view_is in
    let name : Xml = strip_name c.args.strip.now in
    let all : Xml = cells c.args.strip.now c.args.map.now.intervals in
    let marked : Xml = ticks c.args.strip.now c.args.channel.now.numbers in
    let sent : Xml = wedges c.args.channel.now.sent c.args.strip.now in
    behind _ _ _ (join (join (join name all) marked) sent) (strip_words c.args.strip.now)
    (behind _ _ _ (join (join name all) marked) sent
    (behind _ _ _ (join name all) marked
    (behind _ _ _ name all c.in_ok-add_strip_name.ensures (rw c.intervals.ensures at c.in_ok-add_cells.ensures))
    (rw numbers at c.in_ok-add_ticks.ensures)) (rw transmitted at c.in_ok-add_wedges.ensures)) c.in_ok-add_strip_words.ensures
