use Rattle.std.proofs.Common.{◌≡◌, ◌≤◌, rules, length, get_or, inl, refl}
use Rattle.stored_hosts.proofs.Greatest.{greatest_more, greatest_whole}
use Rattle.stored_hosts.proofs.finding.greatest_of.Goals as goal

pub loop-file-init : goal.loop-file-init
loop-file-init c = inl (refl, refl)

pub loop-file-preserved : goal.loop-file-preserved
loop-file-preserved c =
    let here : get_or c.args.files.now c.loop-file.file-index c.file-item.result ≡ c.file-item.result = search rules in
    greatest_more c.args.files.now c.loop-file.file-index c.file-item.result c.loop-file-test.true here c.loop-file.greatest _ c.greater-greatest.ensures c.loop-file.invariant

pub returns : goal.returns
returns c =
    let all : length c.args.files.now ≤ c.loop-file.file-index = search rules in
    greatest_whole c.args.files.now c.loop-file.file-index c.loop-file.greatest all c.requires c.loop-file.invariant
