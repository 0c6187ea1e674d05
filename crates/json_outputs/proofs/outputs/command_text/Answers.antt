use Rattle.std.proofs.Common.{◌≡◌, codes}
use Rattle.serde_json.specs.Data.{no_members}
use Rattle.serde_json.specs.View.{members_view}
use Rattle.json_outputs.specs.Fields.{with_number}
use Rattle.json_outputs.proofs.Told.{Command, object_plain, object_told}
use Rattle.json_outputs.proofs.outputs.command_text.Goals as goal

pub text_of-requires : goal.text_of-requires
text_of-requires c =
    let first : members_view c.put_number.new.map.entries ≡ with_number (codes "command") c.args.number no_members = rw c.new-map.ensures.empty at c.in_ok-put_number.ensures in
    let told : Command c.args.number c.args.output.now c.put_output.new.map = rw first at c.in_ok-put_output.ensures in
    object_plain c.args.number c.args.output.now c.put_output.new.map told

pub returns : goal.returns
returns c =
    let first : members_view c.put_number.new.map.entries ≡ with_number (codes "command") c.args.number no_members = rw c.new-map.ensures.empty at c.in_ok-put_number.ensures in
    let told : Command c.args.number c.args.output.now c.put_output.new.map = rw first at c.in_ok-put_output.ensures in
    object_told c.args.number c.args.output.now c.put_output.new.map c.text_of.result told c.text_of.ensures
