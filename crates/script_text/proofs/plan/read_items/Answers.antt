use Rattle.std.proofs.Common.{[], ◌∷◌, ◌++◌, ◌∙◌, map, refl}
use Rattle.std.proofs.lemmas.Slice.Zip.{all_zipped_more}
use Rattle.toml.specs.View.{view}
use Rattle.script_text.specs.CommandTable.{SpellsCommand}
use Rattle.script_text.proofs.Taken.{first_bad, split_next}
use Rattle.script_text.proofs.plan.read_items.Goals as goal

pub returns-in-None-command_of-clause-fault : goal.returns-in-None-command_of-clause-fault
returns-in-None-command_of-clause-fault c =
    let (read, split, means) = c.loop-item.invariant in
    let item = c.in-Some.item in
    let rest = c.next.new.self.rest.items in
    let bad = first_bad SpellsCommand read c.loop-item.commands.items (view item) (map view rest) means (λ command spelled. let found = c.command_of.ensures.only command spelled in cc) in
    (c.len.result, refl, rw (split, c.in-Some.ensures.steps.0, c.len.ensures, c.loop-item.commands.ok.0) bad)

pub loop-item-preserved-in_ok-push-in-Some-command_of-3 : goal.loop-item-preserved-in_ok-push-in-Some-command_of-3
loop-item-preserved-in_ok-push-in-Some-command_of-3 c =
    let (read, split, means) = c.loop-item.invariant in
    let item = c.in-Some.item in
    let rest = c.next.new.self.rest.items in (
      read ++ view item ∷ [],
      split ∙ split_next read c.loop-item.item-iterator.rest.items item rest c.in-Some.ensures.steps.0,
      rw c.in_ok-push-in-Some-command_of.ensures.items (all_zipped_more SpellsCommand read c.loop-item.commands.items (view item) c.in-Some-command_of.command means c.in-Some-command_of.ensures.found),
    )
