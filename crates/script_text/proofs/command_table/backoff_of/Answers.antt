use Rattle.std.proofs.Common.{rules}
use Rattle.script_text.proofs.Pairs.{two_items}
use Rattle.script_text.proofs.command_table.backoff_of.Goals as goal

pub returns-in-None-clause-found : goal.returns-in-None-clause-found
returns-in-None-clause-found c =
    let first = c.in_ok-start.ensures.found in
    let second = c.in_ok-end.ensures.found in
    let third = c.get.ensures in
    record {
      items = two_items _ _ _ first.0 second.0 (search rules);
      first_fits = first.1;
      second_fits = second.1;
    }
