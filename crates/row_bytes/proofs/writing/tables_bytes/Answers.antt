use Rattle.std.proofs.Common.{◌++◌, List, ℕ, arith, ap, ◌∙◌}
use Rattle.std.specs.List.{flat_map}
use Rattle.row_bytes.specs.Spelling.{number_2, table_spelling}
use Rattle.row_bytes.proofs.Behind.{few_channels}
use Rattle.row_bytes.proofs.writing.tables_bytes.Goals as goal

pub overflow_cast-channels : goal.overflow_cast-channels
overflow_cast-channels c = omega (arith, few_channels c.args.rows.now c.requires, c.channels.ensures)

pub returns : goal.returns
returns c = record {
  firm = c.requires;
  fits = record { tables = c.in_ok-put_tables.ensures.fits; count = omega (arith, few_channels c.args.rows.now c.requires) };
  parts = c.in_ok-put_tables.ensures.spelled
      ∙ ap (λ (t : List ℕ). t ++ flat_map table_spelling c.args.rows.now) (c.in_ok-put_u16.ensures ∙ ap (λ (t : List ℕ). t ++ number_2 c.channels.result) c.new-bytes.ensures.items ∙ ap number_2 c.channels.ensures);
}
