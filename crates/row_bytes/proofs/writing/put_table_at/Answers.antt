use Rattle.std.proofs.Common.{◌≡◌, ◌++◌, ap, sym, subst, ◌∙◌}
use Rattle.std.specs.Prelude.{OnOk}
use Rattle.std.specs.Option.{option_copied}
use Rattle.flow_state.specs.Rows.{Table}
use Rattle.row_bytes.specs.Fits.{FitsTable}
use Rattle.row_bytes.specs.Spelling.{table_spelling}
use Rattle.row_bytes.proofs.Written.{both_ok, some_is}
use Rattle.row_bytes.proofs.writing.put_table_at.Goals as goal

pub returns : goal.returns
returns c = λ t e.
    let same : c.in-Some.table.now ≡ t = some_is _ _ (sym (ap option_copied c.in-Some.is) ∙ c.table_at.ensures ∙ e) in
    subst (λ (u : Table). OnOk c.put_table.result (FitsTable u × (c.put_table.new.out.items ≡ c.args.out.now.items ++ table_spelling u))) same
    (both_ok c.put_table.result _ _ c.put_table.ensures.fits c.put_table.ensures.spelled)
