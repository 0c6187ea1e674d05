use Rattle.upsched_check.proofs.Known.{told_known}
use Rattle.upsched_check.proofs.sight.report_file.Goals as goal

pub returns : goal.returns
returns g c =
    told_known c.report.result c.args.words.now.path.now c.args.words.now.form (g.R.Read.remaining c.args.file.now) _ _ _ _ c.in_ok-text.ensures.text c.as_str.ensures.value c.report.ensures.told c.report.ensures.good
