use Rattle.std.proofs.Common.{◌≡◌, Some, rules, sym, ap, subst, ◌∙◌}
use Rattle.std.specs.Option.{option_copied}
use Rattle.ballots.specs.Limits.{IsValue}
use Rattle.ballots.specs.Rows.{at}
use Rattle.acceptor.proofs.SoundRows.{value_fits}
use Rattle.acceptor.proofs.plain.learned_at.Goals as goal

pub value_of-requires : goal.value_of-requires
value_of-requires c =
    let value : c.in_ok-to_bytes-in-Some.field-0 ≡ c.in-Some.kept.now = search rules in
    let here : at c.args.learned.now.entries c.number.result ≡ Some c.in-Some.kept.now = sym c.get.ensures ∙ ap option_copied c.in-Some.is in
    subst IsValue (sym value) (value_fits c.number.result c.in-Some.kept.now c.args.learned.now.entries c.requires here)
