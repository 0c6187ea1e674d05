use Rattle.std.proofs.Common.{◌≡◌, Some, sym, ◌∙◌, subst, refl}
use Rattle.std.specs.Option.{MatchOption}
use Rattle.command_log.specs.Spelling.{Spells, SpellsNone}
use Rattle.command_log.specs.Reading.{command_in}
use Rattle.command_log.proofs.Forms.{reads_any, spells_none}
use Rattle.command_log.proofs.reading.read_command.Goals as goal

pub returns-in-Some-clause-read : goal.returns-in-Some-clause-read
returns-in-Some-clause-read c _ =
    let bytes = c.args.bytes.now in
    let read : command_in bytes ≡ Some c.in-Some.command = sym c.command_at.ensures ∙ c.in-Some.is in
    subst (λ o. MatchOption o (SpellsNone bytes) (Spells bytes)) read (reads_any bytes (λ i. (c.type_inv.bytes i).fits))

pub returns-in-None-clause-other : goal.returns-in-None-clause-other
returns-in-None-clause-other c _ = (refl, spells_none c.args.bytes.now (sym c.command_at.ensures ∙ c.in-None.is))
