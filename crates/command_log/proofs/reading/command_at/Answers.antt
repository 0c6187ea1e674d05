use Rattle.std.proofs.Common.{◌≡◌, ℕ, List, Some, slice_get, sym, ap, ◌∙◌}
use Rattle.std.specs.Option.{option_copied}
use Rattle.std.proofs.lemmas.Option.{get_or_from_slice_get}
use Rattle.command_log.specs.Reading.{byte}
use Rattle.command_log.proofs.Forms.{no_command}
use Rattle.command_log.proofs.reading.command_at.Goals as goal

pub returns-in_default-9 : goal.returns-in_default-9
returns-in_default-9 c =
    let bytes : List ℕ = c.args.bytes.now in
    let first : ℕ = c.in_ok-first.field-0.now in
    let h = c.in_default.is-0 in
    let here : slice_get bytes 0 ≡ Some first = sym c.first.ensures.value ∙ ap option_copied c.in_ok-first.was in
    let is : byte bytes 0 ≡ first = get_or_from_slice_get bytes 0 first 0 here in
    sym (no_command bytes first is
    h.0.0.0.0.0.0.0.0.0.1 h.0.0.0.0.0.0.0.0.1 h.0.0.0.0.0.0.0.1 h.0.0.0.0.0.0.1 h.0.0.0.0.0.1 h.0.0.0.0.1 h.0.0.0.1 h.0.0.1 h.0.1 h.1)
