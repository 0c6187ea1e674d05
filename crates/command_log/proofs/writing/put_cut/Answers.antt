use Rattle.std.proofs.Common.{◌≡◌, ◌++◌, ◌∷◌, Bool, false, List, ℕ, append_assoc, ap, ◌∙◌}
use Rattle.command_log.specs.Spelling.{cut_byte, cut_spelling, cut_settings_spelling}
use Rattle.command_log.proofs.writing.put_cut.Goals as goal

pub returns-clause-spelled : goal.returns-clause-spelled
returns-clause-spelled c =
    let spelled : Bool → List ℕ = λ plain.
    c.args.out.now.items ++ (cut_byte plain ∷ cut_spelling c.args.ch c.args.asked.len c.args.asked.not_before c.args.asked.ack
    ++ cut_settings_spelling plain c.args.asked.keep c.args.asked.ranging_backoff c.args.asked.data_backoff) in
    let whole : c.extend_from_slice-6.new.self.items ≡ spelled false =
    rw (
      c.in_ok-extend_from_slice-6.ensures.items,
      c.in_ok-extend_from_slice-5.ensures.items,
      c.to_be_bytes-4.ensures,
      c.in_ok-extend_from_slice-4.ensures.items,
      c.to_be_bytes-3.ensures,
      c.in_ok-extend_from_slice-3.ensures.items,
      c.to_be_bytes-2.ensures,
      c.in_ok-extend_from_slice-2.ensures.items,
      c.to_be_bytes.ensures,
      c.in_ok-extend_from_slice.ensures.items,
      c.cut_byte.ensures,
      c.if-is_plain.false,
    )
    (simp append_assoc) in
    whole ∙ ap spelled c.if-is_plain.ensures
