use Rattle.std.proofs.Common.{◌≡◌, ◌+◌, ◌-◌, ◌≤◌, ◌++◌, take, length, List, ℕ, ap, arith, ◌∙◌}
use Rattle.std.specs.Int.{w32, to_be_bytes}
use Rattle.std.proofs.lemmas.Slice.{take-put_mid}
use borrow.Rule.Slice.PartMut.{put_mid}
use Rattle.map_body.proofs.writing.write_u32_at.Goals as goal

over : (at n : ℕ) (out buf : List ℕ) → at + 4 ≤ length out → buf ≡ to_be_bytes w32 n → take (at + 4) (put_mid at ((at + 4) - at) out buf) ≡ take at out ++ to_be_bytes w32 n
over at n out buf fits is =
    let len : length buf ≡ 4 = ap length is in
    take-put_mid at ((at + 4) - at) out buf (at + 4) (omega arith) (omega arith) ∙ ap (λ (xs : List ℕ). take at out ++ xs) is

pub returns : goal.returns
returns c = over c.args.at c.args.number c.args.out.now c.copy_from_slice.new.self c.requires (c.copy_from_slice.ensures.after ∙ c.to_be_bytes.ensures)
