use Rattle.std.proofs.Common.{◌≡◌, ◌+◌, ◌-◌, ◌++◌, length, take, drop, ap, ◌∙◌, arith, length-drop, take_all}
use Rattle.std.proofs.Math.Seq.{paste}
use Rattle.std.proofs.lemmas.List.Edits.{take-paste}
use Rattle.modem.proofs.kept.cut.Goals as goal

pub returns-then-from-to : goal.returns-then-from-to
returns-then-from-to c =
    let ks = c.args.kept.now.items in
    let from = c.args.from in
    let to = c.args.to in
    let len = c.len-len.result in
    let size : len ≡ length ks = omega (arith, c.len-len.ensures, c.args.kept.now.ok.0) in
    let left : len - (to - from) ≡ from + (len - to) = omega arith in
    let rest : length (drop to ks) ≡ len - to = omega (arith, length-drop to ks, size) in
    c.truncate.ensures.items ∙ ap (take (len - (to - from))) c.copy_within.ensures.items ∙ ap (λ k. take k (paste ks from (drop to ks) (len - to))) left
    ∙ take-paste ks from (drop to ks) (len - to) (omega arith) (omega arith)
    ∙ ap (λ l. take from ks ++ l) (take_all (len - to) (drop to ks) (omega arith))
