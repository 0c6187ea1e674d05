use Rattle.std.proofs.Common.{◌≡◌, ◌++◌, ℕ, List, drop, inr, rules, subst}
use Rattle.node_lines.specs.Lines.{IsRefused, release_word}
use Rattle.host_service.proofs.asked.release_in.Goals as goal

pub returns : goal.returns
returns c =
    let same : c.deref.result.now ≡ c.args.line.items = search rules in
    let place = c.in-Some.field-0 in
    let word : c.args.line.items ≡ release_word ++ drop place c.args.line.items = subst (λ (line : List ℕ). line ≡ release_word ++ drop place line) same c.in-Some.ensures.1 in
    inr (drop place c.args.line.items, word, subst (λ (line : List ℕ). IsRefused line c.in-Err.why) c.new.ensures c.in-Err.ensures.fault)
