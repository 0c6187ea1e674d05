use Rattle.std.proofs.Common.{◌≡◌, ◌+◌, ◌%◌, ap, ◌∙◌, arith}
use Rattle.grant_machine_parts.proofs.Numbered.{numbered_more, numbered_none, numbered_put}
use Rattle.grant_machine_parts.proofs.waiting.Grants.of.Goals as goal
use Rattle.grant_machine_parts.proofs.waiting.Grants.of.Goals.{then-is_sent, else-is_sent}

pub loop-i-preserved : goal.loop-i-preserved
loop-i-preserved c = elim c.if-is_sent.branch [
  | then-is_sent w ↦
      let at : w.from.result ≡ c.index-placements-i.result.sid % 256 = w.from.ensures ∙ ap (λ n. n % 256) w.get.ensures.same in
      let put = numbered_put c.loop-i.numbers c.if-is_sent.numbers c.args.placements.now c.loop-i.i w.from.result (w.min.result + 1) c.index-placements-i.result w.numbers-is at c.loop-i.invariant.whole (λ none. omega arith)
      c.loop-i-test.true c.index-placements-i.is c.loop-i.invariant.each in
      record { whole = put.0; each = put.1 }
  | else-is_sent w ↦ record {
    whole = rw w.numbers-is c.loop-i.invariant.whole;
    each = rw w.numbers-is (numbered_more c.loop-i.numbers c.args.placements.now c.loop-i.i c.index-placements-i.result c.loop-i-test.true c.index-placements-i.is c.loop-i.invariant.each (numbered_none c.loop-i.numbers c.index-placements-i.result (c.is_sent.ensures w.if-is_sent.false)));
  }
]
