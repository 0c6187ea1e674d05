use Rattle.std.proofs.Common.{◌≡◌, ◌<◌, ◌+◌, ◌≤◌, true, false, arith, rules}
use Rattle.script_counts.proofs.Reading.{offer_some, offer_other, offers_end, not_all}
use Rattle.script_counts.proofs.counts.offers_all.Goals.{in-Some+in_ok-is_of+else-not-branch, in_default}
use Rattle.script_counts.proofs.counts.offers_all.Goals as goal

pub returns-then-not-branch : goal.returns-then-not-branch
returns-then-not-branch c =
    let read = rw c.in-Some.is at c.value_at.ensures in
    let no : c.in_ok-is_of.field-0 ≡ false = search rules in
    not_all _ (offer_other c.args.commands.now _ _ _ c.loop-i.count c.in-Some.value.now read (λ found. let yes = c.in_ok-is_of.ensures.1 found in cc) c.loop-i.invariant.0)

pub loop-i-preserved : goal.loop-i-preserved
loop-i-preserved c = elim c.match-value_at.branch [
  | in-Some+in_ok-is_of+else-not-branch w ↦
      let read = rw w.in-Some.is at c.value_at.ensures in
      let yes : w.in_ok-is_of.field-0 ≡ true = search rules in
      let found = w.in_ok-is_of.ensures.0 yes in
      let fewer = c.loop-i.invariant.1 in
      rw w.count-is (offer_some c.args.commands.now _ _ _ c.loop-i.count w.in-Some.value.now found.0 read found.1 found.2 c.loop-i.invariant.0, omega arith)
  | in_default w ↦
      let read = rw w.in_default.is at c.value_at.ensures in
      let fewer = c.loop-i.invariant.1 in
      rw w.count-is (rw read at c.loop-i.invariant.0, omega arith)
]

pub returns : goal.returns
returns c =
    let end = offers_end c.args.commands.now c.args.events.now c.args.answers.now c.answered-i-end.result c.loop-i.i _ c.loop-i.count (omega arith) c.answered-i-end.ensures.all c.loop-i.invariant.0 in
    (λ yes. end.1 (c.is_past.ensures.0 yes), λ p. c.is_past.ensures.1 (end.0 p))
