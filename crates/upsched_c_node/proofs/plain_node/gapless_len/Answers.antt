use Rattle.std.proofs.Common.{◌≡◌, ◌≢◌, ◌∙◌, ◌+◌, ◌≤◌, true, false, Bor, Option, Some, None, is_none, length}
use Rattle.std.proofs.Common.{option_copied}
use Rattle.std.proofs.Common.{refl, sym, arith, rules}
use Rattle.ballots.specs.Limits.{most_places}
use Rattle.ballots.specs.Rows.{at}
use Rattle.command_log.specs.Values.{values_from}
use Rattle.upsched_c_node.proofs.Learned.{gap_next, one_more, within_log}
use Rattle.upsched_c_node.proofs.plain_node.gapless_len.Goals as goal

copied_none : {X : Type 0} (o : Option (Bor X)) → is_none o ≡ true → option_copied o ≡ None
copied_none None is = refl
copied_none (Some x) is = absurd (cc (is))

copied_some : {X : Type 0} (o : Option (Bor X)) → is_none o ≡ false → option_copied o ≢ None
copied_some None is = absurd (cc (is))
copied_some (Some x) is = λ none. absurd (cc (none))

pub returns-then-is_none : goal.returns-then-is_none
returns-then-is_none c =
    let no : is_none c.learned.result ≡ true = search rules in
    gap_next c.args.node.now.parts.knowledge.tally.learned c.loop-len.len c.requires.rows c.loop-len.invariant (sym c.learned.ensures.value ∙ copied_none c.learned.result no)

pub loop-len-preserved : goal.loop-len-preserved
loop-len-preserved c =
    let some : is_none c.learned.result ≡ false = search rules in
    one_more c.args.node.now.parts.knowledge.tally.learned c.loop-len.len c.requires.rows c.loop-len.invariant
    (λ none. copied_some c.learned.result some (c.learned.ensures.value ∙ none))

pub returns : goal.returns
returns c =
    let most : length (values_from 1 c.args.node.now.parts.knowledge.tally.learned) ≤ most_places = within_log c.args.node.now.parts.knowledge.tally.learned c.requires.rows in
    omega (arith, most, c.loop-len.invariant, c.loop-len-test.false)
