use Rattle.std.proofs.Common.{◌<◌, ◌≤◌, IsTrue, length, nat_lt, arith, rules}
use Rattle.std.proofs.lemmas.Bool.{lt-ltb}
use Rattle.std.proofs.lemmas.Option.{slice_get_within}
use Rattle.node_journal.proofs.Standing.{one_still}
use Rattle.node_journal.proofs.following.Following.all_stand_still.Goals as goal

pub loop-k-preserved : goal.loop-k-preserved
loop-k-preserved c =
    let yes : IsTrue c.in_ok-stands_still.field-0 = search rules in
    one_still c.args.journals.now c.args.self.now c.requires c.args.count c.loop-k.k (nat_lt c.loop-k.k c.args.count)
    (c.in_ok-stands_still.ensures yes) (λ below. lt-ltb c.loop-k.k c.args.count below) c.loop-k.invariant

pub returns : goal.returns
returns c = λ yes k f text at there.
    let all : length c.args.journals.now ≤ c.loop-k.k = c.loop-k-test.false in
    let within : k < length c.args.journals.now = slice_get_within c.args.journals.now k text there in
    c.loop-k.invariant k f text (omega (arith, within, all)) at there
