use Rattle.std.proofs.Common.{◌≡◌, ◌≤◌, ◌<◌, ◌∙◌, ℕ, List, Some, IsTrue, length, slice_get, refl, sym, ap, arith}
use Rattle.std.proofs.lemmas.Option.{slice_get-get_or, slice_get_within}
use Rattle.node_journal.specs.declared.follower.Follower.{Follower}
use Rattle.node_worker.specs.KeptView.{IsReplay}
use Rattle.node_journal.proofs.Orders.{lines_of, one_further}
use Rattle.node_journal.proofs.following.Following.first_left.Goals as goal

pub loop-k-preserved : goal.loop-k-preserved
loop-k-preserved c =
    let there : slice_get c.args.journals.now c.loop-k.k ≡ Some c.as_slice.result.now =
    slice_get-get_or c.args.journals.now c.loop-k.k c.index-journals-k.result c.loop-k-test.true ∙ ap (λ (x : List ℕ). Some x) (sym (c.as_slice.ensures ∙ c.index-journals-k.is)) in
    let many : length c.args.self.now.followers.items ≡ length c.args.journals.now = c.requires.followed.many ∙ sym c.requires.followed.each in
    let inside : c.loop-k.k < length c.args.self.now.followers.items = omega (arith, many, c.loop-k-test.true) in
    let here : slice_get c.args.self.now.followers.items c.loop-k.k ≡ Some c.index.result.now =
    slice_get-get_or c.args.self.now.followers.items c.loop-k.k c.index.result.now inside ∙ ap (λ (x : Follower). Some x) (sym c.index.ensures) in
    one_further (λ (_ : ℕ) (f : Follower) (journal : List ℕ). (f.place ≡ length journal) × IsReplay f.kept × IsTrue f.kept.honest) c.args.self.now.followers.items c.args.journals.now c.loop-k.k c.index.result.now c.as_slice.result.now
    here there (c.if-not-has_followed.ensures.end refl, c.if-not-has_followed.ensures.replay, c.if-not-has_followed.ensures.honest) c.loop-k.invariant

pub returns-clause-legal : goal.returns-clause-legal
returns-clause-legal c =
    let all : length c.args.journals.now ≤ c.loop-k.k = c.loop-k-test.false in
    lines_of c.args.self.now.members c.args.journals.now c.args.self.now.followers.items c.args.self.now.sent c.requires.followed c.requires.order
    (λ k f journal at there.
    let within : k < length c.args.journals.now = slice_get_within c.args.journals.now k journal there in
    c.loop-k.invariant k f journal (omega (arith, within, all)) at there)
