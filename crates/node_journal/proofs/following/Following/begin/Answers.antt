use Rattle.std.proofs.Common.{◌≡◌, ◌∙◌, ℕ, ◌+◌, List, [], ◌∷◌, ◌++◌, Some, length, slice_get, sym, ap, subst, arith}
use Rattle.std.proofs.Common.{rules}
use Rattle.std.proofs.lemmas.List.{length-append}
use Rattle.ballots.specs.Members.{member_count}
use Rattle.ballots.specs.declared.letters.Letter.{Letter}
use Rattle.node_journal.specs.Following.{HaveOrder, IsFollowed}
use Rattle.node_journal.specs.declared.follower.Follower.{Follower}
use Rattle.node_journal.proofs.Orders.{nothing_done, one_more}
use Rattle.node_journal.proofs.following.Following.begin.Goals as goal

pub loop-number-preserved : goal.loop-number-preserved
loop-number-preserved c =
    let old : List Follower = c.loop-number.followers.items in
    let f : Follower = c.in_ok-new.field-0 in
    let numbered : c.in-Some.id ≡ c.loop-number.number = search rules in
    let pushed : c.push.new.self.items ≡ old ++ f ∷ [] = c.in_ok-push.ensures.items in
    let size : length c.push.new.self.items ≡ length old + length (f ∷ []) = ap length pushed ∙ length-append old (f ∷ []) in
    let P : ℕ → Follower → Type 0 = λ k x. (x.id ≡ k) × (x.members ≡ c.args.members) × (x.kept.entries ≡ []) × ((text : List ℕ) → IsFollowed text x) in
    let here : P (length old) f = (c.in_ok-new.ensures.node.0 ∙ (numbered ∙ sym c.loop-number.invariant.0), c.in_ok-new.ensures.node.1, c.in_ok-new.ensures.nothing, c.in_ok-new.ensures.followed) in (
      omega (arith, size, c.loop-number.invariant.0),
      subst (λ (fs : List Follower). (k : ℕ) (x : Follower) → slice_get fs k ≡ Some x → P k x) (sym pushed) (one_more P old f here c.loop-number.invariant.1),
    )

pub returns-clause-reached : goal.returns-clause-reached
returns-clause-reached c =
    let whole : c.loop-number.number ≡ member_count c.args.members = omega arith in
    record {
      followed = record {
        many = c.loop-number.invariant.0 ∙ whole;
        each = c.requires;
        numbered = λ k f at. ((c.loop-number.invariant.1 k f at).0, (c.loop-number.invariant.1 k f at).1);
        followed = λ k f journal at there. (c.loop-number.invariant.1 k f at).3 journal;
      };
      order = subst (λ (sent : List Letter). HaveOrder c.loop-number.followers.items sent) (sym c.new-2.ensures)
          (nothing_done c.loop-number.followers.items (λ k f at. (c.loop-number.invariant.1 k f at).2));
    }
