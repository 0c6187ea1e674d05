use Rattle.std.proofs.Common.{◌≡◌, ◌∙◌, ℕ, ◌<◌, Ok, length, refl, sym, subst, arith}
use Rattle.ballots.specs.Members.{member_count}
use Rattle.node.specs.View.{gapless}
use Rattle.upsched_c_node.proofs.Exact.{released_err, released_ok}
use Rattle.upsched_c_node.proofs.Learned.{nothing_left, releases_whole}
use Rattle.upsched_c_node.specs.States.{HasReleasedAll, NodeState, Released, state_of}
use Rattle.upsched_c_node.proofs.plain_node.PlainNode.release.Goals as goal

pub returns-then-all-self : goal.returns-then-all-self
returns-then-all-self c =
    let n = state_of c.self.inside.node.parts in
    let all : n.view.cursor ≡ length (gapless n.view) = omega (arith, c.self.invariant.2.cursor, c.gapless_len-all.ensures, c.if-all-self.true) in
    let none = nothing_left n c.args.now all in
    subst (λ (m : NodeState). Released m c.args.now (Ok c.new.result.items) m) c.self.view_is (c.new.ensures.items ∙ none.0, none.1)

pub invariant_of-self : goal.invariant_of-self
invariant_of-self c =
    let old = c.self.inside.node.parts in
    let new = c.release.new.self.parts in
    let kept = c.in-Ok.ensures.kept in
    let released = released_ok old new c.self.invariant.0 c.args.now c.in-Ok.outputs kept (c.in-Ok.ensures.done refl) in (
      kept.4 ∙ c.self.invariant.0,
      subst (λ (k : ℕ). k < member_count new.proposer.members) (sym kept.0) (subst (λ (m : ℕ). old.proposer.id < m) (sym kept.1) c.self.invariant.1),
      releases_whole c.self.inside.released c.gapless_len-all.result old new c.args.now c.in-Ok.outputs.items c.self.invariant.2 c.gapless_len-all.ensures released,
    )

pub returns-in-Ok : goal.returns-in-Ok
returns-in-Ok c =
    let old = c.self.inside.node.parts in
    let new = c.release.new.self.parts in
    subst (λ (m : NodeState). Released m c.args.now (Ok c.in-Ok.outputs.items) (state_of new)) c.self.view_is
    (released_ok old new c.self.invariant.0 c.args.now c.in-Ok.outputs c.in-Ok.ensures.kept (c.in-Ok.ensures.done refl))

pub returns-in-Err : goal.returns-in-Err
returns-in-Err c =
    let old = c.self.inside.node.parts in
    let new = c.release.new.self.parts in
    let n = state_of old in
    let some : ¬ HasReleasedAll n = λ all. absurd (omega (arith, all, c.self.invariant.2.cursor, c.gapless_len-all.ensures, c.if-all-self.false)) in
    subst (λ (m : NodeState). (¬ HasReleasedAll m) × (state_of new ≡ m)) c.self.view_is
    (some, released_err old new c.self.invariant.0 c.args.now c.in-Err.field-0 c.in-Err.ensures.kept (c.in-Err.ensures.done refl))
