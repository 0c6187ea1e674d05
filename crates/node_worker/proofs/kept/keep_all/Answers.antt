use Rattle.std.proofs.Common.{◌≡◌, All, IsTrue, List, [], ap, false, subst, sym}
use Rattle.std.proofs.lemmas.List.Elements.{All-push, All-tail}
use Rattle.node_worker.specs.KeptView.{KeptView, member_of}
use Rattle.node_worker.specs.Replays.{opening}
use Rattle.node_worker.proofs.Lined.{one_over}
use Rattle.node_worker.proofs.kept.keep_all.Goals as goal

pub loop-node-preserved : goal.loop-node-preserved
loop-node-preserved g c =
    let was = c.loop-node.invariant in
    let taken = c.in-Some.ensures.steps.0 in
    let made = c.in_ok-new.ensures in (
      one_over member_of (λ n. ((g.N.Node.who n).id, (g.N.Node.who n).members)) c.loop-node.kepts.items _ c.loop-node.node-iterator.rest.items _ c.in_ok-new.field-0 c.in-Some.node _
          c.in_ok-push.ensures.items taken (ap member_of made) was.0,
      All-tail (λ n. IsTrue (g.N.Node.honest n) → g.N.Node.stands n opening) c.in-Some.node c.next.new.self.rest.items (subst (λ ns. All (λ n. IsTrue (g.N.Node.honest n) → g.N.Node.stands n opening) ns) taken was.1),
      All-tail (λ n. (g.N.Node.who n).down ≡ false) c.in-Some.node c.next.new.self.rest.items (subst (λ ns. All (λ n. (g.N.Node.who n).down ≡ false) ns) taken was.2),
      subst (λ (ks : List KeptView). All (λ k. (k.entries ≡ []) × (k.quota ≡ c.args.quota)) ks) (sym c.in_ok-push.ensures.items)
          (All-push (λ k. (k.entries ≡ []) × (k.quota ≡ c.args.quota)) c.loop-node.kepts.items c.in_ok-new.field-0 was.3 (ap (λ (k : KeptView). k.entries) made, ap (λ (k : KeptView). k.quota) made)),
      (λ trusted. subst (λ (ks : List KeptView). All (λ k. IsTrue k.honest) ks) (sym c.in_ok-push.ensures.items)
          (All-push (λ k. IsTrue k.honest) c.loop-node.kepts.items c.in_ok-new.field-0 (was.4 trusted) (subst (λ b. IsTrue b) (sym (ap (λ (k : KeptView). k.honest) made)) (trusted c.in-Some.node)))),
    )
