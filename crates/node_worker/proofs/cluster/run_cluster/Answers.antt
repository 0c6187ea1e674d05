use Rattle.std.proofs.Common.{◌≡◌, ◌∙◌, All, ap, length, refl, subst, sym}
use Rattle.std.proofs.lemmas.List.{length-map}
use Rattle.ballots.specs.Members.{member_count}
use Rattle.node_worker.proofs.Clusters.{cluster_of, counted, same_members, same_quotas}
use Rattle.node_worker.proofs.cluster.run_cluster.Goals as goal

pub paired-requires-clause-one_each : goal.paired-requires-clause-one_each
paired-requires-clause-one_each g c = c.requires.one_each ∙ sym (counted c.in_ok-kepts.kepts.items (length c.args.nodes.items) c.in_ok-kepts.ensures.members)

pub returns-clause-members : goal.returns-clause-members
returns-clause-members g c =
    same_members c.in_ok-kepts-2.kepts.items c.in_ok-kepts.kepts.items (c.in_ok-kepts-2.ensures.same ∙ c.in_ok-pairs.ensures.same) ∙ c.in_ok-kepts.ensures.members

pub returns-clause-quotas : goal.returns-clause-quotas
returns-clause-quotas g c =
    same_quotas c.in_ok-kepts-2.kepts.items c.in_ok-kepts.kepts.items c.args.quota (c.in_ok-kepts-2.ensures.same ∙ c.in_ok-pairs.ensures.same)
    (λ i d lt. (c.in_ok-kepts.ensures.nothing i d lt).1)

pub returns-clause-cluster : goal.returns-clause-cluster
returns-clause-cluster g c = λ trusted.
    cluster_of c.in_ok-kepts-2.kepts.items (length c.args.nodes.items)
    (same_members c.in_ok-kepts-2.kepts.items c.in_ok-kepts.kepts.items (c.in_ok-kepts-2.ensures.same ∙ c.in_ok-pairs.ensures.same) ∙ c.in_ok-kepts.ensures.members)
    (c.in_ok-kepts-2.ensures.trusted trusted)

pub returns-clause-given : goal.returns-clause-given
returns-clause-given g c = c.in_ok-kepts-2.ensures.given ∙ c.in_ok-pairs.ensures.given

pub returns-clause-carriers : goal.returns-clause-carriers
returns-clause-carriers g c = (
  sym (length-map c.in_ok-kepts-2.carriers.items g.C.Carrier.given)
      ∙ (ap length (c.in_ok-kepts-2.ensures.given ∙ c.in_ok-pairs.ensures.given) ∙ (length-map c.args.carriers.items g.C.Carrier.given ∙ c.requires.one_each)),
  c.in_ok-kepts-2.ensures.left,
)

pub returns-clause-turns : goal.returns-clause-turns
returns-clause-turns g c = c.in_ok-kepts-2.ensures.turns ∙ c.in_ok-pairs.ensures.left

pub returns-clause-known : goal.returns-clause-known
returns-clause-known g c =
    let are = c.if-not-is_of.ensures.0 refl in
    let each : All (λ n. (g.N.Node.who n).members ≡ member_count c.members_of-members.result) c.args.nodes.items =
    subst (λ ns. All (λ n. (g.N.Node.who n).members ≡ member_count c.members_of-members.result) ns) c.as_slice.ensures.value c.members_of-members.ensures in
    λ i d lt. each i d lt ∙ sym are.0

pub returns-clause-modems : goal.returns-clause-modems
returns-clause-modems g c =
    let are = c.if-not-is_of.ensures.0 refl in
    are.1 ∙ (c.len-count.ensures ∙ c.args.modems.ok.0)
