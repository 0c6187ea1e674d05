-- What was handed out leads to the content of the node that handed it out.
use Rattle.std.proofs.Common.{◌≡◌, ℕ, List, [], ◌∷◌, refl, sym, ap, subst, ◌∙◌}
use Rattle.acceptor.specs.Content.{AreRowsFrom, Content, after_write, no_content}
use Rattle.node_writes.proofs.Callers.{lead_once}
use Rattle.node_writes.specs.Writes.{LeadTo}
use Rattle.told_writes.proofs.Callers.{content_after, hands_on, lead_rows, never_strange}
use Rattle.upsched_c_node.specs.Histories.{AllHappen, Event, NoneIsStrange, OpensAsLeft, handed_out}
use Rattle.upsched_c_node.specs.Histories.Event.{Call, Release, Start}
use Rattle.upsched_c_node.specs.States.{NodeState, started_as}

-- what is handed out from a node on leads to what is held last
abbrev Rest : List Event → NodeState → NodeState → Type 0
Rest es last next = AreRowsFrom 1 next.view.content.votes → LeadTo next.id (handed_out es) next.view.content last.view.content

-- so where nothing is handed out
goes_quietly : (es : List Event) (n next last : NodeState) → next.id ≡ n.id → next.view.content ≡ n.view.content → AreRowsFrom 1 n.view.content.votes → Rest es last next
    → LeadTo n.id (handed_out es) n.view.content last.view.content
goes_quietly es n next last me same are rest =
    let ordered : AreRowsFrom 1 next.view.content.votes = subst (λ (c : Content). AreRowsFrom 1 c.votes) (sym same) are in
    subst (λ (c : Content). LeadTo n.id (handed_out es) c last.view.content) same
    (subst (λ (id : ℕ). LeadTo id (handed_out es) next.view.content last.view.content) me (rest ordered))

leads : (es : List Event) (n last : NodeState) → AreRowsFrom 1 n.view.content.votes → AllHappen n es last → LeadTo n.id (handed_out es) n.view.content last.view.content
leads [] n last are run = ap (λ (m : NodeState). m.view.content) run
leads (Release ∷ es) n last are run =
    goes_quietly es n run.0 last (ap (λ (m : NodeState). m.id) run.1) (ap (λ (m : NodeState). m.view.content) run.1) are (λ ordered. leads es run.0 last ordered run.2)
leads (Start ∷ es) n last are run =
    goes_quietly es n run.0 last (ap (λ (m : NodeState). m.id) run.1) (ap (λ (m : NodeState). m.view.content) run.1) are (λ ordered. leads es run.0 last ordered run.2)
leads (Call cause r ∷ es) n last are run =
    let next = run.0 in
    let o = run.1.0 in
    let is = run.1.3 in
    let me : next.id ≡ n.id = ap (λ (m : NodeState). m.id) is in
    let one = hands_on n.id n.view.content o.write r run.1.2 are in
    let same : next.view.content ≡ after_write n.view.content one.0 = ap (λ (m : NodeState). m.view.content) is ∙ content_after n cause o run.1.1 ∙ one.2 in
    let ordered : AreRowsFrom 1 next.view.content.votes = subst (λ (c : Content). AreRowsFrom 1 c.votes) (sym same) (lead_rows n.id (r ∷ []) n.view.content (after_write n.view.content one.0) (one.0, one.1, refl) are) in (
      one.0,
      one.1,
      subst (λ (c : Content). LeadTo n.id (handed_out es) c last.view.content) same
          (subst (λ (id : ℕ). LeadTo id (handed_out es) next.view.content last.view.content) me (leads es next last ordered run.2)),
    )

pub as_left : OpensAsLeft
as_left id members es last k run started =
    let led = leads es (started_as id members no_content) last tt run in
    started.node ∙ ap (λ (c : Content). started_as id members c) (lead_once id (handed_out es) no_content started.content last.view.content started.after led)

pub none_strange : NoneIsStrange
none_strange id members es last run has =
    never_strange id (handed_out es) no_content last.view.content (leads es (started_as id members no_content) last tt run) has
