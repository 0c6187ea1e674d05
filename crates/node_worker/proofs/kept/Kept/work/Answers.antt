use Rattle.std.proofs.Common.{◌≡◌, ◌∙◌, ◌++◌, ◌∷◌, [], ap, arith, subst}
use Rattle.seats.specs.Occupant.{Stands}
use Rattle.node_worker.specs.Entries.{EntryView, entry}
use Rattle.node_worker.specs.KeptView.{KeptView, IsStepOf}
use Rattle.node_worker.proofs.Rounds.{work_keeps, work_steps}
use Rattle.node_worker.proofs.kept.Kept.work.Goals as goal

-- what was kept of the cause
abbrev first : (g : _) (c : goal.After-with-2 g) → EntryView
first g c = entry c.args.cause c.act-kept.result.0.ended c.act-kept.result.0.letters.items c.act-kept.result.0.outputs.items

pub invariant_of-self-2 : goal.invariant_of-self-2
invariant_of-self-2 g c = (
  omega arith,
  λ honest.
      work_keeps (g.N.Node.who c.self.inside.seat.node).members _ (g.N.Node.who c.self.inside.seat.node).id _ (Stands c.self.inside.seat) (Stands c.act-kept.new.seat) c.self.inside.entries.items _ (first g c)
      c.act-kept.ensures.who.0 c.act-kept.ensures.who.1
      (c.push_reserved.ensures.items ∙ (ap (λ xs. xs ++ c.with.result ∷ []) c.reserve.ensures.items ∙ ap (λ e. c.self.inside.entries.items ++ e ∷ []) c.with.ensures))
      (c.self.invariant.1 (c.act-kept.ensures.honesty honest))
      (c.act-kept.ensures.carries honest),
)

-- and told of it
same : (g : _) (c : goal.After-with-2 g) → c.with-2.result ≡ first g c
same g c =
    let s = c.act-kept.ensures.same in
    c.with-2.ensures ∙ (λ i. entry (c.in-Ok.ensures i) (s.0 i) (s.1 i) (s.2 i))

-- the kept node as it was
abbrev was : (g : _) (c : goal.After-with-2 g) → KeptView
was g c = record {
  node = (g.N.Node.who c.self.inside.seat.node).id;
  members = (g.N.Node.who c.self.inside.seat.node).members;
  quota = c.self.inside.quota;
  entries = c.self.inside.entries.items;
  turns = c.self.inside.turns;
  up = c.self.inside.seat.up;
  failures = (g.N.Node.who c.self.inside.seat.node).failures;
  honest = g.N.Node.honest c.self.inside.seat.node;
}

pub returns-clause-step : goal.returns-clause-step
returns-clause-step g c = λ honest.
    let P : KeptView → Type 0 = λ k. IsStepOf k c.with-2.result in
    subst P c.self.view_is
    (work_steps (was g c) (Stands c.self.inside.seat) (Stands c.act-kept.new.seat) (first g c) c.with-2.result
    (c.self.invariant.1 (c.act-kept.ensures.honesty honest)) (c.act-kept.ensures.carries honest) (same g c))
