use Rattle.std.proofs.Common.{◌≡◌, ℕ, ◌+◌, ◌<◌, ◌∷◌, [], ◌++◌, List, length, take, get_or, sym, ap, ◌∙◌}
use Rattle.std.specs.List.{flat_map}
use Rattle.std.proofs.lemmas.List.{take_more, flat_map_more}
use Rattle.grant_machine_parts.specs.Ranks.{Ranked, of_priority}
use Rattle.grant_machine_parts.proofs.chains.by_priority.Goals as goal

-- one more number
one_more : (f : ℕ → List Ranked) (ns : List ℕ) (i : ℕ) → i < length ns → flat_map f (take i ns) ++ f (get_or ns i 0) ≡ flat_map f (take (i + 1) ns)
one_more f ns i lt = flat_map_more f [] (take i ns) (get_or ns i 0) ∙ ap (flat_map f) (sym (take_more ns i 0 lt))

pub loop-priority-preserved : goal.loop-priority-preserved
loop-priority-preserved c =
    let f : ℕ → List Ranked = of_priority c.args.ranked.now in
    let i : ℕ = c.loop-priority.priority-index in
    c.in_ok-add_priority.ensures
    ∙ ap (λ (ws : List Ranked). ws ++ f (get_or (7 ∷ 6 ∷ 5 ∷ 4 ∷ 3 ∷ 2 ∷ 1 ∷ 0 ∷ []) i 0)) c.loop-priority.invariant
    ∙ one_more f (7 ∷ 6 ∷ 5 ∷ 4 ∷ 3 ∷ 2 ∷ 1 ∷ 0 ∷ []) i c.loop-priority-test.true
