-- Nodes that are fresh, numbered one after another, and new modems.
use Rattle.std.proofs.Common.{◌≡◌, ◌++◌, ◌+◌, ◌<◌, ℕ, Bool, List, [], ◌∷◌, map, length, get_or, take, refl, sym, ap}
use Rattle.std.proofs.Common.{◌∙◌, subst, false, arith, length-append, IsTrue}
use Rattle.std.specs.Prelude.{All}
use Rattle.std.specs.List.{range_with_len}
use Rattle.std.proofs.lemmas.List.{map_push, map-append, take_more}
use Rattle.std.proofs.lemmas.List.Elements.{All-nil, All-push}
use Rattle.std.proofs.lemmas.List.FromFn.{map-range_with_len_more}
use Rattle.acceptor.specs.Content.{no_content}
use Rattle.modem.specs.State.{State, new_modem}
use Rattle.node.specs.View.{Standing, started}
use Rattle.node.specs.View.Standing.{Running}
use Rattle.node.specs.Calls.{Who}
use Rattle.seats.specs.Fresh.{AreFresh}
use Rattle.seats.specs.Receiving.{AreNew, IsNew}

-- the first n of so many fresh nodes
pub record AreFirst {N : Type 0} (who : N → Who) (honest : N → Bool) (stands : N → Standing → Type 0) (members n : ℕ) (nodes : List N) : Type 0 where
  pub fresh : All (λ node. IsTrue (honest node) → stands node (Running (started no_content))) nodes
  pub up : All (λ node. (who node).down ≡ false) nodes
  pub count : length nodes ≡ n
  pub numbered : map {B = ℕ × ℕ} (λ node. ((who node).id, (who node).members)) nodes ≡ map (λ k. (k, members)) (range_with_len 0 n)

pub none_first : {N : Type 0} (who : N → Who) (honest : N → Bool) (stands : N → Standing → Type 0) (members : ℕ) (nodes : List N) → nodes ≡ [] → AreFirst who honest stands members 0 nodes
none_first {N} who honest stands members nodes none =
    let F = λ (node : N). IsTrue (honest node) → stands node (Running (started no_content)) in
    let U = λ (node : N). (who node).down ≡ false in
    subst (λ (ns : List N). AreFirst who honest stands members 0 ns) (sym none) record { fresh = All-nil F; up = All-nil U; count = refl; numbered = refl }

-- one more, by what is known of it
pub next_first : {N : Type 0} (who : N → Who) (honest : N → Bool) (stands : N → Standing → Type 0) (members n : ℕ) (nodes more : List N) (node : N) → AreFirst who honest stands members n nodes
    → (who node).id ≡ n → (who node).members ≡ members → (who node).down ≡ false → (IsTrue (honest node) → stands node (Running (started no_content))) → more ≡ nodes ++ node ∷ [] → AreFirst who honest stands members (n + 1) more
next_first {N} who honest stands members n nodes more node are id of up at_start pushed =
    let F = λ (x : N). IsTrue (honest x) → stands x (Running (started no_content)) in
    let U = λ (x : N). (who x).down ≡ false in
    let member : N → ℕ × ℕ = λ x. ((who x).id, (who x).members) in
    let number : ℕ → ℕ × ℕ = λ k. (k, members) in
    let here : member node ≡ number n = λ i. (id i, of i) in
    subst (λ (ns : List N). AreFirst who honest stands members (n + 1) ns) (sym pushed)
    (record {
      fresh = All-push F nodes node are.fresh at_start;
      up = All-push U nodes node are.up up;
      count = omega (arith, length-append nodes (node ∷ []), are.count);
      numbered = map_push member nodes node ∙ (ap (λ (l : List (ℕ × ℕ)). l ++ member node ∷ []) are.numbered ∙ (ap (λ (x : ℕ × ℕ). map number (range_with_len 0 n) ++ x ∷ []) here ∙ sym (map-range_with_len_more number 0 n n (omega arith))));
    })

-- all of them
pub all_first : {N : Type 0} (who : N → Who) (honest : N → Bool) (stands : N → Standing → Type 0) (members n : ℕ) (nodes : List N) → AreFirst who honest stands members n nodes → n ≡ members → AreFresh who honest stands nodes
all_first {N} who honest stands members n nodes are is =
    let size : length nodes ≡ members = are.count ∙ is in
    record {
      fresh = are.fresh;
      up = are.up;
      numbered = are.numbered ∙ (ap (λ (k : ℕ). map (λ (j : ℕ). (j, members)) (range_with_len 0 k)) (sym are.count) ∙ ap (λ (m : ℕ). map (λ (j : ℕ). (j, m)) (range_with_len 0 (length nodes))) (sym size));
    }

-- new modems of these ids
pub record AreModems (modems : List State) (ids : List ℕ) : Type 0 where
  pub new : AreNew modems
  pub named : map {B = ℕ} (λ modem. modem.id) modems ≡ ids

-- one modem more
pub one_modem : (modems : List State) (ids : List ℕ) (i id d : ℕ) (modem : State) → i < length ids → AreModems modems (take i ids) → id ≡ get_or ids i d → modem ≡ new_modem id → AreModems (modems ++ modem ∷ []) (take (i + 1) ids)
one_modem modems ids i id d modem below before is made =
    let named : modem.id ≡ get_or ids i d = ap (λ (m : State). m.id) made ∙ is in
    record {
      new = All-push IsNew modems modem before.new (made ∙ ap new_modem (sym (ap (λ (m : State). m.id) made)));
      named = map-append (λ (m : State). m.id) modems (modem ∷ []) ∙ ap (λ xs. xs ++ modem.id ∷ []) before.named ∙ ap (λ n. take i ids ++ n ∷ []) named ∙ sym (take_more ids i d below);
    }
