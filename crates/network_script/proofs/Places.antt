-- A node at its place in the world.
use Rattle.std.proofs.Common.{◌≡◌, ◌<◌, ℕ, Bool, zero, suc, List, [], ◌∷◌, ◌++◌, Some, map, length, set, get_or}
use Rattle.std.proofs.Common.{slice_get, slice_set, refl, sym, ap, ◌∙◌, subst, arith, append_assoc, replicate, true}
use Rattle.std.proofs.Common.{IsTrue}
use Rattle.std.specs.List.{range_with_len}
use Rattle.std.specs.Prelude.{All}
use Rattle.std.proofs.lemmas.List.{map-set, set-get_or, set-set, get_or-map, length-set, length-map, get_or-set_same}
use Rattle.std.proofs.lemmas.List.{map_push}
use Rattle.std.proofs.lemmas.List.Elements.{All-set, All-head, All-tail}
use Rattle.std.proofs.lemmas.List.FromFn.{get_or-map-range_with_len}
use Rattle.std.proofs.lemmas.Option.{slice_get_read}
use Rattle.node.specs.declared.node.Node.{Ghosts}
use Rattle.node.specs.View.{Standing, started}
use Rattle.node.specs.View.Standing.{Running}
use Rattle.acceptor.specs.Content.{no_content}
use Rattle.seats.specs.declared.seat.Seat.{Seat}
use Rattle.seats.specs.Seat.{SameMember, Shown}
use Rattle.acceptor.specs.Calls.{KeepsTrust}
use Rattle.seats.specs.Occupant.{Stands, member, node_of, IsClean, IsHonest, is_up}
use Rattle.network_script.specs.Seats.{Each, AreStandings, IsNumbered, AllHonest, AllKeepTrust}

-- what is there stays there, if it is written again
pub set_same : {A : Type 0} (xs : List A) (k : ℕ) (x : A) → x ≡ get_or xs k x → set xs k x ≡ xs
set_same xs k x is = ap (λ y. set xs k y) is ∙ set-get_or xs k x

-- and what was there comes back
pub set_back : {A : Type 0} (xs : List A) (k : ℕ) (x y : A) → x ≡ get_or xs k x → set (set xs k y) k x ≡ xs
set_back xs k x y is = set-set xs k y x ∙ set_same xs k x is

-- what is seen of what stands at a place
pub seen_at : {A B : Type 0} (f : A → B) (xs : List A) (k : ℕ) (x : A) → k < length xs → x ≡ get_or xs k x → slice_get (map f xs) k ≡ Some (f x)
seen_at f xs k x lt is =
    slice_get_read (map f xs) (length xs) k (f x) (sym (length-map xs f)) lt (ap f is ∙ sym (get_or-map f xs k x (f x) lt))

-- the nodes stay numbered
pub numbered_set : {N : Type 0} {g : Ghosts N} (seats : List (Seat N g)) (k : ℕ) (seat seat' : Seat N g) → seat ≡ get_or seats k seat → SameMember (g.who seat.node) (g.who seat'.node) → IsNumbered seats → IsNumbered (slice_set seats k seat')
numbered_set {N} {g} seats k seat seat' is same numbered =
    let f : Seat N g → ℕ × ℕ = member in
    let seen : f seat' ≡ f seat = cc in
    let kept : map f (set seats k seat') ≡ map f seats =
    map-set f seats k seat' ∙ (ap (λ m. set (map f seats) k m) seen ∙ (sym (map-set f seats k seat) ∙ ap (map f) (set_same seats k seat is))) in
    kept ∙ (numbered ∙ ap (λ n. map (λ j. (j, n)) (range_with_len 0 n)) (sym (length-set seats k seat')))

-- the node at place k is number k of as many
pub who_at : {N : Type 0} {g : Ghosts N} (seats : List (Seat N g)) (k : ℕ) (seat : Seat N g) → k < length seats → seat ≡ get_or seats k seat → IsNumbered seats → member seat ≡ (k, length seats)
who_at {N} {g} seats k seat lt is numbered =
    let f : Seat N g → ℕ × ℕ = member in
    ap f is
    ∙ (sym (get_or-map f seats k seat (0, 0) lt)
    ∙ (ap (λ ms. get_or ms k (0, 0)) numbered
    ∙ get_or-map-range_with_len (λ j. (j, length seats)) 0 (length seats) k k (0, 0) lt (omega arith)))

-- the one that was written is so if all are
pub one_of : {A : Type 0} (P : A → Type 0) (xs : List A) (k : ℕ) (x : A) → k < length xs → All P (slice_set xs k x) → P x
one_of P xs k x lt all =
    let within : k < length (set xs k x) = omega (arith, length-set xs k x) in
    subst P (get_or-set_same xs k x x lt) (all k x within)

-- the one that was written is honest if all are
pub honest_at : {N : Type 0} {g : Ghosts N} (seats : List (Seat N g)) (k : ℕ) (seat' : Seat N g) → k < length seats → AllHonest (slice_set seats k seat') → IsHonest seat'
honest_at {N} {g} seats k seat' lt all = one_of (IsHonest {N = N} {g = g}) seats k seat' lt all

-- all were honest before
pub honest_before : {N : Type 0} {g : Ghosts N} (seats : List (Seat N g)) (k : ℕ) (seat seat' : Seat N g) → k < length seats → seat ≡ get_or seats k seat → (IsHonest seat' → IsHonest seat) → AllHonest (slice_set seats k seat') → AllHonest seats
honest_before {N} {g} seats k seat seat' lt is before all =
    let P : Seat N g → Type 0 = IsHonest in
    let there = before (honest_at seats k seat' lt all) in
    subst (All P) (set_back seats k seat seat' is) (All-set P (set seats k seat') k seat there all)

-- a call that keeps trust at one place keeps it at all
pub trust_at : {N : Type 0} {g : Ghosts N} (seats : List (Seat N g)) (k : ℕ) (seat seat' : Seat N g) → k < length seats → seat ≡ get_or seats k seat → KeepsTrust g.honest g.clean (node_of seat) (node_of seat') → AllKeepTrust seats (slice_set seats k seat')
trust_at {N} {g} seats k seat seat' lt is trust =
    let H : Seat N g → Type 0 = IsHonest in
    let C : Seat N g → Type 0 = IsClean in
    record {
      clean = λ all. subst (All C) (set_back seats k seat seat' is) (All-set C (set seats k seat') k seat (trust.clean (one_of C seats k seat' lt all)) all);
      sure = λ clean all. All-set H seats k seat' (trust.sure (one_of C seats k seat' lt clean) (subst H (sym is) (all k seat lt))) all;
    }

-- where nothing is written it is kept
pub trust_same : {N : Type 0} {g : Ghosts N} (seats : List (Seat N g)) → AllKeepTrust seats seats
trust_same seats = record { clean = λ all. all; sure = λ clean all. all }

-- one event after another keeps it
pub trust_then : {N : Type 0} {g : Ghosts N} (old mid new : List (Seat N g)) → AllKeepTrust old mid → AllKeepTrust mid new → AllKeepTrust old new
trust_then old mid new first second = record {
  clean = λ all. first.clean (second.clean all);
  sure = λ clean all. second.sure clean (first.sure (second.clean clean) all);
}

-- one more is seen, and one less is left
pub grown : {A B : Type 0} (f : A → B) (xs new : List A) (x : A) (b : B) (rest left all : List B) → new ≡ xs ++ x ∷ [] → f x ≡ b → rest ≡ b ∷ left → map f xs ++ rest ≡ all → map f new ++ left ≡ all
grown f xs new x b rest left all more is first whole =
    ap (λ l. map f l ++ left) more ∙ (ap (λ m. m ++ left) (map_push f xs x) ∙ (append_assoc (map f xs) (f x ∷ []) left
    ∙ (ap (λ y. map f xs ++ y ∷ left) is ∙ (ap (λ r. map f xs ++ r) (sym first) ∙ whole))))

-- where a fresh node stands
abbrev pub fresh_standing : Standing
fresh_standing = Running (started no_content)

-- fresh nodes whose records are honest stand at the opening
pub opened_stand : {N : Type 0} {g : Ghosts N} (seats : List (Seat N g)) → All (λ (node : N). IsTrue (g.honest node) → g.stands node fresh_standing) (map node_of seats) → All (λ (seat : Seat N g). is_up seat ≡ true) seats → AllHonest seats → AreStandings seats (replicate (length seats) fresh_standing)
opened_stand {N} {g} [] fresh up honest = tt
opened_stand {N} {g} (seat ∷ seats) fresh up honest =
    let F = λ (node : N). IsTrue (g.honest node) → g.stands node fresh_standing in
    let U = λ (s : Seat N g). is_up s ≡ true in
    let H : Seat N g → Type 0 = IsHonest in
    let is : is_up seat ≡ true = All-head U seat seats up in
    let stands = All-head F (node_of seat) (map node_of seats) fresh (All-head H seat seats honest) in
    (subst (λ (b : Bool). Shown b (g.stands (node_of seat)) fresh_standing) (sym is) (stands, started no_content, refl), opened_stand seats (All-tail F (node_of seat) (map node_of seats) fresh) (All-tail U seat seats up) (All-tail H seat seats honest))

-- lists that go together are as long
pub each_length : {A B : Type 0} (R : A → B → Type 0) (xs : List A) (ys : List B) → Each R xs ys → length ys ≡ length xs
each_length R [] [] each = refl
each_length R (x ∷ xs) (y ∷ ys) each = ap suc (each_length R xs ys each.1)
each_length R xs ys each = absurd each

-- what goes with the one at a place
pub each_at : {A B : Type 0} (R : A → B → Type 0) (xs : List A) (ys : List B) (k : ℕ) (x : A) → Each R xs ys → k < length xs → x ≡ get_or xs k x → (y : B) × (slice_get ys k ≡ Some y) × R x y
each_at R [] ys k x each lt is = absurd (omega arith)
each_at R (z ∷ xs) [] k x each lt is = absurd each
each_at {A} {B} R (z ∷ xs) (y ∷ ys) zero x each lt is = (y, refl, subst (λ (a : A). R a y) (sym is) each.0)
each_at R (z ∷ xs) (y ∷ ys) (suc k) x each lt is = each_at R xs ys k x each.1 (omega arith) is

-- one of each is changed
pub each_set : {A B : Type 0} (R : A → B → Type 0) (xs : List A) (ys : List B) (k : ℕ) (x : A) (y : B) → Each R xs ys → R x y → Each R (slice_set xs k x) (slice_set ys k y)
each_set R [] [] k x y each here = tt
each_set R (z ∷ xs) (w ∷ ys) zero x y each here = (here, each.1)
each_set R (z ∷ xs) (w ∷ ys) (suc k) x y each here = (each.0, each_set R xs ys k x y each.1 here)
each_set R xs ys k x y each here = absurd each

-- who sits there, seen through the node
seen_through : {N : Type 0} {g : Ghosts N} (f : N → ℕ × ℕ) (seats : List (Seat N g)) → map (λ (seat : Seat N g). f seat.node) seats ≡ map f (map node_of seats)
seen_through f [] = refl
seen_through f (seat ∷ seats) = ap (λ ms. f seat.node ∷ ms) (seen_through f seats)

-- numbered nodes sit at numbered seats
pub numbered_seats : {N : Type 0} {g : Ghosts N} (nodes : List N) (seats : List (Seat N g)) → map node_of seats ≡ nodes → map {B = ℕ × ℕ} (λ (node : N). ((g.who node).id, (g.who node).members)) nodes ≡ map (λ k. (k, length nodes)) (range_with_len 0 (length nodes)) → IsNumbered seats
numbered_seats {N} {g} nodes seats seated numbered =
    let f : N → ℕ × ℕ = λ node. ((g.who node).id, (g.who node).members) in
    let size : length seats ≡ length nodes = sym (length-map seats (node_of {N = N} {g = g})) ∙ ap length seated in
    seen_through f seats ∙ (ap (map f) seated ∙ (numbered ∙ ap (λ n. map (λ k. (k, n)) (range_with_len 0 n)) (sym size)))

-- there are as many standings as nodes
pub standings_length : {N : Type 0} {g : Ghosts N} (seats : List (Seat N g)) (nodes : List Standing) → AreStandings seats nodes → length nodes ≡ length seats
standings_length {N} {g} seats nodes each = each_length (Stands {N = N} {g = g}) seats nodes each
