-- What a node in its seat has learned.
use Rattle.std.proofs.Common.{◌≡◌, ◌≢◌, ◌⊎◌, inl, inr, ℕ, ◌<◌, ◌≤◌, ◌+◌, Bool, true, false, List, [], ◌∷◌, ◌++◌, Option}
use Rattle.std.proofs.Common.{Some, None, refl, sym, ap, subst, ◌∙◌, get_or, length, slice_get, append_assoc, arith}
use Rattle.std.specs.Option.{option_map}
use Rattle.std.proofs.lemmas.Bool.{cases_order}
use Rattle.std.proofs.lemmas.Option.{same_Some, slice_get_within}
use Rattle.ballots.specs.Rows.{at}
use Rattle.command_log.specs.Reading.{command_of}
use Rattle.grant_machine.specs.declared.command.Command.{Command}
use Rattle.network_script.proofs.Callers.{each_at, standings_length}
use Rattle.network_script.specs.Seats.{AreStandings}
use Rattle.node.specs.declared.node.Node.{Ghosts}
use Rattle.node.specs.View.{View, Standing}
use Rattle.node.specs.View.Standing.{Running, Stopped}
use Rattle.seats.specs.declared.seat.Seat.{Seat}
use Rattle.seats.specs.Occupant.{Stands}
use Rattle.seats.specs.Seat.{Shown}
use Rattle.upsched_draw.specs.Learned.{AreLearned, AreLearnedFrom, AreMostLearned, learned_at}

-- the value that a node that is up has learned
pub value_seen : (may : Standing → Type 0) (up : Bool) (s : Standing) (values : List (ℕ × List ℕ)) (place : ℕ) (v : Option (List ℕ))
    → up ≡ true → Shown up may s → ((view : View) → may (Running view) → view.tally.learned ≡ values) → v ≡ at values place → v ≡ learned_at s place
value_seen may true s values place v is (there, view, running) known same =
    rw running (same ∙ ap (λ (rows : List (ℕ × List ℕ)). at rows place) (sym (known view (subst may running there))))
value_seen may false s values place v is shown known same = absurd (cc (is))

-- one that is down knows nothing
pub nothing_seen : (may : Standing → Type 0) (up : Bool) (s : Standing) (place : ℕ) (v : Option (List ℕ)) → up ≡ false → Shown up may s → v ≡ None → v ≡ learned_at s place
nothing_seen may false s place v is (Running view, there, crashed) same = rw crashed same
nothing_seen may false s place v is (Stopped c doubt, there, crashed) same = rw crashed same
nothing_seen may true s place v is shown same = absurd (cc (is))

-- a command more
pub one_more : (s : Standing) (place : ℕ) (before after ds : List Command) (c : Command) (v : List ℕ) (found : Option (List ℕ))
    → ((es : List Command) → AreLearnedFrom place s es → AreLearned s (before ++ es))
    → found ≡ learned_at s place → found ≡ Some v → c ≡ command_of v → after ≡ before ++ c ∷ [] → AreLearnedFrom (place + 1) s ds → AreLearned s (after ++ ds)
one_more s place before after ds c v found whole is there read pushed more =
    let value : option_map command_of (learned_at s place) ≡ Some c = ap (option_map command_of) (sym is ∙ there) ∙ ap (λ (x : Command). Some x) (sym read) in
    subst (λ (l : List Command). AreLearned s (l ++ ds)) (sym pushed) (subst (AreLearned s) (sym (append_assoc before (c ∷ []) ds)) (whole (c ∷ ds) (value, more)))

-- ---- one node

none_learned : (o : Option (List ℕ)) (c : Command) → o ≡ None → option_map command_of o ≡ Some c → ⊥
none_learned None c none some = cc (some)
none_learned (Some v) c none some = cc (none)

-- a node has learned one list of commands
pub same_from : (p : ℕ) (s : Standing) (cs ds : List Command) → AreLearnedFrom p s cs → AreLearnedFrom p s ds → cs ≡ ds
same_from p s [] [] first second = refl
same_from p s [] (d ∷ ds) first second = absurd (none_learned (learned_at s p) d first second.0)
same_from p s (c ∷ cs) [] first second = absurd (none_learned (learned_at s p) c second first.0)
same_from p s (c ∷ cs) (d ∷ ds) first second =
    let head : c ≡ d = same_Some c d (sym first.0 ∙ second.0) in
    let tail = same_from (p + 1) s cs ds first.1 second.1 in
    λ i. head i ∷ tail i

-- ---- nodes one after another

either : (i j : ℕ) → (i ≤ j) ⊎ (j < i)
either i j = elim (cases_order i j) [
  | inl same ↦ inl (omega (arith, same))
  | inr (inl lt) ↦ inl (omega (arith, lt))
  | inr (inr gt) ↦ inr gt
]

-- of the first n nodes, one has learned these commands, and none more
pub record Most (nodes : List Standing) (n : ℕ) (cs : List Command) : Type 0 where
  pub by : cs ≢ [] → (k : ℕ) × (s : Standing) × (slice_get nodes k ≡ Some s) × AreLearned s cs
  pub most : (k : ℕ) (s : Standing) (ds : List Command) → k < n → slice_get nodes k ≡ Some s → AreLearned s ds → length ds ≤ length cs

pub none_yet : (nodes : List Standing) (cs : List Command) → cs ≡ [] → Most nodes 0 cs
none_yet nodes cs none = record { by = λ some. absurd (some none); most = λ k s ds below here learned. absurd (omega arith) }

pub one_node : (nodes : List Standing) (n : ℕ) (s : Standing) (cs ds new : List Command) → Most nodes n cs → slice_get nodes n ≡ Some s → AreLearned s ds
    → (length cs < length ds → new ≡ ds) → (length ds ≤ length cs → new ≡ cs) → Most nodes (n + 1) new
one_node nodes n s cs ds new before here learned longer shorter = elim (either (length ds) (length cs)) [
  | inl le ↦ let is : new ≡ cs = shorter le in record {
    by = subst (λ (l : List Command). l ≢ [] → (k : ℕ) × (t : Standing) × (slice_get nodes k ≡ Some t) × AreLearned t l) (sym is) before.by;
    most = λ k t es below there others. subst (λ (l : List Command). length es ≤ length l) (sym is) (elim (last k below) [
      | inl lower ↦ before.most k t es lower there others
      | inr same ↦ subst (λ (l : List Command). length l ≤ length cs) (of_this k t es same there others) le
    ]);
  }
  | inr lt ↦ let is : new ≡ ds = longer lt in record {
    by = λ some. (n, s, here, subst (AreLearned s) (sym is) learned);
    most = λ k t es below there others. subst (λ (l : List Command). length es ≤ length l) (sym is) (elim (last k below) [
      | inl lower ↦ let le = before.most k t es lower there others in omega (arith, le, lt)
      | inr same ↦ ap_le (of_this k t es same there others)
    ]);
  }
]
  where
    last : (k : ℕ) → k < n + 1 → (k < n) ⊎ (k ≡ n)
    last k below = elim (either n k) [
      | inl le ↦ inr (omega (arith, le, below))
      | inr lt ↦ inl lt
    ]

    of_this : (k : ℕ) (t : Standing) (es : List Command) → k ≡ n → slice_get nodes k ≡ Some t → AreLearned t es → ds ≡ es
    of_this k t es same there others =
        let is : s ≡ t = same_Some s t (sym here ∙ ap (slice_get nodes) (sym same) ∙ there) in
        same_from 1 t ds es (subst (λ (x : Standing). AreLearned x ds) is learned) others

    ap_le : {es : List Command} → ds ≡ es → length es ≤ length ds
    ap_le {es} is = subst (λ (l : List Command). length l ≤ length ds) is (omega arith)

-- all of them
pub all_nodes : (nodes : List Standing) (n : ℕ) (cs : List Command) → length nodes ≤ n → Most nodes n cs → AreMostLearned nodes cs
all_nodes nodes n cs whole before = record {
  by = before.by;
  most = λ k s ds here learned. before.most k s ds (let lt = slice_get_within nodes k s here in omega (arith, lt, whole)) here learned;
}

-- ---- seats one after another

pub next_seat : {N : Type 0} {g : Ghosts N} (seats : List (Seat N g)) (nodes : List Standing) (k : ℕ) (seat : Seat N g) (most ds new : List Command)
    → AreStandings seats nodes → k < length seats → seat ≡ get_or seats k seat → ((s : Standing) → Stands seat s → AreLearned s ds) → Most nodes k most
    → (length most < length ds → new ≡ ds) → (length ds ≤ length most → new ≡ most) → Most nodes (k + 1) new
next_seat {N} {g} seats nodes k seat most ds new each below is learned before longer shorter =
    let there = each_at (Stands {N = N} {g = g}) seats nodes k seat each below is in
    one_node nodes k there.0 most ds new before there.1 (learned there.0 there.2) longer shorter

pub all_seats : {N : Type 0} {g : Ghosts N} (seats : List (Seat N g)) (nodes : List Standing) (n : ℕ) (cs : List Command)
    → AreStandings seats nodes → length seats ≤ n → Most nodes n cs → AreMostLearned nodes cs
all_seats seats nodes n cs each past before =
    let size : length nodes ≡ length seats = standings_length seats nodes each in
    all_nodes nodes n cs (omega (arith, size, past)) before
