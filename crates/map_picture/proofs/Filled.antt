-- The cells of a MAP fill its strip, frames end where strips do, and names have room.
use Rattle.std.proofs.Common.{◌≡◌, ℕ, ◌+◌, ◌-◌, ◌*◌, ◌/◌, ◌<◌, ◌≤◌, ◌^◌, IsTrue, List, [], ◌∷◌, length, max, min, arith}
use Rattle.std.proofs.Common.{ap, sym, ◌∙◌, inl, inr}
use Rattle.std.specs.List.{AllByRecursion}
use Rattle.std.proofs.lemmas.Bool.{cases_lt, cond-false, cond-true, le-ltb, lt-ltb}
use Rattle.std.proofs.lemmas.Nat.{le-div}
use Rattle.std.proofs.Math.Nat.{div-mul-le_self, mul-div_cancel_left, zero-div, max-eq_left, min-eq_left, min-le_left}
use Rattle.std.proofs.Math.Nat.{le-max_left, le-max_right}
use Rattle.map_body.specs.declared.interval.Interval.{Interval}
use Rattle.plan_account.specs.Cover.{follow}
use Rattle.plan_account.specs.declared.past.LeaseRow.{LeaseRow}
use Rattle.plan_account.specs.declared.past.RequestRow.{RequestRow}
use Rattle.map_picture.specs.declared.axis.Axis.{Axis}
use Rattle.map_picture.specs.declared.axis.Columns.{Columns}
use Rattle.map_picture.specs.Axis.{at, coarse}
use Rattle.map_picture.specs.Cells.{cell_x, widths, CellsFill, EndsAgree}
use Rattle.map_picture.specs.Columns.{longest_asked, longest_owner, names_end, OwnersFit}
use Rattle.map_picture.specs.Owners.{owner_words}
use Rattle.map_picture.specs.Asked.{asked_words}

-- of numbers that don't fall
telescope : (x : ℕ → ℕ) → ((a b : ℕ) → a ≤ b → x a ≤ x b) → (is : List Interval) (from to : ℕ) → IsTrue (follow from is to) → x from + widths x is ≡ x to
telescope x mono [] from to f = grind (arith, f)
telescope x mono (i ∷ is) from to f =
    let rest = telescope x mono is i.to to in
    let grows = mono i.from i.to in
    grind (arith, f, rest, grows)

cell_mono : (left len a b : ℕ) → a ≤ b → cell_x left len a ≤ cell_x left len b
cell_mono left len a b le =
    let m : ℕ = max len 1 in
    let some : 0 < m = omega arith in
    let below : a * 768 / m * m ≤ a * 768 = div-mul-le_self (a * 768) m in
    let up : a * 768 / m ≤ b * 768 / m = le-div (a * 768 / m) (b * 768) m some (omega (arith, below, le)) in
    omega (arith, up)

-- a whole number of units is 768 wide
whole : (n : ℕ) → 0 < n → n * 768 / max n 1 ≡ 768
whole n some =
    let one : max n 1 ≡ n = max-eq_left some in
    ap (λ m. n * 768 / m) one ∙ mul-div_cancel_left 768 some

pub cells_fill : CellsFill
cells_fill is left len some f =
    let all = telescope (cell_x left len) (cell_mono left len) is 0 len f in
    let none : 0 * 768 / max len 1 ≡ 0 = zero-div (max len 1) in
    omega (arith, all, none, whole len some)

-- ---- the ends of frames and of strips

fine : (span part : ℕ) → span < 2 ^ 50 → coarse span part ≡ part
fine span part small = cond-true _ _ _ (lt-ltb span (2 ^ 50) small)

rough : (span part : ℕ) → 2 ^ 50 ≤ span → coarse span part ≡ part / 2 ^ 20
rough span part large = cond-false _ _ _ (le-ltb span (2 ^ 50) large)

coarse_none : (span : ℕ) → coarse span 0 ≡ 0
coarse_none span = elim (cases_lt span (2 ^ 50)) [
  | inl small ↦ fine span 0 small
  | inr large ↦ rough span 0 large ∙ zero-div (2 ^ 20)
]

coarse_some : (span : ℕ) → 0 < span → 0 < coarse span span
coarse_some span some = elim (cases_lt span (2 ^ 50)) [
  | inl small ↦ let is : coarse span span ≡ span = fine span span small in omega (arith, is, some)
  | inr large ↦
      let is : coarse span span ≡ span / 2 ^ 20 = rough span span large in
      let up : 1 ≤ span / 2 ^ 20 = le-div 1 span (2 ^ 20) (omega arith) (omega (arith, large)) in
      omega (arith, is, up)
]

first_end : (axis : Axis) (len : ℕ) → at axis axis.span.from ≡ cell_x axis.columns.left len 0
first_end axis len =
    let s : ℕ = axis.span.to - axis.span.from in
    let m : ℕ = max (coarse s s) 1 in
    let low : min axis.span.from axis.span.to ≤ axis.span.from = min-le_left axis.span.from axis.span.to in
    let none : min axis.span.from axis.span.to - axis.span.from ≡ 0 = omega (arith, low) in
    let here : coarse s (min axis.span.from axis.span.to - axis.span.from) * 768 / m ≡ 0 =
    ap (λ p. coarse s p * 768 / m) none ∙ ap (λ q. q * 768 / m) (coarse_none s) ∙ zero-div m in
    let there : 0 * 768 / max len 1 ≡ 0 = zero-div (max len 1) in
    ap (λ q. axis.columns.left + q) here ∙ sym (ap (λ q. axis.columns.left + q) there)

last_end : (axis : Axis) (len : ℕ) → axis.span.from < axis.span.to → 0 < len → at axis axis.span.to ≡ cell_x axis.columns.left len len
last_end axis len some long =
    let s : ℕ = axis.span.to - axis.span.from in
    let m : ℕ = max (coarse s s) 1 in
    let one : min axis.span.to axis.span.to ≡ axis.span.to = min-eq_left (omega arith) in
    let all : min axis.span.to axis.span.to - axis.span.from ≡ s = ap (λ t. t - axis.span.from) one in
    let here : coarse s (min axis.span.to axis.span.to - axis.span.from) * 768 / m ≡ 768 =
    ap (λ p. coarse s p * 768 / m) all ∙ whole (coarse s s) (coarse_some s (omega (arith, some))) in
    ap (λ q. axis.columns.left + q) here ∙ sym (ap (λ q. axis.columns.left + q) (whole len long))

each_minislot : (columns : Columns) (start len x : ℕ) → 0 < len → len < 2 ^ 50 → x ≤ len
    → at (record { columns = columns; span = record { from = start; to = start + len } }) (start + x) ≡ cell_x columns.left len x
each_minislot columns start len x some small le =
    let span : start + len - start ≡ len = omega arith in
    let up : min (start + x) (start + len) ≡ start + x = min-eq_left (omega (arith, le)) in
    let part : min (start + x) (start + len) - start ≡ x = omega (arith, up) in
    let p : ℕ = min (start + x) (start + len) - start in
    ap (λ s. columns.left + coarse s p * 768 / max (coarse s s) 1) span
    ∙ ap (λ q. columns.left + coarse len q * 768 / max (coarse len len) 1) part
    ∙ ap (λ q. columns.left + q * 768 / max (coarse len len) 1) (fine len x small)
    ∙ ap (λ q. columns.left + x * 768 / max q 1) (fine len len small)

pub ends_agree : EndsAgree
ends_agree = record { first = first_end; last = last_end; each = each_minislot }

-- ---- names have room

stays : (n : ℕ) → n ≤ n
stays n = omega arith

beyond : (a b c : ℕ) → a ≤ b → b ≤ c → a ≤ c
beyond a b c first second = omega (arith, first, second)

within : (w m names : ℕ) → w ≤ m → 6 * m ≤ names → 6 * w ≤ names
within w m names less most = omega (arith, less, most)

more_owners : (n : ℕ) (ls : List LeaseRow) → n ≤ longest_owner n ls
more_owners n [] = stays n
more_owners n (l ∷ ls) =
    let m : ℕ = max n (length (owner_words l)) in
    beyond n m (longest_owner m ls) (le-max_left n (length (owner_words l))) (more_owners m ls)

more_asked : (n : ℕ) (rs : List RequestRow) → n ≤ longest_asked n rs
more_asked n [] = stays n
more_asked n (r ∷ rs) =
    let m : ℕ = max n (length (asked_words r)) in
    beyond n m (longest_asked m rs) (le-max_left n (length (asked_words r))) (more_asked m rs)

each_fits : (names n : ℕ) (ls : List LeaseRow) → 6 * longest_owner n ls ≤ names → AllByRecursion (λ l. 6 * length (owner_words l) ≤ names) ls
each_fits names n [] le = tt
each_fits names n (l ∷ ls) le =
    let w : ℕ = length (owner_words l) in
    let m : ℕ = max n w in
    (within w (longest_owner m ls) names (beyond w m (longest_owner m ls) (le-max_right n w) (more_owners m ls)) le, each_fits names m ls le)

room : (n names : ℕ) → 6 * n + 6 ≤ names → 6 * n ≤ names
room n names le = omega (arith, le)

pub owners_fit : OwnersFit
owners_fit span ls rs =
    let n : ℕ = longest_asked (longest_owner 0 ls) rs in
    let wide : 6 * n ≤ names_end n = room n (names_end n) (le-max_right 98 (6 * n + 6)) in
    each_fits (names_end n) 0 ls (within (longest_owner 0 ls) n (names_end n) (more_asked (longest_owner 0 ls) rs) wide)
