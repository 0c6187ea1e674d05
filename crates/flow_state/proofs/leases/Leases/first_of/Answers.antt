use Rattle.std.proofs.Common.{◌≡◌, ℕ, ◌<◌, ◌≤◌, Bool, true, false, cond, ◌&&◌, length, leb, sym, ap, subst, ◌∙◌, refl}
use Rattle.std.proofs.Common.{arith}
use Rattle.flow_state.specs.Rows.{Table, first_of, is_given}
use Rattle.flow_state.proofs.Freed.{AreGiven, given_is}
use Rattle.flow_state.proofs.leases.Leases.first_of.Goals.{else-sid-ge1-via-then-sid-ge1+else-from-len}
use Rattle.flow_state.proofs.leases.Leases.first_of.Goals.{else-sid-ge1-via-else-sid-ge1}
use Rattle.flow_state.proofs.leases.Leases.first_of.Goals as goal

was_given : (sid n : ℕ) → 1 ≤ sid → sid ≤ n → (leb 1 sid && leb sid n) ≡ true
was_given sid n one le = let first : leb 1 sid ≡ true = grind (arith, one) in let second : leb sid n ≡ true = grind (arith, le) in ap (λ b. b && leb sid n) first ∙ second

above : (sid n : ℕ) → n < sid → (leb 1 sid && leb sid n) ≡ false
above sid n lt = let second : leb sid n ≡ false = grind (arith, lt) in ap (λ b. leb 1 sid && b) second ∙ none (leb 1 sid)
  where
    none : (b : Bool) → (b && false) ≡ false
    none true = refl
    none false = refl

below : (sid n : ℕ) → sid < 1 → (leb 1 sid && leb sid n) ≡ false
below sid n lt = let first : leb 1 sid ≡ false = grind (arith, lt) in ap (λ b. b && leb sid n) first

-- what was found of the SID tells the first minislot
first_by : (t : Table) (sid start : ℕ) (b : Bool) → AreGiven t.leases → t.row.next_start ≡ start → (leb 1 sid && leb sid (length t.leases)) ≡ b → cond b start 0 ≡ first_of t sid
first_by t sid start b given at e = ap (λ c. cond c start 0) (sym (given_is t sid given ∙ e)) ∙ ap (λ n. cond (is_given t sid) n 0) (sym at)

pub returns-then-from-len : goal.returns-then-from-len
returns-then-from-len c = λ t same start.
    let now : c.self.inside.latest.items ≡ t.leases = c.self.view_is ∙ sym same in
    let count : length c.self.inside.latest.items ≡ length t.leases = ap length now in
    let len : c.len.result ≡ length c.self.inside.latest.items = c.len.ensures ∙ c.self.inside.latest.ok.0 in
    let le : c.from.result ≤ c.len.result = c.if-from-len.true in
    let from : c.from.result ≡ c.args.sid = c.from.ensures in
    first_by t c.args.sid c.args.start true (subst AreGiven now c.self.invariant.given) start (was_given c.args.sid (length t.leases) c.if-sid-ge1.true (omega arith))

pub returns-else-sid-ge1 : goal.returns-else-sid-ge1
returns-else-sid-ge1 c = λ t same start.
    let now : c.self.inside.latest.items ≡ t.leases = c.self.view_is ∙ sym same in
    let count : length c.self.inside.latest.items ≡ length t.leases = ap length now in
    first_by t c.args.sid c.args.start false (subst AreGiven now c.self.invariant.given) start (elim c.else-sid-ge1.branch [
      | else-sid-ge1-via-then-sid-ge1+else-from-len w ↦
          let len : w.len.result ≡ length c.self.inside.latest.items = w.len.ensures ∙ c.self.inside.latest.ok.0 in
          let from : w.from.result ≡ c.args.sid = w.from.ensures in
          let more = w.if-from-len.false in above c.args.sid (length t.leases) (omega arith)
      | else-sid-ge1-via-else-sid-ge1 w ↦ let off = w.if-sid-ge1.false in below c.args.sid (length t.leases) (omega arith)
    ])
