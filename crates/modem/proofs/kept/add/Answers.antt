use Rattle.std.proofs.Common.{◌-◌, inl, inr, sym, arith}
use Rattle.std.specs.List.{insert}
use Rattle.modem.proofs.Order.{HasAt-one, HasAt-insert, AreKept-insert, IsAt-equal, inserted}
use Rattle.modem.proofs.kept.add.Goals as goal

pub returns-then-eq-clause-held : goal.returns-then-eq-clause-held
returns-then-eq-clause-held c = λ ch m sid iuc. (
  inl,
  λ h. elim h [
    | inl a ↦ a
    | inr x ↦ HasAt-one c.args.kept.now.items (c.place_for-before.result - 1) c.index.result.now ch m sid iuc (let some = c.if-before-gt0.true in let all = rw c.as_slice.ensures.value at c.place_for-before.ensures.bound in omega (arith, all)) (sym c.index.ensures) (IsAt-equal c.index.result.now c.args.interval ch m sid iuc (sym c.if-eq.ensures) x)
  ],
)

pub returns-clause-kept : goal.returns-clause-kept
returns-clause-kept c =
    let ks = c.args.kept.now.items in
    let before = c.place_for-before.result in
    let part = rw c.as_slice.ensures.value at c.place_for-before.ensures in
    rw (inserted c.insert-added.result (insert ks before c.args.interval) ks c.insert-added.new.self.items (c.insert-added.ensures.succeeds c.requires.room) c.insert-added.ensures.items)
    (AreKept-insert ks before c.args.interval c.requires.kept c.requires.short part)

pub returns-clause-held : goal.returns-clause-held
returns-clause-held c = λ ch m sid iuc.
    let ks = c.args.kept.now.items in
    let before = c.place_for-before.result in
    rw (inserted c.insert-added.result (insert ks before c.args.interval) ks c.insert-added.new.self.items (c.insert-added.ensures.succeeds c.requires.room) c.insert-added.ensures.items)
    (HasAt-insert ks before c.args.interval ch m sid iuc)
