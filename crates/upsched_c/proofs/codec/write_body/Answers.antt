use Rattle.std.proofs.Common.{◌∙◌, ℕ, List, length, refl, sym, ap, subst, arith}
use Rattle.map_body.specs.declared.head.Head.{Head}
use Rattle.map_body.specs.Layout.{FitsHead, Spells}
use Rattle.upsched_c.specs.Codec.{written}
use Rattle.upsched_c.proofs.Rooms.{would_be, spelled_len}
use Rattle.upsched_c.proofs.codec.write_body.Goals as goal

pub returns-then-out-wanted : goal.returns-then-out-wanted
returns-then-out-wanted c =
    let would = would_be c.args.head.now c.args.elements.now (subst FitsHead c.head_in-head.ensures c.head_fits.ensures) c.in_default.ensures.none c.in_default-making_fault.ensures.few c.in_default-making_fault.ensures.none in
    (would.0, would.1, omega (arith, would.2, c.if-out-wanted.true), ap (λ (n : ℕ). written c.args.out.now n) (sym would.2))

pub returns-in_default-elements_in : goal.returns-in_default-elements_in
returns-in_default-elements_in c =
    let would = would_be c.args.head.now c.args.elements.now (subst FitsHead c.head_in-head.ensures c.head_fits.ensures) c.in_default.ensures.none c.in_default-making_fault.ensures.few c.in_default-making_fault.ensures.none in
    (would.0, would.1, omega (arith, would.2, c.if-out-wanted.false), refl)

pub returns-in_default-lay_out : goal.returns-in_default-lay_out
returns-in_default-lay_out c =
    let would = would_be c.args.head.now c.args.elements.now (subst FitsHead c.head_in-head.ensures c.head_fits.ensures) c.in_default.ensures.none c.in_default-making_fault.ensures.few c.in_default-making_fault.ensures.none in
    (would.0, would.1, omega (arith, would.2, c.if-out-wanted.false), refl)

pub put_front-requires : goal.put_front-requires
put_front-requires c =
    let spelled = subst (λ (h : Head). Spells c.in-Ok-lay_out.bytes.items h c.deref.result.now 0) c.head_in-head.ensures c.in-Ok-lay_out.ensures in
    let len = spelled_len c.args.head.now c.args.elements.now c.in-Ok-lay_out.bytes.items c.deref.result.now (c.deref.ensures.value ∙ c.in-Ok.ensures) spelled in
    omega (arith, len, ap (λ (xs : List ℕ). length xs) c.deref-2.ensures.value, c.if-out-wanted.false)
