use Rattle.std.proofs.Common.{◌++◌, ◌∷◌, [], length, sym, ◌∙◌, subst}
use Rattle.map_body.specs.declared.fault.MapFault.TheVariants.{Expansion, OutOfOrder}
use Rattle.map_body.specs.Rules.{FirstElementFault}
use Rattle.map_body.proofs.Scan.{Scanned, tested, untested}
use Rattle.map_body.proofs.Looks.{look_found, sound_of, saw_sound, found_expansion, found_fall, more_behind, more_null}
use Rattle.map_body.proofs.Looks.{more_before}
use Rattle.map_body.proofs.judging.look.Goals as goal

pub returns-then-is_some : goal.returns-then-is_some
returns-then-is_some c = λ es len saw. look_found es c.args.element c.args.seen (sym c.is_some.ensures ∙ c.if-is_some.true) saw

pub returns-then-eq : goal.returns-then-eq
returns-then-eq c = λ es len saw.
    let sound = sound_of es c.args.seen (sym c.is_some.ensures ∙ c.if-is_some.false) saw in
    let is = tested c.eq.result c.args.element.iuc 15 c.eq.ensures c.if-eq.true in
    subst (λ n. FirstElementFault (es ++ c.args.element ∷ []) (Expansion n)) len (found_expansion es c.args.element _ c.args.seen.last sound.scanned is)

pub returns-then-is_some-2 : goal.returns-then-is_some-2
returns-then-is_some-2 c = λ es len saw.
    let none = sym c.is_some.ensures ∙ c.if-is_some.false in
    let sound = sound_of es c.args.seen none saw in
    let plain = untested c.eq.result c.args.element.iuc 15 c.eq.ensures c.if-eq.false in
    rw c.get-last.ensures.same (saw_sound (es ++ c.args.element ∷ []) (record { null = c.args.seen.null; last = c.args.element.offset; fault = c.args.seen.fault }) none (more_behind es c.args.element c.args.seen sound plain (sym c.is_some-2.ensures ∙ c.if-is_some-2.true)))

pub returns-then-last-seen : goal.returns-then-last-seen
returns-then-last-seen c = λ es len saw.
    let sound = sound_of es c.args.seen (sym c.is_some.ensures ∙ c.if-is_some.false) saw in
    let plain = untested c.eq.result c.args.element.iuc 15 c.eq.ensures c.if-eq.false in
    let unseen = sym c.is_some-2.ensures ∙ c.if-is_some-2.false in
    let scanned = subst (λ b. Scanned es (length es) b c.args.seen.last) unseen sound.scanned in
    let below = rw c.get-last.ensures.same at c.if-last-seen.true in
    subst (λ n. FirstElementFault (es ++ c.args.element ∷ []) (OutOfOrder n)) len (found_fall es c.args.element c.args.seen.last scanned plain below)

pub returns-then-eq-2 : goal.returns-then-eq-2
returns-then-eq-2 c = λ es len saw.
    let none = sym c.is_some.ensures ∙ c.if-is_some.false in
    let sound = sound_of es c.args.seen none saw in
    let plain = untested c.eq.result c.args.element.iuc 15 c.eq.ensures c.if-eq.false in
    let unseen = sym c.is_some-2.ensures ∙ c.if-is_some-2.false in
    let is = tested c.eq-2.result c.args.element.iuc 7 c.eq-2.ensures c.if-eq-2.true in
    let order = rw c.get-last.ensures.same at c.if-last-seen.false in
    rw c.get-last.ensures.same (saw_sound (es ++ c.args.element ∷ []) _ none (more_null es c.args.element c.args.seen sound plain unseen order is))

pub returns : goal.returns
returns c = λ es len saw.
    let none = sym c.is_some.ensures ∙ c.if-is_some.false in
    let sound = sound_of es c.args.seen none saw in
    let plain = untested c.eq.result c.args.element.iuc 15 c.eq.ensures c.if-eq.false in
    let unseen = sym c.is_some-2.ensures ∙ c.if-is_some-2.false in
    let isnt = untested c.eq-2.result c.args.element.iuc 7 c.eq-2.ensures c.if-eq-2.false in
    let order = rw c.get-last.ensures.same at c.if-last-seen.false in
    rw c.get-last.ensures.same (saw_sound (es ++ c.args.element ∷ []) _ none (more_before es c.args.element c.args.seen sound plain unseen order isnt))
