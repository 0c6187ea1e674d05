use Rattle.std.proofs.Common.{◌≡◌, ◌⊎◌, ◌≤◌, true, inl, inr, sym, subst, ap, ◌∙◌, arith, map, get_or}
use Rattle.std.proofs.lemmas.Option.{slice_get-map}
use Rattle.std.proofs.lemmas.List.{length-map}
use Rattle.std.specs.Option.{option_map}
use Rattle.map_body.proofs.Scan.{Scanned, expands, falls, scans_on, all_scanned, none_null, iuc_at}
use Rattle.upsched_c.specs.declared.structs.MapElement.{MapElement}
use Rattle.upsched_c.specs.Structs.{element_value}
use Rattle.upsched_c.proofs.Fields.{element_at}
use Rattle.upsched_c.proofs.codec.first_fault.Goals as goal
use Rattle.upsched_c.proofs.codec.first_fault.Goals.{else-not-null_seen-via-then-not-null_seen+else-element-last}
use Rattle.upsched_c.proofs.codec.first_fault.Goals.{else-not-null_seen-via-else-not-null_seen}
use Rattle.upsched_c.proofs.codec.first_fault.Goals.{then-element-get-2, else-element-get-2}

abbrev none : MapElement
none = record { sid = 0; offset = 0; iuc = 0 }

pub returns-then-element-get : goal.returns-then-element-get
returns-then-element-get c =
    let es = c.args.elements.now in
    let i = c.loop-i.i in
    let e = get_or es i none in
    let at = slice_get-map element_value es i ∙ ap (option_map element_value) (element_at es i none c.loop-i-test.true) in
    expands (map element_value es) i c.loop-i.last c.loop-i.null_seen (element_value e) c.loop-i.invariant at (c.if-element-get.true ∙ c.get.ensures.same)

pub returns-then-element-last : goal.returns-then-element-last
returns-then-element-last c =
    let es = c.args.elements.now in
    let i = c.loop-i.i in
    let e = get_or es i none in
    let at = slice_get-map element_value es i ∙ ap (option_map element_value) (element_at es i none c.loop-i-test.true) in
    let clear = subst (λ b. Scanned (map element_value es) i b c.loop-i.last) c.if-not-null_seen.true c.loop-i.invariant in (
      (λ h. c.if-element-get.false (iuc_at (map element_value es) i 15 (element_value e) at h ∙ sym c.get.ensures.same)),
      falls (map element_value es) i c.loop-i.last (element_value e) clear at c.if-element-last.true,
      c.loop-i.invariant.sound,
    )

pub loop-i-preserved : goal.loop-i-preserved
loop-i-preserved c =
    let es = c.args.elements.now in
    let i = c.loop-i.i in
    let e = get_or es i none in
    let at = slice_get-map element_value es i ∙ ap (option_map element_value) (element_at es i none c.loop-i-test.true) in
    let order : (c.loop-i.null_seen ≡ true) ⊎ (c.loop-i.last ≤ e.offset) = elim c.else-not-null_seen.branch [
      | else-not-null_seen-via-then-not-null_seen+else-element-last w ↦ inr (omega (arith, w.if-element-last.false))
      | else-not-null_seen-via-else-not-null_seen w ↦ inl w.if-not-null_seen.false
    ] in
    let null : ((e.iuc ≡ 7) × (c.if-element-get-2.null_seen ≡ true)) ⊎ (¬ (e.iuc ≡ 7) × (c.if-element-get-2.null_seen ≡ c.loop-i.null_seen)) =
    elim c.if-element-get-2.branch [
      | then-element-get-2 w ↦ inl (w.if-element-get-2.true ∙ c.get-in-loop-i.ensures.same, w.null_seen-is)
      | else-element-get-2 w ↦ inr ((λ h. w.if-element-get-2.false (h ∙ sym c.get-in-loop-i.ensures.same)), w.null_seen-is)
    ] in
    scans_on (map element_value es) i c.loop-i.last c.loop-i.null_seen c.if-element-get-2.null_seen (element_value e) c.loop-i.invariant at
    (λ h. c.if-element-get.false (h ∙ sym c.get.ensures.same)) order null

pub returns-then-null_seen : goal.returns-then-null_seen
returns-then-null_seen c = all_scanned (map element_value c.args.elements.now) c.loop-i.i c.loop-i.last (omega (arith, length-map c.args.elements.now element_value)) (subst (λ b. Scanned (map element_value c.args.elements.now) c.loop-i.i b c.loop-i.last) c.if-null_seen.true c.loop-i.invariant)

pub returns-else-null_seen : goal.returns-else-null_seen
returns-else-null_seen c = none_null (map element_value c.args.elements.now) c.loop-i.i c.loop-i.last (omega (arith, length-map c.args.elements.now element_value)) (subst (λ b. Scanned (map element_value c.args.elements.now) c.loop-i.i b c.loop-i.last) c.if-null_seen.false c.loop-i.invariant)
