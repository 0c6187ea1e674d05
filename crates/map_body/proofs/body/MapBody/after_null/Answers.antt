use Rattle.std.proofs.Common.{◌≡◌, ◌+◌, List, drop, sym, ap, ◌∙◌, add-one}
use Rattle.std.proofs.lemmas.List.{take_rest}
use Rattle.map_body.specs.declared.element.Element.{Element}
use Rattle.map_body.specs.Body.{Body}
use Rattle.map_body.specs.Intervals.{after_null}
use Rattle.map_body.proofs.Nulls.{after_null_at}
use Rattle.map_body.proofs.body.MapBody.after_null.Goals as goal

pub returns : goal.returns
returns c =
    let es = c.self.inside.elements.items in
    let null = c.self.inside.null in
    let behind : after_null es ≡ drop (null + 1) es = after_null_at es null c.self.invariant.2 ∙ ap (λ k. drop k es) (sym (add-one null)) in
    let same : c.deref.result.now ≡ es = c.deref.ensures.value in
    take_rest c.deref.result.now (null + 1) ∙ ap (λ (xs : List Element). drop (null + 1) xs) same ∙ sym behind ∙ ap (λ (b : Body). after_null b.elements) c.self.view_is
