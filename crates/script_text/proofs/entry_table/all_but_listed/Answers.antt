use Rattle.std.proofs.Common.{◌≡◌, ◌≢◌, ◌∙◌, ◌==◌, List, [], ap, length, map, sym}
use Rattle.std.proofs.lemmas.Bool.{false≢true}
use Rattle.std.proofs.lemmas.List.{length-map}
use Rattle.toml.specs.Data.{Data}
use Rattle.toml.specs.View.{view}
use Rattle.script_text.proofs.Entries.{listed, not_listed}
use Rattle.script_text.proofs.entry_table.all_but_listed.Goals as goal

pub returns-in-Some-2-clause-found : goal.returns-in-Some-2-clause-found
returns-in-Some-2-clause-found c =
    let items : List Data = map view c.in-Some.items.now.items in
    let found = rw (c.as_slice.ensures.value, c.in-Some-2.is) at c.in_ok-all.ensures.found in
    let some : items ≢ [] = λ is.
    let none : length c.in-Some.items.now.items ≡ 0 = sym (length-map c.in-Some.items.now.items view) ∙ ap length is in
    false≢true (sym c.if-is_empty.false ∙ c.is_empty.ensures ∙ ap (λ n. n == 0) (c.in-Some.items.now.ok.0 ∙ none)) in
    (listed (view c.args.value.now) items c.in-Some-2.all.except c.in-Some.ensures some found.0, found.1)

pub returns-in-None-clause-none : goal.returns-in-None-clause-none
returns-in-None-clause-none c = λ none.
    not_listed (view c.args.value.now) (map view c.in-Some.items.now.items) c.in-Some.ensures (rw c.as_slice.ensures.value at (c.in_ok-all.ensures.none c.in-None.is))
