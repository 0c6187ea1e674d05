use Rattle.std.proofs.Common.{◌≡◌, ◌∷◌, ◌++◌, [], ◌+◌, ◌<◌, length, take, ◌-◌, rules, arith, sym, ap, ◌∙◌, append-nil}
use Rattle.std.proofs.Common.{length-append}
use Rattle.std.proofs.lemmas.Grind.{common_steps}
use Rattle.ballots.specs.declared.letters.Note.TheVariants.{Known}
use Rattle.ballots.specs.Rows.{rows_from}
use Rattle.node.specs.Step.{known_letters, letter}
use Rattle.node.proofs.Preparations.{known_step, letters_end, row_fits, some_known}
use Rattle.node.proofs.letters.known_letters.Goals as goal

pub loop-told-init : goal.loop-told-init
loop-told-init c =
    (ap (λ ls. ls ++ known_letters c.args.from c.args.to (take (64 - length ls) (rows_from c.args.learned.now.entries c.args.place))) c.new-letters.ensures.items, ap length c.new-letters.ensures.items)

pub overflow_add-next : goal.overflow_add-next
overflow_add-next c = omega (arith, row_fits 1 c.loop-told.next c.args.learned.now.entries c.in-Some.at c.in-Some.value.now (rows_from c.args.learned.now.entries (c.in-Some.at + 1)) c.requires c.in-Some.ensures.row)

pub loop-told-preserved : goal.loop-told-preserved
loop-told-preserved c =
    let few : length c.loop-told.letters.items < 64 = omega (arith, c.loop-told.invariant.1, c.loop-told-test.true) in
    let value : c.in_ok-copy.field-0 ≡ c.in-Some.value.now = first_of (search rules, grind (arith, common_steps)) in
    let pushed : c.push.new.self.items ≡ c.loop-told.letters.items ++ letter c.args.from c.args.to (Known c.in-Some.at c.in-Some.value.now) ∷ [] = first_of (search rules, grind (arith, common_steps)) in
    let more = rows_from c.args.learned.now.entries (c.in-Some.at + 1) in
    let step = known_step c.args.from c.args.to c.in-Some.at c.in-Some.value.now more c.loop-told.letters.items few in
    let one = letter c.args.from c.args.to (Known c.in-Some.at c.in-Some.value.now) in (
      ap (λ ls. ls ++ known_letters c.args.from c.args.to (take (64 - length ls) more)) pushed ∙ sym step
          ∙ ap (λ it. c.loop-told.letters.items ++ known_letters c.args.from c.args.to (take (64 - length c.loop-told.letters.items) it)) (sym c.in-Some.ensures.row) ∙ c.loop-told.invariant.0,
      omega (arith, c.loop-told.invariant.1, ap length pushed, length-append c.loop-told.letters.items (one ∷ [])),
    )

pub returns-in_default-clause-letters : goal.returns-in_default-clause-letters
returns-in_default-clause-letters c =
    let letters = c.loop-told.letters.items in
    sym (ap (λ it. letters ++ known_letters c.args.from c.args.to (take (64 - length letters) it)) c.in_default.ensures.row ∙ letters_end c.args.from c.args.to (64 - length letters) letters) ∙ c.loop-told.invariant.0

pub returns-clause-letters : goal.returns-clause-letters
returns-clause-letters c =
    let letters = c.loop-told.letters.items in
    let none_left : 64 - length letters ≡ 0 = omega (arith, c.loop-told.invariant.1, c.loop-told-test.false) in
    sym (ap (λ k. letters ++ known_letters c.args.from c.args.to (take k (rows_from c.args.learned.now.entries c.loop-told.next))) none_left ∙ append-nil letters) ∙ c.loop-told.invariant.0

pub returns-in_err-copy-clause-no_memory : goal.returns-in_err-copy-clause-no_memory
returns-in_err-copy-clause-no_memory c none =
    let letters = c.loop-told.letters.items in
    absurd (some_known c.args.from c.args.to c.in-Some.at c.in-Some.value.now (rows_from c.args.learned.now.entries (c.in-Some.at + 1)) letters
    (ap (λ it. letters ++ known_letters c.args.from c.args.to (take (64 - length letters) it)) (sym c.in-Some.ensures.row) ∙ c.loop-told.invariant.0 ∙ none))

pub returns-in_err-push-clause-no_memory : goal.returns-in_err-push-clause-no_memory
returns-in_err-push-clause-no_memory c none =
    let letters = c.loop-told.letters.items in
    absurd (some_known c.args.from c.args.to c.in-Some.at c.in-Some.value.now (rows_from c.args.learned.now.entries (c.in-Some.at + 1)) letters
    (ap (λ it. letters ++ known_letters c.args.from c.args.to (take (64 - length letters) it)) (sym c.in-Some.ensures.row) ∙ c.loop-told.invariant.0 ∙ none))
