use Rattle.std.proofs.Common.{◌≡◌, List, subst, sym, Contains, get_or, refl}
use Rattle.std.proofs.lemmas.List.{take_all}
use Rattle.ballots.specs.declared.letters.Letter.{Letter}
use Rattle.node_worker.specs.Legal.{letters_of}
use Rattle.node_worker.specs.declared.entry.Done.{Done}
use Rattle.node_worker.proofs.Comparisons.{sent_by, not_sent_more}
use Rattle.node_worker.proofs.sent.first_sent.Goals as goal

pub returns-in-Some-clause-sent : goal.returns-in-Some-clause-sent
returns-in-Some-clause-sent c =
    let read : c.letters.result.now ≡ (get_or c.args.records.now c.loop-i.i c.index-records-i.result).entry.letters = c.letters.ensures in
    let P : List Letter → Type 0 = λ ls. Contains ls c.args.letter.now in
    (λ yes. sent_by c.args.records.now c.loop-i.i c.index-records-i.result c.args.letter.now c.loop-i-test.true (subst P read (c.in-Some.ensures.among.0 refl)), λ there. refl)

pub loop-i-preserved : goal.loop-i-preserved
loop-i-preserved c =
    let read : c.letters.result.now ≡ (get_or c.args.records.now c.loop-i.i c.index-records-i.result).entry.letters = c.letters.ensures in
    let P : List Letter → Type 0 = λ ls. Contains ls c.args.letter.now in
    not_sent_more c.args.records.now c.loop-i.i c.index-records-i.result c.args.letter.now c.loop-i-test.true c.loop-i.invariant
    (λ here. absurd (let no = c.in-None.ensures.among.1 (subst P (sym read) here) in cc no))

pub returns-clause-sent : goal.returns-clause-sent
returns-clause-sent c =
    let P : List Done → Type 0 = λ ds. Contains (letters_of ds) c.args.letter.now → ⊥ in
    (λ no. absurd cc, λ there. absurd (subst P (take_all c.loop-i.i c.args.records.now c.loop-i-test.false) c.loop-i.invariant there))
