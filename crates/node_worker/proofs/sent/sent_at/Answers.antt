use Rattle.std.proofs.Common.{⊎_elim, inl, inr, arith, refl}
use Rattle.node_worker.specs.declared.sent.LetterPlace.{LetterPlace}
use Rattle.node_worker.proofs.TwoParts.{in_two, letters_in_parts, within_more}
use Rattle.node_worker.proofs.sent.sent_at.Goals as goal

pub returns-in-Some-clause-sent : goal.returns-in-Some-clause-sent
returns-in-Some-clause-sent c =
    let parts = in_two _ _ _ c.args.letter.now (letters_in_parts c.min-middle.result c.args.records.now c.split_at.result.0.now c.split_at.result.1.now c.split_at.ensures.front c.split_at.ensures.back) in
    (λ yes. parts.1 (inr (c.in-Some.ensures.sent.0 refl)), λ there. refl)

pub returns-in-None-clause-sent : goal.returns-in-None-clause-sent
returns-in-None-clause-sent c =
    let parts = in_two _ _ _ c.args.letter.now (letters_in_parts c.min-middle.result c.args.records.now c.split_at.result.0.now c.split_at.result.1.now c.split_at.ensures.front c.split_at.ensures.back) in (
      λ yes. parts.1 (inl (c.first_sent-in-None.ensures.sent.0 yes)),
      λ there. ⊎_elim c.first_sent-in-None.ensures.sent.1 (λ back. absurd (let no = c.in-None.ensures.sent.1 back in cc no)) (parts.0 there),
    )

pub returns-in-None-clause-within : goal.returns-in-None-clause-within
returns-in-None-clause-within c = within_more (λ (p : LetterPlace). p.record) c.first_sent-in-None.result _ _ (omega (arith, c.split_at.ensures.front_len, c.split_at.ensures.back_len)) c.first_sent-in-None.ensures.within
