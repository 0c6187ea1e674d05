use Rattle.std.proofs.Common.{⊎_elim, inl, inr, arith, refl}
use Rattle.node_worker.proofs.TwoParts.{in_parts, in_two, within_more}
use Rattle.node_worker.proofs.sent.place_among.Goals as goal

pub returns-in-Some-clause-among : goal.returns-in-Some-clause-among
returns-in-Some-clause-among c =
    let parts = in_two c.split_at.result.0.now c.split_at.result.1.now c.args.letters.now c.args.letter.now (in_parts c.min-middle.result c.args.letters.now c.split_at.result.0.now c.split_at.result.1.now c.split_at.ensures.front c.split_at.ensures.back) in
    (λ yes. parts.1 (inr (c.in-Some.ensures.among.0 refl)), λ there. refl)

pub returns-in-None-clause-among : goal.returns-in-None-clause-among
returns-in-None-clause-among c =
    let parts = in_two c.split_at.result.0.now c.split_at.result.1.now c.args.letters.now c.args.letter.now (in_parts c.min-middle.result c.args.letters.now c.split_at.result.0.now c.split_at.result.1.now c.split_at.ensures.front c.split_at.ensures.back) in (
      λ yes. parts.1 (inl (c.first_place-in-None.ensures.among.0 yes)),
      λ there. ⊎_elim c.first_place-in-None.ensures.among.1 (λ back. absurd (let no = c.in-None.ensures.among.1 back in cc no)) (parts.0 there),
    )

pub returns-in-None-clause-within : goal.returns-in-None-clause-within
returns-in-None-clause-within c = within_more (λ i. i) c.first_place-in-None.result _ _ (omega (arith, c.split_at.ensures.front_len, c.split_at.ensures.back_len)) c.first_place-in-None.ensures.within
