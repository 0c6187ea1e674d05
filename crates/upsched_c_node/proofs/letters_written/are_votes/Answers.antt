use Rattle.std.proofs.Common.{All, arith, refl, subst}
use Rattle.std.specs.Prelude.{IsSome}
use Rattle.std.proofs.lemmas.List.{take_all}
use Rattle.std.proofs.lemmas.List.Elements.{All-more}
use Rattle.upsched_c_node.specs.Letters.{vote_of}
use Rattle.upsched_c_node.proofs.letters_written.are_votes.Goals as goal

pub loop-vote-preserved : goal.loop-vote-preserved
loop-vote-preserved c =
    All-more (λ v. IsSome (vote_of v)) c.args.votes.now c.loop-vote.vote-index _ c.loop-vote-test.true c.loop-vote.invariant (c.is_vote.ensures.0 c.if-not-is_vote.false)

pub returns : goal.returns
returns c = (λ _. subst (All (λ v. IsSome (vote_of v))) (take_all c.loop-vote.vote-index c.args.votes.now (omega (arith, c.loop-vote-test.false))) c.loop-vote.invariant, λ _. refl)
