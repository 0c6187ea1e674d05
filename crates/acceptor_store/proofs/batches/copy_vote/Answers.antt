use Rattle.std.proofs.Common.{◌≡◌, refl, ◌∙◌}
use Rattle.acceptor.specs.Content.Write.{Votes}
use Rattle.acceptor_store.proofs.Copying.{made_so, put_same}
use Rattle.acceptor_store.proofs.batches.copy_vote.Goals as goal

pub returns-in-Ok : goal.returns-in-Ok
returns-in-Ok c =
    let place : c.in-Some.place ≡ c.args.vote.now.0 = (let e = c.in-Some.ensures.some in cc) in
    let value : c.in-Some-new.value ≡ c.args.vote.now.1.value = (let e = c.in-Some-new.ensures.some in let f = c.in_ok-copy.ensures in cc) in
    made_so c.args.records.now c.put_vote.new.self (Votes c.in-Some.place record { ballot = c.args.vote.now.1.ballot; value = c.in-Some-new.value }) (c.in-Ok.ensures.writes refl).ok
    ∙ put_same c.args.records.now place value c.args.vote.now.1.ballot
