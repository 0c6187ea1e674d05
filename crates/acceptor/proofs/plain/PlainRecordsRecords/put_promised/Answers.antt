use Rattle.std.proofs.Common.{◌∙◌, ap, Some}
use Rattle.ballots.specs.Ballots.{number_of}
use Rattle.acceptor.specs.Content.{greatest}
use Rattle.acceptor.proofs.Greatest.{greatest_apart}
use Rattle.acceptor.specs.Content.{Content, after_write}
use Rattle.acceptor.specs.Content.Write.{Promises}
use Rattle.acceptor.proofs.Certain.{wrote, doubted, added}
use Rattle.acceptor.proofs.plain.PlainRecordsRecords.put_promised.Goals as goal

pub invariant_of-self : goal.invariant_of-self
invariant_of-self c =
    let votes = c.self.inside.votes.entries in
    (c.highest_after-self-inside.ensures (greatest 0 votes) (c.self.invariant.0 ∙ greatest_apart (number_of c.self.inside.row) votes) (greatest_apart c.args.ballot votes), c.self.invariant.1)

pub returns-clause-writes : goal.returns-clause-writes
returns-clause-writes c _ =
    let write : Content → Content = λ d. after_write d (Some (Promises c.args.ballot)) in
    let is = ap write c.self.view_is in
    record { ok = wrote c.args.self.now _ write is; harmless = tt; doubt = doubted c.args.self.now _ write is; only = added c.args.self.now _ write is }
