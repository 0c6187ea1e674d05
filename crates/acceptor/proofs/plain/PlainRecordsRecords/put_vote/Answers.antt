use Rattle.std.proofs.Common.{ℕ, List, ◌≡◌, max, rules, sym, ap, subst, ◌∙◌, Some}
use Rattle.ballots.specs.Ballots.{number_of}
use Rattle.ballots.specs.declared.letters.Cast.{Cast}
use Rattle.ballots.specs.Rows.{put}
use Rattle.acceptor.specs.Content.{AreRowsFrom, greatest}
use Rattle.acceptor.proofs.Greatest.{replaced}
use Rattle.acceptor.proofs.SoundRows.{rows_put}
use Rattle.acceptor.specs.Content.{Content, after_write}
use Rattle.acceptor.specs.Content.Write.{Votes}
use Rattle.acceptor.proofs.Certain.{wrote, doubted, added}
use Rattle.acceptor.proofs.plain.PlainRecordsRecords.put_vote.Goals as goal

pub highest_after-self-inside-requires : goal.highest_after-self-inside-requires
highest_after-self-inside-requires c =
    let votes = c.self.inside.votes.entries in
    let cast : Cast = record { ballot = c.args.ballot; value = c.in_ok-value.value } in
    let now : c.put_at.new.votes.entries ≡ put votes c.number.result cast = search rules in
    subst (AreRowsFrom 1) (sym now) (rows_put 1 c.number.result cast votes c.number.ensures.fits.0 c.number.ensures.fits.1 c.self.invariant.1.0)

pub invariant_of-self-2 : goal.invariant_of-self-2
invariant_of-self-2 c =
    let votes = c.self.inside.votes.entries in
    let row = number_of c.self.inside.row in
    let cast : Cast = record { ballot = c.args.ballot; value = c.in_ok-value.value } in
    let others = replaced row votes c.number.result cast in
    let now : c.put_at.new.votes.entries ≡ put votes c.number.result cast = search rules in
    let before = c.self.invariant.0 ∙ others.1 ∙ ap (λ b. max b others.0) (sym c.in_ok-replaced.ensures.replaced) in
    let after = ap (greatest row) now ∙ others.2 in
    (c.highest_after-self-inside.ensures others.0 before after, (subst (AreRowsFrom 1) (sym now) (rows_put 1 c.number.result cast votes c.number.ensures.fits.0 c.number.ensures.fits.1 c.self.invariant.1.0), c.self.invariant.1.1, c.self.invariant.1.2))

pub returns-clause-writes : goal.returns-clause-writes
returns-clause-writes c _ =
    let write : Content → Content = λ d. after_write d (Some (Votes c.args.place record { ballot = c.args.ballot; value = c.args.value.now })) in
    let votes : c.put_at.new.votes.entries ≡ put c.self.inside.votes.entries c.args.place record { ballot = c.args.ballot; value = c.args.value.now } = search rules in
    let old : Content = record { tried = number_of c.self.inside.tried; row = number_of c.self.inside.row; votes = c.self.inside.votes.entries; learned = c.self.inside.learned.entries } in
    let is : record old { votes = c.put_at.new.votes.entries } ≡ write c.args.self.now = ap (λ (v : List (ℕ × Cast)). record old { votes = v }) votes ∙ ap write c.self.view_is in
    record { ok = wrote c.args.self.now _ write is; harmless = tt; doubt = doubted c.args.self.now _ write is; only = added c.args.self.now _ write is }
