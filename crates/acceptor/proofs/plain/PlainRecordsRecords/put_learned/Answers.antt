use Rattle.std.proofs.Common.{ℕ, List, ◌≡◌, rules, sym, ap, subst, ◌∙◌, Some}
use Rattle.ballots.specs.Ballots.{number_of}
use Rattle.ballots.specs.Limits.{IsValue}
use Rattle.ballots.specs.Rows.{put}
use Rattle.acceptor.specs.Content.{AreRowsFrom, AreValues, Content, after_write}
use Rattle.acceptor.specs.Content.Write.{Learns}
use Rattle.acceptor.proofs.SoundRows.{rows_put, values_put}
use Rattle.acceptor.proofs.Certain.{wrote, doubted, added}
use Rattle.acceptor.proofs.plain.PlainRecordsRecords.put_learned.Goals as goal

pub invariant_of-self-2 : goal.invariant_of-self-2
invariant_of-self-2 c =
    let learned = c.self.inside.learned.entries in
    let now : c.put_value.new.learned.entries ≡ put learned c.number.result c.in_ok-value.value = search rules in
    let rows = rows_put 1 c.number.result c.in_ok-value.value learned c.number.ensures.fits.0 c.number.ensures.fits.1 c.self.invariant.1.1 in
    let values = values_put c.number.result c.in_ok-value.value learned (subst IsValue (sym c.in_ok-value.ensures) c.as_slice.ensures.fits) c.self.invariant.1.2 in
    (c.self.invariant.0, (c.self.invariant.1.0, subst (AreRowsFrom 1) (sym now) rows, subst AreValues (sym now) values))

pub returns-clause-writes : goal.returns-clause-writes
returns-clause-writes c _ =
    let write : Content → Content = λ d. after_write d (Some (Learns c.args.place c.args.value.now)) in
    let learned : c.put_value.new.learned.entries ≡ put c.self.inside.learned.entries c.args.place c.args.value.now = search rules in
    let old : Content = record { tried = number_of c.self.inside.tried; row = number_of c.self.inside.row; votes = c.self.inside.votes.entries; learned = c.self.inside.learned.entries } in
    let is : record old { learned = c.put_value.new.learned.entries } ≡ write c.args.self.now = ap (λ (l : List (ℕ × List ℕ)). record old { learned = l }) learned ∙ ap write c.self.view_is in
    record { ok = wrote c.args.self.now _ write is; harmless = tt; doubt = doubted c.args.self.now _ write is; only = added c.args.self.now _ write is }
