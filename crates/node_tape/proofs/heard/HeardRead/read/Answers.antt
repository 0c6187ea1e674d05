use Rattle.std.proofs.Common.{List, ℕ, ap, subst, arith}
use Rattle.std.specs.Io.KnownBytes.{Appends}
use Rattle.node_tape.specs.Heard.{bytes_left, bytes_noted}
use Rattle.node_tape.proofs.Given.{one_given, read_gives}
use Rattle.node_tape.proofs.heard.HeardRead.read.Goals as goal

pub returns-clause-bytes : goal.returns-clause-bytes
returns-clause-bytes g c =
    read_gives (bytes_left c.args.self.now.ahead (g.R.Read.remaining c.args.self.now.input)) c.in_ok-byte.field-0 c.in-Some.byte c.next_ahead.new.self.ahead
    (g.R.Read.remaining c.next_ahead.new.self.input) (g.R.Read.remaining c.note_once.new.self.input) c.args.buf.now
    c.in-Some.is c.in_ok-byte.ensures.ok (ap g.R.Read.remaining c.note_once.ensures.input) (grind (arith, c.is_empty.ensures, c.if-is_empty.false))

pub returns-clause-noted : goal.returns-clause-noted
returns-clause-noted g c =
    let before = rw (c.next_ahead.ensures.journal, c.next_ahead.ensures.line) at c.in_ok-note_once.ensures.noted in
    subst (λ (bs : List ℕ). Appends (bytes_noted (g.J.Write.contents c.args.self.now.journal) c.args.self.now.line.items) (bytes_noted (g.J.Write.contents c.note_once.new.self.journal) c.note_once.new.self.line.items) bs)
    (one_given c.in-Some.byte c.args.buf.now (grind (arith, c.is_empty.ensures, c.if-is_empty.false))) before
