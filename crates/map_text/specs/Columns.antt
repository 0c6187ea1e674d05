-- No line of a plan's text is longer than 100 columns.
use Rattle.std.specs.Prelude.{ℕ, ◌<◌, ◌≤◌, ◌^◌, List, length}
use Rattle.map_body.specs.declared.element.Element.{Element}
use Rattle.map_body.specs.declared.interval.Interval.{Interval}
use Rattle.map_body.specs.Rules.{FitsElement}
use Rattle.map_text.specs.Lines.{head_line, owners_line, interval_line, waiting_line}

-- an interval's numbers are as a MAP can tell them
pub record FitsInterval (i : Interval) : Type 0 where
  pub sid : i.sid < 2 ^ 14
  pub iuc : i.iuc < 2 ^ 4
  pub from : i.from < 2 ^ 14
  pub to : i.to < 2 ^ 14

-- with its end a line has at most 101 bytes: those of a MAP, among fewer than 10 ^ 9 commands
pub record LinesFit : Type 0 where
  pub head : (ch number command start len ack : ℕ) → ch < 2 ^ 8 → number < 10 ^ 9 → command < 10 ^ 9 → start < 2 ^ 63 → len < 2 ^ 16
      → ack < 2 ^ 32 → length (head_line ch number command start len ack) ≤ 101
  pub owners : (len : ℕ) (is : List Interval) → length (owners_line len is) ≤ 101
  pub interval : (len : ℕ) (i : Interval) → FitsInterval i → length (interval_line len i) ≤ 101
  pub waiting : (e : Element) → FitsElement e → length (waiting_line e) ≤ 101
