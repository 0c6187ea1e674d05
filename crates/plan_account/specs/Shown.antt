-- What a MAP shows: its Ack Time, its intervals, and the elements behind its Null, which tell of requests that wait.
use Rattle.std.specs.Prelude.{ℕ, List}
use Rattle.map_body.specs.declared.element.Element.{Element}
use Rattle.map_body.specs.declared.interval.Interval.{Interval}
use Rattle.map_body.specs.Body.{Body}
use Rattle.map_body.specs.Intervals.{intervals, after_null}

pub record Shown : Type 0 where
  pub ack : ℕ
  pub intervals : List Interval
  pub waiting : List Element

abbrev pub shown_by : Body → Shown
shown_by b = record { ack = b.head.ack; intervals = intervals b.elements; waiting = after_null b.elements }
