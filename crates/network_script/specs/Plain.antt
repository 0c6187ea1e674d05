-- A run in which nothing fails, computed: the plain program of the written world, for scripts without modems.
use Rattle.std.specs.Prelude.{◌≡◌, ◌≤◌, ℕ, ◌+◌, ◌-◌, ◌*◌, ◌/◌, ◌^◌, max, nat_lt, nat_le, if◌then◌else◌, List, [], ◌∷◌}
use Rattle.std.specs.Prelude.{length, Option, Some, None, Result, Ok, Err, slice_get}
use Rattle.ballots.specs.Limits.{most_places}
use Rattle.ballots.specs.declared.letters.Letter.{Letter}
use Rattle.node.specs.View.{View, Standing, started, gapless}
use Rattle.node.specs.View.Standing.{Running, Stopped}
use Rattle.proposer.specs.declared.fault.NodeFault.{NodeFault as Fault}
use Rattle.proposer.specs.declared.fault.NodeFault.TheVariants as fault
use Rattle.node.specs.Step.{Outcome, receive, offer, tell, limit, lead_with}
use Rattle.world_events.specs.declared.event.Event.{Event}
use Rattle.world_events.specs.declared.event.Event.TheVariants.{Lead, Offer, Tell, Deliver, DeliverThenCrash, Crash}
use Rattle.world_events.specs.declared.event.Event.TheVariants.{Restart, Release}
use Rattle.seats.specs.declared.answer.Answer.{Answer}
use Rattle.seats.specs.declared.answer.Answer.TheVariants as answer
use Rattle.world_events.specs.declared.refusal.EventRefusal.TheVariants.{NoLetter, NodeDown, NodeUp, NoNode, NoModem}
use Rattle.seats.specs.Release.{released}
use Rattle.seats.specs.Moves.{quiet, whole, lost, gives}
use Rattle.network_script.specs.World.{Written}
use Rattle.network_script.specs.Next.{Next, after}

-- the least ballot of the node above the limit
abbrev pub least_ballot : ℕ → ℕ → Option ℕ
least_ballot above node =
    let round = max 1 ((above + 8 - node) / 8) in
    if nat_lt round (2 ^ 40) then Some (round * 8 + node) else None

abbrev pub lead_at : ℕ → ℕ → View → Option ℕ → Result Outcome Fault
lead_at members me view None = Err fault.RoundsSpent
lead_at members me view (Some b) = Ok (lead_with members me view b)

abbrev pub lead : ℕ → ℕ → View → Result Outcome Fault
lead members me view = if nat_le most_places (length (gapless view)) then Err fault.LogFull else lead_at members me view (least_ballot (limit view) me)

-- an answer, and the world after it
abbrev pub Told : Type 0
Told = Answer × Written

-- the world after a fault of node k
abbrev pub after_fault : Written → ℕ → View → Fault → Written
after_fault w k view fault.OutOfMemory = after w k (quiet (Stopped view.content None))
after_fault w k view fault.StoreRefused = after w k (quiet (Stopped view.content None))
after_fault w k view fault.Down = after w k (quiet (Stopped view.content None))
after_fault w k view declined = w

abbrev pub ends : Written → ℕ → View → Result Outcome Fault → Told
ends w k view (Ok o) = (answer.Sent (length o.letters), after w k (whole o))
ends w k view (Err f) = (answer.Fault f, after_fault w k view f)

abbrev pub ends_in_crash : Written → ℕ → Outcome → Told
ends_in_crash w k o = (answer.Finished, after w k (lost o))

abbrev pub asks : Written → Option Standing → (View → Told) → Told
asks w None goes = (answer.Refused NoNode, w)
asks w (Some (Stopped c doubt)) goes = (answer.Refused NodeDown, w)
asks w (Some (Running view)) goes = goes view

abbrev pub restarts : Written → ℕ → Option Standing → Told
restarts w k None = (answer.Refused NoNode, w)
restarts w k (Some (Running view)) = (answer.Refused NodeUp, w)
restarts w k (Some (Stopped c doubt)) = (answer.Finished, after w k (quiet (Running (started c))))

abbrev pub comes : Written → Option Letter → (Letter → View → Told) → Told
comes w None takes = (answer.Refused NoLetter, w)
comes w (Some l) takes = asks w (slice_get w.nodes l.to) (takes l)

abbrev pub releases : Written → ℕ → ℕ → View → Told
releases w k now view = (answer.Released (length (released view now)), after w k (gives view now))

-- the answer of an event in which nothing fails, and the world after it, where there are no modems
abbrev pub act : ℕ → Written → Event → Told
act members w (Lead k) = asks w (slice_get w.nodes k) (λ view. ends w k view (lead members k view))
act members w (Offer k value) = asks w (slice_get w.nodes k) (λ view. ends w k view (offer members k view view.role value))
act members w (Tell k to place) = asks w (slice_get w.nodes k) (λ view. ends w k view (Ok (tell members k view to place)))
act members w (Deliver i) = comes w (slice_get w.letters i) (λ l view. ends w l.to view (Ok (receive members l.to view l)))
act members w (DeliverThenCrash i) = comes w (slice_get w.letters i) (λ l view. ends_in_crash w l.to (receive members l.to view l))
act members w (Crash k) = asks w (slice_get w.nodes k) (λ view. (answer.Finished, after w k (quiet (Stopped view.content None))))
act members w (Restart k) = restarts w k (slice_get w.nodes k)
act members w (Release k now) = asks w (slice_get w.nodes k) (releases w k now)
act members w of_modem = (answer.Refused NoModem, w)

-- the answers of a script, and the world after it
abbrev pub acts : ℕ → Written → List Event → List Answer × Written
acts members w [] = ([], w)
acts members w (event ∷ events) =
    let one = act members w event in
    let rest = acts members one.1 events in
    (one.0 ∷ rest.0, rest.1)

-- in a world of at most 8 nodes and no modem each event may be answered as it is computed
abbrev pub EachIsAnswered : Type 0
EachIsAnswered = (w : Written) (event : Event) → length w.nodes ≤ 8 → w.modems ≡ [] → Next (length w.nodes) w event (act (length w.nodes) w event).0 (act (length w.nodes) w event).1
