-- One more command reaches the rows after it.
use Rattle.std.proofs.Common.{◌≡◌, List, [], ◌∷◌, ◌++◌, refl, sym, ap, subst, ◌∙◌, Result, Ok, Err}
use Rattle.std.specs.Prelude.{OnOk, OnErr, IsOk}
use Rattle.std.specs.declared.alloc.AllocError.{AllocError}
use Rattle.flow_state.specs.Rows.{Rows}
use Rattle.flow_state.specs.Firm.{AreFirm}
use Rattle.grant_machine.specs.declared.command.Command.{Command}
use Rattle.grant_machine.specs.declared.output.Output.{Output}
use Rattle.grant_machine.specs.Steps.{step}
use Rattle.grant_machine.specs.Runs.{outputs_from, rows_from, IsReached}
use Rattle.grant_machine.specs.Laws.{PartsAreWhole}
use Rattle.grant_machine.specs.Fits.{FitsCommand}
use Rattle.grant_machine_parts.proofs.Callers.{all_push}

pub rows_push : (rows : Rows) (cs : List Command) (c : Command) → rows_from rows (cs ++ c ∷ []) ≡ (step (rows_from rows cs) c).rows
rows_push rows [] c = refl
rows_push rows (d ∷ cs) c = rows_push (step rows d).rows cs c

pub reached_step : (rows new : Rows) (c : Command) → IsReached rows → FitsCommand c → new ≡ (step rows c).rows → IsReached new
reached_step rows new c r fits is =
    (r.0, r.1, r.2 ++ c ∷ [], all_push FitsCommand r.2 c r.3 fits, rows_push r.0 r.2 c ∙ ap (λ (s : Rows). (step s c).rows) r.4 ∙ sym is)

-- rows that commands could leave are reached by none
pub reached_opening : (rows : Rows) → AreFirm rows → IsReached rows
reached_opening rows firm = (rows, firm, [], tt, refl)

-- ---- two lists of commands, one behind the other

pub outputs_append : (rows : Rows) (cs ds : List Command) → outputs_from rows (cs ++ ds) ≡ outputs_from rows cs ++ outputs_from (rows_from rows cs) ds
outputs_append rows [] ds = refl
outputs_append rows (c ∷ cs) ds = ap (λ (os : List Output). (step rows c).output ∷ os) (outputs_append (step rows c).rows cs ds)

pub rows_append : (rows : Rows) (cs ds : List Command) → rows_from rows (cs ++ ds) ≡ rows_from (rows_from rows cs) ds
rows_append rows [] ds = refl
rows_append rows (c ∷ cs) ds = rows_append (step rows c).rows cs ds

pub parts_are_whole : PartsAreWhole
parts_are_whole rows cs ds = record { outputs = outputs_append rows cs ds; rows = rows_append rows cs ds }

-- a call that is one step, or changes nothing
pub reached_call : (result : Result Output AllocError) (rows new : Rows) (c : Command) → IsReached rows → FitsCommand c → OnOk result (new ≡ (step rows c).rows) → OnErr result (new ≡ rows) → IsReached new
reached_call (Ok output) rows new c r fits ok err = reached_step rows new c r fits ok
reached_call (Err e) rows new c r fits ok err = subst IsReached (sym err) r

pub reached_ok : (result : Result Output AllocError) (rows new : Rows) (c : Command) → IsReached rows → FitsCommand c → OnOk result (new ≡ (step rows c).rows) → IsOk result → IsReached new
reached_ok (Ok output) rows new c r fits ok is = reached_step rows new c r fits ok
reached_ok (Err e) rows new c r fits ok is = absurd cc
