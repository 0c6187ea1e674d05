use Rattle.std.proofs.Common.{◌≡◌, sym, subst, ◌∙◌, ℕ, List}
use Rattle.flow_state.specs.Rows.{Rows}
use Rattle.row_bytes.specs.Tables.{Spells}
use Rattle.host_states.specs.States.{IsState, IsStateFault, IsWant}
use Rattle.host_states.proofs.Framing.{begins_so, frame_is_one, wants}
use Rattle.host_states.proofs.laws.one_spelling_of_states.Goals as goal

pub returns-clause-one : goal.returns-clause-one
returns-clause-one c = λ bytes h g rows others (x, one, spells) (y, other, spelled).
    let same = frame_is_one bytes h g x y one other in
    (same.0, c.one_spelling_of_rows.ensures.one y rows others (subst (λ (t : List ℕ). Spells t rows) same.1 spells) spelled)

pub returns-clause-frame : goal.returns-clause-frame
returns-clause-frame c = frame_is_one

pub returns-clause-none : goal.returns-clause-none
returns-clause-none c = λ bytes fault h rows why state. wants bytes fault h rows (λ spelling fault. c.one_spelling_of_rows.ensures.none spelling fault) why state
