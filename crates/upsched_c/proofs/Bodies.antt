-- Each MAP of a scheduler fits the room for a body.
use Rattle.std.proofs.Common.{◌≡◌, ℕ, suc, ◌+◌, ◌*◌, ◌≤◌, List, [], ◌∷◌, ◌++◌, length, refl, sym, subst, arith, Result}
use Rattle.std.proofs.Common.{Ok, Err}
use Rattle.std.specs.Prelude.{IfOk}
use Rattle.std.specs.declared.alloc.AllocError.{AllocError}
use Rattle.std.specs.List.{AllByRecursion, Contains}
use Rattle.map_body.specs.Body.{Body}
use Rattle.map_body.specs.Layout.{IsBody}
use Rattle.map_body.proofs.Readings.{spelling_len}
use Rattle.flow_state.specs.Rows.{Rows}
use Rattle.grant_machine.specs.declared.command.Command.{Command}
use Rattle.grant_machine.specs.declared.output.Output.{Output}
use Rattle.grant_machine.specs.declared.output.Output.TheVariants.{Nothing, ChannelSet, Assigned, Map as MapOutput}
use Rattle.grant_machine.specs.declared.output.Output.TheVariants.{Refused}
use Rattle.grant_machine.specs.Fits.{FitsCommand}
use Rattle.grant_machine.specs.Laws.{MapsAreBodiesFrom}
use Rattle.grant_machine.specs.Runs.{outputs_from, rows_from, IsReached}
use Rattle.grant_machine.specs.Steps.{step}
use Rattle.upsched_c_parts.specs.Outputs.{FitsRoom}

-- how many elements a body has, by its length
pub body_count : (bytes : List ℕ) (map : Body) → IsBody bytes map → length bytes ≡ 16 + 4 * length map.elements
body_count bytes map is = (spelling_len bytes map.head map.elements is.0 is.1).0

fits_push : (cs : List Command) (c : Command) → AllByRecursion FitsCommand cs → FitsCommand c → AllByRecursion FitsCommand (cs ++ c ∷ [])
fits_push [] c all fits = (fits, tt)
fits_push (d ∷ cs) c all fits = (all.0, fits_push cs c all.1 fits)

one_later : (o : Output) (os : List Output) (p : Output) → Contains os p → Contains (o ∷ os) p
one_later o os p has = (suc has.0, omega (arith, has.1), has.2)

-- the output of a last command is among all of them
last_output : (rows : Rows) (cs : List Command) (c : Command) → Contains (outputs_from rows (cs ++ c ∷ [])) (step (rows_from rows cs) c).output
last_output rows [] c = (0, omega arith, refl)
last_output rows (d ∷ cs) c = one_later (step rows d).output (outputs_from (step rows d).rows (cs ++ c ∷ [])) _ (last_output (step rows d).rows cs c)

fits_as_map : (o : Output) → ((ch start len : ℕ) (bytes : List ℕ) → o ≡ MapOutput ch start len bytes → length bytes ≤ 1036) → FitsRoom o
fits_as_map Nothing f = tt
fits_as_map (ChannelSet ch ucd) f = tt
fits_as_map (Assigned modem ch sid first last) f = tt
fits_as_map (MapOutput ch start len bytes) f = f ch start len bytes refl
fits_as_map (Refused n) f = tt

pub step_fits : MapsAreBodiesFrom → (rows : Rows) (c : Command) → IsReached rows → FitsCommand c → FitsRoom (step rows c).output
step_fits law rows c reached fits =
    fits_as_map (step rows c).output (λ ch start len bytes same.
    let opening = reached.0 in
    let cs = reached.2 in
    let last : Contains (outputs_from opening (cs ++ c ∷ [])) (step rows c).output = subst (λ (r : Rows). Contains (outputs_from opening (cs ++ c ∷ [])) (step r c).output) reached.4 (last_output opening cs c) in
    let body = law opening (cs ++ c ∷ []) ch start len bytes reached.1 (fits_push cs c reached.3 fits) (subst (λ (o : Output). Contains (outputs_from opening (cs ++ c ∷ [])) o) same last) in
    omega (arith, body_count bytes body.map (0, body.body.0, body.body.1), body.body.0.count))

-- where a command has an output, it fits
pub fits_if_ok : (result : Result Output AllocError) → MapsAreBodiesFrom → (rows : Rows) (c : Command) → IsReached rows → FitsCommand c
    → IfOk result (λ output. output ≡ (step rows c).output) → IfOk result (λ output. FitsRoom output)
fits_if_ok (Ok output) law rows c reached fits is = subst FitsRoom (sym is) (step_fits law rows c reached fits)
fits_if_ok (Err e) law rows c reached fits is = tt

-- no command reaches no rows
pub reached_none : IsReached []
reached_none = ([], (tt, tt), [], tt, refl)
