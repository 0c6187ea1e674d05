-- Each MAP of a scheduler fits a frame, and there is a deed of each output.
use Rattle.std.proofs.Common.{◌≡◌, ℕ, suc, ◌≤◌, List, [], ◌∷◌, ◌++◌, length, refl, subst, arith}
use Rattle.std.specs.List.{AllByRecursion, Contains}
use Rattle.map_body.proofs.Readings.{spelling_len}
use Rattle.flow_state.specs.Rows.{Rows}
use Rattle.grant_machine.specs.declared.command.Command.{Command}
use Rattle.grant_machine.specs.declared.output.Output.{Output}
use Rattle.grant_machine.specs.declared.output.Output.TheVariants.{Nothing, ChannelSet, Assigned, Map as MapOutput}
use Rattle.grant_machine.specs.declared.output.Output.TheVariants.{Refused}
use Rattle.grant_machine.specs.Fits.{FitsCommand}
use Rattle.grant_machine.specs.Laws.{MapsAreBodiesFrom}
use Rattle.grant_machine.specs.Runs.{outputs_from, rows_from, IsReached}
use Rattle.grant_machine.specs.Steps.{step}
use Rattle.plan_account.specs.Deeds.{IsDeedOf, OutputsHaveDeeds}
use Rattle.plan_account.specs.declared.deed.Deed.{Deed}
use Rattle.upsched_check.specs.Plans.{FitsFrame}

fits_push : (cs : List Command) (c : Command) → AllByRecursion FitsCommand cs → FitsCommand c → AllByRecursion FitsCommand (cs ++ c ∷ [])
fits_push [] c all fits = (fits, tt)
fits_push (d ∷ cs) c all fits = (all.0, fits_push cs c all.1 fits)

one_later : (o : Output) (os : List Output) (p : Output) → Contains os p → Contains (o ∷ os) p
one_later o os p has = (suc has.0, omega (arith, has.1), has.2)

-- the output of a last command is among all of them
last_output : (rows : Rows) (cs : List Command) (c : Command) → Contains (outputs_from rows (cs ++ c ∷ [])) (step (rows_from rows cs) c).output
last_output rows [] c = (0, omega arith, refl)
last_output rows (d ∷ cs) c = one_later (step rows d).output (outputs_from (step rows d).rows (cs ++ c ∷ [])) _ (last_output (step rows d).rows cs c)

fits_as_map : (o : Output) → ((ch start len : ℕ) (bytes : List ℕ) → o ≡ MapOutput ch start len bytes → length bytes ≤ 1036) → FitsFrame o
fits_as_map Nothing f = tt
fits_as_map (ChannelSet ch ucd) f = tt
fits_as_map (Assigned modem ch sid first last) f = tt
fits_as_map (MapOutput ch start len bytes) f = f ch start len bytes refl
fits_as_map (Refused n) f = tt

-- so is that of a step from where a scheduler can be
step_is_last : (rows : Rows) (c : Command) (reached : IsReached rows) → Contains (outputs_from reached.0 (reached.2 ++ c ∷ [])) (step rows c).output
step_is_last rows c reached = subst (λ (r : Rows). Contains (outputs_from reached.0 (reached.2 ++ c ∷ [])) (step r c).output) reached.4 (last_output reached.0 reached.2 c)

pub step_fits : MapsAreBodiesFrom → (rows : Rows) (c : Command) → IsReached rows → FitsCommand c → FitsFrame (step rows c).output
step_fits law rows c reached fits =
    fits_as_map (step rows c).output (λ ch start len bytes same.
    let cs = reached.2 in
    let body = law reached.0 (cs ++ c ∷ []) ch start len bytes reached.1 (fits_push cs c reached.3 fits) (subst (λ (o : Output). Contains (outputs_from reached.0 (cs ++ c ∷ [])) o) same (step_is_last rows c reached)) in
    omega (arith, (spelling_len bytes body.map.head body.map.elements 0 body.body.0).0, body.body.0.count))

-- and has a deed
pub step_deed : OutputsHaveDeeds → (rows : Rows) (c : Command) → IsReached rows → FitsCommand c → (deed : Deed) × IsDeedOf c (step rows c).output deed
step_deed law rows c reached fits = law reached.0 (reached.2 ++ c ∷ []) c (step rows c).output reached.1 (fits_push reached.2 c reached.3 fits) (step_is_last rows c reached)
