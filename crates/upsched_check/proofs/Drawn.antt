-- What a list of commands did, one command after another, and what is told of it.
use Rattle.std.proofs.Common.{◌≡◌, ℕ, ◌+◌, ◌<◌, List, [], ◌∷◌, ◌++◌, length, take, get_or, Option, Some, None, IfSome}
use Rattle.std.proofs.Common.{Result, Ok, Err, OnOk, ◌∙◌, sym, subst}
use Rattle.std.proofs.lemmas.List.{take_more}
use Rattle.std.specs.Io.KnownBytes.{Appends}
use Rattle.flow_state.specs.Rows.{Rows}
use Rattle.grant_machine.specs.declared.command.Command.{Command}
use Rattle.grant_machine.specs.declared.output.Output.{Output}
use Rattle.grant_machine.specs.Steps.{step}
use Rattle.grant_machine.specs.Runs.{outputs_of, rows_after}
use Rattle.plan_account.specs.declared.deed.Deed.{Deed}
use Rattle.plan_account.specs.Deeds.{IsDeedOf, AreDeeds}
use Rattle.plan_account.specs.Accounts.{Rows as Account, IsAccount}
use Rattle.map_text.specs.Texts.{plan_text}
use Rattle.script_text.specs.Plan.{IsPlan}
use Rattle.map_picture.specs.declared.sent.Sent.{Sent}
use Rattle.map_picture.specs.Pictures.{IsPictureOf}
use Rattle.upsched_check.specs.Draws.{DrawsCommands, DrawsMaps, TellsCommands, TellsMaps}
use Rattle.upsched_check.proofs.Captured.{outputs_next, rows_next}

-- one deed more
deeds_more : (cs : List Command) (os : List Output) (ds : List Deed) (c : Command) (o : Output) (d : Deed) → AreDeeds cs os ds → IsDeedOf c o d
    → AreDeeds (cs ++ c ∷ []) (os ++ o ∷ []) (ds ++ d ∷ [])
deeds_more [] [] [] c o d are is = (is, tt)
deeds_more (b ∷ cs) (p ∷ os) (e ∷ ds) c o d are is = (are.0, deeds_more cs os ds c o d are.1 is)
deeds_more [] [] (e ∷ ds) c o d are is = absurd are
deeds_more [] (p ∷ os) ds c o d are is = absurd are
deeds_more (b ∷ cs) [] ds c o d are is = absurd are
deeds_more (b ∷ cs) (p ∷ os) [] c o d are is = absurd are

-- the rows after the first commands, and what these did
pub record Did (cs : List Command) (i : ℕ) (rows : Rows) (ds : List Deed) : Type 0 where
  pub rows_are : rows ≡ rows_after (take i cs)
  pub deeds : AreDeeds (take i cs) (outputs_of (take i cs)) ds

pub one_done : (cs : List Command) (i : ℕ) (b : Command) (m m' : Rows) (ds : List Deed) (d : Deed) → i < length cs
    → Did cs i m ds → m' ≡ (step m (get_or cs i b)).rows → IsDeedOf (get_or cs i b) (step m (get_or cs i b)).output d → Did cs (i + 1) m' (ds ++ d ∷ [])
one_done cs i b m m' ds d below before rows is =
    let c = get_or cs i b in
    let outs = outputs_next cs i b m below before.rows_are in
    let more = deeds_more (take i cs) (outputs_of (take i cs)) ds c (step m c).output d before.deeds is in
    let whole = take_more cs i b below in
    record {
      rows_are = rows ∙ sym (rows_next cs i b m below before.rows_are);
      deeds = subst (λ (os : List Output). AreDeeds (take (i + 1) cs) os (ds ++ d ∷ [])) (sym outs)
          (subst (λ (xs : List Command). AreDeeds xs (outputs_of (take i cs) ++ (step m c).output ∷ []) (ds ++ d ∷ [])) (sym whole) more);
    }

-- where the text of what commands did was printed
pub commands_told : {T E : Type 0} (r : Result T E) (old new : Option (List ℕ)) (cs : List Command) (a : Account) → IsAccount cs (outputs_of cs) a
    → OnOk r (Appends old new (plan_text a)) → OnOk r (TellsCommands cs old new)
commands_told (Err e) old new cs a is printed = tt
commands_told (Ok x) old new cs a is printed = (a, is, printed)

-- and where a picture of it was
pub commands_drawn : {T E : Type 0} (r : Result T E) (old new : Option (List ℕ)) (cs : List Command) (ts : List Sent) (a : Account) → IsAccount cs (outputs_of cs) a
    → OnOk r ((svg : List ℕ) × IsPictureOf a ts svg × Appends old new (svg ++ 10 ∷ [])) → OnOk r (DrawsCommands cs ts old new)
commands_drawn (Err e) old new cs ts a is printed = tt
commands_drawn (Ok x) old new cs ts a is printed = (a, printed.0, is, printed.1, printed.2)

-- and where the commands are a plan's
pub maps_told : (known old new : Option (List ℕ)) (cs : List Command) → IfSome known (λ text. IsPlan text cs) → TellsCommands cs old new → TellsMaps known old new
maps_told None old new cs plan told = tt
maps_told (Some text) old new cs plan told = (cs, plan, told)

pub maps_drawn : (known old new : Option (List ℕ)) (cs : List Command) → IfSome known (λ text. IsPlan text cs) → DrawsCommands cs [] old new → DrawsMaps known old new
maps_drawn None old new cs plan drawn = tt
maps_drawn (Some text) old new cs plan drawn = (cs, plan, drawn)
