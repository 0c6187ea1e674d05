-- What holds of every table that commands reach.
use Rattle.std.proofs.Common.{◌≡◌, ℕ, true, cond, not, List, [], ◌∷◌, Option, Some, None, refl, subst, inl, inr}
use Rattle.std.proofs.Common.{is_some}
use Rattle.std.specs.List.{AllByRecursion}
use Rattle.std.proofs.lemmas.Bool.{not-false}
use Rattle.flow_state.specs.declared.channel.Channel.{Channel}
use Rattle.flow_state.specs.declared.settings.ChannelSettings.{ChannelSettings}
use Rattle.flow_state.specs.declared.flow.FlowKind.{FlowKind}
use Rattle.flow_state.specs.declared.refusal.Refusal.TheVariants.{BadValue, ChannelThere}
use Rattle.flow_state.specs.Limits.{is_good_channel}
use Rattle.flow_state.specs.declared.flow.Lease.{Lease}
use Rattle.flow_state.specs.Rows.{Rows, Table, is_table, table_of, lease_of}
use Rattle.flow_state.specs.Firm.{IsFirm, AreFirm}
use Rattle.flow_state.specs.Refusals.{table_change_refusal, table_flow_refusal, table_request_refusal}
use Rattle.flow_state.specs.Changes.{new_table, change_in_table, flow_among, drop_in_table, request_in_table}
use Rattle.grant_machine.specs.declared.command.Command.{Command}
use Rattle.grant_machine.specs.declared.command.Command.TheVariants as commands
use Rattle.grant_machine_parts.specs.declared.settings.CutSettings.{CutSettings}
use Rattle.grant_machine_parts.specs.Cutting.{fill, fill_refusal, table_after}
use Rattle.grant_machine.specs.Steps.{cut_settings, step, refusal_of}
use Rattle.grant_machine.specs.Runs.{rows_from, IsReached}
use Rattle.grant_machine.specs.Fits.{FitsChannel, FitsCommand}
use Rattle.flow_state.proofs.Callers.{IsWell, new_is_well, change_is_well, flow_is_well, drop_is_well, request_is_well}
use Rattle.flow_state.proofs.Callers.{passes_on, has_all, found_has}
use Rattle.grant_machine_parts.proofs.Callers.{cut_is_well}
use Rattle.grant_machine.proofs.Turns.{made, Changes, after, before}

-- each accepted command keeps what holds of a table; a flow whose modem and tag have a lease changes nothing
pub record Kept (P : Table → Type 0) : Type 0 where
  pub change : (t : Table) (s : ChannelSettings) → table_change_refusal t s ≡ None → P t → P (change_in_table t s)
  pub flow : (t : Table) (modem tag last : ℕ) (kind : FlowKind) → lease_of t modem tag ≡ None → table_flow_refusal t modem tag last kind ≡ None → P t → P (flow_among None t modem tag last kind)
  pub drop : (t : Table) (sid : ℕ) → P t → P (drop_in_table t sid)
  pub request : (t : Table) (sid n sent : ℕ) → table_request_refusal t sid n sent ≡ None → P t → P (request_in_table t sid n sent)
  pub cut : (t : Table) (asks : CutSettings) → fill_refusal t.row asks ≡ None → P t → P (table_after t (fill t asks))

-- it holds of the channel's table, if there is one; and there is one
abbrev pub At : (Table → Type 0) → Rows → ℕ → Type 0
At P rows ch = (t : Table) → table_of rows ch ≡ Some t → P t

pub record Stands (P : Table → Type 0) (rows : Rows) (ch : ℕ) : Type 0 where
  pub table : Table
  pub found : table_of rows ch ≡ Some table
  pub holds : P table

module _ (P : Table → Type 0) (kept : Kept P) where
  pub made_kept : (c : Command) (ch : ℕ) (t : Table) → Changes c ch t → P t → P (made c t)
  made_kept commands.Noop ch t e h = absurd e
  made_kept (commands.Channel n) ch t e h = absurd e
  made_kept (commands.Change at s) ch t e h = kept.change t s e.1 h
  made_kept (commands.Flow at modem tag last kind) ch t e h = by (lease_of t modem tag) refl
    where
      by : (o : Option Lease) → lease_of t modem tag ≡ o → P (flow_among o t modem tag last kind)
      by (Some a) f = h
      by None f = kept.flow t modem tag last kind f e.1 h
  made_kept (commands.Drop at sid) ch t e h = kept.drop t sid h
  made_kept (commands.Request at sid n sent) ch t e h = kept.request t sid n sent e.1 h
  made_kept (commands.Cut at len not_before ack keep ranging sending) ch t e h = kept.cut t (cut_settings len not_before ack keep ranging sending) e.1 h

  pub at_step : (rows : Rows) (c : Command) (ch : ℕ) → ((n : Channel) → c ≡ commands.Channel n → refusal_of rows c ≡ None → P (new_table n)) → At P rows ch → At P (step rows c).rows ch
  at_step rows c ch new holds u e = elim (before rows c ch u e) [
    | inl old ↦ holds u old
    | inr (inl set) ↦ subst P set.is (new set.channel set.asked set.ok)
    | inr (inr (t, found, makes)) ↦ subst P makes.is (made_kept c ch t makes.changes (holds t found))
  ]

  -- the same of a table that is there
  pub stands_step : (rows : Rows) (c : Command) (ch : ℕ) → Stands P rows ch → Stands P (step rows c).rows ch
  stands_step rows c ch s =
      let a = after rows c ch s.table s.found in
      record { table = a.table; found = a.found; holds = elim a.is [ inl stays ↦ subst P stays.0 s.holds | inr makes ↦ subst P makes.is (made_kept c ch s.table makes.changes s.holds) ] }

-- ---- wells

pub wells_kept : Kept IsWell
wells_kept = record {
  change = change_is_well;
  flow = λ t modem tag last kind none ok w. flow_is_well None t modem tag last kind none ok w;
  drop = drop_is_well;
  request = request_is_well;
  cut = cut_is_well;
}

-- each table is well
abbrev pub AllWell : Rows → Type 0
AllWell rows = (ch : ℕ) → At IsWell rows ch

pub none_well : AllWell []
none_well ch t e = absurd cc

-- a channel that isn't refused is good
good_channel : (rows : Rows) (c : Channel) → refusal_of rows (commands.Channel c) ≡ None → is_good_channel c ≡ true
good_channel rows c e = not-false _ (passes_on (not (is_good_channel c)) BadValue (cond (is_some (table_of rows c.id)) (Some ChannelThere) None) e).0

pub well_step : (rows : Rows) (c : Command) → AllWell rows → AllWell (step rows c).rows
well_step rows c w ch = at_step IsWell wells_kept rows c ch (λ n is ok. new_is_well n (good_channel rows n (subst (λ (d : Command). refusal_of rows d ≡ None) is ok))) (w ch)

-- what each step keeps holds after a list of commands
pub rows_keep : (P : Rows → Type 0) → ((rows : Rows) (c : Command) → P rows → P (step rows c).rows) → (rows : Rows) (cs : List Command) → P rows → P (rows_from rows cs)
rows_keep P keeps rows [] h = h
rows_keep P keeps rows (c ∷ cs) h = rows_keep P keeps (step rows c).rows cs (keeps rows c h)

-- a table that is there is one of the rows
pub at_has : (P : Table → Type 0) (rows : Rows) → AllByRecursion P rows → (ch : ℕ) → At P rows ch
at_has P rows all ch t e = has_all P rows t all (found_has (is_table ch) rows t e).0

firm_well : (rows : Rows) → AreFirm rows → AllWell rows
firm_well rows firm ch t e = (at_has IsFirm rows firm.0 ch t e).well

pub reached_is_well : (rows : Rows) → IsReached rows → AllWell rows
reached_is_well rows r = subst AllWell r.4 (rows_keep AllWell well_step r.0 r.2 (firm_well r.0 r.1))

-- ---- channels as the program can hold them

abbrev pub FitsTable : Table → Type 0
FitsTable t = FitsChannel t.row.channel

abbrev pub AllFit : Rows → Type 0
AllFit rows = (ch : ℕ) → At FitsTable rows ch

pub none_fit : AllFit []
none_fit ch t e = absurd cc

made_fits : (c : Command) (ch : ℕ) (t : Table) → FitsCommand c → Changes c ch t → FitsTable t → FitsTable (made c t)
made_fits commands.Noop ch t fits e h = absurd e
made_fits (commands.Channel n) ch t fits e h = absurd e
made_fits (commands.Change at s) ch t fits e h =
    let given = fits.1 in
    record {
      id = h.id;
      ucd = given.ucd;
      short_max = given.short_max;
      ranging_start = given.ranging_start;
      ranging_end = given.ranging_end;
      data_start = given.data_start;
      data_end = given.data_end;
      base = h.base;
    }
made_fits (commands.Flow at modem tag last kind) ch t fits e h = by (lease_of t modem tag)
  where
    by : (o : Option Lease) → FitsTable (flow_among o t modem tag last kind)
    by (Some a) = h
    by None = h
made_fits (commands.Drop at sid) ch t fits e h = h
made_fits (commands.Request at sid n sent) ch t fits e h = h
made_fits (commands.Cut at len not_before ack keep ranging sending) ch t fits e h = h

pub fit_step : (rows : Rows) (c : Command) → FitsCommand c → AllFit rows → AllFit (step rows c).rows
fit_step rows c fits w ch u e = elim (before rows c ch u e) [
  | inl old ↦ w ch u old
  | inr (inl set) ↦ subst FitsTable set.is (subst FitsCommand set.asked fits)
  | inr (inr (t, found, makes)) ↦ subst FitsTable makes.is (made_fits c ch t fits makes.changes (w ch t found))
]

pub fit_rows : (rows : Rows) (cs : List Command) → AllByRecursion FitsCommand cs → AllFit rows → AllFit (rows_from rows cs)
fit_rows rows [] fits w = w
fit_rows rows (c ∷ cs) fits w = fit_rows (step rows c).rows cs fits.1 (fit_step rows c fits.0 w)

firm_fits : (rows : Rows) → AreFirm rows → AllFit rows
firm_fits rows firm ch t e = (at_has IsFirm rows firm.0 ch t e).fits

pub reached_fits : (rows : Rows) → IsReached rows → AllFit rows
reached_fits rows r = subst AllFit r.4 (fit_rows r.0 r.2 r.3 (firm_fits r.0 r.1))
