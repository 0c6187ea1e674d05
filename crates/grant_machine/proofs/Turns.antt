-- Where the tables after a step come from: the tables before it, or the command.
use Rattle.std.proofs.Common.{◌≡◌, ◌≢◌, ◌⊎◌, ℕ, true, false, cond, List, [], ◌∷◌, ◌++◌, Option, Some, None, refl, sym}
use Rattle.std.proofs.Common.{ap, subst, ◌∙◌, inl, inr}
use Rattle.flow_state.specs.declared.channel.Channel.{Channel}
use Rattle.flow_state.specs.declared.refusal.Refusal.{Refusal}
use Rattle.flow_state.specs.Rows.{Rows, Table, is_table, table_of, change_table, lease_of}
use Rattle.flow_state.specs.Refusals.{table_change_refusal, table_flow_refusal, table_request_refusal}
use Rattle.flow_state.specs.Changes.{new_table, change_in_table, flow_in_table, drop_in_table, request_in_table}
use Rattle.grant_machine.specs.declared.command.Command.{Command}
use Rattle.grant_machine.specs.declared.command.Command.TheVariants as commands
use Rattle.grant_machine_parts.specs.declared.settings.CutSettings.{CutSettings}
use Rattle.grant_machine_parts.specs.Cutting.{fill, fill_refusal, table_after}
use Rattle.grant_machine.specs.Steps.{cut_settings, cut_command, step, step_on, refusal_of, accepted, cut_on}
use Rattle.grant_machine.specs.Runs.{Grant, grant_of, grants_on, accepted_grants, step_grants, step_grants_on}
use Rattle.flow_state.proofs.Callers.{Has, has_map, find_changed, find_added, is_found, some_is, changed, KeepsId}
use Rattle.flow_state.proofs.Callers.{at_same, refusal_there, flow_keeps_id, find_pushed, found_before}

-- what a command makes of its channel's table
abbrev pub made : Command → Table → Table
made commands.Noop t = t
made (commands.Channel n) t = t
made (commands.Change ch s) t = change_in_table t s
made (commands.Flow ch modem tag last kind) t = flow_in_table t modem tag last kind
made (commands.Drop ch sid) t = drop_in_table t sid
made (commands.Request ch sid n sent) t = request_in_table t sid n sent
made (commands.Cut ch len not_before ack keep ranging sending) t = table_after t (fill t (cut_settings len not_before ack keep ranging sending))

-- the command changes this channel's table, and isn't refused there
abbrev pub Changes : Command → ℕ → Table → Type 0
Changes commands.Noop ch t = ⊥
Changes (commands.Channel n) ch t = ⊥
Changes (commands.Change at s) ch t = (at ≡ ch) × (table_change_refusal t s ≡ None)
Changes (commands.Flow at modem tag last kind) ch t = (at ≡ ch) × (table_flow_refusal t modem tag last kind ≡ None)
Changes (commands.Drop at sid) ch t = at ≡ ch
Changes (commands.Request at sid n sent) ch t = (at ≡ ch) × (table_request_refusal t sid n sent ≡ None)
Changes (commands.Cut at len not_before ack keep ranging sending) ch t = (at ≡ ch) × (fill_refusal t.row (cut_settings len not_before ack keep ranging sending) ≡ None)

-- the command makes table u of the channel's table t
pub record Makes (rows : Rows) (c : Command) (ch : ℕ) (t u : Table) : Type 0 where
  pub ok : refusal_of rows c ≡ None
  pub changes : Changes c ch t
  pub is : made c t ≡ u

-- ---- the rows after a step

-- the same rows
pub record IsSame (rows after : Rows) (grants : List Grant) : Type 0 where
  pub is : rows ≡ after
  pub none : grants ≡ []

-- one channel more
pub record IsPushed (rows : Rows) (c : Command) (after : Rows) (grants : List Grant) : Type 0 where
  pub channel : Channel
  pub asked : c ≡ commands.Channel channel
  pub ok : refusal_of rows c ≡ None
  pub is : rows ++ new_table channel ∷ [] ≡ after
  pub none : grants ≡ []

-- one channel's table changed
pub record IsChanged (rows : Rows) (c : Command) (after : Rows) (grants : List Grant) : Type 0 where
  pub at : ℕ
  pub change : Table → Table
  pub ids : KeepsId change
  pub is : change_table rows at change ≡ after
  pub makes : (t : Table) → table_of rows at ≡ Some t → Makes rows c at t (change t)
  pub its : (g : Grant) → Has grants g → at ≡ g.channel

abbrev pub Shape : Rows → Command → Rows → List Grant → Type 0
Shape rows c after grants = IsSame rows after grants ⊎ (IsPushed rows c after grants ⊎ IsChanged rows c after grants)

accepted_shape : (rows : Rows) (c : Command) → refusal_of rows c ≡ None → Shape rows c (accepted rows c).rows (accepted_grants rows c)
accepted_shape rows commands.Noop ok = inl (record { is = refl; none = refl })
accepted_shape rows (commands.Channel n) ok = inr (inl (record { channel = n; asked = refl; ok = ok; is = refl; none = refl }))
accepted_shape rows (commands.Change at s) ok = inr (inr (record {
  at = at;
  change = λ t. change_in_table t s;
  ids = λ t. refl;
  is = refl;
  makes = λ t found. record { ok = ok; changes = (refl, refusal_there rows at t (λ u. table_change_refusal u s) found ok); is = refl };
  its = λ g h. absurd h;
}))
accepted_shape rows (commands.Flow at modem tag last kind) ok = inr (inr (record {
  at = at;
  change = λ t. flow_in_table t modem tag last kind;
  ids = λ t. flow_keeps_id (lease_of t modem tag) t modem tag last kind;
  is = refl;
  makes = λ t found. record { ok = ok; changes = (refl, refusal_there rows at t (λ u. table_flow_refusal u modem tag last kind) found ok); is = refl };
  its = λ g h. absurd h;
}))
accepted_shape rows (commands.Drop at sid) ok =
    inr (inr (record { at = at; change = λ t. drop_in_table t sid; ids = λ t. refl; is = refl; makes = λ t found. record { ok = ok; changes = refl; is = refl }; its = λ g h. absurd h }))
accepted_shape rows (commands.Request at sid n sent) ok = inr (inr (record {
  at = at;
  change = λ t. request_in_table t sid n sent;
  ids = λ t. refl;
  is = refl;
  makes = λ t found. record { ok = ok; changes = (refl, refusal_there rows at t (λ u. table_request_refusal u sid n sent) found ok); is = refl };
  its = λ g h. absurd h;
}))
accepted_shape rows (commands.Cut at len not_before ack keep ranging sending) ok = by (table_of rows at) refl
  where
    asks : CutSettings
    asks = cut_settings len not_before ack keep ranging sending

    by : (o : Option Table) → table_of rows at ≡ o → Shape rows (cut_command at asks) (cut_on o rows at asks).rows (grants_on o at asks)
    by None e = inl (record { is = refl; none = refl })
    by (Some t) e = inr (inr (record {
      at = at;
      change = λ u. table_after u (fill t asks);
      ids = λ u. refl;
      is = refl;
      makes = λ u found. record {
        ok = ok;
        changes = (refl, refusal_there rows at u (λ v. fill_refusal v.row asks) found ok);
        is = ap (λ (v : Table). table_after u (fill v asks)) (some_is u t (sym found ∙ e));
      };
      its = λ g h. ap (λ (x : Grant). x.channel) (has_map (grant_of at (fill t asks).span.start) (fill t asks).placements g h).2;
    }))

pub shape : (rows : Rows) (c : Command) → Shape rows c (step rows c).rows (step_grants rows c)
shape rows c = by (refusal_of rows c) refl
  where
    by : (o : Option Refusal) → refusal_of rows c ≡ o → Shape rows c (step_on o rows c).rows (step_grants_on o rows c)
    by (Some r) e = inl (record { is = refl; none = refl })
    by None e = accepted_shape rows c e

-- ---- a table before and after a step

-- the table of a channel after a change there
pub found_changed : (rows : Rows) (ch : ℕ) (change : Table → Table) (t : Table) → KeepsId change → table_of rows ch ≡ Some t → table_of (change_table rows ch change) ch ≡ Some (change t)
found_changed rows ch change t ids found = find_changed rows ch ch change t ids found ∙ ap (λ b. Some (cond b (change t) t)) (is_found rows ch t found)

-- a table that is found stays, and nothing is granted on its channel, or the command makes the next one of it
pub record IsAfter (rows : Rows) (c : Command) (ch : ℕ) (t : Table) : Type 0 where
  pub table : Table
  pub found : table_of (step rows c).rows ch ≡ Some table
  pub is : ((t ≡ table) × ((g : Grant) → Has (step_grants rows c) g → g.channel ≢ ch)) ⊎ Makes rows c ch t table

pub after : (rows : Rows) (c : Command) (ch : ℕ) (t : Table) → table_of rows ch ≡ Some t → IsAfter rows c ch t
after rows c ch t found = elim (shape rows c) [
  | inl same ↦ stays same.none (subst (λ (r : Rows). table_of r ch ≡ Some t) same.is found)
  | inr (inl new) ↦ stays new.none (subst (λ (r : Rows). table_of r ch ≡ Some t) new.is (find_added rows ch (new_table new.channel) t found))
  | inr (inr k) ↦ record {
    table = changed k.at k.change t;
    found = subst (λ (r : Rows). table_of r ch ≡ Some (changed k.at k.change t)) k.is (find_changed rows ch k.at k.change t k.ids found);
    is =
        elim (is_table k.at t) as (λ b. is_table k.at t ≡ b → ((t ≡ cond b (k.change t) t) × ((g : Grant) → Has (step_grants rows c) g → g.channel ≢ ch)) ⊎ Makes rows c ch t (cond b (k.change t) t)) [
          | true ↦ λ h.
              let same = at_same rows ch k.at t found h in
              inr (subst (λ n. Makes rows c n t (k.change t)) (sym same) (k.makes t (subst (λ n. table_of rows n ≡ Some t) same found)))
          | false ↦ λ h. inl (refl, λ g i e. let on : is_table k.at t ≡ true = subst (λ n. is_table n t ≡ true) (sym (k.its g i ∙ e)) (is_found rows ch t found) in cc)
        ] refl;
  }
]
  where
    stays : step_grants rows c ≡ [] → table_of (step rows c).rows ch ≡ Some t → IsAfter rows c ch t
    stays none here = record { table = t; found = here; is = inl (refl, λ g h. absurd (subst (λ (gs : List Grant). Has gs g) none h)) }

-- the command sets the channel of the table
pub record IsSet (rows : Rows) (c : Command) (u : Table) : Type 0 where
  pub channel : Channel
  pub asked : c ≡ commands.Channel channel
  pub ok : refusal_of rows c ≡ None
  pub is : new_table channel ≡ u

-- a table after a step was there before, or the command sets or makes it
pub before : (rows : Rows) (c : Command) (ch : ℕ) (u : Table) → table_of (step rows c).rows ch ≡ Some u → (table_of rows ch ≡ Some u) ⊎ (IsSet rows c u ⊎ ((t : Table) × (table_of rows ch ≡ Some t) × Makes rows c ch t u))
before rows c ch u e = elim (shape rows c) [
  | inl same ↦ inl (subst (λ (r : Rows). table_of r ch ≡ Some u) (sym same.is) e)
  | inr (inl new) ↦ elim (find_pushed (is_table ch) rows u (new_table new.channel) (subst (λ (r : Rows). table_of r ch ≡ Some u) (sym new.is) e)) [
    | inl old ↦ inl old
    | inr is ↦ inr (inl (record { channel = new.channel; asked = new.asked; ok = new.ok; is = is }))
  ]
  | inr (inr k) ↦
      let b = found_before rows ch k.at k.change u k.ids (subst (λ (r : Rows). table_of r ch ≡ Some u) (sym k.is) e) in
      let a = after rows c ch b.0 b.1 in
      let same : a.table ≡ u = some_is a.table u (sym a.found ∙ e) in
      elim a.is [
        | inl stays ↦ inl (b.1 ∙ ap (λ (v : Table). Some v) (stays.0 ∙ same))
        | inr makes ↦ inr (inr (b.0, b.1, subst (Makes rows c ch b.0) same makes))
      ]
]
