-- Steps that give a MAP: cuts that aren't refused.
use Rattle.std.proofs.Common.{◌≡◌, ◌⊎◌, ℕ, List, [], Option, Some, None, refl, sym, ap, subst, ◌∙◌, inl, inr}
use Rattle.flow_state.specs.declared.refusal.Refusal.{Refusal}
use Rattle.flow_state.specs.Rows.{Rows, Table, table_of}
use Rattle.grant_machine.specs.declared.command.Command.{Command}
use Rattle.grant_machine.specs.declared.command.Command.TheVariants as commands
use Rattle.grant_machine.specs.declared.output.Output.{Output}
use Rattle.grant_machine.specs.declared.output.Output.TheVariants as outputs
use Rattle.grant_machine_parts.specs.declared.placing.Placement.{Placement}
use Rattle.grant_machine_parts.specs.declared.settings.CutSettings.{CutSettings}
use Rattle.grant_machine_parts.specs.Cutting.{Filled, fill, fill_refusal, table_after, span_of}
use Rattle.grant_machine_parts.specs.Drawing.{bytes_of}
use Rattle.grant_machine.specs.Steps.{cut_settings, cut_command, step, step_on, refusal_of, accepted, cut_on}
use Rattle.grant_machine.specs.Steps.{map_output}
use Rattle.grant_machine.specs.Runs.{Grant, grant_of, grants_in, grants_on, step_grants, step_grants_on}
use Rattle.grant_machine.specs.Runs.{accepted_grants}
use Rattle.flow_state.proofs.Callers.{Has, has_map, refusal_there}
use Rattle.grant_machine.proofs.Turns.{found_changed}

-- the command cuts this channel's table: what it gives, leaves and grants
pub record IsCutStep (rows : Rows) (c : Command) (ch : ℕ) : Type 0 where
  pub settings : CutSettings
  pub command : c ≡ cut_command ch settings
  pub table : Table
  pub found : table_of rows ch ≡ Some table
  pub ok : fill_refusal table.row settings ≡ None
  pub output_is : (step rows c).output ≡ map_output ch table (fill table settings)
  pub after : table_of (step rows c).rows ch ≡ Some (table_after table (fill table settings))
  pub grants_are : step_grants rows c ≡ grants_in ch (fill table settings)

pub cut_step_is : (rows : Rows) (ch : ℕ) (asks : CutSettings) (t : Table) → refusal_of rows (cut_command ch asks) ≡ None → table_of rows ch ≡ Some t → IsCutStep rows (cut_command ch asks) ch
cut_step_is rows ch asks t ok found =
    let c : Command = cut_command ch asks in
    let f : Filled = fill t asks in
    record {
      settings = asks;
      command = refl;
      table = t;
      found = found;
      ok = refusal_there rows ch t (λ u. fill_refusal u.row asks) found ok;
      output_is = ap (λ (o : Option Refusal). (step_on o rows c).output) ok ∙ ap (λ (o : Option Table). (cut_on o rows ch asks).output) found;
      after =
          ap (λ (o : Option Refusal). table_of (step_on o rows c).rows ch) ok ∙ ap (λ (o : Option Table). table_of (cut_on o rows ch asks).rows ch) found
          ∙ found_changed rows ch (λ u. table_after u f) t (λ u. refl) found;
      grants_are = ap (λ (o : Option Refusal). step_grants_on o rows c) ok ∙ ap (λ (o : Option Table). grants_on o ch asks) found;
    }

-- a MAP is told
abbrev IsMap : Output → Type 0
IsMap out = (ch : ℕ) × (start : ℕ) × (len : ℕ) × (bytes : List ℕ) × (out ≡ outputs.Map ch start len bytes)

-- a step cuts, or grants nothing and tells no MAP
cut_or_quiet : (rows : Rows) (c : Command) → ((ch : ℕ) × IsCutStep rows c ch) ⊎ ((step_grants rows c ≡ []) × (IsMap (step rows c).output → ⊥))
cut_or_quiet rows c = by (refusal_of rows c) refl
  where
    on : (d : Command) → refusal_of rows d ≡ None → ((ch : ℕ) × IsCutStep rows d ch) ⊎ ((accepted_grants rows d ≡ []) × (IsMap (accepted rows d).output → ⊥))
    on commands.Noop ok = inr (refl, λ m. let e = m.4 in cc)
    on (commands.Channel n) ok = inr (refl, λ m. let e = m.4 in cc)
    on (commands.Change ch s) ok = inr (refl, λ m. let e = m.4 in cc)
    on (commands.Flow ch modem tag last kind) ok = inr (refl, λ m. let e = m.4 in cc)
    on (commands.Drop ch sid) ok = inr (refl, λ m. let e = m.4 in cc)
    on (commands.Request ch sid n sent) ok = inr (refl, λ m. let e = m.4 in cc)
    on (commands.Cut ch len not_before ack keep ranging sending) ok = there (table_of rows ch) refl
      where
        asks : CutSettings
        asks = cut_settings len not_before ack keep ranging sending

        there : (o : Option Table) → table_of rows ch ≡ o
            → ((at : ℕ) × IsCutStep rows (cut_command ch asks) at) ⊎ ((grants_on o ch asks ≡ []) × (IsMap (cut_on o rows ch asks).output → ⊥))
        there None e = inr (refl, λ m. let e = m.4 in cc)
        there (Some t) e = inl (ch, cut_step_is rows ch asks t ok e)

    by : (o : Option Refusal) → refusal_of rows c ≡ o → ((ch : ℕ) × IsCutStep rows c ch) ⊎ ((step_grants_on o rows c ≡ []) × (IsMap (step_on o rows c).output → ⊥))
    by (Some r) e = inr (refl, λ m. let e = m.4 in cc)
    by None e = on c e

-- a step that grants: the placement that it grants
pub record IsGrantStep (rows : Rows) (c : Command) (g : Grant) : Type 0 where
  pub cut : IsCutStep rows c g.channel
  pub placement : Placement
  pub there : Has (fill cut.table cut.settings).placements placement
  pub is : grant_of g.channel (span_of cut.table.row cut.settings.len cut.settings.not_before).start placement ≡ g

pub cut_of_grant : (rows : Rows) (c : Command) (g : Grant) → Has (step_grants rows c) g → IsGrantStep rows c g
cut_of_grant rows c g h = elim (cut_or_quiet rows c) [
  | inl (ch, cut) ↦
      let f : Filled = fill cut.table cut.settings in
      let m = has_map (grant_of ch f.span.start) f.placements g (subst (λ (gs : List Grant). Has gs g) cut.grants_are h) in
      subst (IsGrantStep rows c) m.2 (record { cut = cut; placement = m.0; there = m.1; is = refl })
  | inr none ↦ absurd (subst (λ (gs : List Grant). Has gs g) none.0 h)
]

-- a step that tells a MAP
pub record IsMapStep (rows : Rows) (c : Command) (ch start len : ℕ) (bytes : List ℕ) : Type 0 where
  pub cut : IsCutStep rows c ch
  pub start_is : (span_of cut.table.row cut.settings.len cut.settings.not_before).start ≡ start
  pub len_is : cut.settings.len ≡ len
  pub bytes_is : bytes_of cut.table (fill cut.table cut.settings) ≡ bytes

-- the parts of a MAP that is given
pub map_parts : (ch s l at start len : ℕ) (b bytes : List ℕ) → outputs.Map at s l b ≡ outputs.Map ch start len bytes → (at ≡ ch) × (s ≡ start) × (l ≡ len) × (b ≡ bytes)
map_parts ch s l at start len b bytes e = (cc, cc, cc, cc)

pub cut_of_map : (rows : Rows) (c : Command) (ch start len : ℕ) (bytes : List ℕ) → (step rows c).output ≡ outputs.Map ch start len bytes → IsMapStep rows c ch start len bytes
cut_of_map rows c ch start len bytes out = elim (cut_or_quiet rows c) [
  | inl (at, cut) ↦
      let f : Filled = fill cut.table cut.settings in
      let parts = map_parts ch f.span.start f.span.len at start len (bytes_of cut.table f) bytes (sym cut.output_is ∙ out) in
      subst (λ (n : ℕ). IsMapStep rows c n start len bytes) parts.0 (record { cut = cut; start_is = parts.1; len_is = parts.2; bytes_is = parts.3 })
  | inr none ↦ absurd (none.1 (ch, start, len, bytes, out))
]
