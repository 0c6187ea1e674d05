-- Tables found by their channel, before and after a change.
use Rattle.std.proofs.Common.{◌≡◌, ℕ, true, false, cond, [], ◌∷◌, ◌++◌, Option, Some, None, refl, sym, ap, ◌∙◌, eqb}
use Rattle.std.proofs.lemmas.Bool.{eqb-true}
use Rattle.std.specs.Option.{option_map_or}
use Rattle.flow_state.specs.declared.flow.FlowKind.{FlowKind}
use Rattle.flow_state.specs.declared.refusal.Refusal.{Refusal}
use Rattle.flow_state.specs.declared.refusal.Refusal.TheVariants.{NoChannel}
use Rattle.flow_state.specs.Rows.{Rows, Table, Lease, is_table, table_of, change_table}
use Rattle.flow_state.specs.Refusals.{on_table}
use Rattle.flow_state.specs.Changes.{flow_among}
use Rattle.flow_state.proofs.Assignments.{find_kept, find_passes}

-- a change keeps each table's channel
abbrev pub KeepsId : (Table → Table) → Type 0
KeepsId change = (t : Table) → (change t).row.channel.id ≡ t.row.channel.id

-- a table as a change at one channel leaves it
abbrev pub changed : ℕ → (Table → Table) → Table → Table
changed at change t = cond (is_table at t) (change t) t

pub same_id : (at : ℕ) (change : Table → Table) (t : Table) → KeepsId change → (changed at change t).row.channel.id ≡ t.row.channel.id
same_id at change t keeps =
    elim (is_table at t) as (λ b. (cond b (change t) t).row.channel.id ≡ t.row.channel.id) [ true ↦ keeps t | false ↦ refl ]

pub some_is : (s t : Table) → Some s ≡ Some t → s ≡ t
some_is s t e = cc

-- a changed table is found where it was
pub find_changed : (rows : Rows) (ch at : ℕ) (change : Table → Table) (t : Table) → KeepsId change
    → table_of rows ch ≡ Some t → table_of (change_table rows at change) ch ≡ Some (changed at change t)
find_changed [] ch at change t keeps e = absurd cc
find_changed (r ∷ rows) ch at change t keeps e =
    let same : is_table ch (changed at change r) ≡ is_table ch r = ap (λ i. eqb i ch) (same_id at change r keeps) in
    let later = find_changed rows ch at change t keeps in
    let here : cond (is_table ch r) (Some (changed at change r)) (table_of (change_table rows at change) ch) ≡ Some (changed at change t) =
    elim (is_table ch r) as (λ b. cond b (Some r) (table_of rows ch) ≡ Some t → cond b (Some (changed at change r)) (table_of (change_table rows at change) ch) ≡ Some (changed at change t)) [
      | true ↦ λ f. ap (λ (u : Table). Some (changed at change u)) (some_is r t f)
      | false ↦ λ f. later f
    ] e in
    ap (λ b. cond b (Some (changed at change r)) (table_of (change_table rows at change) ch)) same ∙ here

-- a channel that is set later is found behind those that are
pub find_added : (rows : Rows) (ch : ℕ) (n t : Table) → table_of rows ch ≡ Some t → table_of (rows ++ n ∷ []) ch ≡ Some t
find_added rows ch n t e = find_kept (is_table ch) rows t n e

-- the table found at a channel is the channel's
pub is_found : (rows : Rows) (ch : ℕ) (t : Table) → table_of rows ch ≡ Some t → is_table ch t ≡ true
is_found rows ch t e = find_passes (is_table ch) rows t e

-- a table that is found after a change was found before it
pub found_before : (rows : Rows) (ch at : ℕ) (change : Table → Table) (u : Table) → KeepsId change → table_of (change_table rows at change) ch ≡ Some u
    → (t : Table) × (table_of rows ch ≡ Some t) × (u ≡ changed at change t)
found_before [] ch at change u keeps e = absurd cc
found_before (r ∷ rows) ch at change u keeps e =
    let same : is_table ch r ≡ is_table ch (changed at change r) = ap (λ i. eqb i ch) (sym (same_id at change r keeps)) in
    elim (is_table ch r) as (λ b. cond b (Some (changed at change r)) (table_of (change_table rows at change) ch) ≡ Some u → (t : Table) × (cond b (Some r) (table_of rows ch) ≡ Some t) × (u ≡ changed at change t)) [
      | true ↦ λ f. (r, refl, sym (some_is (changed at change r) u f))
      | false ↦ λ f. found_before rows ch at change u keeps f
    ] (ap (λ b. cond b (Some (changed at change r)) (table_of (change_table rows at change) ch)) same ∙ e)

pub at_same : (rows : Rows) (ch at : ℕ) (t : Table) → table_of rows ch ≡ Some t → is_table at t ≡ true → ch ≡ at
at_same rows ch at t found here = sym (eqb-true _ _ (is_found rows ch t found)) ∙ eqb-true _ _ here

-- the refusal of a table that is found
pub refusal_there : (rows : Rows) (ch : ℕ) (t : Table) (refusal : Table → Option Refusal) → table_of rows ch ≡ Some t → on_table rows ch refusal ≡ None → refusal t ≡ None
refusal_there rows ch t refusal found e = sym (ap (λ (o : Option Table). option_map_or refusal o (Some NoChannel)) found) ∙ e

pub flow_keeps_id : (o : Option Lease) (t : Table) (modem tag last : ℕ) (kind : FlowKind) → (flow_among o t modem tag last kind).row.channel.id ≡ t.row.channel.id
flow_keeps_id (Some l) t modem tag last kind = refl
flow_keeps_id None t modem tag last kind = refl

-- the table of a call that isn't refused is there
pub there : (o : Option Table) (refusal : Table → Option Refusal) → option_map_or refusal o (Some NoChannel) ≡ None → (t : Table) × (o ≡ Some t)
there (Some t) refusal e = (t, refl)
there None refusal e = absurd cc
