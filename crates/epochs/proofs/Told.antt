-- What tables tell again was told before.
use Rattle.std.proofs.Common.{◌≡◌, ◌⊎◌, ◌∙◌, ℕ, zero, suc, ◌+◌, ◌<◌, List, [], ◌∷◌, ◌++◌, length, map, filter, not}
use Rattle.std.proofs.Common.{ltb, eqb, cond, Bool, Option}
use Rattle.std.proofs.Common.{Some, None, true, false, refl, sym, ap, subst, inl, inr, arith, append_assoc}
use Rattle.std.proofs.Common.{append-nil, unwrap_or, take, slice_get, get_or, add-one, ◌≤◌}
use Rattle.std.specs.List.{Contains}
use Rattle.std.proofs.lemmas.Bool.{eqb-true, eq-eqb}
use Rattle.std.proofs.lemmas.Grind.{flat_map-append}
use Rattle.std.proofs.lemmas.Option.{slice_get_cases}
use Rattle.std.proofs.lemmas.List.Elements.{Contains-append_cases, Contains-append_left, Contains-push}
use Rattle.std.proofs.lemmas.List.Elements.{Contains-push_cases}
use Rattle.flow_state.specs.Firm.{AreFirm, Apart}
use Rattle.flow_state.specs.declared.flow.Lease.{Lease}
use Rattle.flow_state.specs.Rows.{Rows, Table, free_sid, is_table, lease_of, table_of}
use Rattle.flow_state.proofs.Callers.{Has, found_has}
use Rattle.grant_machine.specs.Runs.{outputs_from, rows_from}
use Rattle.grant_machine.specs.Steps.{accepted, cut_settings, lease_output, refusal_of, step, step_on}
use Rattle.grant_machine.specs.declared.command.Command.{Command}
use Rattle.grant_machine.specs.declared.command.Command.TheVariants as commands
use Rattle.grant_machine.specs.declared.output.Output.{Output}
use Rattle.grant_machine.specs.declared.output.Output.TheVariants.{ChannelSet}
use Rattle.grant_machine.proofs.Leases.{put_has}
use Rattle.grant_machine.proofs.Reached.{At}
use Rattle.grant_machine.proofs.Turns.{Changes, before, made}
use Rattle.command_log.specs.Reading.{command_of}
use Rattle.flow_state.specs.Changes.{add_to_table, flow_among, lease_among, lease_on, new_lease}
use Rattle.flow_state.specs.declared.flow.FlowKind.{FlowKind}
use Rattle.epochs.specs.Again.{RowsAreTold, again_of, leases_again, table_again}

-- a channel's count and leases are among these outputs
record IsTold (os : List Output) (ch : ℕ) (t : Table) : Type 0 where
  pub count : Contains os (ChannelSet ch t.row.channel.ucd)
  pub leases : (l : Lease) → Has t.leases l → Contains os (lease_output l.modem ch l)

more_told : (os : List Output) (o : Output) (ch : ℕ) (t : Table) → IsTold os ch t → IsTold (os ++ o ∷ []) ch t
more_told os o ch t told = record {
  count = Contains-append_left os (o ∷ []) (ChannelSet ch t.row.channel.ucd) told.count;
  leases = λ l has. Contains-append_left os (o ∷ []) (lease_output l.modem ch l) (told.leases l has);
}

-- the last output is one of them
last_one : (os : List Output) (o x : Output) → o ≡ x → Contains (os ++ o ∷ []) x
last_one os o x is = subst (Contains (os ++ o ∷ [])) is (Contains-push os o)

-- the output of a command that isn't refused
output_of : (rows : Rows) (c : Command) → refusal_of rows c ≡ None → (accepted rows c).output ≡ (step rows c).output
output_of rows c ok = sym (ap (λ r. (step_on r rows c).output) ok)

-- what a command makes of a table is told by then
made_told : (os : List Output) (rows : Rows) (c : Command) (ch : ℕ) (t : Table) → table_of rows ch ≡ Some t → Changes c ch t → IsTold os ch t → IsTold (os ++ (accepted rows c).output ∷ []) ch (made c t)
made_told os rows commands.Noop ch t found changes told = absurd changes
made_told os rows (commands.Channel n) ch t found changes told = absurd changes
made_told os rows (commands.Change at s) ch t found changes told = record {
  count = last_one os (ChannelSet at s.ucd) (ChannelSet ch s.ucd) (ap (λ n. ChannelSet n s.ucd) changes.0);
  leases = λ l has. Contains-append_left os (ChannelSet at s.ucd ∷ []) (lease_output l.modem ch l) (told.leases l has);
}
made_told os rows (commands.Flow at modem tag last kind) ch t found changes told =
    subst (λ (o : Option Table). IsTold (os ++ lease_output modem at (lease_on o modem tag last) ∷ []) ch (flow_among (lease_of t modem tag) t modem tag last kind))
    (sym (ap (table_of rows) changes.0 ∙ found)) (subst (λ n. IsTold (os ++ lease_output modem n (lease_on (Some t) modem tag last) ∷ []) ch (flow_among (lease_of t modem tag) t modem tag last kind)) (sym changes.0) (by (lease_of t modem tag)))
  where
    by : (o : Option Lease) → IsTold (os ++ lease_output modem ch (lease_among o t modem tag last) ∷ []) ch (flow_among o t modem tag last kind)
    by (Some l) = more_told os (lease_output modem ch l) ch t told
    by None = given (new_lease t modem tag last (unwrap_or (free_sid t) 0)) refl
      where
        given : (n : Lease) → n.modem ≡ modem → IsTold (os ++ lease_output modem ch n ∷ []) ch (add_to_table t n kind)
        given n of = record {
          count = Contains-append_left os (lease_output modem ch n ∷ []) (ChannelSet ch t.row.channel.ucd) told.count;
          leases = λ l has. elim (put_has n t.leases l has) [
            | inl new ↦ last_one os (lease_output modem ch n) (lease_output l.modem ch l) (ap (λ m. lease_output m ch n) (sym of) ∙ ap (λ (x : Lease). lease_output x.modem ch x) new)
            | inr old ↦ Contains-append_left os (lease_output modem ch n ∷ []) (lease_output l.modem ch l) (told.leases l old.0)
          ];
        }
made_told os rows (commands.Drop at sid) ch t found changes told = record { count = (more_told os _ ch t told).count; leases = (more_told os _ ch t told).leases }
made_told os rows (commands.Request at sid n sent) ch t found changes told = record { count = (more_told os _ ch t told).count; leases = (more_told os _ ch t told).leases }
made_told os rows (commands.Cut at len not_before ack keep ranging sending) ch t found changes told =
    record { count = (more_told os _ ch t told).count; leases = (more_told os _ ch t told).leases }

-- the id of a table that is found
found_id : (rows : Rows) (ch : ℕ) (t : Table) → table_of rows ch ≡ Some t → t.row.channel.id ≡ ch
found_id rows ch t found = eqb-true t.row.channel.id ch (found_has (is_table ch) rows t found).1

-- each table is told, and so it is after a step
step_told : (os : List Output) (rows : Rows) (c : Command) → ((ch : ℕ) → At (IsTold os ch) rows ch) → (ch : ℕ) → At (IsTold (os ++ (step rows c).output ∷ []) ch) (step rows c).rows ch
step_told os rows c told ch u found = elim (before rows c ch u found) [
  | inl old ↦ more_told os (step rows c).output ch u (told ch u old)
  | inr (inl set) ↦
      let n = set.channel in
      let is : n.id ≡ ch = ap (λ (t : Table). t.row.channel.id) set.is ∙ found_id (step rows c).rows ch u found in
      let output : ChannelSet n.id n.ucd ≡ (step rows c).output = sym (ap (λ (d : Command). (accepted rows d).output) set.asked) ∙ output_of rows c set.ok in
      subst (IsTold (os ++ (step rows c).output ∷ []) ch) set.is (record {
        count = last_one os (step rows c).output (ChannelSet ch n.ucd) (sym output ∙ ap (λ m. ChannelSet m n.ucd) is);
        leases = λ l has. absurd has;
      })
  | inr (inr (t, was, makes)) ↦
      subst (IsTold (os ++ (step rows c).output ∷ []) ch) makes.is
      (subst (λ (o : Output). IsTold (os ++ o ∷ []) ch (made c t)) (output_of rows c makes.ok) (made_told os rows c ch t was makes.changes (told ch t was)))
]

-- and after all commands
all_told : (os : List Output) (rows : Rows) (cs : List Command) → ((ch : ℕ) → At (IsTold os ch) rows ch) → (ch : ℕ) → At (IsTold (os ++ outputs_from rows cs) ch) (rows_from rows cs) ch
all_told os rows [] told ch t found = subst (λ (x : List Output). IsTold x ch t) (sym (append-nil os)) (told ch t found)
all_told os rows (c ∷ cs) told ch t found =
    subst (λ (x : List Output). IsTold x ch t) (append_assoc os ((step rows c).output ∷ []) (outputs_from (step rows c).rows cs))
    (all_told (os ++ (step rows c).output ∷ []) (step rows c).rows cs (step_told os rows c told) ch t found)

-- an element of a list is its first, or one of the others
first_or : (x : Output) (xs : List Output) (o : Output) → Contains (x ∷ xs) o → (x ≡ o) ⊎ Contains xs o
first_or x xs o has = elim (Contains-append_cases (x ∷ []) xs o has) [
  | inl first ↦ elim (Contains-push_cases [] x o first) [ inl none ↦ absurd (omega (arith, none.1)) | inr is ↦ inl is ]
  | inr others ↦ inr others
]

-- what a table tells again is told
leases_told : (os : List Output) (ch next_start : ℕ) (leases : List Lease) → ((l : Lease) → Has leases l → Contains os (lease_output l.modem ch l)) → (o : Output)
    → Contains (leases_again ch next_start leases) o → Contains os o
leases_told os ch next_start [] told o has = absurd (omega (arith, has.1))
leases_told os ch next_start (l ∷ leases) told o has =
    by (ltb l.last next_start) (λ more. leases_told os ch next_start leases (λ x there. told x (inr there)) o more) has
  where
    by : (b : Bool) → (Contains (leases_again ch next_start leases) o → Contains os o)
        → Contains (map (λ (x : Lease). lease_output x.modem ch x) (cond (not b) (l ∷ filter (λ (x : Lease). not (ltb x.last next_start)) leases) (filter (λ (x : Lease). not (ltb x.last next_start)) leases))) o
        → Contains os o
    by true rest more = rest more
    by false rest more = elim (first_or (lease_output l.modem ch l) (leases_again ch next_start leases) o more) [ inl is ↦ subst (Contains os) is (told l (inl refl)) | inr others ↦ rest others ]

table_told : (os : List Output) (t : Table) → IsTold os t.row.channel.id t → (o : Output) → Contains (table_again t) o → Contains os o
table_told os t told o has = elim (first_or (ChannelSet t.row.channel.id t.row.channel.ucd) (leases_again t.row.channel.id t.row.next_start t.leases) o has) [
  | inl is ↦ subst (Contains os) is told.count
  | inr lease ↦ leases_told os t.row.channel.id t.row.next_start t.leases told.leases o lease
]

-- a table among tables of a channel each is the one of its channel
is_own : (rows : Rows) → Apart rows → (t : Table) → Has rows t → table_of rows t.row.channel.id ≡ Some t
is_own [] apart t has = absurd has
is_own (u ∷ rows) apart t (inl is) =
    ap (λ (x : Table). table_of (u ∷ rows) x.row.channel.id) (sym is)
    ∙ ap (λ b. cond b (Some u) (table_of rows u.row.channel.id)) (eq-eqb u.row.channel.id u.row.channel.id refl) ∙ ap (λ (x : Table). Some x) is
is_own (u ∷ rows) apart t (inr there) = by (eqb u.row.channel.id t.row.channel.id) refl (is_own rows apart.1 t there)
  where
    by : (b : Bool) → eqb u.row.channel.id t.row.channel.id ≡ b → table_of rows t.row.channel.id ≡ Some t → cond b (Some u) (table_of rows t.row.channel.id) ≡ Some t
    by true same own =
        let none : None ≡ Some t = sym apart.0 ∙ ap (table_of rows) (eqb-true u.row.channel.id t.row.channel.id same) ∙ own in
        absurd (cc (none))
    by false other own = own

rows_told : (os : List Output) (rows : Rows) → ((t : Table) → Has rows t → IsTold os t.row.channel.id t) → (o : Output) → Contains (again_of rows) o → Contains os o
rows_told os [] told o has = absurd (omega (arith, has.1))
rows_told os (t ∷ rows) told o has = elim (Contains-append_cases (table_again t) (again_of rows) o has) [
  | inl here ↦ table_told os t (told t (inl refl)) o here
  | inr others ↦ rows_told os rows (λ u there. told u (inr there)) o others
]

pub rows_are_told : RowsAreTold
rows_are_told values firm o has =
    let cs : List Command = map command_of values in
    rows_told (outputs_from [] cs) (rows_from [] cs) (λ t there. all_told [] [] cs none t.row.channel.id t (is_own (rows_from [] cs) firm.1 t there)) o has
  where
    none : (ch : ℕ) → At (IsTold [] ch) [] ch
    none ch t found = absurd (cc (found))

-- one table more
one_more : (rows : Rows) (k : ℕ) (t : Table) → slice_get rows k ≡ Some t → take (suc k) rows ≡ take k rows ++ t ∷ []
one_more [] k t e = absurd (cc (e))
one_more (r ∷ rows) zero t e = let same : r ≡ t = cc in ap (λ (x : Table). x ∷ []) same
one_more (r ∷ rows) (suc k) t e = ap (λ (ts : Rows). r ∷ ts) (one_more rows k t e)

text_more : (rows : Rows) (t : Table) → again_of (rows ++ t ∷ []) ≡ again_of rows ++ table_again t
text_more rows t = flat_map-append table_again rows (t ∷ []) ∙ ap (λ (os : List Output). again_of rows ++ os) (append-nil (table_again t))

pub table_more : (rows : Rows) (k : ℕ) (start old new : List Output) → k < length rows → old ≡ start ++ again_of (take k rows) → ((t : Table) → slice_get rows k ≡ Some t → new ≡ old ++ table_again t)
    → new ≡ start ++ again_of (take (k + 1) rows)
table_more rows k start old new lt so_far one = by (slice_get_cases rows k).1
  where
    by : ((t : Table) × (k < length rows) × (slice_get rows k ≡ Some t) × (get_or rows k t ≡ t)) ⊎ ((length rows ≤ k) × (slice_get rows k ≡ None)) → new ≡ start ++ again_of (take (k + 1) rows)
    by (inl h) =
        let more : take (k + 1) rows ≡ take k rows ++ h.0 ∷ [] = ap (λ n. take n rows) (add-one k) ∙ one_more rows k h.0 h.2 in
        one h.0 h.2 ∙ ap (λ (os : List Output). os ++ table_again h.0) so_far ∙ append_assoc start (again_of (take k rows)) (table_again h.0)
        ∙ ap (λ (os : List Output). start ++ os) (sym (text_more (take k rows) h.0) ∙ ap again_of (sym more))
    by (inr h) = absurd (omega (arith, h.0, lt))
