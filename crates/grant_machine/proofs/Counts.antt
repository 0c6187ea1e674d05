-- The UCD Counts that MAPs have, and those that a channel is given one after another.
use Rattle.std.proofs.Common.{◌≡◌, ◌⊎◌, ℕ, zero, suc, ◌<◌, Bool, true, false, cond, not, ◌&&◌, List, [], ◌∷◌, ◌++◌}
use Rattle.std.proofs.Common.{Option, Some, None, refl, sym, ap, subst, ◌∙◌, arith, inl, inr, eqb, is_some, slice_get}
use Rattle.std.proofs.lemmas.Option.{same_Some}
use Rattle.std.proofs.lemmas.Bool.{eqb-true, eqb-false, and_parts, not-false}
use Rattle.map_body.specs.Body.{Body}
use Rattle.map_body.specs.Layout.{IsBody}
use Rattle.flow_state.specs.declared.channel.Channel.{Channel}
use Rattle.flow_state.specs.declared.settings.ChannelSettings.{ChannelSettings}
use Rattle.flow_state.specs.declared.flow.FlowKind.{FlowKind}
use Rattle.flow_state.specs.declared.flow.Lease.{Lease}
use Rattle.flow_state.specs.declared.refusal.Refusal.{Refusal}
use Rattle.flow_state.specs.declared.refusal.Refusal.TheVariants.{BadValue, ChannelThere}
use Rattle.flow_state.specs.Limits.{is_good_channel, are_good_settings}
use Rattle.flow_state.specs.Rows.{Rows, Table, is_table, table_of, change_table, lease_of}
use Rattle.flow_state.specs.Refusals.{next_count, is_same_phy, is_good_count, set_channel_refusal, table_change_refusal}
use Rattle.flow_state.specs.Changes.{new_table, change_in_table, flow_among, flow_in_table, drop_in_table}
use Rattle.flow_state.specs.Changes.{request_in_table}
use Rattle.grant_machine.specs.declared.command.Command.{Command}
use Rattle.grant_machine.specs.declared.command.Command.TheVariants as commands
use Rattle.grant_machine.specs.declared.output.Output.{Output}
use Rattle.grant_machine.specs.declared.output.Output.TheVariants as outputs
use Rattle.grant_machine_parts.specs.declared.settings.CutSettings.{CutSettings}
use Rattle.grant_machine_parts.specs.Cutting.{fill, table_after}
use Rattle.grant_machine.specs.Steps.{Step, cut_settings, step, step_on, refusal_of, accepted, cut_on}
use Rattle.grant_machine.specs.Runs.{outputs_from}
use Rattle.grant_machine.specs.Counts.{IsCountAt, IsLatestCount, CountsAreTold, CountsStep}
use Rattle.flow_state.proofs.Callers.{KeepsId, changed, find_added, find_changed, find_pushed, flow_keeps_id}
use Rattle.flow_state.proofs.Callers.{found_before, is_found, passes_on, refusal_there, some_is, there}
use Rattle.grant_machine.proofs.Turns.{found_changed}
use Rattle.grant_machine.proofs.Reached.{Stands, AllWell, none_well, well_step}
use Rattle.grant_machine.proofs.Cuts.{cut_of_map}
use Rattle.grant_machine.proofs.Tellings.{drawn_body}

-- ---- one step

abbrev count_of : Table → ℕ
count_of t = t.row.channel.ucd

-- the channel is there, and has this count
abbrev HasCount : Rows → (ch ucd : ℕ) → Type 0
HasCount rows ch ucd = Stands (λ t. count_of t ≡ ucd) rows ch

-- a step that gives the channel a count: one that was not there, or the one that it had or the next one
pub record Gives (rows : Rows) (s : Step) (ch ucd : ℕ) : Type 0 where
  pub told : s.output ≡ outputs.ChannelSet ch ucd
  pub after : HasCount s.rows ch ucd
  pub follows : (first : ℕ) → HasCount rows ch first → (ucd ≡ first) ⊎ (ucd ≡ next_count first)

-- a step that gives it none: the channel is there afterwards as it was before, with its count
pub record GivesNone (rows : Rows) (s : Step) (ch : ℕ) : Type 0 where
  pub none : (ucd : ℕ) → ¬ (s.output ≡ outputs.ChannelSet ch ucd)
  pub onward : (ucd : ℕ) → HasCount rows ch ucd → HasCount s.rows ch ucd
  pub back : (ucd : ℕ) → HasCount s.rows ch ucd → HasCount rows ch ucd

abbrev Either : Rows → Step → ℕ → Type 0
Either rows s ch = ((ucd : ℕ) × Gives rows s ch ucd) ⊎ GivesNone rows s ch

-- a step that tells no count and leaves each channel's
quiet : (rows : Rows) (s : Step) (ch at : ℕ) (change : Table → Table) → KeepsId change → change_table rows at change ≡ s.rows
    → ((t : Table) → table_of rows ch ≡ Some t → count_of (changed at change t) ≡ count_of t) → ((ucd : ℕ) → ¬ (s.output ≡ outputs.ChannelSet ch ucd)) → GivesNone rows s ch
quiet rows s ch at change ids is keeps none = record {
  none = none;
  onward = λ ucd h. subst (λ (r : Rows). HasCount r ch ucd) is (record { table = changed at change h.table; found = find_changed rows ch at change h.table ids h.found; holds = keeps h.table h.found ∙ h.holds });
  back = λ ucd h.
      let k : HasCount (change_table rows at change) ch ucd = subst (λ (r : Rows). HasCount r ch ucd) (sym is) h in
      let b = found_before rows ch at change k.table ids k.found in
      record { table = b.0; found = b.1; holds = sym (keeps b.0 b.1) ∙ ap count_of (sym b.2) ∙ k.holds };
}

-- the same rows
quiet_same : (rows : Rows) (output : Output) (ch : ℕ) → ((ucd : ℕ) → ¬ (output ≡ outputs.ChannelSet ch ucd)) → GivesNone rows (record { output = output; rows = rows }) ch
quiet_same rows output ch none = record { none = none; onward = λ ucd h. h; back = λ ucd h. h }

-- a change that leaves each table's count
keeps_all : (at : ℕ) (change : Table → Table) → ((t : Table) → count_of (change t) ≡ count_of t) → (t : Table) → count_of (changed at change t) ≡ count_of t
keeps_all at change same t = elim (is_table at t) as (λ b. count_of (cond b (change t) t) ≡ count_of t) [ true ↦ same t | false ↦ refl ]

flow_keeps_count : (o : Option Lease) (t : Table) (modem tag last : ℕ) (kind : FlowKind) → count_of (flow_among o t modem tag last kind) ≡ count_of t
flow_keeps_count (Some l) t modem tag last kind = refl
flow_keeps_count None t modem tag last kind = refl

-- ---- a channel that is set

absent : (rows : Rows) (c : Channel) → set_channel_refusal rows c ≡ None → table_of rows c.id ≡ None
absent rows c ok = by (table_of rows c.id) (passes_on (is_some (table_of rows c.id)) ChannelThere None (passes_on (not (is_good_channel c)) BadValue (cond (is_some (table_of rows c.id)) (Some ChannelThere) None) ok).1).0
  where
    by : (o : Option Table) → is_some o ≡ false → o ≡ None
    by (Some t) e = absurd cc
    by None e = refl

found_last : (rows : Rows) (ch : ℕ) (n : Table) → table_of rows ch ≡ None → is_table ch n ≡ true → table_of (rows ++ n ∷ []) ch ≡ Some n
found_last [] ch n e on = ap (λ b. cond b (Some n) None) on
found_last (r ∷ rows) ch n e on = elim (is_table ch r) as (λ b. cond b (Some r) (table_of rows ch) ≡ None → cond b (Some r) (table_of (rows ++ n ∷ []) ch) ≡ Some n) [ true ↦ λ f. absurd cc | false ↦ λ f. found_last rows ch n f on ] e

set_either : (rows : Rows) (c : Channel) (ch : ℕ) → set_channel_refusal rows c ≡ None → Either rows (accepted rows (commands.Channel c)) ch
set_either rows c ch ok = by (eqb c.id ch) refl
  where
    by : (b : Bool) → eqb c.id ch ≡ b → Either rows (accepted rows (commands.Channel c)) ch
    by true on =
        let none : table_of rows ch ≡ None = ap (table_of rows) (sym (eqb-true _ _ on)) ∙ absent rows c ok in
        inl (
          c.ucd,
          record {
            told = ap (λ i. outputs.ChannelSet i c.ucd) (eqb-true _ _ on);
            after = record { table = new_table c; found = found_last rows ch (new_table c) none on; holds = refl };
            follows = λ first h. absurd (let there : table_of rows ch ≡ Some h.table = h.found in cc);
          },
        )
    by false off = inr (record {
      none = λ ucd e. eqb-false _ _ off cc;
      onward = λ ucd h. record { table = h.table; found = find_added rows ch (new_table c) h.table h.found; holds = h.holds };
      back = λ ucd h. elim (find_pushed (is_table ch) rows h.table (new_table c) h.found) [
        | inl old ↦ record { table = h.table; found = old; holds = h.holds }
        | inr is ↦ absurd (let on : is_table ch (new_table c) ≡ true = ap (is_table ch) is ∙ is_found (rows ++ new_table c ∷ []) ch h.table h.found in cc)
      ];
    })

-- ---- a channel that changes

count_follows : (c : Channel) (s : ChannelSettings) → is_good_count c s ≡ true → (s.ucd ≡ c.ucd) ⊎ (s.ucd ≡ next_count c.ucd)
count_follows c s =
    elim (eqb s.ucd c.ucd) as (λ b. eqb s.ucd c.ucd ≡ b → cond b (is_same_phy s.phy c.phy && eqb s.short_max c.short_max) (eqb s.ucd (next_count c.ucd)) ≡ true → (s.ucd ≡ c.ucd) ⊎ (s.ucd ≡ next_count c.ucd)) [
      | true ↦ λ same good. inl (eqb-true _ _ same)
      | false ↦ λ other good. inr (eqb-true _ _ good)
    ] refl

change_either : (rows : Rows) (at : ℕ) (s : ChannelSettings) (ch : ℕ) → refusal_of rows (commands.Change at s) ≡ None → Either rows (accepted rows (commands.Change at s)) ch
change_either rows at s ch ok = by (eqb at ch) refl
  where
    by : (b : Bool) → eqb at ch ≡ b → Either rows (accepted rows (commands.Change at s)) ch
    by true on =
        let same : at ≡ ch = eqb-true _ _ on in
        let (t, found) = there (table_of rows at) (λ u. table_change_refusal u s) ok in
        let passed : table_change_refusal t s ≡ None = refusal_there rows at t (λ u. table_change_refusal u s) found ok in
        let good = (and_parts (are_good_settings s) (is_good_count t.row.channel s) (not-false _ (passes_on (not (are_good_settings s && is_good_count t.row.channel s)) BadValue None passed).0)).1 in
        inl (
          s.ucd,
          record {
            told = ap (λ i. outputs.ChannelSet i s.ucd) same;
            after = subst (λ n. HasCount (accepted rows (commands.Change at s)).rows n s.ucd) same (record { table = change_in_table t s; found = found_changed rows at (λ u. change_in_table u s) t (λ u. refl) found; holds = refl });
            follows = λ first h.
                let is : t ≡ h.table = some_is t h.table (sym found ∙ ap (table_of rows) same ∙ h.found) in
                subst (λ n. (s.ucd ≡ n) ⊎ (s.ucd ≡ next_count n)) (ap count_of is ∙ h.holds) (count_follows t.row.channel s good);
          },
        )
    by false off = inr (quiet rows (accepted rows (commands.Change at s)) ch at (λ u. change_in_table u s) (λ u. refl) refl elsewhere (λ ucd e. eqb-false _ _ off cc))
      where
        elsewhere : (t : Table) → table_of rows ch ≡ Some t → count_of (changed at (λ u. change_in_table u s) t) ≡ count_of t
        elsewhere t found =
            elim (is_table at t) as (λ b. is_table at t ≡ b → count_of (cond b (change_in_table t s) t) ≡ count_of t) [
              | true ↦ λ on. absurd (eqb-false _ _ off (sym (eqb-true _ _ on) ∙ eqb-true _ _ (is_found rows ch t found)))
              | false ↦ λ no. refl
            ] refl

-- ---- any command

step_either : (rows : Rows) (c : Command) (ch : ℕ) → Either rows (step rows c) ch
step_either rows c ch = by (refusal_of rows c) refl
  where
    on : (d : Command) → refusal_of rows d ≡ None → Either rows (accepted rows d) ch
    on commands.Noop ok = inr (quiet_same rows outputs.Nothing ch (λ ucd e. cc))
    on (commands.Channel n) ok = set_either rows n ch ok
    on (commands.Flow at modem tag last kind) ok =
        inr (quiet rows (accepted rows (commands.Flow at modem tag last kind)) ch at (λ t. flow_in_table t modem tag last kind) (λ t. flow_keeps_id (lease_of t modem tag) t modem tag last kind) refl
        (λ t found. keeps_all at (λ u. flow_in_table u modem tag last kind) (λ u. flow_keeps_count (lease_of u modem tag) u modem tag last kind) t) (λ ucd e. cc))
    on (commands.Drop at sid) ok =
        inr (quiet rows (accepted rows (commands.Drop at sid)) ch at (λ t. drop_in_table t sid) (λ t. refl) refl (λ t found. keeps_all at (λ u. drop_in_table u sid) (λ u. refl) t) (λ ucd e. cc))
    on (commands.Request at sid n sent) ok =
        inr (quiet rows (accepted rows (commands.Request at sid n sent)) ch at (λ t. request_in_table t sid n sent) (λ t. refl) refl (λ t found. keeps_all at (λ u. request_in_table u sid n sent) (λ u. refl) t) (λ ucd e. cc))
    on (commands.Cut at len not_before ack keep ranging sending) ok = cut (table_of rows at)
      where
        asks : CutSettings
        asks = cut_settings len not_before ack keep ranging sending

        cut : (o : Option Table) → Either rows (cut_on o rows at asks) ch
        cut None = inr (quiet_same rows outputs.Nothing ch (λ ucd e. cc))
        cut (Some t) =
            let f = fill t asks in
            inr (quiet rows (cut_on (Some t) rows at asks) ch at (λ u. table_after u f) (λ u. refl) refl (λ u found. keeps_all at (λ v. table_after v f) (λ v. refl) u) (λ ucd e. cc))
    on (commands.Change at s) ok = change_either rows at s ch ok

    by : (o : Option Refusal) → refusal_of rows c ≡ o → Either rows (step_on o rows c) ch
    by (Some r) e = inr (quiet_same rows _ ch (λ ucd h. cc))
    by None e = on c e

same_count : (rows : Rows) (ch m n : ℕ) → HasCount rows ch m → HasCount rows ch n → m ≡ n
same_count rows ch m n h k = sym h.holds ∙ ap count_of (some_is h.table k.table (sym h.found ∙ k.found)) ∙ k.holds

told_count : (out : Output) (ch m n : ℕ) → out ≡ outputs.ChannelSet ch m → out ≡ outputs.ChannelSet ch n → m ≡ n
told_count out ch m n d e = cc

-- ---- the latest count before an output

-- none of the outputs before number k gives the channel a count
abbrev NoneBefore : List Output → (k ch : ℕ) → Type 0
NoneBefore outs k ch = (i ucd : ℕ) → i < k → ¬ IsCountAt outs i ch ucd

none_more : (out : Output) (outs : List Output) (k ch : ℕ) → ((ucd : ℕ) → ¬ (out ≡ outputs.ChannelSet ch ucd)) → NoneBefore outs k ch → NoneBefore (out ∷ outs) (suc k) ch
none_more out outs k ch first rest zero ucd lt e = first ucd (same_Some _ _ e)
none_more out outs k ch first rest (suc i) ucd lt e = rest i ucd (omega (arith, lt)) e

-- the first output is the latest, where none follows
latest_first : (out : Output) (outs : List Output) (k ch ucd : ℕ) → out ≡ outputs.ChannelSet ch ucd → NoneBefore outs k ch → IsLatestCount (out ∷ outs) 0 (suc k) ch ucd
latest_first out outs k ch ucd told none = record { told = ap (λ (o : Output). Some o) told; before = omega arith; latest = later }
  where
    later : (i other : ℕ) → 0 < i → i < suc k → ¬ IsCountAt (out ∷ outs) i ch other
    later zero other low high e = absurd (omega (arith, low))
    later (suc i) other low high e = none i other (omega (arith, high)) e

-- one output more in front
latest_more : (out : Output) (outs : List Output) (j k ch ucd : ℕ) → IsLatestCount outs j k ch ucd → IsLatestCount (out ∷ outs) (suc j) (suc k) ch ucd
latest_more out outs j k ch ucd l = record { told = l.told; before = (let lt = l.before in omega arith); latest = later }
  where
    later : (i other : ℕ) → suc j < i → i < suc k → ¬ IsCountAt (out ∷ outs) i ch other
    later zero other low high e = absurd (omega (arith, low))
    later (suc i) other low high e = l.latest i other (omega (arith, low)) (omega (arith, high)) e

-- and one less
latest_less : (out : Output) (outs : List Output) (j k ch ucd : ℕ) → IsLatestCount (out ∷ outs) (suc j) (suc k) ch ucd → IsLatestCount outs j k ch ucd
latest_less out outs j k ch ucd l = record { told = l.told; before = (let lt = l.before in omega arith); latest = λ i other low high e. l.latest (suc i) other (omega (arith, low)) (omega (arith, high)) e }

none_behind : (out : Output) (outs : List Output) (k ch ucd : ℕ) → IsLatestCount (out ∷ outs) 0 (suc k) ch ucd → NoneBefore outs k ch
none_behind out outs k ch ucd l i other lt e = l.latest (suc i) other (omega arith) (omega (arith, lt)) e

-- ---- MAPs

-- a MAP has the count of its channel's row
map_count : (rows : Rows) (c : Command) (ch start len : ℕ) (bytes : List ℕ) (map : Body) → AllWell rows → (step rows c).output ≡ outputs.Map ch start len bytes → IsBody bytes map → HasCount rows ch map.head.ucd
map_count rows c ch start len bytes map w out b =
    let m = cut_of_map rows c ch start len bytes out in
    let cut = m.cut in
    let drawn = drawn_body cut.table cut.settings bytes map (w ch cut.table cut.found) cut.ok m.bytes_is b in
    record { table = cut.table; found = cut.found; holds = ap (λ (x : Body). x.head.ucd) (sym drawn) }

-- the count was told, or no output before tells one and it is that of the rows
abbrev IsKnown : Rows → List Command → (k ch ucd : ℕ) → Type 0
IsKnown rows cs k ch ucd = (HasCount rows ch ucd × NoneBefore (outputs_from rows cs) k ch) ⊎ ((j : ℕ) × IsLatestCount (outputs_from rows cs) j k ch ucd)

known_more : (rows : Rows) (c : Command) (cs : List Command) (k ch ucd : ℕ) → IsKnown (step rows c).rows cs k ch ucd → IsKnown rows (c ∷ cs) (suc k) ch ucd
known_more rows c cs k ch ucd (inr (j, l)) = inr (suc j, latest_more (step rows c).output (outputs_from (step rows c).rows cs) j k ch ucd l)
known_more rows c cs k ch ucd (inl (has, none)) = elim (step_either rows c ch) [
  | inl (n, gives) ↦
      let told : (step rows c).output ≡ outputs.ChannelSet ch ucd = subst (λ m. (step rows c).output ≡ outputs.ChannelSet ch m) (same_count (step rows c).rows ch n ucd gives.after has) gives.told in
      inr (0, latest_first (step rows c).output (outputs_from (step rows c).rows cs) k ch ucd told none)
  | inr still ↦ inl (still.back ucd has, none_more (step rows c).output (outputs_from (step rows c).rows cs) k ch still.none none)
]

counts_from : (rows : Rows) (cs : List Command) (k ch start len : ℕ) (bytes : List ℕ) (map : Body) → AllWell rows → slice_get (outputs_from rows cs) k ≡ Some (outputs.Map ch start len bytes) → IsBody bytes map
    → IsKnown rows cs k ch map.head.ucd
counts_from rows [] k ch start len bytes map w out b = absurd cc
counts_from rows (c ∷ cs) zero ch start len bytes map w out b = inl (map_count rows c ch start len bytes map w (same_Some _ _ out) b, λ i ucd lt e. absurd (omega (arith, lt)))
counts_from rows (c ∷ cs) (suc k) ch start len bytes map w out b = known_more rows c cs k ch map.head.ucd (counts_from (step rows c).rows cs k ch start len bytes map (well_step rows c w) out b)

-- a MAP has the UCD Count that its channel was last given before it
pub counts_are_told : CountsAreTold
counts_are_told cs k ch start len bytes map out b = elim (counts_from [] cs k ch start len bytes map none_well out b) [
  | inl (has, none) ↦ absurd (let found : None ≡ Some has.table = has.found in cc)
  | inr told ↦ told
]

-- ---- one count after another

abbrev Follows : (first second : ℕ) → Type 0
Follows first second = (second ≡ first) ⊎ (second ≡ next_count first)

follows_from : (rows : Rows) (cs : List Command) (k ch first second : ℕ) → HasCount rows ch first → NoneBefore (outputs_from rows cs) k ch → IsCountAt (outputs_from rows cs) k ch second → Follows first second
follows_from rows [] k ch first second has none told = absurd cc
follows_from rows (c ∷ cs) zero ch first second has none told = elim (step_either rows c ch) [
  | inl (n, gives) ↦ subst (Follows first) (told_count (step rows c).output ch n second gives.told (same_Some _ _ told)) (gives.follows first has)
  | inr still ↦ absurd (still.none second (same_Some _ _ told))
]
follows_from rows (c ∷ cs) (suc k) ch first second has none told = elim (step_either rows c ch) [
  | inl (n, gives) ↦ absurd (none 0 n (omega arith) (ap (λ (o : Output). Some o) gives.told))
  | inr still ↦ follows_from (step rows c).rows cs k ch first second (still.onward first has) (λ i ucd lt e. none (suc i) ucd (omega (arith, lt)) e) told
]

steps_from : (rows : Rows) (cs : List Command) (j k ch first second : ℕ) → IsLatestCount (outputs_from rows cs) j k ch first → IsCountAt (outputs_from rows cs) k ch second → Follows first second
steps_from rows [] j k ch first second l told = absurd cc
steps_from rows (c ∷ cs) j zero ch first second l told = absurd (let lt = l.before in omega arith)
steps_from rows (c ∷ cs) zero (suc k) ch first second l told = elim (step_either rows c ch) [
  | inl (n, gives) ↦
      let is : n ≡ first = told_count (step rows c).output ch n first gives.told (same_Some _ _ l.told) in
      follows_from (step rows c).rows cs k ch first second (subst (HasCount (step rows c).rows ch) is gives.after) (none_behind (step rows c).output (outputs_from (step rows c).rows cs) k ch first l) told
  | inr still ↦ absurd (still.none first (same_Some _ _ l.told))
]
steps_from rows (c ∷ cs) (suc j) (suc k) ch first second l told =
    steps_from (step rows c).rows cs j k ch first second (latest_less (step rows c).output (outputs_from (step rows c).rows cs) j k ch first l) told

-- of two counts of a channel with none between, the second is the first, or the one that comes after it
pub counts_step : CountsStep
counts_step cs j k ch first second l told = steps_from [] cs j k ch first second l told
