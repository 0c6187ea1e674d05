-- A MAP among the outputs of commands tells its own channel and start: what its bytes say, if they are a body.
use Rattle.std.proofs.Common.{◌≡◌, ℕ, zero, suc, ◌+◌, ◌^◌, ◌<◌, ◌≤◌, Bool, true, false, cond, ◌&&◌, nat_le, List, []}
use Rattle.std.proofs.Common.{◌∷◌, ◌++◌, take, drop, refl, sym, ◌∙◌, ap, subst, arith, mod-lt, Option, Some, None}
use Rattle.std.proofs.Common.{slice_get, Contains}
use Rattle.std.specs.Int.{w32, to_be_bytes, from_be_bytes}
use Rattle.std.specs.List.{find}
use Rattle.std.proofs.lemmas.Bool.{and_parts, leb-true, eqb-true}
use Rattle.std.proofs.lemmas.Option.{slice_get_read}
use Rattle.std.proofs.lemmas.Nat.{from_be_bytes-to_be_bytes_4}
use Rattle.minislot_time.specs.Wire.{wire}
use Rattle.map_body.specs.declared.head.Head.{Head}
use Rattle.map_body.specs.Body.{Body}
use Rattle.map_body.specs.Layout.{head_bytes, layout, IsBody}
use Rattle.flow_state.specs.declared.refusal.Refusal.{Refusal}
use Rattle.flow_state.specs.declared.refusal.Refusal.TheVariants.{BadValue}
use Rattle.flow_state.specs.Limits.{last_time, most_minislots}
use Rattle.flow_state.specs.Refusals.{on_table}
use Rattle.flow_state.specs.Rows.{Rows, Table, is_table, table_of}
use Rattle.grant_machine.specs.declared.command.Command.{Command}
use Rattle.grant_machine.specs.declared.command.Command.TheVariants as commands
use Rattle.grant_machine.specs.declared.output.Output.TheVariants as outputs
use Rattle.grant_machine_parts.specs.declared.settings.CutSettings.{CutSettings}
use Rattle.grant_machine_parts.specs.Cutting.{span_of, fill, fill_refusal}
use Rattle.grant_machine_parts.specs.Drawing.{head_of, elements_of, bytes_of}
use Rattle.grant_machine.specs.Steps.{cut_settings, step, step_on, refusal_of, accepted, cut_on, map_output}
use Rattle.grant_machine.specs.Runs.{outputs_from, outputs_of}
use Rattle.grant_machine_parts.proofs.Callers.{is_cut}

-- the body is of this channel and begins at this time, as on the wire
pub record IsDrawn (ch start : ℕ) (map : Body) : Type 0 where
  pub channel : map.head.channel ≡ ch
  pub start_is : wire start ≡ map.head.start
  pub bound : start < 2 ^ 63

-- the fields of two heads that are spelled alike
same_channel : (g h : Head) (m n r s : ℕ) (xs ys : List ℕ) → head_bytes g m r ++ xs ≡ head_bytes h n s ++ ys → g.channel ≡ h.channel
same_channel g h m n r s xs ys e = cc (e)

same_start : (g h : Head) (m n r s : ℕ) (xs ys : List ℕ) → g.start < 2 ^ 32 → h.start < 2 ^ 32 → head_bytes g m r ++ xs ≡ head_bytes h n s ++ ys → g.start ≡ h.start
same_start g h m n r s xs ys small also e =
    let bytes : to_be_bytes w32 g.start ≡ to_be_bytes w32 h.start = ap (λ (bs : List ℕ). take 4 (drop 4 bs)) e in
    sym (from_be_bytes-to_be_bytes_4 g.start small) ∙ ap (from_be_bytes w32) bytes ∙ from_be_bytes-to_be_bytes_4 h.start also

found_id : (ch : ℕ) (rows : Rows) (t : Table) → table_of rows ch ≡ Some t → t.row.channel.id ≡ ch
found_id ch [] t is = absurd (cc (is))
found_id ch (u ∷ rows) t is = go (is_table ch u) refl is (found_id ch rows t)
  where
    go : (b : Bool) → is_table ch u ≡ b → cond b (Some u) (find (is_table ch) rows) ≡ Some t → (find (is_table ch) rows ≡ Some t → t.row.channel.id ≡ ch) → t.row.channel.id ≡ ch
    go true here found rest = let same : u ≡ t = cc (found) in subst (λ (x : Table). x.row.channel.id ≡ ch) same (eqb-true u.row.channel.id ch here)
    go false here found rest = rest found

-- a cut of a table that isn't refused draws its MAP
cut_drawn : (rows : Rows) (at : ℕ) (asks : CutSettings) (ch start n : ℕ) (bytes : List ℕ) (map : Body) (t : Table) → table_of rows at ≡ Some t → fill_refusal t.row asks ≡ None → map_output at t (fill t asks) ≡ outputs.Map ch start n bytes → IsBody bytes map → IsDrawn ch start map
cut_drawn rows at asks ch start n bytes map t found ok is (reserved, spells, elements) =
    let from : ℕ = (span_of t.row asks.len asks.not_before).start in
    let f = fill t asks in
    let channel : at ≡ ch = cc (is) in
    let starts : from ≡ start = cc (is) in
    let same : bytes_of t f ≡ bytes = cc (is) in
    let spelled : layout (head_of f.told from f.ack) (elements_of t f) 0 ≡ layout map.head map.elements reserved = same ∙ spells.spelled in
    let one : t.row.channel.id ≡ map.head.channel = same_channel (head_of f.told from f.ack) map.head _ _ 0 reserved _ _ spelled in
    let begins : wire from ≡ map.head.start = same_start (head_of f.told from f.ack) map.head _ _ 0 reserved _ _ (mod-lt from (omega arith)) spells.head_fits.start spelled in
    let by : from + asks.len ≤ last_time = (is_cut t asks ok).end in
    record {
      channel = sym one ∙ found_id at rows t found ∙ channel;
      start_is = ap wire (sym starts) ∙ begins;
      bound = omega arith;
    }

step_drawn : (rows : Rows) (c : Command) (ch start n : ℕ) (bytes : List ℕ) (map : Body) → (step rows c).output ≡ outputs.Map ch start n bytes → IsBody bytes map → IsDrawn ch start map
step_drawn rows c ch start n bytes map is body = by (refusal_of rows c) refl is
  where
    cut : (at : ℕ) (asks : CutSettings) (o : Option Table) → table_of rows at ≡ o → on_table rows at (λ t. fill_refusal t.row asks) ≡ None → (cut_on o rows at asks).output ≡ outputs.Map ch start n bytes → IsDrawn ch start map
    cut at asks None found ok made = absurd (cc (made))
    cut at asks (Some t) found ok made = cut_drawn rows at asks ch start n bytes map t found (rw found at ok) made body

    on : (d : Command) → refusal_of rows d ≡ None → (accepted rows d).output ≡ outputs.Map ch start n bytes → IsDrawn ch start map
    on (commands.Cut at len not_before ack keep ranging sending) ok made = cut at (cut_settings len not_before ack keep ranging sending) (table_of rows at) refl ok made
    on other ok made = absurd (cc (made))

    by : (o : Option Refusal) → refusal_of rows c ≡ o → (step_on o rows c).output ≡ outputs.Map ch start n bytes → IsDrawn ch start map
    by (Some r) refused made = absurd (cc (made))
    by None ok made = on c ok made

drawn_from : (rows : Rows) (cs : List Command) (k ch start n : ℕ) (bytes : List ℕ) (map : Body) → slice_get (outputs_from rows cs) k ≡ Some (outputs.Map ch start n bytes) → IsBody bytes map → IsDrawn ch start map
drawn_from rows [] k ch start n bytes map is body = absurd (cc (is))
drawn_from rows (c ∷ cs) zero ch start n bytes map is body = step_drawn rows c ch start n bytes map (cc (is)) body
drawn_from rows (c ∷ cs) (suc k) ch start n bytes map is body = drawn_from (step rows c).rows cs k ch start n bytes map is body

-- a MAP among the outputs, whose bytes are a body, is drawn
pub is_drawn : (cs : List Command) (ch start n : ℕ) (bytes : List ℕ) (map : Body) → Contains (outputs_of cs) (outputs.Map ch start n bytes) → IsBody bytes map → IsDrawn ch start map
is_drawn cs ch start n bytes map (k, within, is) body = drawn_from [] cs k ch start n bytes map (slice_get_read (outputs_of cs) _ k (outputs.Map ch start n bytes) refl within (sym is)) body
