use Rattle.std.proofs.Common.{◌≡◌, ◌+◌, List, map, sym, ap, subst, ◌∙◌, arith}
use Rattle.std.specs.List.{AllByRecursion}
use Rattle.std.specs.Vec.{with_items}
use Rattle.std.proofs.lemmas.List.{with_items_is}
use Rattle.minislot_time.specs.Extent.{Extent}
use Rattle.flow_state.specs.declared.channel.ChannelRow.{ChannelRow}
use Rattle.flow_state.specs.Rows.{Table, lent_flow, due_flows, last_of}
use Rattle.flow_state.specs.View.{flow_view}
use Rattle.grant_machine_parts.specs.Filling.{PartMap}
use Rattle.grant_machine_parts.specs.Cutting.{fill_span, flows_served, end_of}
use Rattle.grant_machine_parts.specs.Lent.{IsLent, IsUnicast}
use Rattle.grant_machine_parts.specs.Ranks.{by_priority, requests_in, IsOfLast}
use Rattle.grant_machine_parts.specs.declared.waiting.Ranked.{Ranked}
use Rattle.grant_machine.specs.CutRows.{IsOfTable, due_ones, rank_in}
use Rattle.grant_machine.proofs.Settling.{due_lent, due_back, ranked_there, ordered, lasts, requests_unicast}
use Rattle.grant_machine.proofs.cut.fill.Goals as goal

-- what was put in order
asked : (t : Table) (xs rs us : List Ranked) → us ≡ by_priority rs → rs ≡ xs → xs ≡ map (rank_in t) t.waiting → us ≡ ranked_there t
asked t xs rs us is a b = is ∙ ap by_priority (a ∙ b)

pub place_all-requires : goal.place_all-requires
place_all-requires c =
    let t : Table = c.args.table.now in
    let served : c.deref_mut.result.now ≡ map lent_flow (due_flows (c.args.settings.now.not_before + c.from.result) t.flows) = c.deref_mut.ensures.value ∙ c.in_ok-copy_due.ensures in
    let ranked : c.deref-2.result.now ≡ ranked_there t = c.deref-2.ensures.value ∙ asked t _ _ _ c.in_ok-by_priority.ensures c.deref.ensures.value c.in_ok-rank_requests.ensures in
    record {
      empty = ap (λ (f : PartMap). f.placements) c.in_ok-open.ensures;
      lent = subst (AllByRecursion IsLent) (sym served) (due_lent t (c.args.settings.now.not_before + c.from.result) c.requires.reached);
      unicast = subst (AllByRecursion IsUnicast) (sym ranked) (requests_unicast t c.requires.reached);
    }

pub returns : goal.returns
returns c =
    let t : Table = c.args.table.now in
    let span : Extent = record { start = c.args.settings.now.not_before; len = c.args.settings.now.len } in
    let span_is : c.open.new.self.span ≡ span = ap (λ (f : PartMap). f.span) c.in_ok-open.ensures in
    let end_is : c.args.settings.now.not_before + c.from.result ≡ end_of c.open.new.self.span = ap (λ n. c.args.settings.now.not_before + n) c.from.ensures ∙ ap end_of (sym span_is) in
    let served : c.deref_mut.result.now ≡ map lent_flow (due_flows (c.args.settings.now.not_before + c.from.result) t.flows) = c.deref_mut.ensures.value ∙ c.in_ok-copy_due.ensures in
    let ranked : c.deref-2.result.now ≡ ranked_there t = c.deref-2.ensures.value ∙ asked t _ _ _ c.in_ok-by_priority.ensures c.deref.ensures.value c.in_ok-rank_requests.ensures in
    let of : IsOfTable t (end_of c.open.new.self.span) c.row.result.now.channel c.deref_mut.result.now c.deref-2.result.now = record {
      reached = c.requires.reached;
      channel = ap (λ (r : ChannelRow). r.channel) (sym c.row.ensures.row);
      flows_are = ap (map flow_view) served ∙ due_back t (c.args.settings.now.not_before + c.from.result) c.requires.reached ∙ ap (λ n. due_ones t n t.flows) end_is;
      requests_are = ap requests_in ranked ∙ ordered t;
      lasts_are = subst (AllByRecursion (IsOfLast (last_of t))) (sym ranked) (lasts t);
    } in
    let flows_is : (with_items c.copy_due.new.copied c.place_all.new.flows).items ≡ c.place_all.new.flows = with_items_is c.copy_due.new.copied c.place_all.new.flows (omega arith) in
    record {
      span_is = c.place_all.ensures.span ∙ span_is;
      placements = c.in_ok-place_all.ensures.placed t of ∙ ap (λ (s : Extent). (fill_span t s c.args.settings.now).placements) span_is;
      flows = ap (map flow_view) flows_is ∙ c.in_ok-place_all.ensures.flows t of ∙ ap (λ (s : Extent). due_ones t (end_of s) (flows_served t s)) span_is;
      lent = subst (AllByRecursion IsLent) (sym flows_is) c.in_ok-place_all.ensures.lent;
      requests = ap requests_in (sym c.deref-2.ensures.value) ∙ of.requests_are;
      lasts = subst (AllByRecursion (IsOfLast (last_of t))) c.deref-2.ensures.value of.lasts_are;
    }
