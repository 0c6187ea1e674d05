use Rattle.std.proofs.Common.{◌≡◌, ℕ, not, filter, leb, ltb, List, ap, sym, ◌∙◌, subst, arith}
use Rattle.flow_state.specs.declared.flow.Waiting.{Waiting}
use Rattle.flow_state.specs.Rows.{Table, FlowRow, is_ended}
use Rattle.flow_state.specs.Changes.{close_table}
use Rattle.flow_state.specs.StoredTable.{IsStoredFlow, AreNoted}
use Rattle.flow_state.specs.View.{table_view}
use Rattle.flow_state.proofs.Soundness.{all_filter, sound_closed}
use Rattle.flow_state.proofs.Stored.{AreStored, rows, stored_as, rows_filter, ended_is}
use Rattle.flow_state.proofs.Noted.{noted_from, noted_there, noted_filter}
use Rattle.flow_state.proofs.table.ChannelTable.close_cut.Goals as goal

-- the table with these flows and requests left
abbrev with_left : Table → (end ack : ℕ) → List FlowRow → List Waiting → Table
with_left t end ack fs ws = record { row = record t.row { next_start = end; ack = ack }; leases = t.leases; flows = fs; waiting = ws }

left_same : (t : Table) (end ack : ℕ) (fs gs : List FlowRow) (vs ws : List Waiting) → fs ≡ gs → vs ≡ ws → with_left t end ack fs vs ≡ with_left t end ack gs ws
left_same t end ack fs gs vs ws f w = ap (λ (hs : List FlowRow). with_left t end ack hs vs) f ∙ ap (λ (us : List Waiting). with_left t end ack gs us) w

goes_on : (end last : ℕ) → leb end last ≡ not (ltb last end)
goes_on end last = grind arith

closed : (c : goal.After-self-3-1) → table_view (record { row = record c.self.inside.row { next_start = c.args.end; ack = c.args.ack }; leases = c.self.inside.leases; flows = c.forget_all_ended-self-inside.new.flows; first_end = c.forget_all_ended-self-inside.result; dues = c.settle.new.self; waiting = c.forget_all_ended-self-inside.new.waiting })
    ≡ close_table (table_view c.self.inside) c.args.end c.args.ack
closed c =
    left_same (table_view c.self.inside) c.args.end c.args.ack _ _ _ _
    (ap rows c.forget_all_ended-self-inside.ensures.kept ∙ rows_filter (λ e. leb c.args.end e.1.lease.last) (λ f. not (is_ended c.args.end f)) c.self.inside.flows.entries (λ e s. goes_on c.args.end e.1.lease.last) c.self.invariant.flows)
    (c.forget_all_ended-self-inside.ensures.requests ∙ (λ i. filter (λ w. not (ended_is c.self.inside.flows.entries c.args.end w.sid c.self.invariant.flows i)) c.self.inside.waiting.items))

pub invariant_of-self : goal.invariant_of-self
invariant_of-self c =
    stored_as _ (close_table (table_view c.self.inside) c.args.end c.args.ack)
    (subst AreStored (sym c.forget_all_ended-self-inside.ensures.kept) (all_filter IsStoredFlow IsStoredFlow (λ e. leb c.args.end e.1.lease.last) c.self.inside.flows.entries (λ e k s. s) c.self.invariant.flows))
    (let enough = c.self.invariant.enough in let sids = c.forget_all_ended-self-inside.ensures.sids in omega (arith, enough, sids))
    (noted_from c.forget_all_ended-self-inside.new.dues c.settle.new.self c.forget_all_ended-self-inside.new.flows.entries c.settle.ensures
    (noted_there c.self.inside.dues c.forget_all_ended-self-inside.new.dues c.forget_all_ended-self-inside.new.flows.entries c.forget_all_ended-self-inside.ensures.dues
    (subst (AreNoted c.self.inside.dues) (sym c.forget_all_ended-self-inside.ensures.kept) (noted_filter c.self.inside.dues (λ e. leb c.args.end e.1.lease.last) c.self.inside.flows.entries c.self.invariant.noted))))
    (closed c)
    (sound_closed (table_view c.self.inside) c.args.end c.args.ack c.self.invariant.sound)
    c.forget_all_ended-self-inside.ensures.ends

pub forget_all_ended-self-inside-requires : goal.forget_all_ended-self-inside-requires
forget_all_ended-self-inside-requires c = c.self.invariant.ends

pub returns : goal.returns
returns c = closed c ∙ ap (λ (t : Table). close_table t c.args.end c.args.ack) c.self.view_is
