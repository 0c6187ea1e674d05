use Rattle.std.proofs.Common.{◌≡◌, ◌+◌, ◌≤◌, ◌<◌, ℕ, length, max, nat_eq, Some, sym, ap, subst, ◌∙◌, arith}
use Rattle.std.specs.List.{range_with_len}
use Rattle.std.specs.Map.{lookup, keys_of}
use Rattle.flow_state.specs.Limits.{last_sid}
use Rattle.indexmap.proofs.CallerLemmas.{insert_entry-new}
use Rattle.flow_state.specs.StoredFlows.{Places, BySid, there}
use Rattle.flow_state.proofs.BySid.{put_in, no_place, put_there, put_behind, sids_behind, given_behind, kept_written}
use Rattle.flow_state.proofs.BySid.{sids_written, on_ok}
use Rattle.flow_state.proofs.by_sid.FlowsBySid.add.Goals as goal

pub invariant_of-self : goal.invariant_of-self
invariant_of-self c = kept_written c.self.inside c.args.self.now c.self.invariant c.self.view_is c.from-place.result (Some c.args.flow)

pub returns-then-place-len-clause-added : goal.returns-then-place-len-clause-added
returns-then-place-len-clause-added c =
    let is : 1 + c.from-place.result ≡ c.args.sid = omega (arith, c.requires.unicast.0) in
    put_there c.self.inside.places.entries c.args.sid c.from-place.result c.args.flow is c.self.invariant.given (omega arith) (ap (λ (m : BySid). lookup (nat_eq c.args.sid) m.entries) c.self.view_is ∙ c.requires.new)
    ∙ ap (λ (m : BySid). put_in c.args.sid c.args.flow m.entries) c.self.view_is

pub returns-then-place-len-clause-sids : goal.returns-then-place-len-clause-sids
returns-then-place-len-clause-sids c =
    let same : length c.self.inside.places.entries ≡ c.args.self.now.sids = ap (λ (m : BySid). m.sids) c.self.view_is in
    sids_written c.self.inside c.args.self.now c.self.invariant c.self.view_is c.from-place.result (Some c.args.flow) ∙ omega (arith, same, c.requires.unicast.0)

-- the next SID
behind : (ps : Places) (now : BySid) (sid place : ℕ) → length ps ≡ now.sids → 1 ≤ sid → sid ≤ now.sids + 1 → 1 + place ≡ sid → length ps ≤ place → 1 + length ps ≡ sid
behind ps now sid place same some next is late = omega (arith, same, some, next, is, late)

pub invariant_of-self-else-place-len : goal.invariant_of-self-else-place-len
invariant_of-self-else-place-len c =
    let same : length c.self.inside.places.entries ≡ c.args.self.now.sids = ap (λ (m : BySid). m.sids) c.self.view_is in
    let is : 1 + length c.self.inside.places.entries ≡ c.args.sid = behind c.self.inside.places.entries c.args.self.now c.args.sid c.from-place.result same c.requires.unicast.0 c.requires.next (omega (arith, c.requires.unicast.0)) (omega arith) in
    let entries = on_ok c.insert-put.result _ (sym c.is_ok.ensures.value ∙ c.if-prove.false) c.insert-put.ensures.entries ∙ insert_entry-new nat_eq c.self.inside.places c.args.sid (Some c.args.flow) (no_place c.self.inside.places.entries c.args.sid is c.self.invariant.given) in
    record {
      given = subst (λ (ps : Places). keys_of ps ≡ range_with_len 1 (length ps)) (sym entries) (given_behind c.self.inside.places.entries c.args.sid (Some c.args.flow) is c.self.invariant.given);
      few = subst (λ (ps : Places). length ps < 65535) (sym entries) (subst (λ n. n < 65535) (sym (sids_behind c.self.inside.places.entries c.args.sid (Some c.args.flow) is)) (let most : c.args.sid ≤ last_sid = c.requires.unicast.1 in omega (arith, most)));
    }

pub returns-else-place-len-clause-added : goal.returns-else-place-len-clause-added
returns-else-place-len-clause-added c =
    let same : length c.self.inside.places.entries ≡ c.args.self.now.sids = ap (λ (m : BySid). m.sids) c.self.view_is in
    let is : 1 + length c.self.inside.places.entries ≡ c.args.sid = behind c.self.inside.places.entries c.args.self.now c.args.sid c.from-place.result same c.requires.unicast.0 c.requires.next (omega (arith, c.requires.unicast.0)) (omega arith) in
    ap there (on_ok c.insert-put.result _ (sym c.is_ok.ensures.value ∙ c.if-prove.false) c.insert-put.ensures.entries ∙ insert_entry-new nat_eq c.self.inside.places c.args.sid (Some c.args.flow) (no_place c.self.inside.places.entries c.args.sid is c.self.invariant.given))
    ∙ put_behind c.self.inside.places.entries c.args.sid c.args.flow is c.self.invariant.given
    ∙ ap (λ (m : BySid). put_in c.args.sid c.args.flow m.entries) c.self.view_is

pub returns-else-place-len-clause-sids : goal.returns-else-place-len-clause-sids
returns-else-place-len-clause-sids c =
    let same : length c.self.inside.places.entries ≡ c.args.self.now.sids = ap (λ (m : BySid). m.sids) c.self.view_is in
    let is : 1 + length c.self.inside.places.entries ≡ c.args.sid = behind c.self.inside.places.entries c.args.self.now c.args.sid c.from-place.result same c.requires.unicast.0 c.requires.next (omega (arith, c.requires.unicast.0)) (omega arith) in
    ap length (on_ok c.insert-put.result _ (sym c.is_ok.ensures.value ∙ c.if-prove.false) c.insert-put.ensures.entries ∙ insert_entry-new nat_eq c.self.inside.places c.args.sid (Some c.args.flow) (no_place c.self.inside.places.entries c.args.sid is c.self.invariant.given))
    ∙ sids_behind c.self.inside.places.entries c.args.sid (Some c.args.flow) is
    ∙ (let most : c.args.sid ≡ max c.args.self.now.sids c.args.sid = omega (arith, same, is) in most)
