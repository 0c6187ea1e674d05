use Rattle.std.proofs.Common.{◌≡◌, ◌+◌, ◌≤◌, ◌<◌, length, nat_eq, sym, ap, subst, ◌∙◌, ◌∷◌, ◌++◌, [], arith, None}
use Rattle.std.specs.List.{range_with_len}
use Rattle.std.specs.Map.{keys_of}
use Rattle.flow_state.specs.Limits.{last_sid}
use Rattle.indexmap.proofs.CallerLemmas.{insert_entry-new}
use Rattle.flow_state.specs.StoredFlows.{Places, BySid, there}
use Rattle.flow_state.proofs.BySid.{no_place, sids_behind, given_behind}
use Rattle.flow_state.proofs.Filling.{there_empty}
use Rattle.flow_state.proofs.by_sid.FlowsBySid.make_place.Goals as goal

-- the SID is the next one
next : (c : goal.In_ok-insert) → 1 + length c.self.inside.places.entries ≡ c.args.sid
next c =
    let same : length c.self.inside.places.entries ≡ c.args.self.now.sids = ap (λ (m : BySid). m.sids) c.self.view_is in
    let len = c.len.ensures.len in
    let most = c.requires.next in
    omega (arith, same, len, most)

entries : (c : goal.In_ok-insert) → c.insert.new.self.entries ≡ c.self.inside.places.entries ++ (c.args.sid, None) ∷ []
entries c =
    c.in_ok-insert.ensures.entries
    ∙ insert_entry-new nat_eq c.self.inside.places c.args.sid None (no_place c.self.inside.places.entries c.args.sid (next c) c.self.invariant.given)

pub invariant_of-self : goal.invariant_of-self
invariant_of-self c = record {
  given = subst (λ (ps : Places). keys_of ps ≡ range_with_len 1 (length ps)) (sym (entries c)) (given_behind c.self.inside.places.entries c.args.sid None (next c) c.self.invariant.given);
  few =
      let most : c.args.sid ≤ last_sid = c.requires.unicast.1 in
      subst (λ (ps : Places). length ps < 65535) (sym (entries c)) (subst (λ n. n < 65535) (sym (sids_behind c.self.inside.places.entries c.args.sid None (next c))) (omega (arith, most)));
}

pub returns-in_ok-insert-clause-made : goal.returns-in_ok-insert-clause-made
returns-in_ok-insert-clause-made c =
    let long = sids_behind c.self.inside.places.entries c.args.sid None (next c) in
    subst (λ (ps : Places). c.args.sid ≤ length ps) (sym (entries c)) (omega (arith, long))

pub returns-in_ok-insert-clause-kept : goal.returns-in_ok-insert-clause-kept
returns-in_ok-insert-clause-kept c = ap there (entries c) ∙ there_empty c.self.inside.places.entries c.args.sid ∙ ap (λ (m : BySid). m.entries) c.self.view_is
