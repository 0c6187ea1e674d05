-- What a call hands out leads to the content after its write.
use Rattle.std.proofs.Common.{◌≡◌, inl, inr, ℕ, zero, suc, ◌+◌, ◌<◌, List, [], ◌∷◌, Option, Some, None, refl, sym, ap}
use Rattle.std.proofs.Common.{subst, ◌∙◌, arith, slice_get}
use Rattle.std.specs.Option.{MatchOption}
use Rattle.std.proofs.lemmas.Bool.{cases_order}
use Rattle.ballots.specs.Rows.{at, put}
use Rattle.ballots.specs.declared.letters.Cast.{Cast}
use Rattle.ballots.proofs.Callers.{at_before, at_here, at_after, put_here, put_after}
use Rattle.acceptor.specs.Content.{AreRowsFrom, Content, Write, after_write}
use Rattle.acceptor.specs.Content.Write.{Tries, Promises, Votes, Learns}
use Rattle.acceptor.proofs.Callers.{rows_put}
use Rattle.node_writes.specs.declared.write_bytes.WriteBytes.{WriteBytes}
use Rattle.node_writes.specs.Writes.{HasStrange, LeadTo, SpellsOf}
use Rattle.told_writes.specs.Writes.{HandsOut}

module _ {V : Type 0} where
  -- nothing stands before the first place
  none_before : (q p : ℕ) (rows : List (ℕ × V)) → p < q → AreRowsFrom q rows → at rows p ≡ None
  none_before q p [] lt are = refl
  none_before q p (row ∷ rows) lt are = at_before row.0 row.1 rows p (omega (arith, lt, are.0)) ∙ none_before (row.0 + 1) p rows (omega (arith, lt, are.0)) are.2

  -- what stands there already changes nothing
  put_again : (q p : ℕ) (v : V) (rows : List (ℕ × V)) → AreRowsFrom q rows → at rows p ≡ Some v → put rows p v ≡ rows
  put_again q p v [] are there = absurd (cc (there))
  put_again q p v (row ∷ rows) are there = elim (cases_order p row.0) [
    | inl is ↦
        let same : v ≡ row.1 = let e : Some v ≡ Some row.1 = sym there ∙ at_here row.0 row.1 rows p is in cc (e) in
        put_here row.0 row.1 rows p v is ∙ ap (λ (w : V). (row.0, w) ∷ rows) same
    | inr (inl before) ↦
        let none : at rows p ≡ None = none_before (row.0 + 1) p rows (omega (arith, before)) are.2 in
        let e : Some v ≡ None = sym there ∙ at_before row.0 row.1 rows p before ∙ none in absurd (cc (e))
    | inr (inr after) ↦
        put_after row.0 row.1 rows p v after
        ∙ ap (λ (rest : List (ℕ × V)). row ∷ rest) (put_again (row.0 + 1) p v rows are.2 (sym (at_after row.0 row.1 rows p after) ∙ there))
  ]

-- none of the writes that lead on is strange
pub never_strange : (id : ℕ) (rs : List WriteBytes) (c last : Content) → LeadTo id rs c last → ¬ HasStrange id rs
never_strange id rs c last led has = at_none rs c led has.0 has.1
  where
    at_none : (rs : List WriteBytes) (c : Content) → LeadTo id rs c last → (k : ℕ) → ¬ MatchOption (slice_get rs k) ⊥ (λ r. (write : Option Write) → ¬ SpellsOf id r write)
    at_none [] c led k strange = strange
    at_none (r ∷ rs) c led zero strange = strange led.0 led.1
    at_none (r ∷ rs) c led (suc k) strange = at_none rs (after_write c led.0) led.2 k strange

-- votes stay in order
rows_after : (id : ℕ) (r : WriteBytes) (write : Option Write) (c : Content) → SpellsOf id r write → AreRowsFrom 1 c.votes → AreRowsFrom 1 (after_write c write).votes
rows_after id r None c spells are = are
rows_after id r (Some (Tries b)) c spells are = are
rows_after id r (Some (Promises b)) c spells are = are
rows_after id r (Some (Votes p cast)) c spells are = let place = spells.2.2.1 in rows_put 1 p cast c.votes place.0 place.1 are
rows_after id r (Some (Learns p v)) c spells are = are

pub lead_rows : (id : ℕ) (rs : List WriteBytes) (c last : Content) → LeadTo id rs c last → AreRowsFrom 1 c.votes → AreRowsFrom 1 last.votes
lead_rows id [] c last led are = subst (λ (d : Content). AreRowsFrom 1 d.votes) (sym led) are
lead_rows id (r ∷ rs) c last led are = lead_rows id rs (after_write c led.0) last led.2 (rows_after id r led.0 c led.1 are)

-- what is handed out leads to the content after the write, since a vote that stands there already changes nothing
pub hands_on : (id : ℕ) (c : Content) (write : Option Write) (r : WriteBytes) → HandsOut id c write r → AreRowsFrom 1 c.votes → LeadTo id (r ∷ []) c (after_write c write)
hands_on id c write r (inl spells) are = (write, spells, refl)
hands_on id c write r (inr again) are =
    let vote = again.1 in
    let stays : after_write c (Some (Votes vote.0 vote.1)) ≡ c = ap (λ (votes : List (ℕ × Cast)). record c { votes = votes }) (put_again 1 vote.0 vote.1 c.votes are vote.2) in
    (Some (Votes vote.0 vote.1), vote.3, ap (λ (w : Option Write). after_write c w) again.0 ∙ sym stays)
