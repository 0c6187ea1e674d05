-- The tables of deeds, with one deed more.
use Rattle.std.proofs.Common.{◌≡◌, ℕ, ◌-◌, ◌==◌, if◌then◌else◌, List, [], ◌∷◌, ◌++◌, Option, None, Result, Ok, Err}
use Rattle.std.proofs.Common.{OnOk, refl, sym, ap, ◌∙◌, append-nil, append_assoc}
use Rattle.std.proofs.lemmas.Grind.{flat_map-append}
use Rattle.std.proofs.lemmas.List.Sums.{fold-append}
use Rattle.std.specs.List.{flat_map, fold}
use Rattle.map_body.specs.declared.interval.Interval.{Interval}
use Rattle.map_body.specs.Sids.{everybody}
use Rattle.plan_account.specs.declared.deed.Deed.{Deed}
use Rattle.plan_account.specs.declared.deed.Deed.TheVariants as deeds
use Rattle.plan_account.specs.declared.flows.Flows.{Flows}
use Rattle.plan_account.specs.FlowsHeld.{HoldsFlows, since_at, since_in}
use Rattle.plan_account.specs.Happenings.{key_of}
use Rattle.plan_account.specs.Pasts.{At}
use Rattle.map_stats.specs.declared.stats.Stats.{Stats}
use Rattle.map_stats.specs.declared.tally.Tally.{Tally}
use Rattle.map_stats.specs.Tallies.{tally_step, tally_at}
use Rattle.map_stats.specs.Given.{maps_in, uses_in, sids_in, maps_of, uses_of, sid_given, sid_key}
use Rattle.map_stats.specs.Given.{sids_from, sids_of, since_behind}
use Rattle.map_stats.specs.Held.{Holds, AddsDeed}

-- what is seen at a key goes on from what was given before
goes_on : (q : ℕ) (had more whole : List (ℕ × ℕ)) (before after : Option Tally) → whole ≡ had ++ more → before ≡ tally_at had q
    → after ≡ fold (tally_step q) before more → after ≡ tally_at whole q
goes_on q had more whole before after all was is =
    is ∙ ap (λ (t : Option Tally). fold (tally_step q) t more) was ∙ sym (fold-append (tally_step q) None had more)
    ∙ ap (λ (gs : List (ℕ × ℕ)). tally_at gs q) (sym all)

one_more : (given : Deed → List (ℕ × ℕ)) (ds : List Deed) (d : Deed) → flat_map given (ds ++ d ∷ []) ≡ flat_map given ds ++ given d
one_more given ds d = flat_map-append given ds (d ∷ []) ∙ ap (λ (gs : List (ℕ × ℕ)). flat_map given ds ++ gs) (append-nil (given d))

-- the same of those of SIDs, which have the leases of the deeds before
sid_more : (before ds : List Deed) (d : Deed) → sids_from before (ds ++ d ∷ []) ≡ sids_from before ds ++ sids_in (since_behind (before ++ ds)) d
sid_more before [] d =
    append-nil (sids_in (since_behind before) d) ∙ ap (λ (front : List Deed). sids_in (since_behind front) d) (sym (append-nil before))
sid_more before (e ∷ ds) d =
    ap (λ (gs : List (ℕ × ℕ)). sids_in (since_behind before) e ++ gs)
    (sid_more (before ++ e ∷ []) ds d
    ∙ ap (λ (front : List Deed). sids_from (before ++ e ∷ []) ds ++ sids_in (since_behind front) d) (append_assoc before (e ∷ []) ds))
    ∙ sym (append_assoc (sids_in (since_behind before) e) (sids_from (before ++ e ∷ []) ds) (sids_in (since_behind (before ++ e ∷ ds)) d))

-- it is the same by the tables
one_given : (f g : ℕ → ℕ) → ((q : ℕ) → f q ≡ g q) → (ch : ℕ) (i : Interval) → sid_given f ch i ≡ sid_given g ch i
one_given f g same ch i =
    ap (λ (since : ℕ). if i.sid == everybody then [] else (sid_key ch i.sid since i.iuc, i.to - i.from) ∷ []) (same (key_of ch i.sid))

same_given : (f g : ℕ → ℕ) → ((q : ℕ) → f q ≡ g q) → (ch : ℕ) (is : List Interval) → flat_map (sid_given f ch) is ≡ flat_map (sid_given g ch) is
same_given f g same ch [] = refl
same_given f g same ch (i ∷ is) =
    ap (λ (gs : List (ℕ × ℕ)). gs ++ flat_map (sid_given f ch) is) (one_given f g same ch i)
    ∙ ap (λ (gs : List (ℕ × ℕ)). sid_given g ch i ++ gs) (same_given f g same ch is)

same_sids : (f g : ℕ → ℕ) → ((q : ℕ) → f q ≡ g q) → (d : Deed) → sids_in f d ≡ sids_in g d
same_sids f g same (deeds.Map ch start len keep m) = same_given f g same ch m.intervals
same_sids f g same (deeds.Channel ch) = refl
same_sids f g same (deeds.Flow ch sid modem first last kind) = refl
same_sids f g same (deeds.Drop ch sid) = refl
same_sids f g same (deeds.Request ch sid n sent) = refl
same_sids f g same deeds.Other = refl

since_is : (ds : List Deed) (f : Flows) → HoldsFlows ds f → (q : ℕ) → since_in f q ≡ since_behind ds q
since_is ds f flows q = ap (λ (at : At). since_at at.past) (flows.at q)

pub holds_more : (ds : List Deed) (d : Deed) (f : Flows) (s t : Stats) → Holds ds s → HoldsFlows ds f → AddsDeed (since_in f) d s t → Holds (ds ++ d ∷ []) t
holds_more ds d f s t held flows adds = record {
  maps = λ q. goes_on q (maps_of ds) (maps_in d) _ _ _ (one_more maps_in ds d) (held.maps q) (adds.maps q);
  uses = λ q. goes_on q (uses_of ds) (uses_in d) _ _ _ (one_more uses_in ds d) (held.uses q) (adds.uses q);
  sids = λ q. goes_on q (sids_of ds) (sids_in (since_in f) d) _ _ _ whole (held.sids q) (adds.sids q);
}
  where
    whole : sids_of (ds ++ d ∷ []) ≡ sids_of ds ++ sids_in (since_in f) d
    whole = sid_more [] ds d ∙ ap (λ (gs : List (ℕ × ℕ)). sids_of ds ++ gs) (sym (same_sids (since_in f) (since_behind ds) (since_is ds f flows) d))

-- the same of a call that may have failed
pub holds_if_ok : {T E : Type 0} (r : Result T E) (d : Deed) (f : Flows) (s t : Stats) → OnOk r (AddsDeed (since_in f) d s t)
    → OnOk r ((ds : List Deed) → Holds ds s → HoldsFlows ds f → Holds (ds ++ d ∷ []) t)
holds_if_ok (Err e) d f s t adds = tt
holds_if_ok (Ok x) d f s t adds = λ ds held flows. holds_more ds d f s t held flows adds
