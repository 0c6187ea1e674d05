-- A scheduler's MAP has each of its minislots.
use Rattle.std.proofs.Common.{◌≡◌, ◌≢◌, ℕ, zero, suc, ◌<◌, ◌≤◌, ◌==◌, Bool, true, false, cond, IsTrue, List, [], ◌∷◌}
use Rattle.std.proofs.Common.{Some, refl, sym, ap, subst, ◌∙◌, arith, inl, inr, slice_get}
use Rattle.std.proofs.lemmas.Bool.{cases_lt}
use Rattle.std.proofs.lemmas.Option.{same_Some}
use Rattle.std.specs.List.{Contains}
use Rattle.map_body.specs.declared.element.Element.{Element}
use Rattle.map_body.specs.declared.interval.Interval.{Interval}
use Rattle.map_body.specs.Intervals.{intervals, is_null}
use Rattle.map_body.specs.Iucs as iucs
use Rattle.map_body.specs.Rules.{Falls, NoNullBefore}
use Rattle.grant_machine.specs.declared.command.Command.{Command}
use Rattle.grant_machine.specs.declared.output.Output.{Output}
use Rattle.grant_machine.specs.declared.output.Output.TheVariants as outputs
use Rattle.grant_machine.specs.Laws.{MapsAreBodiesFrom}
use Rattle.grant_machine.specs.Owner.{IsMapOf}
use Rattle.grant_machine.specs.Runs.{outputs_from}
use Rattle.plan_account.specs.Cover.{follow}
use Rattle.plan_account.specs.Shown.{shown_by}
use Rattle.plan_account.specs.declared.deed.Deed.{Deed}
use Rattle.plan_account.specs.declared.deed.Deed.TheVariants as deeds
use Rattle.plan_account.specs.Deeds.{IsDeedOf, OutputsHaveDeeds, channel_deed, flow_deed, keep_of, quiet_deed}

-- behind an element that is no Null offsets fall where they fall behind the next one
later_falls : (d : Element) (es : List Element) (i : ℕ) → d.iuc ≢ iucs.null → Falls es i → Falls (d ∷ es) (suc i)
later_falls d es i plain f = record {
  before = f.before;
  here = f.here;
  place = suc f.place;
  next = ap suc f.next;
  before_is = f.before_is;
  here_is = f.here_is;
  below = f.below;
  not_after_null = none;
}
  where
    none : NoNullBefore (d ∷ es) (suc i)
    none zero lt n = plain (ap (λ (e : Element). e.iuc) (same_Some d n.0 n.1) ∙ n.2)
    none (suc k) lt n = f.not_after_null k (omega (arith, lt)) n

-- an offset that is less than the one before it falls
first_falls : (d e : Element) (es : List Element) → d.iuc ≢ iucs.null → e.offset < d.offset → Falls (d ∷ e ∷ es) 1
first_falls d e es plain below = record {
  before = d;
  here = e;
  place = 0;
  next = refl;
  before_is = refl;
  here_is = refl;
  below = below;
  not_after_null = none;
}
  where
    none : NoNullBefore (d ∷ e ∷ es) 1
    none zero lt n = plain (ap (λ (x : Element). x.iuc) (same_Some d n.0 n.1) ∙ n.2)
    none (suc k) lt n = absurd (omega (arith, lt))

-- the Null alone
ends : (d null e : Element) → d ≡ null → d ≡ e → IsTrue (follow e.offset [] null.offset)
ends d null e here first = let same : e.offset ≡ null.offset = ap (λ (x : Element). x.offset) (sym first ∙ here) in grind (arith, same)

-- the intervals from an element on
abbrev from_on : Bool → Element → Element → List Element → List Interval
from_on b d f es = cond b [] (record { sid = d.sid; iuc = d.iuc; from = d.offset; to = f.offset } ∷ intervals (f ∷ es))

one_more : (from to : ℕ) (d f : Element) (es : List Element) → d.offset ≡ from → d.offset ≤ f.offset → IsTrue (follow f.offset (intervals (f ∷ es)) to)
    → IsTrue (follow from (from_on false d f es) to)
one_more from to d f es begins up rest = grind (arith, begins, up, rest)

-- the intervals of elements whose offsets don't fall follow one another, from the first offset to the Null's
follows : (es : List Element) (place : ℕ) (null e : Element) → slice_get es place ≡ Some null → null.iuc ≡ iucs.null → NoNullBefore es place
    → ((i : ℕ) → ¬ Falls es i) → slice_get es 0 ≡ Some e → IsTrue (follow e.offset (intervals es) null.offset)
follows [] place null e here last plain order first = absurd cc
follows (d ∷ []) zero null e here last plain order first = ends d null e (same_Some d null here) (same_Some d e first)
follows (d ∷ []) (suc place) null e here last plain order first = absurd cc
follows (d ∷ f ∷ es) zero null e here last plain order first =
    let is : is_null d ≡ true = ap is_null (same_Some d null here) ∙ ap (λ n. n == iucs.null) last in
    subst (λ (b : Bool). IsTrue (follow e.offset (from_on b d f es) null.offset)) (sym is) (ends d null e (same_Some d null here) (same_Some d e first))
follows (d ∷ f ∷ es) (suc place) null e here last plain order first =
    let off : d.iuc ≢ iucs.null = λ is. plain 0 (omega arith) (d, refl, is) in
    let rest = follows (f ∷ es) place null f here last (λ k lt n. plain (suc k) (omega (arith, lt)) n) (λ i falls. order (suc i) (later_falls d (f ∷ es) i off falls)) refl in
    let up : d.offset ≤ f.offset = elim (cases_lt f.offset d.offset) [ inl lt ↦ absurd (order 1 (first_falls d f es off lt)) | inr ge ↦ ge ] in
    let begins : d.offset ≡ e.offset = ap (λ (x : Element). x.offset) (same_Some d e first) in
    subst (λ (b : Bool). IsTrue (follow e.offset (from_on b d f es) null.offset)) (sym (is_off d off)) (one_more e.offset null.offset d f es begins up rest)
  where
    is_off : (d : Element) → d.iuc ≢ iucs.null → is_null d ≡ false
    is_off d off = grind (arith, off)

-- where one is there is a first one
first_of : (es : List Element) (place : ℕ) (e : Element) → slice_get es place ≡ Some e → (d : Element) × (slice_get es 0 ≡ Some d)
first_of [] place e here = absurd cc
first_of (d ∷ es) place e here = (d, refl)

deed_of_map : (c : Command) (ch start len : ℕ) (bytes : List ℕ) → IsMapOf ch start len bytes → (d : Deed) × IsDeedOf c (outputs.Map ch start len bytes) d
deed_of_map c ch start len bytes m =
    let null = m.null in
    let es : List Element = m.map.elements in
    let first = first_of es null.place null.null null.here_is in
    let all = follows es null.place null.null first.0 null.here_is null.is_null null.first m.body.1.in_order first.1 in
    let from : IsTrue (follow 0 (intervals es) null.null.offset) = subst (λ n. IsTrue (follow n (intervals es) null.null.offset)) (m.begins first.0 first.1) all in
    let whole : IsTrue (follow 0 (intervals es) len) = subst (λ n. IsTrue (follow 0 (intervals es) n)) null.offset_is from in
    (deeds.Map ch start len (keep_of c) (shown_by m.map), (shown_by m.map, (m.map, (0, m.body.0, m.body.1), whole, refl), refl))

deed_of_output : (c : Command) (o : Output) → ((ch start len : ℕ) (bytes : List ℕ) → o ≡ outputs.Map ch start len bytes → IsMapOf ch start len bytes) → (d : Deed) × IsDeedOf c o d
deed_of_output c outputs.Nothing maps = (quiet_deed c, refl)
deed_of_output c (outputs.ChannelSet ch ucd) maps = (channel_deed c ch, refl)
deed_of_output c (outputs.Assigned modem ch sid first last) maps = (flow_deed c modem ch sid first last, refl)
deed_of_output c (outputs.Map ch start len bytes) maps = deed_of_map c ch start len bytes (maps ch start len bytes refl)
deed_of_output c (outputs.Refused number) maps = (deeds.Other, refl)

pub outputs_have_deeds : MapsAreBodiesFrom → OutputsHaveDeeds
outputs_have_deeds bodies opening cs c o firm fits has =
    deed_of_output c o (λ ch start len bytes same. bodies opening cs ch start len bytes firm fits (subst (λ (x : Output). Contains (outputs_from opening cs) x) same has))
