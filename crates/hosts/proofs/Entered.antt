-- The nodes of an epoch that a host goes to.
use Rattle.std.proofs.Common.{◌≡◌, ◌∙◌, ℕ, ◌+◌, ◌-◌, ◌<◌, ◌≤◌, Bool, true, false, cond, eqb, leb, Option, Some, None}
use Rattle.std.proofs.Common.{refl, sym, ap, subst, inl, inr, eqb-true, eq-eqb, le-leb, arith}
use Rattle.std.specs.Prelude.{is_some}
use Rattle.std.proofs.lemmas.Bool.{false_from_ne_true, leb-true}
use Rattle.node.specs.declared.node.Node.{Ghosts as Nodes}
use Rattle.seats.specs.declared.seat.Seat.{Seat}
use Rattle.hosts.specs.Hosts.{has_before, seat_of}
use Rattle.hosts.specs.Joining.{Enters, EntersAs, EntersOver, IsOpenedFor, IsOpenedIn}
use Rattle.hosts.specs.Opened.{IsOpened}
use Rattle.hosts.specs.Opening.{KeepsBeginnings}
use Rattle.hosts.specs.Shifting.{Stays}
use Rattle.hosts.specs.Slots.{slot}
use Rattle.hosts.specs.declared.entering.Opened.{Opened}
use Rattle.hosts.specs.declared.host.Host.{Host}
use Rattle.hosts.specs.declared.opens.Opens.{Ghosts}
use Rattle.hosts.proofs.Openings.{keeps_then}
use Rattle.hosts.proofs.SlotLemmas.{far_each, far_kept, next_each, next_kept, same_inside}

-- what is opened of an epoch and a seat that are these
opened_as : {O N : Type 0} {h : Nodes N} (g : Ghosts O N) (opens : O) (e f : ℕ) (x y : Seat N h) → e ≡ f → x ≡ y → IsOpened g opens e x → IsOpened g opens f y
opened_as {O} {N} {h} g opens e f x y number same is = subst (λ (s : Seat N h). IsOpened g opens f s) same (subst (λ n. IsOpened g opens n x) number is)

-- of the next epoch only the node of the one after is opened
enters_next : {O N : Type 0} {g : Ghosts O N} {h : Nodes N} (old new : Host O N g h) (epoch : ℕ) (last : Seat N h) → KeepsBeginnings g.member g.begins old.opens new.opens → new.number ≡ epoch
    → epoch ≡ old.number + 1 → IsOpened g old.opens (epoch + 1) last → new.before ≡ Some old.own → new.own ≡ old.after → new.after ≡ last → Enters old new epoch
enters_next {O} {N} {g} {h} old new epoch last keeps number is opened before own after = record {
  keeps = keeps;
  number = number;
  before = ap (λ (x : Option (Seat N h)). is_some x) before ∙ sym (le-leb epoch (old.number + 2) (omega (arith, is)));
  kept = λ e seat high at. seats e ∙ next_kept old.number old.before old.own old.after last e seat (omega (arith, high, is)) at;
  each = λ e seat at. elim (next_each old.number old.before old.own old.after last e seat (sym (seats e) ∙ at)) [
    | inl there ↦ inl there
    | inr found ↦ inr (omega (arith, found.0), omega (arith, found.0, is), opened_as g old.opens (epoch + 1) e last seat (omega (arith, is, found.0)) found.1 opened)
  ];
}
  where
    seats : (e : ℕ) → seat_of new e ≡ slot (old.number + 1) (Some old.own) old.after last e
    seats e = let n : new.number ≡ old.number + 1 = number ∙ is in λ i. slot (n i) (before i) (own i) (after i) e

-- of one further above both are
enters_far : {O N : Type 0} {g : Ghosts O N} {h : Nodes N} (old new : Host O N g h) (epoch : ℕ) (seat last : Seat N h) → KeepsBeginnings g.member g.begins old.opens new.opens → new.number ≡ epoch
    → old.number + 1 < epoch → IsOpened g old.opens epoch seat → IsOpened g old.opens (epoch + 1) last → new.before ≡ cond (eqb (epoch - old.number) 2) (Some old.after) None → new.own ≡ seat → new.after ≡ last
    → Enters old new epoch
enters_far {O} {N} {g} {h} old new epoch first last keeps number far opened opened_last before own after = record {
  keeps = keeps;
  number = number;
  before = has (eqb (epoch - old.number) 2) refl;
  kept = λ e seat high at. seats e ∙ far_kept old.number epoch old.before old.own old.after new.before first last e seat far stays high at;
  each = λ e seat at. elim (far_each old.number epoch old.before old.own old.after new.before first last e seat far was (sym (seats e) ∙ at)) [
    | inl there ↦ inl there
    | inr (inl found) ↦ inr (omega (arith, found.0, far), omega (arith, found.0), opened_as g old.opens epoch e first seat (sym found.0) found.1 opened)
    | inr (inr found) ↦ inr (omega (arith, found.0, far), omega (arith, found.0), opened_as g old.opens (epoch + 1) e last seat (sym found.0) found.1 opened_last)
  ];
}
  where
    seats : (e : ℕ) → seat_of new e ≡ slot epoch new.before first last e
    seats e = λ i. slot (number i) new.before (own i) (after i) e

    stays : epoch ≡ old.number + 2 → new.before ≡ Some old.after
    stays is =
        let two : epoch - old.number ≡ 2 = omega (arith, is) in
        before ∙ ap (λ b. cond b (Some old.after) None) (eq-eqb (epoch - old.number) 2 two)

    was : (x : Seat N h) → new.before ≡ Some x → (epoch ≡ old.number + 2) × (old.after ≡ x)
    was x is = by (eqb (epoch - old.number) 2) refl
      where
        by : (b : Bool) → eqb (epoch - old.number) 2 ≡ b → (epoch ≡ old.number + 2) × (old.after ≡ x)
        by true two =
            let gap : epoch - old.number ≡ 2 = eqb-true (epoch - old.number) 2 two in
            (omega (arith, gap), same_inside old.after x (sym (before ∙ ap (λ b. cond b (Some old.after) None) two) ∙ is))
        by false other = let none : None ≡ Some x = sym (before ∙ ap (λ b. cond b (Some old.after) None) other) ∙ is in absurd (cc (none))

    has : (b : Bool) → eqb (epoch - old.number) 2 ≡ b → has_before new ≡ leb epoch (old.number + 2)
    has true two =
        let gap : epoch - old.number ≡ 2 = eqb-true (epoch - old.number) 2 two in
        ap (λ (x : Option (Seat N h)). is_some x) (before ∙ ap (λ b. cond b (Some old.after) None) two) ∙ sym (le-leb epoch (old.number + 2) (omega (arith, gap)))
    has false other =
        ap (λ (x : Option (Seat N h)). is_some x) (before ∙ ap (λ b. cond b (Some old.after) None) other)
        ∙ sym (false_from_ne_true (leb epoch (old.number + 2)) (λ is.
        let le : epoch ≤ old.number + 2 = leb-true epoch (old.number + 2) is in
        let two : epoch - old.number ≡ 2 = omega (arith, le, far) in
        let wrong : true ≡ false = sym (eq-eqb (epoch - old.number) 2 two) ∙ other in
        cc (wrong)))

-- behind the step that opened what was lacking
pub enters : {O N : Type 0} {g : Ghosts O N} {h : Nodes N} (old mid new : Host O N g h) (epoch : ℕ) (opened : Opened N h) → Stays old mid → KeepsBeginnings g.member g.begins mid.opens new.opens → new.number ≡ epoch
    → IsOpenedFor old epoch opened → EntersAs (epoch - mid.number) mid.own mid.after opened new.before new.own new.after → Enters old new epoch
enters {O} {N} {g} {h} old mid new epoch opened stays opens number are over = by opened.own are.own over.0
  where
    keeps : KeepsBeginnings g.member g.begins old.opens new.opens
    keeps = keeps_then g old.opens mid.opens new.opens stays.keeps opens

    by : (o : Option (Seat N h)) → IsOpenedIn old epoch o → EntersOver (epoch - mid.number) mid.own mid.after o new.before new.own → Enters old new epoch
    by None is (before, own) = enters_next old new epoch opened.after keeps number is are.after (before ∙ ap (λ (x : Seat N h). Some x) stays.own) (own ∙ stays.after) over.1
    by (Some seat) is (before, own) =
        enters_far old new epoch seat opened.after keeps number is.0 is.1 are.after
        (before ∙ (λ i. cond (eqb (epoch - stays.number i) 2) (Some (stays.after i)) None)) own over.1
