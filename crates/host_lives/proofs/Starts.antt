-- A host that starts stands where a life begins.
use Rattle.std.proofs.Common.{◌≡◌, ◌∙◌, ◌⊎◌, inl, inr, ⊎_elim, ℕ, ◌+◌, ◌<◌, ◌≤◌, Bool, true, false, cond, eqb, ltb}
use Rattle.std.proofs.Common.{length, Option, Some, None, refl, sym, ap, subst, arith}
use Rattle.std.specs.Prelude.{is_some}
use Rattle.std.proofs.lemmas.Bool.{ltb-true}
use Rattle.std.proofs.lemmas.Bool.Decides.{eqb_tells}
use Rattle.acceptor.specs.Content.{Content}
use Rattle.hosts.specs.Hosts.{StandsAs, has_before, seat_of}
use Rattle.hosts.specs.Slots.{slot}
use Rattle.hosts.specs.Views.{HostView, first_from, number, opening, resuming}
use Rattle.hosts.specs.declared.host.Host.{Host}
use Rattle.hosts.specs.declared.opens.Opens.{Ghosts}
use Rattle.node.specs.View.{Standing, started}
use Rattle.node.specs.View.Standing.{Running}
use Rattle.node.specs.declared.node.Node.{Ghosts as Nodes}
use Rattle.seats.specs.Occupant.{Stands}
use Rattle.seats.specs.declared.seat.Seat.{Seat}
use Rattle.host_lives.specs.Beginning.{nothing}
use Rattle.host_lives.specs.Starting.{StartsLife, StartsNew}

-- what is there is of the window, and not below the first epoch
near_slot : {S : Type 0} (n first : ℕ) (before : Option S) (own after : S) (e : ℕ) (s : S) → first ≤ n → (is_some before ≡ true → first < n) → slot n before own after e ≡ Some s → (first ≤ e) × (e ≤ n + 1)
near_slot {S} n first before own after e s since low at = ⊎_elim (λ is. (omega (arith, is.1, since), omega (arith, is.1))) (λ other. behind other.0) (eqb_tells e n)
  where
    last : eqb e n ≡ false → eqb e (n + 1) ≡ false → cond (eqb (e + 1) n) before None ≡ Some s
    last own_no after_no = sym (ap (λ b. cond b (Some own) (cond (eqb e (n + 1)) (Some after) (cond (eqb (e + 1) n) before None))) own_no
        ∙ ap (λ b. cond b (Some after) (cond (eqb (e + 1) n) before None)) after_no) ∙ at

    behind : eqb e n ≡ false → (first ≤ e) × (e ≤ n + 1)
    behind own_no = ⊎_elim (λ is. (omega (arith, is.1, since), omega (arith, is.1)))
        (λ other. ⊎_elim
        (λ is. let there : before ≡ Some s = sym (ap (λ b. cond b before None) is.0) ∙ last own_no other.0 in
        let below : first < n = low (ap (λ (o : Option S). is_some o) there) in
        (omega (arith, is.1, below), omega (arith, is.1)))
        (λ none. absurd (let wrong : None ≡ Some s = sym (ap (λ b. cond b before None) none.0) ∙ last own_no other.0 in cc (wrong)))
        (eqb_tells (e + 1) n))
        (eqb_tells e (n + 1))

module _ {O N : Type 0} {g : Ghosts O N} {h : Nodes N} (host : Host O N g h) (v : HostView) (stands : StandsAs host v) where
  seat_near : (e : ℕ) (seat : Seat N h) → seat_of host e ≡ Some seat → (v.first ≤ e) × (e ≤ number v + 1)
  seat_near e seat at =
      let low : is_some host.before ≡ true → v.first < host.number =
      λ there. (let below : v.first < number v = ltb-true v.first (number v) (sym stands.before ∙ there) in omega (arith, below, stands.epoch)) in
      let near = near_slot host.number v.first host.before host.own host.after e seat (omega (arith, stands.since, stands.epoch)) low at in
      (near.0, omega (arith, near.1, stands.epoch))

  -- it stands as well where its nodes of the window do
  stands_over : (contents : ℕ → Content) → ((e : ℕ) → v.first ≤ e → e ≤ number v + 1 → v.nodes e ≡ Running (started (contents e)))
      → StandsAs host (record v { nodes = λ e. Running (started (contents e)) })
  stands_over contents same = record {
    epoch = stands.epoch;
    taken = stands.taken;
    cursor = stands.cursor;
    full = stands.full;
    scheduler = stands.scheduler;
    nodes = λ e seat at. (let near = seat_near e seat at in subst (λ (s : Standing). Stands seat s) (same e near.0 near.1) (stands.nodes e seat at));
    some = stands.some;
    since = stands.since;
    before = stands.before;
    states = stands.states;
  }

first_is : (has_before : Bool) (n : ℕ) → (first_from has_before n ≡ n + 1) ⊎ (first_from has_before n ≡ n)
first_is true n = by (ltb 0 n)
  where
    by : (b : Bool) → (cond b n (n + 1) ≡ n + 1) ⊎ (cond b n (n + 1) ≡ n)
    by true = inr refl
    by false = inl refl
first_is false n = inl refl

module _ {O N : Type 0} {g : Ghosts O N} {h : Nodes N} (host : Host O N g h) where
  pub starts_life : StartsLife host
  starts_life opens contents places has_before passed over (found, begun_so, stands) =
      let first : ℕ = first_from has_before (length passed) in
      (stands_over host (resuming places passed first found) stands contents (λ e from to. ap (λ (c : Content). Running (started c)) (over e (found e) (begun_so.begun e from (omega (arith, to))))), first_is has_before (length passed))

  pub starts_new : StartsNew host
  starts_new opens contents over begun_so stands =
      stands_over host (opening contents) stands nothing (λ e from to. ap (λ (c : Content). Running (started c)) (over e (contents e) (begun_so.begun e from (omega (arith, to)))))
