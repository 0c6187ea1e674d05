-- What is seen of a node at its place.
use Rattle.std.proofs.Common.{◌≡◌, ◌<◌, ◌≤◌, ℕ, Bool, true, false, List, Option, Some, None, sym, ap, subst, ◌∙◌}
use Rattle.std.proofs.Common.{length, get_or, slice_get, is_some, arith}
use Rattle.std.proofs.lemmas.Option.{slice_get_past}
use Rattle.node.specs.declared.node.Node.{Ghosts}
use Rattle.ballots.specs.Rows.{at}
use Rattle.node.specs.View.{View, Standing}
use Rattle.node.specs.View.Standing.{Running, Stopped}
use Rattle.proposer.specs.declared.role.Role.{Role}
use Rattle.seats.specs.declared.seat.Seat.{Seat}
use Rattle.seats.specs.Occupant.{Stands}
use Rattle.seats.specs.Seat.{Shown}
use Rattle.network_script.specs.Seats.{AreStandings}
use Rattle.network_script.specs.World.{Written}
use Rattle.network_script.proofs.Callers.{each_at, standings_length}
use Rattle.watched_runs.specs.Posts.{changed, post_at, post_of}
use Rattle.watched_runs.specs.Sights.{has_learned, knows, newly, sight_of}
use Rattle.watched_runs.specs.declared.post.Post.{Post}
use Rattle.watched_runs.specs.declared.post.Post.TheVariants.{Down}
use Rattle.watched_runs.specs.declared.sight.Sight.{Sight}

-- what is said of each standing of a seat is said of the standing at its place
pub said_at : {N : Type 0} {g : Ghosts N} {X : Type 0} (seats : List (Seat N g)) (nodes : List Standing) (k : ℕ) (seat : Seat N g) (x : X) (f : Option Standing → X)
    → AreStandings seats nodes → k < length seats → seat ≡ get_or seats k seat → ((s : Standing) → Stands seat s → x ≡ f (Some s)) → x ≡ f (slice_get nodes k)
said_at {N} {g} seats nodes k seat x f each lt is said =
    let there = each_at (Stands {N = N} {g = g}) seats nodes k seat each lt is in
    rw there.1 (said there.0 there.2)

-- the post of a node that is up is that of its role
pub post_seen : (may : Standing → Type 0) (up : Bool) (s : Standing) (role : Role) (post : Post)
    → up ≡ true → Shown up may s → ((view : View) → may (Running view) → view.role ≡ role) → post ≡ post_of role → post ≡ post_at (Some s)
post_seen may true s role post is (there, view, running) known same =
    rw running (same ∙ ap post_of (sym (known view (subst may running there))))
post_seen may false s role post is shown known same = absurd (cc (is))

-- one that is down is seen so
pub down_seen : (may : Standing → Type 0) (up : Bool) (s : Standing) (post : Post) → up ≡ false → Shown up may s → post ≡ Down → post ≡ post_at (Some s)
down_seen may false s post is (Running view, there, crashed) same = rw crashed same
down_seen may false s post is (Stopped c doubt, there, crashed) same = rw crashed same
down_seen may true s post is shown same = absurd (cc (is))

-- what a node that is up has learned
pub learned_seen : (may : Standing → Type 0) (up : Bool) (s : Standing) (values : List (ℕ × List ℕ)) (place : ℕ) (b : Bool)
    → up ≡ true → Shown up may s → ((view : View) → may (Running view) → view.tally.learned ≡ values) → b ≡ is_some (at values place) → b ≡ has_learned (Some s) place
learned_seen may true s values place b is (there, view, running) known same =
    rw running (same ∙ ap (λ (rows : List (ℕ × List ℕ)). is_some (at rows place)) (sym (known view (subst may running there))))
learned_seen may false s values place b is shown known same = absurd (cc (is))

-- one that is down knows nothing
pub nothing_seen : (may : Standing → Type 0) (up : Bool) (s : Standing) (place : ℕ) (b : Bool) → up ≡ false → Shown up may s → b ≡ false → b ≡ has_learned (Some s) place
nothing_seen may false s place b is (Running view, there, crashed) same = rw crashed same
nothing_seen may false s place b is (Stopped c doubt, there, crashed) same = rw crashed same
nothing_seen may true s place b is shown same = absurd (cc (is))

-- what is seen, part by part
pub sight_is : (seen : Sight) (k : ℕ) (place : Option ℕ) (w w' : Written) (old new : Post) (post : Option Post) (knew known : Bool) (learned : Option ℕ)
    → seen ≡ record { node = k; post = post; learned = learned } → old ≡ post_at (slice_get w.nodes k) → new ≡ post_at (slice_get w'.nodes k) → post ≡ changed old new
    → knew ≡ knows place (slice_get w.nodes k) → known ≡ knows place (slice_get w'.nodes k) → learned ≡ newly place knew known
    → seen ≡ sight_of k place w w'
sight_is seen k place w w' old new post knew known learned is_seen is_old is_new is_post is_knew is_known is_learned =
    is_seen ∙ (λ i. record {
      node = k;
      post = (is_post ∙ ap (λ p. changed p new) is_old ∙ ap (λ p. changed (post_at (slice_get w.nodes k)) p) is_new) i;
      learned = (is_learned ∙ ap (λ b. newly place b known) is_knew ∙ ap (λ b. newly place (knows place (slice_get w.nodes k)) b) is_known) i;
    })

-- the node that isn't there
pub none_at : {N : Type 0} {g : Ghosts N} {X : Type 0} (seats : List (Seat N g)) (nodes : List Standing) (k : ℕ) (x : X) (f : Option Standing → X)
    → AreStandings seats nodes → length seats ≤ k → x ≡ f None → x ≡ f (slice_get nodes k)
none_at {N} {g} seats nodes k x f each past is =
    let size : length nodes ≡ length seats = standings_length seats nodes each in
    rw (slice_get_past nodes k (omega (arith, size, past))) is
