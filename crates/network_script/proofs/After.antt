-- The written world after one node moved.
use Rattle.std.proofs.Common.{◌≡◌, ℕ, [], ◌++◌, append-nil, Option, Some, None, slice_get, slice_set, ◌∙◌}
use Rattle.acceptor.specs.Content.{Write, record_write}
use Rattle.node.specs.View.{View, Standing}
use Rattle.node.specs.View.Standing.{Running, Stopped}
use Rattle.node.specs.Step.{Outcome}
use Rattle.seats.specs.Release.{released, released_all}
use Rattle.seats.specs.Moves.{quiet, whole, lost, gives}
use Rattle.network_script.specs.World.{Written, released_by}
use Rattle.network_script.specs.Next.{after}
use Rattle.network_script.proofs.Lists.{set_again}

-- no letters and no outputs
pub after_write_alone : (w : Written) (k : ℕ) (s : Standing) (write : Option Write)
    → after w k (record { standing = s; letters = []; outputs = []; write = write }) ≡ record w { nodes = slice_set w.nodes k s; history = record_write k write w.history }
after_write_alone w k s write = λ i. record w { nodes = slice_set w.nodes k s; letters = append-nil w.letters i; outputs = append-nil w.outputs i; history = record_write k write w.history }

pub after_quiet : (w : Written) (k : ℕ) (s : Standing) → after w k (quiet s) ≡ record w { nodes = slice_set w.nodes k s }
after_quiet w k s = after_write_alone w k s None

pub after_same : (w : Written) (k : ℕ) (s : Standing) → slice_get w.nodes k ≡ Some s → after w k (quiet s) ≡ w
after_same w k s at = after_quiet w k s ∙ (λ i. record w { nodes = set_again w.nodes k s at i })

pub after_lost : (w : Written) (k : ℕ) (o : Outcome) → after w k (lost o) ≡ record w { nodes = slice_set w.nodes k (Stopped o.view.content None); history = record_write k o.write w.history }
after_lost w k o = after_write_alone w k (Stopped o.view.content None) o.write

pub after_whole : (w : Written) (k : ℕ) (o : Outcome)
    → after w k (whole o) ≡ record w { nodes = slice_set w.nodes k (Running o.view); letters = w.letters ++ o.letters; history = record_write k o.write w.history }
after_whole w k o = λ i. record w { nodes = slice_set w.nodes k (Running o.view); letters = w.letters ++ o.letters; outputs = append-nil w.outputs i; history = record_write k o.write w.history }

pub after_gives : (w : Written) (k : ℕ) (view : View) (now : ℕ)
    → after w k (gives view now) ≡ record w { nodes = slice_set w.nodes k (Running (released_all view)); outputs = w.outputs ++ released_by k (released view now) }
after_gives w k view now = λ i. record w { nodes = slice_set w.nodes k (Running (released_all view)); letters = append-nil w.letters i; outputs = w.outputs ++ released_by k (released view now) }
