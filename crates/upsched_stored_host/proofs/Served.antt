-- What is made of what a call that serves says.
use Rattle.std.proofs.Common.{◌≡◌, subst, ℕ, List}
use Rattle.host_service.specs.declared.reply.Beginning.{Beginning}
use Rattle.host_service.specs.declared.reply.Beginning.TheVariants.{Fresh, Restarted, Waits}
use Rattle.hosts.specs.Hosts.{number_of}
use Rattle.hosts.specs.declared.host.Host.{Host}
use Rattle.hosts.specs.declared.opens.Opens.{Ghosts}
use Rattle.node.specs.declared.node.Node.{Ghosts as Nodes}
use Rattle.node_service.specs.Batched.{EndsBatchedBy}
use Rattle.node_service.specs.declared.batches.BatchedEnd.{BatchedEnd}
use Rattle.node_service.specs.declared.batches.BatchedEnd.TheVariants as ends
use Rattle.node_service.specs.declared.keeper.Keeper.{Ghosts as Keepers}
use Rattle.node_service.specs.declared.lines.Lines.{Ghosts as Inputs}
use Rattle.node_service.specs.declared.outbox.Outbox.{Ghosts as Outputs}
use Rattle.upsched_stored_host.specs.Ends.{IsEndOf}
use Rattle.upsched_stored_host.specs.Serving.{IsDigestOf, TellsOf}

-- a node is down where lines ended for that
pub is_end : {A R I O : Type 0} (keeper : Keepers A R) (text : R → List ℕ) (input : Inputs I) (output : Outputs O) (end : BatchedEnd) (a : A) (i : I) (o : O) (a' : A) (i' : I) (o' : O)
    → EndsBatchedBy keeper text input output end a i o a' i' o' → IsEndOf end (keeper.up a')
is_end keeper text input output ends.Input a i o a' i' o' it = tt
is_end keeper text input output ends.Crashed a i o a' i' o' (turns, serves, down) = down
is_end keeper text input output ends.Unreadable a i o a' i' o' it = tt
is_end keeper text input output ends.Uncommitted a i o a' i' o' (turns, waiting, before, rest, sent, told, serves, no_more, fails, down, left, tells) = down
is_end keeper text input output (ends.Unwritten why) a i o a' i' o' it = tt
is_end keeper text input output ends.Spent a i o a' i' o' it = tt

-- what holds of how one begins that goes on, holds of its epoch and its digest
pub of_digest : {O N : Type 0} {g : Ghosts O N} {h : Nodes N} (host : Host O N g h) (Holds : Beginning → Type 0) (begins : Beginning) → TellsOf host begins → Holds begins
    → (digest : List ℕ) × IsDigestOf host digest × Holds (Restarted (number_of host) digest)
of_digest host Holds (Restarted epoch digest) (same, is) holds = (digest, is, subst (λ (e : ℕ). Holds (Restarted e digest)) same holds)
of_digest host Holds Fresh it holds = absurd it
of_digest host Holds Waits it holds = absurd it
