-- What a node over files of its own does.
use Rattle.std.specs.Prelude.{◌≡◌, ◌⊎◌, ℕ, Bool, List, IsTrue, if◌then◌else◌, Err}
use Rattle.acceptor.specs.Content.{Content}
use Rattle.acceptor.specs.Found.{Holds}
use Rattle.ballots.specs.Members.{member_count}
use Rattle.ballots.specs.declared.members.Members.{Members}
use Rattle.batched_node.specs.Serves.{ServesBatchedAs}
use Rattle.kept_node.specs.declared.store.WriteStore.{Ghosts as Stores}
use Rattle.node.specs.View.{View, started}
use Rattle.node.specs.View.Standing.{Running}
use Rattle.node_service.specs.Texts.{reply_text}
use Rattle.node_service.specs.declared.batches.BatchedEnd.{BatchedEnd}
use Rattle.node_service.specs.declared.lines.Lines.{Ghosts as Inputs}
use Rattle.node_service.specs.declared.outbox.Outbox.{Ghosts as Outputs}
use Rattle.node_service.specs.declared.outgoing.Reply.TheVariants.{Fresh, Restarted}
use Rattle.stored_nodes.specs.Starts.{BeginsOver}
use Rattle.upsched_ends.specs.declared.fault.Fault.TheVariants.{Memory}
use Rattle.upsched_node.specs.Ends.{write_fault}
use Rattle.upsched_node.specs.First.{TellsFirst, Untouched}
use Rattle.upsched_store.specs.Stops.{IsUnstarted, StopsBy, Told}
use Rattle.upsched_store.specs.declared.crash.CrashCause.{CrashCause}
use Rattle.upsched_store.specs.declared.stored_node_run.Stopped.{Stopped}
use Rattle.upsched_store.specs.declared.stored_node_run.Stopped.TheVariants.{Ended}

-- the first line of a node that is new, or goes on
abbrev pub first_text : Bool → ℕ → Members → List ℕ
first_text is_new id count = reply_text (if is_new then Fresh id count else Restarted id count)

-- a node began over this content: if its store was honest, over one that is found so, and that the store held
pub record HasBegun {W : Type 0} (h : Stores W) (found : Bool → Content → Type 0) (is_new : Bool) (c : Content) : Type 0 where
  pub store : W
  pub over : IsTrue (h.honest store) → BeginsOver found is_new c × Holds (h.may_find store) c

module _ {W I O : Type 0} (h : Stores W) (Tells : W → CrashCause → Type 0) (input : Inputs I) (output : Outputs O) where
  -- node me of so many, which stood so, served all that `serve_batched_member` says, and how that ended is told
  pub record ServesSo (members me : ℕ) (view : View) (told : Told) (i : I) (o : O) (i' : I) (o' : O) : Type 0 where
    pub end : BatchedEnd
    pub store : W
    pub serves : ServesBatchedAs h input output members me (Running view) end i o i' o' store
    pub tells : StopsBy (Tells store) end told

  -- it told its first line, and served; or it couldn't tell that; or it had no memory for its writes
  abbrev pub TellsAndServes : ℕ → ℕ → View → List ℕ → Told → I → O → I → O → Type 0
  TellsAndServes members me view text told i o i' o' =
      TellsFirst output text (λ why. told ≡ Err (Ended (write_fault why))) i o i' o' (λ sent. ServesSo members me view told i sent i' o')
      ⊎ (Untouched i o i' o' × (told ≡ Err (Ended Memory)))

  -- so it ran: it didn't start, which is told, and nothing was read or written; or it began over a content, and served
  abbrev pub RunsStored : (found : Bool → Content → Type 0) → ℕ → Members → Bool → Told → I → O → I → O → Type 0
  RunsStored found id count is_new told i o i' o' =
      ((why : Stopped) × IsUnstarted why × (told ≡ Err why) × Untouched i o i' o')
      ⊎ ((c : Content) × HasBegun h found is_new c
      × TellsAndServes (member_count count) id (started c) (first_text is_new id count) told i o i' o')
