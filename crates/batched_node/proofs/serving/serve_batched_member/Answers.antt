use Rattle.std.proofs.Common.{◌≡◌, ◌<◌, false, refl, vec_capacity}
use Rattle.acceptor.specs.declared.records.RecordsFault.{RecordsFault}
use Rattle.kept_node.specs.Noted.{FailsToStore, HasRoom, IsKept}
use Rattle.batched_node.specs.Noted.{IsAllNoted, RepliesBy, fault_of}
use Rattle.batched_node.proofs.Ending.{served}
use Rattle.seats.specs.Occupant.{is_up, node_of, who_of}
use Rattle.batched_node.proofs.serving.serve_batched_member.Goals as goal

pub returns : goal.returns
returns g c =
    let h = g.W.WriteStore in
    served c.args.seat.now c.args.input.now c.args.output.now c.serve_batched.new.keeper c.serve_batched.new.input c.serve_batched.new.output (λ b. b.seat) (λ b. b.noted.store) (λ n. n.parts)
    (record { stands = λ n s h. h; stood = λ n s h. h; who = λ n. refl; values = λ n. refl; honest = λ n. refl }) h
    (record {
      up = λ b. is_up b.seat;
      replies = λ old came given new. RepliesBy old.seat came given new.seat × (new.noted.store ≡ old.noted.store);
      is_apart = λ line. false;
      has_noted = λ b. IsAllNoted h b.noted (who_of b.seat) (node_of b.seat).parts.records × (0 < vec_capacity b.noted.waiting);
      has_room = λ b. HasRoom b.noted;
      has_kept = λ b. IsKept h b.noted.store (node_of b.seat).parts.records;
      commits = λ old new. new.seat ≡ old.seat;
      fails = λ old given new. (why : RecordsFault) × (given ≡ fault_of why) × FailsToStore h why old.noted.store new.noted.store (node_of old.seat).parts.records;
      may_tell = λ told given. false;
      leaves = λ b given. ⊥;
    })
    (record { up = λ a. refl; replies = λ a came given b r. r; commits = λ a b r. r; apart = λ line. refl; kept = λ a r. r; untold = λ given other. refl; fails = λ a given b r. r })
    g.I.Lines g.O.Outbox c.serve_batched.result c.serve_batched.ensures
