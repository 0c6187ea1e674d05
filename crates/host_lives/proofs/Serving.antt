-- A host that serves lives.
use Rattle.std.proofs.Common.{◌≡◌, ◌⊎◌, inl, inr, ℕ, List, [], ◌∷◌}
use Rattle.acceptor.specs.Content.{Content}
use Rattle.hosts.specs.Views.{GoesFrom, HostView, Releases}
use Rattle.hosts.specs.declared.acted.Given.{Given}
use Rattle.hosts.specs.declared.acted.Given.TheVariants.{Outputs, Failed}
use Rattle.host_service.specs.Replying.{fault_reply}
use Rattle.host_service.specs.Serving.{AloneAs, GoesToState, IsToldAt, LivesAs, RepliesAs}
use Rattle.host_service.specs.declared.reply.HostReply.{HostReply}
use Rattle.host_service.specs.declared.reply.HostReply.TheVariants.{NoState}
use Rattle.node_service.specs.declared.lines.Lines.{Ghosts as Inputs}
use Rattle.node_service.specs.declared.outbox.Outbox.{Ghosts as Outboxes}
use Rattle.proposer.specs.declared.fault.NodeFault.{NodeFault}
use Rattle.proposer.specs.declared.fault.NodeFault.TheVariants.{OutOfMemory}
use Rattle.host_lives.specs.Beginning.{AnyFault, Hold, new_host, nothing}
use Rattle.host_lives.specs.Served.{BeginOver, LifeIsLived, ServingIsLiving, ServingNewIsLiving}

-- what fails so fails, and what begins so begins over what the records hold
module _ (begins : ℕ → Content → Type 0) (may_fail : NodeFault → Type 0) (contents : ℕ → Content) (over : BeginOver begins contents) where
  held_from : (places : ℕ) (v w : HostView) → GoesFrom begins places v w → GoesFrom (Hold contents) places v w
  held_from places v w (inl (passed, (c, begun, same))) = inl (passed, (c, over _ c begun, same))
  held_from places v w (inr stays) = inr stays

  any_releases : (places : ℕ) (v : HostView) (now : ℕ) (given : Given) (v' : HostView) → Releases begins may_fail places v now given v' → Releases (Hold contents) AnyFault places v now given v'
  any_releases places v now (Outputs outputs epoch place) v' (w, goes, rest) = (w, held_from places v w goes, rest)
  any_releases places v now (Failed fault) v' (inl (passed, fails, same)) = inl (passed, tt, same)
  any_releases places v now (Failed fault) v' (inr (w, goes, rest)) = inr (w, held_from places v w goes, rest)

  any_goes : (members me places : ℕ) (v : HostView) (line : List ℕ) (told : HostReply) (past : IsToldAt members places line told) (v' : HostView)
      → GoesToState begins members places v line told past v' → GoesToState (Hold contents) members places v line told past v'
  any_goes members me places v line told past v' goes = record {
    bytes = goes.bytes;
    epoch = goes.epoch;
    gives = goes.gives;
    told = goes.told;
    above = goes.above;
    is = goes.is;
    contents = goes.contents;
    begun = record { begun = λ e from to. over e (goes.contents e) (goes.begun.begun e from to); others = goes.begun.others };
    moves = goes.moves;
  }

  any_alone : (members me places : ℕ) (v : HostView) (line : List ℕ) (told : HostReply) (past : IsToldAt members places line told) (v' : HostView)
      → AloneAs begins may_fail members me places v line told past v' → AloneAs (Hold contents) AnyFault members me places v line told past v'
  any_alone members me places v line told past v' (inl states) = inl states
  any_alone members me places v line told past v' (inr (inl again)) = inr (inl again)
  any_alone members me places v line told past v' (inr (inr (inl goes))) = inr (inr (inl (any_goes members me places v line told past v' goes)))
  any_alone members me places v line told past v' (inr (inr (inr stays))) =
      inr (inr (inr (record { bytes = stays.bytes; gives = stays.gives; told = any_fault stays.told; same = stays.same })))
    where
      any_fault : (told ≡ NoState) ⊎ ((why : NodeFault) × (may_fail why ⊎ (why ≡ OutOfMemory)) × (told ≡ fault_reply why))
          → (told ≡ NoState) ⊎ ((why : NodeFault) × (AnyFault why ⊎ (why ≡ OutOfMemory)) × (told ≡ fault_reply why))
      any_fault (inl none) = inl none
      any_fault (inr (why, fails, is)) = inr (why, inl tt, is)

  any_replies : (members me places : ℕ) (v : HostView) (line : List ℕ) (told : HostReply) (past : IsToldAt members places line told) (v' : HostView)
      → RepliesAs begins may_fail members me places v line told past v' → RepliesAs (Hold contents) AnyFault members me places v line told past v'
  any_replies members me places v line told past v' (inl acts) = inl acts
  any_replies members me places v line told past v' (inr (inl r)) =
      inr (inl (record { now = r.now; given = r.given; asks = r.asks; moves = any_releases places v r.now r.given v' r.moves; told = r.told }))
  any_replies members me places v line told past v' (inr (inr (inl asked))) = inr (inr (inl (any_alone members me places v line told past v' asked)))
  any_replies members me places v line told past v' (inr (inr (inr away))) = inr (inr (inr away))

  any_lives : (members me places : ℕ) (v : HostView) (turns : List (List ℕ × HostReply)) → LivesAs begins may_fail members me places v turns → LivesAs (Hold contents) AnyFault members me places v turns
  any_lives members me places v [] lives = tt
  any_lives members me places v (turn ∷ turns) lives = λ past.
      let one = lives past in
      (one.0, any_replies members me places v turn.0 turn.1 past one.0 one.1, any_lives members me places one.0 turns one.2)

pub serving_lives : {S I P : Type 0} (begins : S → ℕ → Content → Type 0) (may_fail : NodeFault → Type 0) (input : Inputs I) (output : Outboxes P) → ServingIsLiving begins may_fail input output
serving_lives begins may_fail input output opens contents members me places v end i o i' o' over serves =
    (serves.turns, any_lives (begins opens) may_fail contents over members me places v serves.turns serves.lives, serves.ends)

pub serving_new : {S I P : Type 0} (begins : S → ℕ → Content → Type 0) (may_fail : NodeFault → Type 0) (input : Inputs I) (output : Outboxes P) → ServingNewIsLiving begins may_fail input output
serving_new begins may_fail input output opens members me places end i o i' o' over serves =
    serving_lives begins may_fail input output opens nothing members me places new_host end i o i' o' over serves

pub life_lived : LifeIsLived
life_lived members me places contents v [] lives = tt
life_lived members me places contents v (turn ∷ turns) lives = λ past. let one = lives past in (one.0, one.1, life_lived members me places contents one.0 turns one.2)
