-- Lines that a host does together before its records keep what came of them, and is killed.
use Rattle.std.specs.Prelude.{◌≡◌, ◌⊎◌, ℕ, Bool, true, if◌then◌else◌, List, [], ◌∷◌, ◌++◌, map, filter, All}
use Rattle.acceptor.specs.Content.{Content}
use Rattle.hosts.specs.Views.{HostView}
use Rattle.host_service.specs.Serving.{ActsAs, TurnsAway}
use Rattle.host_service.specs.declared.reply.HostReply.{HostReply}
use Rattle.host_service.specs.declared.reply.HostReply.TheVariants.{InEpoch, AsNode}
use Rattle.node_lines.specs.declared.fault.LineFault.{LineFault}
use Rattle.node_service.specs.declared.outgoing.Reply.TheVariants as reply
use Rattle.host_lives.specs.Beginning.{LivesFrom, LivesThen}
use Rattle.host_lives.specs.Turns.{HostEvent, HostTurn}
use Rattle.host_lives.specs.Turns.HostEvent.{Replied}

-- a reply may wait for a commit: it is one in an epoch, or the line asked nothing
abbrev pub MayWait : HostReply → Type 0
MayWait (InEpoch n acted) = Unit {0}
MayWait (AsNode told) = (why : LineFault) × (told ≡ reply.Refused why)
MayWait other = ⊥

-- what came of a line was kept, where the records of these epochs were; a line that asked nothing left nothing to keep
abbrev pub is_kept : (ℕ → Bool) → HostReply → Bool
is_kept kept (InEpoch n acted) = kept n.epoch
is_kept kept other = true

-- the lines that were kept
abbrev pub kept_of : (ℕ → Bool) → List HostTurn → List HostTurn
kept_of kept batch = filter (λ t. is_kept kept t.reply) batch

-- host me, which stood at v, did so what a line asked behind a number, or nothing
abbrev pub DoesSo : (members me places : ℕ) → HostView → HostTurn → HostView → Type 0
DoesSo members me places v t v' = ActsAs members me places v t.line t.reply v' ⊎ TurnsAway places v t.line t.reply v'

-- so it did lines, one after another
abbrev pub AreDone : (members me places : ℕ) → HostView → List HostTurn → HostView → Type 0
AreDone members me places v [] v' = v' ≡ v
AreDone members me places v (t ∷ batch) v' = (between : HostView) × DoesSo members me places v t between × AreDone members me places between batch v'

-- the nodes of the epochs that were kept stand as at v', the others still as at v; all else is as at both
pub record IsKeptOf (kept : ℕ → Bool) (v v' u : HostView) : Type 0 where
  pub passed : (v'.passed ≡ v.passed) × (u.passed ≡ v.passed)
  pub own : (v'.own ≡ v.own) × (u.own ≡ v.own)
  pub cursor : (v'.cursor ≡ v.cursor) × (u.cursor ≡ v.cursor)
  pub first : (v'.first ≡ v.first) × (u.first ≡ v.first)
  pub nodes : (e : ℕ) → u.nodes e ≡ if kept e then v'.nodes e else v.nodes e

-- whatever epochs' records kept of lines that a host did together: a host did the lines that were kept, and no other
abbrev pub KeptLinesAreDone : Type 0
KeptLinesAreDone =
    (members me places : ℕ) (v v' : HostView) (batch : List HostTurn) (kept : ℕ → Bool) → AreDone members me places v batch v'
    → (u : HostView) × AreDone members me places v (kept_of kept batch) u × IsKeptOf kept v v' u

-- so where lives end with such lines, there are lives that end with those that were kept
abbrev pub KeptLinesAreLives : Type 0
KeptLinesAreLives =
    (members me places : ℕ) (contents : ℕ → Content) (v : HostView) (happened : List HostEvent) (batch : List HostTurn) (kept : ℕ → Bool)
    → All (λ t. MayWait t.reply) batch → LivesFrom members me places contents v (happened ++ map (λ t. Replied t) batch)
    → LivesFrom members me places contents v (happened ++ map (λ t. Replied t) (kept_of kept batch))

-- a host did such lines, and lives on from wherever the lines that were kept bring it
pub record GoesOnKept (members me places : ℕ) (batch : List HostTurn) (kept : ℕ → Bool) (later : List HostEvent) (contents : ℕ → Content) (v : HostView)
    : Type 0 where
  pub came : HostView
  pub done : AreDone members me places v batch came
  pub lives : (u : HostView) → IsKeptOf kept v came u → LivesFrom members me places contents u later

-- and where it goes on so behind them, as where it begins again over what was kept, it lives so over the lines that
-- were kept
abbrev pub KeptLinesGoOn : Type 0
KeptLinesGoOn =
    (members me places : ℕ) (contents : ℕ → Content) (v : HostView) (happened later : List HostEvent) (batch : List HostTurn) (kept : ℕ → Bool)
    → LivesThen members me places contents v happened (GoesOnKept members me places batch kept later)
    → LivesFrom members me places contents v (happened ++ (map (λ t. Replied t) (kept_of kept batch) ++ later))

-- and what lives begin with are lives
abbrev pub BeginningsAreLives : Type 0
BeginningsAreLives =
    (members me places : ℕ) (contents : ℕ → Content) (v : HostView) (happened later : List HostEvent)
    → LivesFrom members me places contents v (happened ++ later) → LivesFrom members me places contents v happened
