-- A host that ended or was killed, and begins again over what it left.
use Rattle.std.specs.Prelude.{◌≡◌, ◌⊎◌, ℕ, ◌+◌, true, List, [], ◌∷◌, length, Option, Some, None}
use Rattle.acceptor.specs.Content.{Content, after_write, no_content}
use Rattle.hosts.specs.Views.{HostView, is_passed, known, opening, resuming}
use Rattle.host_service.specs.Serving.{IsToldAt, IsToldState, LivesAs, RepliesAs}
use Rattle.host_service.specs.declared.reply.HostReply.{HostReply}
use Rattle.node.specs.View.{Standing}
use Rattle.node.specs.View.Standing.{Running, Stopped}
use Rattle.proposer.specs.declared.fault.NodeFault.{NodeFault}
use Rattle.host_lives.specs.Turns.{HostEvent}
use Rattle.host_lives.specs.Turns.HostEvent.{Replied, Began}

-- a node may fail to open with whatever fault
abbrev pub AnyFault : NodeFault → Type 0
AnyFault fault = Unit {0}

-- the records of each epoch hold this where they are opened
abbrev pub Hold : (ℕ → Content) → ℕ → Content → Type 0
Hold contents e c = c ≡ contents e

-- records that hold nothing, and a host as it begins over them
abbrev pub nothing : ℕ → Content
nothing = λ e. no_content

abbrev pub new_host : HostView
new_host = opening nothing

-- host me of so many, with so many places in an epoch, over records that hold this, replied so to these lines, from
-- where it stood at v on
abbrev pub IsLifeFrom : (members me places : ℕ) → (contents : ℕ → Content) → HostView → List (List ℕ × HostReply) → Type 0
IsLifeFrom members me places contents v turns = LivesAs (Hold contents) AnyFault members me places v turns

-- the same from its beginning over records that hold nothing on
abbrev pub IsLife : (members me places : ℕ) → List (List ℕ × HostReply) → Type 0
IsLife members me places turns = IsLifeFrom members me places nothing new_host turns

-- what a node left that stood so: its content; or, where nobody knows of a write whether it was made, that behind it
abbrev pub IsLeft : Standing → Content → Type 0
IsLeft (Running view) c = c ≡ view.content
IsLeft (Stopped d doubt) c = (c ≡ d) ⊎ (c ≡ after_write d doubt)

-- a host begins so: its node of each epoch over these contents, behind these full epochs, and this is the first epoch
-- of which it has a node
pub record NewLife : Type 0 where
  pub contents : ℕ → Content
  pub passed : List (List (List ℕ))
  pub first : ℕ

-- where it is then: it took up nothing of its own epoch, and gave all outputs before it
abbrev pub begun : ℕ → NewLife → HostView
begun places life = resuming places life.passed life.first life.contents

-- the state that a host was given, if any, is the one behind full epochs, as some member tells it
abbrev pub IsGivenState : (members places : ℕ) → Option (List ℕ) → Type 0
IsGivenState members places None = Unit {0}
IsGivenState members places (Some bytes) = IsToldState members places bytes

-- behind these epochs a host begins again that stood at v: those of the state that it was given; or, where it was given
-- none, those that it had passed, also its own one where it gave all of that
abbrev pub IsBehindAgain : (members places : ℕ) → HostView → (given : Option (List ℕ)) → IsGivenState members places given → List (List (List ℕ)) → Type 0
IsBehindAgain members places v None past passed = (passed ≡ v.passed) ⊎ ((is_passed places v ≡ true) × (passed ≡ known v))
IsBehindAgain members places v (Some bytes) past passed = passed ≡ past.passed

-- it has the node of its own epoch first, or of the one before
abbrev pub IsFirst : NewLife → Type 0
IsFirst life = (life.first ≡ length life.passed + 1) ⊎ (life.first ≡ length life.passed)

-- a host that stood at v ended or was killed, and begins again so: its node of each epoch over what that left, also
-- those that it opens later
pub record BeginsAgain (members places : ℕ) (v : HostView) (given : Option (List ℕ)) (past : IsGivenState members places given) (life : NewLife) : Type 0 where
  pub left : (e : ℕ) → IsLeft (v.nodes e) (life.contents e)
  pub behind : IsBehindAgain members places v given past life.passed
  pub first : IsFirst life

-- host me of so many members, over records that hold this, which stands at v, replies so to its lines, and begins again
-- over what it left, as long as each state to which it went, or behind which it began, was told so; and then this is so
-- of what its records held as it last began, and of where it stands
abbrev pub LivesThen : (members me places : ℕ) → (contents : ℕ → Content) → HostView → List HostEvent → ((ℕ → Content) → HostView → Type 0) → Type 0
LivesThen members me places contents v [] Then = Then contents v
LivesThen members me places contents v (Replied t ∷ happened) Then =
    (past : IsToldAt members places t.line t.reply)
    → (between : HostView) × RepliesAs (Hold contents) AnyFault members me places v t.line t.reply past between
    × LivesThen members me places contents between happened Then
LivesThen members me places contents v (Began k given ∷ happened) Then =
    (past : IsGivenState members places given)
    → (life : NewLife) × BeginsAgain members places v given past life × LivesThen members me places life.contents (begun places life) happened Then

-- it lives so
abbrev pub LivesFrom : (members me places : ℕ) → (contents : ℕ → Content) → HostView → List HostEvent → Type 0
LivesFrom members me places contents v happened = LivesThen members me places contents v happened (λ held stands. Unit {0})
