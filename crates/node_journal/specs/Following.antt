-- Where one who follows a journal stands.
use Rattle.std.specs.Prelude.{◌≡◌, ◌≢◌, ◌⊎◌, ℕ, ◌+◌, ◌<◌, ◌≤◌, List, [], ◌∷◌, ◌++◌, length, take, All, slice_get, Some}
use Rattle.std.specs.Prelude.{Bool, Contains, IfSome, IsTrue, Option}
use Rattle.ballots.specs.Members.{member_count}
use Rattle.ballots.specs.declared.members.Members.{Members}
use Rattle.ballots.specs.declared.letters.Letter.{Letter}
use Rattle.node_journal.specs.Journal.{Writes}
use Rattle.node_journal.specs.Tears.{GoesOn, IsAtLetter, IsNoLine, IsOtherReply, IsWhy}
use Rattle.node_journal.specs.Turns.{BeginsWith, IsDoubtPart, IsStopPart, Tells}
use Rattle.node_lines.specs.Input.{IsLine}
use Rattle.node_journal.specs.declared.follower.Follower.{Follower}
use Rattle.node_journal.specs.declared.replies.Course.{Course}
use Rattle.node_journal.specs.declared.replies.CrashPart.{CrashPart}
use Rattle.node_journal.specs.declared.replies.Course.TheVariants.{Left, Stopped, Obeyed}
use Rattle.node_journal.specs.declared.follower.Step.{Step}
use Rattle.node_journal.specs.declared.following.Following.{Following}
use Rattle.node_journal.specs.declared.following.Round.{Round}
use Rattle.node_journal.specs.declared.following.Round.TheVariants.{Torn}
use Rattle.node_journal.specs.declared.following.Stop.{Stop}
use Rattle.node_journal.specs.declared.tear.Why.{Why}
use Rattle.node_journal.specs.declared.tear.Why.TheVariants.{OtherReply, Unsent, NoLine}
use Rattle.node_journal.specs.declared.follower.Step.TheVariants.{Did}
use Rattle.node.specs.Calls.{IsStop}
use Rattle.node_service.specs.Texts.{acted_text}
use Rattle.node_worker.specs.Entries.{EntryView}
use Rattle.node_worker.specs.KeptView.{IsReplay}
use Rattle.node_worker.specs.Legal.{AllCome, Comes, entries_of, letters_of}
use Rattle.node_worker.specs.declared.entry.Cause.{Cause}
use Rattle.node_worker.specs.declared.entry.Done.{Done}
use Rattle.node_service.specs.declared.outgoing.Reply.{Reply}
use Rattle.node_service.specs.declared.outgoing.Reply.TheVariants.{Acted as Replied}
use Rattle.seats.specs.Acted.{letters_of as sent_of}
use Rattle.proposer.specs.declared.fault.NodeFault.{NodeFault}
use Rattle.seats.specs.declared.acted.Acted.{Acted}
use Rattle.seats.specs.declared.acted.Acted.TheVariants.{Fault}

-- this is why the journal of node me is torn at a place where no letter is read
abbrev pub IsTornAt : ℕ → Members → List ℕ → ℕ → Why → Type 0
IsTornAt me members text place OtherReply = IsOtherReply me members text place
IsTornAt me members text place NoLine = IsNoLine me members text place
IsTornAt me members text place (Unsent n) = ⊥

-- the node did again what its journal tells up to a place
pub record IsFollowed (text : List ℕ) (f : Follower) : Type 0 where
  pub node : f.kept.node ≡ f.id
  pub members : f.kept.members ≡ member_count f.members
  pub within : f.place ≤ length text
  pub written : Writes f.id f.members (take f.place text) f.kept.entries f.phase
  pub torn : IfSome f.why (IsTornAt f.id f.members text f.place)

-- why it is torn behind so many bytes of the first lines of a life: as before them, or because that life doesn't go on
abbrev pub IsOfLife : Follower → List ℕ → ℕ → Option Why → Type 0
IsOfLife f rest count why =
    ((count ≡ 0) × (why ≡ f.why))
    ⊎ IfSome why (λ w. (w ≡ NoLine) × ((0 < count) ⊎ (f.place ≡ 0)) × GoesOn rest count)

-- it is as before, but for what the node did
pub record SamePlace (old new : Follower) : Type 0 where
  pub id : new.id ≡ old.id
  pub members : new.members ≡ old.members
  pub place : new.place ≡ old.place
  pub phase : new.phase ≡ old.phase
  pub why : new.why ≡ old.why
  pub node : new.kept.node ≡ old.kept.node
  pub count : new.kept.members ≡ old.kept.members

-- the node did this for a cause, and this came of it
pub record Works (cause : Cause) (old : Follower) (acted : Acted) (new : Follower) : Type 0 where
  pub same : SamePlace old new
  pub entry : EntryView
  pub causes : entry.cause ≡ cause
  pub tells : Tells acted entry
  pub added : new.kept.entries ≡ old.kept.entries ++ entry ∷ []

-- the node did exactly this
pub record WorksAs (entry : EntryView) (old new : Follower) : Type 0 where
  pub same : SamePlace old new
  pub added : new.kept.entries ≡ old.kept.entries ++ entry ∷ []

-- a step adds an entry, whose letters it gives and whose letter was sent, or none
abbrev pub Adds : List Letter → ℕ → List EntryView → Step → List EntryView → Type 0
Adds sent me old (Did letters) new = (e : EntryView) × (new ≡ old ++ e ∷ []) × (letters.items ≡ e.letters) × Comes sent me e.cause
Adds sent me old other new = new ≡ old

-- a step that adds none
abbrev pub IsQuiet : Step → Type 0
IsQuiet (Did letters) = ⊥
IsQuiet other = Unit {0}

-- a step of the same node, where these letters were sent
pub record Steps (text : List ℕ) (sent : List Letter) (old : Follower) (step : Step) (new : Follower) : Type 0 where
  pub followed : IsFollowed text new
  pub id : new.id ≡ old.id
  pub members : new.members ≡ old.members
  pub adds : Adds sent old.id old.kept.entries step new.kept.entries

-- so many bytes are a part of this text
abbrev pub IsPartOf : List ℕ → List ℕ → ℕ → Type 0
IsPartOf text after count = (part : List ℕ) × (length part ≡ count) × BeginsWith part after × BeginsWith part text

-- so many bytes are a part of a reply that the node crashed
abbrev pub IsStopOf : List ℕ → ℕ → Type 0
IsStopOf after count = (part : List ℕ) × (length part ≡ count) × BeginsWith part after × IsStopPart part

-- so many bytes are a part of the reply that the store broke
abbrev pub IsDoubtOf : List ℕ → ℕ → Type 0
IsDoubtOf after count = (part : List ℕ) × (length part ≡ count) × BeginsWith part after × IsDoubtPart part

-- a text begins with a whole reply that the node crashed, which has so many bytes
abbrev pub IsWholeCrash : List ℕ → ℕ → Type 0
IsWholeCrash after count = (fault : NodeFault) × IsStop fault × (length (acted_text (Fault fault)) ≡ count) × BeginsWith (acted_text (Fault fault)) after

-- these bytes are a part of a reply that the node crashed, or all of it
abbrev pub IsCrashPart : List ℕ → CrashPart → Type 0
IsCrashPart after p = IsStopOf after p.count × (IsTrue p.is_whole → IsWholeCrash after p.count)

-- how a line that asks something goes on
abbrev pub IsCourse : List ℕ → Course → Type 0
IsCourse after (Left p) = IsCrashPart after p
IsCourse after (Stopped p) = IsDoubtOf after p.count × (IsTrue p.is_whole → IsWholeCrash after p.count)
IsCourse after Obeyed = Unit {0}

-- the letters that go out with a reply
abbrev pub letters_told : Reply → List Letter
letters_told (Replied acted) = sent_of acted
letters_told other = []

-- so many bytes have no line's end
abbrev pub IsHalf : List ℕ → ℕ → Type 0
IsHalf text count = (half : List ℕ) × (length half ≡ count) × BeginsWith half text × IsLine half

-- node k of so many members follows the journal at place k
pub record AreFollowed (members : Members) (journals : List (List ℕ)) (followers : List Follower) : Type 0 where
  pub many : length followers ≡ member_count members
  pub each : length journals ≡ member_count members
  pub numbered : (k : ℕ) (f : Follower) → slice_get followers k ≡ Some f → (f.id ≡ k) × (f.members ≡ members)
  pub followed : (k : ℕ) (f : Follower) (journal : List ℕ) → slice_get followers k ≡ Some f → slice_get journals k ≡ Some journal → IsFollowed journal f

-- these records are an order of what was done so far, in which these letters were sent
pub record AreOrdered (followers : List Follower) (sent : List Letter) (records : List Done) : Type 0 where
  pub named : All (λ d. d.node < length followers) records
  pub come : AllCome records
  pub letters : letters_of records ≡ sent
  pub done : (k : ℕ) (f : Follower) → slice_get followers k ≡ Some f → entries_of k records ≡ f.kept.entries

-- there is such an order
abbrev pub HaveOrder : List Follower → List Letter → Type 0
HaveOrder followers sent = (records : List Done) × AreOrdered followers sent records

-- the journals are followed so far, and there is an order of what was done
pub record IsReached (journals : List (List ℕ)) (x : Following) : Type 0 where
  pub followed : AreFollowed x.members journals x.followers.items
  pub order : HaveOrder x.followers.items x.sent

-- the follower stands at a letter that didn't come, where these were sent
abbrev pub Waits : List Letter → List ℕ → Follower → Letter → Type 0
Waits sent text f letter = IsAtLetter f.id f.members text f.kept.entries f.place letter × ¬ ((letter.to ≡ f.id) × Contains sent letter)

-- it is at the end of its journal, or waits
abbrev pub IsStill : List Letter → List ℕ → Follower → Type 0
IsStill sent text f = (f.place ≡ length text) ⊎ ((letter : Letter) × Waits sent text f letter)

-- what is known of each follower whose entries were looked at
abbrev pub IsReplayed : Follower → Type 0
IsReplayed f = IsReplay f.kept × IsTrue f.kept.honest

-- the follower of journal k was looked at, and stands still where that was asked
abbrev pub StandsAt : List (List ℕ) → Following → ℕ → Bool → Type 0
StandsAt journals x k asked =
    (f : Follower) × (text : List ℕ) × (slice_get x.followers.items k ≡ Some f) × (slice_get journals k ≡ Some text) × (IsTrue asked → IsStill x.sent text f) × IsReplayed f

-- why a journal doesn't go on with a letter that didn't come: it can't come, or its sender's journal doesn't send it
abbrev pub IsWhyOfLetter : Members → ℕ → Letter → Why → Type 0
IsWhyOfLetter members me letter NoLine = (letter.to ≢ me) ⊎ (member_count members ≤ letter.from)
IsWhyOfLetter members me letter (Unsent n) = (letter.to ≡ me) × (letter.from ≡ n) × (n < member_count members)
IsWhyOfLetter members me letter OtherReply = ⊥

-- the follower of journal k waits for a letter, and so it stops
pub record IsWaitingAt (journals : List (List ℕ)) (x : Following) (k : ℕ) (s : Stop) : Type 0 where
  pub follower : Follower
  pub text : List ℕ
  pub letter : Letter
  pub there : slice_get x.followers.items k ≡ Some follower
  pub journal : slice_get journals k ≡ Some text
  pub waits : Waits x.sent text follower letter
  pub number : s.journal ≡ k
  pub place : s.place ≡ follower.place
  pub why : IsWhyOfLetter x.members follower.id letter s.why

-- a round that tears a journal tears one of so many
abbrev pub TearsOne : ℕ → Round → Type 0
TearsOne count (Torn k) = k < count
TearsOne count other = Unit {0}

-- each of the first so many followers stands still, and all were looked at
abbrev pub AreStill : List (List ℕ) → Following → ℕ → Type 0
AreStill journals x count =
    (k : ℕ) (f : Follower) (text : List ℕ) → slice_get x.followers.items k ≡ Some f → slice_get journals k ≡ Some text → (k < count → IsStill x.sent text f) × IsReplayed f

-- each of the first so many is at the end of its journal
abbrev pub AreEnded : List (List ℕ) → Following → ℕ → Type 0
AreEnded journals x count =
    (k : ℕ) (f : Follower) (text : List ℕ) → k < count → slice_get x.followers.items k ≡ Some f → slice_get journals k ≡ Some text → f.place ≡ length text

-- one of the journals isn't followed behind a place, and this is why
abbrev pub StopsSo : Members → List (List ℕ) → Stop → Type 0
StopsSo members journals s = (journal : List ℕ) × (slice_get journals s.journal ≡ Some journal) × IsWhy members journals s.journal journal s.place s.why
