-- What happened at hosts, in one order: lines that they read, with their replies, and beginnings over what they left.
use Rattle.std.specs.Prelude.{◌≡◌, ℕ, ◌==◌, Bool, true, false, if◌then◌else◌, List, [], ◌∷◌}
use Rattle.std.specs.Prelude.{map, filter, take, Option, Some, slice_get}
use Rattle.std.specs.Prelude.{Contains}
use Rattle.std.specs.List.{flat_map}
use Rattle.ballots.specs.declared.letters.Letter.{Letter}
use Rattle.grant_machine.specs.declared.output.Output.{Output}
use Rattle.hosts.specs.declared.acted.HostActed.TheVariants.{Of}
use Rattle.host_service.specs.Numbers.{IsNumbered}
use Rattle.host_service.specs.Replying.{IsAskedOfNode}
use Rattle.host_service.specs.Serving.{Gives}
use Rattle.host_service.specs.declared.number.EpochNumber.{EpochNumber}
use Rattle.host_service.specs.declared.reply.HostReply.{HostReply}
use Rattle.host_service.specs.declared.reply.HostReply.TheVariants.{InEpoch, Released, State, Joined, Again, AsNode}
use Rattle.map_release.specs.declared.numbered.Numbered.{Numbered}
use Rattle.node_lines.specs.declared.request.Request.{Request}
use Rattle.node_lines.specs.declared.request.Request.TheVariants as request
use Rattle.node_service.specs.declared.outgoing.Reply.{Reply}
use Rattle.node_service.specs.declared.outgoing.Reply.TheVariants as reply
use Rattle.seats.specs.Acted.{letters_of, outputs_of}
use Rattle.seats.specs.declared.acted.Acted.{Acted}

-- a line that a host read, and its reply
pub record HostTurn : Type 0 where
  pub host : ℕ
  pub line : List ℕ
  pub reply : HostReply

-- the lines of host k with their replies, in order
abbrev pub turns_of : ℕ → List HostTurn → List (List ℕ × HostReply)
turns_of k turns = map (λ t. (t.line, t.reply)) (filter (λ t. t.host == k) turns)

-- the node of epoch e did what it was asked
abbrev pub is_done_in : ℕ → HostReply → Bool
is_done_in e (InEpoch n (Of acted)) = n.epoch == e
is_done_in e other = false

-- the turns at which it did, in order
abbrev pub turns_in : ℕ → List HostTurn → List HostTurn
turns_in e turns = filter (λ t. is_done_in e t.reply) turns

-- the letters that went out with a reply as letters of epoch e
abbrev pub letters_in : ℕ → HostReply → List Letter
letters_in e (InEpoch n (Of acted)) = if n.epoch == e then letters_of acted else []
letters_in e other = []

-- all letters of epoch e that were sent, in order
abbrev pub letters_sent : ℕ → List HostTurn → List Letter
letters_sent e turns = flat_map (λ t. letters_in e t.reply) turns

-- the outputs that a reply has, each on a line `place I OUTPUT`
abbrev pub outputs_told : Reply → List Numbered
outputs_told (reply.Acted acted) = outputs_of acted
outputs_told other = []

abbrev pub outputs_in : HostReply → List Numbered
outputs_in (Released told next place) = outputs_told told
outputs_in (AsNode told) = outputs_told told
outputs_in other = []

-- all outputs that were printed, in order
abbrev pub outputs_printed : List HostTurn → List Numbered
outputs_printed turns = flat_map (λ t. outputs_in t.reply) turns

-- the states that a reply tells, and all that were told, in order
abbrev pub states_in : HostReply → List (List ℕ)
states_in (State bytes) = bytes ∷ []
states_in other = []

abbrev pub states_told : List HostTurn → List (List ℕ)
states_told turns = flat_map (λ t. states_in t.reply) turns

-- the outputs that a reply tells again, and all that were told so, in order
abbrev pub again_in : HostReply → List Output
again_in (Again outputs) = outputs.items
again_in other = []

abbrev pub told_again : List HostTurn → List Output
told_again turns = flat_map (λ t. again_in t.reply) turns

-- a line asked this of the node of epoch e, and this came of it
pub record DoesIn (t : HostTurn) (e : ℕ) (asked : Request) (acted : Acted) : Type 0 where
  pub number : EpochNumber
  pub rest : List ℕ
  pub numbered : IsNumbered t.line number rest
  pub epoch : number.epoch ≡ e
  pub asks : IsAskedOfNode rest asked
  pub told : t.reply ≡ InEpoch number (Of acted)

-- each letter that a host's node of epoch e was given is to that host, and was sent before as a letter of epoch e
abbrev pub AllCome : List HostTurn → Type 0
AllCome turns =
    (i : ℕ) (t : HostTurn) → slice_get turns i ≡ Some t → (e : ℕ) (l : Letter) (acted : Acted) → DoesIn t e (request.Letter l) acted
    → (l.to ≡ t.host) × Contains (letters_sent e (take i turns)) l

-- each state to which a host went was told before, by a host
abbrev pub AllTold : List HostTurn → Type 0
AllTold turns =
    (i : ℕ) (t : HostTurn) → slice_get turns i ≡ Some t → (bytes : List ℕ) (epoch : ℕ) → Gives t.line bytes → t.reply ≡ Joined epoch
    → Contains (states_told (take i turns)) bytes

-- what happened at a host: it replied to a line; or its process ended or was killed, and began again over what it left,
-- behind a state that it was given, if any
pub data HostEvent : Type 0 where
  Replied : HostTurn → HostEvent
  Began : (host : ℕ) → (given : Option (List ℕ)) → HostEvent

-- the host
abbrev pub host_of : HostEvent → ℕ
host_of (Replied t) = t.host
host_of (Began k given) = k

-- what happened at host k, in order
abbrev pub events_of : ℕ → List HostEvent → List HostEvent
events_of k happened = filter (λ h. host_of h == k) happened

-- the lines that were replied to, in order
abbrev pub replied : List HostEvent → List HostTurn
replied [] = []
replied (Replied t ∷ happened) = t ∷ replied happened
replied (Began k given ∷ happened) = replied happened

-- it happened to a node of epoch e: that did what it was asked, or it began again, as each node of a host does that
-- begins again
abbrev pub is_in : ℕ → HostEvent → Bool
is_in e (Replied t) = is_done_in e t.reply
is_in e (Began k given) = true

-- all that happened to nodes of epoch e, in order
abbrev pub events_in : ℕ → List HostEvent → List HostEvent
events_in e happened = filter (is_in e) happened

-- each state behind which a host began again was told before, by a host
abbrev pub AllGiven : List HostEvent → Type 0
AllGiven happened =
    (i k : ℕ) (bytes : List ℕ) → slice_get happened i ≡ Some (Began k (Some bytes)) → Contains (states_told (replied (take i happened))) bytes
