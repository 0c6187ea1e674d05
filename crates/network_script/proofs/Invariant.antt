-- What holds of every world that a run reaches: the history, the letters and the nodes agree with one another.
use Rattle.std.specs.Prelude.{◌≡◌, ℕ, ◌<◌, ◌≤◌, true, nat_eq, List, Option, Some, None, slice_get}
use Rattle.std.specs.List.{list_any}
use Rattle.ballots.specs.Ballots.{ballot_node}
use Rattle.ballots.specs.declared.letters.Cast.{Cast}
use Rattle.ballots.specs.declared.letters.Note.{Note}
use Rattle.ballots.specs.declared.letters.Letter.{Letter}
use Rattle.ballots.specs.declared.letters.Note.TheVariants.{Prepare, Promise, Accept, Voted, Higher, Known}
use Rattle.ballots.specs.Voting.{Entry, node_of, ballot_of, IsIn, Quorum, IsOf, NoneBelow, IsSafe, IsLegal, IsChosen}
use Rattle.ballots.specs.Voting.Entry.{Promised, Vote}
use Rattle.acceptor.specs.Content.{Content, Write, promised}
use Rattle.ballots.specs.Rows.{at}
use Rattle.acceptor.specs.Content.Write.{Tries, Promises, Votes, Learns}
use Rattle.proposer.specs.declared.role.Role.{Role}
use Rattle.learner.specs.Tally.{IsVoteCounted}
use Rattle.node.specs.View.{View, Standing}
use Rattle.proposer.specs.declared.role.Role.TheVariants.{Idle, Preparing, Leading}
use Rattle.node.specs.View.Standing.{Running, Stopped}

-- an Accept letter of ballot b for v at p was sent
abbrev pub IsProposed : List Letter → ℕ → ℕ → List ℕ → Type 0
IsProposed sent b p v = (l : Letter) × IsIn sent l × (l.note ≡ Accept b p v)

-- the content of node k agrees with its entries in the history
pub record ContentOk (members : ℕ) (h : List Entry) (k : ℕ) (c : Content) : Type 0 where
  -- none is above the promised ballot
  pub bound : (e : Entry) → IsIn h e → node_of e ≡ k → ballot_of e ≤ promised c
  -- each vote that it keeps was cast
  pub kept : (p : ℕ) (cast : Cast) → IsIn c.votes (p, cast) → IsIn h (Vote k cast.ballot p cast.value)
  -- and it keeps the last at each place
  pub last : (b p : ℕ) (v : List ℕ) → IsIn h (Vote k b p v) → (cast : Cast) × IsIn c.votes (p, cast) × (b ≤ cast.ballot)
  -- and what it has learned is chosen
  pub held : (p : ℕ) (v : List ℕ) → IsIn c.learned (p, v) → IsChosen members h p v

-- node n promised ballot b, and these are its votes below b from place q on
pub record PromiseOk (h : List Entry) (n b q : ℕ) (votes : List (ℕ × Cast)) : Type 0 where
  pub promised : IsIn h (Promised n b)
  pub cast : (p : ℕ) (cast : Cast) → IsIn votes (p, cast) → IsIn h (Vote n cast.ballot p cast.value) × (cast.ballot < b)
  pub each : (c p : ℕ) (v : List ℕ) → q ≤ p → c < b → IsIn h (Vote n c p v) → (cast : Cast) × IsIn votes (p, cast) × (c ≤ cast.ballot)

-- node n was counted
abbrev pub IsCounted : List ℕ → ℕ → Type 0
IsCounted counted n = list_any (nat_eq n) counted ≡ true

-- the nodes counted are members that promised ballot b, and joined are the highest of their votes below b from place q on
pub record CountedOk (members : ℕ) (h : List Entry) (b q : ℕ) (counted : List ℕ) (joined : List (ℕ × Cast)) : Type 0 where
  pub member : (n : ℕ) → IsCounted counted n → n < members
  pub promised : (n : ℕ) → IsCounted counted n → IsIn h (Promised n b)
  pub cast : (p : ℕ) (cast : Cast) → at joined p ≡ Some cast → (n : ℕ) × IsCounted counted n × IsIn h (Vote n cast.ballot p cast.value) × (cast.ballot < b)
  pub each : (n c p : ℕ) (v : List ℕ) → IsCounted counted n → q ≤ p → c < b → IsIn h (Vote n c p v) → (cast : Cast) × (at joined p ≡ Some cast) × (c ≤ cast.ballot)

-- a quorum promised ballot b, and none of it has a vote below b at the places from next on
pub record LeadsOk (members : ℕ) (h : List Entry) (b next : ℕ) : Type 0 where
  pub quorum : Quorum members
  pub promised : (n : ℕ) → IsOf members quorum n → IsIn h (Promised n b)
  pub free : (p : ℕ) → next ≤ p → NoneBelow members h quorum b p

-- what a role of node k rests on, where the node has tried no ballot above tried
abbrev pub RoleOk : ℕ → List Entry → ℕ → ℕ → Role → Type 0
RoleOk members h k tried Idle = Unit {0}
RoleOk members h k tried (Preparing b q counted joined) = (ballot_node b ≡ k) × (b ≤ tried) × CountedOk members h b q counted joined
RoleOk members h k tried (Leading b next) = (ballot_node b ≡ k) × (b ≤ tried) × LeadsOk members h b next

-- in this role a node may have proposed at p in its ballot b
abbrev pub MayHaveProposed : Role → ℕ → ℕ → Type 0
MayHaveProposed Idle b p = Unit {0}
MayHaveProposed (Preparing c q counted joined) b p = b ≡ c → ⊥
MayHaveProposed (Leading c next) b p = b ≡ c → p < next

-- what was proposed in ballots of node k
abbrev pub OwnOk : List Letter → ℕ → ℕ → Role → Type 0
OwnOk sent k tried role = (b p : ℕ) (v : List ℕ) → IsProposed sent b p v → ballot_node b ≡ k → (b ≤ tried) × MayHaveProposed role b p

-- a write that a node with this content may make
abbrev pub WriteOk : ℕ → List Entry → List Letter → Content → Option Write → Type 0
WriteOk members h sent c None = Unit {0}
WriteOk members h sent c (Some (Tries b)) = c.tried ≤ b
WriteOk members h sent c (Some (Promises b)) = promised c < b
WriteOk members h sent c (Some (Votes p cast)) = (promised c ≤ cast.ballot) × IsProposed sent cast.ballot p cast.value
WriteOk members h sent c (Some (Learns p v)) = IsChosen members h p v

-- a node that is up
pub record UpOk (members : ℕ) (h : List Entry) (sent : List Letter) (k : ℕ) (view : View) : Type 0 where
  pub content : ContentOk members h k view.content
  pub own : OwnOk sent k view.content.tried view.role
  pub role : RoleOk members h k view.content.tried view.role
  pub counted : (n b p : ℕ) (v : List ℕ) → IsVoteCounted view.tally.counted n b p v → IsIn h (Vote n b p v)
  pub learned : (p : ℕ) (v : List ℕ) → IsIn view.tally.learned (p, v) → IsChosen members h p v
  -- which is what its learned rows hold
  pub written : view.tally.learned ≡ view.content.learned

-- a node that is down
pub record DownOk (members : ℕ) (h : List Entry) (sent : List Letter) (k : ℕ) (c : Content) (write : Option Write) : Type 0 where
  pub content : ContentOk members h k c
  pub own : OwnOk sent k c.tried Idle
  pub doubt : WriteOk members h sent c write

abbrev pub NodeOk : ℕ → List Entry → List Letter → ℕ → Standing → Type 0
NodeOk members h sent k (Running view) = UpOk members h sent k view
NodeOk members h sent k (Stopped c doubt) = DownOk members h sent k c doubt

-- what a letter says holds of the history
abbrev pub LetterOk : ℕ → List Entry → ℕ → Note → Type 0
LetterOk members h from (Prepare b q) = Unit {0}
LetterOk members h from (Promise b q votes) = PromiseOk h from b q votes
LetterOk members h from (Accept b p v) = IsSafe members h b p v
LetterOk members h from (Voted b p v) = IsIn h (Vote from b p v)
LetterOk members h from (Higher b) = Unit {0}
LetterOk members h from (Known p v) = IsChosen members h p v

pub record Invariant (members : ℕ) (h : List Entry) (sent : List Letter) (states : List Standing) : Type 0 where
  pub legal : IsLegal members h
  -- each vote was proposed, and a ballot proposes one value at a place
  pub proposed : (n b p : ℕ) (v : List ℕ) → IsIn h (Vote n b p v) → IsProposed sent b p v
  pub one_value : (b p : ℕ) (v w : List ℕ) → IsProposed sent b p v → IsProposed sent b p w → v ≡ w
  pub letters : (l : Letter) → IsIn sent l → LetterOk members h l.from l.note
  pub nodes : (k : ℕ) (s : Standing) → slice_get states k ≡ Some s → NodeOk members h sent k s
