-- The host that words name.
use Rattle.std.specs.Prelude.{◌≡◌, ℕ, MatchOption, decimal}
use Rattle.acceptor.specs.Content.{Content, no_content}
use Rattle.ballots.specs.Members.{member_count}
use Rattle.ballots.specs.declared.members.Members.{Members}
use Rattle.hosts.specs.Hosts.{AreMembers, StandsAs, member_of, places_of}
use Rattle.hosts.specs.Keeping.{HaveKept}
use Rattle.hosts.specs.New.{ArePlaces}
use Rattle.hosts.specs.Views.{opening}
use Rattle.hosts.specs.declared.opens.Opens.{Ghosts}
use Rattle.node.specs.declared.node.Node.{Ghosts as Nodes}
use Rattle.host_service.specs.Replying.{host_of}
use Rattle.host_service.specs.Serving.{NeverLies}
use Rattle.host_service.specs.declared.service.HostServer.{HostServer}
use Rattle.upsched_node.specs.Member.{NamesMember}
use Rattle.upsched_host.specs.declared.named.HostWords.{HostWords}
use Rattle.upsched_host.specs.declared.named.NoHost.{NoHost}
use Rattle.upsched_host.specs.declared.named.NoHost.TheVariants.{Member, Places}
use Rattle.upsched_host.specs.declared.named.TheConstants.{PLACES_NOT_GIVEN}

-- a host's number, how many members there are, and how many places of an epoch count
abbrev pub Who : Type 0
Who = ℕ × Members × ℕ

-- words say this number of places in decimal digits; it is 65,536 where they don't say any
abbrev pub SayPlaces : HostWords → ℕ → Type 0
SayPlaces words places = MatchOption words.places (places ≡ PLACES_NOT_GIVEN) (λ word. word.now ≡ decimal places)

-- they name a member by its number, and how many there are
abbrev pub NameMember : HostWords → ℕ → Members → Type 0
NameMember words id count = NamesMember words.number.now words.members.now id count

-- they name a host: a member, and so many places that an epoch may have
pub record NameHost (words : HostWords) (who : Who) : Type 0 where
  pub member : NameMember words who.0 who.1
  pub say : SayPlaces words who.2
  pub possible : ArePlaces who.2

-- why they name none: no member; or a member, but no places that an epoch may have
abbrev pub NameNone : HostWords → NoHost → Type 0
NameNone words Member = (id : ℕ) (count : Members) → ¬ NameMember words id count
NameNone words Places = ((id : ℕ) × (count : Members) × NameMember words id count) × ((places : ℕ) → SayPlaces words places → ¬ ArePlaces places)

-- nodes begin over records that hold nothing
abbrev pub BeginEmpty : ℕ → Content → Type 0
BeginEmpty e c = c ≡ no_content

-- a new host that replies to lines, whose nodes begin over records that hold nothing and never lie
pub record IsNewServer {O N : Type 0} {g : Ghosts O N} {h : Nodes N} (server : HostServer O N g h) (who : Who) : Type 0 where
  pub member : member_of (host_of server) ≡ (who.0, member_count who.1)
  pub places : places_of (host_of server) ≡ who.2
  pub are : AreMembers (host_of server)
  pub kept : HaveKept (host_of server)
  pub stands : StandsAs (host_of server) (opening (λ e. no_content))
  pub never : NeverLies (host_of server)
