-- The host that words name, and new ones.
use Rattle.std.proofs.Common.{◌≡◌, ◌∙◌, ◌⊎◌, inl, inr, ◌≤◌, ℕ, ◌+◌, ◌<◌, ◌^◌, List, Option, Some, None, MatchOption}
use Rattle.std.proofs.Common.{refl, sym, ap, subst}
use Rattle.std.proofs.Common.{arith}
use Rattle.std.specs.Prelude.{decimal}
use Rattle.std.proofs.lemmas.Bool.{cases_lt}
use Rattle.std.proofs.lemmas.Fmt.{decimal_injective}
use Rattle.acceptor.specs.Content.{Content, no_content}
use Rattle.ballots.specs.Members.{member_count}
use Rattle.ballots.specs.declared.members.Members.{Members}
use Rattle.hosts.specs.Hosts.{AreMembers, StandsAs, member_of, places_of}
use Rattle.hosts.specs.Keeping.{HaveKept}
use Rattle.hosts.specs.New.{ArePlaces, IsNoHost}
use Rattle.hosts.specs.Views.{AreBegun, opening}
use Rattle.hosts.specs.declared.fault.HostFault.{HostFault}
use Rattle.hosts.specs.declared.fault.HostFault.TheVariants as fault
use Rattle.hosts.specs.declared.host.Host.{Host}
use Rattle.hosts.specs.declared.opens.Opens.{Ghosts}
use Rattle.node.specs.declared.node.Node.{Ghosts as Nodes}
use Rattle.host_service.specs.Replying.{host_of}
use Rattle.host_service.specs.Serving.{NeverLie}
use Rattle.host_service.specs.declared.service.HostServer.{HostServer}
use Rattle.upsched_node.proofs.Callers.{one_member}
use Rattle.upsched_host.specs.Named.{BeginEmpty, IsNewServer, NameHost, NameMember, NameNone, SayPlaces, Who}
use Rattle.upsched_host.specs.declared.named.NoHost.TheVariants.{Places}
use Rattle.upsched_host.specs.declared.named.HostWords.{HostWords}
use Rattle.upsched_host.specs.declared.named.TheConstants.{PLACES_NOT_GIVEN}

one_number : {W : Type 0} (text : W → List ℕ) (word : Option W) (otherwise a b : ℕ) → MatchOption word (a ≡ otherwise) (λ w. text w ≡ decimal a) → MatchOption word (b ≡ otherwise) (λ w. text w ≡ decimal b)
    → a < 2 ^ 64 → b < 2 ^ 64 → a ≡ b
one_number text None otherwise a b first second low high = first ∙ sym second
one_number text (Some w) otherwise a b first second low high = decimal_injective a b low high (sym first ∙ second)

fits : (places : ℕ) → ArePlaces places → places < 2 ^ 64
fits places are = omega (arith, are.few)

-- words name one host
pub as_named : (words : HostWords) (who other : Who) → NameHost words who → NameHost words other → other ≡ who
as_named words who other this that =
    let same = one_member words.number.now words.members.now who.0 other.0 who.1 other.1 this.member that.member in
    let places : other.2 ≡ who.2 = one_number (λ w. w.now) words.places PLACES_NOT_GIVEN other.2 who.2 that.say this.say (fits other.2 that.possible) (fits who.2 this.possible) in
    λ i. (same.0 i, same.1 i, places i)

-- nodes over new records in memory are of a new host
pub new_server : {O N : Type 0} {g : Ghosts O N} {h : Nodes N} (server : HostServer O N g h) (host : Host O N g h) (who : Who) → host_of server ≡ host → member_of host ≡ (who.0, member_count who.1) → places_of host ≡ who.2 → AreMembers host
    → HaveKept host → StandsAs host (opening (λ e. no_content)) → NeverLie h → IsNewServer server who
new_server {O} {N} {g} {h} server host who is member places are kept stands never = record {
  member = ap (λ (x : Host O N g h). member_of x) is ∙ member;
  places = ap (λ (x : Host O N g h). places_of x) is ∙ places;
  are = subst (λ (x : Host O N g h). AreMembers x) (sym is) are;
  kept = subst (λ (x : Host O N g h). HaveKept x) (sym is) kept;
  stands = subst (λ (x : Host O N g h). StandsAs x (opening (λ e. no_content))) (sym is) stands;
  never = never;
}

-- contents over which nodes begin that hold nothing
pub all_empty : (contents : ℕ → Content) → AreBegun BeginEmpty 1 2 contents → contents ≡ (λ e. no_content)
all_empty contents begun = λ i e. each e i
  where
    each : (e : ℕ) → contents e ≡ no_content
    each e = elim (cases_lt e 1) [
      | inl below ↦ begun.others e (inl below)
      | inr some ↦ elim (cases_lt 2 e) [
        | inl beyond ↦ begun.others e (inr beyond)
        | inr within ↦ begun.begun e some within
      ]
    ]

pub stands_empty : {O N : Type 0} {g : Ghosts O N} {h : Nodes N} (host : Host O N g h) (contents : ℕ → Content) → AreBegun BeginEmpty 1 2 contents → StandsAs host (opening contents) → StandsAs host (opening (λ e. no_content))
stands_empty host contents begun stands = subst (λ (cs : ℕ → Content). StandsAs host (opening cs)) (all_empty contents begun) stands

-- in memory no node fails to open, so where there is no host an epoch can't have so many places
pub no_host : (places : ℕ) (why : HostFault) → IsNoHost (λ fault. ⊥) places why → ¬ ArePlaces places
no_host places fault.Places none = none
no_host places (fault.Node why) none = absurd none.1

-- words that name a member, and say places that an epoch can't have, name no host by their places
pub no_places : (words : HostWords) (id : ℕ) (count : Members) (places : ℕ) → NameMember words id count → SayPlaces words places → places < 2 ^ 64
    → (member_count count ≤ id) ⊎ (¬ ArePlaces places) → NameNone words Places
no_places words id count places member say fit none = (
  (id, count, member),
  λ other said are.
      let same : other ≡ places = one_number (λ w. w.now) words.places PLACES_NOT_GIVEN other places said say (fits other are) fit in
      elim none [
        | inl beyond ↦ absurd (omega (arith, beyond, member.one_of_them))
        | inr bad ↦ bad (subst ArePlaces same are)
      ],
)
