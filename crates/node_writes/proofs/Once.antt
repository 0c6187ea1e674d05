-- Bytes spell one write, and writes lead to one content.
use Rattle.std.proofs.Common.{◌≡◌, ◌≤◌, ℕ, List, [], ◌∷◌, Option, Some, None, refl, sym, ap, subst, ◌∙◌, arith}
use Rattle.acceptor.specs.Content.{Content, Write, after_write}
use Rattle.acceptor.specs.Content.Write.{Tries, Promises, Votes, Learns}
use Rattle.node_writes.specs.declared.write_bytes.WriteBytes.{WriteBytes}
use Rattle.node_writes.specs.Writes.{LeadTo, Spells}

-- the number by which bytes say which write they spell
abbrev kind_of : Option Write → ℕ
kind_of None = 0
kind_of (Some (Tries b)) = 1
kind_of (Some (Promises b)) = 2
kind_of (Some (Votes p cast)) = 3
kind_of (Some (Learns p v)) = 4

kind_is : (r : WriteBytes) (write : Option Write) → Spells r write → r.kind ≡ kind_of write
kind_is r None h = h
kind_is r (Some (Tries b)) h = h.0
kind_is r (Some (Promises b)) h = h.0
kind_is r (Some (Votes p cast)) h = h.0
kind_is r (Some (Learns p v)) h = h.0

some_kind : (write : Write) → 1 ≤ kind_of (Some write)
some_kind (Tries b) = omega arith
some_kind (Promises b) = omega arith
some_kind (Votes p cast) = omega arith
some_kind (Learns p v) = omega arith

spells_once : (r : WriteBytes) (a b : Option Write) → Spells r a → Spells r b → a ≡ b
spells_once r None None one two = refl
spells_once r None (Some write) one two = absurd (let e = sym one ∙ kind_is r (Some write) two in omega (arith, e, some_kind write))
spells_once r (Some write) None one two = absurd (let e = sym two ∙ kind_is r (Some write) one in omega (arith, e, some_kind write))
spells_once r (Some (Tries x)) (Some (Tries y)) one two = ap (λ (n : ℕ). Some (Tries n)) (sym one.1.0 ∙ two.1.0)
spells_once r (Some (Promises x)) (Some (Promises y)) one two = ap (λ (n : ℕ). Some (Promises n)) (sym one.1.0 ∙ two.1.0)
spells_once r (Some (Votes p cast)) (Some (Votes q other)) one two =
    let ballot = sym one.1.0 ∙ two.1.0 in
    let place = sym one.2.0 ∙ two.2.0 in
    let value = sym one.3 ∙ two.3 in
    λ i. Some (Votes (place i) (record { ballot = ballot i; value = value i }))
spells_once r (Some (Learns p v)) (Some (Learns q w)) one two =
    let place = sym one.1.0 ∙ two.1.0 in
    let value = sym one.2 ∙ two.2 in
    λ i. Some (Learns (place i) (value i))
spells_once r a b one two = absurd (let e : kind_of a ≡ kind_of b = sym (kind_is r a one) ∙ kind_is r b two in omega (arith, e))

pub lead_once : (id : ℕ) (rs : List WriteBytes) (c a b : Content) → LeadTo id rs c a → LeadTo id rs c b → a ≡ b
lead_once id [] c a b one two = one ∙ sym two
lead_once id (r ∷ rs) c a b one two =
    let same = spells_once r two.0 one.0 two.1.2 one.1.2 in
    lead_once id rs (after_write c one.0) a b one.2 (subst (λ (w : Option Write). LeadTo id rs (after_write c w) b) same two.2)
