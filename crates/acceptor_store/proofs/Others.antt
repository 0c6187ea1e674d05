-- A database of another owner is told as that one's.
use Rattle.std.proofs.Common.{◌≡◌, ◌≢◌, ◌⊎◌, inl, inr, ℕ, true, false, Bool, List, [], ◌∷◌, Option, Some, None, IsSome}
use Rattle.std.proofs.Common.{IsTrue, arith, length, refl, slice_get, sym, subst, ap, ◌∙◌}
use Rattle.std.specs.Prelude.{codes}
use Rattle.acceptor_store.proofs.Words.{AreOwnedBy, Blank, Content, FailsAnew, First, Foreign, Ghosts, HadAs}
use Rattle.acceptor_store.proofs.Words.{HadBefore}
use Rattle.acceptor_store.proofs.Words.{HasFacts, Held, IsBroken, IsDue, IsDueBefore, IsRefused, IsRefusedFor}
use Rattle.acceptor_store.proofs.Words.{IsUnowned}
use Rattle.acceptor_store.proofs.Words.{Names, NamesOwner, Open, OtherMembers, OtherNode, Owner, OwnerFault}
use Rattle.acceptor_store.proofs.Words.{Third, Trees, Unowned, Version, blank_schema, owner_bytes, schema_of}
use Rattle.acceptor_store.proofs.Words.{state}
use Rattle.acceptor_store.specs.Owning.{FailsToRead, IsOthers, IsRefusedBefore, IsToldOther}
use Rattle.acceptor_store.specs.declared.OpenFault.TheVariants.{Broken, OutOfMemory, Refused}
use Rattle.acceptor_store_parts.specs.Foreign.{IsPart, IsThereWithout, LacksLearned, LacksNumbers, LacksVotes}
use Rattle.acceptor_store_parts.specs.Stored.{fact_row}
use Rattle.acceptor_store_parts.specs.Tables.{ballot_table, learned_table, vote_table}
use Rattle.ballots.specs.Members.{member_count}
use Rattle.ballots.specs.declared.members.Members.{Members}
use Rattle.ballots.specs.declared.members.Members.TheVariants.{Three, Five}
use Rattle.acceptor_store.proofs.CountsKnown.{names_owned}
use Rattle.sqlite.specs.Order.{Row}
use Rattle.sqlite.specs.Schema.{Schema}
use Rattle.sqlite.specs.Table.{Table}
use Rattle.sqlite_schema.specs.Names.{same_name, table_named}

-- the schema of version 3 is none of the others
has_facts : HasFacts (schema_of Third)
unfolding same_name
has_facts = refl

not_unowned : IsUnowned (schema_of Third) → ⊥
not_unowned unowned = absurd (let e : false ≡ true = subst IsSome unowned.0 has_facts in cc)

is_there : (i : ℕ) → ◌≡◌ {A = Option ℕ} None (Some i) → ⊥
is_there i is = absurd (cc (is))

no_part : IsPart (schema_of Third) → ⊥
unfolding same_name
no_part (inl it) = is_there 0 (sym it.0)
no_part (inr (inl it)) = is_there 1 (sym it.1)
no_part (inr (inr it)) = is_there 0 (sym it.0)

module _ (name : List ℕ) (Wants : Table → Type 0) (i : ℕ) (u : Table)
    (at_i : table_named (schema_of Third) name ≡ Some i) (is_u : slice_get (schema_of Third).tables i ≡ Some u) (whole : Wants u → ⊥) where
  not_without : IsThereWithout (schema_of Third) name Wants → ⊥
  not_without (at, t, named, there, lacks) =
      let place : at ≡ i = cc (named, at_i) in
      let found : slice_get (schema_of Third).tables i ≡ Some t =
      subst (λ k. slice_get (schema_of Third).tables k ≡ Some t) place there in
      let same : t ≡ u = cc (found, is_u) in
      whole (subst Wants same lacks)

has_column : (i : ℕ) → ◌≡◌ {A = Option ℕ} (Some i) None → ⊥
has_column i is = absurd (cc (is))

has_numbers : IsThereWithout (schema_of Third) (codes "ballot") LacksNumbers → ⊥
unfolding same_name
has_numbers it = not_without (codes "ballot") LacksNumbers 0 ballot_table refl refl (λ lacks. elim lacks [
  | inl id ↦ has_column 0 id
  | inr number ↦ has_column 1 number
]) it

has_votes : IsThereWithout (schema_of Third) (codes "vote") LacksVotes → ⊥
unfolding same_name
has_votes it = not_without (codes "vote") LacksVotes 1 vote_table refl refl (λ lacks. elim lacks [
  | inl place ↦ has_column 0 place
  | inr (inl ballot) ↦ has_column 1 ballot
  | inr (inr value) ↦ has_column 2 value
]) it

has_learned : IsThereWithout (schema_of Third) (codes "learned") LacksLearned → ⊥
unfolding same_name
has_learned it = not_without (codes "learned") LacksLearned 2 learned_table refl refl (λ lacks. elim lacks [
  | inl place ↦ has_column 0 place
  | inr value ↦ has_column 1 value
]) it

not_broken : IsBroken (schema_of Third) → ⊥
not_broken (inl part) = no_part part
not_broken (inr (inl numbers)) = has_numbers numbers
not_broken (inr (inr (inl votes))) = has_votes votes
not_broken (inr (inr (inr learned))) = has_learned learned

not_blank : schema_of Third ≡ blank_schema → ⊥
not_blank is = absurd (omega (arith, ap (λ (s : Schema). length s.tables) is))

not_first : schema_of First ≡ schema_of Third → ⊥
not_first is = absurd (omega (arith, ap (λ (s : Schema). length s.tables) is))

-- and one owner is named
same_count : (a b : Members) → member_count a ≡ member_count b → a ≡ b
same_count Three Three is = refl
same_count Three Five is = absurd (cc (is))
same_count Five Three is = absurd (cc (is))
same_count Five Five is = refl

one_row : (a b : Owner) (more less : List Row) → fact_row (0, owner_bytes a) ∷ more ≡ fact_row (0, owner_bytes b) ∷ less → a ≡ b
one_row a b more less rows =
    let node : a.node ≡ b.node = cc (rows) in
    let count : member_count a.members ≡ member_count b.members = cc (rows) in
    let members = same_count a.members b.members count in
    λ i. record { node = node i; members = members i }

one_owner : (a b : Owner) (db : Trees) → NamesOwner a db → NamesOwner b db → a ≡ b
one_owner a b db (inl is) (inl also) = one_row a b _ _ (sym is.1.1 ∙ also.1.1)
one_owner a b db (inl is) (inr also) = one_row a b _ _ (sym is.1.1 ∙ also)
one_owner a b db (inr is) (inl also) = one_row a b _ _ (sym is ∙ also.1.1)
one_owner a b db (inr is) (inr also) = one_row a b _ _ (sym is ∙ also)

-- what is told of it
module _ {S : Type 0} (g : Ghosts S) (wanted other : Owner) (conn : Held S) (others : IsOthers g wanted conn other) where
  has : (state g conn).now.schema ≡ schema_of Third
  has = others.3.1.0

  same : (o : Owner) → Names g conn o → o ≡ other
  same o named = one_owner o other (state g conn).committed.trees named.1 (names_owned other (state g conn).committed.trees others.3.0 others.3.1.1)

  no_wanted : (c : Content) → AreOwnedBy wanted (state g conn).committed.trees c → ⊥
  no_wanted c tables = others.1 (sym (same wanted (has, names_owned wanted (state g conn).committed.trees c tables)))

  no_other_schema : (s : Schema) → (s ≡ schema_of Third → ⊥) → (state g conn).now.schema ≡ s → ⊥
  no_other_schema s differs is = differs (sym is ∙ has)

  no_blank : (state g conn).now.schema ≡ blank_schema → ⊥
  no_blank blank = not_blank (sym has ∙ blank)

  pub not_found : (is_new : Bool) (c : Content) → HadAs g wanted is_new conn c → ⊥
  not_found is_new c (inl blank) = no_blank blank.0
  not_found is_new c (inr had) = no_wanted c had.1

  facts : HasFacts (state g conn).now.schema
  facts = subst HasFacts (sym has) has_facts

  pub not_found_before : (c : Content) → HadBefore g wanted conn c → ⊥
  not_found_before c (inl plain) = plain.0 facts
  not_found_before c (inr had) = no_wanted c had.1

  free : IsTrue (state g conn).in_transaction → ⊥
  free used = absurd (let e = sym others.0 ∙ used in cc)

  abbrev FailsSo : S → Type 0
  FailsSo store = (version : Version) × FailsAnew g version conn store

  fails_for : (store : S) → IsRefusedFor g wanted conn store → FailsSo store
  fails_for store (inl used) = absurd (free used)
  fails_for store (inr (inl further)) = absurd (further.2 has)
  fails_for store (inr (inr (inl (inl blank)))) = absurd (no_blank blank)
  fails_for store (inr (inr (inl (inr count)))) = absurd (no_wanted count.1.0 (inr count.1.1))
  fails_for store (inr (inr (inr fails))) = (Third, fails)

  fails : (store : S) → IsRefused g conn store → FailsSo store
  fails store (inl used) = absurd (free used)
  fails store (inr (inl further)) = absurd (further.1 Third has)
  fails store (inr (inr (inl (inl blank)))) = absurd (no_blank blank)
  fails store (inr (inr (inl (inr had)))) = absurd (no_other_schema (schema_of First) not_first had.1.0)
  fails store (inr (inr (inr so))) = so

  fails_before : (store : S) → IsRefusedBefore g wanted conn store → FailsSo store
  fails_before store (inl refused) = fails store refused
  fails_before store (inr (inl refused)) = fails_for store refused
  fails_before store (inr (inr made)) = absurd (made.0 facts)

  pub told : (is_new : Bool) (fault : OwnerFault) (store : S) → IsDue g wanted is_new conn fault
      → (fault ≡ Open Refused → IsRefusedFor g wanted conn store) → IsToldOther wanted other fault ⊎ FailsToRead g conn (fault, store)
  told is_new Blank store due refused = absurd (no_blank due.0)
  told is_new Unowned store due refused = absurd (not_unowned (subst IsUnowned has due))
  told is_new (OtherNode o) store due refused =
      let is = same o due.0 in
      inl (is, subst (λ (x : Owner). x.node ≢ wanted.node) is due.1)
  told is_new (OtherMembers o) store due refused =
      let is = same o due.0 in
      inl (is, subst (λ (x : Owner). x.node ≡ wanted.node) is due.1, subst (λ (x : Owner). x.members ≢ wanted.members) is due.2)
  told is_new (Open Foreign) store (inl broken) refused = absurd (not_broken (subst IsBroken has broken))
  told is_new (Open Foreign) store (inr none) refused = absurd (none.1 other others.3.0 others.2 others.3.1.1 others.3.1.2)
  told is_new (Open Refused) store due refused = inr (inr (inr (refl, fails_for store (refused refl))))
  told is_new (Open Broken) store due refused = inr (inr (inl refl))
  told is_new (Open OutOfMemory) store due refused = inr (inl refl)

  pub told_before : (fault : OwnerFault) (store : S) → IsDueBefore g wanted conn fault
      → (fault ≡ Open Refused → IsRefusedBefore g wanted conn store) → IsToldOther wanted other fault ⊎ FailsToRead g conn (fault, store)
  told_before Blank store due refused = absurd (no_blank due)
  told_before Unowned store due refused = absurd due
  told_before (OtherNode o) store due refused = told false (OtherNode o) store due (λ no. absurd (cc (no)))
  told_before (OtherMembers o) store due refused = told false (OtherMembers o) store due (λ no. absurd (cc (no)))
  told_before (Open Foreign) store (inl owned) refused = told false (Open Foreign) store owned (λ no. absurd (cc (no)))
  told_before (Open Foreign) store (inr plain) refused = absurd (plain.0 facts)
  told_before (Open Refused) store due refused = inr (inr (inr (refl, fails_before store (refused refl))))
  told_before (Open Broken) store due refused = inr (inr (inl refl))
  told_before (Open OutOfMemory) store due refused = inr (inl refl)
