-- Tables for an owner are tables of its version.
use Rattle.std.proofs.Common.{◌≡◌, ℕ, List, [], ◌∷◌, map, Option, Some, None, Result, IfOk, refl, sym, subst, lit<}
use Rattle.acceptor_store_parts.proofs.Words.{IfOk-weaker, Content, Schema, Error, Null, Blob, Row, overlay, State}
use Rattle.acceptor_store_parts.proofs.Words.{IsPlain, Version, Second, Third, Fourth, Owner, schema_of, facts_query}
use Rattle.acceptor_store_parts.proofs.Words.{AreTablesOf, fact_row, fact_shown, AreTablesFor, IsOwnedBy, OwnedAt, OwnedBefore}
use Rattle.acceptor_store_parts.proofs.Words.{facts_of, owner_bytes}
use Rattle.acceptor_store_parts.proofs.Words.{schema_for, version_for, ServesAs, ServesFor}
use Rattle.sqlite.specs.Tree.{Trees}
use Rattle.sqlite.specs.State.{Shown}
use Rattle.sqlite.specs.Listing.{understood}
use Rattle.acceptor_store_parts.proofs.Meaning.{two_columns, facts_is, reads}
use Rattle.acceptor_store_parts.proofs.Rising.{IsRisingBy}
use Rattle.acceptor_store_parts.proofs.RowsShown.{shown_all}

pub as_version : (owner : Option Owner) → schema_for owner ≡ schema_of (version_for owner)
as_version None = refl
as_version (Some owner) = refl

pub always_plain : (sql : List _) → ((version : Version) → IsPlain (understood (schema_of version) sql)) → (owner : Option Owner) → IsPlain (understood (schema_for owner) sql)
always_plain sql plain None = plain Second
always_plain sql plain (Some owner) = plain Fourth

pub tables_as : (owner : Option Owner) (db : Trees) (c : Content) → AreTablesFor owner db c → AreTablesOf (version_for owner) db c
tables_as None db c it = record { numbers = it.numbers; votes_are = it.votes_are; learned_are = it.learned_are; sound = it.sound }
tables_as (Some owner) db c it = record { numbers = it.numbers; votes_are = it.votes_are; learned_are = it.learned_are; sound = it.sound }

pub tables_for : (owner : Option Owner) (db : Trees) (c : Content) → AreTablesOf (version_for owner) db c → IsOwnedBy owner db → AreTablesFor owner db c
tables_for None db c it owned = record { numbers = it.numbers; votes_are = it.votes_are; learned_are = it.learned_are; sound = it.sound; owned = owned }
tables_for (Some owner) db c it owned = record { numbers = it.numbers; votes_are = it.votes_are; learned_are = it.learned_are; sound = it.sound; owned = owned }

pub serves_as : (owner : Option Owner) (s : State) (c : Content) → ServesFor owner s c → ServesAs (version_for owner) s c
serves_as owner s c was = record {
  is_open = was.is_open;
  autocommit = was.autocommit;
  settled = was.settled;
  schema = subst (λ (schema : Schema). s.now.schema ≡ schema) (as_version owner) was.schema;
  tables = tables_as owner s.now.trees c was.tables;
}

pub serves_for : (owner : Option Owner) (s : State) (c : Content) → ServesAs (version_for owner) s c → IsOwnedBy owner s.now.trees → ServesFor owner s c
serves_for owner s c was owned = record {
  is_open = was.is_open;
  autocommit = was.autocommit;
  settled = was.settled;
  schema = subst (λ (schema : Schema). s.now.schema ≡ schema) (sym (as_version owner)) was.schema;
  tables = tables_for owner s.now.trees c was.tables owned;
}

-- rows of facts, as the query shows them
module _ (old new : State) (facts : List (ℕ × List ℕ)) (rises : IsRisingBy (λ (v : ℕ × List ℕ). v.0) facts) where
  reads_facts : old.now.schema ≡ schema_of Third → old.now.trees 3 ≡ map fact_row facts → (rows : List Row) → Shown facts_query [] old new rows → rows ≡ map fact_shown facts
  reads_facts schema are rows h =
      let got = reads facts_is _ old new schema rows h in
      shown_all (λ v. Null ∷ Blob v.1 ∷ []) fact_shown 3 two_columns facts rises (overlay old.now.trees []) are (λ v. refl) rows (got.answer Null)

module _ (old new : State) {X : Type 0} (r : Result X Error) (items : X → List Row) (shown : IfOk r (λ x. Shown facts_query [] old new (items x))) where
  pub owner_shown : IfOk r (λ x. (owner : Owner) → old.now.schema ≡ schema_of Third → OwnedBefore owner old.now.trees → items x ≡ fact_shown (0, owner_bytes owner) ∷ [])
  owner_shown = IfOk-weaker r _ _ (λ x h. λ owner schema owned. reads_facts old new ((0, owner_bytes owner) ∷ []) (tt, tt) schema owned (items x) h) shown

  pub count_shown : IfOk r (λ x. (owner : Owner) (n : ℕ) → old.now.schema ≡ schema_of Fourth → OwnedAt owner n old.now.trees → items x ≡ map fact_shown (facts_of owner n))
  count_shown = IfOk-weaker r _ _ (λ x h. λ owner n schema owned. reads_facts old new (facts_of owner n) ((lit< tt, tt), (tt, tt)) schema owned.1 (items x) h) shown
