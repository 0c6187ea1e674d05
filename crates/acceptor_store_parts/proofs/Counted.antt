-- The count that a connection sees.
use Rattle.std.proofs.Common.{◌≡◌, ◌⊎◌, ℕ, List, [], ◌∷◌, map, length, Option, Some, None, IfSome, IfNone, IsSomeAnd, refl, sym, ap, ◌∙◌, subst}
use Rattle.acceptor_store_parts.proofs.Words.{AreByRowid, First, Fourth, HasCount, HasFactTable, IsCount, IsCountOf, IsOwner}
use Rattle.acceptor_store_parts.proofs.Words.{OwnedAt, Owner, Row, Schema, Second, ShowsCount, ShowsFacts, State, Third, Version}
use Rattle.acceptor_store_parts.proofs.Words.{count_bytes, fact_shown, facts_of, schema_of}
use Rattle.acceptor_store_parts.proofs.Once.{count_bytes_once}

pub with_facts : (version : Version) → HasFactTable version → schema_of version ≡ schema_of Third
with_facts First has = absurd has
with_facts Second has = absurd has
with_facts Third has = refl
with_facts Fourth has = refl

pub facts_there : (version : Version) → schema_of version ≡ schema_of Fourth → HasFactTable version
facts_there First is = absurd (let e : 2 ≡ 4 = ap (λ (s : Schema). length s.tables) is in cc)
facts_there Second is = absurd (let e : 3 ≡ 4 = ap (λ (s : Schema). length s.tables) is in cc)
facts_there Third is = tt
facts_there Fourth is = tt

-- the schema is that of tables without one of facts
found_none : (s : Schema) (found : Option Version) → IfSome found (λ version. s ≡ schema_of version) → IfNone found ((version : Version) → s ≡ schema_of version → ⊥) → (IsSomeAnd found HasFactTable → ⊥) → s ≡ schema_of Fourth → ⊥
found_none s None some none lacks is = none Fourth is
found_none s (Some version) some none lacks is = lacks (facts_there version (sym some ∙ is))

pub count_none : (old : State) (found : Option Version) → IfSome found (λ version. old.now.schema ≡ schema_of version) → IfNone found ((version : Version) → old.now.schema ≡ schema_of version → ⊥) → (IsSomeAnd found HasFactTable → ⊥)
    → IsCountOf old None
count_none old found some none lacks = record { all = λ n has. absurd (found_none old.now.schema found some none lacks has.0); some = λ by. tt }

pub found_facts : (s : Schema) (found : Option Version) → IfSome found (λ version. s ≡ schema_of version) → IsSomeAnd found HasFactTable → s ≡ schema_of Third
found_facts s None some has = absurd has
found_facts s (Some version) some has = some ∙ with_facts version has

-- rows of facts, and the count that is read off them
same_count : (a b : Owner) (n m : ℕ) (rows : List Row) → IsCount n → IsCount m → ShowsCount rows a n → ShowsCount rows b m → n ≡ m
same_count a b n m rows fits also one other =
    let shown : map fact_shown (facts_of a n) ≡ map fact_shown (facts_of b m) = sym one ∙ other in
    count_bytes_once n m fits also (let bytes : count_bytes n ≡ count_bytes m = cc in bytes)

pub count_read : (old : State) (rows : List Row) (read : Option ℕ) → old.now.schema ≡ schema_of Third → ((owner : Owner) (n : ℕ) → old.now.schema ≡ schema_of Fourth → OwnedAt owner n old.now.trees → rows ≡ map fact_shown (facts_of owner n)) → ShowsFacts old rows
    → IfSome read (λ n. (owner : Owner) × IsOwner owner × IsCount n × ShowsCount rows owner n) → IfNone read ((owner : Owner) (n : ℕ) → IsOwner owner → ShowsCount rows owner n → ⊥) → IsCountOf old read
count_read old rows None schema value held some none = record { all = λ n has. absurd (none has.1 n has.2 (value has.1 n has.0 has.3)); some = λ by. tt }
count_read old rows (Some m) schema value held some none = record {
  all = λ n has. ap Some (same_count some.0 has.1 m n rows some.2 has.3.0 some.3 (value has.1 n has.0 has.3));
  some = λ by. (schema, some.0, some.1, (some.2, held (record { schema = by.schema; sound = by.sound; shaped = by.shaped }) (facts_of some.0 m) some.3));
}
