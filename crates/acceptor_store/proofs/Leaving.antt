-- What is left where an open fails.
use Rattle.std.proofs.Common.{◌≡◌, ◌⊎◌, inl, inr, None, ap, subst, ◌∙◌, arith}
use Rattle.acceptor_store.proofs.Words.{Ghosts, Trees, Database, State, HasCleanDisk, Survives, Held, state}
use Rattle.acceptor_store.proofs.Words.{survives_then, Version, First, schema_of, ServesAs, IsOther, MayBeMade, Raised}
use Rattle.acceptor_store.proofs.Words.{Numbers, FindsContent, IsLeftWhole, IsMade, MakesReady, Second, first_count, serves_for}

-- the reads of a version's tables commit nothing
pub reads_leave : (version : Version) (old mid late new : State) → Survives old mid (λ _. IsOther old) → Survives mid late (λ _. IsOther mid) → Survives late new (λ _. late.now.schema ≡ schema_of version → ⊥)
    → (HasCleanDisk mid → old.now.schema ≡ schema_of version → mid.now ≡ old.now) → (HasCleanDisk late → mid.now.schema ≡ schema_of version → late.now ≡ mid.now)
    → Survives old new (λ _. old.now.schema ≡ schema_of version → ⊥)
reads_leave version old mid late new one two three same next =
    let Other : Trees → Type 0 = λ _. old.now.schema ≡ schema_of version → ⊥ in
    let middle : HasCleanDisk late → old.now.schema ≡ schema_of version → mid.now.schema ≡ schema_of version = λ clean has. ap (λ (d : Database). d.schema) (same (omega (arith, two.clean, clean)) has) ∙ has in
    let both : Survives old late Other = survives_then old mid late (λ _. IsOther old) (λ _. IsOther mid) Other (λ _ db other has. other version has) (λ clean db other has. other version (middle clean has)) one two in
    survives_then old late new Other (λ _. late.now.schema ≡ schema_of version → ⊥) Other (λ _ db other. other) (λ clean db other has.
    let before : HasCleanDisk late = omega (arith, three.clean, clean) in
    let there = middle before has in
    other (ap (λ (d : Database). d.schema) (next before there) ∙ there)) both three

-- a migration that failed leaves the tables of version 1, or those of version 2 with their content
pub raises_whole : {S : Type 0} (g : Ghosts S) (version : Version) (conn found : Held S) (numbers : Numbers) (db : Trees) → version ≡ First
    → (HasCleanDisk (state g found) → (db : Trees) → (state g found).may_leave db → (state g conn).may_leave db) → HasCleanDisk (state g found) → FindsContent g version conn found numbers
    → (state g found).may_leave db ⊎ MayBeMade Raised (state g found) db → IsLeftWhole g conn db
raises_whole g version conn found numbers db is leaves clean f (inl before) = inl (leaves clean db before)
raises_whole g version conn found numbers db is leaves clean f (inr raised) = inr (f.0, inr (version, f.1), let was = subst (λ v. ServesAs v (state g found) f.0) is f.2 in (raised f.0 (was.schema, was.tables)).0)

-- tables that were found are those that records are served from, or made into them
pub stays_ready : {S : Type 0} (g : Ghosts S) (version : Version) (conn found : Held S) (numbers : Numbers) → version ≡ Second → numbers.count ≡ None → FindsContent g version conn found numbers → MakesReady g conn found numbers
stays_ready g version conn found numbers is none f =
    let was = subst (λ v. ServesAs v (state g found) f.0) is f.2 in
    (f.0, inr (version, f.1), (0, none, record { serves = serves_for None (state g found) f.0 was tt; counted = tt }), f.3)

pub raises_ready : {S : Type 0} (g : Ghosts S) (version : Version) (conn found new : Held S) (numbers : Numbers) → version ≡ First → numbers.count ≡ None → FindsContent g version conn found numbers → IsMade Raised (state g found) (state g new)
    → MakesReady g conn new numbers
raises_ready g version conn found new numbers is none f made =
    let was = subst (λ v. ServesAs v (state g found) f.0) is f.2 in
    (f.0, inr (version, f.1), (first_count, none, made f.0 (was.schema, was.tables)), f.3)
