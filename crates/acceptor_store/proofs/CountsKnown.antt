-- What is known of a count.
use Rattle.std.proofs.Common.{◌≡◌, inl, inr, ℕ, ◌+◌, List, [], ◌∷◌, map, Option, Some, None, sym, subst, ◌∙◌, refl}
use Rattle.sqlite.specs.Order.{Row}
use Rattle.acceptor_store.proofs.Words.{AreOwnedBy, AreReadAs, AreTablesAt, AreTablesFor, AreTablesNext, Content}
use Rattle.acceptor_store.proofs.Words.{Ghosts, HadFor, HadRead, Held, IsCountRead, IsKnownCount, NamesAt, NamesNone}
use Rattle.acceptor_store.proofs.Words.{NamesOwner, OwnedAt, OwnedBefore, Owner, ServesAt, ServesFor, ServesKnown}
use Rattle.acceptor_store.proofs.Words.{ShowsAt, State, StillServes, Trees, fact_row, fact_shown, facts_of, owner_bytes}

-- what serves still serves each content still
pub still_for : (old new : State) → StillServes old new → (owner : Option Owner) (c : Content) → ServesFor owner old c → ServesFor owner new c
still_for old new still None c was = (still None 0 c (record { serves = was; counted = tt })).serves
still_for old new still (Some owner) c was = (still (Some owner) was.tables.owned.0 c (record { serves = was; counted = was.tables.owned.1 })).serves

pub still_known : (old new : State) → StillServes old new → (owner : Option Owner) (count : Option ℕ) (c : Content) → ServesKnown owner count old c → ServesKnown owner count new c
still_known old new still owner count c (n, is, was) = (n, is, still owner n c was)

-- what was read of a table of facts
module _ (owner : Owner) where
  pub names_read : (count : Option ℕ) (db : Trees) (c : Content) → AreReadAs owner count db c → NamesOwner owner db
  names_read None db c are = inr are.1
  names_read (Some n) db c are = inl (n, are.1)

  pub owned_read : (count : Option ℕ) (db : Trees) (c : Content) → AreReadAs owner count db c → AreOwnedBy owner db c
  owned_read None db c are = inr are
  owned_read (Some n) db c are = inl are.0

  pub names_owned : (db : Trees) (c : Content) → AreOwnedBy owner db c → NamesOwner owner db
  names_owned db c (inl are) = inl are.owned
  names_owned db c (inr are) = inr are.1

  pub had_read : {S : Type 0} (g : Ghosts S) (count : Option ℕ) (conn : Held S) (c : Content) → HadRead g owner count conn c → HadFor g owner conn c
  had_read g count conn c had = (had.0, owned_read count _ c had.1, had.2)

  pub named_held : (db : Trees) (rows : List Row) (count : Option ℕ) → IsCountRead count → ((facts : List (ℕ × List ℕ)) → rows ≡ map fact_shown facts → db 3 ≡ map fact_row facts) → ShowsAt rows owner count → NamesAt owner count db
  named_held db rows None fits held shows = held ((0, owner_bytes owner) ∷ []) shows
  named_held db rows (Some n) fits held shows = (fits, held (facts_of owner n) shows)

  pub named_only : (db : Trees) (rows : List Row) (count : Option ℕ) → ((o : Owner) (n : ℕ) → OwnedAt o n db → rows ≡ map fact_shown (facts_of o n)) → ((o : Owner) → OwnedBefore o db → rows ≡ fact_shown (0, owner_bytes o) ∷ []) → ShowsAt rows owner count
      → NamesNone count db
  named_only db rows None value before shows = λ o owned. absurd (let e : fact_shown (0, owner_bytes owner) ∷ [] ≡ map fact_shown (facts_of o owned.0) = sym shows ∙ value o owned.0 owned.1 in cc)
  named_only db rows (Some n) value before shows = λ o owned. absurd (let e : map fact_shown (facts_of owner n) ≡ fact_shown (0, owner_bytes o) ∷ [] = sym shows ∙ before o owned in cc)
