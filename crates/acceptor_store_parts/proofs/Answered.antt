-- Votes and learned values, as queries show them.
use Rattle.std.proofs.Common.{◌≡◌, ℕ, pos, List, [], ◌∷◌, map, Option, Result, IfOk, refl}
use Rattle.acceptor_store_parts.proofs.Words.{IfOk-weaker, Cast, Content, Error, Null, Int, Blob, Row, overlay, State}
use Rattle.acceptor_store_parts.proofs.Words.{Version, First, Second, Third, Fourth, Owner, Asked, VoteAt, VotesFrom, LearnedAt}
use Rattle.acceptor_store_parts.proofs.Words.{LearnedFrom, shown_of, all_votes_query, all_learned_query, vote_shown}
use Rattle.acceptor_store_parts.proofs.Words.{learned_row, learned_shown, KeepsLearned, HasLearned, Serves, ServesFor}
use Rattle.acceptor_store_parts.proofs.Words.{AreRowsFrom, schema_of, vote_row}
use Rattle.sqlite.specs.Tree.{Trees}
use Rattle.sqlite.specs.State.{Shown}
use Rattle.acceptor_store_parts.specs.Asked.{text_of}
use Rattle.acceptor_store_parts.proofs.Meaning.{two_columns, three_columns, asked_is, all_votes_query_is}
use Rattle.acceptor_store_parts.proofs.Meaning.{all_learned_is, plain, reads}
use Rattle.acceptor_store_parts.proofs.Kept.{AlwaysPlain}
use Rattle.acceptor_store_parts.proofs.Places.{rising}
use Rattle.acceptor_store_parts.proofs.RowsShown.{shown_from, shown_at, shown_all}

-- what stands in a row after its place
abbrev cast_in : ℕ × Cast → Row
cast_in v = Null ∷ Int (pos v.1.ballot) ∷ Blob v.1.value ∷ []

abbrev value_in : ℕ × List ℕ → Row
value_in v = Null ∷ Blob v.1 ∷ []

pub asked_plain : (asked : Asked) → AlwaysPlain (text_of asked)
asked_plain asked owner = plain (asked_is asked owner)

module _ (owner : Option Owner) (old new : State) (c : Content) (q : ℕ) (was : ServesFor owner old c) (rows : List Row) where
  found : (asked : Asked) → Shown (text_of asked) (Int (pos q) ∷ []) old new rows → rows ≡ shown_of asked q c
  found VoteAt h =
      shown_at cast_in vote_shown 1 three_columns c.votes (rising 1 c.votes was.tables.sound.0) (overlay old.now.trees []) was.tables.votes_are q (λ v. refl) rows ((reads (asked_is VoteAt owner) _ old new was.schema rows h).answer Null)
  found VotesFrom h =
      shown_from cast_in vote_shown 1 three_columns c.votes (rising 1 c.votes was.tables.sound.0) (overlay old.now.trees []) was.tables.votes_are q (λ v. refl) rows ((reads (asked_is VotesFrom owner) _ old new was.schema rows h).answer Null)
  found LearnedAt h =
      shown_at value_in learned_shown 2 two_columns c.learned (rising 1 c.learned was.tables.sound.1) (overlay old.now.trees []) was.tables.learned_are q (λ v. refl) rows ((reads (asked_is LearnedAt owner) _ old new was.schema rows h).answer Null)
  found LearnedFrom h =
      shown_from value_in learned_shown 2 two_columns c.learned (rising 1 c.learned was.tables.sound.1) (overlay old.now.trees []) was.tables.learned_are q (λ v. refl) rows ((reads (asked_is LearnedFrom owner) _ old new was.schema rows h).answer Null)

-- the table of learned values, in each version that has one
pub table_of_learned : (version : Version) → KeepsLearned version → (db : Trees) (c : Content) → HasLearned version db c → db 2 ≡ map learned_row c.learned
table_of_learned First keeps db c h = absurd keeps
table_of_learned Second keeps db c h = h
table_of_learned Third keeps db c h = h
table_of_learned Fourth keeps db c h = h

pub asked_found : (old new : State) (rows : List Row) (asked : Asked) (q : ℕ) → Shown (text_of asked) (Int (pos q) ∷ []) old new rows → (c : Content) → Serves old c → rows ≡ shown_of asked q c
asked_found old new rows asked q h c was = found was.0 old new c q was.1 rows asked h

module _ (old new : State) {X : Type 0} (r : Result X Error) (items : X → List Row) where
  pub all_votes_found : IfOk r (λ x. Shown all_votes_query [] old new (items x))
      → IfOk r (λ x. (version : Version) (votes : List (ℕ × Cast)) → old.now.schema ≡ schema_of version → AreRowsFrom 1 votes → old.now.trees 1 ≡ map vote_row votes → items x ≡ map vote_shown votes)
  all_votes_found = IfOk-weaker r _ _ (λ x h version votes schema sound are. shown_all cast_in vote_shown 1 three_columns votes (rising 1 votes sound) (overlay old.now.trees []) are (λ v. refl) (items x)
      ((reads (all_votes_query_is version) _ old new schema (items x) h).answer Null))

  pub all_learned_found : IfOk r (λ x. Shown all_learned_query [] old new (items x))
      → IfOk r (λ x. (version : Version) (learned : List (ℕ × List ℕ)) → KeepsLearned version → old.now.schema ≡ schema_of version → AreRowsFrom 1 learned → old.now.trees 2 ≡ map learned_row learned → items x ≡ map learned_shown learned)
  all_learned_found = IfOk-weaker r _ _ (λ x h version learned keeps schema sound are. shown_all value_in learned_shown 2 two_columns learned (rising 1 learned sound) (overlay old.now.trees [])
      are (λ v. refl) (items x) ((reads (all_learned_is version keeps) _ old new schema (items x) h).answer Null))
