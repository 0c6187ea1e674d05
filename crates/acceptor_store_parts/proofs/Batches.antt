-- What a transaction makes of a node's writes, and what is there where it is undone.
use Rattle.std.proofs.Common.{◌≡◌, inl, inr, ℕ, ◌+◌, suc, List, take, Some, None, Option, Ok, Err, Result, IsTrue, IfErr, OnErr, OnOk}
use Rattle.std.proofs.Common.{refl, sym, ap, subst, ◌∙◌, arith, slice_get, true, false}
use Rattle.node_writes.specs.declared.write_bytes.WriteBytes.{WriteBytes}
use Rattle.node_writes.specs.Writes.{SpellsOf}
use Rattle.node_writes.proofs.Callers.{lead_next}
use Rattle.acceptor_store_parts.proofs.Words.{Write, after_write, Error, Database, State, Ghosts, Held, state}
use Rattle.acceptor_store_parts.proofs.Words.{HasCleanDisk, Survives, Shows, IsRolledBack, AreTablesAt, AreTablesFor, StillServes}
use Rattle.acceptor_store_parts.proofs.Words.{survives_begin, survives_then, survives_weaker, Content, CountsInside, HoldsAt, IsCount, IsNext}
use Rattle.acceptor_store_parts.proofs.Words.{IsOwnedAt, LeadsInside, OwnedAt, Owner, PutsAllInside, PutsCount}
use Rattle.acceptor_store_parts.proofs.Words.{PutsInside, ServesAt, HasWritten, MayHaveWritten, Wrote}
use Rattle.acceptor_store_parts.proofs.Makes.{served_after}
use Rattle.sqlite.specs.State.{KeepsCommit}
use Rattle.sqlite.specs.Steps.{FailsToCommit}

-- nothing happened
pub survives_same : (s : State) → Survives s s (λ _. ⊥)
survives_same s = record { clean = omega arith; shield = λ h. h; counts = omega arith; limit = refl; closes = λ clean opened. inl opened; crash = λ clean db may. inl may }

pub keeps_same : (s : State) → KeepsCommit s s
keeps_same s = record { was_open = λ opened. opened; committed = λ opened. refl }

pub keeps_then : (a b c : State) → KeepsCommit a b → KeepsCommit b c → KeepsCommit a c
keeps_then a b c one two = record { was_open = λ opened. one.was_open (two.was_open opened); committed = λ opened. two.committed opened ∙ one.committed (two.was_open opened) }

-- one more write of the node
pub one_more : (id : ℕ) (writes : List WriteBytes) (i j : ℕ) (r : WriteBytes) (write : Option Write) (old mid new : State) → j ≡ suc i → slice_get writes i ≡ Some r → SpellsOf id r write
    → PutsAllInside id (take i writes) old mid → PutsInside write mid new → PutsAllInside id (take j writes) old new
one_more id writes i j r write old mid new next there spells before put = (
  put.0,
  λ owner n c was.
      let it = before.1 owner n c was in
      (after_write it.0 write, lead_next id writes i j r write c it.0 _ next refl there it.1 spells, put.1 owner n it.0 it.2),
)

-- the next count, behind what leads to a content
pub leads_inside : {E : Type 0} (Leads : Content → Content → Type 0) (next : Option ℕ) (old mid new : State) (r : Result Unit E) → ((owner : Option Owner) (n : ℕ) (c : Content) → HoldsAt owner n old.now c → (last : Content) × Leads c last × HoldsAt owner n mid.now last)
    → OnOk r (CountsInside next mid new) → OnOk r (LeadsInside Leads next old new)
leads_inside Leads next old mid new (Err e) leads counts = tt
leads_inside Leads next old mid new (Ok x) leads counts = (counts.0, λ owner n c is was. let it = leads owner n c was in (it.0, it.1, counts.1 owner n it.0 is it.2))

-- without a next count there is nothing to write
none_counted : (s : State) (owner : Option Owner) (n : ℕ) (c : Content) → IsNext owner n None → HoldsAt owner n s.now c → HoldsAt owner (n + 1) s.now c
none_counted s None n c next was = was
none_counted s (Some owner) n c next was = absurd cc

pub counts_none : (s : State) → IsTrue s.in_transaction → CountsInside None s s
counts_none s inside = (inside, none_counted s)

-- and one that is written is that of the tables
some_counted : (m : ℕ) (old new : State) (fits : IsCount m) (put : PutsCount m old new) (owner : Option Owner) (n : ℕ) (c : Content) → IsNext owner n (Some m) → HoldsAt owner n old.now c → HoldsAt owner (n + 1) new.now c
some_counted m old new fits put None n c next was = absurd cc
some_counted m old new fits put (Some owner) n c next was =
    let is : m ≡ n + 1 = cc in
    let it = put.1 was.0.0 in
    let owned : OwnedAt owner (n + 1) new.now.trees = subst (λ k. OwnedAt owner k new.now.trees) is (it.2 owner fits (inl (n, was.1))) in (
      (
        it.0,
        record {
          numbers = it.1 0 (λ same. absurd cc) ∙ was.0.1.numbers;
          votes_are = it.1 1 (λ same. absurd cc) ∙ was.0.1.votes_are;
          learned_are = it.1 2 (λ same. absurd cc) ∙ was.0.1.learned_are;
          sound = was.0.1.sound;
          owned = (n + 1, owned);
        },
      ),
      owned,
    )

pub counts_some : (m : ℕ) (old new : State) → IsCount m → PutsCount m old new → CountsInside (Some m) old new
counts_some m old new fits put = (put.0, some_counted m old new fits put)

-- a transaction that led to a content and counted, and its end
module _ {S : Type 0} (g : Ghosts S) (conn end : Held S) (mid : State) (Leads : Content → Content → Type 0) (next : Option ℕ) (ran : Survives (state g (record conn { in_transaction = true })) mid (λ _. ⊥))
    (puts : HasCleanDisk mid → LeadsInside Leads next (state g (record conn { in_transaction = true })) mid) (ends : Survives mid (state g end) (λ db. db ≡ mid.now.trees)) where
  pub all_committed : Shows mid (state g end) mid.now mid.now false → HasCleanDisk (state g end) → (owner : Option Owner) (n : ℕ) (c : Content) → IsNext owner n next → ServesAt owner n (state g conn) c
      → (last : Content) × Leads c last × ServesAt owner (n + 1) (state g end) last
  all_committed shows clean owner n c is was =
      let it = (puts (omega (arith, ends.clean, clean))).1 owner n c is ((was.serves.schema, was.serves.tables), was.counted) in
      (it.0, it.1, served_after owner (n + 1) mid (state g end) it.0 it.2 shows)

  pub may_commit_all : Survives (state g conn) (state g end) (λ db. (owner : Option Owner) (n : ℕ) (c : Content) → IsNext owner n next → ServesAt owner n (state g conn) c → (last : Content) × Leads c last × AreTablesAt owner (n + 1) db last)
  may_commit_all = survives_then (state g conn) mid (state g end) (λ _. ⊥) (λ db. db ≡ mid.now.trees) _ (λ _ db no. absurd no)
      (λ clean db is owner n c next was.
      let it = (puts (omega (arith, ends.clean, clean))).1 owner n c next ((was.serves.schema, was.serves.tables), was.counted) in
      (it.0, it.1, subst (λ t. AreTablesAt owner (n + 1) t it.0) (sym is) (it.2.0.1, it.2.1)))
      (survives_begin g conn mid _ ran) ends

-- where that is one write
module _ {S : Type 0} (g : Ghosts S) (conn end : Held S) (mid : State) (write : Write) (next : Option ℕ) (ran : Survives (state g (record conn { in_transaction = true })) mid (λ _. ⊥))
    (puts : HasCleanDisk mid → LeadsInside (Wrote write) next (state g (record conn { in_transaction = true })) mid) (ends : Survives mid (state g end) (λ db. db ≡ mid.now.trees)) where
  pub one_committed : Shows mid (state g end) mid.now mid.now false → HasCleanDisk (state g end) → HasWritten next (state g conn) (state g end) write
  one_committed shows clean owner n c is was =
      let it = all_committed g conn end mid (Wrote write) next ran puts ends shows clean owner n c is was in
      subst (ServesAt owner (n + 1) (state g end)) it.1 it.2

  pub may_commit_one : Survives (state g conn) (state g end) (MayHaveWritten next (state g conn) write)
  may_commit_one = survives_weaker (state g conn) (state g end) _ (MayHaveWritten next (state g conn) write)
      (λ _ db all owner n c is was. let it = all owner n c is was in subst (AreTablesAt owner (n + 1) db) it.1 it.2) (may_commit_all g conn end mid (Wrote write) next ran puts ends)

-- a transaction that was undone leaves what was served
module _ {S : Type 0} (g : Ghosts S) (conn : Held S) (mid end : State) (kept : KeepsCommit (state g (record conn { in_transaction = true })) mid) where
  pub undone_serves : IsRolledBack mid end → IsTrue end.is_open → StillServes (state g conn) end
  undone_serves back opened owner n c was =
      let now = (back.undone opened).0 ∙ kept.committed (back.was_open opened) ∙ sym was.serves.settled in
      record {
        serves = record {
          is_open = opened;
          autocommit = back.autocommit;
          settled = (back.undone opened).0 ∙ sym (back.undone opened).1;
          schema = ap (λ (d : Database). d.schema) now ∙ was.serves.schema;
          tables = subst (λ (d : Database). AreTablesFor owner d.trees c) (sym now) was.serves.tables;
        };
        counted = subst (λ (d : Database). IsOwnedAt owner n d.trees) (sym now) was.counted;
      }

  -- where its commit failed too
  uncommitted_serves : (e : Error) → IsTrue mid.in_transaction → FailsToCommit mid end e → IsTrue end.is_open → StillServes (state g conn) end
  uncommitted_serves e inside (inl fails) opened = undone_serves fails.3 opened
  uncommitted_serves e inside (inr late) opened = absurd (let both = sym late.1 ∙ inside in cc)

  pub commit_failed : {T : Type 0} (r : Result T Error) → IsTrue mid.in_transaction → IfErr r (FailsToCommit mid end) → IsTrue end.is_open → OnErr r (StillServes (state g conn) end)
  commit_failed (Ok x) inside fails opened = tt
  commit_failed (Err e) inside fails opened = uncommitted_serves e inside fails opened
