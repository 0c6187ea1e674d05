-- What the calls of records owe alike, whatever they answer.
use Rattle.std.specs.Prelude.{ℕ, Bool, IsTrue, Result, IfErr, OnOk}
use Rattle.acceptor.specs.Content.{Write}
use Rattle.acceptor.specs.Found.{Findable, AddsOnly, FindsSame, HasMade, MayHaveMade}
use Rattle.acceptor.specs.Faults.{BreaksBy, CountsFaults, IsHarmless}
use Rattle.acceptor.specs.declared.records.RecordsFault.{RecordsFault}

-- honesty and a clean store aren't regained, and while the store is clean honesty isn't lost
pub record KeepsTrust {R : Type 0} (is_honest is_clean : R → Bool) (old new : R) : Type 0 where
  pub honest : IsTrue (is_honest new) → IsTrue (is_honest old)
  pub clean : IsTrue (is_clean new) → IsTrue (is_clean old)
  pub sure : IsTrue (is_clean new) → IsTrue (is_honest old) → IsTrue (is_honest new)

-- the count of failures and the wait for a reopen go with the answer
pub record Accounts {R T : Type 0} (count_of : R → ℕ) (is_broken : R → Bool) (old : R) (result : Result T RecordsFault) (new : R) : Type 0 where
  pub count : CountsFaults result (count_of old) (count_of new)
  pub broken : BreaksBy result (is_broken old) (is_broken new)

-- a write that is Ok was made, a harmless fault changed nothing, any other may have made it, and nothing else was
-- written
pub record Writes {T : Type 0} (result : Result T RecordsFault) (old new : Findable) (write : Write) : Type 0 where
  pub ok : OnOk result (HasMade old new write)
  pub harmless : IfErr result (λ e. IsHarmless e → FindsSame old new)
  pub doubt : MayHaveMade old new write
  pub only : AddsOnly old new write
