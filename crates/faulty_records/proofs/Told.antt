-- What is told of a write of which the records may be broken.
use Rattle.std.proofs.Common.{◌≡◌, Result, Err, IfErr, OnOk, sym, subst}
use Rattle.acceptor.specs.Calls.{Writes}
use Rattle.acceptor.specs.Content.{Write}
use Rattle.acceptor.specs.Faults.{IsHarmless}
use Rattle.acceptor.specs.Found.{Findable, FindsSame, HasMade}
use Rattle.acceptor.specs.declared.records.RecordsFault.{RecordsFault}
use Rattle.acceptor.specs.declared.records.RecordsFault.TheVariants.{Broken}

-- a write that was made, and told as broken
pub told_broken : {T : Type 0} (old new : Findable) (write : Write) (made told : Result T RecordsFault) → Writes made old new write → told ≡ Err Broken → Writes told old new write
told_broken old new write made told it is = record {
  ok = subst (λ r. OnOk r (HasMade old new write)) (sym is) tt;
  harmless = subst (λ r. IfErr r (λ e. IsHarmless e → FindsSame old new)) (sym is) (λ none. absurd none);
  doubt = it.doubt;
  only = it.only;
}

-- and one that failed, told as it did
pub told_alike : {T : Type 0} (old new : Findable) (write : Write) (fault : RecordsFault) (told : Result T RecordsFault) → Writes {T = T} (Err fault) old new write → told ≡ Err fault → Writes told old new write
told_alike old new write fault told it is = subst (λ r. Writes r old new write) (sym is) it
