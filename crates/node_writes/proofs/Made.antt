-- What a write leaves where records are in memory.
use Rattle.std.proofs.Common.{◌≡◌, Some, refl}
use Rattle.acceptor.specs.Content.{Content, Write, after_write}
use Rattle.acceptor.specs.Found.{HasMade}
use Rattle.acceptor.specs.Kept.{is_it}

-- a write that was made leaves the content after it
pub made_so : (old new : Content) (write : Write) → HasMade (is_it old) (is_it new) write → new ≡ after_write old (Some write)
made_so old new write has = (has old (∣ refl ∣₁, λ d is. is)).1 new refl
