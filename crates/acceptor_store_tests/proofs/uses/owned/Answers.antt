use Rattle.acceptor_store_tests.proofs.uses.owned.Goals as goal

pub use_owned-requires : goal.use_owned-requires
use_owned-requires g c = record { certain = λ honest. let it = c.in-Ok.ensures.holds honest in ∣ (it.0, it.2) ∣₁ }
