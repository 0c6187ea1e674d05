-- What crates above cite: fresh nodes, one after another; a modem's event, from the one modem to all of them.
pub use Rattle.seats.proofs.Fresh.{AreFirst, none_first, next_first, all_first}
pub use Rattle.seats.proofs.AtModem.{comes_at, hears_none, new_are, new_stands, none_does, one_does, one_stays}
