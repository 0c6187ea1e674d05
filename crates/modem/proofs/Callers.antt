-- What crates above cite: hearings and ticks keep what a modem stands for, what it transmits by its SIDs it holds, what it heard to be leased was leased, and one time near a reference has given low bits.
pub use Rattle.modem.proofs.Owned.{leased_of}
pub use Rattle.modem.proofs.Stands.{Hears-stands, Ticks-stands}
pub use Rattle.modem.proofs.Times.{near_once}
pub use Rattle.modem.proofs.Transmits.{Ticks-held}
