pub mod CommitLemmas
mod EndLemmas
mod ReadLemmas
mod TieLemmas
