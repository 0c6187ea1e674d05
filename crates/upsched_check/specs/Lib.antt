pub mod Lines
pub mod Reports
pub mod Plans
pub mod Stats
pub mod StatsAsJson
pub mod Draws
pub mod Named
