pub mod Lowering
pub mod OnLinks
pub mod NextClocks
pub mod RoundCounts
pub mod LinkStanding
pub mod Rounded
pub mod Totals
