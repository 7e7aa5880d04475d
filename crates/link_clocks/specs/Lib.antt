pub mod NetClocks
pub mod LinkWorlds
pub mod Examples
