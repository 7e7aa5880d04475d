-- The prefixes that logs gained.
use Rattle.std.specs.Prelude.{◌≡◌, List, ◌∷◌, ◌++◌}
pub use Rattle.sim_base.specs.Counts.{Apart, IsCount}

module _ {E : Type 0} where
  -- p is a prefix of one of the logs, and longer than `short`
  pub record IsGained (Log : List E → Type 0) (short p : List E) : Type 0 where
    pub log : List E
    pub is_log : Log log
    pub first : E
    pub more : List E
    pub rest : List E
    pub longer : p ≡ short ++ first ∷ more
    pub prefix : log ≡ p ++ rest
