-- A list, and the number of elements that memory is reserved for.
use Rattle.std.specs.Prelude.{ℕ, List}

-- the list that contracts see: its elements, and the number of elements that memory is reserved for
pub record ReservedView (T : Type 0) : Type 0 where
  pub items : List T
  pub reserved : ℕ
