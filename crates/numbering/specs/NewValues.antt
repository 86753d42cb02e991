-- The new values of a plan, as code keeps them between planning and writing: a table of their sizes.
use Rattle.std.specs.Prelude.{ℕ, false, List, map, take}
use Rattle.rules.specs.Tree.{Value}

-- a new value of a size
abbrev pub unmarked : ℕ → Value
unmarked size = record { size = size; marked = false }

-- the first n new values, by a table of their sizes
unfoldable pub new_values : List ℕ → ℕ → List Value
new_values sizes n = map unmarked (take n sizes)
