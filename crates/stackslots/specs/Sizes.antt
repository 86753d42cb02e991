-- Refusal 9, value by value: whether a spilled value has a size that a slot can have.
use Rattle.std.specs.Prelude.{ℕ, Bool, not, ◌||◌}
use Rattle.rules.specs.Lists.{any, keep, has, up_from}
use Rattle.rules.specs.Tree.{Function}
use Rattle.rules.specs.Records.{slot_sizes}
use Rattle.rules.specs.Graph.{size_of}
use Rattle.rules.specs.Liveness.{is_spilled}

-- a value needs no slot, or one can have its size
abbrev pub slot_sized : Function → ℕ → Bool
slot_sized f v = not (is_spilled f v) || has (size_of f v) slot_sizes

-- of the k values from v on, one is not so
unfoldable pub unsized_from : Function → ℕ → ℕ → Bool
unsized_from f v k = any (λ w. not (has (size_of f w) slot_sizes)) (keep (is_spilled f) (up_from v k))
