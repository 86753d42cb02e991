-- The sizes of slots, as the table of holders has them.
use Rattle.std.specs.Prelude.{ℕ, zero, suc, List, set, get_or}
use Rattle.holders.specs.declared.Holder.{Holder}
use Rattle.holders.specs.Table.{nobody}

-- the size of slot k
abbrev pub size_in : List Holder → ℕ → ℕ
size_in table k = (get_or table k nobody).size

-- the sizes of the first slots, over a list of numbers
abbrev pub sizes_over : List Holder → ℕ → List ℕ → List ℕ
sizes_over table zero sizes = sizes
sizes_over table (suc k) sizes = set (sizes_over table k sizes) k (size_in table k)
