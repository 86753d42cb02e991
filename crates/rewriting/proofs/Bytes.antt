-- A lent slice of bytes holds bytes.
use Prim.Native.Nat.{ℕ, suc, ◌<◌}
use mathlib.Core.List.{List, [], ◌∷◌}
use lib.ListN.{get_or}
use lib.Dec.{ltb, lt→ltb}
use Rattle.rules.specs.Lists.{all}
use Rattle.rules.specs.Records.{IsBytes}
use Rattle.lists.specs.Tests.{and_intro}

pub are-bytes : (s : List ℕ) → ((i : ℕ) → get_or s i 0 < 256) → IsBytes s
are-bytes [] h = tt
are-bytes (b ∷ s) h = and_intro (ltb b 256) (all (λ b. ltb b 256) s) (lt→ltb b 256 (h 0)) (are-bytes s (λ i. h (suc i)))
