-- Which kinds may stand behind a kind, as bits.
use Rattle.std.specs.Prelude.{ℕ, List, [], ◌∷◌}

-- kind k at bit k of the kind's row; row 0 is the start of the file, and there are no rows for kinds that only an output has
unfoldable pub follower_bits : List ℕ
follower_bits = 6 ∷ 6 ∷ 24 ∷ 24 ∷ 756 ∷ 692 ∷ 756 ∷ 916 ∷ 916 ∷ 532 ∷ []
