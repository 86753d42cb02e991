-- Refusal 3 by how many records of a kind a file has.
use Rattle.std.specs.Prelude.{◌≡◌, Bool, true, false, ◌||◌, List, ℕ, eqb, ltb}
use Rattle.std.proofs.Common.{sym}
use Rattle.rules.specs.Limits.{largest_records, largest_values, largest_blocks, largest_instructions, largest_edges}
use Rattle.rules.specs.Lists.{count}
use Rattle.rules.specs.Records.{record_count, first_words}
use Rattle.rules.specs.Refusals.{too_many}
use Rattle.checks.specs.declared.counts.KindCounts.{KindCounts}

-- the counts are the file's, by the first words of its records
abbrev pub CountsOf : List ℕ → KindCounts → Type 0
CountsOf s of =
    (of.values ≡ count (eqb 1) (first_words s)) × (of.blocks ≡ count (eqb 2) (first_words s))
    × (of.instructions ≡ count (eqb 4) (first_words s)) × (of.edges ≡ count (eqb 7) (first_words s))

-- one of them is above its largest
abbrev pub above_largest : KindCounts → Bool
above_largest of =
    ltb largest_values of.values || ltb largest_blocks of.blocks || ltb largest_instructions of.instructions || ltb largest_edges of.edges

-- A file that is too long has too many,
pub too_many-long : (s : List ℕ) → ltb largest_records (record_count s) ≡ true → too_many s ≡ true
too_many-long s long =
    let of : ℕ → ℕ = λ k. count (eqb k) (first_words s) in
    λ i. long i || ltb largest_values (of 1) || ltb largest_blocks (of 2) || ltb largest_instructions (of 4) || ltb largest_edges (of 7)

-- and of another its counts decide.
pub too_many-counted : (s : List ℕ) (of : KindCounts) → ltb largest_records (record_count s) ≡ false → CountsOf s of → too_many s ≡ above_largest of
too_many-counted s of long c =
    λ i.
    long i || ltb largest_values (sym c.0 i) || ltb largest_blocks (sym c.1 i) || ltb largest_instructions (sym c.2 i)
    || ltb largest_edges (sym c.3 i)
