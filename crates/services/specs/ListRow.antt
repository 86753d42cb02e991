-- The answer for a list that is a row: its count, or how many there are where they do not fit.
use Rattle.std.specs.Prelude.{ℕ, true, false, List, length, replicate, ltb, Result, Ok, Err}
use Rattle.rules.specs.Lists.{NumberSet, padded}
use Rattle.rules.specs.declared.Refusal.{Refusal}
use Rattle.rules.specs.declared.Refusal.TheVariants as refusal
use Rattle.listing.specs.Ascending.{ascending}

-- refused by 11 where n words are too few, with the count
unfoldable pub row_answer : NumberSet → ℕ → Result ℕ Refusal
row_answer set n =
    let count = length (ascending set) in
    elim (ltb n count) [ true ↦ Err (refusal.TooShort count) | false ↦ Ok count ]

-- the values with zeros behind them, or zeros alone
unfoldable pub row_numbers : NumberSet → ℕ → List ℕ
row_numbers set n = elim (ltb n (length (ascending set))) [ true ↦ replicate n 0 | false ↦ padded n (ascending set) ]
