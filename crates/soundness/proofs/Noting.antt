-- Holding numbers against the file and counting definitions, from a place on: one record more.
use Prim.Native.Nat.{ℕ, ◌+◌, ◌<◌}
use mathlib.Core.Path.{◌≡◌, sym, ap, ap₂, subst, ◌∙◌}
use mathlib.Core.Bool.{true, ◌&&◌}
use mathlib.Core.List.{List}
use lib.ListN.{length}
use lib.Dec.{T}
use Rattle.rules.specs.Lists.{all}
use Rattle.rules.specs.Records.{encode, record_at, record_count, records}
use Rattle.rules.specs.File.{ordered, function_in}
use Rattle.rules.specs.Refusals.{numbers_in_file}
use Rattle.records.specs.Places.{rest, rest-next}
use Rattle.checks.specs.Numbers.{fit, numbers_in_file-by-records}
use Rattle.checks.specs.Definitions.{noted, noted_all}

module _ (s : List ℕ) (i : ℕ) (h : i < record_count s) where
  pub noted-next : (t : List ℕ) → noted_all t (rest s i) ≡ noted_all (noted t (encode (record_at s i))) (rest s (i + 1))
  noted-next t = ap (noted_all t) (rest-next s i h)

  pub fit_next : (values blocks : ℕ)
      → all (fit values blocks) (rest s i) ≡ (fit values blocks (record_at s i) && all (fit values blocks) (rest s (i + 1)))
  fit_next values blocks = ap (all (fit values blocks)) (rest-next s i h)

-- refusal 5, by the records of a file in order and how many values and blocks it has
pub in-file : (s : List ℕ) (values blocks : ℕ) → ordered 0 (records s) ≡ true
    → values ≡ length (function_in s).values → blocks ≡ length (function_in s).blocks
    → all (fit values blocks) (records s) ≡ numbers_in_file (function_in s)
in-file s values blocks in_order v b =
    ap₂ (λ n m. all (fit n m) (records s)) v b ∙ sym (numbers_in_file-by-records (records s) (subst T (sym in_order) tt))
