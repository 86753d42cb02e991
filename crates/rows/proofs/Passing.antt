-- Values of a row passed over: what the bits of one word, from a place on, say of the values there.
use Prim.Native.Nat.{ℕ, ◌+◌, ◌-◌, ◌*◌, ◌/◌, ◌%◌, ◌^◌, ◌<◌, ◌≤◌}
use native.Mathlib.Omega.{arith}
use mathlib.Core.Path.{◌≡◌, sym, ap, ◌∙◌}
use mathlib.Core.Bool.{false}
use mathlib.Core.List.{List}
use lib.ListN.{get_or}
use lib.Dec.{ltb, ltb→lt, nltb→le}
use Rattle.rules.specs.Limits.{row_words}
use Rattle.lists.specs.Tests.{test-elim}
use Rattle.rows.specs.Bits.{bit_at, bit-above}
use Rattle.rows.specs.Rows.{rows, row_values, rows-word}

module _ (t : List ℕ) (row at : ℕ) (inside : at < row_values) where
  -- the bits of the word of a value, from its own on
  abbrev pub bits_from : ℕ
  bits_from = get_or t (row_words * row + at / 64) 0 / 2 ^ (at % 64)

  pub row-above : (g : ℕ) → at % 64 + g < 64 → rows t row (at + g) ≡ bit_at bits_from g
  row-above g l =
      let word : (at + g) / 64 ≡ at / 64 = omega arith in
      let place : (at + g) % 64 ≡ at % 64 + g = omega arith in
      rows-word t row (at + g) (omega arith)
      ∙ ap (λ (k : ℕ). bit_at (get_or t (row_words * row + k) 0) ((at + g) % 64)) word
      ∙ ap (bit_at (get_or t (row_words * row + at / 64) 0)) place
      ∙ sym (bit-above (at % 64) g (get_or t (row_words * row + at / 64) 0))

  -- where the first n of them are 0 and none was found before, none is found as far as they reach
  pub passed_over :
      (from n end : ℕ) → ((u : ℕ) → from ≤ u → u < at → rows t row u ≡ false) → ((i : ℕ) → i < n → bit_at bits_from i ≡ false)
      → end ≤ at + n → end ≤ at + (64 - at % 64) → (u : ℕ) → from ≤ u → u < end → rows t row u ≡ false
  passed_over from n end before clear far word u l m =
      test-elim (ltb u at) (λ h. before u l (ltb→lt u at h))
      (λ h.
      let le : at ≤ u = nltb→le u at h in
      let there : at + (u - at) ≡ u = omega arith in
      ap (rows t row) (sym there) ∙ row-above (u - at) (omega arith) ∙ clear (u - at) (omega arith))
