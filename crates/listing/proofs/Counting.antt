-- The loop that counts a block's instructions, and the one that numbers them block by block.
use Prim.Native.Nat.{ℕ, zero, suc, ◌+◌, ◌-◌, ◌^◌, ◌<◌, ◌≤◌}
use mathlib.Core.Path.{◌≡◌, sym, ap, ◌∙◌}
use mathlib.Core.Bool.{Bool, true, false}
use mathlib.Core.List.{List}
use native.Mathlib.Omega.{arith}
use lib.ListN.{length, get_or}
use lib.Dec.{eqb}
use mir.Val.{bool_byte}
use Rattle.std.specs.List.{range_with_len, sum_by}
use Rattle.std.proofs.lemmas.List.Sums.{sum_by-cons}
use Rattle.rules.specs.Records.{kind, record_at, record_count}
use Rattle.rules.specs.File.{function_in}
use Rattle.graph.specs.Between.{between_none}
use Rattle.graph.specs.ByTable.{end-le, start-less}
use Rattle.graph.specs.Sections.{place_if, places}
use Rattle.graph.specs.Tables.{Given}
use Rattle.listing.specs.Stepping.{opens, heads_from, heads-more}

heads-none : (s : List ℕ) (end : ℕ) → length (heads_from s end end) ≡ 0
heads-none s end = ap (λ rs. length (places (eqb 4) end rs)) (between_none s end)

module _ (s : List ℕ) (end : ℕ) (k : end ≤ record_count s) where
  -- a one for each place where one starts
  pub heads-summed : (n p : ℕ) → p + n ≡ end → sum_by (λ i. bool_byte (opens s i)) (range_with_len p n) ≡ length (heads_from s p end)
  heads-summed zero p e = let same : end ≡ p = omega arith in sym (ap (λ (q : ℕ). length (heads_from s q end)) (sym same) ∙ heads-none s end)
  heads-summed (suc n) p e =
      let next : p + 1 ≡ suc p = omega arith in
      sum_by-cons (λ i. bool_byte (opens s i)) p (range_with_len (p + 1) n)
      ∙ ap (λ (k : ℕ). bool_byte (opens s p) + k)
      (ap (λ (q : ℕ). sum_by (λ i. bool_byte (opens s i)) (range_with_len q n)) next ∙ heads-summed n (suc p) (omega arith))
      ∙ go (opens s p) (heads_from s (suc p) end)
      ∙ sym (ap length (heads-more s end k p (omega arith)))
    where
      go : (b : Bool) (ps : List ℕ) → bool_byte b + length ps ≡ length (place_if b p ps)
      go true ps = omega arith
      go false ps = omega arith

  one_more : (b : Bool) (p : ℕ) (ps : List ℕ) → length (place_if b p ps) ≤ suc (length ps)
  one_more true p ps = omega arith
  one_more false p ps = omega arith

  few-from : (n p : ℕ) → p + n ≡ end → length (heads_from s p end) ≤ n
  few-from zero p e = let same : end ≡ p = omega arith in omega (arith, ap (λ (q : ℕ). length (heads_from s q end)) same, heads-none s end)
  few-from (suc n) p e =
      omega (
        arith,
        few-from n (suc p) (omega arith),
        ap length (heads-more s end k p (omega arith)),
        one_more (eqb (kind (record_at s p)) 4) p (heads_from s (suc p) end),
      )

  -- there are no more than records
  pub heads-few : (p : ℕ) → p ≤ end → length (heads_from s p end) ≤ end - p
  heads-few p l = few-from (end - p) p (omega arith)

  -- so the sum fits
  pub heads-fit : (p : ℕ) → p ≤ end → end < 2 ^ 64 → sum_by (λ i. bool_byte (opens s i)) (range_with_len p (end - p)) < 2 ^ 64
  heads-fit p l m = omega (arith, heads-summed (end - p) p (omega arith), heads-few p l)

-- so the next block's first instruction has a number no higher than its place
pub next_low :
    (s places' : List ℕ) → Given s places' → (b : ℕ) → b < length (function_in s).blocks → (first count : ℕ)
    → count ≡ length (heads_from s (get_or places' b 0 + 1) (get_or places' (b + 1) 0)) → first ≤ get_or places' b 0 → first + count ≤ get_or places' (b + 1) 0
next_low s places' given b l first count counted low =
    omega (
      arith,
      counted,
      heads-few s (get_or places' (b + 1) 0) (end-le s places' given b l) (get_or places' b 0 + 1) (start-less s places' given b l),
      start-less s places' given b l,
    )
