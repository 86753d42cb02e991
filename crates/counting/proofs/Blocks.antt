-- What is added to a block, by the tables: nothing where it has no index, else what the tags in its records add.
use Prim.Native.Nat.{ℕ, suc, ◌+◌, ◌*◌, ◌<◌, ◌≤◌}
use native.Mathlib.Omega.{arith}
use lib.Dec.{eqb, eqb→eq}
use mathlib.Core.Path.{◌≡◌, sym, ap, ap₂, ◌∙◌}
use mathlib.Core.Bool.{Bool, true, false}
use mathlib.Core.List.{List}
use native.Mathlib.Numerals.{add-one}
use lib.ListN.{length, get_or}
use Rattle.rules.specs.File.{function_in}
use Rattle.rules.specs.Limits.{largest_records}
use Rattle.rules.specs.Records.{record_count}
use Rattle.lists.specs.Tests.{test-elim, neqb→ne}
use Rattle.graph.specs.Between.{between}
use Rattle.graph.specs.Blocks.{place_of}
use Rattle.graph.specs.ByTable.{place_at, start-less, end-le}
use Rattle.counting.proofs.Weighing.{between-small}
use Rattle.listing.specs.Tables.{IndexTables, tag-reachable, tag-unreachable}
use Rattle.numbering.specs.Beside.{block_plan_at}
use Rattle.counting.specs.Added.{block_adds}
use Rattle.counting.specs.Weights.{weighed, beside_records, block-weighs}
use Rattle.counting.specs.Totals.{block_added}

module _ {s places index : List ℕ} (numbers : List ℕ) (t : IndexTables s places index) (b : ℕ) (l : b < length (function_in s).blocks) where
  pub added_none : get_or index b 0 ≡ 0 → 0 ≡ block_added s numbers b
  unfolding block_added
  added_none tag = sym (ap (λ (r : Bool). elim r [ true ↦ block_adds (block_plan_at s numbers b) | false ↦ 0 ]) (tag-unreachable t b l tag))

  pub added-some :
      (get_or index b 0 ≡ 0 → ⊥)
      → weighed (beside_records numbers) (get_or places b 0 + 1) (between s (get_or places b 0 + 1) (get_or places (b + 1) 0)) ≡ block_added s numbers b
  unfolding block_added
  added-some tag =
      let first : get_or places b 0 + 1 ≡ suc (place_of s b) = add-one (get_or places b 0) ∙ ap suc (place_at s places t.given b) in
      let last : get_or places (b + 1) 0 ≡ place_of s (suc b) = place_at s places t.given (b + 1) ∙ ap (place_of s) (add-one b) in
      ap₂ (λ (p q : ℕ). weighed (beside_records numbers) p (between s p q)) first last
      ∙ sym (block-weighs s numbers t.given.in_order b l)
      ∙ sym (ap (λ (r : Bool). elim r [ true ↦ block_adds (block_plan_at s numbers b) | false ↦ 0 ]) (tag-reachable t b l tag))

  -- which is not much
  pub added-small : record_count s ≤ largest_records → block_added s numbers b ≤ 3 * largest_records
  added-small few =
      let start = start-less s places t.given b l in
      let end = end-le s places t.given b l in
      test-elim (eqb (get_or index b 0) 0)
      (λ none. omega (arith, added_none (eqb→eq (get_or index b 0) 0 none)))
      (λ other. omega (arith, added-some (neqb→ne (get_or index b 0) 0 other), between-small s numbers (get_or places b 0 + 1) (get_or places (b + 1) 0) (omega (arith, start)) end, end, few))
