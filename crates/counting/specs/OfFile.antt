-- A file's own records: its values, and those of its blocks.
use Rattle.std.specs.Prelude.{ℕ, zero, suc, ◌+◌, ◌-◌, ◌<◌, ◌≤◌, ◌≡◌, refl, false, List, [], T}
use Rattle.std.proofs.Common.{sym, ◌∙◌, arith, add-one, length-append}
use Rattle.std.proofs.Math.Path.{ap}
use Rattle.std.proofs.Math.ListN.{length}
use Rattle.rules.specs.Lists.{concat_map, up_from}
use Rattle.rules.specs.Tree.{Block}
use Rattle.rules.specs.Records.{record_count, records}
use Rattle.rules.specs.File.{ordered, block_records, function_in}
use Rattle.rules.specs.Graph.{block_at}
use Rattle.rules.specs.declared.Record.{Record}
use Rattle.graph.specs.Blocks.{place_of, place-less, place-last}
use Rattle.writing.specs.Places.{from_to, from_to-none, from_to-next}
use Rattle.layout.specs.BlockRuns.{copy_at}
use Rattle.layout.specs.Copied.{block-copied}
use Rattle.layout.specs.Sizes.{concat-by-number}
use Rattle.counting.specs.Added.{blocks_length}

-- records copied from place to place are as many as places
copied-length : (s : List ℕ) (n p : ℕ) → length (concat_map (copy_at s) (up_from p n)) ≡ n
copied-length s zero p = refl
copied-length s (suc n) p = ap suc (copied-length s n (suc p))

module _ (s : List ℕ) (order : T (ordered 0 (records s))) where
  -- block b's records, and those of the blocks below one
  abbrev own : ℕ → List Record
  own b = block_records (block_at (function_in s) b)

  own-length : (b : ℕ) → b < length (function_in s).blocks → length (own b) ≡ place_of s (suc b) - place_of s b
  unfolding from_to
  own-length b l = ap length (block-copied s order b l) ∙ copied-length s (place_of s (suc b) - place_of s b) (place_of s b)

  below_length : (b : ℕ) → b ≤ length (function_in s).blocks → length (from_to own 0 b) + place_of s 0 ≡ place_of s b
  below_length zero l = let none = ap length (from_to-none own 0) in omega (arith, none)
  below_length (suc b) l =
      let next : b + 1 ≡ suc b = add-one b in
      omega (
        arith,
        ap (λ (k : ℕ). length (from_to own 0 k)) (sym next),
        ap length (from_to-next own 0 b (omega arith)),
        length-append (from_to own 0 b) (own b),
        own-length b (omega (arith, l)),
        place-less s b (omega (arith, l)),
        below_length b (omega (arith, l)),
      )

  -- THE LAW.
  pub blocks-of-file : blocks_length (function_in s).blocks + place_of s 0 ≡ record_count s
  blocks-of-file =
      let n = length (function_in s).blocks in
      let outside : Block = record { cold = false; number = 0; parameters = []; items = [] } in
      omega (
        arith,
        ap length (concat-by-number block_records outside (function_in s).blocks n refl),
        below_length n (omega arith),
        place-last s,
      )
