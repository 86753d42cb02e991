-- What a caller reads of a file by its tables: of a block by its number, where it stands; of an index, which block has it.
use Rattle.std.specs.Prelude.{ℕ, suc, ◌+◌, ◌<◌, ◌≤◌, ◌≡◌, ◌≢◌, not, List, [], ◌∷◌, length, get_or, T, eqb}
use Rattle.std.proofs.Common.{sym, ap, ◌∙◌, arith, add-one}
use Rattle.rules.specs.Lists.{padded}
use Rattle.rules.specs.Records.{kind, record_at, record_count, records}
use Rattle.rules.specs.File.{named, ordered, function_in}
use Rattle.rules.specs.Graph.{successors, reachable}
use Rattle.lists.specs.Tests.{neqb→ne, passes_at}
use Rattle.lists.specs.Members.{get_d-∈}
use Rattle.lists.specs.Lack.{nodup-length-le}
use Rattle.records.specs.Parts.{in_block, in-block}
use Rattle.walks.specs.Reachable.{reachable-nodup}
use Rattle.walks.specs.InFile.{blocks-some, reachable-in-file}
use Rattle.graph.specs.Zeros.{get_d-padded, length-padded-le}
use Rattle.graph.specs.Between.{between, kinds-between}
use Rattle.graph.specs.Tails.{TailsLast, TailLast}
use Rattle.graph.specs.Blocks.{block_table, place_of, body_at, length-block_table, place-le, place-less, block-body, successors-by-place}
use Rattle.graph.specs.Values.{values-first}
use Rattle.graph.specs.Tables.{Given}
use Rattle.graph.specs.Links.{Walked}

-- BY THE BLOCK TABLE ALONE, whatever numbers the file names
module _ (s places : List ℕ) (table : places ≡ padded (length places) (block_table s)) where
  -- the table has a place for each block, and one behind
  pub table-long : length (function_in s).blocks < length places
  table-long = omega (arith, ap length table, length-padded-le (length places) (block_table s), length-block_table s)

  table_at : (b : ℕ) → get_or places b 0 ≡ place_of s b
  table_at b = ap (λ (p : List ℕ). get_or p b 0) table ∙ get_d-padded (length places) (block_table s) b

  -- values are counted by the place of the first block
  pub table-values : T (ordered 0 (records s)) → get_or places 0 0 ≡ length (function_in s).values
  table-values in_order = table_at 0 ∙ values-first s in_order

-- BY NUMBER, with the file's block table
module _ (s places : List ℕ) (g : Given s places) where
  -- there is a block
  pub some : 0 < length (function_in s).blocks
  some = blocks-some (records s) g.in_order

  pub places-long : length (function_in s).blocks < length places
  places-long = table-long s places g.table

  pub place_at : (b : ℕ) → get_or places b 0 ≡ place_of s b
  place_at = table_at s places g.table

  pub values-by-table : get_or places 0 0 ≡ length (function_in s).values
  values-by-table = table-values s places g.table g.in_order

  module _ (b : ℕ) (l : b < length (function_in s).blocks) where
    -- a block ends in the file
    pub end-le : get_or places (b + 1) 0 ≤ record_count s
    end-le =
        let e : b + 1 ≡ suc b = omega arith in
        let h = place-le s (suc b) l in
        omega (arith, place_at (b + 1), ap (place_of s) e)

    -- behind where it starts
    pub start-less : get_or places b 0 + 1 ≤ get_or places (b + 1) 0
    start-less =
        let e : b + 1 ≡ suc b = omega arith in
        let h = place-less s b l in
        omega (arith, place_at b, place_at (b + 1), ap (place_of s) e)

    -- its records behind the first stand there
    pub body-by-table : between s (get_or places b 0 + 1) (get_or places (b + 1) 0) ≡ body_at s b
    body-by-table =
        let first : get_or places b 0 + 1 ≡ suc (place_of s b) = omega (arith, place_at b) in
        let last : get_or places (b + 1) 0 ≡ place_of s (suc b) = place_at (b + 1) ∙ ap (place_of s) (add-one b) in
        rw (first, last)

    -- and so all its edges
    pub edges-all : named 7 (between s (get_or places b 0 + 1) (get_or places (b + 1) 0)) ≡ successors (function_in s) b
    edges-all = ap (named 7) body-by-table ∙ sym (successors-by-place s g.in_order b l)

    -- no other block stands there
    no_block : (i : ℕ) → get_or places b 0 + 1 ≤ i → i < get_or places (b + 1) 0 → kind (record_at s i) ≢ 2
    no_block i m k =
        neqb→ne (kind (record_at s i)) 2
        (passes_at (λ j. not (eqb j 2)) (3 ∷ 4 ∷ 5 ∷ 6 ∷ 7 ∷ 8 ∷ 9 ∷ []) tt (kind (record_at s i))
        (kinds-between s in_block (get_or places b 0 + 1) (get_or places (b + 1) 0) end-le
        (rw body-by-table (in-block (body_at s b) (block-body s g.in_order b l))) i m k))

    -- so where tails stand last in the file, its own does in it
    pub block-tail : TailsLast s → TailLast s (get_or places b 0 + 1) (get_or places (b + 1) 0)
    block-tail tails i m k tail = let e = end-le in tails i (omega arith) tail (no_block (i + 1) (omega arith) k)

-- BY INDEX, with the list of the reachable blocks
module _ {s places order : List ℕ} {count : ℕ} (w : Walked s places order count) (j : ℕ) where
  -- the table's entry is the block of that index
  pub block-at-index : get_or order j 0 ≡ get_or (reachable (function_in s)) j 0
  block-at-index = ap (λ (xs : List ℕ). get_or xs j 0) w.listed ∙ get_d-padded (length order) (reachable (function_in s)) j

  module _ (l : j < count) where
    pub index-long : j < length order
    index-long = omega (arith, w.counted, ap length w.listed, length-padded-le (length order) (reachable (function_in s)))

    -- the block is in the file
    pub block_listed : get_or order j 0 < length (function_in s).blocks
    block_listed =
        rw block-at-index
        (reachable-in-file (function_in s) w.given.in_file (some s places w.given)
        (get_d-∈ (reachable (function_in s)) j 0 (omega (arith, w.counted))))

-- No more blocks are reachable than there are.
pub walked-few : {s places order : List ℕ} {count : ℕ} → Walked s places order count → count ≤ length (function_in s).blocks
walked-few {s} {places} w =
    let f = function_in s in
    omega (
      arith,
      w.counted,
      nodup-length-le (length f.blocks) (reachable f) (reachable-nodup f)
          (λ x. reachable-in-file f w.given.in_file (some s places w.given)),
    )
