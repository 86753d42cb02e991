-- The blocks of a file as they are written, by its tables: a reachable one by its plan, another as it is.
use Rattle.std.specs.Prelude.{ℕ, ◌+◌, ◌*◌, ◌<◌, ◌≤◌, ◌≡◌, length, get_or}
use Rattle.std.proofs.Common.{sym, ◌∙◌, arith, add-one}
use Rattle.std.proofs.Math.Path.{ap}
use Rattle.std.proofs.Math.Bool.{true, false}
use mathlib.Core.List.{List}
use Rattle.rules.specs.Limits.{row_words}
use Rattle.rules.specs.Lists.{has, up_from, NumberSet}
use Rattle.rules.specs.Records.{record_count, records}
use Rattle.rules.specs.File.{ordered, function_in}
use Rattle.rules.specs.Graph.{reachable}
use Rattle.rules.specs.Liveness.{lists}
use Rattle.rules.specs.declared.Record.{Record}
use Rattle.lists.specs.Tests.{is_true}
use Rattle.graph.specs.Tables.{Given}
use Rattle.graph.specs.Tails.{TailsLast}
use Rattle.graph.specs.Blocks.{place_of, block-head}
use Rattle.graph.specs.ByTable.{place_at}
use Rattle.rows.specs.Rows.{row_values}
use Rattle.listing.specs.Firsts.{Firsts}
use Rattle.listing.specs.Listed.{length-of-blocks}
use Rattle.listing.specs.Tables.{IndexTables, tag-reachable, tag-unreachable}
use Rattle.writing.specs.Parts.{Readable}
use Rattle.writing.specs.Places.{from_to}
use Rattle.layout.specs.BlockRuns.{number_at, number_same, copy_at, block_run}
use Rattle.layout.specs.Numbered.{number-place, number_fits}

-- what the writer of blocks reads: a file whose blocks' tails stand last, by its tables, a tag beside each record, and a row for
-- each instruction
pub record BlockTables (s places index numbers list_rows : List ℕ) (values : ℕ) : Type 0 where
  pub tables : IndexTables s places index
  pub beside : record_count s ≤ length numbers
  pub few : values ≤ row_values
  pub lists_room : row_words * length (lists (function_in s)) ≤ length list_rows
  pub tails : TailsLast s

-- what is written for block b
unfoldable pub block_part_at : (s places numbers slots : List ℕ) → ℕ → (ℕ → NumberSet) → ℕ → List Record
block_part_at s places numbers slots values sets b =
    let p = get_or places b 0 in
    let q = get_or places (b + 1) 0 in
    elim (has b (reachable (function_in s))) [ true ↦ block_run s numbers slots values sets p q | false ↦ from_to (copy_at s) p q ]

-- BY THE BLOCK TABLE
module _ {s places : List ℕ} (g : Given s places) where
  module _ (b : ℕ) (l : b < length (function_in s).blocks) where
    -- a block's record has the number of its first instruction, which is in the table
    pub number-first : {firsts : List ℕ} → Firsts s firsts → get_or firsts b 0 ≡ number_at s (get_or places b 0 + 1)
    number-first h =
        h.number b (omega arith)
        ∙ sym (rw (place_at s places g b) (number_same s (place_of s b) (λ e. let two = block-head s b l in absurd (omega (arith, e, two))))
        ∙ ap (number_at s) (place_at s places g b) ∙ number-place s g.in_order b (omega arith) ∙ length-of-blocks (function_in s) (up_from 0 b))

module _ {s places index numbers list_rows : List ℕ} {values : ℕ} (t : BlockTables s places index numbers list_rows values) where
  pub tables-readable : Readable s numbers
  tables-readable = record { in_order = is_true (ordered 0 (records s)) t.tables.given.in_order; beside = t.beside }

  module _ (b : ℕ) (l : b < length (function_in s).blocks) where
    abbrev p : ℕ
    p = get_or places b 0

    abbrev q : ℕ
    q = get_or places (b + 1) 0

    -- a block by its tag
    pub part-planned :
        (slots : List ℕ) (sets : ℕ → NumberSet) → (get_or index b 0 ≡ 0 → ⊥)
        → block_part_at s places numbers slots values sets b ≡ block_run s numbers slots values sets p q
    unfolding block_part_at
    part-planned slots sets tag =
        ap {B = List Record} (λ c. elim c [ true ↦ block_run s numbers slots values sets p q | false ↦ from_to (copy_at s) p q ])
        (tag-reachable t.tables b l tag)

    pub part-copied :
        (slots : List ℕ) (sets : ℕ → NumberSet) → get_or index b 0 ≡ 0
        → block_part_at s places numbers slots values sets b ≡ from_to (copy_at s) p q
    unfolding block_part_at
    part-copied slots sets tag =
        ap {B = List Record} (λ c. elim c [ true ↦ block_run s numbers slots values sets p q | false ↦ from_to (copy_at s) p q ])
        (tag-unreachable t.tables b l tag)

    -- every instruction of it has a row
    pub rows_fit : row_words * number_at s q ≤ length list_rows
    rows_fit =
        omega (
          arith,
          t.lists_room,
          ap (number_at s) (place_at s places t.tables.given (b + 1) ∙ ap (place_of s) (add-one b)),
          number_fits s t.tables.given.in_order b l,
        )
