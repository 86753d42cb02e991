-- What the tables of an accepted file serve for: its blocks by their indices, the lists of its safepoints, and the numbers of
-- its blocks' first instructions.
use Rattle.std.specs.Prelude.{ℕ, ◌+◌, ◌*◌, ◌<◌, ◌≤◌, ◌≡◌, List, length, replicate}
use Rattle.std.proofs.Common.{sym, ap, subst, ◌∙◌, arith}
use Rattle.std.proofs.lemmas.List.{length-replicate}
use Rattle.rules.specs.Limits.{largest_blocks, largest_instructions, table_words, row_words}
use Rattle.rules.specs.File.{function_in}
use Rattle.rules.specs.Liveness.{process}
use Rattle.graph.specs.Few.{values-few, blocks-few, instructions-few}
use Rattle.rows.specs.Rows.{rows}
use Rattle.listing.specs.Ascending.{length-lists-instructions}
use Rattle.listing.specs.Firsts.{Firsts, NumberedTo, numbered-firsts}
use Rattle.listing.specs.Tables.{IndexTables, ListTables}
use Rattle.acceptance.specs.Survey.{accepted-is, Indexed}
use Rattle.acceptance.specs.declared.survey.BlockCounts.{BlockCounts}

module _ {s places order index : List ℕ} {blocks : BlockCounts} (h : Indexed s places order index blocks) where
  pub index-tables : IndexTables s places index
  index-tables =
      record {
        given = h.walked.given;
        indexed = h.indexed;
        index_room = omega (arith, blocks-few s (accepted-is s h.accepted).readable.few, h.index-long);
      }

  pub list-tables :
      (outs : List ℕ) (room : ℕ) → length outs ≡ table_words → rows outs ≡ (process (function_in s)).outs
      → largest_instructions * row_words ≤ room → ListTables s places index outs room
  list-tables outs room long live enough =
      let r = (accepted-is s h.accepted).readable in
      record {
        tables = index-tables;
        values = values-few s r.few;
        live = live;
        outs_room = omega (arith, blocks-few s r.few);
        lists_room = omega (arith, length-lists-instructions (function_in s), instructions-few s r.few r.in_order);
      }

  -- the table of the blocks' first numbers has an entry for each block, and one behind
  pub firsts-room : blocks.all < largest_blocks + 1
  firsts-room = omega (arith, h.all-counted, blocks-few s (accepted-is s h.accepted).readable.few)

  pub firsts-made : {firsts : List ℕ} → NumberedTo s (blocks.all + 1) (replicate (largest_blocks + 1) 0) firsts → Firsts s firsts
  firsts-made made =
      numbered-firsts blocks.all h.all-counted (omega (arith, firsts-room, length-replicate {A = ℕ} (largest_blocks + 1) 0)) made

  -- the same of blocks that are the file's, by how many they say they are
  module _ {blocks_of : List ℕ} {count : ℕ} (same : blocks_of ≡ s) (counted : count ≡ length (function_in blocks_of).blocks) where
    all-counted : count ≡ blocks.all
    all-counted = counted ∙ ap (λ (x : List ℕ). length (function_in x).blocks) same ∙ sym h.all-counted

    pub blocks-room : count < largest_blocks + 1
    blocks-room = omega (arith, all-counted, firsts-room)

    pub firsts-of : {firsts : List ℕ} → NumberedTo blocks_of (count + 1) (replicate (largest_blocks + 1) 0) firsts → Firsts s firsts
    firsts-of {firsts} made =
        let lent = replicate (largest_blocks + 1) 0 in
        let ours = subst (λ x. NumberedTo x (count + 1) lent firsts) same made in
        firsts-made (subst (λ n. NumberedTo s (n + 1) lent firsts) all-counted ours)
