-- An instruction as it is written, run by run: each run goes over the records from one place to another.
use Rattle.std.specs.Prelude.{ℕ, ◌+◌, List, [], ◌∷◌, ◌++◌}
use Rattle.rules.specs.Lists.{NumberSet}
use Rattle.rules.specs.Records.{record_at}
use Rattle.rules.specs.File.{function_in}
use Rattle.rules.specs.Graph.{size_of}
use Rattle.rules.specs.declared.Record.{Record}
use Rattle.writing_edges.specs.declared.edges.EdgePart.{EdgePart}
use Rattle.writing_edges.specs.declared.edges.EdgePart.TheVariants as edge
use Rattle.writing.specs.declared.parts.Part.{Part}
use Rattle.writing.specs.declared.parts.Part.TheVariants as part
use Rattle.writing.specs.Parts.{slot_in, part_at}
use Rattle.writing.specs.Places.{from_to}
use Rattle.writing_edges.specs.Edges.{edge_part_at}
use Rattle.writing_instructions.specs.Entries.{entries_below}

module _ (s numbers slots : List ℕ) where
  -- what a part has for the records of kind k from place p on and before place q, and for the edges there
  abbrev pub parts_run : ℕ → Part → ℕ → ℕ → List Record
  parts_run k a p q = from_to (part_at s numbers slots k a) p q

  abbrev pub edges_run : EdgePart → ℕ → ℕ → List Record
  edges_run a p q = from_to (edge_part_at s numbers slots a q) p q

  -- the loads before an instruction, for its arguments and for its edges
  abbrev pub loads_run : ℕ → ℕ → List Record
  loads_run p q = parts_run 6 part.Load p q ++ edges_run edge.Loads p q

  -- its arguments and results
  abbrev pub operands_run : ℕ → ℕ → List Record
  operands_run p q = parts_run 6 part.Argument p q ++ parts_run 5 part.Result p q

  -- its edges and contexts
  abbrev pub exits_run : ℕ → ℕ → List Record
  exits_run p q = edges_run edge.Itself p q ++ parts_run 9 part.Context p q

  module _ (set : NumberSet) (values : ℕ) where
    -- the instruction at place p itself, with its map: the values below a number that a set has
    abbrev pub itself_run : ℕ → ℕ → List Record
    itself_run p q =
        (((record_at s p ∷ []) ++ operands_run (p + 1) q) ++ exits_run (p + 1) q) ++ entries_below (size_of (function_in s)) (slot_in slots) set values

    -- with its loads and stores
    unfoldable pub instruction_run : ℕ → ℕ → List Record
    instruction_run p q = (loads_run (p + 1) q ++ itself_run p q) ++ parts_run 5 part.Store (p + 1) q
