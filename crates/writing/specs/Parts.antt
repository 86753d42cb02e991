-- What is written for one record of the file, by the part of the output that is being written.
use Rattle.std.specs.Prelude.{ℕ, zero, suc, ◌≤◌, ◌≡◌, Bool, true, false, List, [], ◌∷◌, map, length, get_or, eqb}
use Rattle.std.proofs.Common.{eqb→eq}
use Rattle.std.proofs.Math.Dec.{not_T}
use Rattle.rules.specs.Lists.{or_else, concat_map}
use Rattle.rules.specs.Tree.{Item}
use Rattle.rules.specs.Records.{encode, edge_argument, record_at, record_count, records}
use Rattle.rules.specs.File.{ordered, item_records, function_in}
use Rattle.rules.specs.Graph.{size_of}
use Rattle.rules.specs.Plan.{Made}
use Rattle.rules.specs.Rewriting.{operand, edge_operand, words_among, landing_parameters, landed_argument, store_items, load_items, edge_load_items}
use Rattle.rules.specs.declared.EdgeArgument.{EdgeArgument}
use Rattle.rules.specs.declared.EdgeArgument.TheVariants as passes
use Rattle.rules.specs.declared.Record.{Record}
use Rattle.rules.specs.declared.Record.TheVariants as record'
use Rattle.rules.specs.declared.Words.{Words}
use Rattle.lists.specs.Tests.{eq→eqb, chosen, left_out}
use Rattle.numbering.specs.Beside.{made, made_at}
use Rattle.writing.specs.declared.parts.Part.{Part}
use Rattle.writing.specs.declared.parts.Part.TheVariants as part
use Rattle.writing.specs.declared.parts.Written.{Written}
use Rattle.writing.specs.declared.parts.Written.TheVariants as written

-- the records that are to be written
abbrev pub records_of : Written → List Record
records_of written.Nothing = []
records_of (written.One a) = a ∷ []
records_of (written.Two a b) = a ∷ b ∷ []

-- the slot of a value, by a table of tags
abbrev pub slot_in : List ℕ → ℕ → ℕ
slot_in slots v = or_else 0 (made (get_or slots v 0))

-- what a tag numbers, if anything
abbrev pub tagged : ℕ → List ℕ
tagged zero = []
tagged (suc n) = n ∷ []

-- the parameter that a tag numbers in place of a word
abbrev pub landed_word : EdgeArgument → ℕ → EdgeArgument
landed_word x zero = x
landed_word x (suc parameter) = passes.Value parameter

-- the records of items
abbrev pub items_records : List Item → List Record
items_records is = concat_map item_records is

-- a part of an edge argument, and not of a value that a record names
abbrev pub of_argument : Part → Bool
of_argument part.Load = false
of_argument part.Store = false
of_argument part.Argument = false
of_argument part.Result = false
of_argument part.Context = false
of_argument part.Parameter = false
of_argument part.PassedLoad = true
of_argument part.Passed = true
of_argument part.Word = true
of_argument part.LandingParameter = true
of_argument part.Landed = true

module _ (size slot : ℕ → ℕ) where
  -- what a part has for a record, by its words and the number beside it
  unfoldable pub part_records : Part → Words → Made → List Record
  part_records part.Load w n = items_records (load_items size slot w.second n)
  part_records part.Store w n = items_records (store_items size slot w.second n)
  part_records part.Argument w n = record'.Argument (operand w.second n) ∷ []
  part_records part.Result w n = record'.Result w.second ∷ []
  part_records part.Context w n = record'.Context w.second ∷ []
  part_records part.Parameter w n = record'.Parameter w.second ∷ []
  part_records part.PassedLoad w n = items_records (edge_load_items size slot (edge_argument w.second w.third) n)
  part_records part.Passed w n = record'.EdgeArgument (edge_operand (edge_argument w.second w.third) n) ∷ []
  part_records part.Word w n = map record'.EdgeArgument (words_among (edge_argument w.second w.third ∷ []))
  part_records part.LandingParameter w n = map record'.Parameter (landing_parameters (edge_argument w.second w.third) n)
  part_records part.Landed w n = record'.EdgeArgument (landed_argument (edge_argument w.second w.third) n) ∷ []

  -- that of a record of kind k, nothing for another
  abbrev pub part_if : ℕ → Part → Words → Made → List Record
  part_if k a w n = elim (eqb w.kind k) [ true ↦ part_records a w n | false ↦ [] ]

  module _ (k : ℕ) (a : Part) (w : Words) (n : Made) where
    pub part_if-same : w.kind ≡ k → part_if k a w n ≡ part_records a w n
    part_if-same e = chosen (eqb w.kind k) (part_records a w n) [] (eq→eqb e)

    pub part_if-other : (w.kind ≡ k → ⊥) → part_if k a w n ≡ []
    part_if-other h = left_out (eqb w.kind k) (part_records a w n) [] (not_T (eqb w.kind k) (λ t. h (eqb→eq w.kind k t)))

-- what a part has for the record at a place
abbrev pub part_at : (s numbers slots : List ℕ) → ℕ → Part → ℕ → List Record
part_at s numbers slots k a i = part_if (size_of (function_in s)) (slot_in slots) k a (encode (record_at s i)) (made_at s numbers i)

-- what a writer of parts reads: a file in order, and a tag beside each of its records
pub record Readable (s numbers : List ℕ) : Type 0 where
  pub in_order : ordered 0 (records s) ≡ true
  pub beside : record_count s ≤ length numbers
