-- What is found for the record at a place is what the part has there.
use Prim.Native.Nat.{ℕ}
use mathlib.Core.Path.{◌≡◌, sym, ◌∙◌}
use mathlib.Core.List.{List, []}
use lib.ListN.{get_or}
use Rattle.rules.specs.Records.{encode, kind, record_at}
use Rattle.rules.specs.File.{function_in}
use Rattle.rules.specs.Graph.{size_of}
use Rattle.rules.specs.declared.Record.{Record}
use Rattle.numbering.specs.Beside.{made, made_at}
use Rattle.writing.specs.declared.parts.Part.{Part}
use Rattle.writing.specs.Parts.{slot_in, part_records, part_if-same, part_if-other, part_at}

module _ (s numbers slots : List ℕ) (k : ℕ) (a : Part) (i : ℕ) where
  pub part-here :
      (rs : List Record) → rs ≡ part_records (size_of (function_in s)) (slot_in slots) a (encode (record_at s i)) (made (get_or numbers i 0)) → kind (record_at s i) ≡ k
      → rs ≡ part_at s numbers slots k a i
  part-here rs found same = found ∙ sym (part_if-same (size_of (function_in s)) (slot_in slots) k a (encode (record_at s i)) (made_at s numbers i) same)

  -- a record of another kind has nothing of it
  pub part-other : (kind (record_at s i) ≡ k → ⊥) → [] ≡ part_at s numbers slots k a i
  part-other other = sym (part_if-other (size_of (function_in s)) (slot_in slots) k a (encode (record_at s i)) (made_at s numbers i) other)
