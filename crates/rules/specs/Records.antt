-- The function file: bytes, words, and the table of the fifteen kinds.
use Rattle.std.specs.Prelude.{ℕ, zero, suc, ◌+◌, ◌*◌, ◌/◌, ◌%◌, Bool, true, false, ◌&&◌, cond, List, [], ◌∷◌, length, get_or, drop, T, ltb, leb, eqb}
use Rattle.rules.specs.Limits.{record_bytes}
use Rattle.rules.specs.Lists.{all, concat_map, has}
use Rattle.rules.specs.declared.EdgeArgument.{EdgeArgument}
use Rattle.rules.specs.declared.EdgeArgument.TheVariants as passes
use Rattle.rules.specs.declared.Words.{Words}
use Rattle.rules.specs.declared.Record.{Record}
use Rattle.rules.specs.declared.Record.TheVariants as record'

-- the unsigned 32-bit little-endian word at a byte
abbrev pub word_at : List ℕ → ℕ → ℕ
word_at s i = get_or s i 0 + 256 * get_or s (i + 1) 0 + 65536 * get_or s (i + 2) 0 + 16777216 * get_or s (i + 3) 0

-- the four bytes of a word
abbrev pub bytes_of_word : ℕ → List ℕ
bytes_of_word w = w % 256 ∷ w / 256 % 256 ∷ w / 65536 % 256 ∷ w / 16777216 % 256 ∷ []

-- four words: a kind, and words 2, 3, 4
abbrev pub words : ℕ → ℕ → ℕ → ℕ → Words
words k a b c = record { kind = k; second = a; third = b; fourth = c }

-- a table's 0 or 1
abbrev pub bit : Bool → ℕ
bit true = 1
bit false = 0

-- the sizes that a slot can have
abbrev pub slot_sizes : List ℕ
slot_sizes = 1 ∷ 2 ∷ 4 ∷ 8 ∷ 16 ∷ []

-- the logarithm of a slot's size, one of those
abbrev pub log2 : ℕ → ℕ
log2 size = cond (eqb size 1) 0 (cond (eqb size 2) 1 (cond (eqb size 4) 2 (cond (eqb size 8) 3 4)))

-- the flags of an instruction: 1 safepoint, 2 terminator
abbrev pub is_safepoint : ℕ → Bool
is_safepoint flags = eqb (flags % 2) 1

abbrev pub is_terminator : ℕ → Bool
is_terminator flags = leb 2 flags

-- an edge argument by its words 2 and 3
abbrev pub edge_argument : ℕ → ℕ → EdgeArgument
edge_argument a b = cond (eqb a 0) (passes.Value b) (cond (eqb a 1) (passes.Returned b) (passes.Exception b))

-- The table, read: the record that four words are, Outside where a word is not as the table has it.
unfoldable pub decode : ℕ → ℕ → ℕ → ℕ → Record
decode k a b c =
    let zero₃ : Record → Record = λ r. cond (eqb b 0 && eqb c 0) r record'.Outside in
    let zero₄ : Bool → Record → Record = λ t r. cond (eqb c 0 && t) r record'.Outside in
    cond (eqb k 1) (zero₄ (leb 1 a && leb a 64 && leb b 1) (record'.Value a (eqb b 1)))
    (cond (eqb k 2) (zero₄ (leb a 1) (record'.Block (eqb a 1) b))
    (cond (eqb k 3) (zero₃ (record'.Parameter a))
    (cond (eqb k 4) (zero₄ (leb a 3) (record'.Instruction (is_safepoint a) (is_terminator a) b))
    (cond (eqb k 5) (zero₃ (record'.Result a))
    (cond (eqb k 6) (zero₃ (record'.Argument a))
    (cond (eqb k 7) (zero₃ (record'.Edge a))
    (cond (eqb k 8) (zero₄ (leb a 2) (record'.EdgeArgument (edge_argument a b)))
    (cond (eqb k 9) (zero₃ (record'.Context a))
    (cond (eqb k 10) (zero₄ (has a slot_sizes && eqb b (log2 a)) (record'.Slot a))
    (cond (eqb k 11) (zero₄ true (record'.MapEntry a b))
    (cond (eqb k 12) (zero₄ true (record'.SlotAddress a b))
    (cond (eqb k 13) (zero₄ true (record'.Store a b))
    (cond (eqb k 14) (record'.Load a b c)
    (cond (eqb k 15) (cond (eqb a 0) (zero₃ record'.Jump) record'.Outside)
    record'.Outside))))))))))))))

-- The table, written: the four words of a record.
abbrev pub encode : Record → Words
encode (record'.Value size marked) = words 1 size (bit marked) 0
encode (record'.Block cold number) = words 2 (bit cold) number 0
encode (record'.Parameter v) = words 3 v 0 0
encode (record'.Instruction safepoint terminator tag) = words 4 (bit safepoint + 2 * bit terminator) tag 0
encode (record'.Result v) = words 5 v 0 0
encode (record'.Argument v) = words 6 v 0 0
encode (record'.Edge block) = words 7 block 0 0
encode (record'.EdgeArgument (passes.Value v)) = words 8 0 v 0
encode (record'.EdgeArgument (passes.Returned index)) = words 8 1 index 0
encode (record'.EdgeArgument (passes.Exception index)) = words 8 2 index 0
encode (record'.Context v) = words 9 v 0 0
encode (record'.Slot size) = words 10 size (log2 size) 0
encode (record'.MapEntry slot size) = words 11 slot size 0
encode (record'.SlotAddress result slot) = words 12 result slot 0
encode (record'.Store value address) = words 13 value address 0
encode (record'.Load result address size) = words 14 result address size
encode record'.Jump = words 15 0 0 0
encode record'.Outside = words 0 0 0 0

-- the kind of a record, 0 for Outside
abbrev pub kind : Record → ℕ
kind r = (encode r).kind

-- record k of a file
unfoldable pub record_at : List ℕ → ℕ → Record
record_at s k =
    let i = record_bytes * k in
    decode (word_at s i) (word_at s (i + 4)) (word_at s (i + 8)) (word_at s (i + 12))

-- how many records a file has
abbrev pub record_count : List ℕ → ℕ
record_count s = length s / record_bytes

-- what is read at the front of each of n records
abbrev pub each_from : {A : Type 0} → (List ℕ → A) → ℕ → List ℕ → List A
each_from front zero s = []
each_from front (suc n) s = front s ∷ each_from front n (drop record_bytes s)

-- the records of a file
unfoldable pub records : List ℕ → List Record
records s = each_from (λ t. record_at t 0) (record_count s) s

-- the first words of a file's records, whatever they are
unfoldable pub first_words : List ℕ → List ℕ
first_words s = each_from (λ t. word_at t 0) (record_count s) s

-- the bytes of a record
abbrev pub bytes_of_record : Record → List ℕ
bytes_of_record r = concat_map bytes_of_word ((encode r).kind ∷ (encode r).second ∷ (encode r).third ∷ (encode r).fourth ∷ [])

-- a list of bytes
abbrev pub IsBytes : List ℕ → Type 0
IsBytes s = T (all (λ b. ltb b 256) s)

-- the bytes of a file
unfoldable pub bytes : List Record → List ℕ
bytes rs = concat_map bytes_of_record rs
