-- What is written is read back: a word from its bytes, a record from its words, a file from its records.
use Rattle.std.specs.Prelude.{ℕ, zero, suc, ◌≤◌, ◌+◌, ◌*◌, ◌/◌, ◌%◌, ◌<◌, ◌≡◌, refl, Bool, true, false, ◌&&◌, List, [], ◌∷◌, ◌++◌, length, take, drop, set, T, leb, eqb}
use Rattle.std.proofs.Common.{ap, ap₂, ◌∙◌, div-add-mod', mod-eq_of_lt, div-mul-le_self, arith, length-append, ltb→lt}
use Rattle.std.proofs.Math.Nat.{div-div-eq-div-mul}
use Rattle.std.proofs.Math.Dec.{eqb_refl}
use Rattle.rules.specs.Limits.{record_bytes}
use Rattle.rules.specs.Lists.{concat_map, has}
use Rattle.rules.specs.Tree.{Function}
use Rattle.rules.specs.Records.{word_at, bytes_of_word, slot_sizes, log2, decode, encode, kind, record_at, record_count, each_from, records, bytes_of_record, bytes}
use Rattle.rules.specs.File.{function, function_records, function_in}
use Rattle.rules.specs.declared.EdgeArgument.TheVariants as passes
use Rattle.rules.specs.declared.Record.{Record}
use Rattle.rules.specs.declared.Record.TheVariants as record'
use Rattle.rules.specs.declared.Words.{Words}
use Rattle.lists.specs.Tests.{is_true}
use Rattle.records.specs.Kinds.{kind-small}
use Rattle.records.specs.Reading.{function-back}

-- a word has 32 bits
abbrev pub IsWord : ℕ → Type 0
IsWord w = w < 4294967296

-- four digits to the base 256 make the number again
digits : (w a b c : ℕ) → w / 256 ≡ a → a / 256 ≡ b → b / 256 ≡ c → c < 256
    → w % 256 + 256 * (a % 256) + 65536 * (b % 256) + 16777216 * (c % 256) ≡ w
digits w a b c x y z l =
    let first = div-add-mod' w 256 in
    let second = div-add-mod' a 256 in
    let third = div-add-mod' b 256 in
    let last : c % 256 ≡ c = mod-eq_of_lt l in
    omega arith

pub word_back : (w : ℕ) (s : List ℕ) → IsWord w → word_at (bytes_of_word w ++ s) 0 ≡ w
word_back w s h =
    digits w (w / 256) (w / 65536) (w / 16777216) refl (div-div-eq-div-mul w 256 256) (div-div-eq-div-mul w 65536 256)
    (let m = div-mul-le_self w 16777216 in omega arith)

-- a record is in the table: a value's size is 1..64, a slot's one of five, and it is some kind
abbrev pub in_table : Record → Bool
in_table (record'.Value size _) = leb 1 size && leb size 64
in_table (record'.Slot size) = has size slot_sizes
in_table record'.Outside = false
in_table (record'.Block _ _) = true
in_table (record'.Parameter _) = true
in_table (record'.Instruction _ _ _) = true
in_table (record'.Result _) = true
in_table (record'.Argument _) = true
in_table (record'.Edge _) = true
in_table (record'.EdgeArgument _) = true
in_table (record'.Context _) = true
in_table (record'.MapEntry _ _) = true
in_table (record'.SlotAddress _ _) = true
in_table (record'.Store _ _) = true
in_table (record'.Load _ _ _) = true
in_table record'.Jump = true

abbrev decode_words : Words → Record
decode_words w = decode w.kind w.second w.third w.fourth

pub record-back : (r : Record) → T (in_table r) → decode_words (encode r) ≡ r
unfolding decode
record-back (record'.Value size true) h = rw (is_true (leb 1 size && leb size 64) h)
record-back (record'.Value size false) h = rw (is_true (leb 1 size && leb size 64) h)
record-back (record'.Block true _) h = refl
record-back (record'.Block false _) h = refl
record-back (record'.Parameter _) h = refl
record-back (record'.Instruction true true _) h = refl
record-back (record'.Instruction true false _) h = refl
record-back (record'.Instruction false true _) h = refl
record-back (record'.Instruction false false _) h = refl
record-back (record'.Result _) h = refl
record-back (record'.Argument _) h = refl
record-back (record'.Edge _) h = refl
record-back (record'.EdgeArgument (passes.Value _)) h = refl
record-back (record'.EdgeArgument (passes.Returned _)) h = refl
record-back (record'.EdgeArgument (passes.Exception _)) h = refl
record-back (record'.Context _) h = refl
record-back (record'.Slot size) h = rw (is_true (has size slot_sizes) h, is_true (eqb (log2 size) (log2 size)) (eqb_refl (log2 size)))
record-back (record'.MapEntry _ _) h = refl
record-back (record'.SlotAddress _ _) h = refl
record-back (record'.Store _ _) h = refl
record-back (record'.Load _ _ _) h = refl
record-back record'.Jump h = refl
record-back record'.Outside h = absurd h

-- a record can be written: it is in the table, and its words have 32 bits
pub record Writable (r : Record) : Type 0 where
  pub table : T (in_table r)
  pub second : IsWord (encode r).second
  pub third : IsWord (encode r).third
  pub fourth : IsWord (encode r).fourth

pub record_at-back : (r : Record) (s : List ℕ) → Writable r → record_at (bytes_of_record r ++ s) 0 ≡ r
unfolding record_at
record_at-back r s h =
    let w = encode r in
    let k = word_back w.kind s (let l = ltb→lt (kind r) 16 (kind-small r) in omega arith) in
    let a = word_back w.second s h.second in
    let b = word_back w.third s h.third in
    let c = word_back w.fourth s h.fourth in
    (λ i. decode (k i) (a i) (b i) (c i)) ∙ record-back r h.table

-- every record of a list can be written
abbrev pub AllWritable : List Record → Type 0
AllWritable [] = Unit {0}
AllWritable (r ∷ rs) = Writable r × AllWritable rs

pub bytes-length : (rs : List Record) → length (bytes rs) ≡ record_bytes * length rs
unfolding bytes
bytes-length [] = refl
bytes-length (r ∷ rs) = let ih = bytes-length rs in omega (arith, length-append (bytes_of_record r) (concat_map bytes_of_record rs))

-- a file is read back from its records
pub records-back : (rs : List Record) → AllWritable rs → records (bytes rs) ≡ rs
unfolding records bytes
records-back rs h =
    let n : record_count (bytes rs) ≡ length rs = let e = bytes-length rs in omega arith in
    ap (λ k. each_from (λ t. record_at t 0) k (bytes rs)) n ∙ each rs h
  where
    each : (rs : List Record) → AllWritable rs → each_from (λ t. record_at t 0) (length rs) (bytes rs) ≡ rs
    each [] h = refl
    each (r ∷ rs) h = ap₂ (λ x xs. x ∷ xs) (record_at-back r (bytes rs) h.0) (each rs h.1)

-- a function is read back from its bytes
pub function-in-bytes : (f : Function) → AllWritable (function_records f) → function_in (bytes (function_records f)) ≡ f
function-in-bytes f h = ap function (records-back (function_records f) h) ∙ function-back f

-- WRITING IN PLACE. Bytes put one behind the other, from place i on.
abbrev pub put_from : ℕ → List ℕ → List ℕ → List ℕ
put_from i [] t = t
put_from i (b ∷ bs) t = put_from (suc i) bs (set t i b)

put-behind : (i x : ℕ) (bs t : List ℕ) → put_from (suc i) bs (x ∷ t) ≡ x ∷ put_from i bs t
put-behind i x [] t = refl
put-behind i x (b ∷ bs) t = put-behind (suc i) x bs (set t i b)

-- at the start they fill the front, and what lies behind stays
pub put_front : (bs t : List ℕ) → length bs ≤ length t → put_from 0 bs t ≡ bs ++ drop (length bs) t
put_front [] t h = refl
put_front (b ∷ bs) [] h = absurd (omega arith)
put_front (b ∷ bs) (x ∷ t) h = put-behind 0 b bs t ∙ ap (λ u. b ∷ u) (put_front bs t (omega arith))

-- further on they stand between what lies in front of them and what lies behind
pub put-between : (i : ℕ) (bs t : List ℕ) → i + length bs ≤ length t → put_from i bs t ≡ take i t ++ (bs ++ drop (length bs) (drop i t))
put-between zero bs t h = put_front bs t (omega arith)
put-between (suc i) bs [] h = absurd (omega arith)
put-between (suc i) bs (x ∷ t) h = put-behind i x bs t ∙ ap (λ u. x ∷ u) (put-between i bs t (omega arith))

-- the bytes of four words
abbrev pub bytes_of_words : Words → List ℕ
bytes_of_words w = concat_map bytes_of_word (w.kind ∷ w.second ∷ w.third ∷ w.fourth ∷ [])

-- four words put one behind the other fill the front
pub put-words : (w : Words) (t : List ℕ) → record_bytes ≤ length t
    → put_from 12 (bytes_of_word w.fourth) (put_from 8 (bytes_of_word w.third) (put_from 4 (bytes_of_word w.second) (put_from 0 (bytes_of_word w.kind) t)))
    ≡ bytes_of_words w ++ drop record_bytes t
put-words w t h = put_front (bytes_of_words w) t h
