-- The four services and the program: each whole answer, and every lent buffer to its end, as a function of what is handed in.
use Rattle.std.specs.Prelude.{ℕ, zero, suc, ◌+◌, ◌-◌, ◌*◌, ◌/◌, ◌%◌, Bool, true, false, not, ◌&&◌, ◌||◌, cond, List, [], ◌∷◌, ◌++◌, map, length, get_or, take, replicate, ltb, leb, eqb, Result, Ok, Err}
use Rattle.std.proofs.Math.Option.{Option, none}
use Rattle.rules.specs.Limits.{record_bytes, largest_blocks, row_words, table_words, program_input, program_output, program_pointer}
use Rattle.rules.specs.Lists.{empty, is_none, or_else, concat_map, up_from, padded, NumberSet, members}
use Rattle.rules.specs.Tree.{Function}
use Rattle.rules.specs.Records.{bit, record_count, bytes}
use Rattle.rules.specs.File.{function_records, function_in}
use Rattle.rules.specs.Liveness.{process, lists, is_spilled}
use Rattle.rules.specs.Refusals.{refusal_number, ◌when◌, first_of, file_refusals, spilled_size}
use Rattle.rules.specs.Plan.{planned}
use Rattle.rules.specs.Rewriting.{rewritten}
use Rattle.rules.specs.declared.LivenessCounts.{LivenessCounts}
use Rattle.rules.specs.declared.RewritingAnswer.{RewritingAnswer}
use Rattle.rules.specs.declared.Refusal.{Refusal}
use Rattle.rules.specs.declared.Refusal.TheVariants as refusal

-- an answer, where the call is not refused
abbrev pub answering : {A : Type 0} → Result Unit Refusal → A → Result A Refusal
answering (Ok _) a = Ok a
answering (Err e) a = Err e

-- a lent buffer of length n after a call: what is written, with zeros behind it; zeros alone where the call is refused
abbrev pub lent : Result Unit Refusal → ℕ → List ℕ → List ℕ
lent (Ok _) n written = padded n written
lent (Err _) n written = replicate n 0

-- LIVENESS, of file s, with lent tables of n and m words.
-- word w of a set's row: value v at bit v mod 64 of word v / 64
abbrev pub bits_from : NumberSet → ℕ → ℕ → ℕ
bits_from s v zero = 0
bits_from s v (suc k) = bit (s v) + 2 * bits_from s (suc v) k

abbrev pub row_word : NumberSet → ℕ → ℕ
row_word s w = bits_from s (64 * w) 64

-- the rows of all blocks; of an unreachable block, and of one that is not in the file, the set is empty
abbrev pub table : (ℕ → NumberSet) → List ℕ
table rows = concat_map (λ b. map (row_word (rows b)) (up_from 0 row_words)) (up_from 0 largest_blocks)

unfoldable pub liveness_verdict : List ℕ → ℕ → ℕ → Result Unit Refusal
liveness_verdict s n m = first_of (file_refusals s ++ ((refusal.TooShort table_words when (ltb n table_words || ltb m table_words)) ∷ []))

unfoldable pub liveness_answer : List ℕ → ℕ → ℕ → Result LivenessCounts Refusal
liveness_answer s n m =
    let p = process (function_in s) in
    answering (liveness_verdict s n m) (record { visits = length p.visited; pushes = p.pushes })

unfoldable pub liveness_ins : List ℕ → ℕ → ℕ → List ℕ
liveness_ins s n m = lent (liveness_verdict s n m) n (table (process (function_in s)).ins)

unfoldable pub liveness_outs : List ℕ → ℕ → ℕ → List ℕ
liveness_outs s n m = lent (liveness_verdict s n m) m (table (process (function_in s)).outs)

-- THE LIST of instruction i of file s, with n lent words.
-- the list asked for; none where the instruction is not a reachable safepoint
abbrev pub list_asked : List ℕ → ℕ → Option (List ℕ)
list_asked s i = get_or (lists (function_in s)) i none

unfoldable pub list_verdict : List ℕ → ℕ → ℕ → Result Unit Refusal
list_verdict s i n =
    let count = length (or_else [] (list_asked s i)) in
    first_of (file_refusals s ++ ((refusal.NoSafepoint when is_none (list_asked s i)) ∷ (refusal.TooShort count when ltb n count) ∷ []))

-- the count of the list
unfoldable pub list_answer : List ℕ → ℕ → ℕ → Result ℕ Refusal
list_answer s i n = answering (list_verdict s i n) (length (or_else [] (list_asked s i)))

unfoldable pub list_words : List ℕ → ℕ → ℕ → List ℕ
list_words s i n = lent (list_verdict s i n) n (or_else [] (list_asked s i))

-- REWRITING of file s for a pointer size, with n lent bytes.
-- no value is spilled
abbrev pub is_unchanged : Function → Bool
is_unchanged f = empty (members (length f.values) (is_spilled f))

-- how many records the answer has: the input's, or those that are written
unfoldable pub records_of : List ℕ → ℕ → ℕ
records_of s pointer =
    elim (is_unchanged (function_in s)) [
      | true ↦ record_count s
      | false ↦ length (function_records (rewritten (function_in s) pointer))
    ]

unfoldable pub rewriting_verdict : List ℕ → ℕ → ℕ → Result Unit Refusal
rewriting_verdict s pointer n =
    let count = records_of s pointer in
    first_of
    ((refusal.PointerSize when not (eqb pointer 4 || eqb pointer 8))
    ∷ (file_refusals s
    ++ ((refusal.SlotSize when spilled_size (function_in s))
    ∷ (refusal.TooShort count when (not (is_unchanged (function_in s)) && ltb n (record_bytes * count)))
    ∷ [])))

unfoldable pub rewriting_answer : List ℕ → ℕ → ℕ → Result RewritingAnswer Refusal
rewriting_answer s pointer n =
    let f = function_in s in
    let plan = (planned f pointer).1 in
    answering (rewriting_verdict s pointer n)
    (record {
      records = records_of s pointer;
      slots = length plan.slots.made;
      landings = plan.blocks - length f.blocks;
      visits = length (process f).visited;
      pushes = (process f).pushes;
      unchanged = is_unchanged f;
    })

unfoldable pub rewriting_output : List ℕ → ℕ → ℕ → List ℕ
rewriting_output s pointer n =
    let f = function_in s in
    lent (rewriting_verdict s pointer n) n
    (elim (is_unchanged f) [ true ↦ [] | false ↦ bytes (function_records (rewritten f pointer)) ])

-- THE FINAL RECORDS, by any answer: the first records x 16 bytes of the input, where it is unchanged, or of the output;
-- none for a refusal or where the chosen buffer is shorter.
abbrev pub answered_records : RewritingAnswer → List ℕ → List ℕ → List ℕ
answered_records answer input output =
    let chosen = cond answer.unchanged input output in
    let n = record_bytes * answer.records in
    elim (leb n (length chosen)) [ true ↦ take n chosen | false ↦ [] ]

unfoldable pub final_records : Result RewritingAnswer Refusal → List ℕ → List ℕ → List ℕ
final_records (Ok answer) input output = answered_records answer input output
final_records (Err _) input output = []

-- THE PROGRAM: what it writes for what it reads.
-- `refused n` and a line feed, for n below 100
abbrev pub refused_line : ℕ → List ℕ
refused_line n =
    let tens : List ℕ = elim (ltb n 10) [ true ↦ [] | false ↦ (48 + n / 10) ∷ [] ] in
    114 ∷ 101 ∷ 102 ∷ 117 ∷ 115 ∷ 101 ∷ 100 ∷ 32 ∷ (tens ++ ((48 + n % 10) ∷ 10 ∷ []))

-- the final records of an answer, or the line of its refusal
abbrev pub written : Result RewritingAnswer Refusal → List ℕ → List ℕ → List ℕ
written (Ok answer) input output = final_records (Ok answer) input output
written (Err e) input output = refused_line (refusal_number e)

-- above the largest input it says 3 at once
unfoldable pub program_writes : List ℕ → List ℕ
program_writes s =
    elim (ltb program_input (length s)) [
      | true ↦ refused_line (refusal_number refusal.TooMany)
      | false ↦ written (rewriting_answer s program_pointer program_output) s (rewriting_output s program_pointer program_output)
    ]
