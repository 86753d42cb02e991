-- The sheets from the bench: files, what is asked of them, and what document 01 says; one table and one claim. Rows P1 to
-- P11 are document 01's; the others pin what those leave open.
use Rattle.std.specs.Prelude.{ℕ, ◌+◌, ◌*◌, ◌/◌, ◌≡◌, refl, true, List, [], ◌∷◌, ◌++◌, map, reverse, length, get_or, replicate, eqb, Result, Ok, Err}
use Rattle.rules.specs.Lists.{keep, or_else, foldl, up_from}
use Rattle.rules.specs.Records.{word_at, bit, decode, record_at, records, first_words, bytes}
use Rattle.rules.specs.File.{followers, follows, function, function_records, function_in}
use Rattle.rules.specs.Graph.{reachable}
use Rattle.rules.specs.Liveness.{process, lists_of, is_spilled}
use Rattle.rules.specs.Refusals.{refusal_number, needed, file_refusals}
use Rattle.rules.specs.Slots.{give_slot, free_slot}
use Rattle.rules.specs.Plan.{planned}
use Rattle.rules.specs.Rewriting.{rewritten}
use Rattle.rules.specs.Services.{answering, liveness_verdict, liveness_answer, liveness_ins, liveness_outs, list_verdict, list_answer, list_words, records_of, rewriting_verdict, rewriting_answer, rewriting_output, final_records, program_writes}
use Rattle.rules.specs.SheetFiles.{file, p1, p1-rewritten, p2, p3, p4, p5, p6, p6-rewritten, p7, p7-rewritten, p8, p9, p9-across, p10, p10-unreachable, freed-twice, spilled-result, spilled-result-rewritten, store-then-load, store-then-load-rewritten, parameter, parameter-rewritten, landing-words, landing-words-rewritten, plain-edges, plain-edges-rewritten, parameters, parameters-rewritten, results, results-rewritten, cold, cold-rewritten, copied, copied-rewritten, landings, landings-rewritten, unmarked, unmarked-rewritten, early, slotless, own-result, own-result-rewritten, undominated, undominated-rewritten, sizes, sizes-rewritten, unreachable, two_edges, many}
use Rattle.rules.specs.declared.Refusal.{Refusal}
use Rattle.rules.specs.declared.Refusal.TheVariants as refusal

-- what a sheet asks of its file
pub data Ask : Type 0 where
  rewrites : (pointer lent : ℕ) → Ask  -- the whole lent output
  answers : (pointer lent : ℕ) → Ask  -- rewriting's refusal, records, slots, landings, visits, pushes, unchanged
  refuses : Ask  -- rewriting's refusal, for pointer size 8 and room enough
  final : (pointer : ℕ) → Ask  -- the bytes of the final records
  part : Result Unit Refusal → (records : ℕ) → Ask  -- the same by an answer that no call gave: unchanged, with so many records
  visits : Ask  -- the blocks visited, in order
  lists : (instruction lent : ℕ) → Ask  -- a list's refusal, its count, and the lent words
  liveness : (ins outs : ℕ) → Ask  -- liveness's refusal, visits and pushes with tables so long, and of each its length and sum
  row : (block word : ℕ) → Ask  -- a word of a block's rows, live-in and live-out
  slots : Ask  -- the slot of each value, 99 for none
  layout : Ask  -- the numbers of the output's blocks, in their order
  program : Ask  -- what the program writes

-- room for every output of a sheet that is not asked for its length
abbrev pub room : ℕ
room = 1024

-- a refusal by its number, 0 where the call is answered, and the numbers of the answer; of a refusal the length needed, or zeros
abbrev pub numbers : {A : Type 0} → (A → List ℕ) → (Refusal → List ℕ) → Result A Refusal → List ℕ
numbers of refused (Ok a) = 0 ∷ of a
numbers of refused (Err e) = refusal_number e ∷ refused e

abbrev pub answer : Ask → List ℕ → List ℕ
answer (rewrites pointer lent) s = rewriting_output s pointer lent
answer (answers pointer lent) s =
    numbers (λ a. a.records ∷ a.slots ∷ a.landings ∷ a.visits ∷ a.pushes ∷ bit a.unchanged ∷ []) (λ e. needed e ∷ replicate 5 0)
    (rewriting_answer s pointer lent)
answer refuses s = numbers (λ a. []) (λ e. []) (rewriting_answer s 8 room)
answer (final pointer) s = final_records (rewriting_answer s pointer room) s (rewriting_output s pointer room)
answer (part v n) s =
    final_records (answering v (record { records = n; slots = 0; landings = 0; visits = 0; pushes = 0; unchanged = true })) s []
answer visits s = reverse (process (function_in s)).visited
answer (lists i lent) s = numbers (λ count. count ∷ []) (λ e. needed e ∷ []) (list_answer s i lent) ++ list_words s i lent
answer (liveness n m) s =
    let i = liveness_ins s n m in
    let o = liveness_outs s n m in
    numbers (λ a. a.visits ∷ a.pushes ∷ []) (λ e. replicate 2 0) (liveness_answer s n m)
    ++ (length i ∷ foldl ◌+◌ 0 i ∷ length o ∷ foldl ◌+◌ 0 o ∷ [])
answer (row b w) s = get_or (liveness_ins s 512 512) (8 * b + w) 0 ∷ get_or (liveness_outs s 512 512) (8 * b + w) 0 ∷ []
answer slots s =
    let f = function_in s in
    map (λ v. or_else 99 ((planned f 8).1.slots.slot_of v)) (up_from 0 (length f.values))
answer layout s =
    let o = rewriting_output s 8 room in
    map (λ k. word_at o (16 * k + 8)) (keep (λ k. eqb (word_at o (16 * k)) 2) (up_from 0 (room / 16)))
answer program s = program_writes s

pub record Sheet : Type 0 where
  pub asked : Ask
  pub of : List ℕ
  pub says : List ℕ

pub sheets : List Sheet
sheets =
    -- P1
    record { asked = rewrites 8 272; of = file p1; says = file (p1-rewritten ++ ((0, 0, 0, 0) ∷ [])) }
    ∷ record { asked = answers 8 1024; of = file p1; says = 0 ∷ 16 ∷ 1 ∷ 0 ∷ 1 ∷ 1 ∷ 0 ∷ [] }
    ∷ record { asked = final 8; of = file p1; says = file p1-rewritten }
    ∷ record { asked = final 3; of = file p1; says = [] }
    -- P2
    ∷ record { asked = visits; of = file p2; says = 3 ∷ 2 ∷ 0 ∷ 1 ∷ 0 ∷ [] }
    ∷ record { asked = answers 8 1024; of = file p2; says = 0 ∷ 16 ∷ 0 ∷ 0 ∷ 5 ∷ 8 ∷ 1 ∷ [] }
    -- P3
    ∷ record { asked = slots; of = file p3; says = 0 ∷ 0 ∷ [] }
    ∷ record { asked = answers 8 1024; of = file p3; says = 0 ∷ 30 ∷ 1 ∷ 0 ∷ 1 ∷ 1 ∷ 0 ∷ [] }
    -- P4
    ∷ record { asked = slots; of = file p4; says = 1 ∷ 0 ∷ [] }
    ∷ record { asked = answers 8 1024; of = file p4; says = 0 ∷ 31 ∷ 2 ∷ 0 ∷ 1 ∷ 1 ∷ 0 ∷ [] }
    -- P5
    ∷ record { asked = slots; of = file p5; says = 1 ∷ 0 ∷ [] }
    ∷ record { asked = answers 8 1024; of = file p5; says = 0 ∷ 38 ∷ 2 ∷ 0 ∷ 4 ∷ 6 ∷ 0 ∷ [] }
    -- P6
    ∷ record { asked = lists 1 2; of = file p6; says = 0 ∷ 1 ∷ 0 ∷ 0 ∷ [] }
    ∷ record { asked = rewrites 8 512; of = file p6; says = file p6-rewritten }
    ∷ record { asked = layout; of = file p6; says = 0 ∷ 3 ∷ 1 ∷ 2 ∷ [] }
    -- P7
    ∷ record { asked = rewrites 8 336; of = file p7; says = file p7-rewritten }
    -- P8
    ∷ record { asked = lists 1 0; of = file p8; says = 0 ∷ 0 ∷ [] }
    ∷ record { asked = answers 8 1024; of = file p8; says = 0 ∷ 7 ∷ 0 ∷ 0 ∷ 1 ∷ 1 ∷ 1 ∷ [] }
    ∷ record { asked = final 8; of = file p8; says = file p8 }
    -- P9
    ∷ record { asked = refuses; of = file p9; says = 0 ∷ [] }
    ∷ record { asked = refuses; of = file p9-across; says = 9 ∷ [] }
    -- P10
    ∷ record { asked = refuses; of = file p10; says = 8 ∷ [] }
    ∷ record { asked = refuses; of = file p10-unreachable; says = 0 ∷ [] }
    -- P11
    ∷ record { asked = refuses; of = []; says = 4 ∷ [] }
    -- the slot last freed, not the first
    ∷ record { asked = slots; of = file freed-twice; says = 0 ∷ 0 ∷ 1 ∷ [] }
    -- map entries before a safepoint's own stores
    ∷ record { asked = rewrites 8 480; of = file spilled-result; says = file spilled-result-rewritten }
    -- stores before the next instruction's reloads
    ∷ record { asked = rewrites 8 560; of = file store-then-load; says = file store-then-load-rewritten }
    -- a spilled parameter's store
    ∷ record { asked = rewrites 8 352; of = file parameter; says = file parameter-rewritten }
    -- returned and exception words, an unmarked and a spilled value through a landing; a safepoint parameter list behind it
    ∷ record { asked = rewrites 8 1152; of = file landing-words; says = file landing-words-rewritten }
    -- value edge arguments of a plain terminator, behind its arguments
    ∷ record { asked = rewrites 8 832; of = file plain-edges; says = file plain-edges-rewritten }
    -- parameters in order, of two sizes
    ∷ record { asked = rewrites 8 752; of = file parameters; says = file parameters-rewritten }
    -- results in order
    ∷ record { asked = rewrites 8 848; of = file results; says = file results-rewritten }
    -- cold words and contexts as they came, 0 for the landing
    ∷ record { asked = rewrites 8 512; of = file cold; says = file cold-rewritten }
    -- unreachable blocks are copied
    ∷ record { asked = rewrites 8 448; of = file copied; says = file copied-rewritten }
    -- landings in the order of their edges
    ∷ record { asked = rewrites 8 816; of = file landings; says = file landings-rewritten }
    -- an unmarked value is on no list
    ∷ record { asked = rewrites 8 288; of = file unmarked; says = file unmarked-rewritten }
    -- early slots ascending
    ∷ record { asked = slots; of = file early; says = 0 ∷ 1 ∷ [] }
    -- a spilled result without a slot is not stored
    ∷ record { asked = answers 8 1024; of = file slotless; says = 0 ∷ 13 ∷ 1 ∷ 0 ∷ 1 ∷ 1 ∷ 0 ∷ [] }
    -- a result is removed before the arguments are added; an early slot for what is live out
    ∷ record { asked = rewrites 8 320; of = file own-result; says = file own-result-rewritten }
    -- a slot first for what is live out, though it is not live in
    ∷ record { asked = rewrites 8 384; of = file undominated; says = file undominated-rewritten }
    -- slots of each size, and pointers of four bytes
    ∷ record { asked = rewrites 4 944; of = file sizes; says = file sizes-rewritten }
    ∷ record { asked = answers 4 4; of = file sizes; says = 11 ∷ 59 ∷ 0 ∷ 0 ∷ 0 ∷ 0 ∷ 0 ∷ [] }
    -- an unreachable predecessor is not pushed, and its rows are 0
    ∷ record { asked = liveness 512 512; of = file unreachable; says = 0 ∷ 2 ∷ 3 ∷ 512 ∷ 1 ∷ 512 ∷ 1 ∷ [] }
    ∷ record { asked = row 2 0; of = file unreachable; says = 0 ∷ 0 ∷ [] }
    -- two edges to one target are pushed twice
    ∷ record { asked = liveness 512 512; of = file two_edges; says = 0 ∷ 2 ∷ 4 ∷ 512 ∷ 1 ∷ 512 ∷ 1 ∷ [] }
    ∷ record { asked = row 0 0; of = file two_edges; says = 0 ∷ 1 ∷ [] }
    ∷ record { asked = row 1 0; of = file two_edges; says = 1 ∷ 0 ∷ [] }
    -- value n at bit n mod 64 of word n / 64, and parameters removed
    ∷ record { asked = row 1 1; of = file many; says = 5 ∷ 0 ∷ [] }
    ∷ record { asked = row 0 0; of = file many; says = 0 ∷ 8 ∷ [] }
    -- The lowest number that applies, though its fault stands later. 1: pointer size 3, and a byte too many
    ∷ record { asked = answers 3 1024; of = file p1 ++ (0 ∷ []); says = 1 ∷ 0 ∷ 0 ∷ 0 ∷ 0 ∷ 0 ∷ 0 ∷ [] }
    -- 2: a kind that is none, then a byte too many
    ∷ record { asked = refuses; of = file ((99, 0, 0, 0) ∷ []) ++ (0 ∷ []); says = 2 ∷ [] }
    -- 3: a kind that is none, then 513 values; with 512 it is 4
    ∷ record { asked = refuses; of = file ((99, 0, 0, 0) ∷ replicate 513 (1, 4, 0, 0)); says = 3 ∷ [] }
    ∷ record { asked = refuses; of = file ((99, 0, 0, 0) ∷ replicate 512 (1, 4, 0, 0)); says = 4 ∷ [] }
    -- 3: one above each other largest count, in any order
    ∷ record { asked = refuses; of = file (replicate 2049 (99, 0, 0, 0)); says = 3 ∷ [] }
    ∷ record { asked = refuses; of = file (replicate 65 (2, 0, 0, 0)); says = 3 ∷ [] }
    ∷ record { asked = refuses; of = file (replicate 1025 (4, 0, 0, 0)); says = 3 ∷ [] }
    ∷ record { asked = refuses; of = file (replicate 257 (7, 0, 0, 0)); says = 3 ∷ [] }
    -- 4: an argument that is not in the file, then a block whose number is not its position
    ∷ record { asked = refuses; of = file ((1, 4, 0, 0) ∷ (2, 0, 0, 0) ∷ (4, 0, 7, 0) ∷ (5, 0, 0, 0) ∷ (4, 2, 9, 0) ∷ (6, 7, 0, 0) ∷ (2, 0, 5, 0) ∷ (4, 2, 9, 0) ∷ []); says = 4 ∷ [] }
    -- 5: a value that is not defined, then an edge to a block that is not in the file
    ∷ record { asked = refuses; of = file ((1, 4, 0, 0) ∷ (2, 0, 0, 0) ∷ (4, 2, 9, 0) ∷ (7, 9, 0, 0) ∷ []); says = 5 ∷ [] }
    -- 6: a block that no terminator ends, then a value defined twice
    ∷ record { asked = refuses; of = file ((1, 4, 0, 0) ∷ (2, 0, 0, 0) ∷ (4, 0, 7, 0) ∷ (2, 0, 1, 0) ∷ (4, 0, 7, 0) ∷ (5, 0, 0, 0) ∷ (4, 0, 7, 0) ∷ (5, 0, 0, 0) ∷ (4, 2, 9, 0) ∷ []); says = 6 ∷ [] }
    -- 7: a marked context, then a block that no terminator ends
    ∷ record { asked = refuses; of = file ((1, 4, 1, 0) ∷ (2, 0, 0, 0) ∷ (4, 0, 7, 0) ∷ (5, 0, 0, 0) ∷ (4, 3, 8, 0) ∷ (7, 1, 0, 0) ∷ (9, 0, 0, 0) ∷ (2, 0, 1, 0) ∷ (4, 0, 9, 0) ∷ []); says = 7 ∷ [] }
    -- 8: a value of size 3 live across a safepoint, then a marked context
    ∷ record { asked = refuses; of = file ((1, 3, 1, 0) ∷ (2, 0, 0, 0) ∷ (4, 0, 7, 0) ∷ (5, 0, 0, 0) ∷ (4, 1, 8, 0) ∷ (4, 0, 9, 0) ∷ (6, 0, 0, 0) ∷ (4, 3, 8, 0) ∷ (9, 0, 0, 0) ∷ []); says = 8 ∷ [] }
    -- 9: a value of size 3 live across a safepoint, and no room
    ∷ record { asked = answers 8 0; of = file p9-across; says = 9 ∷ 0 ∷ 0 ∷ 0 ∷ 0 ∷ 0 ∷ 0 ∷ [] }
    -- 10: no safepoint, no reachable one, no instruction; and no room
    ∷ record { asked = lists 0 0; of = file p1; says = 10 ∷ 0 ∷ [] }
    ∷ record { asked = lists 2 1; of = file p10-unreachable; says = 10 ∷ 0 ∷ 0 ∷ [] }
    ∷ record { asked = lists 3 0; of = file p1; says = 10 ∷ 0 ∷ [] }
    -- 11: the length needed, and zeros; an unchanged answer needs none
    ∷ record { asked = answers 8 255; of = file p1; says = 11 ∷ 16 ∷ 0 ∷ 0 ∷ 0 ∷ 0 ∷ 0 ∷ [] }
    ∷ record { asked = answers 8 256; of = file p1; says = 0 ∷ 16 ∷ 1 ∷ 0 ∷ 1 ∷ 1 ∷ 0 ∷ [] }
    ∷ record { asked = rewrites 8 16; of = file p1; says = replicate 16 0 }
    ∷ record { asked = answers 8 0; of = file p8; says = 0 ∷ 7 ∷ 0 ∷ 0 ∷ 1 ∷ 1 ∷ 1 ∷ [] }
    ∷ record { asked = lists 1 0; of = file p1; says = 11 ∷ 1 ∷ [] }
    ∷ record { asked = liveness 511 512; of = file p2; says = 11 ∷ 0 ∷ 0 ∷ 511 ∷ 0 ∷ 512 ∷ 0 ∷ [] }
    ∷ record { asked = liveness 512 511; of = file p2; says = 11 ∷ 0 ∷ 0 ∷ 512 ∷ 0 ∷ 511 ∷ 0 ∷ [] }
    -- 1: pointer size 16; and a refusal is not unchanged
    ∷ record { asked = answers 16 1024; of = file p1; says = 1 ∷ 0 ∷ 0 ∷ 0 ∷ 0 ∷ 0 ∷ 0 ∷ [] }
    ∷ record { asked = answers 3 1024; of = file p8; says = 1 ∷ 0 ∷ 0 ∷ 0 ∷ 0 ∷ 0 ∷ 0 ∷ [] }
    -- 3: the largest counts themselves are not refused
    ∷ record { asked = refuses; of = file (replicate 2048 (99, 0, 0, 0)); says = 4 ∷ [] }
    ∷ record { asked = refuses; of = file (replicate 64 (2, 0, 0, 0)); says = 4 ∷ [] }
    ∷ record { asked = refuses; of = file (replicate 1024 (4, 0, 0, 0)); says = 4 ∷ [] }
    ∷ record { asked = refuses; of = file (replicate 256 (7, 0, 0, 0)); says = 4 ∷ [] }
    -- 4: an unused word that is not 0, of each kind
    ∷ record { asked = refuses; of = file ((1, 4, 0, 1) ∷ (2, 0, 0, 0) ∷ (3, 0, 0, 0) ∷ (4, 2, 0, 0) ∷ []); says = 4 ∷ [] }
    ∷ record { asked = refuses; of = file ((1, 4, 0, 0) ∷ (2, 0, 0, 1) ∷ (3, 0, 0, 0) ∷ (4, 2, 0, 0) ∷ []); says = 4 ∷ [] }
    ∷ record { asked = refuses; of = file ((1, 4, 0, 0) ∷ (2, 0, 0, 0) ∷ (3, 0, 1, 0) ∷ (4, 2, 0, 0) ∷ []); says = 4 ∷ [] }
    ∷ record { asked = refuses; of = file ((1, 4, 0, 0) ∷ (2, 0, 0, 0) ∷ (3, 0, 0, 1) ∷ (4, 2, 0, 0) ∷ []); says = 4 ∷ [] }
    ∷ record { asked = refuses; of = file ((1, 4, 0, 0) ∷ (2, 0, 0, 0) ∷ (3, 0, 0, 0) ∷ (4, 2, 0, 1) ∷ []); says = 4 ∷ [] }
    ∷ record { asked = refuses; of = file ((1, 4, 0, 0) ∷ (2, 0, 0, 0) ∷ (4, 0, 0, 0) ∷ (5, 0, 1, 0) ∷ (4, 2, 0, 0) ∷ []); says = 4 ∷ [] }
    ∷ record { asked = refuses; of = file ((1, 4, 0, 0) ∷ (2, 0, 0, 0) ∷ (4, 0, 0, 0) ∷ (5, 0, 0, 1) ∷ (4, 2, 0, 0) ∷ []); says = 4 ∷ [] }
    ∷ record { asked = refuses; of = file ((1, 4, 0, 0) ∷ (2, 0, 0, 0) ∷ (3, 0, 0, 0) ∷ (4, 2, 0, 0) ∷ (6, 0, 1, 0) ∷ []); says = 4 ∷ [] }
    ∷ record { asked = refuses; of = file ((1, 4, 0, 0) ∷ (2, 0, 0, 0) ∷ (3, 0, 0, 0) ∷ (4, 2, 0, 0) ∷ (6, 0, 0, 1) ∷ []); says = 4 ∷ [] }
    ∷ record { asked = refuses; of = file ((2, 0, 0, 0) ∷ (4, 2, 0, 0) ∷ (7, 1, 1, 0) ∷ (2, 0, 1, 0) ∷ (4, 2, 0, 0) ∷ []); says = 4 ∷ [] }
    ∷ record { asked = refuses; of = file ((2, 0, 0, 0) ∷ (4, 2, 0, 0) ∷ (7, 1, 0, 1) ∷ (2, 0, 1, 0) ∷ (4, 2, 0, 0) ∷ []); says = 4 ∷ [] }
    ∷ record { asked = refuses; of = file ((1, 4, 0, 0) ∷ (1, 4, 0, 0) ∷ (2, 0, 0, 0) ∷ (3, 0, 0, 0) ∷ (4, 2, 0, 0) ∷ (7, 1, 0, 0) ∷ (8, 0, 0, 1) ∷ (2, 0, 1, 0) ∷ (3, 1, 0, 0) ∷ (4, 2, 0, 0) ∷ []); says = 4 ∷ [] }
    ∷ record { asked = refuses; of = file ((1, 4, 0, 0) ∷ (2, 0, 0, 0) ∷ (3, 0, 0, 0) ∷ (4, 3, 0, 0) ∷ (9, 0, 1, 0) ∷ []); says = 4 ∷ [] }
    ∷ record { asked = refuses; of = file ((1, 4, 0, 0) ∷ (2, 0, 0, 0) ∷ (3, 0, 0, 0) ∷ (4, 3, 0, 0) ∷ (9, 0, 0, 1) ∷ []); says = 4 ∷ [] }
    -- 4: marked 2; cold 2
    ∷ record { asked = refuses; of = file ((1, 4, 2, 0) ∷ (2, 0, 0, 0) ∷ (3, 0, 0, 0) ∷ (4, 2, 0, 0) ∷ []); says = 4 ∷ [] }
    ∷ record { asked = refuses; of = file ((2, 2, 0, 0) ∷ (4, 2, 0, 0) ∷ []); says = 4 ∷ [] }
    -- 5: a parameter, a context, an edge argument that is not in the file
    ∷ record { asked = refuses; of = file ((1, 4, 0, 0) ∷ (2, 0, 0, 0) ∷ (3, 1, 0, 0) ∷ (4, 2, 0, 0) ∷ []); says = 5 ∷ [] }
    ∷ record { asked = refuses; of = file ((1, 4, 0, 0) ∷ (2, 0, 0, 0) ∷ (3, 0, 0, 0) ∷ (4, 3, 0, 0) ∷ (9, 1, 0, 0) ∷ []); says = 5 ∷ [] }
    ∷ record { asked = refuses; of = file ((1, 4, 0, 0) ∷ (1, 4, 0, 0) ∷ (2, 0, 0, 0) ∷ (3, 0, 0, 0) ∷ (4, 2, 0, 0) ∷ (7, 1, 0, 0) ∷ (8, 0, 2, 0) ∷ (2, 0, 1, 0) ∷ (3, 1, 0, 0) ∷ (4, 2, 0, 0) ∷ []); says = 5 ∷ [] }
    -- 6: a value that is never defined
    ∷ record { asked = refuses; of = file ((1, 4, 0, 0) ∷ (2, 0, 0, 0) ∷ (4, 2, 0, 0) ∷ []); says = 6 ∷ [] }
    -- 7: a context on a safepoint that is no terminator; too many edge arguments
    ∷ record { asked = refuses; of = file ((1, 4, 0, 0) ∷ (2, 0, 0, 0) ∷ (3, 0, 0, 0) ∷ (4, 1, 0, 0) ∷ (9, 0, 0, 0) ∷ (4, 2, 0, 0) ∷ []); says = 7 ∷ [] }
    ∷ record { asked = refuses; of = file ((1, 4, 0, 0) ∷ (1, 4, 0, 0) ∷ (2, 0, 0, 0) ∷ (3, 0, 0, 0) ∷ (3, 1, 0, 0) ∷ (4, 2, 0, 0) ∷ (7, 1, 0, 0) ∷ (8, 0, 0, 0) ∷ (8, 0, 1, 0) ∷ (2, 0, 1, 0) ∷ (4, 2, 0, 0) ∷ []); says = 7 ∷ [] }
    -- 9: a value of size 32 live across; liveness and lists answer all the same
    ∷ record { asked = refuses; of = file ((1, 32, 1, 0) ∷ (2, 0, 0, 0) ∷ (4, 0, 7, 0) ∷ (5, 0, 0, 0) ∷ (4, 1, 8, 0) ∷ (4, 2, 9, 0) ∷ (6, 0, 0, 0) ∷ []); says = 9 ∷ [] }
    ∷ record { asked = liveness 512 512; of = file p9-across; says = 0 ∷ 1 ∷ 1 ∷ 512 ∷ 0 ∷ 512 ∷ 0 ∷ [] }
    ∷ record { asked = lists 1 1; of = file p9-across; says = 0 ∷ 1 ∷ 0 ∷ [] }
    -- 4: an argument behind a result; an edge behind a context; a block without an instruction, inside and at the end
    ∷ record { asked = refuses; of = file ((1, 4, 0, 0) ∷ (2, 0, 0, 0) ∷ (4, 0, 0, 0) ∷ (5, 0, 0, 0) ∷ (6, 0, 0, 0) ∷ (4, 2, 0, 0) ∷ []); says = 4 ∷ [] }
    ∷ record { asked = refuses; of = file ((1, 4, 0, 0) ∷ (2, 0, 0, 0) ∷ (4, 3, 0, 0) ∷ (9, 0, 0, 0) ∷ (7, 0, 0, 0) ∷ []); says = 4 ∷ [] }
    ∷ record { asked = refuses; of = file ((2, 0, 0, 0) ∷ (2, 0, 1, 0) ∷ (4, 2, 0, 0) ∷ []); says = 4 ∷ [] }
    ∷ record { asked = refuses; of = file ((2, 0, 0, 0) ∷ []); says = 4 ∷ [] }
    -- 4: a size of 64 is fine; 65, 0, flags 4 and an edge argument 3 are outside the table
    ∷ record { asked = refuses; of = file ((1, 64, 0, 0) ∷ (2, 0, 0, 0) ∷ (4, 0, 0, 0) ∷ (5, 0, 0, 0) ∷ (4, 2, 0, 0) ∷ []); says = 0 ∷ [] }
    ∷ record { asked = refuses; of = file ((1, 65, 0, 0) ∷ (2, 0, 0, 0) ∷ (4, 0, 0, 0) ∷ (5, 0, 0, 0) ∷ (4, 2, 0, 0) ∷ []); says = 4 ∷ [] }
    ∷ record { asked = refuses; of = file ((1, 0, 0, 0) ∷ (2, 0, 0, 0) ∷ (4, 0, 0, 0) ∷ (5, 0, 0, 0) ∷ (4, 2, 0, 0) ∷ []); says = 4 ∷ [] }
    ∷ record { asked = refuses; of = file ((2, 0, 0, 0) ∷ (4, 4, 0, 0) ∷ []); says = 4 ∷ [] }
    ∷ record { asked = refuses; of = file ((1, 4, 0, 0) ∷ (2, 0, 0, 0) ∷ (4, 0, 0, 0) ∷ (5, 0, 0, 0) ∷ (4, 2, 0, 0) ∷ (6, 0, 0, 0) ∷ (7, 0, 0, 0) ∷ (8, 3, 0, 0) ∷ []); says = 4 ∷ [] }
    -- 5: an argument, and a result, that is not in the file
    ∷ record { asked = refuses; of = file ((1, 4, 0, 0) ∷ (2, 0, 0, 0) ∷ (4, 0, 0, 0) ∷ (5, 0, 0, 0) ∷ (4, 2, 0, 0) ∷ (6, 1, 0, 0) ∷ []); says = 5 ∷ [] }
    ∷ record { asked = refuses; of = file ((2, 0, 0, 0) ∷ (4, 0, 0, 0) ∷ (5, 0, 0, 0) ∷ (4, 2, 0, 0) ∷ []); says = 5 ∷ [] }
    -- 7: a size that is not the parameter's; too few edge arguments; an edge to block 0; a word where the flags are 2
    ∷ record { asked = refuses; of = file ((1, 4, 0, 0) ∷ (1, 8, 0, 0) ∷ (2, 0, 0, 0) ∷ (3, 0, 0, 0) ∷ (4, 2, 0, 0) ∷ (7, 1, 0, 0) ∷ (8, 0, 0, 0) ∷ (2, 0, 1, 0) ∷ (3, 1, 0, 0) ∷ (4, 2, 0, 0) ∷ []); says = 7 ∷ [] }
    ∷ record { asked = refuses; of = file ((1, 4, 0, 0) ∷ (2, 0, 0, 0) ∷ (4, 2, 0, 0) ∷ (7, 1, 0, 0) ∷ (2, 0, 1, 0) ∷ (3, 0, 0, 0) ∷ (4, 2, 0, 0) ∷ []); says = 7 ∷ [] }
    ∷ record { asked = refuses; of = file ((2, 0, 0, 0) ∷ (4, 2, 0, 0) ∷ (7, 0, 0, 0) ∷ []); says = 7 ∷ [] }
    ∷ record { asked = refuses; of = file ((1, 4, 0, 0) ∷ (2, 0, 0, 0) ∷ (4, 2, 0, 0) ∷ (7, 1, 0, 0) ∷ (8, 1, 0, 0) ∷ (2, 0, 1, 0) ∷ (3, 0, 0, 0) ∷ (4, 2, 0, 0) ∷ []); says = 7 ∷ [] }
    -- 7: results on a terminator; an edge on another instruction; a context where the flags are 2; two terminators
    ∷ record { asked = refuses; of = file ((1, 4, 0, 0) ∷ (2, 0, 0, 0) ∷ (4, 2, 0, 0) ∷ (5, 0, 0, 0) ∷ []); says = 7 ∷ [] }
    ∷ record { asked = refuses; of = file ((2, 0, 0, 0) ∷ (4, 0, 0, 0) ∷ (7, 1, 0, 0) ∷ (4, 2, 0, 0) ∷ (2, 0, 1, 0) ∷ (4, 2, 0, 0) ∷ []); says = 7 ∷ [] }
    ∷ record { asked = refuses; of = file ((1, 4, 0, 0) ∷ (2, 0, 0, 0) ∷ (3, 0, 0, 0) ∷ (4, 2, 0, 0) ∷ (9, 0, 0, 0) ∷ []); says = 7 ∷ [] }
    ∷ record { asked = refuses; of = file ((2, 0, 0, 0) ∷ (4, 2, 0, 0) ∷ (4, 2, 0, 0) ∷ []); says = 7 ∷ [] }
    -- kinds 10 to 15 in an input
    ∷ record { asked = refuses; of = file (p1 ++ ((10, 4, 2, 0) ∷ [])); says = 4 ∷ [] }
    ∷ record { asked = refuses; of = file (p1 ++ ((11, 0, 4, 0) ∷ [])); says = 4 ∷ [] }
    ∷ record { asked = refuses; of = file (p1 ++ ((12, 0, 0, 0) ∷ [])); says = 4 ∷ [] }
    ∷ record { asked = refuses; of = file (p1 ++ ((13, 0, 0, 0) ∷ [])); says = 4 ∷ [] }
    ∷ record { asked = refuses; of = file (p1 ++ ((14, 0, 0, 4) ∷ [])); says = 4 ∷ [] }
    ∷ record { asked = refuses; of = file (p1 ++ ((15, 0, 0, 0) ∷ [])); says = 4 ∷ [] }
    -- final records by any answer: the first records x 16 bytes, none where the buffer is shorter or for a refusal
    ∷ record { asked = part (Ok tt) 2; of = file ((1, 4, 0, 0) ∷ (1, 4, 0, 0) ∷ (1, 4, 0, 0) ∷ []); says = file ((1, 4, 0, 0) ∷ (1, 4, 0, 0) ∷ []) }
    ∷ record { asked = part (Ok tt) 3; of = file ((1, 4, 0, 0) ∷ (1, 4, 0, 0) ∷ []); says = [] }
    ∷ record { asked = part (Err (refusal.TooShort 2)) 2; of = file ((1, 4, 0, 0) ∷ (1, 4, 0, 0) ∷ []); says = [] }
    -- the program writes the final records, or `refused n` and a line feed; 3 above 32,768 bytes
    ∷ record { asked = program; of = file p8; says = file p8 }
    ∷ record { asked = program; of = file p1; says = file p1-rewritten }
    ∷ record { asked = program; of = []; says = 114 ∷ 101 ∷ 102 ∷ 117 ∷ 115 ∷ 101 ∷ 100 ∷ 32 ∷ 52 ∷ 10 ∷ [] }
    ∷ record { asked = program; of = replicate 32768 0; says = 114 ∷ 101 ∷ 102 ∷ 117 ∷ 115 ∷ 101 ∷ 100 ∷ 32 ∷ 52 ∷ 10 ∷ [] }
    ∷ record { asked = program; of = replicate 32769 0; says = 114 ∷ 101 ∷ 102 ∷ 117 ∷ 115 ∷ 101 ∷ 100 ∷ 32 ∷ 51 ∷ 10 ∷ [] }
    ∷ []

pub sheets-hold : map (λ (x : Sheet). answer x.asked x.of) sheets ≡ map (λ (x : Sheet). x.says) sheets
unfolding sheets p1 p1-rewritten p2 p3 p4 p5 p6 p6-rewritten p7 p7-rewritten p8 p9 p9-across p10 p10-unreachable freed-twice spilled-result spilled-result-rewritten store-then-load store-then-load-rewritten parameter parameter-rewritten landing-words landing-words-rewritten plain-edges plain-edges-rewritten parameters parameters-rewritten results results-rewritten cold cold-rewritten copied copied-rewritten landings landings-rewritten unmarked unmarked-rewritten early slotless own-result own-result-rewritten undominated undominated-rewritten sizes sizes-rewritten unreachable two_edges many decode record_at records first_words bytes followers follows function function_records reachable process lists_of is_spilled file_refusals give_slot free_slot planned rewritten liveness_verdict liveness_answer liveness_ins liveness_outs list_verdict list_answer list_words records_of rewriting_verdict rewriting_answer rewriting_output final_records program_writes
sheets-hold = refl
