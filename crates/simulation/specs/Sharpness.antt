-- Demand 3 is not empty and is sharp, by computation, in a world and under a mover that moves every word. For document
-- 01's P1, P5 and P6 the two runs agree, whatever words and slots hold at first. For wrong outputs, and for a file with an
-- undominated use, they differ: most of them whatever is held at first, two of them only by what nobody set.
use Rattle.std.specs.Prelude.{ℕ, suc, ◌+◌, ◌*◌, ◌≡◌, ◌≢◌, false, not, cond, List, [], ◌∷◌, get_or, T, eqb, is_ok}
use Rattle.std.proofs.Math.Path.{refl}
use Rattle.std.proofs.Common.{ap}
use Rattle.std.proofs.Math.Option.{none}
use Rattle.rules.specs.Lists.{has, keep, nothing, or_else}
use Rattle.rules.specs.Records.{decode, record_at, records, first_words, bytes}
use Rattle.rules.specs.File.{followers, follows, function, function_records, function_in}
use Rattle.rules.specs.Graph.{is_marked, reachable}
use Rattle.rules.specs.Liveness.{process, lists_of, is_spilled}
use Rattle.rules.specs.Refusals.{file_refusals}
use Rattle.rules.specs.Slots.{give_slot, free_slot}
use Rattle.rules.specs.Plan.{planned}
use Rattle.rules.specs.Rewriting.{rewritten}
use Rattle.rules.specs.Services.{records_of, rewriting_verdict, rewriting_answer, rewriting_output, final_records}
use Rattle.rules.specs.TwoRuns.{World, Mover, Seen, trace}
use Rattle.rules.specs.Demand3.{every_instruction, final_file}
use Rattle.rules.specs.SheetFiles.{Row, file, p1, p1-rewritten, p5, p6}
use Rattle.rules.specs.Sheets.{room}
use Rattle.lists.specs.Tests.{neqb→ne}

-- a world in which each word tells its step, instruction and place; at the steps given, the edge taken is the second one
abbrev pub world : List ℕ → World
world second =
    record {
      entry = λ p. 10 + p;
      results = λ k n _ p. 1000 * suc k + 10 * n + p;
      edge = λ k _ _. cond (has k second) 1 0;
      returned = λ k n _ p. 1000 * suc k + 10 * n + 100 + p;
      exception = λ k n _ p. 1000 * suc k + 10 * n + 200 + p;
    }

-- every word moves, at each safepoint to another place
abbrev pub mover : Mover
mover k w = w + 1000000 * suc k

-- words and slots that nobody set
abbrev pub unset : ℕ → ℕ
unset k = 600 + k

-- by first words and slots: the original's run, in which the marked values defined so far move
abbrev pub original : (ℕ → ℕ) → (ℕ → ℕ) → List Row → List ℕ → ℕ → List Seen
original words slots rows second n =
    let f = function_in (file rows) in
    trace f every_instruction (is_marked f) (world second) mover words slots n

-- and a run in which only listed slots move
abbrev pub final : (ℕ → ℕ) → (ℕ → ℕ) → List ℕ → List ℕ → ℕ → List Seen
final words slots bytes second n = trace (function_in bytes) every_instruction nothing (world second) mover words slots n

-- the run of what rewriting leaves
abbrev pub ours : (ℕ → ℕ) → (ℕ → ℕ) → List Row → List ℕ → ℕ → List Seen
ours words slots rows = final words slots (final_file (file rows) 8 room)

-- a step of a run: the argument word at a place, and the word that arrived before it
abbrev pub blank : Seen
blank = record { arrived = none; number = 0; safepoint = false; terminator = false; tag = 0; arguments = []; edge = none }

abbrev pub argument : ℕ → ℕ → List Seen → ℕ
argument k p t = get_or (get_or t k blank).arguments p 0

abbrev pub arrival : ℕ → ℕ → List Seen → ℕ
arrival k p t = get_or (or_else [] (get_or t k blank).arrived) p 0

-- WRONG OUTPUTS
-- rows but for those of a kind
abbrev pub without : ℕ → List Row → List Row
without kind = keep (λ r. not (eqb r.0 kind))

-- P1 with the entry left out of the map, with its store left out, and with both slot addresses left out
abbrev pub p1-unlisted : List Row
p1-unlisted = without 11 p1-rewritten

abbrev pub p1-unstored : List Row
p1-unstored = without 13 p1-rewritten

abbrev pub p1-unaddressed : List Row
p1-unaddressed = without 12 p1-rewritten

-- P5 with v1 in v0's slot, as without the early slots for live-out
abbrev pub p5-one-slot : List Row
p5-one-slot =
    (1, 4, 1, 0) ∷ (1, 4, 1, 0) ∷ (1, 8, 0, 0) ∷ (1, 4, 0, 0) ∷ (1, 8, 0, 0) ∷ (1, 8, 0, 0) ∷ (1, 4, 0, 0) ∷
    (1, 8, 0, 0) ∷ (10, 4, 2, 0) ∷ (2, 0, 0, 0) ∷ (4, 0, 7, 0) ∷ (5, 0, 0, 0) ∷ (12, 7, 0, 0) ∷ (13, 0, 7, 0) ∷
    (4, 2, 8, 0) ∷ (7, 1, 0, 0) ∷ (2, 0, 1, 0) ∷ (12, 5, 0, 0) ∷ (14, 6, 5, 4) ∷ (4, 0, 9, 0) ∷ (6, 6, 0, 0) ∷
    (4, 1, 8, 0) ∷ (11, 0, 4, 0) ∷ (4, 0, 7, 0) ∷ (5, 1, 0, 0) ∷ (12, 4, 0, 0) ∷ (13, 1, 4, 0) ∷ (4, 2, 8, 0) ∷
    (7, 1, 0, 0) ∷ (7, 2, 0, 0) ∷ (2, 0, 2, 0) ∷ (4, 1, 8, 0) ∷ (11, 0, 4, 0) ∷ (12, 2, 0, 0) ∷ (14, 3, 2, 4) ∷
    (4, 2, 9, 0) ∷ (6, 3, 0, 0) ∷ []

-- P6 with the edge argument reloaded before the flags-3 instruction
abbrev pub p6-early : List Row
p6-early =
    (1, 4, 1, 0) ∷ (1, 4, 0, 0) ∷ (1, 4, 1, 0) ∷ (1, 8, 0, 0) ∷ (1, 4, 0, 0) ∷ (1, 8, 0, 0) ∷ (10, 4, 2, 0) ∷
    (2, 0, 0, 0) ∷ (4, 0, 7, 0) ∷ (5, 0, 0, 0) ∷ (12, 5, 0, 0) ∷ (13, 0, 5, 0) ∷ (12, 3, 0, 0) ∷ (14, 4, 3, 4) ∷
    (4, 3, 8, 0) ∷ (7, 1, 0, 0) ∷ (8, 1, 0, 0) ∷ (8, 0, 4, 0) ∷ (7, 2, 0, 0) ∷ (11, 0, 4, 0) ∷ (2, 0, 1, 0) ∷
    (3, 1, 0, 0) ∷ (3, 2, 0, 0) ∷ (4, 2, 9, 0) ∷ (2, 0, 2, 0) ∷ (4, 2, 9, 0) ∷ []

-- block 1 passes v1, which only block 2 behind it defines
abbrev pub undominated-edge : List Row
undominated-edge =
    (1, 4, 1, 0) ∷ (1, 4, 1, 0) ∷ (1, 4, 1, 0) ∷ (2, 0, 0, 0) ∷ (4, 2, 0, 0) ∷ (7, 1, 0, 0) ∷ (2, 0, 1, 0) ∷
    (4, 0, 0, 0) ∷ (5, 0, 0, 0) ∷ (4, 1, 0, 0) ∷ (4, 0, 0, 0) ∷ (6, 0, 0, 0) ∷ (4, 2, 0, 0) ∷ (7, 2, 0, 0) ∷
    (7, 3, 0, 0) ∷ (8, 0, 1, 0) ∷ (2, 0, 2, 0) ∷ (4, 0, 0, 0) ∷ (5, 1, 0, 0) ∷ (4, 2, 0, 0) ∷ (7, 1, 0, 0) ∷
    (2, 0, 3, 0) ∷ (3, 2, 0, 0) ∷ (4, 2, 0, 0) ∷ (6, 2, 0, 0) ∷ []

-- all four files are accepted
pub accepted : T (is_ok (rewriting_answer (file p1) 8 room)) × T (is_ok (rewriting_answer (file p5) 8 room))
    × T (is_ok (rewriting_answer (file p6) 8 room))
    × T (is_ok (rewriting_answer (file undominated-edge) 8 room))
unfolding p1 p5 p6 decode record_at records first_words bytes followers follows function function_records reachable process
    lists_of is_spilled file_refusals give_slot free_slot planned rewritten records_of rewriting_verdict rewriting_answer
    rewriting_output final_records
accepted = (tt, tt, tt, tt)

-- two runs differ where something seen of them does
differ-at : (look : List Seen → ℕ) {t t' : List Seen} → T (not (eqb (look t) (look t'))) → t ≢ t'
differ-at look {t} {t'} h e = neqb→ne (look t) (look t') h (ap look e)

module _ (words words' slots slots' : ℕ → ℕ) where
  -- P1, P5 (three turns of its loop) and P6 (by either edge) are seen to do the same when rewritten.
  pub p1-agrees : original words slots p1 [] 4 ≡ ours words' slots' p1 [] 4
  unfolding trace p1 decode record_at records first_words bytes followers follows function function_records reachable process
      lists_of is_spilled file_refusals give_slot free_slot planned rewritten records_of rewriting_verdict rewriting_answer
      rewriting_output final_records
  p1-agrees = refl

  pub p5-agrees : original words slots p5 (13 ∷ []) 17 ≡ ours words' slots' p5 (13 ∷ []) 17
  unfolding trace p5 decode record_at records first_words bytes followers follows function function_records reachable process
      lists_of is_spilled file_refusals give_slot free_slot planned rewritten records_of rewriting_verdict rewriting_answer
      rewriting_output final_records
  p5-agrees = refl

  pub p6-agrees : original words slots p6 [] 4 ≡ ours words' slots' p6 [] 4
  unfolding trace p6 decode record_at records first_words bytes followers follows function function_records reachable process
      lists_of is_spilled file_refusals give_slot free_slot planned rewritten records_of rewriting_verdict rewriting_answer
      rewriting_output final_records
  p6-agrees = refl

  pub p6-other-agrees : original words slots p6 (1 ∷ []) 4 ≡ ours words' slots' p6 (1 ∷ []) 4
  unfolding trace p6 decode record_at records first_words bytes followers follows function function_records reachable process
      lists_of is_spilled file_refusals give_slot free_slot planned rewritten records_of rewriting_verdict rewriting_answer
      rewriting_output final_records
  p6-other-agrees = refl

  -- WRONG OUTPUTS: some word is another one.
  pub p1-unlisted-differs : original words slots p1 [] 4 ≢ final words' slots' (file p1-unlisted) [] 4
  unfolding trace p1 p1-rewritten decode record_at records first_words bytes followers follows function function_records
  p1-unlisted-differs = differ-at (argument 2 0) tt

  pub p5-one-slot-differs : original words slots p5 [] 8 ≢ final words' slots' (file p5-one-slot) [] 8
  unfolding trace p5 decode record_at records first_words bytes followers follows function function_records
  p5-one-slot-differs = differ-at (argument 6 0) tt

  pub p6-early-differs : original words slots p6 [] 4 ≢ final words' slots' (file p6-early) [] 4
  unfolding trace p6 decode record_at records first_words bytes followers follows function function_records
  p6-early-differs = differ-at (arrival 2 1) tt

  -- with the list recorded before edge arguments P6 has an empty list, and comes back unchanged
  pub p6-unrecorded-differs : original words slots p6 [] 4 ≢ final words' slots' (file p6) [] 4
  unfolding trace p6 decode record_at records first_words bytes followers follows function function_records
  p6-unrecorded-differs = differ-at (arrival 2 1) tt

  -- Domination is needed: on the path 0, 1, 2, 1, 3 this file reads only defined words, so what is held at first is not seen;
  -- and yet the runs differ.
  pub undominated-edge-reads-defined :
      original words slots undominated-edge (10 ∷ []) 12 ≡ original words' slots' undominated-edge (10 ∷ []) 12
  unfolding trace decode record_at records first_words bytes followers follows function function_records
  undominated-edge-reads-defined = refl

  pub undominated-edge-differs : original words slots undominated-edge (10 ∷ []) 12 ≢ ours words' slots' undominated-edge (10 ∷ []) 12
  unfolding trace decode record_at records first_words bytes followers follows function function_records reachable process
      lists_of is_spilled file_refusals give_slot free_slot planned rewritten records_of rewriting_verdict rewriting_answer
      rewriting_output final_records
  undominated-edge-differs = differ-at (argument 11 0) tt

-- without its store P1 loads what nobody stored
pub p1-unstored-differs : (words words' slots : ℕ → ℕ) → original words slots p1 [] 4 ≢ final words' unset (file p1-unstored) [] 4
unfolding trace p1 p1-rewritten decode record_at records first_words bytes followers follows function function_records
p1-unstored-differs words words' slots = differ-at (argument 2 0) tt

-- Without its slot addresses the store and the load go through words that nobody set. Were such words 0, which is slot 0's
-- address, nobody would see it: so first words are any.
pub unaddressed-differs : (words slots : ℕ → ℕ) → original words slots p1 [] 4 ≢ final unset unset (file p1-unaddressed) [] 4
unfolding trace p1 p1-rewritten decode record_at records first_words bytes followers follows function function_records
unaddressed-differs words slots = differ-at (argument 2 0) tt

pub unaddressed-by-zeros : (words slots slots' : ℕ → ℕ)
    → original words slots p1 [] 4 ≡ final (λ _. 0) slots' (file p1-unaddressed) [] 4
unfolding trace p1 p1-rewritten decode record_at records first_words bytes followers follows function function_records
unaddressed-by-zeros words slots slots' = refl
