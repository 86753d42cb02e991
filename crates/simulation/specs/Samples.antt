-- The relation is not empty and not full: P1, P5 and P6 of document 01 are related to what rewriting leaves of them, by the
-- pass over facts at block entries; and no wrong output of Sharpness.antt is related to its original.
use Rattle.std.specs.Prelude.{ℕ, ◌≡◌, refl, Bool, true, false, cond, List, [], ◌∷◌, ◌++◌, map, eqb}
use Rattle.rules.specs.Lists.{nothing}
use Rattle.rules.specs.Tree.{Value, Edge, Instruction, instruction, Block, Function}
use Rattle.rules.specs.Records.{decode, record_at, records, first_words, bytes}
use Rattle.rules.specs.File.{followers, follows, function, function_records, function_in}
use Rattle.rules.specs.Graph.{is_marked, reachable}
use Rattle.rules.specs.Liveness.{process, lists_of, is_spilled}
use Rattle.rules.specs.Refusals.{file_refusals}
use Rattle.rules.specs.Slots.{give_slot, free_slot}
use Rattle.rules.specs.Plan.{planned}
use Rattle.rules.specs.Rewriting.{rewritten}
use Rattle.rules.specs.Services.{records_of, rewriting_verdict, rewriting_answer, rewriting_output, final_records}
use Rattle.rules.specs.TwoRuns.{trace}
use Rattle.rules.specs.Demand3.{start, onward, Dominated, every_instruction, final_file}
use Rattle.rules.specs.SheetFiles.{Row, file, p1, p5, p6}
use Rattle.rules.specs.Sheets.{room}
use Rattle.rules.specs.declared.EdgeArgument.{EdgeArgument}
use Rattle.rules.specs.declared.EdgeArgument.TheVariants as passes
use Rattle.lists.specs.Members.{here, ∈→has}
use Rattle.simulation.specs.Ghost.{word}
use Rattle.simulation.specs.Related.{Related}
use Rattle.simulation.specs.Simulation.{related-traces}
use Rattle.simulation.specs.Checking.{Known, related-ok}
use Rattle.simulation.specs.Domination.{dominated-ok}
use Rattle.simulation.specs.Sharpness.{world, mover, unset}
use Rattle.simulation.specs.Sharpness.{p1-unlisted, p1-unstored, p1-unaddressed, p5-one-slot, p6-early, undominated-edge}
use Rattle.simulation.specs.Sharpness.{p1-unlisted-differs, p1-unstored-differs, unaddressed-differs, p5-one-slot-differs}
use Rattle.simulation.specs.Sharpness.{p6-early-differs, p6-unrecorded-differs, undominated-edge-differs}

-- rows are read as an original, and what rewriting leaves of it
abbrev pub read : List Row → Function
read rows = function_in (file rows)

abbrev pub rewrite : List Row → Function
rewrite rows = function_in (final_file (file rows) 8 room)

no-facts : Known
no-facts = record { words = []; slots = [] }

slot-holds : ℕ → ℕ → Known
slot-holds s v = record { words = []; slots = (s, word v) ∷ [] }

-- The premise of demand 3 holds of the three, and not of the undominated file.
pub p1-dominated : Dominated (read p1)
unfolding p1 decode record_at records first_words bytes followers follows function function_records
p1-dominated = dominated-ok (read p1) (λ _. []) tt

pub p5-dominated : Dominated (read p5)
unfolding p5 decode record_at records first_words bytes followers follows function function_records
p5-dominated = dominated-ok (read p5) (λ b. cond (eqb b 0) [] (cond (eqb b 1) (0 ∷ []) (0 ∷ 1 ∷ []))) tt

pub p6-dominated : Dominated (read p6)
unfolding p6 decode record_at records first_words bytes followers follows function function_records
p6-dominated = dominated-ok (read p6) (λ _. []) tt

-- the undominated file as a tree
plain : Bool → Bool → List ℕ → List ℕ → List Edge → Instruction
plain safepoint terminator arguments results edges =
    record {
      safepoint = safepoint;
      terminator = terminator;
      tag = 0;
      arguments = arguments;
      results = results;
      edges = edges;
      contexts = [];
      entries = [];
    }

to : ℕ → List EdgeArgument → Edge
to t arguments = record { target = t; arguments = arguments }

-- what block 1 does before it ends, and its end, which passes v1 to block 3
turn : List Instruction
turn = plain false false [] (0 ∷ []) [] ∷ plain true false [] [] [] ∷ plain false false (0 ∷ []) [] [] ∷ []

leave : Instruction
leave = plain false true [] [] (to 2 [] ∷ to 3 (passes.Value 1 ∷ []) ∷ [])

holding : ℕ → List ℕ → List Instruction → Block
holding n parameters is = record { cold = false; number = n; parameters = parameters; items = map instruction is }

tree : Function
tree =
    let v : Value = record { size = 4; marked = true } in
    record {
      values = v ∷ v ∷ v ∷ [];
      slots = [];
      blocks =
          holding 0 [] (plain false true [] [] (to 1 [] ∷ []) ∷ [])
          ∷ holding 1 [] (turn ++ (leave ∷ []))
          ∷ holding 2 [] (plain false false [] (1 ∷ []) [] ∷ plain false true [] [] (to 1 [] ∷ []) ∷ [])
          ∷ holding 3 (2 ∷ []) (plain false true (2 ∷ []) [] [] ∷ [])
          ∷ [];
    }

tree-undominated : ¬ Dominated tree
unfolding tree holding leave turn to plain
tree-undominated d = ∈→has (d.after (onward start (here refl)) turn leave [] refl 1 (here refl))

pub undominated-edge-not-dominated : ¬ Dominated (read undominated-edge)
unfolding tree holding leave turn to plain decode record_at records first_words bytes followers follows function
    function_records
undominated-edge-not-dominated = tree-undominated

pub p1-related : Related (read p1) (rewrite p1)
unfolding p1 no-facts slot-holds decode record_at records first_words bytes followers follows function function_records
    reachable process lists_of is_spilled file_refusals give_slot free_slot planned rewritten records_of rewriting_verdict
    rewriting_answer rewriting_output final_records
p1-related = related-ok (read p1) (rewrite p1) (λ _. no-facts) tt

-- v0 stays in slot 1 around the loop of block 1; block 2 has v1 in slot 0
pub p5-related : Related (read p5) (rewrite p5)
unfolding p5 no-facts slot-holds decode record_at records first_words bytes followers follows function function_records
    reachable process lists_of is_spilled file_refusals give_slot free_slot planned rewritten records_of rewriting_verdict
    rewriting_answer rewriting_output final_records
p5-related = related-ok (read p5) (rewrite p5) (λ t. cond (eqb t 1) (slot-holds 1 0) (cond (eqb t 2) (slot-holds 0 1) no-facts)) tt

pub p6-related : Related (read p6) (rewrite p6)
unfolding p6 no-facts slot-holds decode record_at records first_words bytes followers follows function function_records
    reachable process lists_of is_spilled file_refusals give_slot free_slot planned rewritten records_of rewriting_verdict
    rewriting_answer rewriting_output final_records
p6-related = related-ok (read p6) (rewrite p6) (λ _. no-facts) tt

-- The wrong outputs, and what rewriting leaves of the undominated file, are not related: their runs differ.
by-traces : (f g : Function) (second : List ℕ) (steps : ℕ)
    → ¬ (trace f every_instruction (is_marked f) (world second) mover unset unset steps
    ≡ trace g every_instruction nothing (world second) mover unset unset steps)
    → ¬ Related f g
by-traces f g second steps differ r = differ (related-traces f g r (world second) mover unset unset unset unset steps)

pub p1-unlisted-unrelated : ¬ Related (read p1) (read p1-unlisted)
p1-unlisted-unrelated = by-traces (read p1) (read p1-unlisted) [] 4 (p1-unlisted-differs unset unset unset unset)

pub p1-unstored-unrelated : ¬ Related (read p1) (read p1-unstored)
p1-unstored-unrelated = by-traces (read p1) (read p1-unstored) [] 4 (p1-unstored-differs unset unset unset)

pub unaddressed-unrelated : ¬ Related (read p1) (read p1-unaddressed)
unaddressed-unrelated = by-traces (read p1) (read p1-unaddressed) [] 4 (unaddressed-differs unset unset)

pub p5-one-slot-unrelated : ¬ Related (read p5) (read p5-one-slot)
p5-one-slot-unrelated = by-traces (read p5) (read p5-one-slot) [] 8 (p5-one-slot-differs unset unset unset unset)

pub p6-early-unrelated : ¬ Related (read p6) (read p6-early)
p6-early-unrelated = by-traces (read p6) (read p6-early) [] 4 (p6-early-differs unset unset unset unset)

pub p6-unrecorded-unrelated : ¬ Related (read p6) (read p6)
p6-unrecorded-unrelated = by-traces (read p6) (read p6) [] 4 (p6-unrecorded-differs unset unset unset unset)

pub undominated-edge-unrelated : ¬ Related (read undominated-edge) (rewrite undominated-edge)
undominated-edge-unrelated =
    by-traces (read undominated-edge) (rewrite undominated-edge) (10 ∷ []) 12 (undominated-edge-differs unset unset unset unset)
