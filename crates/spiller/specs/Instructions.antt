-- ONE INSTRUCTION: what planning notes beside its records, run by run.
use Rattle.std.specs.Prelude.{ℕ, suc, ◌+◌, ◌-◌, ◌≡◌, Bool, true, false, cond, List, map, eqb}
use Rattle.std.proofs.Common.{sym, ap, subst, ◌∙◌, arith}
use Rattle.std.proofs.Math.Option.{Option, none, some}
use Rattle.rules.specs.Tree.{Instruction, Function}
use Rattle.rules.specs.File.{named, instruction_of, function_in}
use Rattle.rules.specs.Plan.{Plan, Made, EdgePlan, InstructionPlan, for_each, plan_slot, plan_definition, plan_use, plan_instruction}
use Rattle.rules.specs.declared.Words.{Words}
use Rattle.graph.specs.Between.{between}
use Rattle.listing.specs.Across.{section_at}
use Rattle.listing.specs.Parted.{Parted, arguments-there, results-there}
use Rattle.numbering.specs.Beside.{made_at, mades_between, edge_plans_at, instruction_plan_at}
use Rattle.planning.specs.Standing.{Tables, plan_of, Kept, Ran}
use Rattle.planning.specs.Walking.{kept-none, kept_more}
use Rattle.planning_edges.specs.Edges.{edge_step, EdgesNoted, edges_between}
use Rattle.planning_edges.specs.Noted.{Within, Noted}
use Rattle.spiller.specs.RunPlaces.{argument-places, result-places, edges-there, edges_are}
use Rattle.planning_edges.specs.Spans.{edge_places}
use Rattle.planning_edges.specs.Stable.{mades-same, edges-same}

-- every kind
abbrev pub any_kind : ℕ → Bool
any_kind j = true

-- an instruction's list, if it has one
abbrev pub list_if : Bool → List ℕ → Option (List ℕ)
list_if safepoint list = cond safepoint (some list) none

-- what is noted beside an instruction's records
abbrev pub InstructionNoted : List ℕ → ℕ → Option (List ℕ) → ℕ → ℕ → Tables → List ℕ → Tables → List ℕ → Type 0
InstructionNoted s pointer list place end =
    Noted (function_in s) (Within s any_kind place end) (λ ns. instruction_plan_at s ns place end)
    (plan_instruction (function_in s) pointer (instruction_of (section_at s place end), list)) (end - place)

-- a run of one kind, and what is noted beside it
abbrev pub DefinitionsNoted : List ℕ → ℕ → ℕ → ℕ → ℕ → Tables → List ℕ → Tables → List ℕ → Type 0
DefinitionsNoted s pointer k p q =
    Noted (function_in s) (Within s (eqb k) p q) (λ ns. mades_between s ns k p q) (for_each (plan_definition (function_in s) pointer) (named k (between s p q))) (q - p)

abbrev pub UsesNoted : List ℕ → ℕ → ℕ → ℕ → ℕ → Tables → List ℕ → Tables → List ℕ → Type 0
UsesNoted s pointer k p q =
    Noted (function_in s) (Within s (eqb k) p q) (λ ns. mades_between s ns k p q) (for_each (plan_use (function_in s) pointer) (named k (between s p q))) (q - p)

module _ (s : List ℕ) (pointer place end a b : ℕ) (x : Parted s (suc place) end a b) where
  abbrev f : Function
  f = function_in s

  abbrev i : Instruction
  i = instruction_of (section_at s place end)

  -- an instruction's plan by its runs
  abbrev plan_by : List Made → List Made → List EdgePlan → InstructionPlan
  plan_by us rs es = record { arguments = us; results = rs; edges = es }

  plan-read :
      (ns : List ℕ)
      → instruction_plan_at s ns place end ≡ plan_by (mades_between s ns 6 (suc place) a) (mades_between s ns 5 a b) (edge_plans_at s ns end (edge_places s b end))
  plan-read ns =
      λ j.
      plan_by (map (made_at s ns) (argument-places s (suc place) end a b x j)) (map (made_at s ns) (result-places s (suc place) end a b x j))
      (edge_plans_at s ns end (edges-there s (suc place) end a b x j))

  results-are : named 5 (between s a b) ≡ i.results
  results-are = sym (ap (map (λ (w : Words). w.second)) (results-there s (suc place) end a b x))

  arguments-are : named 6 (between s (suc place) a) ≡ i.arguments
  arguments-are = sym (ap (map (λ (w : Words). w.second)) (arguments-there s (suc place) end a b x))

  edges-all : edges_between s b end ≡ i.edges
  edges-all = sym (edges_are s (suc place) end a b x)

  -- no safepoint: results, arguments, edges
  module _ (t₀ t₁ t₂ t₃ : Tables) (n₀ n₁ n₂ n₃ : List ℕ) (d : DefinitionsNoted s pointer 5 a b t₀ n₀ t₁ n₁)
      (u : UsesNoted s pointer 6 (suc place) a t₁ n₁ t₂ n₂) (e : EdgesNoted s pointer false b end t₂ n₂ t₃ n₃) where
    pub plain-noted : InstructionNoted s pointer none place end t₀ n₀ t₃ n₃
    plain-noted =
        let low = x.low in
        let middle = x.middle in
        let high = x.high in
        let in_file = x.in_file in
        let us : mades_between s n₃ 6 (suc place) a ≡ mades_between s n₂ 6 (suc place) a =
        mades-same s n₃ n₂ 6 (suc place) a low (omega arith) (λ j w. e.same j (λ z. omega (arith, w.1, z.0))) in
        let rs : mades_between s n₃ 5 a b ≡ mades_between s n₁ 5 a b =
        mades-same s n₃ n₁ 5 a b middle (omega arith)
        (λ j w. e.same j (λ z. omega (arith, w.1, z.0)) ∙ u.same j (λ z. omega (arith, w.0, z.1))) in
        let es = edges_between s b end in
        let vs = named 6 (between s (suc place) a) in
        let count : (b - a) + ((a - suc place) + (1 + (end - b))) ≡ end - place = omega arith in
        record {
          answer =
              (λ j. (plan-read n₃ j, plan_of f t₃))
              ∙ (λ j. (plan_by (us j) (rs j) (e.answer j).0, (e.answer j).1))
              ∙ ap (λ (y : List Made × Plan). let z = for_each (edge_step f pointer false) es y.1 in (plan_by y.0 (mades_between s n₁ 5 a b) z.0, z.1)) u.answer
              ∙ ap
              (λ (w : List Made × Plan).
              let y = for_each (plan_use f pointer) vs w.1 in
              let z = for_each (edge_step f pointer false) es y.1 in
              (plan_by y.0 w.0 z.0, z.1))
              d.answer
              ∙ (λ j.
              let w = for_each (plan_definition f pointer) (results-are j) (plan_of f t₀) in
              let y = for_each (plan_use f pointer) (arguments-are j) w.1 in
              let z = for_each (edge_step f pointer false) (edges-all j) y.1 in
              (plan_by y.0 w.0 z.0, z.1));
          same =
              λ j out.
              e.same j (λ z. out (omega (arith, z.0), z.1, tt))
              ∙ u.same j (λ z. out (omega (arith, z.0), omega (arith, z.1), tt))
              ∙ d.same j (λ z. out (omega (arith, z.0), omega (arith, z.1), tt));
          kept =
              subst (λ (n : ℕ). Kept f n t₀ t₃) count
              (kept_more f (b - a) ((a - suc place) + (1 + (end - b))) t₀ t₁ t₃ d.kept
              (kept_more f (a - suc place) (1 + (end - b)) t₁ t₂ t₃ u.kept (kept_more f 1 (end - b) t₂ t₂ t₃ (kept-none f 1 t₂) e.kept)));
          blocks = omega (arith, d.blocks, u.blocks, e.blocks);
          long = e.long ∙ u.long ∙ d.long;
        }

  -- a safepoint: results, slots for what is on its list, edges, arguments
  module _ (list : List ℕ) (t₀ t₁ t₂ t₃ t₄ : Tables) (n₀ n₁ n₂ n₃ : List ℕ) (d : DefinitionsNoted s pointer 5 a b t₀ n₀ t₁ n₁)
      (r : Ran f (for_each (plan_slot f pointer) list) 0 t₁ t₂) (still : t₂.progress.blocks ≡ t₁.progress.blocks)
      (e : EdgesNoted s pointer true b end t₂ n₁ t₃ n₂) (u : UsesNoted s pointer 6 (suc place) a t₃ n₂ t₄ n₃) where
    pub safepoint-noted : InstructionNoted s pointer (some list) place end t₀ n₀ t₄ n₃
    safepoint-noted =
        let low = x.low in
        let middle = x.middle in
        let high = x.high in
        let in_file = x.in_file in
        let rs : mades_between s n₃ 5 a b ≡ mades_between s n₁ 5 a b =
        mades-same s n₃ n₁ 5 a b middle (omega arith)
        (λ j w. u.same j (λ z. omega (arith, w.0, z.1)) ∙ e.same j (λ z. omega (arith, w.1, z.0))) in
        let ps : edge_plans_at s n₃ end (edge_places s b end) ≡ edge_plans_at s n₂ end (edge_places s b end) =
        edges-same s n₃ n₂ b end high in_file (λ j w. u.same j (λ z. omega (arith, w.0, z.1))) in
        let es = edges_between s b end in
        let vs = named 6 (between s (suc place) a) in
        let count : (b - a) + (0 + ((end - b) + (1 + (a - suc place)))) ≡ end - place = omega arith in
        record {
          answer =
              (λ j. (plan-read n₃ j, plan_of f t₄))
              ∙ (λ j. (plan_by (u.answer j).0 (rs j) (ps j), (u.answer j).1))
              ∙ ap (λ (y : List EdgePlan × Plan). let z = for_each (plan_use f pointer) vs y.1 in (plan_by z.0 (mades_between s n₁ 5 a b) y.0, z.1)) e.answer
              ∙ ap
              (λ (q : Plan).
              let y = for_each (edge_step f pointer true) es q in
              let z = for_each (plan_use f pointer) vs y.1 in
              (plan_by z.0 (mades_between s n₁ 5 a b) y.0, z.1))
              r.state
              ∙ ap
              (λ (w : List Made × Plan).
              let q = (for_each (plan_slot f pointer) list w.1).1 in
              let y = for_each (edge_step f pointer true) es q in
              let z = for_each (plan_use f pointer) vs y.1 in
              (plan_by z.0 w.0 y.0, z.1))
              d.answer
              ∙ (λ j.
              let w = for_each (plan_definition f pointer) (results-are j) (plan_of f t₀) in
              let q = (for_each (plan_slot f pointer) list w.1).1 in
              let y = for_each (edge_step f pointer true) (edges-all j) q in
              let z = for_each (plan_use f pointer) (arguments-are j) y.1 in
              (plan_by z.0 w.0 y.0, z.1));
          same =
              λ j out.
              u.same j (λ z. out (omega (arith, z.0), omega (arith, z.1), tt))
              ∙ e.same j (λ z. out (omega (arith, z.0), z.1, tt))
              ∙ d.same j (λ z. out (omega (arith, z.0), omega (arith, z.1), tt));
          kept =
              subst (λ (n : ℕ). Kept f n t₀ t₄) count
              (kept_more f (b - a) (0 + ((end - b) + (1 + (a - suc place)))) t₀ t₁ t₄ d.kept
              (kept_more f 0 ((end - b) + (1 + (a - suc place))) t₁ t₂ t₄ r.kept
              (kept_more f (end - b) (1 + (a - suc place)) t₂ t₃ t₄ e.kept (kept_more f 1 (a - suc place) t₃ t₃ t₄ (kept-none f 1 t₃) u.kept))));
          blocks = omega (arith, d.blocks, u.blocks, e.blocks, still);
          long = u.long ∙ e.long ∙ d.long;
        }

-- by whether it is a safepoint
module _ (s : List ℕ) (pointer : ℕ) (safepoint : Bool) (list : List ℕ) (place end : ℕ) (t t' : Tables) (ns ms : List ℕ) where
  pub noted-listed : safepoint ≡ true → InstructionNoted s pointer (some list) place end t ns t' ms → InstructionNoted s pointer (list_if safepoint list) place end t ns t' ms
  noted-listed e h = subst (λ (b : Bool). InstructionNoted s pointer (list_if b list) place end t ns t' ms) (sym e) h

  pub noted-unlisted : safepoint ≡ false → InstructionNoted s pointer none place end t ns t' ms → InstructionNoted s pointer (list_if safepoint list) place end t ns t' ms
  noted-unlisted e h = subst (λ (b : Bool). InstructionNoted s pointer (list_if b list) place end t ns t' ms) (sym e) h
