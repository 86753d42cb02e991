-- The steps of one instruction, each from what the one before has left.
use Rattle.std.specs.Prelude.{ℕ, suc, ◌+◌, ◌-◌, ◌<◌, ◌≤◌, ◌≡◌, refl, ◌≢◌, true, false, List, T, eqb}
use Rattle.std.proofs.Common.{subst, ◌∙◌, arith, add-one}
use Rattle.std.proofs.Math.Option.{none, some}
use Rattle.rules.specs.Tree.{Function}
use Rattle.rules.specs.Records.{record_count}
use Rattle.rules.specs.File.{named, function_in}
use Rattle.rules.specs.Plan.{for_each, plan_slot, plan_definition, plan_use}
use Rattle.records.specs.Parts.{is_instruction}
use Rattle.graph.specs.Between.{between}
use Rattle.numbering.specs.Beside.{mades_between, edge_plans_at}
use Rattle.listing.specs.Across.{section_at}
use Rattle.listing.specs.Parted.{Parted, parted-by, run_end}
use Rattle.rows.specs.Rows.{row_values, HasRow}
use Rattle.planning.specs.Operands.{Range, use_at, define_at}
use Rattle.planning.specs.Standing.{Progress, Tables, tables, Good, Ran, Walked, Rows, Slotted}
use Rattle.planning.specs.SlotsGiven.{slotted-ran}
use Rattle.planning_edges.specs.Edges.{edge_step, EdgesIn, edges_between, EdgesNoted}
use Rattle.spiller.specs.Instructions.{any_kind, InstructionNoted, DefinitionsNoted, UsesNoted, plain-noted, safepoint-noted}
use Rattle.planning_edges.specs.Landings.{edge_kind}
use Rattle.planning_edges.specs.Noted.{Within, Blank, Able, able-then, Ready, ◌without◌, ready-then, ready-less}
use Rattle.planning_edges.specs.Spans.{edge_places}
use Rattle.planning_edges.specs.ReadBack.{uses-noted, definitions-noted}

-- THE RECORDS OF AN INSTRUCTION, from its own to before place end
pub record InstructionRecords (s : List ℕ) (place end : ℕ) : Type 0 where
  pub inside : place < end
  pub in_file : end ≤ record_count s
  pub shape : T (is_instruction (section_at s place end))
  pub edges : EdgesIn s (suc place) end

-- what planning it asks for
abbrev pub InstructionReady : List ℕ → ℕ → ℕ → Tables → List ℕ → Type 0
InstructionReady s place end = Ready (function_in s) (Within s any_kind place end) end (end - place)

-- A RUN OF DEFINITIONS OR USES, from what is left for it
module _ (s : List ℕ) (k p q : ℕ) (up : p ≤ q) (in_file : q ≤ record_count s) (n : ℕ) (t : Tables) (numbers : List ℕ) where
  -- it may be gone through,
  pub run-ready : Ready (function_in s) (Within s (eqb k) p q) q n t numbers → q - p ≤ n → Range s numbers p q × Good (function_in s) t (q - p)
  run-ready ready l = (
    record { up = up; in_file = in_file; in_numbers = ready.long },
    (ready-less (function_in s) (Within s (eqb k) p q) (Within s (eqb k) p q) q q n (q - p) t numbers (λ i h. h) (omega arith) l ready).able.good,
  )

  -- and is done then
  pub definitions-done :
      k ≢ 8 → Ready (function_in s) (Within s (eqb k) p q) q n t numbers → (pointer : ℕ) → t.progress.pointer ≡ pointer → (t' : Tables) (numbers' : List ℕ)
      → Walked (function_in s) (define_at s t.progress.pointer k) p (q - p) t numbers t' numbers' → DefinitionsNoted s pointer k p q t numbers t' numbers'
  definitions-done other ready pointer own t' numbers' walked =
      definitions-noted s pointer k p q up in_file t t' numbers numbers' ready.blank ready.long other
      (subst (λ (x : ℕ). Walked (function_in s) (define_at s x k) p (q - p) t numbers t' numbers') own walked)

  pub uses-done :
      k ≢ 8 → Ready (function_in s) (Within s (eqb k) p q) q n t numbers → (pointer : ℕ) → t.progress.pointer ≡ pointer → (t' : Tables) (numbers' : List ℕ)
      → Walked (function_in s) (use_at s t.progress.pointer k) p (q - p) t numbers t' numbers' → UsesNoted s pointer k p q t numbers t' numbers'
  uses-done other ready pointer own t' numbers' walked =
      uses-noted s pointer k p q up in_file t t' numbers numbers' ready.blank ready.long other
      (subst (λ (x : ℕ). Walked (function_in s) (use_at s x k) p (q - p) t numbers t' numbers') own walked)

-- THE STEPS
module _ (s : List ℕ) (place end : ℕ) (i : InstructionRecords s place end) (a b : ℕ) (first : a ≡ run_end s 6 (place + 1) end) (then : b ≡ run_end s 5 a end)
    (t₀ : Tables) (n₀ : List ℕ) (ready : InstructionReady s place end t₀ n₀) where
  abbrev f : Function
  f = function_in s

  abbrev pointer : ℕ
  pointer = t₀.progress.pointer

  abbrev Whole : ℕ → Type 0
  Whole = Within s any_kind place end

  x : Parted s (suc place) end a b
  x = parted-by s place end i.inside i.in_file i.shape a b first then

  -- results first
  ready₀ : Ready f (Within s (eqb 5) a b) b (b - a) t₀ n₀
  ready₀ =
      let low = x.low in
      let middle = x.middle in
      let high = x.high in
      ready-less f Whole (Within s (eqb 5) a b) end b (end - place) (b - a) t₀ n₀ (λ j w. (omega (arith, w.0), omega (arith, w.1), tt)) high (omega arith) ready

  pub results-ready : Range s n₀ a b × Good f t₀ (b - a)
  results-ready = let in_file = x.in_file in let high = x.high in run-ready s 5 a b x.middle (omega arith) (b - a) t₀ n₀ ready₀ (omega arith)

  module _ (t₁ : Tables) (n₁ : List ℕ) (walked₁ : Walked f (define_at s pointer 5) a (b - a) t₀ n₀ t₁ n₁) where
    d : DefinitionsNoted s pointer 5 a b t₀ n₀ t₁ n₁
    d = let in_file = x.in_file in let high = x.high in definitions-done s 5 a b x.middle (omega arith) (b - a) t₀ n₀ (λ e. omega (arith, e)) ready₀ pointer refl t₁ n₁ walked₁

    left₁ : Ready f (Whole without Within s (eqb 5) a b) end ((a - suc place) + (1 + (end - b))) t₁ n₁
    left₁ =
        let low = x.low in
        let middle = x.middle in
        let high = x.high in
        ready-then f Whole (Within s (eqb 5) a b) (λ ns. mades_between s ns 5 a b) (for_each (plan_definition f pointer) (named 5 (between s a b))) end (b - a) ((a - suc place) + (1 + (end - b))) (end - place) t₀ t₁ n₀ n₁
        (omega arith) ready d

    -- NO SAFEPOINT: then arguments
    ready₁ : Ready f (Within s (eqb 6) (place + 1) a) a (a - (place + 1)) t₁ n₁
    ready₁ =
        let low = x.low in
        let middle = x.middle in
        let high = x.high in
        ready-less f (Whole without Within s (eqb 5) a b) (Within s (eqb 6) (place + 1) a) end a ((a - suc place) + (1 + (end - b))) (a - (place + 1)) t₁ n₁
        (λ j w. ((omega (arith, w.0), omega (arith, w.1), tt), λ z. omega (arith, w.1, z.0))) (omega arith) (omega arith) left₁

    pub plain-uses-ready : Range s n₁ (place + 1) a × Good f t₁ (a - (place + 1))
    plain-uses-ready =
        let low = x.low in
        let middle = x.middle in
        let high = x.high in
        let in_file = x.in_file in
        run-ready s 6 (place + 1) a (omega arith) (omega arith) (a - (place + 1)) t₁ n₁ ready₁ (omega arith)

    module _ (t₂ : Tables) (n₂ : List ℕ) (walked₂ : Walked f (use_at s t₁.progress.pointer 6) (place + 1) (a - (place + 1)) t₁ n₁ t₂ n₂) where
      u : UsesNoted s pointer 6 (suc place) a t₁ n₁ t₂ n₂
      u =
          let low = x.low in
          let middle = x.middle in
          let high = x.high in
          let in_file = x.in_file in
          subst (λ (n : ℕ). UsesNoted s pointer 6 n a t₁ n₁ t₂ n₂) (add-one place)
          (uses-done s 6 (place + 1) a (omega arith) (omega arith) (a - (place + 1)) t₁ n₁ (λ e. omega (arith, e)) ready₁ pointer walked₁.kept.pointer t₂ n₂ walked₂)

      -- and edges
      pub plain-edges-ready : Range s n₂ b end × EdgesIn s b end × Blank (Within s edge_kind b end) n₂ × Able f t₂ (end - b)
      plain-edges-ready =
          let low = x.low in
          let middle = x.middle in
          let high = x.high in
          let rest : Ready f ((Whole without Within s (eqb 5) a b) without Within s (eqb 6) (suc place) a) end (1 + (end - b)) t₂ n₂ =
          ready-then f (Whole without Within s (eqb 5) a b) (Within s (eqb 6) (suc place) a) (λ ns. mades_between s ns 6 (suc place) a) (for_each (plan_use f pointer) (named 6 (between s (suc place) a))) end (a - suc place) (1 + (end - b)) ((a - suc place) + (1 + (end - b))) t₁ t₂ n₁ n₂ refl left₁ u in
          let mine =
          ready-less f ((Whole without Within s (eqb 5) a b) without Within s (eqb 6) (suc place) a) (Within s edge_kind b end) end end (1 + (end - b)) (end - b) t₂ n₂
          (λ j w. (((omega (arith, w.0), w.1, tt), λ z. omega (arith, w.0, z.1)), λ z. omega (arith, w.0, z.1))) (omega arith) (omega arith) rest in
          (record { up = high; in_file = x.in_file; in_numbers = mine.long }, (λ q l m e. i.edges q (omega arith) m e), mine.blank, mine.able)

      pub plain_done : (t₃ : Tables) (n₃ : List ℕ) → EdgesNoted s t₂.progress.pointer false b end t₂ n₂ t₃ n₃ → InstructionNoted s pointer none place end t₀ n₀ t₃ n₃
      plain_done t₃ n₃ e =
          plain-noted s pointer place end a b x t₀ t₁ t₂ t₃ n₀ n₁ n₂ n₃ d u
          (subst (λ (y : ℕ). EdgesNoted s y false b end t₂ n₂ t₃ n₃) (walked₂.kept.pointer ∙ walked₁.kept.pointer) e)

  -- A SAFEPOINT: behind its results slots for what is on its list,
  module _ (spilled lists : List ℕ) (number : ℕ) (asked steps sizes : List ℕ) (p : Progress) (n₁ : List ℕ)
      (walked₁ : Walked f (define_at s pointer 5) a (b - a) t₀ n₀ (tables asked steps sizes p) n₁) where
    abbrev t₁ : Tables
    t₁ = tables asked steps sizes p

    pub slots-ready : HasRow spilled 0 → HasRow lists number → Rows spilled lists number asked steps p.steps × (t₀.progress.given ≤ row_values)
    slots-ready in_spilled in_lists =
        let good = (left₁ t₁ n₁ walked₁).able.good in
        (record { in_spilled = in_spilled; in_set = in_lists; in_asked = good.row; room = omega (arith, good.room_steps) }, omega (arith, ready.able.good.counted, ready.able.good.few))

    module _ (vs asked' steps' : List ℕ) (n : ℕ) (slotted : Slotted vs asked steps p.steps asked' steps' n) where
      abbrev t₂ : Tables
      t₂ = tables asked' steps' sizes (record { pointer = p.pointer; given = p.given; made = p.made; blocks = p.blocks; steps = n })

      r : Ran f (for_each (plan_slot f pointer) vs) 0 t₁ t₂
      r = slotted-ran f pointer vs asked steps sizes p ((a - suc place) + (1 + (end - b))) (left₁ t₁ n₁ walked₁).able.good asked' steps' n slotted

      left₂ : Ready f (Whole without Within s (eqb 5) a b) end ((a - suc place) + (1 + (end - b))) t₂ n₁
      left₂ =
          let before = left₁ t₁ n₁ walked₁ in
          record {
            able = able-then f t₁ t₂ 0 ((a - suc place) + (1 + (end - b))) r.kept (omega arith) (subst (λ (k : ℕ). Able f t₁ k) (omega arith) before.able);
            blank = before.blank;
            long = before.long;
          }

      -- edges,
      pub safepoint-edges-ready : Range s n₁ b end × EdgesIn s b end × Blank (Within s edge_kind b end) n₁ × Able f t₂ (end - b)
      safepoint-edges-ready =
          let low = x.low in
          let middle = x.middle in
          let high = x.high in
          let mine =
          ready-less f (Whole without Within s (eqb 5) a b) (Within s edge_kind b end) end end ((a - suc place) + (1 + (end - b))) (end - b) t₂ n₁
          (λ j w. ((omega (arith, w.0), w.1, tt), λ z. omega (arith, w.0, z.1))) (omega arith) (omega arith) left₂ in
          (record { up = high; in_file = x.in_file; in_numbers = mine.long }, (λ q l m e. i.edges q (omega arith) m e), mine.blank, mine.able)

      module _ (t₃ : Tables) (n₂ : List ℕ) (edges : EdgesNoted s p.pointer true b end t₂ n₁ t₃ n₂) where
        e : EdgesNoted s pointer true b end t₂ n₁ t₃ n₂
        e = subst (λ (y : ℕ). EdgesNoted s y true b end t₂ n₁ t₃ n₂) walked₁.kept.pointer edges

        left₃ : Ready f (Within s (eqb 6) (place + 1) a) a (a - (place + 1)) t₃ n₂
        left₃ =
            let low = x.low in
            let middle = x.middle in
            let high = x.high in
            ready-less f ((Whole without Within s (eqb 5) a b) without Within s edge_kind b end) (Within s (eqb 6) (place + 1) a) end a ((a - suc place) + 1) (a - (place + 1)) t₃ n₂
            (λ j w. (((omega (arith, w.0), omega (arith, w.1), tt), λ z. omega (arith, w.1, z.0)), λ z. omega (arith, w.1, z.0))) (omega arith) (omega arith)
            (ready-then f (Whole without Within s (eqb 5) a b) (Within s edge_kind b end) (λ ns. edge_plans_at s ns end (edge_places s b end)) (for_each (edge_step f pointer true) (edges_between s b end)) end (end - b) ((a - suc place) + 1) ((a - suc place) + (1 + (end - b))) t₂ t₃ n₁ n₂ (omega arith) left₂ e)

        -- and arguments
        pub safepoint-uses-ready : Range s n₂ (place + 1) a × Good f t₃ (a - (place + 1))
        safepoint-uses-ready =
            let low = x.low in
            let middle = x.middle in
            let high = x.high in
            let in_file = x.in_file in
            run-ready s 6 (place + 1) a (omega arith) (omega arith) (a - (place + 1)) t₃ n₂ left₃ (omega arith)

        pub safepoint-done :
            (t₄ : Tables) (n₃ : List ℕ) → Walked f (use_at s t₃.progress.pointer 6) (place + 1) (a - (place + 1)) t₃ n₂ t₄ n₃
            → InstructionNoted s pointer (some vs) place end t₀ n₀ t₄ n₃
        safepoint-done t₄ n₃ walked =
            let low = x.low in
            let middle = x.middle in
            let high = x.high in
            let in_file = x.in_file in
            safepoint-noted s pointer place end a b x vs t₀ t₁ t₂ t₃ t₄ n₀ n₁ n₂ n₃ (d t₁ n₁ walked₁) r refl e
            (subst (λ (k : ℕ). UsesNoted s pointer 6 k a t₃ n₂ t₄ n₃) (add-one place)
            (uses-done s 6 (place + 1) a (omega arith) (omega arith) (a - (place + 1)) t₃ n₂ (λ e. omega (arith, e)) left₃ pointer (edges.kept.pointer ∙ walked₁.kept.pointer) t₄ n₃ walked))
