-- ONE BLOCK: slots for what is live out of it, its instructions, its parameters.
use Rattle.std.specs.Prelude.{ℕ, suc, ◌+◌, ◌-◌, ◌*◌, ◌<◌, ◌≤◌, ◌≡◌, refl, get_or, eqb}
use Rattle.std.proofs.Common.{sym, ap₂, ◌∙◌}
use Rattle.std.proofs.Math.Path.{ap, subst}
use Rattle.std.proofs.Math.Bool.{false}
use mathlib.Core.List.{List, [], ◌∷◌, ◌++◌, map, append-nil}
use native.Mathlib.Omega.{arith}
use Rattle.std.proofs.Math.ListN.{length}
use Rattle.std.proofs.Math.Dec.{T, eqb→eq}
use Rattle.rules.specs.Limits.{row_words}
use Rattle.rules.specs.Lists.{has, keep, members}
use Rattle.rules.specs.Tree.{Function}
use Rattle.rules.specs.Records.{encode, kind, record_at}
use Rattle.rules.specs.File.{followers, follows, of_kind, named, function_in}
use Rattle.rules.specs.Graph.{block_at}
use Rattle.rules.specs.Liveness.{process, listed_instructions, is_spilled}
use Rattle.rules.specs.Plan.{Plan, InstructionPlan, for_each, for_each_backward, plan_slot, plan_definition, plan_instruction, plan_block}
use Rattle.rules.specs.declared.Record.{Record}
use Rattle.rules.specs.declared.Words.{Words}
use Rattle.lists.specs.Tests.{and_left, or_elim, chosen}
use Rattle.records.specs.InOrder.{chain}
use Rattle.records.specs.Kinds.{Kinds, of_kind-append}
use Rattle.records.specs.Leading.{parameters-lead}
use Rattle.graph.specs.Between.{between, between_more}
use Rattle.graph.specs.Blocks.{place_of, block_at-parameters}
use Rattle.graph.specs.Sections.{places}
use Rattle.listing.specs.Across.{between-parted}
use Rattle.listing.specs.Parted.{run_end, run-parts, chain-past, of_kind-other}
use Rattle.listing.specs.Stepping.{heads_from, BlockRecords}
use Rattle.rows.specs.Rows.{rows, HasRow}
use Rattle.numbering.specs.Beside.{made_at, mades_between, instruction_plans_at, block_plan_at}
use Rattle.planning.specs.Operands.{Range, Reading, define_at}
use Rattle.planning.specs.Standing.{Progress, Tables, tables, plan_of, Good, Kept, Ran, Walked, Slotted}
use Rattle.planning.specs.SlotsGiven.{slotted-ran}
use Rattle.planning.specs.Walking.{kept-none, kept_more}
use Rattle.spiller.specs.Instructions.{any_kind}
use Rattle.spiller.specs.InstructionSteps.{run-ready, definitions-done}
use Rattle.planning_edges.specs.Noted.{Within, Able, able-less, able-then, Noted, Ready, ◌without◌, ready-then, ready-less}
use Rattle.spiller.specs.RunPlaces.{places-none}
use Rattle.planning_edges.specs.Spans.{places-parted}
use Rattle.planner.specs.Backward.{SoundEdges, listed_at, InstructionsNoted, Walk, plans-same}

-- what is noted beside a block's records
abbrev pub BlockNoted : List ℕ → ℕ → ℕ → Tables → List ℕ → Tables → List ℕ → Type 0
BlockNoted s pointer b =
    Noted (function_in s) (Within s any_kind (place_of s b) (place_of s (suc b))) (λ ns. block_plan_at s ns b) (plan_block (function_in s) pointer b)
    (place_of s (suc b) - place_of s b)

-- what planning it asks for
abbrev pub BlockReady : List ℕ → ℕ → Tables → List ℕ → Type 0
BlockReady s b = Ready (function_in s) (Within s any_kind (place_of s b) (place_of s (suc b))) (place_of s (suc b)) (place_of s (suc b) - place_of s b)

-- WHAT IS KNOWN OF A BLOCK whose records stand from place start on and before place end: its live-out is a row, and so are the
-- lists of its instructions, up to the number behind its last one's.
pub record BlockGiven (s lists outs : List ℕ) (b behind start end : ℕ) : Type 0 where
  pub starts : start ≡ suc (place_of s b)
  pub ends : end ≡ place_of s (suc b)
  pub in_file : b < length (function_in s).blocks
  pub records : BlockRecords s start end
  pub edges : SoundEdges s
  pub live : rows outs b ≡ (process (function_in s)).outs b
  pub in_outs : HasRow outs b
  pub enough : length (heads_from s start end) ≤ behind
  pub in_lists : row_words * behind ≤ length lists
  pub listed : listed_at s lists (is_spilled (function_in s)) end (behind - length (heads_from s start end)) (heads_from s start end) ≡ listed_instructions (function_in s) b

module _ (s lists outs spilled : List ℕ) (b behind start end : ℕ) (x : BlockGiven s lists outs b behind start end) (r : Reading s spilled) (front : ℕ)
    (is : front ≡ run_end s 3 start end) where
  abbrev f : Function
  f = function_in s

  parts : (start ≤ front) × (front ≤ end) × Kinds (λ j. eqb j 3) (between s start front) × (of_kind 3 (between s front end) ≡ [])
  parts =
      subst (λ (n : ℕ). (start ≤ n) × (n ≤ end) × Kinds (λ j. eqb j 3) (between s start n) × (of_kind 3 (between s n end) ≡ [])) (sym is)
      (run-parts s 3 start end x.records.ascends x.records.inside (parameters-lead (between s start end) x.records.body))

  split : between s start end ≡ between s start front ++ between s front end
  split = let low = parts.0 in between-parted s (front - start) start front end (omega arith) parts.1 x.records.inside

  -- the first record that is no parameter is an instruction
  first-instruction : front < end → kind (record_at s front) ≡ 4
  unfolding follows followers
  first-instruction l =
      let past =
      chain-past 3 (λ i. has i (2 ∷ 3 ∷ [])) tt 2 (between s start front) (between s front end) tt parts.2
      (subst (λ (rs : List Record). T (chain 2 rs)) split x.records.body.0) in
      let more = between_more s front end l x.records.inside in
      let follow : T (follows past.0 (kind (record_at s front))) =
      and_left (follows past.0 (kind (record_at s front))) (chain (kind (record_at s front)) (between s (suc front) end)) (subst (λ (rs : List Record). T (chain past.0 rs)) more past.2) in
      let three : T (eqb (kind (record_at s front)) 3) → ⊥ =
      λ e.
      omega (
        arith,
        ap length (sym (chosen (eqb (kind (record_at s front)) 3) (encode (record_at s front) ∷ of_kind 3 (between s (suc front) end)) (of_kind 3 (between s (suc front) end)) e)
            ∙ ap (of_kind 3) (sym more) ∙ parts.3),
      ) in
      eqb→eq (kind (record_at s front)) 4
      (or_elim (eqb (kind (record_at s front)) 3) (has (kind (record_at s front)) (4 ∷ [])) (λ e. absurd (three e))
      (λ e. or_elim (eqb (kind (record_at s front)) 4) false (λ y. y) (λ y. absurd y) e) (either past.0 past.1 (kind (record_at s front)) follow))
    where
      either : (i : ℕ) → T (has i (2 ∷ 3 ∷ [])) → (k : ℕ) → T (has k (get_or followers i [])) → T (has k (3 ∷ 4 ∷ []))
      either i h k =
          or_elim {C = T (has k (get_or followers i [])) → T (has k (3 ∷ 4 ∷ []))} (eqb i 2) (has i (3 ∷ []))
          (λ e. subst (λ (j : ℕ). T (has k (get_or followers j [])) → T (has k (3 ∷ 4 ∷ []))) (sym (eqb→eq i 2 e)) (λ y. y))
          (λ e.
          or_elim {C = T (has k (get_or followers i [])) → T (has k (3 ∷ 4 ∷ []))} (eqb i 3) false
          (λ e. subst (λ (j : ℕ). T (has k (get_or followers j [])) → T (has k (3 ∷ 4 ∷ []))) (sym (eqb→eq i 3 e)) (λ y. y)) (λ y. absurd y) e)
          h

  -- its instructions start there, and its parameters stand before
  heads-there : heads_from s start end ≡ heads_from s front end
  heads-there =
      places-parted s (eqb 4) start front end parts.0 parts.1 x.records.inside
      ∙ ap (λ (ps : List ℕ). ps ++ heads_from s front end) (places-none 4 start (between s start front) (of_kind-other 4 3 tt (between s start front) parts.2))

  parameters-are : named 3 (between s start front) ≡ (block_at f b).parameters
  parameters-are =
      sym (block_at-parameters s b x.in_file
      ∙ ap₂ (λ (p q : ℕ). named 3 (between s p q)) (sym x.starts) (sym x.ends)
      ∙ ap (map (λ (w : Words). w.second))
      (ap (of_kind 3) split ∙ of_kind-append 3 (between s start front) (between s front end)
      ∙ ap (λ (ws : List Words). of_kind 3 (between s start front) ++ ws) parts.3 ∙ append-nil (of_kind 3 (between s start front))))

  parameter-places : places (eqb 3) start (between s start end) ≡ places (eqb 3) start (between s start front)
  parameter-places =
      places-parted s (eqb 3) start front end parts.0 parts.1 x.records.inside
      ∙ ap (λ (ps : List ℕ). places (eqb 3) start (between s start front) ++ ps) (places-none 3 front (between s front end) parts.3)
      ∙ append-nil (places (eqb 3) start (between s start front))

  -- a block's plan by its runs
  block_read :
      (ns : List ℕ) → block_plan_at s ns b ≡ record { parameters = mades_between s ns 3 start front; instructions = instruction_plans_at s ns end (heads_from s front end) }
  block_read ns =
      ap₂ (λ (p q : ℕ). record { parameters = mades_between s ns 3 p q; instructions = instruction_plans_at s ns q (heads_from s p q) }) (sym x.starts) (sym x.ends)
      ∙ (λ j. record { parameters = map (made_at s ns) (parameter-places j); instructions = instruction_plans_at s ns end (heads-there j) })

  -- THE STEPS
  module _ (asked steps sizes : List ℕ) (p : Progress) (n₀ : List ℕ) (ready : BlockReady s b (tables asked steps sizes p) n₀) where
    abbrev t₀ : Tables
    t₀ = tables asked steps sizes p

    abbrev room : ℕ
    room = place_of s (suc b) - place_of s b

    total : 0 + (1 + ((end - front) + (front - start))) ≡ room
    total =
        let low = parts.0 in
        let high = parts.1 in
        omega (arith, x.starts, x.ends)

    -- slots for what is live out,
    module _ (asked' steps' : List ℕ) (n : ℕ) (slotted : Slotted (keep (rows spilled 0) (members p.given (rows outs b))) asked steps p.steps asked' steps' n) where
      abbrev t₁ : Tables
      t₁ = tables asked' steps' sizes (record { pointer = p.pointer; given = p.given; made = p.made; blocks = p.blocks; steps = n })

      slots : Ran f (for_each (plan_slot f p.pointer) (keep (rows spilled 0) (members p.given (rows outs b)))) 0 t₀ t₁
      slots = slotted-ran f p.pointer (keep (rows spilled 0) (members p.given (rows outs b))) asked steps sizes p room ready.able.good asked' steps' n slotted

      asks-are : keep (rows spilled 0) (members p.given (rows outs b)) ≡ keep (is_spilled f) (members (length f.values) ((process f).outs b))
      asks-are = λ j. keep (r.is_row j) (members (ready.able.good.counted j) (x.live j))

      left₁ : Ready f (Within s any_kind start end) end ((end - front) + (front - start)) t₁ n₀
      left₁ =
          let low = parts.0 in
          let high = parts.1 in
          record {
            able =
                able-less f t₁ room ((end - front) + (front - start)) (omega (arith, x.starts, x.ends))
                (able-then f t₀ t₁ 0 room slots.kept (omega arith) (subst (λ (k : ℕ). Able f t₀ k) (omega arith) ready.able));
            blank = λ j w. ready.blank j (omega (arith, w.0, x.starts), omega (arith, w.1, x.ends), tt);
            long = omega (arith, ready.long, x.ends);
          }

      -- instructions, the last one first,
      pub block-walk : Walk s lists start front end behind × Ready f (Within s any_kind front end) end (end - front) t₁ n₀
      block-walk =
          let low = parts.0 in
          let high = parts.1 in (
            record {
              block = x.records;
              low = low;
              high = high;
              first = first-instruction;
              edges = x.edges;
              enough = omega (arith, x.enough, ap length heads-there);
              in_lists = x.in_lists;
            },
            ready-less f (Within s any_kind start end) (Within s any_kind front end) end end ((end - front) + (front - start)) (end - front) t₁ n₀
                (λ j w. (omega (arith, w.0), w.1, tt)) (omega arith) (omega arith) left₁,
          )

      module _ (t₂ : Tables) (n₁ : List ℕ)
          (i : InstructionsNoted s lists (rows spilled 0) end p.pointer front (behind - length (heads_from s front end)) t₁ n₀ t₂ n₁) where
        left₂ : Ready f (Within s (eqb 3) start front) front (front - start) t₂ n₁
        left₂ =
            let low = parts.0 in
            let high = parts.1 in
            ready-less f (Within s any_kind start end without Within s any_kind front end) (Within s (eqb 3) start front) end front (front - start) (front - start) t₂ n₁
            (λ j w. ((w.0, omega (arith, w.1), tt), λ z. omega (arith, w.1, z.0))) high (omega arith)
            (ready-then f (Within s any_kind start end) (Within s any_kind front end) (λ ns. instruction_plans_at s ns end (heads_from s front end)) (for_each_backward (plan_instruction f p.pointer) (listed_at s lists (rows spilled 0) end (behind - length (heads_from s front end)) (heads_from s front end))) end (end - front) (front - start) ((end - front) + (front - start)) t₁ t₂ n₀ n₁ refl left₁ i)

        -- and parameters
        pub parameters-ready : Range s n₁ start front × Good f t₂ (front - start)
        parameters-ready =
            let high = parts.1 in
            let inside = x.records.inside in
            run-ready s 3 start front parts.0 (omega arith) (front - start) t₂ n₁ left₂ (omega arith)

        pub block-done : (t₃ : Tables) (n₂ : List ℕ) → Walked f (define_at s t₂.progress.pointer 3) start (front - start) t₂ n₁ t₃ n₂ → BlockNoted s p.pointer b t₀ n₀ t₃ n₂
        block-done t₃ n₂ walked =
            let low = parts.0 in
            let high = parts.1 in
            let inside = x.records.inside in
            let d = definitions-done s 3 start front low (omega arith) (front - start) t₂ n₁ (λ e. omega (arith, e)) left₂ p.pointer i.kept.pointer t₃ n₂ walked in
            let lists-are : listed_at s lists (rows spilled 0) end (behind - length (heads_from s front end)) (heads_from s front end) ≡ listed_instructions f b =
            (λ j. listed_at s lists (r.is_row j) end (behind - length (sym heads-there j)) (sym heads-there j)) ∙ x.listed in
            let is' : instruction_plans_at s n₂ end (heads_from s front end) ≡ instruction_plans_at s n₁ end (heads_from s front end) =
            plans-same s n₂ n₁ front end high inside (λ j w. d.same j (λ z. omega (arith, w.0, z.1))) in
            record {
              answer =
                  (λ j. (block_read n₂ j, plan_of f t₃))
                  ∙ (λ j. (record { parameters = (d.answer j).0; instructions = is' j }, (d.answer j).1))
                  ∙ ap
                  (λ (y : List InstructionPlan × Plan).
                  let z = for_each (plan_definition f p.pointer) (named 3 (between s start front)) y.1 in
                  (record { parameters = z.0; instructions = y.0 }, z.1))
                  i.answer
                  ∙ ap
                  (λ (q : Plan).
                  let y = for_each_backward (plan_instruction f p.pointer) (listed_at s lists (rows spilled 0) end (behind - length (heads_from s front end)) (heads_from s front end)) q in
                  let z = for_each (plan_definition f p.pointer) (named 3 (between s start front)) y.1 in
                  (record { parameters = z.0; instructions = y.0 }, z.1))
                  slots.state
                  ∙ (λ j.
                  let q = (for_each (plan_slot f p.pointer) (asks-are j) (plan_of f t₀)).1 in
                  let y = for_each_backward (plan_instruction f p.pointer) (lists-are j) q in
                  let z = for_each (plan_definition f p.pointer) (parameters-are j) y.1 in
                  (record { parameters = z.0; instructions = y.0 }, z.1));
              same =
                  λ j out.
                  d.same j (λ z. out (omega (arith, z.0, x.starts), omega (arith, z.1, x.ends), tt))
                  ∙ i.same j (λ z. out (omega (arith, z.0, x.starts), omega (arith, z.1, x.ends), tt));
              kept =
                  subst (λ (k : ℕ). Kept f k t₀ t₃) total
                  (kept_more f 0 (1 + ((end - front) + (front - start))) t₀ t₁ t₃ slots.kept
                  (kept_more f 1 ((end - front) + (front - start)) t₁ t₁ t₃ (kept-none f 1 t₁)
                  (kept_more f (end - front) (front - start) t₁ t₂ t₃ i.kept d.kept)));
              blocks = omega (arith, i.blocks, d.blocks, total);
              long = d.long ∙ i.long;
            }
