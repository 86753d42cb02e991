-- THE INSTRUCTIONS OF A BLOCK, the last one first: each from its own record to where the one behind it starts.
use Rattle.std.specs.Prelude.{ℕ, zero, suc, ◌+◌, ◌-◌, ◌*◌, ◌<◌, ◌≤◌, ◌≡◌, refl, Bool, true, false, List, [], ◌∷◌, ◌++◌, length, T, eqb}
use Rattle.std.proofs.Common.{sym, ap, ap₂, subst, ◌∙◌, arith, eq-eqb, ne_eqb}
use Rattle.std.proofs.Math.Option.{Option}
use Rattle.rules.specs.Limits.{row_words}
use Rattle.rules.specs.Lists.{keep, members, NumberSet}
use Rattle.rules.specs.Tree.{Instruction, Function}
use Rattle.rules.specs.Records.{encode, is_safepoint, kind, record_at, record_count}
use Rattle.rules.specs.File.{instruction_of, function_in}
use Rattle.rules.specs.Plan.{InstructionPlan, for_each_backward, plan_instruction}
use Rattle.lists.specs.Tests.{eq→eqb}
use Rattle.records.specs.Parts.{is_instruction}
use Rattle.graph.specs.Between.{between, between_none, between_more, length-between}
use Rattle.graph.specs.Sections.{place_if, places, first_or, first-bounds}
use Rattle.listing.specs.Across.{section_at}
use Rattle.listing.specs.Stepping.{heads_from, BlockRecords, heads-more, heads-fewer, instruction-at}
use Rattle.rows.specs.Rows.{rows, HasRow}
use Rattle.numbering.specs.Beside.{instruction_plan_at, instruction_plans_at}
use Rattle.planning.specs.Standing.{Tables, plan_of, Good, Kept}
use Rattle.planning_edges.specs.Edges.{EdgesIn}
use Rattle.spiller.specs.Instructions.{any_kind, list_if, InstructionNoted}
use Rattle.spiller.specs.InstructionSteps.{InstructionRecords, InstructionReady}
use Rattle.planning_edges.specs.Noted.{Within, Blank, Able, able-then, able-less, Noted, noted-none, noted-before}
use Rattle.planning_edges.specs.Spans.{places-parted}
use Rattle.planning_edges.specs.Stable.{Agree, mades-same, edges-same}

-- what is known of the edges of every instruction of the file
abbrev pub SoundEdges : List ℕ → Type 0
SoundEdges s = (place end : ℕ) → place < end → end ≤ record_count s → T (is_instruction (section_at s place end)) → EdgesIn s (suc place) end

-- WHAT IS READ beside instructions depends on the numbers there.
module _ (s ns ms : List ℕ) where
  plan-same : (p q : ℕ) → p < q → q ≤ record_count s → Agree (Within s any_kind p q) ns ms → instruction_plan_at s ns p q ≡ instruction_plan_at s ms p q
  plan-same p q l m same =
      let us = mades-same s ns ms 6 (suc p) q l m (λ i w. same i (omega (arith, w.0), w.1, tt)) in
      let rs = mades-same s ns ms 5 (suc p) q l m (λ i w. same i (omega (arith, w.0), w.1, tt)) in
      let es = edges-same s ns ms (suc p) q l m (λ i w. same i (omega (arith, w.0), w.1, tt)) in
      λ j. record { arguments = us j; results = rs j; edges = es j }

  plans-from :
      (n p q : ℕ) → p + n ≡ q → q ≤ record_count s → Agree (Within s any_kind p q) ns ms
      → instruction_plans_at s ns q (heads_from s p q) ≡ instruction_plans_at s ms q (heads_from s p q)
  plans-from zero p q e l same =
      let here : q ≡ p = omega arith in
      rw (here, between_none s p) refl
  plans-from (suc n) p q e l same =
      rw (between_more s p q (omega arith) l)
      (go (eqb 4 (kind (record_at s p))) (first-bounds (eqb 4) (suc p) q (between s (suc p) q) (omega (arith, length-between s (suc p) q l)))
      (plans-from n (suc p) q (omega arith) l (λ i w. same i (omega (arith, w.0), w.1, tt))))
    where
      next : ℕ
      next = first_or q (heads_from s (suc p) q)

      go : (b : Bool) → (suc p ≤ next) × (next ≤ q)
          → instruction_plans_at s ns q (heads_from s (suc p) q) ≡ instruction_plans_at s ms q (heads_from s (suc p) q)
          → instruction_plans_at s ns q (place_if b p (heads_from s (suc p) q)) ≡ instruction_plans_at s ms q (place_if b p (heads_from s (suc p) q))
      go true bounds later =
          ap₂ (λ (x : InstructionPlan) (xs : List InstructionPlan). x ∷ xs)
          (plan-same p next bounds.0 (omega (arith, bounds.1)) (λ i w. same i (w.0, omega (arith, w.1, bounds.1), tt))) later
      go false bounds later = later

  pub plans-same :
      (p q : ℕ) → p ≤ q → q ≤ record_count s → Agree (Within s any_kind p q) ns ms
      → instruction_plans_at s ns q (heads_from s p q) ≡ instruction_plans_at s ms q (heads_from s p q)
  plans-same p q u l same = plans-from (q - p) p q (omega arith) l same

-- INSTRUCTIONS WITH THE LISTS that rows give them, by number
module _ (s lists : List ℕ) (spilled : NumberSet) (end : ℕ) where
  abbrev pub row_list : ℕ → List ℕ
  row_list number = keep spilled (members (length (function_in s).values) (rows lists number))

  abbrev pub listed_at : ℕ → List ℕ → List (Instruction × Option (List ℕ))
  listed_at number [] = []
  listed_at number (p ∷ ps) =
      (instruction_of (section_at s p (first_or end ps)), list_if (is_safepoint (encode (record_at s p)).second) (row_list number)) ∷ listed_at (suc number) ps

  -- what is noted beside those from place i on, of which the first has this number
  abbrev pub InstructionsNoted : ℕ → ℕ → ℕ → Tables → List ℕ → Tables → List ℕ → Type 0
  InstructionsNoted pointer i number =
      Noted (function_in s) (Within s any_kind i end) (λ ns. instruction_plans_at s ns end (heads_from s i end))
      (for_each_backward (plan_instruction (function_in s) pointer) (listed_at number (heads_from s i end))) (end - i)

-- the last instruction before a place
pub record LastBefore (s : List ℕ) (front end r : ℕ) : Type 0 where
  pub low : front ≤ r
  pub high : r < end
  pub head : kind (record_at s r) ≡ 4
  pub behind : heads_from s (suc r) end ≡ []

module _ (s : List ℕ) (front end : ℕ) (m : end ≤ record_count s) where
  -- as a loop back finds it
  pub last-start : heads_from s end end ≡ []
  last-start = ap (places (eqb 4) end) (between_none s end)

  pub last-here : (i : ℕ) → front < i → i ≤ end → heads_from s i end ≡ [] → kind (record_at s (i - 1)) ≡ 4 → LastBefore s front end (i - 1)
  last-here i l u none head =
      let up : i ≡ suc (i - 1) = omega arith in
      record { low = omega arith; high = omega arith; head = head; behind = ap (λ (n : ℕ). heads_from s n end) (sym up) ∙ none }

  pub last-not : (i : ℕ) → front < i → i ≤ end → heads_from s i end ≡ [] → (kind (record_at s (i - 1)) ≡ 4 → ⊥) → heads_from s (i - 1) end ≡ []
  last-not i l u none other =
      let up : i ≡ suc (i - 1) = omega arith in
      heads-more s end m (i - 1) (omega arith)
      ∙ ap (λ (b : Bool). place_if b (i - 1) (heads_from s (suc (i - 1)) end)) (ne_eqb (kind (record_at s (i - 1))) 4 other)
      ∙ ap (λ (n : ℕ). heads_from s n end) (sym up) ∙ none

  -- there is one, if one stands first
  pub last_none : front < end → kind (record_at s front) ≡ 4 → heads_from s front end ≡ [] → ⊥
  last_none l head none =
      let one : place_if true front (heads_from s (suc front) end) ≡ [] =
      ap (λ (b : Bool). place_if b front (heads_from s (suc front) end)) (sym (eq-eqb (kind (record_at s front)) 4 head)) ∙ sym (heads-more s end m front l) ∙ none in
      omega (arith, ap length one)

-- THE WALK BACK over a block's records from place front on, where its first instruction starts
pub record Walk (s lists : List ℕ) (start front end behind : ℕ) : Type 0 where
  pub block : BlockRecords s start end
  pub low : start ≤ front
  pub high : front ≤ end
  pub first : front < end → kind (record_at s front) ≡ 4
  pub edges : SoundEdges s
  pub enough : length (heads_from s front end) ≤ behind
  pub in_lists : row_words * behind ≤ length lists

module _ (s lists : List ℕ) (spilled : NumberSet) (front end behind pointer : ℕ) (t : Tables) (numbers : List ℕ) where
  -- how far it has come: place i is an instruction's or the end, and those from there on are done
  pub record Back (i number : ℕ) (u : Tables) (ms : List ℕ) : Type 0 where
    pub low : front ≤ i
    pub high : i ≤ end
    pub stands : i ≡ first_or end (heads_from s i end)
    pub counted : number + length (heads_from s i end) ≡ behind
    pub noted : InstructionsNoted s lists spilled end pointer i number t numbers u ms

  -- at its end all are
  pub back_end :
      (i number : ℕ) (u : Tables) (ms : List ℕ) → Back i number u ms → i ≤ front
      → InstructionsNoted s lists spilled end pointer front (behind - length (heads_from s front end)) t numbers u ms
  back_end i number u ms h l =
      let low = h.low in
      let there : i ≡ front = omega arith in
      let count : number ≡ behind - length (heads_from s front end) = omega (arith, h.counted, ap (λ (n : ℕ). length (heads_from s n end)) there) in
      subst (λ (n : ℕ). InstructionsNoted s lists spilled end pointer n (behind - length (heads_from s front end)) t numbers u ms) there
      (subst (λ (n : ℕ). InstructionsNoted s lists spilled end pointer i n t numbers u ms) count h.noted)

module _ (s lists : List ℕ) (spilled : NumberSet) (start front end behind : ℕ) (x : Walk s lists start front end behind) (pointer : ℕ) (t : Tables) (numbers : List ℕ) where
  abbrev f : Function
  f = function_in s

  abbrev BackTo : ℕ → ℕ → Tables → List ℕ → Type 0
  BackTo = Back s lists spilled front end behind pointer t numbers

  pub back_start : BackTo end behind t numbers
  back_start =
      let none : heads_from s end end ≡ [] = ap (places (eqb 4) end) (between_none s end) in
      record {
        low = x.high;
        high = omega arith;
        stands = sym (ap (first_or end) none);
        counted = omega (arith, ap length none);
        noted =
            noted-none f (Within s any_kind end end) (λ ns. instruction_plans_at s ns end (heads_from s end end))
            (for_each_backward (plan_instruction f pointer) (listed_at s lists spilled end behind (heads_from s end end))) (end - end) t numbers
            (rw none refl);
      }

  module _ (i number : ℕ) (l : front < i) (u : Tables) (ms : List ℕ) (h : BackTo i number u ms) where
    -- an instruction stands first
    pub first-there : kind (record_at s front) ≡ 4
    first-there = let high = h.high in x.first (omega arith)

    module _ (place : ℕ) (last : LastBefore s front i place) where
      in_file : end ≤ record_count s
      in_file = x.block.inside

      none_between : heads_from s (suc place) end ≡ heads_from s i end
      none_between =
          places-parted s (eqb 4) (suc place) i end last.high h.high in_file ∙ ap (λ (ps : List ℕ). ps ++ heads_from s i end) last.behind

      pub heads-here : heads_from s place end ≡ place ∷ heads_from s i end
      heads-here =
          let high = h.high in
          let near = last.high in
          heads-more s end in_file place (omega arith)
          ∙ ap (λ (b : Bool). place_if b place (heads_from s (suc place) end)) (eq-eqb (kind (record_at s place)) 4 last.head)
          ∙ ap (λ (ps : List ℕ). place ∷ ps) none_between

      fewer : length (heads_from s place end) ≤ length (heads_from s front end)
      fewer =
          let high = h.high in
          let near = last.high in
          heads-fewer s end in_file front place last.low (omega arith)

      -- the instruction before place i may be planned,
      pub back-number : 0 < number
      back-number = omega (arith, h.counted, ap length heads-here, fewer, x.enough)

      pub back-ready :
          Blank (Within s any_kind front end) numbers → end ≤ length numbers → Able f t (end - front)
          → HasRow lists (number - 1) × InstructionRecords s place i × InstructionReady s place i u ms
      back-ready blank room able =
          let high = h.high in
          let near = last.high in
          let low = last.low in
          let within = in_file in
          let shape =
          subst (λ (q : ℕ). T (is_instruction (section_at s place q))) (sym (h.stands ∙ ap (first_or end) (sym none_between)))
          (instruction-at s end in_file start x.block place (omega (arith, x.low)) (omega arith) (eq→eqb last.head)) in
          let parts : end - front ≡ (end - i) + (i - front) = omega arith in (
            omega (arith, x.in_lists, h.counted, back-number),
            record { inside = near; in_file = omega arith; shape = shape; edges = x.edges place i near (omega arith) shape },
            record {
              able =
                  able-less f u (i - front) (i - place) (omega arith)
                  (able-then f t u (end - i) (i - front) h.noted.kept h.noted.blocks (subst (λ (n : ℕ). Able f t n) parts able));
              blank = λ j w. h.noted.same j (λ z. omega (arith, w.1, z.0)) ∙ blank j (omega (arith, w.0), omega (arith, w.1), tt);
              long = omega (arith, h.noted.long);
            },
          )

      -- and is done then
      pub back-turn :
          pointer ≡ t.progress.pointer → Able f t (end - front) → (given : ℕ) → given ≡ u.progress.given → (w : Tables) (ks : List ℕ)
          → InstructionNoted s u.progress.pointer (list_if (is_safepoint (encode (record_at s place)).second) (keep spilled (members given (rows lists (number - 1))))) place i u ms w ks
          → BackTo place (number - 1) w ks
      back-turn own able given counts w ks step =
          let high = h.high in
          let near = last.high in
          let low = last.low in
          let within = in_file in
          let parts : end - front ≡ (end - i) + (i - front) = omega arith in
          let count : (end - i) + (i - place) ≡ end - place = omega arith in
          let next : suc (number - 1) ≡ number = omega (arith, back-number) in
          let all : given ≡ length f.values = counts ∙ (h.noted.kept.good (i - front) (subst (λ (n : ℕ). Good f t n) parts able.good)).counted in
          let same : u.progress.pointer ≡ pointer = h.noted.kept.pointer ∙ sym own in
          let this : InstructionNoted s pointer (list_if (is_safepoint (encode (record_at s place)).second) (row_list s lists spilled end (number - 1))) place i u ms w ks =
          subst (λ (v : ℕ). InstructionNoted s pointer (list_if (is_safepoint (encode (record_at s place)).second) (keep spilled (members v (rows lists (number - 1))))) place i u ms w ks) all
          (subst (λ (v : ℕ). InstructionNoted s v (list_if (is_safepoint (encode (record_at s place)).second) (keep spilled (members given (rows lists (number - 1))))) place i u ms w ks) same step) in
          let both =
          noted-before f (Within s any_kind i end) (Within s any_kind place i) (Within s any_kind place end) (plan_instruction f pointer)
          (instruction_of (section_at s place i), list_if (is_safepoint (encode (record_at s place)).second) (row_list s lists spilled end (number - 1)))
          (listed_at s lists spilled end number (heads_from s i end)) (λ ns. instruction_plan_at s ns place i) (λ ns. instruction_plans_at s ns end (heads_from s i end))
          (end - i) (i - place) t u w numbers ms ks h.noted this (λ j z. (omega (arith, z.0), z.1, tt)) (λ j z. (z.0, omega (arith, z.1), tt))
          (plans-same s ks ms i end high in_file (λ j z. this.same j (λ y. omega (arith, z.0, y.1)))) in
          record {
            low = low;
            high = omega arith;
            stands = sym (ap (first_or end) heads-here);
            counted = omega (arith, h.counted, ap length heads-here, back-number);
            noted =
                record {
                  answer =
                      ap (λ (ps : List ℕ). (instruction_plans_at s ks end ps, plan_of f w)) heads-here
                      ∙ ap (λ (q : ℕ). (instruction_plan_at s ks place q ∷ instruction_plans_at s ks end (heads_from s i end), plan_of f w)) (sym h.stands)
                      ∙ both.answer
                      ∙ ap₂ (λ (q k : ℕ). for_each_backward (plan_instruction f pointer) ((instruction_of (section_at s place q), list_if (is_safepoint (encode (record_at s place)).second) (row_list s lists spilled end (number - 1))) ∷ listed_at s lists spilled end k (heads_from s i end)) (plan_of f t)) h.stands (sym next)
                      ∙ ap (λ (ps : List ℕ). for_each_backward (plan_instruction f pointer) (listed_at s lists spilled end (number - 1) ps) (plan_of f t)) (sym heads-here);
                  same = both.same;
                  kept = subst (λ (n : ℕ). Kept f n t w) count both.kept;
                  blocks = omega (arith, both.blocks);
                  long = both.long;
                };
          }
