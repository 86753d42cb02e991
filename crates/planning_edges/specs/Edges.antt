-- THE EDGES OF AN INSTRUCTION, one after the other. At a safepoint each gets a landing if it passes a spilled value; else its
-- spilled values are used.
use Rattle.std.specs.Prelude.{ℕ, suc, ◌+◌, ◌-◌, ◌<◌, ◌≤◌, ◌≡◌, refl, Bool, true, false, cond, List, [], ◌∷◌, ◌++◌, map, length, get_or, T, eqb}
use Rattle.std.proofs.Common.{sym, ap₂, subst, ◌∙◌, arith, add-one}
use Rattle.std.proofs.Math.Path.{ap}
use Rattle.std.proofs.Math.Option.{none}
use Rattle.std.proofs.lemmas.List.{length-map}
use Rattle.rules.specs.Tree.{Edge, Function}
use Rattle.rules.specs.Records.{kind, record_at, record_count}
use Rattle.rules.specs.File.{of_kind, edge_of, function_in}
use Rattle.rules.specs.Liveness.{is_spilled}
use Rattle.rules.specs.Plan.{Plan, Made, EdgePlan, Planning, pure, for_each, plan_edge, plan_landing, plan_safepoint_edge}
use Rattle.lists.specs.Maps.{map-append}
use Rattle.records.specs.Parts.{argument}
use Rattle.graph.specs.Between.{between}
use Rattle.graph.specs.Sections.{places, sections_at}
use Rattle.numbering.specs.Beside.{made, mades_between, edge_plan_at, edge_plans_at}
use Rattle.planning.specs.Standing.{Tables, plan_of, Kept, Walked}
use Rattle.planning.specs.Operands.{use_at}
use Rattle.planning.specs.Walking.{kept-none, kept_more}
use Rattle.planning.specs.Marks.{marks}
use Rattle.planning_edges.specs.Landings.{edge_kind, edge_at, EdgeRecords, argument-in}
use Rattle.planning_edges.specs.Noted.{Within, Blank, blank-kept, Able, able-less, able-then, Noted, noted-none, noted_more}
use Rattle.planning_edges.specs.Passing.{passing}
use Rattle.planning_edges.specs.ReadBack.{length-places, marks-read, edge-uses-noted}
use Rattle.planning_edges.specs.Spans.{edge_places, next_edge_place, next-bounds, next-is-edge, none-before-next, edge-places-next, sections-next, edge-plans-next}
use Rattle.planning_edges.specs.Stable.{edges-same}

-- an edge's step, by whether its instruction is a safepoint
abbrev pub edge_step : Function → ℕ → Bool → Edge → Planning EdgePlan
edge_step f pointer true = plan_safepoint_edge f pointer
edge_step f pointer false = plan_edge f pointer

-- it is made, and read off the numbers beside the edge
abbrev pub EdgeNoted : List ℕ → ℕ → Bool → ℕ → ℕ → Tables → List ℕ → Tables → List ℕ → Type 0
EdgeNoted s pointer safepoint place end =
    Noted (function_in s) (Within s edge_kind place end) (λ ns. edge_plan_at s ns place end) (edge_step (function_in s) pointer safepoint (edge_at s place end)) (end - place)

marks-nones : {A : Type 0} (ps : List ℕ) (xs : List A) (numbers : List ℕ) → marks ps (map (λ _. none) xs) numbers ≡ numbers
marks-nones [] xs numbers = refl
marks-nones (p ∷ ps) [] numbers = refl
marks-nones (p ∷ ps) (x ∷ xs) numbers = marks-nones ps xs numbers

-- where nothing is noted none is read
pub blank-read :
    {A : Type 0} (s numbers : List ℕ) (k p q : ℕ) (xs : List A) → p ≤ q → q ≤ record_count s → length xs ≡ length (of_kind k (between s p q))
    → Blank (Within s (eqb k) p q) numbers → q ≤ length numbers → mades_between s numbers k p q ≡ map (λ _. none) xs
blank-read s numbers k p q xs u l long blank room =
    sym (ap (λ (ns : List ℕ). mades_between s ns k p q) (marks-nones (places (eqb k) p (between s p q)) xs numbers))
    ∙ marks-read s k (q - p) p q (omega arith) l (map (λ _. none) xs) numbers
    (length-map xs (λ _. none) ∙ long ∙ sym (length-places k p (between s p q))) blank room

module _ (s : List ℕ) (place end : ℕ) (e : EdgeRecords s place end) where
  abbrev f : Function
  f = function_in s

  abbrev edge : Edge
  edge = edge_at s place end

  -- one edge by whether it passes a spilled value
  abbrev chosen : Bool → ℕ → Plan → EdgePlan × Plan
  chosen b pointer p = cond b (plan_landing f pointer edge) (pure (record { landing = none; arguments = map (λ _. none) edge.arguments })) p

  chosen_by : (b : Bool) (pointer : ℕ) (p : Plan) → passing (is_spilled f) (between s (place + 1) end) ≡ b → chosen b pointer p ≡ plan_safepoint_edge f pointer edge p
  unfolding passing
  chosen_by b pointer p test =
      ap (λ (c : Bool). chosen c pointer p) (sym test) ∙ ap (λ (n : ℕ). chosen (passing (is_spilled f) (between s n end)) pointer p) (add-one place)

  -- it does: the landing is its step,
  pub edge-landed :
      (pointer : ℕ) (t : Tables) (numbers : List ℕ) (t' : Tables) (numbers' : List ℕ)
      → Noted f (Within s edge_kind place end) (λ ns. edge_plan_at s ns place end) (plan_landing f pointer edge) (end - place) t numbers t' numbers'
      → passing (is_spilled f) (between s (place + 1) end) ≡ true → EdgeNoted s pointer true place end t numbers t' numbers'
  edge-landed pointer t numbers t' numbers' a test =
      record {
        answer = a.answer ∙ chosen_by true pointer (plan_of f t) test;
        same = a.same;
        kept = a.kept;
        blocks = a.blocks;
        long = a.long;
      }

  -- or not: nothing is made
  pub edge-unlanded :
      (pointer : ℕ) (t : Tables) (numbers : List ℕ) → Blank (Within s edge_kind place end) numbers → end ≤ length numbers
      → passing (is_spilled f) (between s (place + 1) end) ≡ false → EdgeNoted s pointer true place end t numbers t numbers
  edge-unlanded pointer t numbers blank room test =
      let few = e.inside in
      noted-none f (Within s edge_kind place end) (λ ns. edge_plan_at s ns place end) (plan_safepoint_edge f pointer edge) (end - place) t numbers
      (ap₂ (λ (l : Made) (xs : List Made). (record { landing = l; arguments = xs }, plan_of f t))
      (ap made (blank place (omega arith, omega arith, subst (λ (j : ℕ). T (edge_kind j)) (sym e.head) tt)))
      (blank-read s numbers 8 (suc place) end edge.arguments few e.in_file (length-map (of_kind 8 (between s (suc place) end)) argument)
      (λ i w. blank i (argument-in s place end i w)) room)
      ∙ chosen_by false pointer (plan_of f t) test)

  -- and where the instruction is no safepoint its arguments are used
  pub edge-used :
      (pointer : ℕ) (t : Tables) (numbers : List ℕ) → Blank (Within s edge_kind place end) numbers → end ≤ length numbers
      → (t' : Tables) (numbers' : List ℕ) → Walked f (use_at s pointer 8) (place + 1) (end - (place + 1)) t numbers t' numbers'
      → EdgeNoted s pointer false place end t numbers t' numbers'
  edge-used pointer t numbers blank room t' numbers' walked =
      let few = e.inside in
      let count : 1 + (end - suc place) ≡ end - place = omega arith in
      let a =
      edge-uses-noted s pointer 8 (suc place) end few e.in_file t t' numbers numbers' (λ i w. blank i (argument-in s place end i w)) room refl
      (subst (λ (n : ℕ). Walked f (use_at s pointer 8) n (end - n) t numbers t' numbers') (add-one place) walked) in
      let here : get_or numbers' place 0 ≡ 0 =
      a.same place (λ w. omega (arith, w.0)) ∙ blank place (omega arith, omega arith, subst (λ (j : ℕ). T (edge_kind j)) (sym e.head) tt) in
      record {
        answer =
            ap₂ (λ (l : Made) (r : List Made × Plan). (record { landing = l; arguments = r.0 }, r.1)) (ap made here) a.answer;
        same = λ i out. a.same i (λ w. out (argument-in s place end i w));
        kept = subst (λ (n : ℕ). Kept f n t t') count (kept_more f 1 (end - suc place) t t t' (kept-none f 1 t) a.kept);
        blocks = omega (arith, a.blocks);
        long = a.long;
      }

-- ALL OF THEM. What is known of each edge among records that end before place end,
abbrev pub EdgesIn : List ℕ → ℕ → ℕ → Type 0
EdgesIn s start end = (place : ℕ) → start ≤ place → place < end → kind (record_at s place) ≡ 7 → EdgeRecords s place (next_edge_place s (suc place) end)

-- the edges between two places,
abbrev pub edges_between : List ℕ → ℕ → ℕ → List Edge
edges_between s p q = map edge_of (sections_at s q (edge_places s p q))

-- and what is noted beside them
abbrev pub EdgesNoted : List ℕ → ℕ → Bool → ℕ → ℕ → Tables → List ℕ → Tables → List ℕ → Type 0
EdgesNoted s pointer safepoint p q =
    Noted (function_in s) (Within s edge_kind p q) (λ ns. edge_plans_at s ns q (edge_places s p q)) (for_each (edge_step (function_in s) pointer safepoint) (edges_between s p q)) (q - p)

module _ (s : List ℕ) (pointer : ℕ) (safepoint : Bool) (start : ℕ) (t : Tables) (numbers : List ℕ) where
  -- none stands before the first
  edges-start : (end : ℕ) → start ≤ end → end ≤ record_count s → EdgesNoted s pointer safepoint start (next_edge_place s start end) t numbers t numbers
  edges-start end u l =
      let next = next_edge_place s start end in
      noted-none (function_in s) (Within s edge_kind start next) (λ ns. edge_plans_at s ns next (edge_places s start next)) (for_each (edge_step (function_in s) pointer safepoint) (edges_between s start next)) (next - start) t numbers
      (rw (none-before-next s start end u l) refl)

  -- and none stands in front of the place itself
  pub edges_none : start ≤ record_count s → EdgesNoted s pointer safepoint start start t numbers t numbers
  edges_none l =
      let bounds = next-bounds s start start (omega arith) l in
      let here : next_edge_place s start start ≡ start = omega (arith, bounds.0, bounds.1) in
      subst (λ (n : ℕ). EdgesNoted s pointer safepoint start n t numbers t numbers) here (edges-start start (omega arith) l)

  -- one edge more
  edges_more :
      (i end : ℕ) → start ≤ i → i < end → end ≤ record_count s → kind (record_at s i) ≡ 7 → (u w : Tables) (ms ks : List ℕ)
      → EdgesNoted s pointer safepoint start i t numbers u ms → EdgeNoted s pointer safepoint i (next_edge_place s (suc i) end) u ms w ks
      → EdgesNoted s pointer safepoint start (next_edge_place s (suc i) end) t numbers w ks
  edges_more i end up l m edge u w ms ks a b =
      let next = next_edge_place s (suc i) end in
      let bounds = next-bounds s (suc i) end l m in
      let count : (i - start) + (next - i) ≡ next - start = omega (arith, bounds.0) in
      let grown = edge-places-next s start i end up l m edge in
      let many : edges_between s start next ≡ edges_between s start i ++ (edge_at s i next ∷ []) =
      ap (λ (ps : List ℕ). map edge_of (sections_at s next ps)) grown
      ∙ ap (map edge_of) (sections-next s next i (edge_places s start i))
      ∙ map-append edge_of (sections_at s i (edge_places s start i)) (record { head = record_at s i; body = between s (suc i) next } ∷ []) in
      let read : (ns : List ℕ) → edge_plans_at s ns next (edge_places s start next) ≡ edge_plans_at s ns i (edge_places s start i) ++ (edge_plan_at s ns i next ∷ []) =
      λ ns. ap (edge_plans_at s ns next) grown ∙ edge-plans-next s ns next i (edge_places s start i) in
      let both =
      noted_more (function_in s) (Within s edge_kind start i) (Within s edge_kind i next) (Within s edge_kind start next) (edge_step (function_in s) pointer safepoint) (edges_between s start i)
      (edge_at s i next) (λ ns. edge_plans_at s ns i (edge_places s start i)) (λ ns. edge_plan_at s ns i next) (i - start) (next - i) t u w numbers ms ks a b
      (λ j h. (h.0, omega (arith, h.1, bounds.0), h.2)) (λ j h. (omega (arith, h.0), h.1, h.2))
      (edges-same s ks ms start i up (omega arith) (λ j h. b.same j (λ x. omega (arith, x.0, h.1)))) in
      record {
        answer = ap₂ (λ (xs : List EdgePlan) (p : Plan). (xs, p)) (read ks) refl ∙ both.answer ∙ ap (λ (xs : List Edge). for_each (edge_step (function_in s) pointer safepoint) xs (plan_of (function_in s) t)) (sym many);
        same = both.same;
        kept = subst (λ (n : ℕ). Kept (function_in s) n t w) count both.kept;
        blocks = omega (arith, both.blocks, bounds.0);
        long = both.long;
      }

  -- A LOOP over them. It stands at an edge or at the end, and those before are done.
  abbrev pub EdgesDone : ℕ → ℕ → Tables → List ℕ → Type 0
  EdgesDone end i u ms = (start ≤ i) × (i ≤ end) × (i < end → kind (record_at s i) ≡ 7) × EdgesNoted s pointer safepoint start i t numbers u ms

  pub edges-begun : (end : ℕ) → start ≤ end → end ≤ record_count s → (i : ℕ) → i ≡ next_edge_place s start end → EdgesDone end i t numbers
  edges-begun end up l i is =
      let bounds = next-bounds s start end up l in
      subst (λ (n : ℕ). EdgesDone end n t numbers) (sym is) (bounds.0, bounds.1, next-is-edge s start end up l, edges-start end up l)

  module _ (end i : ℕ) (in_file : end ≤ record_count s) (l : i < end) (u : Tables) (ms : List ℕ) (done : EdgesDone end i u ms) (next : ℕ)
      (is : next ≡ next_edge_place s (i + 1) end) where
    here : next ≡ next_edge_place s (suc i) end
    here = is ∙ ap (λ (n : ℕ). next_edge_place s n end) (add-one i)

    bounds : (i < next) × (next ≤ end)
    bounds =
        let b = next-bounds s (suc i) end l in_file in
        (omega (arith, b.0, here), omega (arith, b.1, here))

    -- the next edge may be planned,
    pub edge-ready :
        EdgesIn s start end → end ≤ length numbers → Blank (Within s edge_kind start end) numbers → Able (function_in s) t (end - start)
        → EdgeRecords s i next × (next ≤ length ms) × Blank (Within s edge_kind i next) ms × Able (function_in s) u (next - i)
    edge-ready edges room blank able =
        let up = done.0 in
        let low = bounds.0 in
        let high = bounds.1 in
        let parts : end - start ≡ (i - start) + ((next - i) + (end - next)) = omega arith in (
          subst (EdgeRecords s i) (sym here) (edges i done.0 l (done.2 l)),
          omega (arith, done.3.long),
          blank-kept (Within s edge_kind start i) (Within s edge_kind i next) numbers ms (λ j a b. omega (arith, a.0, b.1)) done.3.same
              (λ j w. blank j (omega (arith, w.0), omega (arith, w.1), w.2)),
          able-less (function_in s) u ((next - i) + (end - next)) (next - i) (omega arith)
              (able-then (function_in s) t u (i - start) ((next - i) + (end - next)) done.3.kept done.3.blocks
              (subst (λ (n : ℕ). Able (function_in s) t n) parts able)),
        )

    -- and is then done
    pub edge-done :
        (w : Tables) (ks : List ℕ) → pointer ≡ t.progress.pointer → EdgeNoted s u.progress.pointer safepoint i next u ms w ks
        → EdgesDone end next w ks × (end - next < end - i)
    edge-done w ks own b =
        let low = bounds.0 in
        let high = bounds.1 in
        let same : u.progress.pointer ≡ pointer = done.3.kept.pointer ∙ sym own in
        let step : EdgeNoted s pointer safepoint i (next_edge_place s (suc i) end) u ms w ks =
        subst (λ (n : ℕ). EdgeNoted s pointer safepoint i n u ms w ks) here (subst (λ (x : ℕ). EdgeNoted s x safepoint i next u ms w ks) same b) in (
          subst (λ (n : ℕ). EdgesDone end n w ks) (sym here)
              (omega (arith, done.0, low, here), omega (arith, high, here), next-is-edge s (suc i) end l in_file, edges_more i end done.0 l in_file (done.2 l) u w ms ks done.3 step),
          omega arith,
        )
