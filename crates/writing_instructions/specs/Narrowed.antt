-- An instruction as it is written, each run over its own records only: arguments, results, and what stands behind them.
use Rattle.std.specs.Prelude.{ℕ, ◌+◌, ◌-◌, ◌<◌, ◌≤◌, ◌≡◌, refl, not, List, [], ◌∷◌, ◌++◌, T, eqb}
use Rattle.std.proofs.Common.{sym, ap, subst, ◌∙◌, arith, add-one, eqb→eq}
use Rattle.rules.specs.Lists.{NumberSet}
use Rattle.rules.specs.Records.{kind, encode, record_at, record_count}
use Rattle.rules.specs.File.{function_in}
use Rattle.rules.specs.Graph.{size_of}
use Rattle.rules.specs.declared.Record.{Record}
use Rattle.lists.specs.Tests.{left_out}
use Rattle.records.specs.Kinds.{Kinds, kinds-weaken}
use Rattle.records.specs.Parts.{is_instruction}
use Rattle.graph.specs.Between.{between, kinds-between}
use Rattle.listing.specs.Across.{section_at}
use Rattle.listing.specs.Parted.{run_end, run-nearer, Parted, kinds-none, parted-by}
use Rattle.numbering.specs.Beside.{made_at}
use Rattle.writing.specs.declared.parts.Part.{Part}
use Rattle.writing.specs.declared.parts.Part.TheVariants as part
use Rattle.graph.specs.Next.{next_place, next_place-bounds, next_place-found, next_place-from}
use Rattle.writing.specs.Parts.{slot_in, part_at, part_records}
use Rattle.writing.specs.Places.{from_to, passed-before, passed-behind}
use Rattle.writing_edges.specs.declared.edges.EdgePart.{EdgePart}
use Rattle.writing_edges.specs.declared.edges.EdgePart.TheVariants as edge
use Rattle.writing_edges.specs.Edges.{edge_part_at, edge_other}
use Rattle.writing_instructions.specs.declared.instructions.InstructionRuns.{InstructionRuns}
use Rattle.writing_instructions.specs.Entries.{entries_below}
use Rattle.writing_instructions.specs.Runs.{parts_run, edges_run, exits_run, instruction_run}

-- the runs stand one behind the other
abbrev pub Ascend : InstructionRuns → Type 0
Ascend r = (r.place < r.results) × (r.results ≤ r.exits) × (r.exits ≤ r.end)

-- BY ITS RUNS: arguments from place p on, results from place a on, edges and contexts from place b on and before place q.
module _ (s numbers slots : List ℕ) where
  -- the loads before an instruction
  abbrev pub loads_in : ℕ → ℕ → ℕ → ℕ → List Record
  loads_in p a b q = parts_run s numbers slots 6 part.Load p a ++ edges_run s numbers slots edge.Loads b q

  -- its arguments and results
  abbrev pub operands_in : ℕ → ℕ → ℕ → List Record
  operands_in p a b = parts_run s numbers slots 6 part.Argument p a ++ parts_run s numbers slots 5 part.Result a b

  module _ (set : NumberSet) (values : ℕ) where
    -- the instruction at place p itself, with its map
    abbrev pub itself_in : ℕ → ℕ → ℕ → ℕ → List Record
    itself_in p a b q =
        (((record_at s p ∷ []) ++ operands_in (p + 1) a b) ++ exits_run s numbers slots b q) ++ entries_below (size_of (function_in s)) (slot_in slots) set values

    -- with its loads and stores
    unfoldable pub instruction_in : ℕ → ℕ → ℕ → ℕ → List Record
    instruction_in p a b q = (loads_in (p + 1) a b q ++ itself_in p a b q) ++ parts_run s numbers slots 5 part.Store a b

-- WHAT IS WRITTEN FOR ONE KIND ONLY is written where records of that kind stand.
module _ (s : List ℕ) (start end a b : ℕ) (x : Parted s start end a b) (g : ℕ → List Record) (k : ℕ)
    (only : (i : ℕ) → T (not (eqb (kind (record_at s i)) k)) → g i ≡ []) where
  -- nothing for records of another kind
  none_in : (p q : ℕ) → q ≤ record_count s → Kinds (λ j. not (eqb j k)) (between s p q) → (i : ℕ) → p ≤ i → i < q → g i ≡ []
  none_in p q m kinds i l u = only i (kinds-between s (λ j. not (eqb j k)) p q m kinds i l u)

  none_of : (j p q : ℕ) → T (not (eqb j k)) → q ≤ record_count s → Kinds (λ i. eqb i j) (between s p q) → (i : ℕ) → p ≤ i → i < q → g i ≡ []
  none_of j p q other m kinds =
      none_in p q m
      (kinds-weaken (λ i. eqb i j) (λ i. not (eqb i k)) (λ i e. subst (λ (n : ℕ). T (not (eqb n k))) (sym (eqb→eq i j e)) other) (between s p q) kinds)

  abbrev inside : (a ≤ end) × (a ≤ record_count s) × (b ≤ record_count s)
  inside = (omega (arith, x.middle, x.high), omega (arith, x.middle, x.high, x.in_file), omega (arith, x.high, x.in_file))

  at-arguments : k ≡ 6 → from_to g start end ≡ from_to g start a
  at-arguments six =
      passed-behind g start a end x.low inside.0
      (none_in a end x.in_file (subst (λ (n : ℕ). Kinds (λ j. not (eqb j n)) (between s a end)) (sym six) (kinds-none 6 (between s a end) x.no_arguments)))

  behind-arguments : T (not (eqb 6 k)) → from_to g start end ≡ from_to g a end
  behind-arguments other = passed-before g start a end x.low inside.0 (none_of 6 start a other inside.1 x.arguments)

  at_results : k ≡ 5 → from_to g start end ≡ from_to g a b
  at_results five =
      behind-arguments (subst (λ (n : ℕ). T (not (eqb 6 n))) (sym five) tt)
      ∙ passed-behind g a b end x.middle x.high
      (none_in b end x.in_file (subst (λ (n : ℕ). Kinds (λ j. not (eqb j n)) (between s b end)) (sym five) (kinds-none 5 (between s b end) x.no_results)))

  at-exits : T (not (eqb 6 k)) → T (not (eqb 5 k)) → from_to g start end ≡ from_to g b end
  at-exits no-argument no_result =
      behind-arguments no-argument ∙ passed-before g a b end x.middle x.high (none_of 5 a b no_result inside.2 x.results)

module _ (s numbers slots : List ℕ) where
  pub part-only : (k : ℕ) (y : Part) (i : ℕ) → T (not (eqb (kind (record_at s i)) k)) → part_at s numbers slots k y i ≡ []
  part-only k y i = left_out (eqb (kind (record_at s i)) k) (part_records (size_of (function_in s)) (slot_in slots) y (encode (record_at s i)) (made_at s numbers i)) []

  edge-only : (y : EdgePart) (q i : ℕ) → T (not (eqb (kind (record_at s i)) 7)) → edge_part_at s numbers slots y q i ≡ []
  edge-only y q i other = edge_other s numbers slots y q i (λ e. subst (λ (n : ℕ). T (not (eqb n 7))) e other)

  module _ (set : NumberSet) (values p q a b : ℕ) (x : Parted s (p + 1) q a b) where
    argument-run : (y : Part) → parts_run s numbers slots 6 y (p + 1) q ≡ parts_run s numbers slots 6 y (p + 1) a
    argument-run y = at-arguments s (p + 1) q a b x (part_at s numbers slots 6 y) 6 (part-only 6 y) refl

    result-run : (y : Part) → parts_run s numbers slots 5 y (p + 1) q ≡ parts_run s numbers slots 5 y a b
    result-run y = at_results s (p + 1) q a b x (part_at s numbers slots 5 y) 5 (part-only 5 y) refl

    edge-run : (y : EdgePart) → edges_run s numbers slots y (p + 1) q ≡ edges_run s numbers slots y b q
    edge-run y = at-exits s (p + 1) q a b x (edge_part_at s numbers slots y q) 7 (edge-only y q) tt tt

    context-run : parts_run s numbers slots 9 part.Context (p + 1) q ≡ parts_run s numbers slots 9 part.Context b q
    context-run = at-exits s (p + 1) q a b x (part_at s numbers slots 9 part.Context) 9 (part-only 9 part.Context) tt tt

    runs_same : instruction_run s numbers slots set values p q ≡ instruction_in s numbers slots set values p a b q
    unfolding instruction_run instruction_in
    runs_same =
        λ j.
        ((argument-run part.Load j ++ edge-run edge.Loads j)
        ++ ((((record_at s p ∷ []) ++ (argument-run part.Argument j ++ result-run part.Result j)) ++ (edge-run edge.Itself j ++ context-run j))
        ++ entries_below (size_of (function_in s)) (slot_in slots) set values))
        ++ result-run part.Store j

-- where the runs of the instruction at place p stand, in a block whose records end before place q: it ends before the next one
abbrev pub runs_of : List ℕ → ℕ → ℕ → InstructionRuns
runs_of s p q =
    let next = next_place s 4 (p + 1) q in
    let results = run_end s 6 (p + 1) next in
    record { place = p; results = results; exits = run_end s 5 results next; end = next }

-- AN INSTRUCTION BY ITS RUNS
module _ (s : List ℕ) (p q : ℕ) (l : p < q) (m : q ≤ record_count s) (h : T (is_instruction (section_at s p (next_place s 4 (p + 1) q)))) where
  abbrev next : ℕ
  next = next_place s 4 (p + 1) q

  after : p + 1 ≤ q
  after = omega arith

  within : (p + 1 ≤ next) × (next ≤ q)
  within = next_place-bounds s 4 (p + 1) q after m

  runs-parted : (a b : ℕ) → a ≡ run_end s 6 (p + 1) next → b ≡ run_end s 5 a next → Parted s (p + 1) next a b
  runs-parted a b first then =
      subst (λ (n : ℕ). Parted s n next a b) (sym (add-one p))
      (parted-by s p next (omega (arith, within.0)) (omega (arith, within.1, m)) h a b first then)

  -- by the block's end a run ends there too, since the next instruction is of no run
  run-within : (k a : ℕ) → T (not (eqb 4 k)) → a ≤ next → run_end s k a q ≡ run_end s k a next
  run-within k a other u =
      run-nearer s k (next - a) a next q (omega arith) within.1 m
      (λ less e.
      subst (λ (i : ℕ). T (not (eqb 4 i))) (sym e ∙ (next_place-found s 4 q m (p + 1) after).0 less) other)

  -- AS LOOPS FIND THEM: by the block's end, and the next instruction behind them
  pub runs-found :
      (a b n : ℕ) → a ≡ run_end s 6 (p + 1) q → b ≡ run_end s 5 a q → n ≡ next_place s 4 b q
      → ◌≡◌ {A = InstructionRuns} (record { place = p; results = a; exits = b; end = n }) (runs_of s p q)
  runs-found a b n first then last =
      let results : a ≡ run_end s 6 (p + 1) next = first ∙ run-within 6 (p + 1) tt within.0 in
      let front = runs-parted a (run_end s 5 a next) results refl in
      let exits : b ≡ run_end s 5 a next = then ∙ run-within 5 a tt (omega (arith, front.middle, front.high)) in
      let x = runs-parted a b results exits in
      let end : n ≡ next = last ∙ next_place-from s 4 q m (b - (p + 1)) (p + 1) b (omega (arith, x.low, x.middle)) after x.high in
      let behind : b ≡ run_end s 5 (run_end s 6 (p + 1) next) next = exits ∙ ap (λ (i : ℕ). run_end s 5 i next) results in
      λ j. record { place = p; results = results j; exits = behind j; end = end j }

  module _ (r : InstructionRuns) (e : r ≡ runs_of s p q) where
    abbrev known : Parted s (p + 1) next (runs_of s p q).results (runs_of s p q).exits
    known = runs-parted (runs_of s p q).results (runs_of s p q).exits refl refl

    -- they stand one behind the other,
    pub runs-inside : (r.place < r.results) × (r.results ≤ r.exits) × (r.exits ≤ r.end) × (r.end ≤ q)
    runs-inside =
        subst (λ (i : InstructionRuns). (i.place < i.results) × (i.results ≤ i.exits) × (i.exits ≤ i.end) × (i.end ≤ q)) (sym e)
        (omega (arith, known.low), known.middle, known.high, within.1)

    -- and all of the instruction is written from them
    pub instruction-narrowed :
        (numbers slots : List ℕ) (set : NumberSet) (values : ℕ)
        → instruction_in s numbers slots set values r.place r.results r.exits r.end ≡ instruction_run s numbers slots set values p next
    instruction-narrowed numbers slots set values =
        ap (λ (i : InstructionRuns). instruction_in s numbers slots set values i.place i.results i.exits i.end) e
        ∙ sym (runs_same s numbers slots set values p next (runs_of s p q).results (runs_of s p q).exits known)
