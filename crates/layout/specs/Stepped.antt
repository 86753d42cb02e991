-- FROM INSTRUCTION TO INSTRUCTION: at the places between nothing is written, a block's parameters stand before the first one, and its
-- landings are those of the edges in its tail.
use Rattle.std.specs.Prelude.{ℕ, zero, suc, ◌+◌, ◌-◌, ◌<◌, ◌≤◌, ◌≡◌, refl, not, List, [], ◌∷◌, ◌++◌, T, eqb, ltb}
use Rattle.std.proofs.Common.{sym, ap₂, ◌∙◌, append-nil, arith, add-one, eqb→eq, ltb→lt, nltb→le}
use Rattle.std.proofs.Math.Path.{ap}
use Rattle.rules.specs.Lists.{NumberSet}
use Rattle.rules.specs.Records.{kind, record_at, record_count}
use Rattle.rules.specs.declared.Record.{Record}
use Rattle.lists.specs.Tests.{test-elim}
use Rattle.records.specs.Leading.{parameters-lead}
use Rattle.records.specs.Parts.{is_instruction}
use Rattle.graph.specs.Between.{between, kinds-between}
use Rattle.graph.specs.Tails.{TailLast, NoTail, tail_none}
use Rattle.listing.specs.Across.{section_at}
use Rattle.listing.specs.Parted.{run_end, run-parts, kinds-none}
use Rattle.listing.specs.Stepping.{BlockRecords}
use Rattle.writing.specs.declared.parts.Part.{Part}
use Rattle.writing.specs.declared.parts.Part.TheVariants as part
use Rattle.graph.specs.Next.{next_place, next_place-bounds, next_place-found}
use Rattle.writing.specs.Parts.{part_at}
use Rattle.writing.specs.Places.{from_to, from_to-none, from_to-more, passed-before, passed-behind}
use Rattle.writing.specs.Steps.{Only, from_first, next-place}
use Rattle.writing_edges.specs.declared.edges.EdgePart.TheVariants as edge
use Rattle.writing_edges.specs.Edges.{edge_part_at, edge_other}
use Rattle.writing_instructions.specs.declared.instructions.InstructionRuns.{InstructionRuns}
use Rattle.writing_instructions.specs.Narrowed.{part-only, instruction_in, runs_of, instruction-narrowed}
use Rattle.writing_instructions.specs.Runs.{parts_run, edges_run, instruction_run}
use Rattle.layout.specs.BlockRuns.{number_at, number_more, number_same, instruction-next, instruction_part_at, instruction-here, instruction-other, landings_run, landing_part_at, landings-here, landings-other, head_run, block_run}

-- an instruction starts at a place, unless that is the end, and each one from there on, up to the next, is in order
pub record InstructionsFrom (s : List ℕ) (from end : ℕ) : Type 0 where
  pub starts : from < end → kind (record_at s from) ≡ 4
  pub in_order : (p : ℕ) → from ≤ p → p < end → kind (record_at s p) ≡ 4 → T (is_instruction (section_at s p (next_place s 4 (p + 1) end)))

-- the number stays where no instruction starts
number-stays : (s : List ℕ) (n p q : ℕ) → p + n ≡ q → ((i : ℕ) → p ≤ i → i < q → kind (record_at s i) ≡ 4 → ⊥) → number_at s q ≡ number_at s p
number-stays s zero p q e none =
    let same : q ≡ p = omega arith in
    ap (number_at s) same
number-stays s (suc n) p q e none =
    number-stays s n (p + 1) q (omega arith) (λ i l u. none i (omega arith) u) ∙ number_same s p (none p (omega arith) (omega arith))

pub number-next : (s : List ℕ) (p q : ℕ) → p ≤ q → q ≤ record_count s → number_at s (next_place s 4 p q) ≡ number_at s p
number-next s p q l m =
    let low = (next_place-bounds s 4 p q l m).0 in
    number-stays s (next_place s 4 p q - p) p (next_place s 4 p q) (omega arith) (next_place-found s 4 q m p l).1

-- A TURN of a loop from the instruction at place p to the next one: the number there,
pub next-number :
    (s : List ℕ) (end : ℕ) → end ≤ record_count s → (p : ℕ) → p < end → (next : ℕ) → next ≡ next_place s 4 (p + 1) end
    → kind (record_at s p) ≡ 4 → (number : ℕ) → number ≡ number_at s p → number + 1 ≡ number_at s next
next-number s end m p l next there four number same =
    let after : p + 1 ≤ end = omega arith in
    omega (arith, same, number_more s p four, number-next s (p + 1) end after m, ap (number_at s) there)

-- and what it writes itself, by the instruction's runs
pub instruction-turn :
    (s : List ℕ) (end : ℕ) → end ≤ record_count s → (p : ℕ) → p < end → kind (record_at s p) ≡ 4 → T (is_instruction (section_at s p (next_place s 4 (p + 1) end)))
    → (runs : InstructionRuns) → runs ≡ runs_of s p end
    → (numbers slots : List ℕ) (values : ℕ) (sets : ℕ → NumberSet) (number : ℕ) → number ≡ number_at s p
    → instruction_in s numbers slots (sets number) values runs.place runs.results runs.exits runs.end
    ≡ instruction_part_at s numbers slots values sets end p
instruction-turn s end m p l four h runs found numbers slots values sets number same =
    let next = next_place s 4 (p + 1) end in
    instruction-narrowed s p end l m h runs found numbers slots (sets number) values
    ∙ ap (λ (n : ℕ). instruction_run s numbers slots (sets n) values p next) same
    ∙ sym (instruction-here s numbers slots values (sets (number_at s p)) p end next four refl)

-- A BLOCK'S LANDINGS, where its edges, edge arguments and contexts stand behind the rest of it, from place tail on
module _ (s numbers slots : List ℕ) (from tail end : ℕ) (m : end ≤ record_count s) (last : TailLast s from end) (low : from ≤ tail) (high : tail ≤ end)
    (none : NoTail s from tail) (first : tail < end → 7 ≤ kind (record_at s tail)) where
  abbrev landing : ℕ → ℕ → List Record
  landing = edge_part_at s numbers slots edge.Landing

  abbrev landings : ℕ → List Record
  landings = landing_part_at s numbers slots end

  -- every instruction stands before them,
  before-tail : (p : ℕ) → from ≤ p → p < end → kind (record_at s p) ≡ 4 → p < tail
  before-tail p l u four =
      test-elim (ltb p tail) (ltb→lt p tail)
      (λ t.
      let far = nltb→le p tail t in
      let other = tail_none s from p end last u (omega (arith, four)) tail low (omega arith) in
      absurd (omega (arith, other, first (omega arith))))

  -- and no edge does,
  no-landing : (q i : ℕ) → from ≤ i → i < tail → landing q i ≡ []
  no-landing q i l u = edge_other s numbers slots edge.Landing q i (λ e. omega (arith, none i l u, e))

  -- so the last instruction's landings are all that there are
  landings-from :
      (n p : ℕ) → end ≤ p + n → from ≤ p → p < end → kind (record_at s p) ≡ 4 → from_to landings p end ≡ edges_run s numbers slots edge.Landing tail end
  landings-from zero p e l u four = absurd (omega arith)
  landings-from (suc n) p e l u four =
      let next = next_place s 4 (p + 1) end in
      let ahead = next-place s 4 end m p u next refl in
      let before = before-tail p l u four in
      from_to-more landings p end u
      ∙ ap₂ (λ (a b : List Record). a ++ b) (landings-here s numbers slots p end next four refl)
      (ap (λ (i : ℕ). from_to landings i end) (sym (add-one p))
      ∙ from_first s 4 end m landings (λ i other. landings-other s numbers slots i end other) (p + 1) (omega arith))
      ∙ test-elim (ltb next end)
      (λ t.
      let less = ltb→lt next end t in
      let four' = ahead.2 less in
      let inside = before-tail next (omega (arith, ahead.0)) less four' in
      ap₂ (λ (a b : List Record). a ++ b)
      (passed-behind (landing next) (p + 1) (p + 1) next (omega arith) (omega (arith, ahead.0)) (λ i a b. no-landing next i (omega arith) (omega arith))
      ∙ from_to-none (landing next) (p + 1))
      (landings-from n next (omega (arith, ahead.0)) (omega (arith, ahead.0)) less four'))
      (λ t.
      let far = nltb→le next end t in
      let same : next ≡ end = omega (arith, ahead.1) in
      ap (λ (i : ℕ). landings_run s numbers slots p i ++ from_to landings i end) same
      ∙ ap (λ (rs : List Record). landings_run s numbers slots p end ++ rs) (from_to-none landings end)
      ∙ append-nil (landings_run s numbers slots p end)
      ∙ passed-before (landing end) (p + 1) tail end (omega arith) high (λ i a b. no-landing end i (omega arith) b))

  pub landings-in-tail : (from < end → kind (record_at s from) ≡ 4) → from_to landings from end ≡ edges_run s numbers slots edge.Landing tail end
  landings-in-tail starts =
      test-elim (ltb from end)
      (λ t.
      let less = ltb→lt from end t in
      landings-from (end - from) from (omega arith) (omega arith) less (starts less))
      (λ t.
      let far = nltb→le from end t in
      let here : from ≡ end = omega arith in
      let there : tail ≡ end = omega arith in
      ap (λ (i : ℕ). from_to landings i end) here ∙ from_to-none landings end
      ∙ sym (ap (λ (i : ℕ). from_to (landing end) i end) there ∙ from_to-none (landing end) end))

-- A BLOCK'S FIRST INSTRUCTION
module _ (s : List ℕ) (start end : ℕ) (h : BlockRecords s start end) where
  abbrev first : ℕ
  first = next_place s 4 start end

  abbrev within : (start ≤ first) × (first ≤ end)
  within = next_place-bounds s 4 start end h.ascends h.inside

  abbrev found : (first < end → kind (record_at s first) ≡ 4) × ((i : ℕ) → start ≤ i → i < first → kind (record_at s i) ≡ 4 → ⊥)
  found = next_place-found s 4 end h.inside start h.ascends

  pub instructions-behind : InstructionsFrom s first end
  instructions-behind =
      record {
        starts = found.0;
        in_order = λ p l u. instruction-next s start end h p (omega (arith, l, within.0)) u;
      }

  -- its parameters stand before it
  no-parameter : (i : ℕ) → first ≤ i → i < end → T (not (eqb (kind (record_at s i)) 3))
  no-parameter i l u =
      let parts = run-parts s 3 start end h.ascends h.inside (parameters-lead (between s start end) h.body) in
      let r = run_end s 3 start end in
      let not-before : first < r → ⊥ =
      λ z.
      let three = kinds-between s (λ j. eqb j 3) start r (omega (arith, parts.1, h.inside)) parts.2 first within.0 z in
      omega (arith, eqb→eq (kind (record_at s first)) 3 three, found.0 (omega (arith, z, parts.1))) in
      kinds-between s (λ j. not (eqb j 3)) r end h.inside (kinds-none 3 (between s r end) parts.3) i (omega (arith, l, not-before)) u

  module _ (numbers slots : List ℕ) where
    parameter-run : (y : Part) → parts_run s numbers slots 3 y start end ≡ parts_run s numbers slots 3 y start first
    parameter-run y =
        passed-behind (part_at s numbers slots 3 y) start first end within.0 within.1 (λ i l u. part-only s numbers slots 3 y i (no-parameter i l u))

-- so its head is written from the records before it
pub head-before : (s numbers slots : List ℕ) (p end : ℕ) → BlockRecords s (p + 1) end → head_run s numbers slots p end ≡ head_run s numbers slots p (next_place s 4 (p + 1) end)
head-before s numbers slots p end h =
    λ j. ((record_at s p ∷ []) ++ parameter-run s (p + 1) end h numbers slots part.Parameter j) ++ parameter-run s (p + 1) end h numbers slots part.Store j

-- A BLOCK BY ITS FIRST INSTRUCTION, at place front
module _ (s numbers slots : List ℕ) (values : ℕ) (sets : ℕ → NumberSet) where
  -- its head from the records before, and the rest from there on
  abbrev pub block_by_first : ℕ → ℕ → ℕ → List Record
  block_by_first p front q =
      (head_run s numbers slots p front ++ from_to (instruction_part_at s numbers slots values sets q) front q) ++ from_to (landing_part_at s numbers slots q) front q

  pub instructions-only : (q : ℕ) → Only s 4 (instruction_part_at s numbers slots values sets q)
  instructions-only q i other = instruction-other s numbers slots values (sets (number_at s i)) i q other

  pub block-by-first :
      (p front q : ℕ) → BlockRecords s (p + 1) q → front ≡ next_place s 4 (p + 1) q → block_run s numbers slots values sets p q ≡ block_by_first p front q
  unfolding block_run
  block-by-first p front q h there =
      let instructions = from_first s 4 q h.inside (instruction_part_at s numbers slots values sets q) (instructions-only q) (p + 1) h.ascends in
      let landings = from_first s 4 q h.inside (landing_part_at s numbers slots q) (λ i other. landings-other s numbers slots i q other) (p + 1) h.ascends in
      let same : block_run s numbers slots values sets p q ≡ block_by_first p (next_place s 4 (p + 1) q) q = λ j. (head-before s numbers slots p q h j ++ instructions j) ++ landings j in
      same ∙ ap (λ (n : ℕ). block_by_first p n q) (sym there)
