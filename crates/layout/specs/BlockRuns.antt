-- A block as it is written, run by run, and its instructions by place.
use Rattle.std.specs.Prelude.{ℕ, zero, suc, ◌+◌, ◌-◌, ◌≤◌, ◌<◌, ◌≡◌, Bool, true, false, List, [], ◌∷◌, ◌++◌, T, eqb}
use Rattle.std.proofs.Common.{sym, subst, ◌∙◌, arith, add-one, eqb→eq}
use Rattle.std.proofs.Math.Path.{ap}
use Rattle.std.proofs.Math.Dec.{not_T}
use Rattle.rules.specs.Lists.{NumberSet}
use Rattle.rules.specs.Records.{kind, record_at}
use Rattle.rules.specs.declared.Record.{Record}
use Rattle.lists.specs.Tests.{eq→eqb, chosen, left_out}
use Rattle.records.specs.Parts.{is_instruction}
use Rattle.graph.specs.Sections.{first_or}
use Rattle.listing.specs.Across.{section_at}
use Rattle.listing.specs.Stepping.{heads_from, BlockRecords, instruction-at}
use Rattle.writing_edges.specs.declared.edges.EdgePart.TheVariants as edge
use Rattle.writing.specs.declared.parts.Part.TheVariants as part
use Rattle.graph.specs.Next.{next_place}
use Rattle.writing.specs.Places.{from_to}
use Rattle.writing_edges.specs.ByPlace.{on_kind}
use Rattle.writing_instructions.specs.Runs.{parts_run, edges_run, instruction_run}

-- how many instructions start before place p: the number of the one that starts there
abbrev pub number_at : List ℕ → ℕ → ℕ
number_at s zero = 0
number_at s (suc p) = elim (eqb (kind (record_at s p)) 4) [ true ↦ suc (number_at s p) | false ↦ number_at s p ]

-- a record as it is
abbrev pub copy_at : List ℕ → ℕ → List Record
copy_at s i = record_at s i ∷ []

module _ (s : List ℕ) (k : ℕ) (g : ℕ → List Record) (p : ℕ) where
  -- a record of the kind, or another one
  on-kind : kind (record_at s p) ≡ k → on_kind s k g p ≡ g p
  on-kind e = chosen (eqb (kind (record_at s p)) k) (g p) [] (eq→eqb e)

  off-kind : (kind (record_at s p) ≡ k → ⊥) → on_kind s k g p ≡ []
  off-kind h = left_out (eqb (kind (record_at s p)) k) (g p) [] (not_T (eqb (kind (record_at s p)) k) (λ t. h (eqb→eq (kind (record_at s p)) k t)))

module _ (s : List ℕ) (p : ℕ) where
  -- an instruction counts, another record does not
  pub number_more : kind (record_at s p) ≡ 4 → number_at s (p + 1) ≡ number_at s p + 1
  number_more e =
      ap (number_at s) (add-one p) ∙ chosen (eqb (kind (record_at s p)) 4) (suc (number_at s p)) (number_at s p) (eq→eqb e) ∙ sym (add-one (number_at s p))

  pub number_same : (kind (record_at s p) ≡ 4 → ⊥) → number_at s (p + 1) ≡ number_at s p
  number_same h =
      ap (number_at s) (add-one p)
      ∙ left_out (eqb (kind (record_at s p)) 4) (suc (number_at s p)) (number_at s p)
      (not_T (eqb (kind (record_at s p)) 4) (λ t. h (eqb→eq (kind (record_at s p)) 4 t)))

-- among a block's records what starts at an instruction, up to the next one, is one
pub instruction-next :
    (s : List ℕ) (start end : ℕ) → BlockRecords s start end → (p : ℕ) → start ≤ p → p < end → kind (record_at s p) ≡ 4
    → T (is_instruction (section_at s p (next_place s 4 (p + 1) end)))
unfolding next_place
instruction-next s start end h p l m four =
    subst (λ (i : ℕ). T (is_instruction (section_at s p (first_or end (heads_from s i end))))) (sym (add-one p))
    (instruction-at s end h.inside start h p l m (eq→eqb four))

module _ (s numbers slots : List ℕ) where
  -- the landings of the instruction at place p, which ends before place q
  abbrev pub landings_run : ℕ → ℕ → List Record
  landings_run p q = edges_run s numbers slots edge.Landing (p + 1) q

  -- the landings of the instruction at a place, among records that end before place q
  unfoldable pub landing_part_at : ℕ → ℕ → List Record
  landing_part_at q = on_kind s 4 (λ p. landings_run p (next_place s 4 (p + 1) q))

  -- the record of the block at place p, its parameters and their stores
  abbrev pub head_run : ℕ → ℕ → List Record
  head_run p q = ((record_at s p ∷ []) ++ parts_run s numbers slots 3 part.Parameter (p + 1) q) ++ parts_run s numbers slots 3 part.Store (p + 1) q

  module _ (values : ℕ) where
    -- the instruction at a place, with the list that a set is
    unfoldable pub instruction_if : NumberSet → ℕ → ℕ → List Record
    instruction_if set q = on_kind s 4 (λ p. instruction_run s numbers slots set values p (next_place s 4 (p + 1) q))

    -- with the list of its number
    abbrev pub instruction_part_at : (ℕ → NumberSet) → ℕ → ℕ → List Record
    instruction_part_at sets q p = instruction_if (sets (number_at s p)) q p

    -- a block with its landings
    unfoldable pub block_run : (ℕ → NumberSet) → ℕ → ℕ → List Record
    block_run sets p q =
        (head_run p q ++ from_to (instruction_part_at sets q) (p + 1) q) ++ from_to (landing_part_at q) (p + 1) q

    -- an instruction at place p, which ends before the next one
    pub instruction-here :
        (set : NumberSet) (p q next : ℕ) → kind (record_at s p) ≡ 4 → next ≡ next_place s 4 (p + 1) q
        → instruction_if set q p ≡ instruction_run s numbers slots set values p next
    unfolding instruction_if
    instruction-here set p q next e n =
        on-kind s 4 (λ i. instruction_run s numbers slots set values i (next_place s 4 (i + 1) q)) p e
        ∙ ap (instruction_run s numbers slots set values p) (sym n)

    pub instruction-other : (set : NumberSet) (p q : ℕ) → (kind (record_at s p) ≡ 4 → ⊥) → instruction_if set q p ≡ []
    unfolding instruction_if
    instruction-other set p q h = off-kind s 4 (λ i. instruction_run s numbers slots set values i (next_place s 4 (i + 1) q)) p h

  pub landings-here :
      (p q next : ℕ) → kind (record_at s p) ≡ 4 → next ≡ next_place s 4 (p + 1) q
      → landing_part_at q p ≡ landings_run p next
  unfolding landing_part_at
  landings-here p q next e n =
      on-kind s 4 (λ i. landings_run i (next_place s 4 (i + 1) q)) p e ∙ ap (landings_run p) (sym n)

  pub landings-other : (p q : ℕ) → (kind (record_at s p) ≡ 4 → ⊥) → landing_part_at q p ≡ []
  unfolding landing_part_at
  landings-other p q h = off-kind s 4 (λ i. landings_run i (next_place s 4 (i + 1) q)) p h

-- the number grows, by one at most a record
step-bounds : (s : List ℕ) (p : ℕ) → (number_at s p ≤ number_at s (suc p)) × (number_at s (suc p) ≤ suc (number_at s p))
step-bounds s p = go (eqb (kind (record_at s p)) 4)
  where
    go : (b : Bool)
        → (number_at s p ≤ elim b [ true ↦ suc (number_at s p) | false ↦ number_at s p ])
        × (elim b [ true ↦ suc (number_at s p) | false ↦ number_at s p ] ≤ suc (number_at s p))
    go true = (omega arith, omega arith)
    go false = (omega arith, omega arith)

pub number-le : (s : List ℕ) (p : ℕ) → number_at s p ≤ p
number-le s zero = omega arith
number-le s (suc p) = omega (arith, number-le s p, (step-bounds s p).1)

grows : (s : List ℕ) (n p q : ℕ) → p + n ≡ q → number_at s p ≤ number_at s q
grows s zero p q e = let same : q ≡ p = omega arith in rw same (omega arith)
grows s (suc n) p q e = omega (arith, (step-bounds s p).0, grows s n (suc p) q (omega arith))

-- so an instruction before place q has a number below that of q
pub number-less : (s : List ℕ) (p q : ℕ) → p < q → kind (record_at s p) ≡ 4 → number_at s p + 1 ≤ number_at s q
number-less s p q l e = omega (arith, number_more s p e, grows s (q - (p + 1)) (p + 1) q (omega arith))
