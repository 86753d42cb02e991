-- What is live across an instruction, by its records: going back over them as far as its arguments.
use Rattle.std.specs.Prelude.{ℕ, zero, suc, ◌+◌, ◌≤◌, ◌≡◌, refl, Bool, true, false, not, ◌||◌, cond, List, [], ◌∷◌, ◌++◌, map, T, eqb}
use Rattle.std.proofs.Common.{sym, ap, ap₂, ◌∙◌, arith, eqb→eq}
use Rattle.rules.specs.Lists.{all, keep, has, NumberSet, adding, removing}
use Rattle.rules.specs.Tree.{Function}
use Rattle.rules.specs.Records.{encode, kind, record_at, record_count}
use Rattle.rules.specs.File.{followers, follows, Section, of_kind, named, instruction_of}
use Rattle.rules.specs.Graph.{is_marked, values_among}
use Rattle.rules.specs.Liveness.{across}
use Rattle.rules.specs.declared.Record.{Record}
use Rattle.rules.specs.declared.Words.{Words}
use Rattle.lists.specs.Tests.{and_left, and_right, and_intro, or_elim, passes_at, left_out}
use Rattle.records.specs.Kinds.{Kinds, of_kind-none}
use Rattle.records.specs.InOrder.{chain, kept_by, chain-good}
use Rattle.records.specs.Parts.{is_instruction, body-chained, argument}
use Rattle.graph.specs.Between.{between, between_none, between_more}
use Rattle.blocksets.specs.Operands.{back}
use Rattle.blocksets.specs.Instructions.{passed_by, in_instruction, back-before, body-kinds, across-by-records}

-- the section of the instruction at place p whose records end before place end
abbrev pub section_at : List ℕ → ℕ → ℕ → Section
section_at s p end = record { head = record_at s p; body = between s (suc p) end }

-- the records behind the arguments that stand first
abbrev pub behind_arguments : List Record → List Record
behind_arguments [] = []
behind_arguments (r ∷ rs) = cond (eqb (kind r) 6) (behind_arguments rs) (r ∷ rs)

-- what is known of records that stand in an instruction
record Inner (rs : List Record) : Type 0 where
  front : ℕ
  chained : T (chain front rs)
  kinds : Kinds in_instruction rs

-- a kind of an instruction that is no argument
abbrev further : List ℕ
further = 5 ∷ 7 ∷ 8 ∷ 9 ∷ []

further-kind : (j : ℕ) → T (in_instruction j) → eqb j 6 ≡ false → T (has j further)
further-kind j m e =
    or_elim (eqb j 6) (has j further) (λ t. absurd (rw e at t)) (λ t. t)
    (passes_at (λ i. eqb i 6 || has i further) (5 ∷ 6 ∷ 7 ∷ 8 ∷ 9 ∷ []) tt j m)

-- behind the arguments no argument stands
behind-inner :
    (p : ℕ) (rs : List Record) → T (chain p rs) → Kinds in_instruction rs
    → Inner (behind_arguments rs) × (named 6 (behind_arguments rs) ≡ [])
unfolding kept_by followers
behind-inner p [] c k = (record { front = p; chained = tt; kinds = tt }, refl)
behind-inner p (r ∷ rs) c k = go (eqb (kind r) 6) refl (behind-inner (kind r) rs order kinds)
  where
    order : T (chain (kind r) rs)
    order = and_right (follows p (kind r)) (chain (kind r) rs) c

    kinds : Kinds in_instruction rs
    kinds = and_right (in_instruction (kind r)) (all (λ x. in_instruction (kind x)) rs) k

    none : eqb (kind r) 6 ≡ false → Kinds (λ j. not (eqb j 6)) (r ∷ rs)
    none e =
        let here = further-kind (kind r) (and_left (in_instruction (kind r)) (all (λ x. in_instruction (kind x)) rs) k) e in
        and_intro (not (eqb (kind r) 6)) (all (λ x. not (eqb (kind x) 6)) rs) (rw e tt)
        (chain-good further in_instruction (λ j. not (eqb j 6)) tt (kind r) rs here order kinds)

    go : (b : Bool) → eqb (kind r) 6 ≡ b → Inner (behind_arguments rs) × (named 6 (behind_arguments rs) ≡ [])
        → Inner (cond b (behind_arguments rs) (r ∷ rs)) × (named 6 (cond b (behind_arguments rs) (r ∷ rs)) ≡ [])
    go true e later = later
    go false e later = (record { front = p; chained = c; kinds = k }, ap (map (λ (w : Words). w.second)) (of_kind-none 6 (r ∷ rs) (none e)))

-- and all that is of another kind
behind-others : (j : ℕ) → T (not (eqb 6 j)) → (rs : List Record) → of_kind j (behind_arguments rs) ≡ of_kind j rs
behind-others j n [] = refl
behind-others j n (r ∷ rs) = go (eqb (kind r) 6) (eqb→eq (kind r) 6) (behind-others j n rs)
  where
    go : (b : Bool) → (T b → kind r ≡ 6) → of_kind j (behind_arguments rs) ≡ of_kind j rs
        → of_kind j (cond b (behind_arguments rs) (r ∷ rs)) ≡ of_kind j (r ∷ rs)
    go true e later =
        later
        ∙ sym (left_out (eqb (kind r) j) (encode r ∷ of_kind j rs) (of_kind j rs) (rw (e tt) n))
    go false e later = refl

-- Going back over them gives what is live across the instruction.
pub back-across :
    (f : Function) (t : Section) → T (is_instruction t) → (live : NumberSet)
    → back f (behind_arguments t.body) live ≡ across f (instruction_of t) live
back-across f t h live =
    let m = is_marked f in
    let rest = behind_arguments t.body in
    let inner = behind-inner 4 t.body (body-chained t h) (body-kinds f t h) in
    back-before f inner.0.front rest live inner.0.chained inner.0.kinds
    ∙ ap (λ a. adding (keep m a) (removing (named 5 rest) (adding (keep m (passed_by rest)) live))) inner.1
    ∙ ap₂ (λ (r p : List Words). removing (map (λ w. w.second) r) (adding (keep m (values_among (map argument p))) live))
    (behind-others 5 tt t.body) (behind-others 8 tt t.body)
    ∙ sym (across-by-records f t h live)

-- RECORDS BETWEEN TWO PLACES, parted at a third
pub between-parted :
    (s : List ℕ) (n p m q : ℕ) → p + n ≡ m → m ≤ q → q ≤ record_count s → between s p q ≡ between s p m ++ between s m q
between-parted s zero p m q e l k =
    let same : m ≡ p = omega arith in
    rw (same, between_none s p)
between-parted s (suc n) p m q e l k =
    between_more s p q (omega arith) k
    ∙ ap (λ (rs : List Record). record_at s p ∷ rs) (between-parted s n (suc p) m q (omega arith) l k)
    ∙ ap (λ (rs : List Record). rs ++ between s m q) (sym (between_more s p m (omega arith) (omega arith)))
