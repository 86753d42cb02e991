-- THE LISTS OF A BLOCK'S INSTRUCTIONS, read off rows: what the rows of all safepoints give each instruction, by number, is its
-- list.
use Rattle.std.specs.Prelude.{ℕ, zero, suc, ◌+◌, ◌<◌, ◌≡◌, refl, Bool, true, false, cond, List, [], ◌∷◌, map, length, get_or, T}
use Rattle.std.proofs.Common.{sym, ap, ap₂, subst, ◌∙◌, arith}
use Rattle.std.proofs.Math.Option.{Option, none, some}
use Rattle.rules.specs.Lists.{any, is_none, keep, or_else, has, up_from, members, zip_with, NumberSet}
use Rattle.rules.specs.Tree.{Instruction, Function}
use Rattle.rules.specs.File.{instruction_of, function_in}
use Rattle.rules.specs.Liveness.{across, before_all, lists_among, lists, is_spilled}
use Rattle.lists.specs.Tests.{or_left, or_right}
use Rattle.graph.specs.Sections.{first_or, sections_at}
use Rattle.listing.specs.Across.{section_at}
use Rattle.listing.specs.Crossings.{listed}
use Rattle.listing.specs.Listed.{list-members}
use Rattle.rows.specs.Rows.{rows}
use Rattle.spiller.specs.Instructions.{list_if}
use Rattle.planner.specs.Backward.{row_list, listed_at}

-- a test that every member that is kept passes
keep-both : {A : Type 0} (p q : A → Bool) → ((x : A) → T (q x) → T (p x)) → (xs : List A) → keep p (keep q xs) ≡ keep q xs
keep-both {A} p q also [] = refl
keep-both {A} p q also (x ∷ xs) = go (q x) refl (keep-both p q also xs)
  where
    inner : (b : Bool) → T b → (ys : List A) → keep p ys ≡ ys → ◌≡◌ {A = List A} (elim b [ true ↦ x ∷ keep p ys | false ↦ keep p ys ]) (x ∷ ys)
    inner true t ys e = ap (λ (zs : List A). x ∷ zs) e
    inner false t ys e = absurd t

    go : (b : Bool) → b ≡ q x → keep p (keep q xs) ≡ keep q xs
        → keep p (elim b [ true ↦ x ∷ keep q xs | false ↦ keep q xs ]) ≡ elim b [ true ↦ x ∷ keep q xs | false ↦ keep q xs ]
    go true b e = inner (p x) (also x (subst T b tt)) (keep q xs) e
    go false b e = e

module _ (s : List ℕ) where
  abbrev f : Function
  f = function_in s

  -- what is on a list is spilled
  any_at : (ls : List (Option (List ℕ))) (i v : ℕ) → T (has v (or_else [] (get_or ls i none))) → T (any (λ l. has v (or_else [] l)) ls)
  any_at [] i v h = h
  any_at (l ∷ ls) zero v h = or_left (has v (or_else [] l)) (any (λ x. has v (or_else [] x)) ls) h
  any_at (l ∷ ls) (suc i) v h = or_right (has v (or_else [] l)) (any (λ x. has v (or_else [] x)) ls) (any_at ls i v h)

  listed-spilled : (i v : ℕ) → T (listed f i v) → T (is_spilled f v)
  unfolding listed is_spilled
  listed-spilled i v h = any_at (lists f) i v h

  module _ (table : List ℕ) (are : rows table ≡ listed f) (end : ℕ) (out : NumberSet) where
    -- a list, by its row
    row-list : (i : ℕ) (list : List ℕ) → get_or (lists f) i none ≡ some list → row_list s table (is_spilled f) end i ≡ list
    row-list i list e =
        let found : is_none (get_or (lists f) i none) ≡ false = ap is_none e in
        ap (λ (r : ℕ → NumberSet). keep (is_spilled f) (members (length f.values) (r i))) are
        ∙ keep-both (is_spilled f) (listed f i) (listed-spilled i) (up_from 0 (length f.values))
        ∙ ap (or_else []) (sym (list-members f i found) ∙ e)

    -- all of some instructions', from a number on
    pub row-lists :
        (ps : List ℕ) (number : ℕ)
        → ((j : ℕ) → j < length ps → get_or (lists_among f (map instruction_of (sections_at s end ps)) out) j none ≡ get_or (lists f) (number + j) none)
        → listed_at s table (is_spilled f) end number ps
        ≡ zip_with (λ i l. (i, l)) (map instruction_of (sections_at s end ps)) (lists_among f (map instruction_of (sections_at s end ps)) out)
    row-lists [] number same = refl
    row-lists (p ∷ ps) number same =
        ap₂ (λ (l : Option (List ℕ)) (ls : List (Instruction × Option (List ℕ))). (i, l) ∷ ls) (one i.safepoint (sym here'))
        (row-lists ps (suc number)
        (λ j l.
        let next : number + suc j ≡ suc number + j = omega arith in
        same (suc j) (omega arith) ∙ ap (λ (n : ℕ). get_or (lists f) n none) next))
      where
        i : Instruction
        i = instruction_of (section_at s p (first_or end ps))

        set : NumberSet
        set = across f i (before_all f (map instruction_of (sections_at s end ps)) out)

        here' : cond i.safepoint (some (members (length f.values) set)) none ≡ get_or (lists f) number none
        here' =
            let zero' : number + 0 ≡ number = omega arith in
            same 0 (omega arith) ∙ ap (λ (n : ℕ). get_or (lists f) n none) zero'

        one : (b : Bool) → get_or (lists f) number none ≡ cond b (some (members (length f.values) set)) none
            → list_if b (row_list s table (is_spilled f) end number) ≡ cond b (some (members (length f.values) set)) none
        one true e = ap some (row-list number (members (length f.values) set) e)
        one false e = refl
