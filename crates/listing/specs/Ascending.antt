-- A row's values as a list, ascending: document 01's list, where the row is a list's. There are as many rows as instructions.
use Rattle.std.specs.Prelude.{ℕ, zero, suc, ◌+◌, ◌-◌, ◌<◌, ◌≤◌, ◌≡◌, refl, false, List, [], ◌∷◌, length, get_or}
use Rattle.std.proofs.Common.{sym, ap, ◌∙◌, arith, length-append}
use Rattle.std.proofs.Math.Option.{none, some}
use Rattle.rules.specs.Lists.{is_none, concat_map, up_from, NumberSet, members}
use Rattle.rules.specs.Tree.{Block, Function}
use Rattle.rules.specs.Graph.{instructions_of}
use Rattle.rules.specs.Liveness.{lists}
use Rattle.rules.specs.Refusals.{all_instructions}
use Rattle.fixpoint.specs.Sums.{count-le-length, length-keep}
use Rattle.rows.specs.Rows.{row_values, size, keep-below}
use Rattle.listing.specs.Crossings.{crossings, listed, length-crossings}
use Rattle.listing.specs.Listed.{length-lists, list-members, listed-far}

-- the values that a row has bits for, ascending
unfoldable pub ascending : NumberSet → List ℕ
ascending set = members row_values set

-- There are as many as the row's count says, and no more than a row has bits for.
pub size-ascending : (set : NumberSet) → size set ≡ length (ascending set)
unfolding size ascending
size-ascending set = refl

length-up_from : (n k : ℕ) → length (up_from n k) ≡ k
length-up_from n zero = refl
length-up_from n (suc k) = ap suc (length-up_from (suc n) k)

pub ascending-small : (set : NumberSet) → length (ascending set) ≤ row_values
unfolding ascending
ascending-small set =
    omega (arith, length-keep set (up_from 0 row_values), count-le-length set (up_from 0 row_values), length-up_from 0 row_values)

-- They are those below n, where the set has no value from n on.
pub ascending-members :
    (n : ℕ) (set : NumberSet) → n ≤ row_values → ((v : ℕ) → n ≤ v → set v ≡ false) → ascending set ≡ members n set
unfolding ascending
ascending-members n set l h =
    let whole : row_values ≡ n + (row_values - n) = omega arith in
    ap (λ m. members m set) whole ∙ keep-below set 0 n (row_values - n) (λ v k. h v (omega arith))

-- THE LIST of a safepoint of a reachable block is its row's values, ascending.
pub list-ascending :
    (f : Function) → length f.values ≤ row_values → (i : ℕ) → is_none (get_or (lists f) i none) ≡ false
    → get_or (lists f) i none ≡ some (ascending (listed f i))
list-ascending f l i e =
    list-members f i e ∙ ap some (sym (ascending-members (length f.values) (listed f i) l (listed-far f i)))

-- Lists that are as long as blocks have instructions, one a block
length-by-block :
    {A : Type 0} (g : ℕ → List A) (outside : Block) (bs : List Block) (a : ℕ)
    → ((j : ℕ) → j < length bs → length (g (a + j)) ≡ length (instructions_of (get_or bs j outside)))
    → length (concat_map g (up_from a (length bs))) ≡ length (concat_map instructions_of bs)
length-by-block g outside [] a h = refl
length-by-block g outside (x ∷ bs) a h =
    let first : a + 0 ≡ a = omega arith in
    let later =
    length-by-block g outside bs (suc a)
    (λ j l. let next : suc a + j ≡ a + suc j = omega arith in ap (λ (k : ℕ). length (g k)) next ∙ h (suc j) (omega arith)) in
    omega (
      arith,
      length-append (g a) (concat_map g (up_from (suc a) (length bs))),
      length-append (instructions_of x) (concat_map instructions_of bs),
      ap (λ (k : ℕ). length (g k)) first,
      h 0 (omega arith),
      later,
    )

-- so there is a list, or none, for each instruction.
pub length-lists-instructions : (f : Function) → length (lists f) ≡ length (all_instructions f)
length-lists-instructions f =
    length-lists f
    ∙ length-by-block (crossings f) (record { cold = false; number = 0; parameters = []; items = [] }) f.blocks 0
    (λ j _. let same : 0 + j ≡ j = omega arith in ap (λ (k : ℕ). length (crossings f k)) same ∙ length-crossings f j)
