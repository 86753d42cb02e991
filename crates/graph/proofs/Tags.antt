-- Tags of the numbers in a list: one more than the place of each.
use Prim.Native.Nat.{ℕ, suc, ◌+◌, ◌<◌}
use mathlib.Core.Path.{◌≡◌, refl, sym, ap, ◌∙◌}
use mathlib.Core.Logic.{◌≢◌}
use mathlib.Core.Bool.{Bool, true, false, not, ◌||◌}
use mathlib.Core.List.{List, [], ◌∷◌, ◌++◌}
use native.Mathlib.Omega.{arith}
use native.Mathlib.Numerals.{add-one}
use borrow.Author.Tests.{ne_eqb}
use lib.ListN.{length, get_or, set, take}
use lib.Seq.{get_or-set_same, get_or-set_other, take-suc-set, length-take-le}
use lib.Dec.{T, T_not, eqb, eqb→eq, eqb_refl}
use Rattle.rules.specs.Lists.{has}
use Rattle.lists.specs.Tests.{test-elim, neqb→ne, chosen}
use Rattle.graph.specs.Tables.{tag_from}

-- what is in a list keeps its tag where more stands behind
pub tag-there : (n x : ℕ) (xs ys : List ℕ) → T (has x xs) → tag_from n (xs ++ ys) x ≡ tag_from n xs x
tag-there n x [] ys h = absurd h
tag-there n x (y ∷ xs) ys h = go (eqb x y) h (tag-there (suc n) x xs ys)
  where
    go : (o : Bool) → T (o || has x xs) → (T (has x xs) → tag_from (suc n) (xs ++ ys) x ≡ tag_from (suc n) xs x)
        → ◌≡◌ {A = ℕ} (elim o [ true ↦ suc n | false ↦ tag_from (suc n) (xs ++ ys) x ]) (elim o [ true ↦ suc n | false ↦ tag_from (suc n) xs x ])
    go true h later = refl
    go false h later = later h

-- what is not in a list has no tag
pub tag-none : (n x : ℕ) (xs : List ℕ) → T (not (has x xs)) → tag_from n xs x ≡ 0
tag-none n x [] h = refl
tag-none n x (y ∷ xs) h = go (eqb x y) h (tag-none (suc n) x xs)
  where
    go : (o : Bool) → T (not (o || has x xs)) → (T (not (has x xs)) → tag_from (suc n) xs x ≡ 0)
        → ◌≡◌ {A = ℕ} (elim o [ true ↦ suc n | false ↦ tag_from (suc n) xs x ]) 0
    go true h later = absurd h
    go false h later = later h

-- put behind it, it has the next one
pub tag-new : (n x : ℕ) (xs : List ℕ) → T (not (has x xs)) → tag_from n (xs ++ (x ∷ [])) x ≡ suc (n + length xs)
tag-new n x [] h =
    let e : n ≡ n + 0 = omega arith in
    chosen (eqb x x) (suc n) 0 (eqb_refl x) ∙ ap suc e
tag-new n x (y ∷ xs) h =
    let e : suc n + length xs ≡ n + suc (length xs) = omega arith in
    go (eqb x y) h (λ k. tag-new (suc n) x xs k ∙ ap suc e)
  where
    go : (o : Bool) → T (not (o || has x xs)) → (T (not (has x xs)) → tag_from (suc n) (xs ++ (x ∷ [])) x ≡ suc (n + suc (length xs)))
        → ◌≡◌ {A = ℕ} (elim o [ true ↦ suc n | false ↦ tag_from (suc n) (xs ++ (x ∷ [])) x ]) (suc (n + suc (length xs)))
    go true h later = absurd h
    go false h later = later h

-- another that is in the longer list was in it before
has-before : (x b : ℕ) (xs : List ℕ) → x ≢ b → T (has x (xs ++ (b ∷ []))) → T (has x xs)
has-before x b [] n h = absurd (rw (ne_eqb x b n) at h)
has-before x b (y ∷ xs) n h = go (eqb x y) h (has-before x b xs n)
  where
    go : (o : Bool) → T (o || has x (xs ++ (b ∷ []))) → (T (has x (xs ++ (b ∷ []))) → T (has x xs)) → T (o || has x xs)
    go true h later = tt
    go false h later = later h

-- every number of a list has its tag in a table
abbrev pub Tagged : List ℕ → List ℕ → Type 0
Tagged index xs = (x : ℕ) → T (has x xs) → get_or index x 0 ≡ tag_from 0 xs x

-- a new one behind it gets the next
pub tagged-more :
    (order index : List ℕ) (count b : ℕ) → count < length order → b < length index
    → T (not (has b (take count order))) → Tagged index (take count order)
    → Tagged (set index b (count + 1)) (take (count + 1) (set order count b))
tagged-more order index count b l k new h =
    rw (add-one count, take-suc-set order count b l)
    (λ x m.
    test-elim (eqb x b)
    (λ same.
    let e : x ≡ b = eqb→eq x b same in
    let long : suc (0 + length (take count order)) ≡ suc count = omega (arith, length-take-le count order (omega arith)) in
    rw (e, get_or-set_same index b (suc count) 0 k, tag-new 0 b (take count order) new, long) refl)
    (λ other.
    let n : x ≢ b = neqb→ne x b other in
    let before : T (has x (take count order)) = has-before x b (take count order) n m in
    get_or-set_other index b x (suc count) 0 n ∙ h x before ∙ sym (tag-there 0 x (take count order) (b ∷ []) before)))

-- a number that is not in the list may change
pub tagged-other : (index xs : List ℕ) (b v : ℕ) → T (not (has b xs)) → Tagged index xs → Tagged (set index b v) xs
tagged-other index xs b v new h x m =
    test-elim (eqb x b)
    (λ same. let e : x ≡ b = eqb→eq x b same in absurd (T_not (has b xs) new (rw e at m)))
    (λ other. get_or-set_other index b x v 0 (neqb→ne x b other) ∙ h x m)
