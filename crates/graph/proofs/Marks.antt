-- Tables of tags and lists by index, changed at one place.
use Prim.Native.Nat.{ℕ, ◌+◌, ◌<◌}
use mathlib.Core.Path.{◌≡◌, refl, ap, ◌∙◌}
use mathlib.Core.Logic.{◌≢◌}
use mathlib.Core.Bool.{not, ◌||◌}
use mathlib.Core.List.{List, [], ◌∷◌, reverse, reverse-append}
use native.Mathlib.Numerals.{add-one}
use borrow.Author.Tests.{eq-eqb, ne_eqb}
use lib.ListN.{length, get_or, set, take}
use lib.Seq.{get_or-set_same, get_or-set_other, take-suc-set}
use lib.Dec.{eqb, eqb→eq}
use Rattle.lists.specs.Tests.{test-elim, neqb→ne}

-- one more at the end of a list by index is one more at the front of the list turned round
pub done_more :
    (order : List ℕ) (count b : ℕ) → count < length order
    → reverse (take (count + 1) (set order count b)) ≡ b ∷ reverse (take count order)
done_more order count b l =
    ap (λ (k : ℕ). reverse (take k (set order count b))) (add-one count)
    ∙ ap reverse (take-suc-set order count b l)
    ∙ reverse-append (take count order) (b ∷ [])

-- a tag that is set marks its block
pub mark_set :
    (index : List ℕ) (b v : ℕ) → b < length index → v ≢ 0 → (x : ℕ)
    → not (eqb (get_or (set index b v) x 0) 0) ≡ (eqb x b || not (eqb (get_or index x 0) 0))
mark_set index b v l some x =
    test-elim (eqb x b)
    (λ same.
    let e : x ≡ b = eqb→eq x b same in
    rw (e, get_or-set_same index b v 0 l, eq-eqb b b refl, ne_eqb v 0 some) refl)
    (λ other.
    let n : x ≢ b = neqb→ne x b other in
    rw (get_or-set_other index b x v 0 n, ne_eqb x b n) refl)

-- and one that is changed marks what was marked
pub mark-kept :
    (index : List ℕ) (b v : ℕ) → b < length index → v ≢ 0 → get_or index b 0 ≢ 0 → (x : ℕ)
    → not (eqb (get_or (set index b v) x 0) 0) ≡ not (eqb (get_or index x 0) 0)
mark-kept index b v l some marked x =
    mark_set index b v l some x
    ∙ test-elim (eqb x b)
    (λ same.
    let e : x ≡ b = eqb→eq x b same in
    rw (e, eq-eqb b b refl, ne_eqb (get_or index b 0) 0 marked) refl)
    (λ other. rw (ne_eqb x b (neqb→ne x b other)) refl)
