-- How many members pass a test, one member at a time.
use Rattle.std.specs.Prelude.{suc, ◌+◌, ◌≤◌, ◌≡◌, Bool, true, false, List, [], ◌∷◌, ◌++◌}
use Rattle.std.proofs.Common.{arith}
use Rattle.rules.specs.Lists.{count}
use Rattle.rules.specs.Records.{bit}

pub bit-at-most : (b : Bool) → bit b ≤ 1
bit-at-most true = omega arith
bit-at-most false = omega arith

pub count-more : {A : Type 0} (p : A → Bool) (x : A) (xs : List A) → count p (x ∷ xs) ≡ bit (p x) + count p xs
count-more p x xs = go (p x)
  where
    go : (b : Bool) → elim b [ true ↦ suc (count p xs) | false ↦ count p xs ] ≡ bit b + count p xs
    go true = omega arith
    go false = omega arith

pub count-append : {A : Type 0} (p : A → Bool) (xs ys : List A) → count p (xs ++ ys) ≡ count p xs + count p ys
count-append p [] ys = omega arith
count-append p (x ∷ xs) ys = omega (arith, count-more p x (xs ++ ys), count-more p x xs, count-append p xs ys)
