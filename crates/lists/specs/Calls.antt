-- Whether a call is answered, as a test and as a value, and what it says of the grounds to refuse it.
use Rattle.std.specs.Prelude.{◌≡◌, refl, Bool, true, false, not, List, [], ◌∷◌, ◌++◌, Result, Ok, Err, T, is_ok}
use Rattle.std.proofs.Common.{subst}
use Rattle.rules.specs.Refusals.{Ground, first_of}
use Rattle.rules.specs.Services.{answering}
use Rattle.rules.specs.declared.Refusal.{Refusal}

-- a call that is answered passes
pub passed-ok : (v : Result Unit Refusal) → T (is_ok v) → v ≡ Ok tt
passed-ok (Ok _) t = refl
passed-ok (Err e) t = absurd t

-- and an answer is given only where it passes
pub answered-passes : {A : Type 0} (v : Result Unit Refusal) (a : A) → T (is_ok (answering v a)) → T (is_ok v)
answered-passes (Ok _) a t = tt
answered-passes (Err e) a t = t

-- no ground of a list applies
abbrev pub NoneApplies : List Ground → Type 0
NoneApplies [] = Unit
NoneApplies (x ∷ xs) = T (not x.applies) × NoneApplies xs

-- the first of a list, by whether its first ground applies
abbrev first_by : Ground → Result Unit Refusal → Bool → Result Unit Refusal
first_by x later b = elim b [ true ↦ Err x.why | false ↦ later ]

-- where the call is answered none does
pub none-applies : (xs : List Ground) → first_of xs ≡ Ok tt → NoneApplies xs
none-applies [] e = tt
none-applies (x ∷ xs) e = go x.applies (none-applies xs) e
  where
    go : (b : Bool) → (first_of xs ≡ Ok tt → NoneApplies xs) → first_by x (first_of xs) b ≡ Ok tt → T (not b) × NoneApplies xs
    go true later e = absurd (subst (λ r. T (not (is_ok r))) e tt)
    go false later e = (tt, later e)

-- A list is gone down only where the grounds in front let the call pass.
pub passed-append : (xs ys : List Ground) → first_of xs ≡ Ok tt → first_of (xs ++ ys) ≡ first_of ys
passed-append [] ys e = refl
passed-append (x ∷ xs) ys e = go x.applies (passed-append xs ys) e
  where
    go : (b : Bool) → (first_of xs ≡ Ok tt → first_of (xs ++ ys) ≡ first_of ys)
        → first_by x (first_of xs) b ≡ Ok tt → first_by x (first_of (xs ++ ys)) b ≡ first_of ys
    go true later e = absurd (subst (λ r. T (not (is_ok r))) e tt)
    go false later e = later e

pub refused-append : (xs ys : List Ground) {why : Refusal} → first_of xs ≡ Err why → first_of (xs ++ ys) ≡ Err why
refused-append [] ys e = absurd (subst (λ r. T (is_ok r)) e tt)
refused-append (x ∷ xs) ys {why} e = go x.applies (refused-append xs ys) e
  where
    go : (b : Bool) → (first_of xs ≡ Err why → first_of (xs ++ ys) ≡ Err why)
        → first_by x (first_of xs) b ≡ Err why → first_by x (first_of (xs ++ ys)) b ≡ Err why
    go true later e = e
    go false later e = later e
