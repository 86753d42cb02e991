-- The weight of the numbers below a bound that a set lacks. It falls as the set grows: so it bounds how deep a walk
-- goes, how many steps a machine takes, and how long a list of different numbers is.
use Prim.Native.Nat.{ℕ, zero, suc, ◌+◌, ◌≤◌, ◌<◌}
use native.Mathlib.Omega.{arith}
use Rattle.std.specs.Prelude.{◌≡◌, refl, Bool, true, false, not, length, T, eqb}
use mathlib.Core.List.{List, [], ◌∷◌, Nodup, Nodup-cons}
use Rattle.std.proofs.Math.Dec.{not_T, eqb→eq}
use Rattle.rules.specs.Lists.{has, NumberSet, nothing}
use Rattle.lists.specs.Tests.{test-elim, neqb→ne}
use Rattle.lists.specs.Sets.{Within, insert, insert-here, insert-there}
use Rattle.lists.specs.Members.{◌∈◌, here, there, has→∈}

-- a weight that counts unless the test passes
abbrev pub unless : Bool → ℕ → ℕ
unless true w = 0
unless false w = w

-- the weight of the numbers below n that are not in the set
unfoldable pub lack : (ℕ → ℕ) → ℕ → NumberSet → ℕ
lack w zero s = 0
lack w (suc n) s = lack w n s + unless (s n) (w n)

-- each number weighs one
abbrev pub one : ℕ → ℕ
one _ = 1

unless-mono : (w : ℕ) (a b : Bool) → (T a → T b) → unless b w ≤ unless a w
unless-mono w true true h = omega arith
unless-mono w true false h = absurd (h tt)
unless-mono w false true h = omega arith
unless-mono w false false h = omega arith

unless-yes : (w : ℕ) (a : Bool) → T a → unless a w ≡ 0
unless-yes w true h = refl
unless-yes w false h = absurd h

unless-no : (w : ℕ) (a : Bool) → T (not a) → unless a w ≡ w
unless-no w true h = absurd h
unless-no w false h = refl

module _ (w : ℕ → ℕ) where
  -- a larger set lacks no more
  pub lack-mono : (n : ℕ) (s t : NumberSet) → Within s t → lack w n t ≤ lack w n s
  unfolding lack
  lack-mono zero s t h = omega arith
  lack-mono (suc n) s t h = omega (arith, lack-mono n s t h, unless-mono (w n) (s n) (t n) (h n))

  -- a larger set with a number that the smaller one lacks, lacks less by that number's weight
  pub lack-drop :
      (n : ℕ) (s t : NumberSet) (b : ℕ) → Within s t → b < n → T (not (s b)) → T (t b) → lack w n t + w b ≤ lack w n s
  unfolding lack
  lack-drop zero s t b h l out into = absurd (omega arith)
  lack-drop (suc n) s t b h l out into =
      test-elim (eqb b n)
      (λ same.
      let e : b ≡ n = eqb→eq b n same in
      let before : unless (s n) (w n) ≡ w n = unless-no (w n) (s n) (rw e at out) in
      let after : unless (t n) (w n) ≡ 0 = unless-yes (w n) (t n) (rw e at into) in
      rw e (omega (arith, lack-mono n s t h)))
      (λ other.
      let less : b < n = omega (arith, neqb→ne b n other) in
      omega (arith, lack-drop n s t b h less out into, unless-mono (w n) (s n) (t n) (h n)))

  -- so does a set with one number more
  pub lack-insert : (n : ℕ) (s : NumberSet) (b : ℕ) → b < n → T (not (s b)) → lack w n (insert b s) + w b ≤ lack w n s
  lack-insert n s b l out = lack-drop n s (insert b s) b (insert-there b s) l out (insert-here b s refl)

-- no more than n numbers below n are lacking
pub lack-one-le : (n : ℕ) (s : NumberSet) → lack one n s ≤ n
unfolding lack
lack-one-le zero s = omega arith
lack-one-le (suc n) s = omega (arith, lack-one-le n s, unless-mono 1 false (s n) (λ h. absurd h))

-- a list of different numbers below n, and the numbers that it lacks
nodup-lack :
    (n : ℕ) (l : List ℕ) → Nodup l → ((x : ℕ) → x ∈ l → x < n) → length l + lack one n (λ x. has x l) ≤ n
nodup-lack n [] d h = omega (arith, lack-one-le n nothing)
nodup-lack n (b ∷ l) d h =
    let parts = Nodup-cons.0 d in
    let new : T (not (has b l)) = not_T (has b l) (λ k. parts.0 ∣ has→∈ l k ∣₁) in
    omega (
      arith,
      nodup-lack n l parts.1 (λ x m. h x (there m)),
      lack-insert one n (λ x. has x l) b (h b (here refl)) new,
    )

-- different numbers below n are no more than n
pub nodup-length-le : (n : ℕ) (l : List ℕ) → Nodup l → ((x : ℕ) → x ∈ l → x < n) → length l ≤ n
nodup-length-le n l d h = omega (arith, nodup-lack n l d h)
