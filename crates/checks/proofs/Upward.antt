-- A test of the first numbers of a table is one of their places.
use Prim.Native.Nat.{ℕ, zero, suc, ◌≤◌}
use mathlib.Core.Path.{◌≡◌, refl, sym, ap, ◌∙◌}
use mathlib.Core.Bool.{Bool, ◌&&◌}
use mathlib.Core.List.{List, [], ◌∷◌}
use lib.ListN.{length, take, get_or}
use native.Mathlib.Omega.{arith}
use Rattle.std.specs.List.{list_all}
use Rattle.rules.specs.Lists.{all, up_from}

all-up_from-shift : (q : ℕ → Bool) (k n : ℕ) → all q (up_from (suc k) n) ≡ all (λ v. q (suc v)) (up_from k n)
all-up_from-shift q k zero = refl
all-up_from-shift q k (suc n) = ap (λ b. q (suc k) && b) (all-up_from-shift q (suc k) n)

pub all-by-place : (p : ℕ → Bool) (t : List ℕ) (n : ℕ) → n ≤ length t → list_all p (take n t) ≡ all (λ v. p (get_or t v 0)) (up_from 0 n)
all-by-place p t zero h = refl
all-by-place p [] (suc n) h = absurd (omega arith)
all-by-place p (x ∷ t) (suc n) h =
    ap (λ b. p x && b) (all-by-place p t n (omega arith) ∙ sym (all-up_from-shift (λ v. p (get_or (x ∷ t) v 0)) 0 n))
