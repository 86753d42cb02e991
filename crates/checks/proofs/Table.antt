-- A rule of a table, proved at all of its places by one test that is computed.
use Prim.Native.Nat.{ℕ, zero, suc, ◌+◌, ◌<◌}
use mathlib.Core.Bool.{Bool}
use mathlib.Core.Path.{◌≡◌}
use native.Mathlib.Omega.{arith}
use lib.Dec.{T}
use Rattle.rules.specs.Lists.{all, up_from}
use Rattle.lists.specs.Tests.{and_left, and_right}

pub all_from : (p : ℕ → Bool) (n k : ℕ) → T (all p (up_from n k)) → (i : ℕ) → i < k → T (p (n + i))
all_from p n zero h i l = absurd (omega arith)
all_from p n (suc k) h zero l =
    let e : n + 0 ≡ n = omega arith in
    rw e (and_left (p n) (all p (up_from (suc n) k)) h)
all_from p n (suc k) h (suc i) l =
    let e : n + suc i ≡ suc n + i = omega arith in
    rw e (all_from p (suc n) k (and_right (p n) (all p (up_from (suc n) k)) h) i (omega arith))

-- a test that all numbers below k pass
pub all-below : (p : ℕ → Bool) (k : ℕ) → T (all p (up_from 0 k)) → (i : ℕ) → i < k → T (p i)
all-below p k h i l =
    let e : 0 + i ≡ i = omega arith in
    rw e at (all_from p 0 k h i l)
