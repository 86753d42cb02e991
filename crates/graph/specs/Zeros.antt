-- Lent tables that are zero at the start, and what is stored in them from the front.
use Rattle.std.specs.Prelude.{ℕ, zero, suc, ◌+◌, ◌-◌, ◌<◌, ◌≤◌, ◌≡◌, refl, List, [], ◌∷◌, ◌++◌, length, get_or, take, drop, replicate, ltb}
use Rattle.std.proofs.Common.{sym, ap, ◌∙◌, arith, length-append, length-take-le, get_or-take, ext_get_or, ltb→lt, nltb→le}
use Rattle.std.proofs.lemmas.List.{length-replicate}
use Rattle.std.proofs.Math.ListN.{get_or-eq_default}
use Rattle.std.proofs.lemmas.List.Edits.{sets, sets-eq}
use Rattle.rules.specs.Lists.{padded}
use Rattle.lists.specs.Tests.{test-elim}

-- nothing but zeros
abbrev pub Zeros : List ℕ → Type 0
Zeros table = table ≡ replicate (length table) 0

drop-zeros : (k n : ℕ) → drop k (replicate {A = ℕ} n 0) ≡ replicate (n - k) 0
drop-zeros zero n = let e : n - 0 ≡ n = omega arith in rw e
drop-zeros (suc k) zero = let e : 0 - suc k ≡ 0 = omega arith in rw e
drop-zeros (suc k) (suc n) = let e : suc n - suc k ≡ n - k = omega arith in rw e (drop-zeros k n)

-- what is stored at the front has zeros behind it
pub sets-padded :
    (table xs : List ℕ) → Zeros table → length xs ≤ length table → sets table 0 xs ≡ padded (length table) xs
sets-padded table xs zeros l =
    let n : 0 + length xs ≡ length xs = omega arith in
    sets-eq xs table 0 (omega arith)
    ∙ ap (λ (k : ℕ). xs ++ drop k table) n
    ∙ ap (λ (t : List ℕ). xs ++ drop (length xs) t) zeros
    ∙ ap (λ (t : List ℕ). xs ++ t) (drop-zeros (length xs) (length table))

-- a table of zeros has 0 everywhere,
pub get_d-zeros : (n i : ℕ) → get_or (replicate {A = ℕ} n 0) i 0 ≡ 0
get_d-zeros zero i = refl
get_d-zeros (suc n) zero = refl
get_d-zeros (suc n) (suc i) = get_d-zeros n i

-- and zeros behind a table change no entry
pub get_d-padded : (n : ℕ) (xs : List ℕ) (i : ℕ) → get_or (padded n xs) i 0 ≡ get_or xs i 0
get_d-padded n xs i = behind xs i
  where
    zeros : List ℕ
    zeros = replicate (n - length xs) 0

    behind : (ys : List ℕ) (i : ℕ) → get_or (ys ++ zeros) i 0 ≡ get_or ys i 0
    behind [] i = get_d-zeros (n - length xs) i
    behind (y ∷ ys) zero = refl
    behind (y ∷ ys) (suc i) = behind ys i

pub length-padded-le : (n : ℕ) (xs : List ℕ) → length xs ≤ length (padded n xs)
length-padded-le n xs = omega (arith, length-append xs (replicate (n - length xs) 0))

pub length-padded : (n : ℕ) (xs : List ℕ) → length xs ≤ n → length (padded n xs) ≡ n
length-padded n xs l =
    omega (arith, length-append xs (replicate (n - length xs) 0), length-replicate {A = ℕ} (n - length xs) 0)

-- a table that is so long
pub padded-own : (table xs : List ℕ) (n : ℕ) → table ≡ padded n xs → length table ≡ n → table ≡ padded (length table) xs
padded-own table xs n e l = e ∙ ap (λ (k : ℕ). padded k xs) (sym l)

pub zeros-zeros : (n : ℕ) → Zeros (replicate n 0)
zeros-zeros n = ap (λ (k : ℕ). replicate {A = ℕ} k 0) (sym (length-replicate {A = ℕ} n 0))

pub zeros-at : {table : List ℕ} → Zeros table → (i : ℕ) → get_or table i 0 ≡ 0
zeros-at {table} z i = ap (λ (t : List ℕ). get_or t i 0) z ∙ get_d-zeros (length table) i

-- So a table that has a list at its front and 0 everywhere behind is that list with zeros behind it.
pub padded-ext :
    (table xs : List ℕ) (k : ℕ) → take k table ≡ xs → k ≤ length table → ((i : ℕ) → k ≤ i → get_or table i 0 ≡ 0)
    → table ≡ padded (length table) xs
padded-ext table xs k front l zeros = ext_get_or 0 table (padded (length table) xs) long each
  where
    short : length xs ≡ k
    short = sym (ap length front) ∙ length-take-le k table l

    long : length table ≡ length (padded (length table) xs)
    long =
        omega (
          arith,
          short,
          length-append xs (replicate (length table - length xs) 0),
          length-replicate {A = ℕ} (length table - length xs) 0,
        )

    each : (i : ℕ) → i < length table → get_or table i 0 ≡ get_or (padded (length table) xs) i 0
    each i h =
        test-elim (ltb i k)
        (λ t.
        let less : i < k = ltb→lt i k t in
        sym (get_or-take k table i 0 less) ∙ ap (λ (t : List ℕ). get_or t i 0) front ∙ sym (get_d-padded (length table) xs i))
        (λ t.
        let more : k ≤ i = nltb→le i k t in
        let out : get_or xs i 0 ≡ 0 = get_or-eq_default xs 0 (omega (arith, short)) in
        zeros i more ∙ sym (get_d-padded (length table) xs i ∙ out))
