-- A table of words read as sets: one row a block, value v at bit v mod 64 of word v / 64 of its row.
use Rattle.std.specs.Prelude.{ℕ, zero, suc, ◌+◌, ◌-◌, ◌*◌, ◌/◌, ◌%◌, ◌<◌, ◌≤◌, ◌≡◌, refl, ◌≢◌, Bool, true, false, not, ◌&&◌, ◌||◌, List, [], ◌∷◌, length, get_or, replicate, T, eqb, ltb}
use Rattle.std.proofs.Common.{arith, sym, ap, subst, ◌∙◌, eqb→eq, ltb→lt, nltb→le, eq-eqb, ne_eqb, lt-ltb, le-ltb}
use Rattle.std.proofs.lemmas.List.{get_or-replicate, length-replicate}
use Rattle.std.proofs.Math.ListN.{get_or-eq_default}
use Rattle.rules.specs.Limits.{row_words}
use Rattle.rules.specs.Lists.{keep, up_from, update, NumberSet, nothing, members}
use Rattle.lists.specs.Tests.{test-elim, neqb→ne}
use Rattle.rows.specs.Bits.{bit_at, bit-zero}
use Rattle.rows.specs.Passed.{keep-passed}

-- the values that a row has bits for
abbrev pub row_values : ℕ
row_values = 64 * row_words

-- the sets of a table, by row; a word beyond its end reads as zero
unfoldable pub rows : List ℕ → ℕ → NumberSet
rows t row v = ltb v row_values && bit_at (get_or t (row_words * row + v / 64) 0) (v % 64)

-- the table has the row
abbrev pub HasRow : List ℕ → ℕ → Type 0
HasRow t row = row_words * row + row_words ≤ length t

-- what a block's rule gives from its live-out: its uses, and of live-out what it does not kill
abbrev pub by_rule : NumberSet → NumberSet → NumberSet → NumberSet
by_rule uses kills out v = uses v || (out v && not (kills v))

-- a set without another
abbrev pub minus : NumberSet → NumberSet → NumberSet
minus a b v = a v && not (b v)

module _ (t : List ℕ) (row : ℕ) where
  -- a value that a row has a bit for is in its set if that bit is one,
  pub rows-word : (v : ℕ) → v < row_values → rows t row v ≡ bit_at (get_or t (row_words * row + v / 64) 0) (v % 64)
  unfolding rows
  rows-word v l = rw (lt-ltb v row_values l)

  -- by word and bit,
  pub rows-bit : (k i : ℕ) → k < row_words → i < 64 → rows t row (64 * k + i) ≡ bit_at (get_or t (row_words * row + k) 0) i
  rows-bit k i l m =
      let word : (64 * k + i) / 64 ≡ k = omega arith in
      let place : (64 * k + i) % 64 ≡ i = omega arith in
      rows-word (64 * k + i) (omega arith) ∙ rw (word, place)

  -- and no other value is
  pub rows-far : (v : ℕ) → row_values ≤ v → rows t row v ≡ false
  unfolding rows
  rows-far v l = rw (le-ltb v row_values l)

-- a row is a set if its words are, bit by bit, and it has no value beyond
pub rows_ext :
    (t : List ℕ) (row : ℕ) (s : NumberSet)
    → ((k i : ℕ) → k < row_words → i < 64 → bit_at (get_or t (row_words * row + k) 0) i ≡ s (64 * k + i))
    → ((v : ℕ) → row_values ≤ v → s v ≡ false) → rows t row ≡ s
rows_ext t row s inside beyond = λ i v. point v i
  where
    point : (v : ℕ) → rows t row v ≡ s v
    point v =
        test-elim (ltb v row_values)
        (λ h.
        let l : v < row_values = ltb→lt v row_values h in
        let whole : 64 * (v / 64) + v % 64 ≡ v = omega arith in
        rows-word t row v l ∙ inside (v / 64) (v % 64) (omega arith) (omega arith) ∙ ap s whole)
        (λ h.
        let l : row_values ≤ v = nltb→le v row_values h in
        rows-far t row v l ∙ rw (beyond v l))

-- ONE ROW CHANGED: where the words of all others are kept, so are their sets.
pub rows-changed :
    (d e : List ℕ) (row : ℕ) (s : NumberSet)
    → ((i : ℕ) → i < row_words * row → get_or e i 0 ≡ get_or d i 0)
    → ((i : ℕ) → row_words * row + row_words ≤ i → get_or e i 0 ≡ get_or d i 0) → rows e row ≡ s
    → rows e ≡ update row s (rows d)
rows-changed d e row s below above here = λ i b. point b i
  where
    other : (b : ℕ) → b ≢ row → (k : ℕ) → k < row_words → get_or e (row_words * b + k) 0 ≡ get_or d (row_words * b + k) 0
    other b ne k l =
        test-elim (ltb b row)
        (λ h. let m : b < row = ltb→lt b row h in below (row_words * b + k) (omega arith))
        (λ h. let m : row ≤ b = nltb→le b row h in above (row_words * b + k) (omega arith))

    point : (b : ℕ) → rows e b ≡ update row s (rows d) b
    point b =
        test-elim (eqb b row)
        (λ h. let q : b ≡ row = eqb→eq b row h in rw (q, eq-eqb row row refl) here)
        (λ h.
        let q : b ≢ row = neqb→ne b row h in
        rw (ne_eqb b row q)
        (rows_ext e b (rows d b) (λ k i l m. ap (λ x. bit_at x i) (other b q k l) ∙ sym (rows-bit d b k i l m)) (rows-far d b)))

-- A ROW WITHOUT WORDS has no value.
pub rows_none : (t : List ℕ) (row : ℕ) → ((k : ℕ) → k < row_words → get_or t (row_words * row + k) 0 ≡ 0) → rows t row ≡ nothing
rows_none t row h = rows_ext t row nothing (λ k i l m. rw (h k l) (bit-zero i)) (λ _ _. refl)

-- a word of zeros, and one beyond the end, is zero
zeros-at : (n i : ℕ) → get_or {A = ℕ} (replicate n 0) i 0 ≡ 0
zeros-at n i =
    test-elim (ltb i n) (λ h. get_or-replicate n i 0 0 (ltb→lt i n h))
    (λ h. get_or-eq_default (replicate n 0) 0 (omega (arith, nltb→le i n h, length-replicate {A = ℕ} n 0)))

-- so a table of zeros has only empty sets
pub rows-zeros : (n : ℕ) → rows (replicate n 0) ≡ (λ _. nothing)
rows-zeros n = λ i b. rows_none (replicate n 0) b (λ k _. zeros-at n (row_words * b + k)) i

-- HOW MANY VALUES a row's set has: the Rust's `len()`.
unfoldable pub size : NumberSet → ℕ
size s = length (members row_values s)

-- a set that has no value from a on has no member there
keep-none : (s : NumberSet) (a n : ℕ) → ((v : ℕ) → a ≤ v → s v ≡ false) → keep s (up_from a n) ≡ []
keep-none s a zero h = refl
keep-none s a (suc n) h = rw (h a (omega arith)) (keep-none s (suc a) n (λ v l. h v (omega arith)))

-- so its members are those before
pub keep-below :
    (s : NumberSet) (a n k : ℕ) → ((v : ℕ) → a + n ≤ v → s v ≡ false) → keep s (up_from a (n + k)) ≡ keep s (up_from a n)
keep-below s a zero k h = let all : 0 + k ≡ k = omega arith in rw all (keep-none s a k (λ v l. h v (omega arith)))
keep-below s a (suc n) k h =
    let more : suc n + k ≡ suc (n + k) = omega arith in
    rw more (ap {B = List ℕ} (λ r. elim (s a) [ true ↦ a ∷ r | false ↦ r ]) (keep-below s (suc a) n k (λ v l. h v (omega arith))))

-- It is that of the members below n, where the set has no value from n on.
pub size-members :
    (n : ℕ) (s : NumberSet) → n ≤ row_values → ((v : ℕ) → n ≤ v → s v ≡ false) → size s ≡ length (members n s)
unfolding size
size-members n s l h =
    let whole : row_values ≡ n + (row_values - n) = omega arith in
    ap (λ m. length (members m s)) whole ∙ ap length (keep-below s 0 n (row_values - n) (λ v k. h v (omega arith)))

-- A set of no values has no member,
kept-none : (s : NumberSet) (a n : ℕ) → length (keep s (up_from a n)) ≡ 0 → (i : ℕ) → i < n → s (a + i) ≡ false
kept-none s a zero e i l = absurd (omega arith)
kept-none s a (suc n) e zero l = let here : a + 0 ≡ a = omega arith in ap s here ∙ first (s a) e
  where
    first : (b : Bool) → length {A = ℕ} (elim b [ true ↦ a ∷ keep s (up_from (suc a) n) | false ↦ keep s (up_from (suc a) n) ]) ≡ 0 → b ≡ false
    first true q = absurd (omega arith)
    first false q = refl
kept-none s a (suc n) e (suc i) l =
    let next : a + suc i ≡ suc a + i = omega arith in
    ap s next ∙ kept-none s (suc a) n (rest (s a) e) i (omega arith)
  where
    rest : (b : Bool) → length {A = ℕ} (elim b [ true ↦ a ∷ keep s (up_from (suc a) n) | false ↦ keep s (up_from (suc a) n) ]) ≡ 0 → length (keep s (up_from (suc a) n)) ≡ 0
    rest true q = absurd (omega arith)
    rest false q = q

pub size_none : (s : NumberSet) → size s ≡ 0 → (v : ℕ) → v < row_values → s v ≡ false
unfolding size
size_none s e v l = let here : 0 + v ≡ v = omega arith in ap s (sym here) ∙ kept-none s 0 row_values e v l

-- and the other way round
pub none-size : (s : NumberSet) → ((v : ℕ) → v < row_values → s v ≡ false) → size s ≡ 0
unfolding size
none-size s h =
    let all : row_values - 0 ≡ row_values = omega arith in
    let left : row_values - row_values ≡ 0 = omega arith in
    ap (λ n. length (keep s (up_from 0 n))) (sym all)
    ∙ ap length (keep-passed s 0 row_values row_values (omega arith) (omega arith) (λ u _ l. h u l))
    ∙ ap (λ n. length (keep s (up_from row_values n))) left

-- AN ANSWER that a set is empty
pub empty-size : {b : Bool} (s : NumberSet) → b ≡ eqb (size s) 0 → b ≡ true → size s ≡ 0
empty-size s e h = eqb→eq (size s) 0 (subst T (sym h ∙ e) tt)
