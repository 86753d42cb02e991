-- A table of words is the table of its sets, as a service hands it back.
use Rattle.std.specs.Prelude.{ℕ, zero, suc, ◌+◌, ◌-◌, ◌*◌, ◌/◌, ◌%◌, ◌^◌, ◌<◌, ◌≤◌, ◌≡◌, refl, List, [], ◌∷◌, ◌++◌, map, length, get_or, take, drop, replicate}
use Rattle.std.proofs.Common.{arith, suc-mul, sym, ap, ap₂, ◌∙◌, take-append-drop, length-drop, length-append, length-take-le, get_or-take, get_or-drop, ext_get_or}
use Rattle.std.proofs.lemmas.List.{length-map, length-replicate, get_or-replicate}
use Rattle.rules.specs.Limits.{largest_blocks, row_words, table_words}
use Rattle.rules.specs.Lists.{concat_map, up_from, padded, NumberSet, nothing}
use Rattle.rules.specs.Services.{row_word, table}
use Rattle.rows.specs.Bits.{bit-zero, bits_from-bits}
use Rattle.rows.specs.Rows.{rows, rows-bit}

-- LISTS BY PLACE. A list is what a function gives at its places, n of them from a on,
map-by-place :
    (g : ℕ → ℕ) (a n : ℕ) (l : List ℕ) → length l ≡ n → ((j : ℕ) → j < n → g (a + j) ≡ get_or l j 0)
    → map g (up_from a n) ≡ l
map-by-place g a zero [] e h = refl
map-by-place g a zero (x ∷ l) e h = absurd (omega arith)
map-by-place g a (suc n) [] e h = absurd (omega arith)
map-by-place g a (suc n) (x ∷ l) e h =
    let first : a + 0 ≡ a = omega arith in
    ap₂ (λ y ys. y ∷ ys) (ap g (sym first) ∙ h 0 (omega arith))
    (map-by-place g (suc a) n l (omega arith)
    (λ j m. let next : suc a + j ≡ a + suc j = omega arith in ap g next ∙ h (suc j) (omega arith)))

-- and so a list of m rows, n words each
concat_map-by-place :
    (g : ℕ → ℕ → ℕ) (n a m : ℕ) (l : List ℕ) → length l ≡ m * n
    → ((b j : ℕ) → b < m → j < n → g (a + b) j ≡ get_or l (b * n + j) 0)
    → concat_map (λ b. map (g b) (up_from 0 n)) (up_from a m) ≡ l
concat_map-by-place g n a zero [] e h = refl
concat_map-by-place g n a zero (x ∷ l) e h = absurd (omega arith)
concat_map-by-place g n a (suc m) l e h =
    let fits : n ≤ length l = omega (arith, suc-mul m n) in
    ap₂ (λ x y. x ++ y)
    (map-by-place (g a) 0 n (take n l) (length-take-le n l fits) first)
    (concat_map-by-place g n (suc a) m (drop n l) (omega (arith, length-drop n l, suc-mul m n)) rest)
    ∙ take-append-drop n l
  where
    first : (j : ℕ) → j < n → g a (0 + j) ≡ get_or (take n l) j 0
    first j k =
        let here : a + 0 ≡ a = omega arith in
        let same : 0 + j ≡ j = omega arith in
        let start : 0 * n + j ≡ j = omega arith in
        ap₂ g (sym here) same ∙ h 0 j (omega arith) k ∙ ap (λ i. get_or l i 0) start ∙ sym (get_or-take n l j 0 k)

    rest : (b j : ℕ) → b < m → j < n → g (suc a + b) j ≡ get_or (drop n l) (b * n + j) 0
    rest b j lb lj =
        let next : suc a + b ≡ a + suc b = omega arith in
        let past : suc b * n + j ≡ n + (b * n + j) = omega (arith, suc-mul b n) in
        ap (λ x. g x j) next ∙ h (suc b) j (omega arith) lj ∙ ap (λ i. get_or l i 0) past ∙ sym (get_or-drop n l (b * n + j) 0)

-- the length of such a list
length-up_from : (a n : ℕ) → length (up_from a n) ≡ n
length-up_from a zero = refl
length-up_from a (suc n) = ap suc (length-up_from (suc a) n)

length-rows : (g : ℕ → ℕ → ℕ) (n a m : ℕ) → length (concat_map (λ b. map (g b) (up_from 0 n)) (up_from a m)) ≡ m * n
length-rows g n a zero = omega arith
length-rows g n a (suc m) =
    omega (
      arith,
      length-append (map (g a) (up_from 0 n)) (concat_map (λ b. map (g b) (up_from 0 n)) (up_from (suc a) m)),
      length-map (up_from 0 n) (g a),
      length-up_from 0 n,
      length-rows g n (suc a) m,
      suc-mul m n,
    )

-- the words of a table
pub length-table : (r : ℕ → NumberSet) → length (table r) ≡ table_words
length-table r = length-rows (λ b. row_word (r b)) row_words 0 largest_blocks

-- WORDS. Every number of the list is a word of 64 bits.
abbrev pub Words64 : List ℕ → Type 0
Words64 t = (i : ℕ) → get_or t i 0 < 2 ^ 64

-- a word is the word of its row's set
pub row_word-rows :
    (t : List ℕ) (row k : ℕ) → Words64 t → k < row_words → row_word (rows t row) k ≡ get_or t (row_words * row + k) 0
row_word-rows t row k w l =
    bits_from-bits 64 (64 * k) (get_or t (row_words * row + k) 0) (rows t row) (w (row_words * row + k)) (λ i m. rows-bit t row k i l m)

-- at every place
word_at :
    (t : List ℕ) → Words64 t → (i : ℕ) → get_or t i 0 ≡ row_word (rows t (i / row_words)) (i % row_words)
word_at t w i =
    let place : row_words * (i / row_words) + i % row_words ≡ i = omega arith in
    ap (λ j. get_or t j 0) (sym place) ∙ sym (row_word-rows t (i / row_words) (i % row_words) w (omega arith))

-- So the sets fix every word: two tables of one length that have the same sets are the same, to their end.
pub rows_same : (t u : List ℕ) → length t ≡ length u → Words64 t → Words64 u → rows t ≡ rows u → t ≡ u
rows_same t u e wt wu same =
    ext_get_or 0 t u e
    (λ i _. word_at t wt i ∙ ap (λ r. row_word (r (i / row_words)) (i % row_words)) same ∙ sym (word_at u wu i))

-- THE TABLE. The words of all blocks' rows are the table of their sets,
table-front : (t : List ℕ) → table_words ≤ length t → Words64 t → take table_words t ≡ table (rows t)
table-front t fits w =
    sym (concat_map-by-place (λ b. row_word (rows t b)) row_words 0 largest_blocks (take table_words t)
    (length-take-le table_words t fits)
    (λ b j m l.
    let row : 0 + b ≡ b = omega arith in
    let place : row_words * b + j ≡ b * row_words + j = omega arith in
    ap (λ x. row_word (rows t x) j) row ∙ row_word-rows t b j w l ∙ ap (λ i. get_or t i 0) place
    ∙ sym (get_or-take table_words t (b * row_words + j) 0 (omega arith))))

-- and of a longer one, where the rows beyond are empty, the rest is zeros.
pub table-padded :
    (t : List ℕ) → table_words ≤ length t → Words64 t → ((b : ℕ) → largest_blocks ≤ b → rows t b ≡ nothing)
    → t ≡ padded (length t) (table (rows t))
table-padded t fits w beyond =
    sym (take-append-drop table_words t) ∙ ap₂ (λ x y. x ++ y) (table-front t fits w) rest
  where
    zero_word : (i : ℕ) → table_words ≤ i → get_or t i 0 ≡ 0
    zero_word i l =
        let k = i % row_words in
        let none : row_word nothing k ≡ 0 =
        bits_from-bits 64 (64 * k) 0 nothing (omega arith) (λ j _. sym (bit-zero j)) in
        word_at t w i ∙ ap (λ s. row_word s k) (beyond (i / row_words) (omega arith)) ∙ none

    rest : drop table_words t ≡ replicate (length t - length (table (rows t))) 0
    rest =
        let long : length t - length (table (rows t)) ≡ length t - table_words =
        ap (λ n. length t - n) (length-table (rows t)) in
        rw long
        (ext_get_or 0 (drop table_words t) (replicate (length t - table_words) 0)
        (length-drop table_words t ∙ sym (length-replicate (length t - table_words) 0))
        (λ i l.
        let m : i < length t - table_words = omega (arith, length-drop table_words t) in
        get_or-drop table_words t i 0 ∙ zero_word (table_words + i) (omega arith)
        ∙ sym (get_or-replicate (length t - table_words) i 0 0 m)))
