-- A record of the table is read by its words as they stand, and in a file in order every record is of the table.
use Rattle.std.specs.Prelude.{ℕ, zero, suc, ◌+◌, ◌*◌, ◌<◌, ◌≡◌, refl, Bool, false, not, ◌&&◌, cond, List, [], ◌∷◌, length, get_or}
use Rattle.std.proofs.Common.{sym, ap₂, ◌∙◌, eqb→eq, leb→le}
use Rattle.std.proofs.Math.Path.{ap, subst}
use Rattle.std.proofs.Math.Bool.{true}
use native.Mathlib.Omega.{arith}
use Rattle.std.proofs.Math.Dec.{T, leb, eqb, nleb→lt}
use Rattle.rules.specs.Limits.{record_bytes}
use Rattle.rules.specs.Lists.{all, has}
use Rattle.rules.specs.Records.{word_at, words, bit, slot_sizes, log2, is_safepoint, is_terminator, edge_argument, encode, kind, decode, record_at, record_count, records}
use Rattle.rules.specs.File.{followers, ordered}
use Rattle.rules.specs.declared.Words.{Words}
use Rattle.rules.specs.declared.Record.{Record}
use Rattle.rules.specs.declared.Record.TheVariants as record'
use Rattle.lists.specs.Tests.{T_and, and_left, and_right}
use Rattle.records.specs.Kinds.{Kinds}
use Rattle.records.specs.InOrder.{ordered-chain, kept_by, chain-good}
use Rattle.records.specs.Places.{record-there, records-length}

-- a record of the table
abbrev pub InTable : Record → Type 0
InTable r = T (leb 1 (kind r))

-- whether four words are one
unfoldable pub in_table : Words → Bool
in_table w = leb 1 (kind (decode w.kind w.second w.third w.fourth))

-- the four words at the place of record i, whatever they are
abbrev pub four_words : List ℕ → ℕ → Words
four_words s i = words (word_at s (record_bytes * i)) (word_at s (record_bytes * i + 4)) (word_at s (record_bytes * i + 8)) (word_at s (record_bytes * i + 12))

-- THE TABLE. What it reads, it writes as it stood.
bit-of-word : (b : ℕ) → T (leb b 1) → bit (eqb b 1) ≡ b
bit-of-word zero h = refl
bit-of-word (suc zero) h = refl
bit-of-word (suc (suc b)) h = let l = leb→le (suc (suc b)) 1 h in absurd (omega arith)

flags-of-word : (a : ℕ) → T (leb a 3) → bit (is_safepoint a) + 2 * bit (is_terminator a) ≡ a
flags-of-word zero h = refl
flags-of-word (suc zero) h = refl
flags-of-word (suc (suc zero)) h = refl
flags-of-word (suc (suc (suc zero))) h = refl
flags-of-word (suc (suc (suc (suc a)))) h = let l = leb→le (suc (suc (suc (suc a)))) 3 h in absurd (omega arith)

argument-of-words : (a b : ℕ) → T (leb a 2) → encode (record'.EdgeArgument (edge_argument a b)) ≡ words 8 a b 0
argument-of-words zero b h = refl
argument-of-words (suc zero) b h = refl
argument-of-words (suc (suc zero)) b h = refl
argument-of-words (suc (suc (suc a))) b h = let l = leb→le (suc (suc (suc a))) 2 h in absurd (omega arith)

module _ (k a b c : ℕ) where
  -- a record that has these words, if it is of the table
  abbrev StandsAs : Record → Type 0
  StandsAs r = InTable r → encode r ≡ words k a b c

  choose : (t : Bool) (x y : Record) → (T t → StandsAs x) → StandsAs y → StandsAs (cond t x y)
  choose true x y f g = f tt
  choose false x y f g = g

  -- of kind j, word 4 unused, the others as a test has them
  three : (j : ℕ) (t : Bool) (r : Record) → (T t → encode r ≡ words j a b 0) → T (eqb k j) → StandsAs (cond (eqb c 0 && t) r record'.Outside)
  three j t r e kj =
      choose (eqb c 0 && t) r record'.Outside
      (λ h _. let both = T_and (eqb c 0) t h in e both.1 ∙ ap₂ (λ i d. words i a b d) (sym (eqb→eq k j kj)) (sym (eqb→eq c 0 both.0))) (λ h. absurd h)

  -- of kind j, words 3 and 4 unused
  two : (j : ℕ) (r : Record) → encode r ≡ words j a 0 0 → T (eqb k j) → StandsAs (cond (eqb b 0 && eqb c 0) r record'.Outside)
  two j r e kj =
      choose (eqb b 0 && eqb c 0) r record'.Outside
      (λ h _.
      let both = T_and (eqb b 0) (eqb c 0) h in
      e ∙ ap (λ i. words i a 0 0) (sym (eqb→eq k j kj)) ∙ ap₂ (λ x y. words k a x y) (sym (eqb→eq b 0 both.0)) (sym (eqb→eq c 0 both.1))) (λ h. absurd h)

  pub decode-words : StandsAs (decode k a b c)
  unfolding decode
  decode-words =
      choose (eqb k 1) _ _
      (three 1 (leb 1 a && leb a 64 && leb b 1) (record'.Value a (eqb b 1))
      (λ h. ap (λ m. words 1 a m 0) (bit-of-word b (and_right (leb 1 a && leb a 64) (leb b 1) h))))
      (choose (eqb k 2) _ _ (three 2 (leb a 1) (record'.Block (eqb a 1) b) (λ h. ap (λ m. words 2 m b 0) (bit-of-word a h)))
      (choose (eqb k 3) _ _ (two 3 (record'.Parameter a) refl)
      (choose (eqb k 4) _ _ (three 4 (leb a 3) (record'.Instruction (is_safepoint a) (is_terminator a) b) (λ h. ap (λ m. words 4 m b 0) (flags-of-word a h)))
      (choose (eqb k 5) _ _ (two 5 (record'.Result a) refl)
      (choose (eqb k 6) _ _ (two 6 (record'.Argument a) refl)
      (choose (eqb k 7) _ _ (two 7 (record'.Edge a) refl)
      (choose (eqb k 8) _ _ (three 8 (leb a 2) (record'.EdgeArgument (edge_argument a b)) (argument-of-words a b))
      (choose (eqb k 9) _ _ (two 9 (record'.Context a) refl)
      (choose (eqb k 10) _ _
      (three 10 (has a slot_sizes && eqb b (log2 a)) (record'.Slot a)
      (λ h. ap (λ m. words 10 a m 0) (sym (eqb→eq b (log2 a) (and_right (has a slot_sizes) (eqb b (log2 a)) h)))))
      (choose (eqb k 11) _ _ (three 11 true (record'.MapEntry a b) (λ _. refl))
      (choose (eqb k 12) _ _ (three 12 true (record'.SlotAddress a b) (λ _. refl))
      (choose (eqb k 13) _ _ (three 13 true (record'.Store a b) (λ _. refl))
      (choose (eqb k 14) _ _ (λ h _. ap (λ i. words i a b c) (sym (eqb→eq k 14 h)))
      (choose (eqb k 15) _ _
      (λ h.
      choose (eqb a 0) _ _ (λ z. two 15 record'.Jump (ap (λ x. words 15 x 0 0) (sym (eqb→eq a 0 z))) h) (λ o. absurd o))
      (λ h. absurd h)))))))))))))))

-- The record that four words of the table are: the table's rows, without its tests.
unfoldable pub read_as : ℕ → ℕ → ℕ → ℕ → Record
read_as k a b c =
    cond (eqb k 1) (record'.Value a (eqb b 1))
    (cond (eqb k 2) (record'.Block (eqb a 1) b)
    (cond (eqb k 3) (record'.Parameter a)
    (cond (eqb k 4) (record'.Instruction (is_safepoint a) (is_terminator a) b)
    (cond (eqb k 5) (record'.Result a)
    (cond (eqb k 6) (record'.Argument a)
    (cond (eqb k 7) (record'.Edge a)
    (cond (eqb k 8) (record'.EdgeArgument (edge_argument a b))
    (cond (eqb k 9) (record'.Context a)
    (cond (eqb k 10) (record'.Slot a)
    (cond (eqb k 11) (record'.MapEntry a b)
    (cond (eqb k 12) (record'.SlotAddress a b)
    (cond (eqb k 13) (record'.Store a b)
    (cond (eqb k 14) (record'.Load a b c)
    (cond (eqb k 15) record'.Jump record'.Outside))))))))))))))

-- a record of the table passed its test
passed : (t : Bool) (r : Record) → InTable (cond t r record'.Outside) → cond t r record'.Outside ≡ r
passed true r h = refl
passed false r h = absurd h

either : (t : Bool) (x x' y y' : Record) → (InTable x → x ≡ x') → (InTable y → y ≡ y') → InTable (cond t x y) → cond t x y ≡ cond t x' y'
either true x x' y y' f g h = f h
either false x x' y y' f g h = g h

pub decode-read_as : (k a b c : ℕ) → InTable (decode k a b c) → decode k a b c ≡ read_as k a b c
unfolding decode read_as
decode-read_as k a b c =
    let two : (r : Record) → InTable (cond (eqb b 0 && eqb c 0) r record'.Outside) → cond (eqb b 0 && eqb c 0) r record'.Outside ≡ r = passed (eqb b 0 && eqb c 0) in
    let three : (t : Bool) (r : Record) → InTable (cond (eqb c 0 && t) r record'.Outside) → cond (eqb c 0 && t) r record'.Outside ≡ r = λ t. passed (eqb c 0 && t) in
    either (eqb k 1) _ _ _ _ (three (leb 1 a && leb a 64 && leb b 1) _)
    (either (eqb k 2) _ _ _ _ (three (leb a 1) _)
    (either (eqb k 3) _ _ _ _ (two _)
    (either (eqb k 4) _ _ _ _ (three (leb a 3) _)
    (either (eqb k 5) _ _ _ _ (two _)
    (either (eqb k 6) _ _ _ _ (two _)
    (either (eqb k 7) _ _ _ _ (two _)
    (either (eqb k 8) _ _ _ _ (three (leb a 2) _)
    (either (eqb k 9) _ _ _ _ (two _)
    (either (eqb k 10) _ _ _ _ (three (has a slot_sizes && eqb b (log2 a)) _)
    (either (eqb k 11) _ _ _ _ (three true _)
    (either (eqb k 12) _ _ _ _ (three true _)
    (either (eqb k 13) _ _ _ _ (three true _)
    (either (eqb k 14) _ _ _ _ (λ _. refl)
    (either (eqb k 15) _ _ _ _ (jump (eqb a 0)) (λ _. refl)))))))))))))))
  where
    jump : (t : Bool) → InTable (cond t (cond (eqb b 0 && eqb c 0) record'.Jump record'.Outside) record'.Outside)
        → cond t (cond (eqb b 0 && eqb c 0) record'.Jump record'.Outside) record'.Outside ≡ record'.Jump
    jump true h = passed (eqb b 0 && eqb c 0) record'.Jump h
    jump false h = absurd h

-- THE PLACE. Words of the table are those of the record at their place,
module _ (s : List ℕ) (i : ℕ) where
  pub words-there : T (in_table (four_words s i)) → encode (record_at s i) ≡ four_words s i
  unfolding record_at in_table
  words-there = decode-words (four_words s i).kind (four_words s i).second (four_words s i).third (four_words s i).fourth

  -- and others are the words of no record.
  pub kind-outside : in_table (four_words s i) ≡ false → kind (record_at s i) ≡ 0
  unfolding record_at in_table
  kind-outside h = let l = nleb→lt 1 (kind (record_at s i)) (subst (λ b. T (not b)) (sym h) tt) in omega arith

-- THE FILE.
every : (rs : List Record) → Kinds (λ _. true) rs
every [] = tt
every (r ∷ rs) = every rs

at : (rs : List Record) → Kinds (leb 1) rs → (i : ℕ) → i < length rs → InTable (get_or rs i record'.Outside)
at [] h i l = absurd (omega arith)
at (r ∷ rs) h zero l = and_left (leb 1 (kind r)) (all (λ x. leb 1 (kind x)) rs) h
at (r ∷ rs) h (suc i) l = at rs (and_right (leb 1 (kind r)) (all (λ x. leb 1 (kind x)) rs) h) i (omega arith)

module _ (s : List ℕ) (h : T (ordered 0 (records s))) (i : ℕ) (l : i < record_count s) where
  pub in-table-at : InTable (record_at s i)
  unfolding kept_by followers
  in-table-at =
      let good = chain-good (0 ∷ 1 ∷ 2 ∷ 3 ∷ 4 ∷ 5 ∷ 6 ∷ 7 ∷ 8 ∷ 9 ∷ []) (λ _. true) (leb 1) tt 0 (records s) tt (ordered-chain 0 (records s) h) (every (records s)) in
      let n = records-length s in
      subst InTable (record-there s i l) (at (records s) good i (omega arith))

  -- the four words of record i stand in the file
  pub words-at : encode (record_at s i) ≡ four_words s i
  unfolding record_at in_table
  words-at = words-there s i in-table-at

  -- and the record is read off them without a test
  pub record-at : record_at s i ≡ read_as (four_words s i).kind (four_words s i).second (four_words s i).third (four_words s i).fourth
  unfolding record_at
  record-at = decode-read_as (four_words s i).kind (four_words s i).second (four_words s i).third (four_words s i).fourth in-table-at
