-- A value's size and mark are words of its own record: values stand first in a file in order.
use Rattle.std.specs.Prelude.{ℕ, zero, suc, ◌+◌, ◌*◌, ◌<◌, ◌≡◌, refl, Bool, true, false, not, ◌||◌, List, [], ◌∷◌, map, length, get_or, ltb, eqb}
use Rattle.std.proofs.Common.{sym, ◌∙◌, arith, T_not, eqb→eq, nltb→le}
use Rattle.std.proofs.Math.Path.{ap, subst}
use Rattle.std.proofs.Math.Dec.{T, ltb→lt}
use Rattle.rules.specs.Limits.{record_bytes}
use Rattle.rules.specs.Lists.{all, has}
use Rattle.rules.specs.Tree.{Value}
use Rattle.rules.specs.Records.{word_at, encode, kind, record_at, record_count, records}
use Rattle.rules.specs.File.{followers, follows, ordered, of_kind, function, function_in}
use Rattle.rules.specs.Graph.{value_at, size_of, is_marked}
use Rattle.rules.specs.declared.Words.{Words}
use Rattle.rules.specs.declared.Record.{Record}
use Rattle.rules.specs.declared.Record.TheVariants as record'
use Rattle.lists.specs.Tests.{test-elim, and_left, and_right, and_intro, or_elim, or_left, passes_at, chosen, left_out}
use Rattle.records.specs.Kinds.{Kinds, of_kind-none}
use Rattle.records.specs.Places.{record-there, record-beyond}
use Rattle.records.specs.InTable.{words-at}
use Rattle.records.specs.InOrder.{chain, ordered-chain, kept_by, chain-good}

-- the value that four words of a value's record are
abbrev pub value_of : Words → Value
value_of w = record { size = w.second; marked = eqb w.third 1 }

-- what a number that names no value has
abbrev pub no_value : Value
no_value = record { size = 0; marked = false }

-- the value that a record is
abbrev pub value_in : Record → Value
value_in r = elim (eqb (kind r) 1) [ true ↦ value_of (encode r) | false ↦ no_value ]

-- the size that four words give
abbrev pub size_in : Words → ℕ
size_in w = elim (eqb w.kind 1) [ true ↦ w.second | false ↦ 0 ]

size-in : (r : Record) → (value_in r).size ≡ size_in (encode r)
size-in r = go (eqb (kind r) 1)
  where
    go : (b : Bool) → (elim b as (λ _. Value) [ true ↦ value_of (encode r) | false ↦ no_value ]).size ≡ elim b [ true ↦ (encode r).second | false ↦ 0 ]
    go true = refl
    go false = refl

-- the mark that they give
abbrev pub mark_in : Words → Bool
mark_in w = elim (eqb w.kind 1) [ true ↦ eqb w.third 1 | false ↦ false ]

mark-in : (r : Record) → (value_in r).marked ≡ mark_in (encode r)
mark-in r = go (eqb (kind r) 1)
  where
    go : (b : Bool) → (elim b as (λ _. Value) [ true ↦ value_of (encode r) | false ↦ no_value ]).marked ≡ elim b [ true ↦ eqb (encode r).third 1 | false ↦ false ]
    go true = refl
    go false = refl

no-value : (rs : List Record) → Kinds (λ j. not (eqb j 1)) rs → (v : ℕ) → value_in (get_or rs v record'.Outside) ≡ no_value
no-value [] h v = refl
no-value (r ∷ rs) h zero = left_out (eqb (kind r) 1) (value_of (encode r)) no_value (and_left (not (eqb (kind r) 1)) (all (λ x. not (eqb (kind x) 1)) rs) h)
no-value (r ∷ rs) h (suc v) = no-value rs (and_right (not (eqb (kind r) 1)) (all (λ x. not (eqb (kind x) 1)) rs) h) v

-- Behind the first record that is no value stands none.
first-other : (p : ℕ) (r : Record) (rs : List Record) → T (has p (0 ∷ 1 ∷ [])) → T (chain p (r ∷ rs)) → T (not (eqb (kind r) 1))
    → Kinds (λ j. not (eqb j 1)) (r ∷ rs)
unfolding follows followers kept_by
first-other p r rs m c n =
    let k = kind r in
    let two : T (eqb k 1 || has k (2 ∷ [])) =
    passes_at (λ j. eqb j 1 || has j (2 ∷ [])) (get_or followers p []) (passes_at (λ i. all (λ j. eqb j 1 || has j (2 ∷ [])) (get_or followers i [])) (0 ∷ 1 ∷ []) tt p m) k
    (and_left (has k (get_or followers p [])) (chain k rs) c) in
    let later : T (has k (2 ∷ 3 ∷ 4 ∷ 5 ∷ 6 ∷ 7 ∷ 8 ∷ 9 ∷ [])) =
    or_elim (eqb k 1) (has k (2 ∷ [])) (λ y. absurd (T_not (eqb k 1) n y))
    (λ y. or_left (eqb k 2) (has k (3 ∷ 4 ∷ 5 ∷ 6 ∷ 7 ∷ 8 ∷ 9 ∷ [])) (or_elim (eqb k 2) false (λ x. x) (λ x. absurd x) y)) two in
    and_intro (not (eqb k 1)) (all (λ x. not (eqb (kind x) 1)) rs) n
    (chain-good (2 ∷ 3 ∷ 4 ∷ 5 ∷ 6 ∷ 7 ∷ 8 ∷ 9 ∷ []) (λ j. true) (λ j. not (eqb j 1)) tt k rs later
    (and_right (has k (get_or followers p [])) (chain k rs) c) (any-kind rs))
  where
    any-kind : (xs : List Record) → Kinds (λ j. true) xs
    any-kind [] = tt
    any-kind (x ∷ xs) = any-kind xs

behind-value : (p : ℕ) (r : Record) (rs : List Record) → T (eqb (kind r) 1) → T (chain p (r ∷ rs)) → T (chain 1 rs)
behind-value p r rs y c = subst (λ k. T (chain k rs)) (eqb→eq (kind r) 1 y) (and_right (follows p (kind r)) (chain (kind r) rs) c)

-- VALUE v OF RECORDS IN ORDER IS THE RECORD AT PLACE v.
values-at : (p : ℕ) (rs : List Record) → T (has p (0 ∷ 1 ∷ [])) → T (chain p rs) → (v : ℕ)
    → get_or (map value_of (of_kind 1 rs)) v no_value ≡ value_in (get_or rs v record'.Outside)
values-at p [] m c v = refl
values-at p (r ∷ rs) m c v =
    test-elim (eqb (kind r) 1)
    (λ y.
    ap (λ ws. get_or (map value_of ws) v no_value) (chosen (eqb (kind r) 1) (encode r ∷ of_kind 1 rs) (of_kind 1 rs) y)
    ∙ more y (values-at 1 rs tt (behind-value p r rs y c)) v)
    (λ n.
    let k = first-other p r rs m c n in
    ap (λ ws. get_or (map value_of ws) v no_value) (of_kind-none 1 (r ∷ rs) k) ∙ sym (no-value (r ∷ rs) k v))
  where
    more : T (eqb (kind r) 1) → ((u : ℕ) → get_or (map value_of (of_kind 1 rs)) u no_value ≡ value_in (get_or rs u record'.Outside))
        → (u : ℕ) → get_or (value_of (encode r) ∷ map value_of (of_kind 1 rs)) u no_value ≡ value_in (get_or (r ∷ rs) u record'.Outside)
    more y later zero = sym (chosen (eqb (kind r) 1) (value_of (encode r)) no_value y)
    more y later (suc u) = later u

-- so a place before which there are as many values has one
value_there : (p : ℕ) (rs : List Record) → T (has p (0 ∷ 1 ∷ [])) → T (chain p rs) → (v : ℕ) → v < length (map value_of (of_kind 1 rs))
    → T (eqb (kind (get_or rs v record'.Outside)) 1)
value_there p [] m c v l = absurd (omega arith)
value_there p (r ∷ rs) m c v l =
    test-elim (eqb (kind r) 1)
    (λ y.
    more y (value_there 1 rs tt (behind-value p r rs y c)) v
    (subst (λ ws. v < length (map value_of ws)) (chosen (eqb (kind r) 1) (encode r ∷ of_kind 1 rs) (of_kind 1 rs) y) l))
    (λ n.
    let none : v < length {A = Value} [] = subst (λ ws. v < length (map value_of ws)) (of_kind-none 1 (r ∷ rs) (first-other p r rs m c n)) l in
    absurd (omega arith))
  where
    more : T (eqb (kind r) 1) → ((u : ℕ) → u < length (map value_of (of_kind 1 rs)) → T (eqb (kind (get_or rs u record'.Outside)) 1))
        → (u : ℕ) → u < length (value_of (encode r) ∷ map value_of (of_kind 1 rs)) → T (eqb (kind (get_or (r ∷ rs) u record'.Outside)) 1)
    more y later zero q = y
    more y later (suc u) q = later u (omega arith)

-- THE LAWS, of a file in order.
module _ (s : List ℕ) (h : T (ordered 0 (records s))) where
  -- the size of value v is read off the record at place v, and is 0 where that is no value
  pub size-in-place : (v : ℕ) → size_of (function_in s) v ≡ size_in (encode (get_or (records s) v record'.Outside))
  unfolding function
  size-in-place v =
      ap (λ x. x.size) (values-at 0 (records s) tt (ordered-chain 0 (records s) h) v) ∙ size-in (get_or (records s) v record'.Outside)

  -- and so is its mark
  pub mark-in-place : (v : ℕ) → is_marked (function_in s) v ≡ mark_in (encode (get_or (records s) v record'.Outside))
  unfolding function
  mark-in-place v =
      ap (λ x. x.marked) (values-at 0 (records s) tt (ordered-chain 0 (records s) h) v) ∙ mark-in (get_or (records s) v record'.Outside)

  pub value-in-place : (v : ℕ) → v < record_count s → value_at (function_in s) v ≡ value_in (record_at s v)
  unfolding function
  value-in-place v l = values-at 0 (records s) tt (ordered-chain 0 (records s) h) v ∙ ap value_in (record-there s v l)

  module _ (v : ℕ) (l : v < length (function_in s).values) where
    -- a value's record is in the file, and is of kind 1
    pub value-record : (v < record_count s) × T (eqb (kind (record_at s v)) 1)
    unfolding function
    value-record =
        let there = value_there 0 (records s) tt (ordered-chain 0 (records s) h) v l in
        test-elim (ltb v (record_count s))
        (λ y. let i = ltb→lt v (record_count s) y in (i, subst (λ r. T (eqb (kind r) 1)) (record-there s v i) there))
        (λ n. absurd (subst (λ r. T (eqb (kind r) 1)) (record-beyond s v (nltb→le v (record_count s) n)) there))

    value_at-words : value_at (function_in s) v ≡ record { size = word_at s (record_bytes * v + 4); marked = eqb (word_at s (record_bytes * v + 8)) 1 }
    value_at-words =
        let r = record_at s v in
        value-in-place v value-record.0 ∙ chosen (eqb (kind r) 1) (value_of (encode r)) no_value value-record.1 ∙ ap value_of (words-at s h v value-record.0)

    pub size_of-word : size_of (function_in s) v ≡ word_at s (record_bytes * v + 4)
    size_of-word = ap (λ x. x.size) value_at-words

    pub is_marked-word : is_marked (function_in s) v ≡ eqb (word_at s (record_bytes * v + 8)) 1
    is_marked-word = ap (λ x. x.marked) value_at-words
