-- What refusal 3 leaves: no more records of a kind than first words that are its number, so a table with a place for each
-- of the largest counts is long enough.
use Rattle.std.specs.Prelude.{ℕ, zero, suc, ◌≤◌, false, not, ◌&&◌, ◌||◌, cond, List, ◌∷◌, drop, ltb}
use Rattle.std.proofs.Common.{sym, subst, T_not, eqb→eq}
use Rattle.std.proofs.Math.Path.{ap}
use Rattle.std.proofs.Math.Bool.{Bool, true}
use native.Mathlib.Omega.{arith}
use Rattle.std.proofs.Math.ListN.{length, length-map}
use Rattle.std.proofs.Math.Dec.{T, not_T, eqb, leb, nltb→le}
use Rattle.rules.specs.Limits.{record_bytes, largest_blocks, largest_edges, largest_records, largest_values, largest_instructions}
use Rattle.rules.specs.Lists.{count, has}
use Rattle.rules.specs.Tree.{Edge}
use Rattle.rules.specs.declared.Words.{Words}
use Rattle.rules.specs.Records.{word_at, slot_sizes, log2, encode, kind, edge_argument, decode, record_at, record_count, each_from, records, first_words}
use Rattle.rules.specs.File.{Section, cut, of_kind, block_of, function, function_in, ordered}
use Rattle.rules.specs.Refusals.{too_many, all_instructions, all_edges}
use Rattle.rules.specs.declared.EdgeArgument.{EdgeArgument}
use Rattle.rules.specs.declared.EdgeArgument.TheVariants as passes
use Rattle.rules.specs.declared.Record.{Record}
use Rattle.rules.specs.declared.Record.TheVariants as record'
use Rattle.lists.specs.Tests.{eqb_swap, or_left, or_right}
use Rattle.records.specs.Parts.{cut-heads, head_words, instructions-in-order, targets-in-order}
use Rattle.records.specs.Values.{value_of}

-- A RECORD OF A KIND has that number for its first word, unless the kind is 0.
module _ (k w : ℕ) (some : T (not (eqb 0 k))) where
  record Named (r : Record) : Type 0 where
    pub first : T (eqb (kind r) k) → T (eqb k w)

  outside : Named record'.Outside
  outside = record { first = λ h. absurd (T_not (eqb 0 k) some h) }

  -- a row of the table, whose first word is n
  row : (n : ℕ) (fits : Bool) (r : Record) → T (eqb w n) → (T (eqb (kind r) k) → T (eqb n k)) → Named (cond fits r record'.Outside)
  row n true r e same = record { first = λ h. subst (λ (j : ℕ). T (eqb k j)) (sym (eqb→eq w n e)) (eqb_swap n k (same h)) }
  row n false r e same = outside

  either : (t : Bool) (r other : Record) → (T t → Named r) → Named other → Named (cond t r other)
  either true r other f g = f tt
  either false r other f g = g

  decode-named : (a b c : ℕ) → Named (decode w a b c)
  unfolding decode
  decode-named a b c =
      let two : Bool = eqb b 0 && eqb c 0 in
      either (eqb w 1) _ _ (λ e. row 1 (eqb c 0 && (leb 1 a && leb a 64 && leb b 1)) _ e (λ h. h))
      (either (eqb w 2) _ _ (λ e. row 2 (eqb c 0 && leb a 1) _ e (λ h. h))
      (either (eqb w 3) _ _ (λ e. row 3 two _ e (λ h. h))
      (either (eqb w 4) _ _ (λ e. row 4 (eqb c 0 && leb a 3) _ e (λ h. h))
      (either (eqb w 5) _ _ (λ e. row 5 two _ e (λ h. h))
      (either (eqb w 6) _ _ (λ e. row 6 two _ e (λ h. h))
      (either (eqb w 7) _ _ (λ e. row 7 two _ e (λ h. h))
      (either (eqb w 8) _ _ (λ e. row 8 (eqb c 0 && leb a 2) _ e (argument (edge_argument a b)))
      (either (eqb w 9) _ _ (λ e. row 9 two _ e (λ h. h))
      (either (eqb w 10) _ _ (λ e. row 10 (eqb c 0 && (has a slot_sizes && eqb b (log2 a))) _ e (λ h. h))
      (either (eqb w 11) _ _ (λ e. row 11 (eqb c 0 && true) _ e (λ h. h))
      (either (eqb w 12) _ _ (λ e. row 12 (eqb c 0 && true) _ e (λ h. h))
      (either (eqb w 13) _ _ (λ e. row 13 (eqb c 0 && true) _ e (λ h. h))
      (either (eqb w 14) _ _ (λ e. row 14 true _ e (λ h. h))
      (either (eqb w 15) _ _ (λ e. either (eqb a 0) _ _ (λ _. row 15 two _ e (λ h. h)) outside)
      outside))))))))))))))
    where
      argument : (x : EdgeArgument) → T (eqb (kind (record'.EdgeArgument x)) k) → T (eqb 8 k)
      argument (passes.Value _) h = h
      argument (passes.Returned _) h = h
      argument (passes.Exception _) h = h

  pub kind-first : (a b c : ℕ) → T (eqb (kind (decode w a b c)) k) → T (eqb k w)
  kind-first a b c = (decode-named a b c).first

-- so no more records are of a kind than first words are its number
module _ (k : ℕ) (some : T (not (eqb 0 k))) where
  record-first : (s : List ℕ) → T (eqb (kind (record_at s 0)) k) → T (eqb k (word_at s 0))
  unfolding record_at
  record-first s = kind-first k (word_at s 0) some (word_at s 4) (word_at s 8) (word_at s 12)

  of_kind-each : (n : ℕ) (s : List ℕ) → length (of_kind k (each_from (λ t. record_at t 0) n s)) ≤ count (eqb k) (each_from (λ t. word_at t 0) n s)
  of_kind-each zero s = omega arith
  of_kind-each (suc n) s =
      go (eqb (kind (record_at s 0)) k) (eqb k (word_at s 0)) (record-first s) (of_kind-each n (drop record_bytes s))
    where
      rs : List Record
      rs = each_from (λ t. record_at t 0) n (drop record_bytes s)

      ws : List ℕ
      ws = each_from (λ t. word_at t 0) n (drop record_bytes s)

      go : (a b : Bool) → (T a → T b) → length (of_kind k rs) ≤ count (eqb k) ws
          → length {A = Words} (elim a [ true ↦ encode (record_at s 0) ∷ of_kind k rs | false ↦ of_kind k rs ]) ≤ elim b [ true ↦ suc (count (eqb k) ws) | false ↦ count (eqb k) ws ]
      go true true f h = omega arith
      go true false f h = absurd (f tt)
      go false true f h = omega arith
      go false false f h = h

  pub of_kind-le : (s : List ℕ) → length (of_kind k (records s)) ≤ count (eqb k) (first_words s)
  unfolding records first_words
  of_kind-le s = of_kind-each (record_count s) s

-- what refusal 3 says of a file that is not refused
module _ (s : List ℕ) (few : T (not (too_many s))) where
  abbrev of : ℕ → ℕ
  of k = count (eqb k) (first_words s)

  -- a count that is above its largest is refused
  not-above : (t : Bool) → (T t → T (too_many s)) → T (not t)
  not-above t above = not_T t (λ h. T_not (too_many s) few (above h))

  abbrev before : Bool
  before = ltb largest_records (record_count s) || ltb largest_values (of 1)

  early : T before → T (too_many s)
  early h =
      or_left (before || ltb largest_blocks (of 2) || ltb largest_instructions (of 4)) (ltb largest_edges (of 7))
      (or_left (before || ltb largest_blocks (of 2)) (ltb largest_instructions (of 4)) (or_left before (ltb largest_blocks (of 2)) h))

  -- Its records are at most the largest count,
  pub records-few : record_count s ≤ largest_records
  records-few =
      nltb→le largest_records (record_count s)
      (not-above (ltb largest_records (record_count s)) (λ h. early (or_left (ltb largest_records (record_count s)) (ltb largest_values (of 1)) h)))

  -- and so are its values,
  pub values-few : length (function_in s).values ≤ largest_values
  unfolding function
  values-few =
      omega (
        arith,
        length-map (of_kind 1 (records s)) value_of,
        of_kind-le 1 tt s,
        nltb→le largest_values (of 1)
            (not-above (ltb largest_values (of 1)) (λ h. early (or_right (ltb largest_records (record_count s)) (ltb largest_values (of 1)) h))),
      )

  third : T (ltb largest_blocks (of 2)) → T (too_many s)
  third h =
      or_left (before || ltb largest_blocks (of 2) || ltb largest_instructions (of 4)) (ltb largest_edges (of 7))
      (or_left (before || ltb largest_blocks (of 2)) (ltb largest_instructions (of 4)) (or_right before (ltb largest_blocks (of 2)) h))

  fifth : T (ltb largest_edges (of 7)) → T (too_many s)
  fifth h = or_right (before || ltb largest_blocks (of 2) || ltb largest_instructions (of 4)) (ltb largest_edges (of 7)) h

  -- its blocks,
  pub blocks-few : length (function_in s).blocks ≤ largest_blocks
  unfolding function
  blocks-few =
      let ss = (cut (eqb 2) (records s)).sections in
      omega (
        arith,
        length-map ss block_of,
        length-map ss (λ (x : Section). encode x.head),
        ap length (cut-heads 2 (records s)),
        of_kind-le 2 tt s,
        nltb→le largest_blocks (of 2) (not-above (ltb largest_blocks (of 2)) third),
      )

  fourth : T (ltb largest_instructions (of 4)) → T (too_many s)
  fourth h =
      or_left (before || ltb largest_blocks (of 2) || ltb largest_instructions (of 4)) (ltb largest_edges (of 7))
      (or_right (before || ltb largest_blocks (of 2)) (ltb largest_instructions (of 4)) h)

  -- and, if it is in order, its instructions
  pub instructions-few : T (ordered 0 (records s)) → length (all_instructions (function_in s)) ≤ largest_instructions
  instructions-few h =
      omega (
        arith,
        length-map (all_instructions (function_in s)) head_words,
        ap length (instructions-in-order (records s) h),
        of_kind-le 4 tt s,
        nltb→le largest_instructions (of 4) (not-above (ltb largest_instructions (of 4)) fourth),
      )

  -- and its edges.
  pub edges_few : T (ordered 0 (records s)) → length (all_edges (function_in s)) ≤ largest_edges
  edges_few h =
      omega (
        arith,
        length-map (all_edges (function_in s)) (λ (e : Edge). e.target),
        ap length (targets-in-order (records s) h),
        length-map (of_kind 7 (records s)) (λ (w : Words). w.second),
        of_kind-le 7 tt s,
        nltb→le largest_edges (of 7) (not-above (ltb largest_edges (of 7)) fifth),
      )
