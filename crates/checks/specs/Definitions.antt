-- Refusal 6 by records: definitions counted in a table, a place for each value.
use Rattle.std.specs.Prelude.{ℕ, suc, ◌+◌, ◌≤◌, ◌<◌, ◌≡◌, refl, Bool, true, false, ◌||◌, cond, List, [], ◌∷◌, ◌++◌, map, length, get_or, set, T, eqb, ltb}
use Rattle.std.proofs.Common.{sym, ap, ap₂, ◌∙◌, subst, arith, length-set, get_or-set_same, get_or-set_other, eqb→eq, ltb→lt, nltb→le}
use Rattle.std.proofs.Math.Seq.{set_out}
use Rattle.rules.specs.Lists.{all, count, foldl, up_from}
use Rattle.rules.specs.Limits.{largest_records}
use Rattle.rules.specs.Tree.{Function}
use Rattle.rules.specs.Records.{encode, kind, bit, record_count, records}
use Rattle.rules.specs.File.{ordered, of_kind, named, function_in}
use Rattle.rules.specs.Refusals.{definitions, numbers_in_file, defined_once}
use Rattle.rules.specs.declared.Record.{Record}
use Rattle.rules.specs.declared.Words.{Words}
use Rattle.lists.specs.Tests.{test-elim, T_and, or_elim, is_true, is_false, neqb→ne}
use Rattle.lists.specs.Counts.{bit-at-most, count-more, count-append}
use Rattle.records.specs.Parts.{parameters-in-order, results-in-order}
use Rattle.checks.specs.Numbers.{fit, fit-value, numbers_in_file-by-records}

-- four words are a parameter or a result
abbrev pub defines : Words → Bool
defines w = eqb w.kind 3 || eqb w.kind 5

-- the table with one definition more of the value that four words define
unfoldable pub noted : List ℕ → Words → List ℕ
noted t w = cond (defines w) (set t w.second (suc (get_or t w.second 0))) t

-- the table with all definitions of a list of records
abbrev pub noted_all : List ℕ → List Record → List ℕ
noted_all t rs = foldl (λ t r. noted t (encode r)) t rs

-- how often records define v
abbrev times : ℕ → List Record → ℕ
times v rs = count (eqb v) (named 3 rs) + count (eqb v) (named 5 rs)

pub noted-length : (t : List ℕ) (w : Words) → length (noted t w) ≡ length t
unfolding noted
noted-length t w = go (defines w)
  where
    go : (b : Bool) → length (cond b (set t w.second (suc (get_or t w.second 0))) t) ≡ length t
    go true = length-set t w.second (suc (get_or t w.second 0))
    go false = refl

pub noted_all-length : (t : List ℕ) (rs : List Record) → length (noted_all t rs) ≡ length t
noted_all-length t [] = refl
noted_all-length t (r ∷ rs) = noted_all-length (noted t (encode r)) rs ∙ noted-length t (encode r)

-- one record counts for the value that it defines
abbrev one : ℕ → Words → ℕ
one v w = cond (defines w) (bit (eqb v w.second)) 0

noted-at : (t : List ℕ) (w : Words) (v : ℕ) → (T (defines w) → w.second < length t) → get_or (noted t w) v 0 ≡ get_or t v 0 + one v w
unfolding noted
noted-at t w v h = go (defines w) h
  where
    n : ℕ
    n = suc (get_or t w.second 0)

    go : (b : Bool) → (T b → w.second < length t) → get_or (cond b (set t w.second n) t) v 0 ≡ get_or t v 0 + cond b (bit (eqb v w.second)) 0
    go true l =
        test-elim (eqb v w.second)
        (λ e.
        let same : v ≡ w.second = eqb→eq v w.second e in
        let one_more : bit (eqb v w.second) ≡ 1 = ap bit (is_true (eqb v w.second) e) in
        let there : get_or (set t w.second n) v 0 ≡ n = ap (λ j. get_or (set t w.second n) j 0) same ∙ get_or-set_same t w.second n 0 (l tt) in
        let before : get_or t v 0 ≡ get_or t w.second 0 = ap (λ j. get_or t j 0) same in
        omega arith)
        (λ e.
        let none : bit (eqb v w.second) ≡ 0 = ap bit (is_false (eqb v w.second) e) in
        let there : get_or (set t w.second n) v 0 ≡ get_or t v 0 = get_or-set_other t w.second v n 0 (neqb→ne v w.second e) in
        omega arith)
    go false l = omega arith

-- a value without a place is not noted
pub noted-out : (t : List ℕ) (w : Words) → length t ≤ w.second → noted t w ≡ t
unfolding noted
noted-out t w l = go (defines w)
  where
    go : (b : Bool) → cond b (set t w.second (suc (get_or t w.second 0))) t ≡ t
    go true = set_out t w.second (suc (get_or t w.second 0)) l
    go false = refl

-- no count passes the number of records by more than it did
pub noted_small : (t : List ℕ) (w : Words) (i : ℕ) → ((v : ℕ) → get_or t v 0 ≤ i) → (v : ℕ) → get_or (noted t w) v 0 ≤ i + 1
noted_small t w i small v =
    test-elim (ltb w.second (length t))
    (λ y. let l = ltb→lt w.second (length t) y in omega (arith, noted-at t w v (λ d. l), small v, one-small (defines w)))
    (λ n. omega (arith, ap (λ (u : List ℕ). get_or u v 0) (noted-out t w (nltb→le w.second (length t) n)), small v))
  where
    one-small : (b : Bool) → cond b (bit (eqb v w.second)) 0 ≤ 1
    one-small true = bit-at-most (eqb v w.second)
    one-small false = omega arith

times_more : (v : ℕ) (r : Record) (rs : List Record) → times v (r ∷ rs) ≡ one v (encode r) + times v rs
times_more v r rs = go (eqb (kind r) 3) (eqb (kind r) 5) apart
  where
    apart : T (eqb (kind r) 3) → T (eqb (kind r) 5) → ⊥
    apart a b = let e : 3 ≡ kind r = sym (eqb→eq (kind r) 3 a) in let f = eqb→eq (kind r) 5 b in omega arith

    go : (a b : Bool) → (T a → T b → ⊥)
        → count (eqb v) (map (λ (w : Words). w.second) (elim a [ true ↦ encode r ∷ of_kind 3 rs | false ↦ of_kind 3 rs ]))
        + count (eqb v) (map (λ (w : Words). w.second) (elim b [ true ↦ encode r ∷ of_kind 5 rs | false ↦ of_kind 5 rs ]))
        ≡ cond (a || b) (bit (eqb v (encode r).second)) 0 + times v rs
    go true true n = absurd (n tt tt)
    go true false n = omega (arith, count-more (eqb v) (encode r).second (named 3 rs))
    go false true n = omega (arith, count-more (eqb v) (encode r).second (named 5 rs))
    go false false n = omega arith

module _ (values blocks : ℕ) where
  -- records whose numbers are in the file define values that have a place
  defines-fit : (r : Record) → T (fit values blocks r) → T (defines (encode r)) → (encode r).second < values
  defines-fit r f =
      or_elim (eqb (kind r) 3) (eqb (kind r) 5)
      (λ e. ltb→lt (encode r).second values (fit-value values blocks (encode r) f 3 tt e))
      (λ e. ltb→lt (encode r).second values (fit-value values blocks (encode r) f 5 tt e))

  -- a place of the table has how often its value is defined
  noted_all-at : (rs : List Record) (t : List ℕ) (v : ℕ) → values ≤ length t → T (all (fit values blocks) rs)
      → get_or (noted_all t rs) v 0 ≡ get_or t v 0 + times v rs
  noted_all-at [] t v l f = omega arith
  noted_all-at (r ∷ rs) t v l f =
      let both = T_and (fit values blocks r) (all (fit values blocks) rs) f in
      let w = encode r in
      let here = noted-at t w v (λ d. let x = defines-fit r both.0 d in omega arith) in
      let later = noted_all-at rs (noted t w) v (let e = noted-length t w in omega arith) both.1 in
      let more = times_more v r rs in
      omega arith

-- What counting definitions asks of a file and of a lent table: order, not too many records; and a place for each value,
-- with zeros to begin with.
pub record Countable (s t : List ℕ) : Type 0 where
  pub in_order : ordered 0 (records s) ≡ true
  pub few : record_count s ≤ largest_records
  pub room : length (function_in s).values ≤ length t
  pub zeros : (v : ℕ) → get_or t v 0 ≡ 0

-- refusal 6, by the table, of a file whose numbers are in it
pub defined_once-by-table : (s t : List ℕ) → Countable s t → numbers_in_file (function_in s) ≡ true
    → defined_once (function_in s) ≡ all (λ v. eqb (get_or (noted_all t (records s)) v 0) 1) (up_from 0 (length (function_in s).values))
defined_once-by-table s t c in_file = λ i. all (λ v. eqb (same v i) 1) (up_from 0 (length f.values))
  where
    f : Function
    f = function_in s

    rs : List Record
    rs = records s

    order : T (ordered 0 rs)
    order = subst T (sym c.in_order) tt

    fits : T (all (fit (length f.values) (length f.blocks)) rs)
    fits = subst T (sym (sym (numbers_in_file-by-records rs order) ∙ in_file)) tt

    same : (v : ℕ) → count (eqb v) (definitions f) ≡ get_or (noted_all t rs) v 0
    same v =
        let there = noted_all-at (length f.values) (length f.blocks) rs t v c.room fits in
        let zero-first = c.zeros v in
        let apart : count (eqb v) (definitions f) ≡ times v rs =
        ap₂ (λ xs ys. count (eqb v) (xs ++ ys)) (parameters-in-order rs order) (results-in-order rs order) ∙ count-append (eqb v) (named 3 rs) (named 5 rs) in
        omega arith
