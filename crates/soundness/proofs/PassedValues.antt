-- The values of a file, which stand first, are passed over: they may stand anywhere in front, name no number and define nothing.
use Prim.Native.Nat.{ℕ, zero, suc, ◌+◌, ◌-◌, ◌<◌, ◌≤◌}
use native.Mathlib.Omega.{arith}
use native.Mathlib.Numerals.{add-one}
use mathlib.Core.Path.{◌≡◌, sym, ap, ap₂, ◌∙◌}
use mathlib.Core.Bool.{true, ◌&&◌}
use mathlib.Core.List.{List}
use lib.ListN.{length}
use lib.Dec.{T, eqb→eq, ltb, ltb→lt, nltb→le}
use borrow.Author.Tests.{ne_eqb}
use Rattle.rules.specs.Lists.{all}
use Rattle.rules.specs.Records.{encode, kind, record_at, record_count, records}
use Rattle.rules.specs.File.{ordered, function_in}
use Rattle.rules.specs.declared.Words.{Words}
use Rattle.lists.specs.Tests.{test-elim}
use Rattle.records.specs.Places.{rest, rest_all}
use Rattle.records.specs.Values.{value-record}
use Rattle.checks.specs.Definitions.{noted, noted_all}
use Rattle.checks.specs.Numbers.{numbers_fit, fit}
use Rattle.soundness.specs.Standing.{may_stand, flags_behind, standing}
use Rattle.soundness.proofs.Noting.{noted-next, fit_next}
use Rattle.soundness.proofs.StandingCases.{stand-other, standing-next}

-- THE WORDS of a value
module _ (w : Words) (one : w.kind ≡ 1) where
  value-stands : (flags : ℕ) → may_stand flags w ≡ true
  value-stands flags =
      stand-other flags w (ne_eqb w.kind 2 (λ e. omega arith)) (ne_eqb w.kind 4 (λ e. omega arith)) (ne_eqb w.kind 5 (λ e. omega arith))
      (ne_eqb w.kind 7 (λ e. omega arith)) (ne_eqb w.kind 8 (λ e. omega arith)) (ne_eqb w.kind 9 (λ e. omega arith))

  value-flags : (flags : ℕ) → flags_behind flags w ≡ flags
  unfolding flags_behind
  value-flags flags = simp one

  value-fits : (values blocks : ℕ) → numbers_fit values blocks w ≡ true
  unfolding numbers_fit
  value-fits values blocks = simp one

  value-noted : (t : List ℕ) → noted t w ≡ t
  unfolding noted
  value-noted t = simp one

module _ (s : List ℕ) (in_order : T (ordered 0 (records s))) where
  is-value : (n : ℕ) → n < length (function_in s).values → (encode (record_at s n)).kind ≡ 1
  is-value n l = eqb→eq (kind (record_at s n)) 1 (value-record s in_order n l).1

  -- there are as many records
  pub values-records : length (function_in s).values ≤ record_count s
  values-records =
      test-elim (ltb 0 (length (function_in s).values))
      (λ y.
      let some = ltb→lt 0 (length (function_in s).values) y in
      let last = (value-record s in_order (length (function_in s).values - 1) (omega arith)).0 in
      omega arith)
      (λ n. let none = nltb→le 0 (length (function_in s).values) n in omega arith)

  -- THE REST of the file, from behind n of them on
  pub standing-passed : (n : ℕ) → n ≤ length (function_in s).values → standing 2 (rest s n) ≡ standing 2 (records s)
  standing-passed zero l = ap (standing 2) (rest_all s)
  standing-passed (suc n) l =
      let r = encode (record_at s n) in
      let one = is-value n l in
      let next : n + 1 ≡ suc n = add-one n in
      sym (ap (λ (k : ℕ). standing 2 (rest s k)) next)
      ∙ sym (standing-next s 2 n (value-record s in_order n l).0
      ∙ ap₂ (λ b x. b && standing x (rest s (n + 1))) (value-stands r one 2) (value-flags r one 2))
      ∙ standing-passed n (omega arith)

  pub fit_passed :
      (values blocks n : ℕ) → n ≤ length (function_in s).values → all (fit values blocks) (rest s n) ≡ all (fit values blocks) (records s)
  fit_passed values blocks zero l = ap (all (fit values blocks)) (rest_all s)
  fit_passed values blocks (suc n) l =
      let next : n + 1 ≡ suc n = add-one n in
      sym (ap (λ (k : ℕ). all (fit values blocks) (rest s k)) next)
      ∙ sym (fit_next s n (value-record s in_order n l).0 values blocks
      ∙ ap (λ b. b && all (fit values blocks) (rest s (n + 1))) (value-fits (encode (record_at s n)) (is-value n l) values blocks))
      ∙ fit_passed values blocks n (omega arith)

  pub noted-passed : (t : List ℕ) (n : ℕ) → n ≤ length (function_in s).values → noted_all t (rest s n) ≡ noted_all t (records s)
  noted-passed t zero l = ap (noted_all t) (rest_all s)
  noted-passed t (suc n) l =
      let next : n + 1 ≡ suc n = add-one n in
      sym (ap (λ (k : ℕ). noted_all t (rest s k)) next)
      ∙ sym (noted-next s n (value-record s in_order n l).0 t
      ∙ ap (λ u. noted_all u (rest s (n + 1))) (value-noted (encode (record_at s n)) (is-value n l) t))
      ∙ noted-passed t n (omega arith)
