-- The line of a refusal: its number in decimal, and byte by byte.
use Prim.Native.Nat.{ℕ, ◌+◌, ◌/◌, ◌%◌, ◌<◌, ◌≤◌, ◌^◌}
use native.Mathlib.Omega.{arith}
use lib.ListN.{length, get_or}
use mathlib.Core.Path.{◌≡◌, refl, sym, ap, ◌∙◌}
use mathlib.Core.Bool.{Bool, true, false}
use mathlib.Core.List.{List, [], ◌∷◌, ◌++◌}
use borrow.Author.Tests.{lt-ltb, le-ltb}
use Rattle.std.specs.Prelude.{decimal}
use Rattle.std.specs.Str.Parse.{AllDigits, digits_value}
use Rattle.std.proofs.lemmas.Fmt.{decimal_digit, decimal-digits_value}
use Rattle.std.proofs.lemmas.Str.Parse.{IsNumeralModel}
use Rattle.rules.specs.Lists.{padded}
use Rattle.rules.specs.Refusals.{refusal_number}
use Rattle.rules.specs.Services.{refused_line}
use Rattle.rules.specs.declared.Refusal.{Refusal}
use Rattle.rules.specs.declared.Refusal.TheVariants as refusal
use Rattle.program.specs.Program.{line_bytes}

-- `refused ` and what follows
abbrev pub refused_and : List ℕ → List ℕ
refused_and rest = 114 ∷ 101 ∷ 102 ∷ 117 ∷ 115 ∷ 101 ∷ 100 ∷ 32 ∷ rest

-- `refused n` and a line feed
abbrev pub line : ℕ → List ℕ
line n = refused_and (decimal n ++ (10 ∷ []))

-- a line by the digits of its number
by-digits : (n : ℕ) {ds : List ℕ} → decimal n ≡ ds → line n ≡ refused_and (ds ++ (10 ∷ []))
by-digits n e = ap (λ (ds : List ℕ). refused_and (ds ++ (10 ∷ []))) e

one : (n : ℕ) → n < 10 → line n ≡ refused_and ((48 + n) ∷ 10 ∷ [])
one n l = by-digits n (decimal_digit n l)

-- the digits of a number are its own
own : IsNumeralModel (AllDigits 10) (digits_value 10)
own = record { to = λ ds d. d; from = λ ds d. d; same = λ ds d. refl }

two : (ds : List ℕ) → AllDigits 10 ds → 0 < length ds → (get_or ds 0 0 ≡ 48 → length ds ≡ 1) → digits_value 10 ds < 2 ^ 64 → decimal (digits_value 10 ds) ≡ ds
two = decimal-digits_value own

-- document 01's line is the number in decimal
pub line-of : (e : Refusal) → line (refusal_number e) ≡ refused_line (refusal_number e)
line-of refusal.PointerSize = one 1 (omega arith)
line-of refusal.Length = one 2 (omega arith)
line-of refusal.TooMany = one 3 (omega arith)
line-of refusal.Malformed = one 4 (omega arith)
line-of refusal.NotInFile = one 5 (omega arith)
line-of refusal.NotDefinedOnce = one 6 (omega arith)
line-of refusal.Unsound = one 7 (omega arith)
line-of refusal.MarkedContext = one 8 (omega arith)
line-of refusal.SlotSize = one 9 (omega arith)
line-of refusal.NoSafepoint = by-digits 10 (two (49 ∷ 48 ∷ []) (omega arith, (omega arith, tt)) (omega arith) (λ e. absurd (omega arith)) (omega arith))
line-of (refusal.TooShort n) = by-digits 11 (two (49 ∷ 49 ∷ []) (omega arith, (omega arith, tt)) (omega arith) (λ e. absurd (omega arith)) (omega arith))

-- no refusal has a number above 11
pub refusal-small : (e : Refusal) → refusal_number e < 12
refusal-small refusal.PointerSize = omega arith
refusal-small refusal.Length = omega arith
refusal-small refusal.TooMany = omega arith
refusal-small refusal.Malformed = omega arith
refusal-small refusal.NotInFile = omega arith
refusal-small refusal.NotDefinedOnce = omega arith
refusal-small refusal.Unsound = omega arith
refusal-small refusal.MarkedContext = omega arith
refusal-small refusal.SlotSize = omega arith
refusal-small refusal.NoSafepoint = omega arith
refusal-small (refusal.TooShort _) = omega arith

module _ (n : ℕ) where
  -- one digit
  line-one : n < 10 → refused_and ((48 + n % 10) ∷ 10 ∷ []) ≡ refused_line n
  line-one l =
      ap (λ (b : Bool). refused_and (elim b as (λ _. List ℕ) [ true ↦ [] | false ↦ (48 + n / 10) ∷ [] ] ++ ((48 + n % 10) ∷ 10 ∷ []))) (sym (lt-ltb n 10 l))

  -- two
  line-two : 10 ≤ n → n < 12 → refused_and ((48 + n / 10 % 10) ∷ (48 + n % 10) ∷ 10 ∷ []) ≡ refused_line n
  line-two l m =
      let tens : n / 10 % 10 ≡ n / 10 = omega arith in
      ap (λ (t : ℕ). refused_and ((48 + t) ∷ (48 + n % 10) ∷ 10 ∷ [])) tens
      ∙ ap (λ (b : Bool). refused_and (elim b as (λ _. List ℕ) [ true ↦ [] | false ↦ (48 + n / 10) ∷ [] ] ++ ((48 + n % 10) ∷ 10 ∷ []))) (sym (le-ltb n 10 l))

  -- in sixteen bytes, with how many of them it is
  abbrev pub InLine : List ℕ → ℕ → Type 0
  InLine bytes count = (bytes ≡ padded line_bytes (refused_line n)) × (count ≡ length (refused_line n))

  pub one-digit : n < 10 → InLine (padded line_bytes (refused_and ((48 + n % 10) ∷ 10 ∷ []))) 10
  one-digit l = (ap (padded line_bytes) (line-one l), ap length (line-one l))

  pub two_digits : 10 ≤ n → n < 12 → InLine (padded line_bytes (refused_and ((48 + n / 10 % 10) ∷ (48 + n % 10) ∷ 10 ∷ []))) 11
  two_digits l m = (ap (padded line_bytes) (line-two l m), ap length (line-two l m))
