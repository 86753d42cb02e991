-- What an edge argument has of a part: a value that is passed, and a returned or exception word.
use Prim.Native.Nat.{ℕ, zero, suc}
use mathlib.Core.Path.{◌≡◌, refl}
use mathlib.Core.Bool.{true}
use mathlib.Core.List.{List, [], ◌∷◌, map}
use Rattle.rules.specs.Plan.{Made}
use Rattle.rules.specs.Records.{encode}
use Rattle.rules.specs.Rewriting.{words_among}
use Rattle.rules.specs.declared.EdgeArgument.{EdgeArgument}
use Rattle.rules.specs.declared.EdgeArgument.TheVariants as passes
use Rattle.rules.specs.declared.Record.{Record}
use Rattle.rules.specs.declared.Record.TheVariants as record'
use Rattle.numbering.specs.Beside.{made}
use Rattle.writing.specs.declared.parts.Part.{Part}
use Rattle.writing.specs.declared.parts.Part.TheVariants as part
use Rattle.writing.specs.Parts.{tagged, landed_word, of_argument, part_records}

module _ (size slot : ℕ → ℕ) where
  -- a value has nothing of the parts that only a word has,
  pub value-nothing :
      (v : ℕ) (n : Made) (a : Part) → of_argument a ≡ true → (a ≡ part.PassedLoad → ⊥) → (a ≡ part.Passed → ⊥) → (a ≡ part.Landed → ⊥)
      → [] ≡ part_records size slot a (encode (record'.EdgeArgument (passes.Value v))) n
  unfolding part_records
  value-nothing v n part.Load e n0 n1 n2 = cc
  value-nothing v n part.Store e n0 n1 n2 = cc
  value-nothing v n part.Argument e n0 n1 n2 = cc
  value-nothing v n part.Result e n0 n1 n2 = cc
  value-nothing v n part.Context e n0 n1 n2 = cc
  value-nothing v n part.Parameter e n0 n1 n2 = cc
  value-nothing v n part.PassedLoad e n0 n1 n2 = absurd (n0 refl)
  value-nothing v n part.Passed e n0 n1 n2 = absurd (n1 refl)
  value-nothing v n part.Word e n0 n1 n2 = refl
  value-nothing v n part.LandingParameter e n0 n1 n2 = refl
  value-nothing v n part.Landed e n0 n1 n2 = absurd (n2 refl)

  -- and a word has nothing loaded for it
  pub word-nothing :
      (x : EdgeArgument) (n : Made) → words_among (x ∷ []) ≡ x ∷ [] → (a : Part) → of_argument a ≡ true → (a ≡ part.Passed → ⊥) → (a ≡ part.Word → ⊥)
      → (a ≡ part.LandingParameter → ⊥) → (a ≡ part.Landed → ⊥) → [] ≡ part_records size slot a (encode (record'.EdgeArgument x)) n
  unfolding part_records
  word-nothing (passes.Value v) n h a e n0 n1 n2 n3 = cc
  word-nothing (passes.Returned i) n h part.Load e n0 n1 n2 n3 = cc
  word-nothing (passes.Returned i) n h part.Store e n0 n1 n2 n3 = cc
  word-nothing (passes.Returned i) n h part.Argument e n0 n1 n2 n3 = cc
  word-nothing (passes.Returned i) n h part.Result e n0 n1 n2 n3 = cc
  word-nothing (passes.Returned i) n h part.Context e n0 n1 n2 n3 = cc
  word-nothing (passes.Returned i) n h part.Parameter e n0 n1 n2 n3 = cc
  word-nothing (passes.Returned i) n h part.PassedLoad e n0 n1 n2 n3 = refl
  word-nothing (passes.Returned i) n h part.Passed e n0 n1 n2 n3 = absurd (n0 refl)
  word-nothing (passes.Returned i) n h part.Word e n0 n1 n2 n3 = absurd (n1 refl)
  word-nothing (passes.Returned i) n h part.LandingParameter e n0 n1 n2 n3 = absurd (n2 refl)
  word-nothing (passes.Returned i) n h part.Landed e n0 n1 n2 n3 = absurd (n3 refl)
  word-nothing (passes.Exception i) n h part.Load e n0 n1 n2 n3 = cc
  word-nothing (passes.Exception i) n h part.Store e n0 n1 n2 n3 = cc
  word-nothing (passes.Exception i) n h part.Argument e n0 n1 n2 n3 = cc
  word-nothing (passes.Exception i) n h part.Result e n0 n1 n2 n3 = cc
  word-nothing (passes.Exception i) n h part.Context e n0 n1 n2 n3 = cc
  word-nothing (passes.Exception i) n h part.Parameter e n0 n1 n2 n3 = cc
  word-nothing (passes.Exception i) n h part.PassedLoad e n0 n1 n2 n3 = refl
  word-nothing (passes.Exception i) n h part.Passed e n0 n1 n2 n3 = absurd (n0 refl)
  word-nothing (passes.Exception i) n h part.Word e n0 n1 n2 n3 = absurd (n1 refl)
  word-nothing (passes.Exception i) n h part.LandingParameter e n0 n1 n2 n3 = absurd (n2 refl)
  word-nothing (passes.Exception i) n h part.Landed e n0 n1 n2 n3 = absurd (n3 refl)

  pub word-passed : (x : EdgeArgument) (tag : ℕ) → words_among (x ∷ []) ≡ x ∷ []
      → ◌≡◌ {A = List Record} (record'.EdgeArgument x ∷ []) (part_records size slot part.Passed (encode (record'.EdgeArgument x)) (made tag))
  unfolding part_records
  word-passed (passes.Value v) tag h = cc
  word-passed (passes.Returned i) tag h = refl
  word-passed (passes.Exception i) tag h = refl

  pub word-only : (x : EdgeArgument) (tag : ℕ) → words_among (x ∷ []) ≡ x ∷ []
      → ◌≡◌ {A = List Record} (record'.EdgeArgument x ∷ []) (part_records size slot part.Word (encode (record'.EdgeArgument x)) (made tag))
  unfolding part_records
  word-only (passes.Value v) tag h = cc
  word-only (passes.Returned i) tag h = refl
  word-only (passes.Exception i) tag h = refl

  pub word-parameter : (x : EdgeArgument) (tag : ℕ) → words_among (x ∷ []) ≡ x ∷ []
      → ◌≡◌ {A = List Record} (map record'.Parameter (tagged tag)) (part_records size slot part.LandingParameter (encode (record'.EdgeArgument x)) (made tag))
  unfolding part_records
  word-parameter (passes.Value v) tag h = cc
  word-parameter (passes.Returned i) zero h = refl
  word-parameter (passes.Returned i) (suc n) h = refl
  word-parameter (passes.Exception i) zero h = refl
  word-parameter (passes.Exception i) (suc n) h = refl

  pub word-landed : (x : EdgeArgument) (tag : ℕ) → words_among (x ∷ []) ≡ x ∷ []
      → ◌≡◌ {A = List Record} (record'.EdgeArgument (landed_word x tag) ∷ []) (part_records size slot part.Landed (encode (record'.EdgeArgument x)) (made tag))
  unfolding part_records
  word-landed (passes.Value v) tag h = cc
  word-landed (passes.Returned i) zero h = refl
  word-landed (passes.Returned i) (suc n) h = refl
  word-landed (passes.Exception i) zero h = refl
  word-landed (passes.Exception i) (suc n) h = refl
