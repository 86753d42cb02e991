-- Records that are written from tables of sizes, and the file's values, copied.
use Rattle.std.specs.Prelude.{ℕ, zero, suc, ◌-◌, ◌≤◌, ◌≡◌, refl, false, List, [], ◌∷◌, ◌++◌, map, get_or, take, T, eqb}
use Rattle.std.proofs.Common.{sym, ◌∙◌, eqb→eq}
use Rattle.std.proofs.Math.Path.{ap}
use native.Mathlib.Omega.{arith}
use Rattle.std.proofs.Math.ListN.{length}
use Rattle.rules.specs.Lists.{concat_map, up_from}
use Rattle.rules.specs.Tree.{Value}
use Rattle.rules.specs.Records.{encode, kind, record_at, record_count, records}
use Rattle.rules.specs.File.{ordered, function_in}
use Rattle.rules.specs.Graph.{value_at}
use Rattle.rules.specs.declared.Record.{Record}
use Rattle.rules.specs.declared.Record.TheVariants as record'
use Rattle.lists.specs.Maps.{map-map}
use Rattle.lists.specs.Tests.{chosen}
use Rattle.records.specs.Values.{value_of, no_value, value-in-place, value-record}
use Rattle.numbering.specs.NewValues.{unmarked, new_values}
use Rattle.writing.specs.Places.{from_to, from_to-same}
use Rattle.writing_edges.specs.Zips.{map-concat}
use Rattle.layout.specs.BlockRuns.{copy_at}
use Rattle.writing_instructions.specs.Remade.{value-remade}

-- a new value, and a slot, by its size in a table
abbrev pub new_value_at : List ℕ → ℕ → List Record
new_value_at sizes i = record'.Value (get_or sizes i 0) false ∷ []

abbrev pub slot_at : List ℕ → ℕ → List Record
slot_at sizes i = record'.Slot (get_or sizes i 0) ∷ []

-- BY NUMBER: what is made of each member of a list, one behind the other
concat-behind : (g : ℕ → List Record) (a n : ℕ) → concat_map g (up_from (suc a) n) ≡ concat_map (λ i. g (suc i)) (up_from a n)
concat-behind g a zero = refl
concat-behind g a (suc n) = ap (λ (t : List Record). g (suc a) ++ t) (concat-behind g (suc a) n)

module _ {A : Type 0} (g : A → List Record) (d : A) where
  by_number : (xs : List A) → concat_map g xs ≡ concat_map (λ i. g (get_or xs i d)) (up_from 0 (length xs))
  by_number [] = refl
  by_number (x ∷ xs) =
      ap (λ (t : List Record). g x ++ t) (by_number xs ∙ sym (concat-behind (λ i. g (get_or (x ∷ xs) i d)) 0 (length xs)))

  pub concat-by-number : (xs : List A) (n : ℕ) → n ≡ length xs → concat_map g xs ≡ from_to (λ i. g (get_or xs i d)) 0 n
  unfolding from_to
  concat-by-number xs n e =
      let all : length xs ≡ n - 0 = omega (arith, e) in
      by_number xs ∙ ap (λ (k : ℕ). concat_map (λ i. g (get_or xs i d)) (up_from 0 k)) all

-- the first of a table of sizes
first-sizes :
    (h : ℕ → Record) (sizes : List ℕ) (n : ℕ) → n ≤ length sizes → map h (take n sizes) ≡ concat_map (λ i. h (get_or sizes i 0) ∷ []) (up_from 0 n)
first-sizes h sizes zero l = refl
first-sizes h [] (suc n) l = absurd (omega arith)
first-sizes h (x ∷ sizes) (suc n) l =
    ap (λ (t : List Record). h x ∷ t)
    (first-sizes h sizes n (omega arith) ∙ sym (concat-behind (λ i. h (get_or (x ∷ sizes) i 0) ∷ []) 0 n))

module _ (sizes : List ℕ) (n : ℕ) (l : n ≤ length sizes) where
  pub new-values-are : map (λ (x : Value). record'.Value x.size x.marked) (new_values sizes n) ≡ from_to (new_value_at sizes) 0 n
  unfolding from_to new_values
  new-values-are =
      let all : n ≡ n - 0 = omega arith in
      map-map (λ (x : Value). record'.Value x.size x.marked) unmarked (take n sizes)
      ∙ first-sizes (λ x. record'.Value x false) sizes n l ∙ ap (λ (k : ℕ). concat_map (new_value_at sizes) (up_from 0 k)) all

  pub slots-are : map record'.Slot (take n sizes) ≡ from_to (slot_at sizes) 0 n
  unfolding from_to
  slots-are =
      let all : n ≡ n - 0 = omega arith in
      first-sizes record'.Slot sizes n l ∙ ap (λ (k : ℕ). concat_map (slot_at sizes) (up_from 0 k)) all

  -- as a loop over the first ones puts them
  pub new-values-mapped : map (λ size. record'.Value size false) (take n sizes) ≡ from_to (new_value_at sizes) 0 n
  unfolding from_to
  new-values-mapped =
      let all : n ≡ n - 0 = omega arith in
      first-sizes (λ size. record'.Value size false) sizes n l ∙ ap (λ (k : ℕ). concat_map (new_value_at sizes) (up_from 0 k)) all

  pub slots-mapped : map record'.Slot (take n sizes) ≡ from_to (slot_at sizes) 0 n
  unfolding from_to
  slots-mapped =
      let all : n ≡ n - 0 = omega arith in
      first-sizes record'.Slot sizes n l ∙ ap (λ (k : ℕ). concat_map (slot_at sizes) (up_from 0 k)) all

-- THE FILE'S VALUES are its first records.
pub values-copied :
    (s : List ℕ) → T (ordered 0 (records s)) → (n : ℕ) → n ≡ length (function_in s).values
    → map (λ (x : Value). record'.Value x.size x.marked) (function_in s).values ≡ from_to (copy_at s) 0 n
values-copied s h n e =
    let f = function_in s in
    let made : Value → List Record = λ x. record'.Value x.size x.marked ∷ [] in
    map-concat (λ (x : Value). record'.Value x.size x.marked) f.values
    ∙ concat-by-number made (record { size = 0; marked = false }) f.values n e
    ∙ from_to-same (λ i. made (value_at f i)) (copy_at s) 0 n
    (λ i l m.
    let here = value-record s h i (omega (arith, m, e)) in
    ap made (value-in-place s h i here.0 ∙ chosen (eqb (kind (record_at s i)) 1) (value_of (encode (record_at s i))) no_value here.1)
    ∙ ap (λ (r : Record). r ∷ []) (sym (value-remade (record_at s i) (eqb→eq (kind (record_at s i)) 1 here.1))))

-- they stand in the file
pub values-inside : (s : List ℕ) → T (ordered 0 (records s)) → (n : ℕ) → n ≡ length (function_in s).values → n ≤ record_count s
values-inside s h zero e = omega arith
values-inside s h (suc n) e = (value-record s h n (omega (arith, e))).0
