-- Where edges stand: in the tails of blocks. What else a file in order has is passed over: the values in front of the first
-- block, each block's record, and what stands before the block's tail.
use Prim.Native.Nat.{ℕ, zero, suc, ◌+◌, ◌-◌, ◌<◌, ◌≤◌}
use mathlib.Core.Path.{◌≡◌, refl, sym, ap, subst, ◌∙◌}
use mathlib.Core.Bool.{Bool, true, false, ◌&&◌}
use mathlib.Core.List.{List}
use native.Mathlib.Omega.{arith}
use lib.ListN.{length, get_or}
use lib.Dec.{T, eqb, eqb→eq, not_T}
use Rattle.rules.specs.Records.{kind, record_at, record_count, records}
use Rattle.rules.specs.File.{ordered, function_in}
use Rattle.records.specs.Kinds.{Kinds}
use Rattle.records.specs.Places.{rest, rest_more, rest-next, rest_all, rest_by-done}
use Rattle.records.specs.Parts.{front-values}
use Rattle.graph.specs.Between.{kinds-between}
use Rattle.graph.specs.Tails.{NoTail}
use Rattle.graph.specs.Blocks.{place_of, place-le, place-less, place-last, block-head, front-by-place}
use Rattle.graph.specs.Tables.{Given}
use Rattle.graph.specs.ByTable.{place_at}
use Rattle.soundness.specs.Fitting.{edge_fits, fitting, no_edge}

module _ (s : List ℕ) where
  -- from a place on every edge fits
  abbrev pub fitting_from : ℕ → Bool
  fitting_from i = fitting (function_in s) (rest s i)

  -- Places where none of a tail stands are passed over.
  pub fitting-behind : (p r : ℕ) → p ≤ r → r ≤ record_count s → NoTail s p r → fitting_from p ≡ fitting_from r
  fitting-behind p r l m none = from (r - p) p (omega arith) none
    where
      from : (n p : ℕ) → p + n ≡ r → NoTail s p r → fitting_from p ≡ fitting_from r
      from zero p e none =
          let same : p ≡ r = omega arith in
          ap fitting_from same
      from (suc n) p e none =
          let other = none p (omega arith) (omega arith) in
          ap (fitting (function_in s)) (rest_more s p (omega arith))
          ∙ ap (λ b. b && fitting_from (suc p))
          (no_edge (function_in s) (record_at s p) (rest s (suc p))
          (not_T (eqb (kind (record_at s p)) 7) (λ t. let same = eqb→eq (kind (record_at s p)) 7 t in omega arith)))
          ∙ from n (suc p) (omega arith) (λ i h. none i (omega arith))

  -- One record further back they fit if its own edge does;
  pub fitting-back :
      (i : ℕ) → 0 < i → i ≤ record_count s → {b : Bool} → b ≡ edge_fits (function_in s) (record_at s (i - 1)) (rest s (i - 1 + 1))
      → fitting_from (i - 1) ≡ (b && fitting_from i)
  fitting-back i l m {b} e =
      let next : i - 1 + 1 ≡ i = omega arith in
      ap (fitting (function_in s)) (rest-next s (i - 1) (omega arith))
      ∙ ap (λ x. x && fitting_from (i - 1 + 1)) (sym e)
      ∙ ap (λ j. b && fitting_from j) next

  -- and where they do not fit from a place on, they do not from one before it.
  pub unfit-before : (p j : ℕ) → p ≤ j → j ≤ record_count s → fitting_from j ≡ false → fitting_from p ≡ false
  unfit-before p j l m e = from (j - p) p (omega arith)
    where
      none : (b : Bool) → (b && false) ≡ false
      none true = refl
      none false = refl

      from : (n p : ℕ) → p + n ≡ j → fitting_from p ≡ false
      from zero p same = let here : p ≡ j = omega arith in ap fitting_from here ∙ e
      from (suc n) p same =
          ap (fitting (function_in s)) (rest_more s p (omega arith))
          ∙ ap (λ b. edge_fits (function_in s) (record_at s p) (rest s (suc p)) && b) (from n (suc p) (omega arith))
          ∙ none (edge_fits (function_in s) (record_at s p) (rest s (suc p)))

  -- values stand in front of the first block,
  front-none : T (ordered 0 (records s)) → NoTail s 0 (place_of s 0)
  front-none h i l m =
      let one =
      eqb→eq 1 (kind (record_at s i))
      (kinds-between s (eqb 1) 0 (place_of s 0) (place-le s 0 (omega arith)) (subst (Kinds (eqb 1)) (front-by-place s) (front-values (records s) h)) i l m) in
      omega arith

  -- and each block's record at its place.
  head-none : (b : ℕ) → b < length (function_in s).blocks → NoTail s (place_of s b) (suc (place_of s b))
  head-none b l i m k =
      let same : place_of s b ≡ i = omega arith in
      omega (arith, ap (λ (p : ℕ). kind (record_at s p)) same, block-head s b l)

-- BY THE FILE'S BLOCK TABLE, all edges of the file are those from the first block on,
module _ (s table : List ℕ) (g : Given s table) where
  pub fitting-blocks : fitting_from s (get_or table 0 0) ≡ fitting (function_in s) (records s)
  fitting-blocks =
      ap (fitting_from s) (place_at s table g 0)
      ∙ sym (fitting-behind s 0 (place_of s 0) (omega arith) (place-le s 0 (omega arith)) (front-none s g.in_order))
      ∙ ap (fitting (function_in s)) (rest_all s)

  -- those from a block on are those from behind its record on,
  pub fitting-body : (b : ℕ) → b < length (function_in s).blocks → fitting_from s (get_or table b 0) ≡ fitting_from s (get_or table b 0 + 1)
  fitting-body b l =
      let behind : suc (place_of s b) ≡ get_or table b 0 + 1 = omega (arith, place_at s table g b) in
      ap (fitting_from s) (place_at s table g b)
      ∙ fitting-behind s (place_of s b) (suc (place_of s b)) (omega arith) (omega (arith, place-less s b l, place-le s (suc b) l)) (head-none s b l)
      ∙ ap (fitting_from s) behind

  -- and behind the last block there is none.
  pub fitting-end : fitting_from s (get_or table (length (function_in s).blocks) 0) ≡ true
  fitting-end =
      ap (fitting_from s) (place_at s table g (length (function_in s).blocks) ∙ place-last s)
      ∙ ap (fitting (function_in s)) (rest_by-done (λ x. record_at x 0) s)
