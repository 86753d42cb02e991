-- Edge arguments and parameters from places on, one record more; an edge's target, by the file's block table.
use Prim.Native.Nat.{ℕ, zero, suc, ◌+◌, ◌<◌, ◌≤◌}
use mathlib.Core.Path.{◌≡◌, refl, sym, ap, ap₂, subst, ◌∙◌}
use mathlib.Core.Bool.{Bool, true, false, not, ◌&&◌, ◌||◌, cond}
use mathlib.Core.List.{List, [], ◌∷◌, ◌++◌, map}
use native.Mathlib.Omega.{arith}
use lib.ListN.{length, get_or}
use lib.Dec.{T, eqb, ltb, eqb→eq, ltb→lt, nltb→le}
use borrow.Author.Tests.{eq-eqb, ne_eqb}
use Rattle.rules.specs.Lists.{all}
use Rattle.rules.specs.Tree.{Block, Function}
use Rattle.rules.specs.Records.{encode, kind, record_at, record_count, records}
use Rattle.rules.specs.File.{ordered, cut, block_of, function, function_in}
use Rattle.rules.specs.Graph.{block_at, size_of}
use Rattle.rules.specs.Refusals.{fit}
use Rattle.rules.specs.declared.EdgeArgument.{EdgeArgument}
use Rattle.rules.specs.declared.EdgeArgument.TheVariants as passes
use Rattle.rules.specs.declared.Words.{Words}
use Rattle.rules.specs.declared.Record.{Record}
use Rattle.rules.specs.declared.Record.TheVariants as record'
use Rattle.lists.specs.Tests.{test-elim, neqb→ne}
use Rattle.lists.specs.Members.{all→∈, get_d-∈}
use Rattle.records.specs.Places.{rest, rest_more, rest-next, rest_all, rest_by-done, each-length, record-there, record-beyond}
use Rattle.records.specs.Parts.{argument, second, blocks_more}
use Rattle.records.specs.Leading.{leading, chain-behind}
use Rattle.checks.specs.Numbers.{numbers_fit, fit as fit_numbers, fit-edge, numbers_in_file-by-records}
use Rattle.graph.specs.Sections.{place_if, places}
use Rattle.graph.specs.Placed.{places_of, place_table}
use Rattle.graph.specs.Blocks.{place_of, length-block_places}
use Rattle.graph.specs.Tables.{Given}
use Rattle.graph.specs.ByTable.{place_at}
use Rattle.soundness.specs.Standing.{only}
use Rattle.soundness.specs.Fitting.{arguments_first, parameters_first, argument_fits, edge_fits, fit-more, parameters-first}

-- at the end nothing is left
pub rest_end : (s : List ℕ) (i : ℕ) → i ≤ record_count s → record_count s ≤ i → rest s i ≡ []
rest_end s i l m =
    let e : i ≡ record_count s = omega arith in
    ap (rest s) e ∙ rest_by-done (λ x. record_at x 0) s

-- The words at a place, or those of no record beyond the end, say what leads there.
module _ (s : List ℕ) (i : ℕ) (w : Words) (e : w ≡ encode (get_or (records s) i record'.Outside)) (l : i ≤ record_count s) where
  here : i < record_count s → w ≡ encode (record_at s i)
  here h = e ∙ ap encode (record-there s i h)

  leads : (k : ℕ) → i < record_count s → leading k (rest s i) ≡ elim (eqb w.kind k) [ true ↦ w ∷ leading k (rest s (i + 1)) | false ↦ [] ]
  leads k h =
      ap (leading k) (rest-next s i h)
      ∙ ap (λ (x : Words). elim (eqb x.kind k) [ true ↦ x ∷ leading k (rest s (i + 1)) | false ↦ [] ]) (sym (here h))

  pub leads-none : (k : ℕ) → (w.kind ≡ k → ⊥) → leading k (rest s i) ≡ []
  leads-none k n =
      test-elim (ltb i (record_count s))
      (λ y.
      leads k (ltb→lt i (record_count s) y)
      ∙ ap (λ b. elim b [ true ↦ w ∷ leading k (rest s (i + 1)) | false ↦ [] ]) (ne_eqb w.kind k n))
      (λ m. ap (leading k) (rest_end s i l (nltb→le i (record_count s) m)))

  pub leads-more : (k : ℕ) → 0 < k → w.kind ≡ k → (i < record_count s) × (leading k (rest s i) ≡ w ∷ leading k (rest s (i + 1)))
  leads-more k z q =
      test-elim (ltb i (record_count s))
      (λ y.
      let h = ltb→lt i (record_count s) y in
      (h, leads k h ∙ ap (λ b. elim b [ true ↦ w ∷ leading k (rest s (i + 1)) | false ↦ [] ]) (eq-eqb w.kind k q)))
      (λ m.
      let none : w.kind ≡ 0 = ap (λ x. x.kind) (e ∙ ap encode (record-beyond s i (nltb→le i (record_count s) m))) in
      absurd (omega arith))

-- Arguments a from place i on, parameters b from place p on.
module _ (f : Function) (s : List ℕ) (p : ℕ) (b : Words) (e : b ≡ encode (get_or (records s) p record'.Outside)) (l : p ≤ record_count s) where
  -- no argument is left
  pub fit_none : fit f [] (parameters_first (rest s p)) ≡ not (eqb b.kind 3)
  fit_none =
      test-elim (eqb b.kind 3)
      (λ y.
      let q = eqb→eq b.kind 3 y in
      ap (λ ws. fit f [] (map second ws)) (leads-more s p b e l 3 (omega arith) q).1 ∙ sym (ap not (eq-eqb b.kind 3 q)))
      (λ n.
      let q = neqb→ne b.kind 3 n in
      ap (λ ws. fit f [] (map second ws)) (leads-none s p b e l 3 q) ∙ sym (ap not (ne_eqb b.kind 3 q)))

  module _ (i : ℕ) (a : Words) (d : a ≡ encode (get_or (records s) i record'.Outside)) (m : i ≤ record_count s) where
    pub fit-last : (a.kind ≡ 8 → ⊥) → fit f (arguments_first (rest s i)) (parameters_first (rest s p)) ≡ not (eqb b.kind 3)
    fit-last n = ap (λ ws. fit f (map argument ws) (parameters_first (rest s p))) (leads-none s i a d m 8 n) ∙ fit_none

    -- no parameter is left
    pub fit-short : a.kind ≡ 8 → (b.kind ≡ 3 → ⊥) → fit f (arguments_first (rest s i)) (parameters_first (rest s p)) ≡ false
    fit-short q n =
        ap₂ (λ ws vs. fit f (map argument ws) (map second vs)) (leads-more s i a d m 8 (omega arith) q).1 (leads-none s p b e l 3 n)

    -- one of each
    pub fit_next : a.kind ≡ 8 → b.kind ≡ 3
        → fit f (arguments_first (rest s i)) (parameters_first (rest s p))
        ≡ (argument_fits f (argument a) b.second && fit f (arguments_first (rest s (i + 1))) (parameters_first (rest s (p + 1))))
    fit_next q r =
        ap₂ (λ ws vs. fit f (map argument ws) (map second vs)) (leads-more s i a d m 8 (omega arith) q).1 (leads-more s p b e l 3 (omega arith) r).1
        ∙ fit-more f (argument a) (arguments_first (rest s (i + 1))) b.second (parameters_first (rest s (p + 1)))

-- THE PARAMETERS OF A BLOCK, found by its place.
module _ (s : List ℕ) (o : T (ordered 0 (records s))) where
  -- at the place found for it stands the block of that number
  abbrev Stands : List ℕ → List Block → ℕ → Type 0
  Stands ps bs b =
      parameters_first (rest s (suc (get_or (ps ++ (record_count s ∷ [])) b 0)))
      ≡ (get_or bs b (record { cold = false; number = 0; parameters = []; items = [] })).parameters

  -- each block that opens among some records stands at its place among them
  abbrev Placed : ℕ → List Record → Type 0
  Placed i rs = (b : ℕ) → b < length (places (eqb 2) i rs) → Stands (places (eqb 2) i rs) (function rs).blocks b

  placed : (n i : ℕ) → i + n ≡ record_count s → Placed i (rest s i)
  placed zero i e =
      subst (Placed i) (sym (rest_end s i (omega arith) (omega arith))) (λ b l. absurd (omega arith))
  placed (suc n) i e =
      let r = record_at s i in
      let rs = rest s (suc i) in
      let ps = places (eqb 2) (suc i) rs in
      subst (Placed i) (sym (rest_more s i (omega arith)))
      (subst (λ bs. (b : ℕ) → b < length (place_if (eqb 2 (kind r)) i ps) → Stands (place_if (eqb 2 (kind r)) i ps) bs b) (sym (blocks_more r rs))
      (go ps (function rs).blocks (eqb 2 (kind r)) (λ two. sym (parameters-first r rs two (chain-behind s o i (omega arith)))) (placed n (suc i) (omega arith))))
    where
      first : Block
      first = block_of (record { head = record_at s i; body = (cut (eqb 2) (rest s (suc i))).front })

      go : (ps : List ℕ) (bs : List Block) (opens : Bool) → (T opens → parameters_first (rest s (suc i)) ≡ first.parameters)
          → ((b : ℕ) → b < length ps → Stands ps bs b)
          → (b : ℕ) → b < length (place_if opens i ps) → Stands (place_if opens i ps) (elim opens [ true ↦ first ∷ bs | false ↦ bs ]) b
      go ps bs true own later zero l = own tt
      go ps bs true own later (suc b) l = later b (omega arith)
      go ps bs false own later b l = later b l

  parameters-placed : (b : ℕ) → b < length (function_in s).blocks → parameters_first (rest s (suc (place_of s b))) ≡ (block_at (function_in s) b).parameters
  unfolding place_table places_of
  parameters-placed b l = subst (Placed 0) (rest_all s) (placed (record_count s) 0 (omega arith)) b (omega (arith, length-block_places s))

-- AN EDGE'S TARGET, by the file's block table.
module _ (s table : List ℕ) (g : Given s table) (i : ℕ) (w : Words) (e : w ≡ encode (record_at s i)) (h : i < record_count s) (seven : w.kind ≡ 7) where
  -- it is a block of the file,
  pub target-in-file : w.second < length (function_in s).blocks
  unfolding records
  target-in-file =
      let values = length (function_in s).values in
      let blocks = length (function_in s).blocks in
      let all_fit : T (all (fit_numbers values blocks) (records s)) = subst T (numbers_in_file-by-records (records s) g.in_order) g.in_file in
      let long = each-length (λ t. record_at t 0) (record_count s) s in
      let there = all→∈ (fit_numbers values blocks) (records s) all_fit (get_d-∈ (records s) i record'.Outside (omega arith)) in
      let fits = subst (λ x. T (numbers_fit values blocks x)) (ap encode (record-there s i h) ∙ sym e) there in
      ltb→lt w.second blocks (fit-edge values blocks w fits (subst T (sym (eq-eqb w.kind 7 seven)) tt))

  -- and behind its record stand its parameters.
  pub target-parameters : parameters_first (rest s (get_or table w.second 0 + 1)) ≡ (block_at (function_in s) w.second).parameters
  target-parameters =
      let place : get_or table w.second 0 + 1 ≡ suc (place_of s w.second) = omega (arith, place_at s table g w.second) in
      ap (λ p. parameters_first (rest s p)) place ∙ parameters-placed s g.in_order w.second target-in-file

-- AN EDGE ARGUMENT BY ITS WORDS: a returned or an exception word fits any parameter.
module _ (f : Function) (a : Words) (p : ℕ) where
  abbrev passed : Bool → Bool → EdgeArgument
  passed z o = cond z (passes.Value a.third) (cond o (passes.Returned a.third) (passes.Exception a.third))

  pub fits_word : (a.second ≡ 0 → ⊥) → argument_fits f (argument a) p ≡ true
  unfolding argument_fits
  fits_word n = ap (λ z. argument_fits f (passed z (eqb a.second 1)) p) (ne_eqb a.second 0 n) ∙ go (eqb a.second 1)
    where
      go : (o : Bool) → argument_fits f (passed false o) p ≡ true
      go true = refl
      go false = refl

  pub fits-value : a.second ≡ 0 → argument_fits f (argument a) p ≡ eqb (size_of f a.third) (size_of f p)
  unfolding argument_fits
  fits-value e = ap (λ z. argument_fits f (passed z (eqb a.second 1)) p) (eq-eqb a.second 0 e)

-- AN EDGE'S RECORD BY ITS WORDS.
module _ (f : Function) (r : Record) (rs : List Record) (w : Words) (e : w ≡ encode r) where
  abbrev fits : Words → Bool
  fits x = only 7 (fit f (arguments_first rs) (block_at f x.second).parameters) x

  pub edge_none : (w.kind ≡ 7 → ⊥) → true ≡ edge_fits f r rs
  edge_none n = sym (ap (λ b. not b || fit f (arguments_first rs) (block_at f w.second).parameters) (ne_eqb w.kind 7 n)) ∙ ap fits e

  pub edge-there : w.kind ≡ 7 → fit f (arguments_first rs) (block_at f w.second).parameters ≡ edge_fits f r rs
  edge-there q = sym (ap (λ b. not b || fit f (arguments_first rs) (block_at f w.second).parameters) (eq-eqb w.kind 7 q)) ∙ ap fits e
