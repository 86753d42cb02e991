-- Contexts by place, and by the list of the reachable blocks.
use Prim.Native.Nat.{ℕ, zero, suc, ◌+◌, ◌-◌, ◌<◌, ◌≤◌}
use mathlib.Core.Path.{◌≡◌, refl, sym, ap, ap₂, subst, ◌∙◌}
use mathlib.Core.Logic.{◌≢◌}
use mathlib.Core.Bool.{Bool, true, false, ◌&&◌, ◌||◌}
use mathlib.Core.List.{List, [], ◌∷◌, map}
use native.Mathlib.Omega.{arith}
use lib.ListN.{length, get_or, take}
use lib.Seq.{take-length, take-append_seam}
use lib.Dec.{T, eqb, eqb→eq, ltb, ltb→lt, nltb→le}
use Rattle.std.specs.List.{list_any}
use Rattle.std.proofs.lemmas.List.{get_or_default}
use borrow.Author.Tests.{eq-eqb, ne_eqb}
use Rattle.rules.specs.Lists.{any}
use Rattle.rules.specs.Refusals.{marked_context}
use Rattle.rules.specs.Tree.{Function}
use Rattle.rules.specs.Records.{encode, kind, record_at, record_count, records}
use Rattle.rules.specs.File.{of_kind, named, followers, follows, ordered, function_in}
use Rattle.rules.specs.Graph.{block_at, is_marked, instructions_of, reachable}
use Rattle.rules.specs.declared.Record.{Record}
use Rattle.rules.specs.declared.Words.{Words}
use Rattle.lists.specs.Anys.{any-concat_map}
use Rattle.lists.specs.Tests.{test-elim, and_left, or_elim, passes_at}
use Rattle.records.specs.Places.{rest, rest-next}
use Rattle.records.specs.InOrder.{chain}
use Rattle.records.specs.Leading.{chain_next}
use Rattle.graph.specs.Between.{between, between_none, between_next}
use Rattle.graph.specs.Tails.{TailLast, stays_on}
use Rattle.graph.specs.Blocks.{contexts-by-place}
use Rattle.graph.specs.Links.{Walked}
use Rattle.graph.specs.Tables.{Given}
use Rattle.acceptance.specs.Marked.{block_marked}
use Rattle.graph.specs.ByTable.{body-by-table, block_listed}

-- the library's `any` is that of the rules
any-is : (test : ℕ → Bool) (xs : List ℕ) → list_any test xs ≡ any test xs
any-is test [] = refl
any-is test (x ∷ xs) = ap (λ b. test x || b) (any-is test xs)

module _ (s : List ℕ) where
  abbrev f : Function
  f = function_in s

  -- four words are a marked context
  abbrev pub is_marked_context : Words → Bool
  is_marked_context w = eqb w.kind 9 && is_marked f w.second

  -- a marked context stands between two places
  abbrev pub marked_between : ℕ → ℕ → Bool
  marked_between p q = any (is_marked f) (named 9 (between s p q))

  named_more : (r : Record) (rs : List Record) → any (is_marked f) (named 9 (r ∷ rs)) ≡ is_marked_context (encode r) || any (is_marked f) (named 9 rs)
  named_more r rs = go (eqb (kind r) 9)
    where
      go : (b : Bool)
          → any (is_marked f) (map (λ (w : Words). w.second) (elim b [ true ↦ encode r ∷ of_kind 9 rs | false ↦ of_kind 9 rs ]))
          ≡ (b && is_marked f (encode r).second) || any (is_marked f) (named 9 rs)
      go true = refl
      go false = refl

  pub marked_more :
      (p q : ℕ) → p < q → q ≤ record_count s
      → marked_between p q ≡ is_marked_context (encode (record_at s p)) || marked_between (p + 1) q
  marked_more p q l k =
      ap (λ (rs : List Record). any (is_marked f) (named 9 rs)) (between_next s p q l k)
      ∙ named_more (record_at s p) (between s (p + 1) q)

  pub marked-none : (p q : ℕ) → p ≡ q → marked_between p q ≡ false
  marked-none p q e = rw (e, between_none s q) refl

  -- a record of another kind is none,
  other-unmarked : (p : ℕ) → kind (record_at s p) ≢ 9 → is_marked_context (encode (record_at s p)) ≡ false
  other-unmarked p e = ap (λ b. b && is_marked f (encode (record_at s p)).second) (ne_eqb (kind (record_at s p)) 9 e)

  -- so places without contexts are passed over;
  pub marked-behind :
      (p r q : ℕ) → p ≤ r → r ≤ q → q ≤ record_count s → ((i : ℕ) → p ≤ i → i < r → kind (record_at s i) ≢ 9) → marked_between p q ≡ marked_between r q
  marked-behind p r q l m k none = from (r - p) p (omega arith) none
    where
      from : (n p : ℕ) → p + n ≡ r → ((i : ℕ) → p ≤ i → i < r → kind (record_at s i) ≢ 9) → marked_between p q ≡ marked_between r q
      from zero p e none = let same : p ≡ r = omega arith in ap (λ (j : ℕ). marked_between j q) same
      from (suc n) p e none =
          marked_more p q (omega arith) k
          ∙ ap (λ b. b || marked_between (p + 1) q) (other-unmarked p (none p (omega arith) (omega arith)))
          ∙ from n (p + 1) (omega arith) (λ i h. none i (omega arith))

  -- and where one is found from a place on, it is from one before it.
  pub marked-before : (p r q : ℕ) → p ≤ r → r ≤ q → q ≤ record_count s → marked_between r q ≡ true → marked_between p q ≡ true
  marked-before p r q l m k found = from (r - p) p (omega arith)
    where
      either : (b : Bool) → b || true ≡ true
      either true = refl
      either false = refl

      from : (n p : ℕ) → p + n ≡ r → marked_between p q ≡ true
      from zero p e = let same : p ≡ r = omega arith in ap (λ (j : ℕ). marked_between j q) same ∙ found
      from (suc n) p e =
          test-elim (ltb p q)
          (λ y.
          marked_more p q (ltb→lt p q y) k
          ∙ ap (λ b. is_marked_context (encode (record_at s p)) || b) (from n (p + 1) (omega arith))
          ∙ either (is_marked_context (encode (record_at s p))))
          (λ n. let far = nltb→le p q n in absurd (omega arith))

  -- One context further back, by its words, one is found if it is marked.
  pub marked-context :
      (i q : ℕ) → 0 < i → i ≤ q → q ≤ record_count s → (w : Words) → w ≡ encode (record_at s (i - 1)) → w.kind ≡ 9 → {b : Bool} → b ≡ is_marked f w.second
      → marked_between (i - 1) q ≡ b || marked_between i q
  marked-context i q l m k w e nine {b} is =
      let next : i - 1 + 1 ≡ i = omega arith in
      marked_more (i - 1) q (omega arith) k
      ∙ ap (λ (x : Words). is_marked_context x || marked_between (i - 1 + 1) q) (sym e)
      ∙ ap (λ c. (c && is_marked f w.second) || marked_between (i - 1 + 1) q) (eq-eqb w.kind 9 nine)
      ∙ ap (λ c. c || marked_between (i - 1 + 1) q) (sym is)
      ∙ ap (λ (j : ℕ). b || marked_between j q) next

  -- CONTEXTS STAND LAST: within a tail only a context follows one,
  module _ (in_order : T (ordered 0 (records s))) (start end : ℕ) (in_file : end ≤ record_count s) (last : TailLast s start end) where
    context-next : (i : ℕ) → start ≤ i → i + 1 < end → kind (record_at s i) ≡ 9 → kind (record_at s (i + 1)) ≡ 9
    unfolding follows followers
    context-next i l m nine =
        let k = kind (record_at s (i + 1)) in
        let behind : T (chain 9 (rest s (i + 1))) = subst (λ (p : ℕ). T (chain p (rest s (i + 1)))) nine (chain_next s in_order i (omega arith)) in
        let follow : T (follows 9 k) =
        and_left (follows 9 k) (chain k (rest s (i + 1 + 1))) (subst (λ (rs : List Record). T (chain 9 rs)) (rest-next s (i + 1) (omega arith)) behind) in
        let high = last i l m (omega arith) in
        or_elim (eqb k 2) (eqb k 4 || eqb k 9) (λ e. absurd (let two = eqb→eq k 2 e in omega arith))
        (or_elim (eqb k 4) (eqb k 9) (λ e. absurd (let four = eqb→eq k 4 e in omega arith)) (eqb→eq k 9))
        (passes_at (λ j. eqb j 2 || (eqb j 4 || eqb j 9)) (get_or followers 9 []) tt k follow)

    -- so before a record that is none there is none.
    pub context-none : (r : ℕ) → r < end → kind (record_at s r) ≢ 9 → (i : ℕ) → start ≤ i → i < r + 1 → kind (record_at s i) ≢ 9
    context-none r l other i m k nine = other (stays_on (λ j. kind (record_at s j) ≡ 9) start end context-next (r - i) i r (omega arith) m l nine)

  -- a block has one if one stands between its places
  pub block_marked-by-table :
      (places : List ℕ) → Given s places → (b : ℕ) → b < length f.blocks
      → block_marked f b ≡ marked_between (get_or places b 0 + 1) (get_or places (b + 1) 0)
  block_marked-by-table places g b l =
      sym (any-concat_map (is_marked f) (λ i. i.contexts) (instructions_of (block_at f b)))
      ∙ ap (any (is_marked f)) (contexts-by-place s g.in_order b l)
      ∙ ap (λ (rs : List Record). any (is_marked f) (named 9 rs)) (sym (body-by-table s places g b l))

-- THE REACHABLE BLOCKS, where the list is exactly theirs: each is in the file,
module _ {s places order : List ℕ} (w : Walked s places order (length order)) where
  pub in-file : (k b : ℕ) → k < length order → b ≡ get_or order k b → b < length (function_in s).blocks
  in-file k b l e = let listed = block_listed w k l in omega (arith, listed, e, get_or_default order k b 0 l)

  listed-all : order ≡ reachable (function_in s)
  listed-all = sym (take-length order) ∙ ap₂ (λ (n : ℕ) (xs : List ℕ). take n xs) w.counted w.listed ∙ take-append_seam (reachable (function_in s)) _

  -- and so one has a marked context if a reachable block does.
  pub marked-listed : (b : Bool) → b ≡ list_any (block_marked (function_in s)) order → b ≡ marked_context (function_in s)
  marked-listed b e = e ∙ any-is (block_marked (function_in s)) order ∙ ap (any (block_marked (function_in s))) listed-all
