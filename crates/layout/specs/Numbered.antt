-- The numbers of a file's instructions by place, and the lists by number: block by block they are those of the rules.
use Rattle.std.specs.Prelude.{ℕ, zero, suc, ◌+◌, ◌-◌, ◌<◌, ◌≤◌, ◌≡◌, refl, Bool, true, false, not, ◌&&◌, List, [], ◌∷◌, ◌++◌, length, get_or, T, eqb}
use Rattle.std.proofs.Common.{sym, ap, subst, ◌∙◌, arith, add-one, length-append, eqb→eq}
use Rattle.std.proofs.Math.Option.{Option, none, some}
use Rattle.std.proofs.lemmas.List.{length-map}
use Rattle.rules.specs.Lists.{all, keep, is_none, or_else, concat_map, up_from, nothing, members}
use Rattle.rules.specs.Tree.{Function}
use Rattle.rules.specs.Records.{kind, record_at, record_count, records}
use Rattle.rules.specs.File.{ordered, cut, instruction_of, function_in}
use Rattle.rules.specs.Liveness.{lists_of, lists}
use Rattle.rules.specs.declared.Record.{Record}
use Rattle.lists.specs.Maps.{concat_map-append}
use Rattle.records.specs.Kinds.{Kinds, kinds-weaken}
use Rattle.records.specs.Parts.{front-values}
use Rattle.graph.specs.Between.{between, between_none}
use Rattle.graph.specs.Sections.{place_if, places, sections_at, length-sections_at}
use Rattle.graph.specs.Blocks.{place_of, place-le, place-less, block-head, front-by-place, instructions-by-place}
use Rattle.listing.specs.Crossings.{listed, up_from-more}
use Rattle.listing.specs.ByBlock.{lists_below, length-lists_of}
use Rattle.listing.specs.Listed.{list-members, listed-none}
use Rattle.listing.specs.Stepping.{heads_from, heads-more}
use Rattle.layout.specs.BlockRuns.{number_at, number_same}

-- BY PLACE. Instructions that start at these places have the numbers from n on.
abbrev pub Numbered : List ℕ → ℕ → List ℕ → Type 0
Numbered s n [] = Unit
Numbered s n (p ∷ ps) = (number_at s p ≡ n) × Numbered s (suc n) ps

module _ (s : List ℕ) (q : ℕ) (m : q ≤ record_count s) where
  numbered_more : (n p : ℕ) → p + n ≡ q → Numbered s (number_at s p) (heads_from s p q)
  numbered_more zero p e =
      let same : q ≡ p = omega arith in
      rw (same, between_none s p) tt
  numbered_more (suc n) p e =
      subst (Numbered s (number_at s p)) (sym (heads-more s q m p (omega arith)))
      (go (eqb (kind (record_at s p)) 4) (numbered_more n (suc p) (omega arith)))
    where
      ps : List ℕ
      ps = heads_from s (suc p) q

      go : (b : Bool) → Numbered s (elim b [ true ↦ suc (number_at s p) | false ↦ number_at s p ]) ps → Numbered s (number_at s p) (place_if b p ps)
      go true h = (refl, h)
      go false h = h

  pub numbered-from : (p : ℕ) → p ≤ q → Numbered s (number_at s p) (heads_from s p q)
  numbered-from p l = numbered_more (q - p) p (omega arith)

  count-more : (n p : ℕ) → p + n ≡ q → number_at s q ≡ number_at s p + length (heads_from s p q)
  count-more zero p e =
      let same : q ≡ p = omega arith in
      let none : heads_from s p q ≡ [] = rw (same, between_none s p) refl in
      omega (arith, ap (number_at s) same, ap length none)
  count-more (suc n) p e =
      omega (
        arith,
        count-more n (suc p) (omega arith),
        ap length (heads-more s q m p (omega arith)),
        go (eqb (kind (record_at s p)) 4),
      )
    where
      ps : List ℕ
      ps = heads_from s (suc p) q

      go : (b : Bool) → elim b [ true ↦ suc (number_at s p) | false ↦ number_at s p ] + length ps ≡ number_at s p + length (place_if b p ps)
      go true = omega arith
      go false = omega arith

  -- as many more as start between
  number-behind-run : (p : ℕ) → p ≤ q → number_at s q ≡ number_at s p + length (heads_from s p q)
  number-behind-run p l = count-more (q - p) p (omega arith)

-- BLOCK BY BLOCK
length-below-more : (f : Function) (b : ℕ) → length (lists_below f (suc b)) ≡ length (lists_below f b) + length (lists_of f b)
length-below-more f b =
    let same : 0 + b ≡ b = omega arith in
    omega (
      arith,
      ap (λ (bs : List ℕ). length (concat_map (lists_of f) bs)) (up_from-more 0 b ∙ ap (λ x. up_from 0 b ++ (x ∷ [])) same),
      ap length (concat_map-append (lists_of f) (up_from 0 b) (b ∷ [])),
      length-append (lists_below f b) (lists_of f b ++ []),
      length-append (lists_of f b) [],
    )

below-le : (f : Function) (k b n : ℕ) → b + k ≡ n → length (lists_below f b) ≤ length (lists_below f n)
below-le f zero b n e = let same : n ≡ b = omega arith in rw same (omega arith)
below-le f (suc k) b n e = omega (arith, below-le f k (suc b) n (omega arith), length-below-more f b)

-- no place of another kind
no-places : (p : ℕ) (rs : List Record) → Kinds (λ j. not (eqb 4 j)) rs → places (eqb 4) p rs ≡ []
no-places p [] h = refl
no-places p (r ∷ rs) h = go (eqb 4 (kind r)) h (no-places (suc p) rs)
  where
    go : (b : Bool) → T (not b && all (λ x. not (eqb 4 (kind x))) rs) → (Kinds (λ j. not (eqb 4 j)) rs → places (eqb 4) (suc p) rs ≡ [])
        → place_if b p (places (eqb 4) (suc p) rs) ≡ []
    go true h later = absurd h
    go false h later = later h

module _ (s : List ℕ) (h : T (ordered 0 (records s))) where
  abbrev f : Function
  f = function_in s

  -- before the first block there is no instruction
  front-heads : heads_from s 0 (place_of s 0) ≡ []
  front-heads =
      no-places 0 (between s 0 (place_of s 0))
      (subst (Kinds (λ j. not (eqb 4 j))) (front-by-place s)
      (kinds-weaken (eqb 1) (λ j. not (eqb 4 j)) (λ j e. subst (λ i. T (not (eqb 4 i))) (eqb→eq 1 j e) tt) (cut (eqb 2) (records s)).front
      (front-values (records s) h)))

  -- a block's instructions
  pub length-block-heads :
      (b : ℕ) → b < length f.blocks → length (heads_from s (suc (place_of s b)) (place_of s (suc b))) ≡ length (lists_of f b)
  length-block-heads b l =
      let q = place_of s (suc b) in
      let ps = heads_from s (suc (place_of s b)) q in
      sym (length-lists_of f b ∙ ap length (instructions-by-place s h b l) ∙ length-map (sections_at s q ps) instruction_of ∙ length-sections_at s q ps)

  -- A block's record has the number of the first instruction behind it: as many as the blocks below have.
  pub number-place : (b : ℕ) → b ≤ length f.blocks → number_at s (place_of s b) ≡ length (lists_below f b)
  number-place zero l =
      omega (arith, number-behind-run s (place_of s 0) (place-le s 0 l) 0 (omega arith), ap length front-heads)
  number-place (suc b) l =
      let p = place_of s b in
      let less = place-less s b l in
      let run = number-behind-run s (place_of s (suc b)) (place-le s (suc b) l) (suc p) less in
      omega (
        arith,
        run,
        number-first b l,
        number-place b (omega arith),
        length-block-heads b l,
        length-below-more f b,
      )
    where
      number-first : (b : ℕ) → b < length f.blocks → number_at s (suc (place_of s b)) ≡ number_at s (place_of s b)
      number-first b l =
          ap (number_at s) (sym (add-one (place_of s b)))
          ∙ number_same s (place_of s b) (λ e. let two = block-head s b l in absurd (omega (arith, e, two)))

  -- the number behind a block is no higher than the count of instructions
  pub number_fits : (b : ℕ) → b < length f.blocks → number_at s (place_of s (suc b)) ≤ length (lists f)
  number_fits b l =
      omega (arith, number-place (suc b) l, below-le f (length f.blocks - suc b) (suc b) (length f.blocks) (omega arith))

-- A list is its row's members in order; where there is none the row is empty.
pub list-row : (f : Function) (i : ℕ) → or_else [] (get_or (lists f) i none) ≡ members (length f.values) (listed f i)
list-row f i = go (is_none (get_or (lists f) i none)) refl
  where
    empty : (x : Option (List ℕ)) → is_none x ≡ true → or_else [] x ≡ []
    empty none e = refl
    empty (some _) e = absurd (subst T (sym e) tt)

    none_kept : (vs : List ℕ) → keep nothing vs ≡ []
    none_kept [] = refl
    none_kept (v ∷ vs) = none_kept vs

    go : (b : Bool) → is_none (get_or (lists f) i none) ≡ b → or_else [] (get_or (lists f) i none) ≡ members (length f.values) (listed f i)
    go true e =
        empty (get_or (lists f) i none) e
        ∙ sym (ap (members (length f.values)) (listed-none f i e) ∙ none_kept (up_from 0 (length f.values)))
    go false e = ap (or_else []) (list-members f i e)
