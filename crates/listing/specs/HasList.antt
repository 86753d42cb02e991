-- Which instructions have a list: the safepoints of reachable blocks, looked for block by block.
use Rattle.std.specs.Prelude.{ℕ, zero, suc, ◌+◌, ◌-◌, ◌<◌, ◌≤◌, ◌≡◌, refl, Bool, true, false, not, cond, List, [], ◌∷◌, ◌++◌, map, length, get_or}
use Rattle.std.proofs.Common.{sym, ap, ap₂, ◌∙◌, arith, add-one}
use Rattle.std.proofs.Math.Option.{Option, none, some}
use Rattle.std.proofs.Math.ListN.{get_or-append}
use Rattle.rules.specs.Lists.{is_none, concat_map, has, up_from, NumberSet}
use Rattle.rules.specs.Tree.{Instruction, Function}
use Rattle.rules.specs.Records.{encode, is_safepoint, record_at, record_count}
use Rattle.rules.specs.File.{instruction_of}
use Rattle.rules.specs.Graph.{block_at, instructions_of, reachable}
use Rattle.rules.specs.Liveness.{across, before_all, process, lists}
use Rattle.graph.specs.Sections.{place_if, sections_at}
use Rattle.listing.specs.Crossings.{crossings_among, crossings, crossings-reachable, crossings-unreachable}
use Rattle.listing.specs.Stepping.{opens, heads_from, instructions_from, heads-more}
use Rattle.listing.specs.Listed.{list-none}

-- instruction k of a list is a safepoint
abbrev pub is_safepoint_at : List Instruction → ℕ → Bool
is_safepoint_at [] k = false
is_safepoint_at (i ∷ is) zero = i.safepoint
is_safepoint_at (i ∷ is) (suc k) = is_safepoint_at is k

-- there is a set
abbrev pub is_there : Option NumberSet → Bool
is_there x = not (is_none x)

get_d-rest : (xs ys : List (Option NumberSet)) (k : ℕ) → length xs ≤ k → get_or (xs ++ ys) k none ≡ get_or ys (k - length xs) none
get_d-rest [] ys k l = let e : k ≡ k - 0 = omega arith in ap (λ (n : ℕ). get_or ys n none) e
get_d-rest (x ∷ xs) ys zero l = absurd (omega arith)
get_d-rest (x ∷ xs) ys (suc k) l =
    let e : k - length xs ≡ suc k - suc (length xs) = omega arith in
    get_d-rest xs ys k (omega arith) ∙ ap (λ (n : ℕ). get_or ys n none) e

module _ (f : Function) where
  there-among : (is : List Instruction) (out : NumberSet) (k : ℕ) → is_there (get_or (crossings_among f is out) k none) ≡ is_safepoint_at is k
  there-among [] out k = refl
  there-among (i ∷ is) out zero = go (across f i (before_all f is out)) i.safepoint
    where
      go : (x : NumberSet) (s : Bool) → is_there (cond s (some x) none) ≡ s
      go x true = refl
      go x false = refl
  there-among (i ∷ is) out (suc k) = there-among is out k

  there-none : {A : Type 0} (is : List A) (k : ℕ) → is_there (get_or (map (λ _. none) is) k none) ≡ false
  there-none [] k = refl
  there-none (i ∷ is) zero = refl
  there-none (i ∷ is) (suc k) = there-none is k

  -- instruction k of the blocks from b on has a list
  abbrev pub there_from : ℕ → ℕ → Bool
  there_from b k = is_there (get_or (concat_map (crossings f) (up_from b (length f.blocks - b))) k none)

  pub there_from-all : (i : ℕ) → there_from 0 i ≡ not (is_none (get_or (lists f) i none))
  there_from-all i =
      let whole : length f.blocks - 0 ≡ length f.blocks = omega arith in
      ap (λ (n : ℕ). is_there (get_or (concat_map (crossings f) (up_from 0 n)) i none)) whole ∙ sym (ap not (list-none f i))

  pub there_from-done : (b k : ℕ) → b ≡ length f.blocks → there_from b k ≡ false
  there_from-done b k e =
      let none_left : length f.blocks - b ≡ 0 = omega arith in
      ap (λ (n : ℕ). is_there (get_or (concat_map (crossings f) (up_from b n)) k none)) none_left

  module _ (b : ℕ) (l : b < length f.blocks) (k : ℕ) where
    more : there_from b k ≡ is_there (get_or (crossings f b ++ concat_map (crossings f) (up_from (suc b) (length f.blocks - (b + 1)))) k none)
    more =
        let one : length f.blocks - b ≡ suc (length f.blocks - (b + 1)) = omega arith in
        ap (λ (n : ℕ). is_there (get_or (concat_map (crossings f) (up_from b n)) k none)) one

    -- it is behind block b,
    pub there_from-behind : length (crossings f b) ≤ k → there_from b k ≡ there_from (b + 1) (k - length (crossings f b))
    there_from-behind m =
        more
        ∙ ap is_there (get_d-rest (crossings f b) (concat_map (crossings f) (up_from (suc b) (length f.blocks - (b + 1)))) k m)
        ∙ ap (λ (n : ℕ). is_there (get_or (concat_map (crossings f) (up_from n (length f.blocks - (b + 1)))) (k - length (crossings f b)) none)) (sym (add-one b))

    -- or in it, and then a safepoint has one if the block is reachable
    pub there_from-reachable :
        k < length (crossings f b) → has b (reachable f) ≡ true → there_from b k ≡ is_safepoint_at (instructions_of (block_at f b)) k
    there_from-reachable m r =
        more
        ∙ ap is_there (get_or-append (crossings f b) (concat_map (crossings f) (up_from (suc b) (length f.blocks - (b + 1)))) none k m)
        ∙ ap (λ xs. is_there (get_or xs k none)) (crossings-reachable f b r)
        ∙ there-among (instructions_of (block_at f b)) ((process f).outs b) k

    pub there_from-unreachable : k < length (crossings f b) → has b (reachable f) ≡ false → there_from b k ≡ false
    there_from-unreachable m r =
        more
        ∙ ap is_there (get_or-append (crossings f b) (concat_map (crossings f) (up_from (suc b) (length f.blocks - (b + 1)))) none k m)
        ∙ ap (λ xs. is_there (get_or xs k none)) (crossings-unreachable f b r)
        ∙ there-none (instructions_of (block_at f b)) k

-- BY RECORDS, from place p on
module _ (s : List ℕ) (end : ℕ) (h : end ≤ record_count s) (p : ℕ) (l : p < end) where
  further : (b : Bool) → opens s p ≡ b → instructions_from s p end ≡ map instruction_of (sections_at s end (place_if b p (heads_from s (p + 1) end)))
  further b e =
      ap (λ (ps : List ℕ). map instruction_of (sections_at s end ps))
      (heads-more s end h p l
      ∙ ap₂ (λ (o : Bool) (q : ℕ). place_if o p (heads_from s q end)) e (sym (add-one p)))

  -- the first instruction,
  pub safepoint-here : opens s p ≡ true → is_safepoint_at (instructions_from s p end) 0 ≡ is_safepoint (encode (record_at s p)).second
  safepoint-here e = ap (λ (is : List Instruction). is_safepoint_at is 0) (further true e)

  -- a later one,
  pub safepoint-later :
      (k : ℕ) → 0 < k → opens s p ≡ true → is_safepoint_at (instructions_from s p end) k ≡ is_safepoint_at (instructions_from s (p + 1) end) (k - 1)
  safepoint-later k m e =
      let next : k ≡ suc (k - 1) = omega arith in
      ap (is_safepoint_at (instructions_from s p end)) next ∙ ap (λ (is : List Instruction). is_safepoint_at is (suc (k - 1))) (further true e)

  -- and a record that starts none
  pub safepoint-other :
      (k : ℕ) → opens s p ≡ false → is_safepoint_at (instructions_from s p end) k ≡ is_safepoint_at (instructions_from s (p + 1) end) k
  safepoint-other k e = ap (λ (is : List Instruction). is_safepoint_at is k) (further false e)
