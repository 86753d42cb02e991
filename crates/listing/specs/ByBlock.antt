-- THE LISTS BLOCK BY BLOCK: a block has as many as instructions, and those of the blocks below stand before them.
use Rattle.std.specs.Prelude.{ℕ, zero, suc, ◌+◌, ◌<◌, ◌≡◌, refl, Bool, true, false, List, [], ◌∷◌, ◌++◌, map, length, get_or}
use Rattle.std.proofs.Common.{sym, ap, subst, ◌∙◌, arith, length-append, get_or-append-add}
use Rattle.std.proofs.Math.Option.{Option, none}
use Rattle.std.proofs.lemmas.List.{length-map}
use Rattle.std.proofs.Math.ListN.{get_or-append}
use Rattle.rules.specs.Lists.{concat_map, has, up_from, NumberSet}
use Rattle.rules.specs.Tree.{Instruction, Function}
use Rattle.rules.specs.Graph.{block_at, instructions_of, reachable}
use Rattle.rules.specs.Liveness.{process, lists_among, lists_of, lists}

-- the lists of the blocks below n
abbrev pub lists_below : Function → ℕ → List (Option (List ℕ))
lists_below f n = concat_map (lists_of f) (up_from 0 n)

length-among : (f : Function) (is : List Instruction) (out : NumberSet) → length (lists_among f is out) ≡ length is
length-among f [] out = refl
length-among f (i ∷ is) out = ap suc (length-among f is out)

pub length-lists_of : (f : Function) (b : ℕ) → length (lists_of f b) ≡ length (instructions_of (block_at f b))
unfolding lists_of
length-lists_of f b = go (has b (reachable f))
  where
    is : List Instruction
    is = instructions_of (block_at f b)

    go : (r : Bool) → length {A = Option (List ℕ)} (elim r [ true ↦ lists_among f is ((process f).outs b) | false ↦ map (λ _. none) is ]) ≡ length is
    go true = length-among f is ((process f).outs b)
    go false = length-map is (λ _. none)

-- member k of the list that number a + j gives, among the lists of n numbers from a on
list-within :
    {A : Type 0} (g : ℕ → List A) (d : A) (k j a n : ℕ) → j < n → k < length (g (a + j))
    → get_or (concat_map g (up_from a n)) (length (concat_map g (up_from a j)) + k) d ≡ get_or (g (a + j)) k d
list-within g d k j a zero l m = absurd (omega arith)
list-within g d k zero a (suc n) l m =
    let same : a + 0 ≡ a = omega arith in
    let first : 0 + k ≡ k = omega arith in
    ap (λ (i : ℕ). get_or (g a ++ concat_map g (up_from (suc a) n)) i d) first
    ∙ get_or-append (g a) (concat_map g (up_from (suc a) n)) d k (subst (λ (x : ℕ). k < length (g x)) same m)
    ∙ ap (λ (x : ℕ). get_or (g x) k d) (sym same)
list-within g d k (suc j) a (suc n) l m =
    let next : a + suc j ≡ suc a + j = omega arith in
    let rest = concat_map g (up_from (suc a) j) in
    let at : length (g a ++ rest) + k ≡ length (g a) + (length rest + k) = omega (arith, length-append (g a) rest) in
    ap (λ (i : ℕ). get_or (g a ++ concat_map g (up_from (suc a) n)) i d) at
    ∙ get_or-append-add (g a) (concat_map g (up_from (suc a) n)) (length rest + k) d
    ∙ list-within g d k j (suc a) n (omega arith) (subst (λ (x : ℕ). k < length (g x)) next m)
    ∙ ap (λ (x : ℕ). get_or (g x) k d) (sym next)

-- THE LIST of instruction k of a block is that of its number.
pub list-in-block :
    (f : Function) (b : ℕ) → b < length f.blocks → (k : ℕ) → k < length (lists_of f b)
    → get_or (lists_of f b) k none ≡ get_or (lists f) (length (lists_below f b) + k) none
list-in-block f b l k m =
    let same : 0 + b ≡ b = omega arith in
    sym (list-within (lists_of f) none k b 0 (length f.blocks) l (subst (λ (x : ℕ). k < length (lists_of f x)) (sym same) m)
    ∙ ap (λ (x : ℕ). get_or (lists_of f x) k none) same)
