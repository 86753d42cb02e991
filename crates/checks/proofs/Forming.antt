-- Refusal 4 for a loop over records: their order and the numbers of blocks from a place on, one record more.
use Prim.Native.Nat.{ℕ, suc, ◌+◌, ◌<◌}
use mathlib.Core.Path.{◌≡◌, refl, sym, ap, ap₂, subst, ◌∙◌}
use mathlib.Core.Bool.{Bool, true, false, not, ◌&&◌, ◌||◌}
use mathlib.Core.List.{List, ◌∷◌}
use native.Mathlib.Omega.{arith}
use lib.Dec.{T, eqb, leb, ltb, ltb→lt, lt→ltb, nleb→lt}
use lib.Arith.{lt→nleb}
use Rattle.rules.specs.Tree.{Block}
use Rattle.rules.specs.Records.{encode, kind, bit, record_at, record_count, records}
use Rattle.rules.specs.File.{cut, block_of, followers, follows, function, function_in, ordered}
use Rattle.rules.specs.Refusals.{numbered_from}
use Rattle.rules.specs.declared.Words.{Words}
use Rattle.rules.specs.declared.Record.{Record}
use Rattle.lists.specs.Tests.{T-ext, is_false}
use Rattle.records.specs.Kinds.{kind-small}
use Rattle.records.specs.InTable.{in_table, four_words, words-there, kind-outside}
use Rattle.records.specs.Places.{rest, rest_all, rest-next, rest_by-done}
use Rattle.records.specs.Parts.{blocks_more}
use Rattle.checks.proofs.Table.{all-below}

-- what the words of a record say of a number: they open no block, or the block of that number
abbrev numbered_by : Words → ℕ → Bool
numbered_by w n = not (eqb 2 w.kind) || eqb w.third n

numbered_more : (n : ℕ) (r : Record) (rs : List Record)
    → numbered_from n (function (r ∷ rs)).blocks ≡ (numbered_by (encode r) n && numbered_from (n + bit (eqb 2 (kind r))) (function rs).blocks)
numbered_more n r rs = ap (numbered_from n) (blocks_more r rs) ∙ go (eqb 2 (kind r))
  where
    first : Block
    first = block_of (record { head = r; body = (cut (eqb 2) rs).front })

    go : (b : Bool)
        → numbered_from n (elim b [ true ↦ first ∷ (function rs).blocks | false ↦ (function rs).blocks ])
        ≡ ((not b || eqb (encode r).third n) && numbered_from (n + bit b) (function rs).blocks)
    go true = let e : suc n ≡ n + 1 = omega arith in ap (λ m. eqb (encode r).third n && numbered_from m (function rs).blocks) e
    go false = let e : n ≡ n + 0 = omega arith in ap (λ m. numbered_from m (function rs).blocks) e

and_none : (b : Bool) → (b && false) ≡ false
and_none true = refl
and_none false = refl

-- records that are in order behind one of kind p, with blocks that are numbered from n on
abbrev formed_by : ℕ → ℕ → List Record → Bool
formed_by p n rs = ordered p rs && numbered_from n (function rs).blocks

-- a file that ends before it is inside an instruction
pub ends-early : (p : ℕ) → ltb p 4 ≡ not (leb 4 p)
ends-early p = T-ext (ltb p 4) (not (leb 4 p)) (λ l. lt→nleb 4 p (ltb→lt p 4 l)) (λ n. lt→ltb p 4 (nleb→lt 4 p n))

module _ (s : List ℕ) where
  -- those from place i on
  abbrev pub formed : ℕ → ℕ → ℕ → Bool
  formed p n i = formed_by p n (rest s i)

  pub formed-all : formed 0 0 0 ≡ (ordered 0 (records s) && numbered_from 0 (function_in s).blocks)
  formed-all = ap (formed_by 0 0) (rest_all s)

  pub formed-done : (p n i : ℕ) → i ≡ record_count s → formed p n i ≡ leb 4 p
  unfolding function
  formed-done p n i e = ap (formed_by p n) (ap (rest s) e ∙ rest_by-done (λ t. record_at t 0) s) ∙ and-true (leb 4 p)
    where
      and-true : (b : Bool) → (b && true) ≡ b
      and-true true = refl
      and-true false = refl

  module _ (p n i : ℕ) (w : Words) (e : encode (record_at s i) ≡ w) (h : i < record_count s) where
    -- those behind
    abbrev later : List Record
    later = rest s (i + 1)

    abbrev split : Words → Bool
    split x = (follows p x.kind && ordered x.kind later) && (numbered_by x n && numbered_from (n + bit (eqb 2 x.kind)) (function later).blocks)

    one_more : formed p n i ≡ split w
    one_more =
        ap (formed_by p n) (rest-next s i h)
        ∙ ap (λ b. ordered p (record_at s i ∷ later) && b) (numbered_more n (record_at s i) later)
        ∙ ap split e

    -- a record that may not follow,
    pub formed-order : follows p w.kind ≡ false → formed p n i ≡ false
    formed-order f = one_more ∙ rw f refl

    -- a block with another number,
    pub formed-number : numbered_by w n ≡ false → formed p n i ≡ false
    formed-number f = one_more ∙ rw f (and_none (follows p w.kind && ordered w.kind later))

    -- and what may stand here
    pub formed-goes : follows p w.kind ≡ true → numbered_by w n ≡ true → formed p n i ≡ formed w.kind (n + bit (eqb 2 w.kind)) (i + 1)
    formed-goes f g =
        one_more
        ∙ ap₂ (λ a b. (a && ordered w.kind later) && (b && numbered_from (n + bit (eqb 2 w.kind)) (function later).blocks)) f g

-- WORDS AT A PLACE are those of its record where they are of the table,
module _ (s : List ℕ) (i : ℕ) (w : Words) (e : w ≡ four_words s i) where
  pub words-stand : in_table w ≡ true → encode (record_at s i) ≡ w
  words-stand h = words-there s i (subst T (sym (ap in_table (sym e) ∙ h)) tt) ∙ sym e

  pub kind-stands : in_table w ≡ true → w.kind < 16
  kind-stands h =
      let l = ltb→lt (kind (record_at s i)) 16 (kind-small (record_at s i)) in
      let k : kind (record_at s i) ≡ w.kind = ap (λ (x : Words). x.kind) (words-stand h) in
      omega arith

  -- and else nothing may stand there.
  pub outside-follows : in_table w ≡ false → (p : ℕ) → p < 16 → follows p (kind (record_at s i)) ≡ false
  unfolding follows followers
  outside-follows h p l =
      ap (follows p) (kind-outside s i (ap in_table (sym e) ∙ h))
      ∙ is_false (follows p 0) (all-below (λ q. not (follows q 0)) 16 tt p l)
