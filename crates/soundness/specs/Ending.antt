-- Each block's last instruction is a terminator and no other one is, read off the records of a file in order.
use Rattle.std.specs.Prelude.{ℕ, ◌≡◌, refl, Bool, true, false, not, ◌&&◌, ◌||◌, cond, List, [], ◌∷◌, map, T, eqb}
use Rattle.std.proofs.Common.{sym, ap, ap₂, ◌∙◌, T_not, eqb→eq}
use Rattle.std.proofs.Math.Bool.{and-true}
use Rattle.std.proofs.Math.Dec.{not_T}
use Rattle.rules.specs.Lists.{all}
use Rattle.rules.specs.Tree.{Instruction}
use Rattle.rules.specs.Records.{is_terminator, encode, kind}
use Rattle.rules.specs.File.{ordered, Section, Cut, cut, instruction_of, opens_item, block_of, function}
use Rattle.rules.specs.Graph.{instructions_of}
use Rattle.rules.specs.Refusals.{ends_once}
use Rattle.rules.specs.declared.Record.{Record}
use Rattle.lists.specs.Tests.{T-ext, and_intro, and_right, T_and, or-then, is_false, eqb_swap, passes_at}
use Rattle.lists.specs.Maps.{all_map}
use Rattle.lists.specs.Alls.{all-where}
use Rattle.records.specs.Kinds.{Kinds}
use Rattle.records.specs.InOrder.{cut_keeps}
use Rattle.records.specs.Parts.{in_block, in-block, BlockBody, is_block, is_block-body, file-blocks, front-values, block-instructions-are}
use Rattle.soundness.specs.Standing.{ends_there, flags_behind, ending, behind-other, reading-cut, reading-idle}

-- in a block only instructions open an item
pub cut-instructions : (body : List Record) → Kinds in_block body → cut opens_item body ≡ cut (eqb 4) body
cut-instructions [] h = refl
cut-instructions (r ∷ rs) h =
    let h₂ = T_and (in_block (kind r)) (all (λ x. in_block (kind x)) rs) h in
    ap₂ (λ (b : Bool) (c : Cut). elim b as (λ _. Cut) [
      | true ↦ record { front = []; sections = record { head = r; body = c.front } ∷ c.sections }
      | false ↦ record { front = r ∷ c.front; sections = c.sections }
    ]) (opens-same (kind r) h₂.0) (cut-instructions rs h₂.1)
  where
    opens-same : (k : ℕ) → T (in_block k) → opens_item k ≡ eqb 4 k
    opens-same k m =
        let ks : List ℕ = 3 ∷ 4 ∷ 5 ∷ 6 ∷ 7 ∷ 8 ∷ 9 ∷ [] in
        T-ext (opens_item k) (eqb 4 k)
        (or-then (opens_item k) (eqb 4 k) (passes_at (λ j. not (opens_item j) || eqb 4 j) ks tt k m))
        (or-then (eqb 4 k) (opens_item k) (passes_at (λ j. not (eqb 4 j) || opens_item j) ks tt k m))

-- instructions read on behind one that is a terminator or not
ends_from : Bool → List Instruction → Bool
ends_from b [] = b
ends_from b (i ∷ is) = not b && ends_from i.terminator is

ends-from : (is : List Instruction) → ends_from false is ≡ ends_once is
unfolding ends_from
ends-from [] = refl
ends-from (i ∷ []) = refl
ends-from (i ∷ j ∷ is) = ap (λ t. not i.terminator && t) (ends-from (j ∷ is))

-- a block's body, in which no other block opens
ending-body : (body : List Record) → Kinds in_block body → (flags : ℕ)
    → ending flags body ≡ ends_from (is_terminator flags) (map instruction_of (cut (eqb 4) body).sections)
unfolding ends_from flags_behind
ending-body =
    cut_keeps (eqb 4) (λ rs c. Kinds in_block rs → (flags : ℕ) → ending flags rs ≡ ends_from (is_terminator flags) (map instruction_of c.sections))
    (λ h flags. refl)
    (λ r rs c o ih h flags.
    let t = is_terminator flags in
    let four : kind r ≡ 4 = sym (eqb→eq 4 (kind r) o) in
    ap₂ (λ x f. x && ending f rs)
    (ap (λ k. (not (eqb k 2) || t) && (not (eqb k 4) || not t)) four)
    (ap (λ k. cond (eqb k 2) 0 (cond (eqb k 4) (encode r).second flags)) four)
    ∙ ap (λ x. not t && x) (ih (and_right (in_block (kind r)) (all (λ x. in_block (kind x)) rs) h) (encode r).second))
    (λ r rs c o ih h flags.
    let t = is_terminator flags in
    let k = kind r in
    let h₂ = T_and (in_block k) (all (λ x. in_block (kind x)) rs) h in
    let n₂ : T (not (eqb k 2)) = passes_at (λ j. not (eqb j 2)) (3 ∷ 4 ∷ 5 ∷ 6 ∷ 7 ∷ 8 ∷ 9 ∷ []) tt k h₂.0 in
    let n₄ : T (not (eqb k 4)) = not_T (eqb k 4) (λ y. T_not (eqb 4 k) o (eqb_swap k 4 y)) in
    ap₂ (λ x f. x && ending f rs)
    (ap₂ (λ a b. (not a || t) && (not b || not t)) (is_false (eqb k 2) n₂) (is_false (eqb k 4) n₄))
    (behind-other flags r (and_intro (not (eqb k 2)) (not (eqb k 4)) n₂ n₄))
    ∙ ih h₂.1 flags)

ending-block : (s : Section) → BlockBody s.body → ending 0 s.body ≡ ends_once (instructions_of (block_of s))
unfolding ends_from
ending-block s h =
    ending-body s.body (in-block s.body h) 0
    ∙ ap (λ c. ends_from false (map instruction_of c.sections)) (sym (cut-instructions s.body (in-block s.body h)))
    ∙ ends-from (map instruction_of (cut opens_item s.body).sections)
    ∙ ap ends_once (sym (block-instructions-are s h))

-- THE LAW. A file starts as if behind a terminator.
pub ending-blocks : (rs : List Record) → T (ordered 0 rs) → ending 2 rs ≡ all (λ b. ends_once (instructions_of b)) (function rs).blocks
unfolding function flags_behind
ending-blocks rs h =
    let ss = (cut (eqb 2) rs).sections in
    reading-cut ends_there is_terminator (eqb 2) (λ r. 0)
    (λ flags r o.
    let t = is_terminator flags in
    let two : kind r ≡ 2 = sym (eqb→eq 2 (kind r) o) in (
      ap (λ k. (not (eqb k 2) || t) && (not (eqb k 4) || not t)) two ∙ and-true t,
      ap (λ k. cond (eqb k 2) 0 (cond (eqb k 4) (encode r).second flags)) two,
    )) rs 2
    ∙ ap (λ x. x && all (λ s. ending 0 s.body) ss)
    (reading-idle ends_there is_terminator 1 tt
    (λ flags r e. ap (λ k. (not (eqb k 2) || is_terminator flags) && (not (eqb k 4) || not (is_terminator flags))) e)
    (cut (eqb 2) rs).front (front-values rs h) 2)
    ∙ all-where is_block (λ s. ending 0 s.body) (λ s. ends_once (instructions_of (block_of s))) (λ s b. ending-block s (is_block-body s b)) ss (file-blocks rs h)
    ∙ sym (all_map (λ b. ends_once (instructions_of b)) block_of ss)
