-- Values stand first in a file: there are as many as records in front of the first block.
use Rattle.std.specs.Prelude.{ℕ, suc, ◌≡◌, refl, not, List, [], ◌∷◌, length, T, eqb}
use Rattle.std.proofs.Common.{sym, ap, subst, ◌∙◌, arith, eqb→eq}
use Rattle.std.proofs.lemmas.List.{length-map}
use Rattle.rules.specs.Lists.{all, concat_map}
use Rattle.rules.specs.Records.{encode, kind, records}
use Rattle.rules.specs.File.{ordered, Section, cut, of_kind, function, function_in}
use Rattle.rules.specs.declared.Record.{Record}
use Rattle.lists.specs.Tests.{and_intro, and_left, T_and, chosen, eqb_swap, passes_at}
use Rattle.records.specs.Kinds.{Kinds, kinds-append, kinds-weaken, of_kind-stop}
use Rattle.records.specs.InOrder.{whole, Sections, cut-joins, opened, chained}
use Rattle.records.specs.Parts.{front-values, in_block, in-block, is_block, is_block-body, file-blocks}
use Rattle.records.specs.Values.{value_of}
use Rattle.graph.specs.Between.{length-between}
use Rattle.graph.specs.Blocks.{place_of, place-le, front-by-place}

-- a block has no value among its records
block-no-value : (t : Section) → T (is_block t) → Kinds (λ j. not (eqb j 1)) (whole t)
block-no-value t h =
    let o = and_left (opened (eqb 2) t) (chained t) h in
    let two = eqb→eq 2 (kind t.head) (and_left (eqb 2 (kind t.head)) (all (λ r. not (eqb 2 (kind r))) t.body) o) in
    and_intro (not (eqb (kind t.head) 1)) (all (λ r. not (eqb (kind r) 1)) t.body)
    (subst (λ (k : ℕ). T (not (eqb k 1))) two tt)
    (kinds-weaken in_block (λ j. not (eqb j 1)) (passes_at (λ j. not (eqb j 1)) (3 ∷ 4 ∷ 5 ∷ 6 ∷ 7 ∷ 8 ∷ 9 ∷ []) tt) t.body
    (in-block t.body (is_block-body t h)))

blocks-no-value : (ts : List Section) → Sections is_block ts → Kinds (λ j. not (eqb j 1)) (concat_map whole ts)
blocks-no-value [] h = tt
blocks-no-value (t ∷ ts) h =
    let both = T_and (is_block t) (all is_block ts) h in
    kinds-append (λ j. not (eqb j 1)) (whole t) (concat_map whole ts) (block-no-value t both.0) (blocks-no-value ts both.1)

-- records that are all of a kind are as many as there are of it
all-of-kind : (k : ℕ) (rs : List Record) → Kinds (eqb k) rs → length (of_kind k rs) ≡ length rs
all-of-kind k [] h = refl
all-of-kind k (r ∷ rs) h =
    let both = T_and (eqb k (kind r)) (all (λ x. eqb k (kind x)) rs) h in
    ap length (chosen (eqb (kind r) k) (encode r ∷ of_kind k rs) (of_kind k rs) (eqb_swap k (kind r) both.0)) ∙ ap suc (all-of-kind k rs both.1)

-- THE LAW.
pub values-first : (s : List ℕ) → T (ordered 0 (records s)) → place_of s 0 ≡ length (function_in s).values
unfolding function
values-first s order =
    let rs = records s in
    let c = cut (eqb 2) rs in
    let kept : of_kind 1 rs ≡ of_kind 1 c.front =
    ap (of_kind 1) (sym (cut-joins (eqb 2) rs))
    ∙ of_kind-stop 1 c.front (concat_map whole c.sections) (blocks-no-value c.sections (file-blocks rs order)) in
    omega (
      arith,
      ap length (front-by-place s),
      length-between s 0 (place_of s 0) (place-le s 0 (omega arith)),
      all-of-kind 1 c.front (front-values rs order),
      ap length kept,
      length-map (of_kind 1 rs) value_of,
    )
