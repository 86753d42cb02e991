-- Whether edges fit their targets, read off the records of a file in order: an edge's arguments stand directly behind its
-- record, and a block's parameters behind its.
use Rattle.std.specs.Prelude.{ℕ, ◌≡◌, refl, Bool, true, false, not, ◌&&◌, ◌||◌, List, [], ◌∷◌, map, T, eqb}
use Rattle.std.proofs.Common.{sym, ap, ap₂, subst, ◌∙◌, eqb→eq}
use Rattle.std.proofs.Math.Bool.{and_assoc, and-true}
use Rattle.rules.specs.Lists.{all}
use Rattle.rules.specs.Tree.{Edge, Instruction, Function}
use Rattle.rules.specs.Records.{encode, kind}
use Rattle.rules.specs.File.{ordered, Section, Cut, cut, edge_of, instruction_of, opens_item, block_of, function}
use Rattle.rules.specs.Graph.{block_at, size_of, instructions_of}
use Rattle.rules.specs.Refusals.{all_instructions, fit}
use Rattle.rules.specs.declared.EdgeArgument.{EdgeArgument}
use Rattle.rules.specs.declared.EdgeArgument.TheVariants as passes
use Rattle.rules.specs.declared.Words.{Words}
use Rattle.rules.specs.declared.Record.{Record}
use Rattle.lists.specs.Tests.{and_left, and_right, T_and, is_false, is_true, differ, eqb_swap}
use Rattle.lists.specs.Maps.{all-and, all_map}
use Rattle.lists.specs.Alls.{all-where}
use Rattle.records.specs.Kinds.{Kinds, kinds-weaken}
use Rattle.records.specs.InOrder.{chain, whole, opened, cut_opened, chained, cut-chained, cut-kinds}
use Rattle.records.specs.Parts.{in_body, is_instruction, head-instruction, body-chained, body-allowed, front-parameters, is_block, is_block-body, front-values, second, argument}
use Rattle.records.specs.Leading.{leading, leading-cut, arguments-lead, parameters-lead}
use Rattle.soundness.specs.Standing.{only}
use Rattle.soundness.specs.Holding.{all-in-block, all-in-file}

-- the edge arguments and the parameters at the front of records
abbrev pub arguments_first : List Record → List EdgeArgument
arguments_first rs = map argument (leading 8 rs)

abbrev pub parameters_first : List Record → List ℕ
parameters_first rs = map second (leading 3 rs)

-- an edge argument fits a parameter: a value's size is the parameter's
unfoldable pub argument_fits : Function → EdgeArgument → ℕ → Bool
argument_fits f (passes.Value v) p = eqb (size_of f v) (size_of f p)
argument_fits f (passes.Returned _) p = true
argument_fits f (passes.Exception _) p = true

pub fit-more : (f : Function) (x : EdgeArgument) (xs : List EdgeArgument) (p : ℕ) (ps : List ℕ)
    → fit f (x ∷ xs) (p ∷ ps) ≡ (argument_fits f x p && fit f xs ps)
unfolding argument_fits
fit-more f (passes.Value v) xs p ps = refl
fit-more f (passes.Returned k) xs p ps = refl
fit-more f (passes.Exception k) xs p ps = refl

-- a record that is an edge fits its target with the arguments behind it; another is any
abbrev pub edge_fits : Function → Record → List Record → Bool
edge_fits f r rs = only 7 (fit f (arguments_first rs) (block_at f (encode r).second).parameters) (encode r)

-- each edge among records fits
abbrev pub fitting : Function → List Record → Bool
fitting f [] = true
fitting f (r ∷ rs) = edge_fits f r rs && fitting f rs

-- an instruction's edges fit
abbrev pub edges_fit : Function → Instruction → Bool
edges_fit f i = all (λ e. fit f e.arguments (block_at f e.target).parameters) i.edges

module _ (f : Function) where
  -- what a section says: of its head with its body behind it, and of its body
  abbrev fits_whole : Section → Bool
  fits_whole s = edge_fits f s.head s.body && fitting f s.body

  fitting-cut : (opens : ℕ → Bool) → T (not (opens 8)) → (rs : List Record)
      → fitting f rs ≡ (fitting f (cut opens rs).front && all fits_whole (cut opens rs).sections)
  fitting-cut opens n [] = refl
  fitting-cut opens n (r ∷ rs) =
      let c = cut opens rs in
      let parameters = (block_at f (encode r).second).parameters in
      ap₂ (λ (ws : List Words) (x : Bool). only 7 (fit f (map argument ws) parameters) (encode r) && x) (sym (leading-cut opens 8 n rs)) (fitting-cut opens n rs)
      ∙ sym (and_assoc (edge_fits f r c.front) (fitting f c.front) (all fits_whole c.sections))
      ∙ go (opens (kind r)) c
    where
      go : (b : Bool) (c : Cut)
          → (edge_fits f r c.front && fitting f c.front && all fits_whole c.sections)
          ≡ (fitting f (elim b as (λ _. Cut) [
            | true ↦ record { front = []; sections = record { head = r; body = c.front } ∷ c.sections }
            | false ↦ record { front = r ∷ c.front; sections = c.sections }
          ]).front
          && all fits_whole (elim b as (λ _. Cut) [
            | true ↦ record { front = []; sections = record { head = r; body = c.front } ∷ c.sections }
            | false ↦ record { front = r ∷ c.front; sections = c.sections }
          ]).sections)
      go true c = refl
      go false c = refl

  -- where no edge is
  pub no_edge : (r : Record) (rs : List Record) → T (not (eqb (kind r) 7)) → edge_fits f r rs ≡ true
  no_edge r rs n = ap (λ b. not b || fit f (arguments_first rs) (block_at f (encode r).second).parameters) (is_false (eqb (kind r) 7) n)

  no_edges : (rs : List Record) → Kinds (λ j. not (eqb j 7)) rs → fitting f rs ≡ true
  no_edges [] h = refl
  no_edges (r ∷ rs) h =
      let h₂ = T_and (not (eqb (kind r) 7)) (all (λ x. not (eqb (kind x) 7)) rs) h in
      ap₂ (λ x y. x && y) (no_edge r rs h₂.0) (no_edges rs h₂.1)

  -- an edge's section
  abbrev is_edge : Section → Bool
  is_edge u = opened (eqb 7) u && (chained u && all (λ r. in_body (kind r)) (whole u))

  fitting-edge : (u : Section) → T (is_edge u) → fits_whole u ≡ fit f (edge_of u).arguments (block_at f (edge_of u).target).parameters
  fitting-edge u h =
      let k = kind u.head in
      let parameters = (block_at f (encode u.head).second).parameters in
      let kinds = all (λ r. in_body (kind r)) (whole u) in
      let h₂ = T_and (opened (eqb 7) u) (chained u && kinds) h in
      let h₃ = T_and (chained u) kinds h₂.1 in
      let o = T_and (eqb 7 k) (all (λ r. not (eqb 7 (kind r))) u.body) h₂.0 in
      let chain₇ = subst (λ j. T (chain j u.body)) (sym (eqb→eq 7 k o.0)) h₃.0 in
      let allowed = all-and (λ r. not (eqb 7 (kind r))) (λ r. in_body (kind r)) u.body o.1 (and_right (in_body k) (all (λ r. in_body (kind r)) u.body) h₃.1) in
      ap₂ (λ x y. x && y)
      (ap (λ b. not b || fit f (arguments_first u.body) parameters) (is_true (eqb k 7) (eqb_swap 7 k o.0))
      ∙ ap (λ ws. fit f (map argument ws) parameters) (sym (arguments-lead u.body chain₇ allowed)))
      (no_edges u.body (kinds-weaken (λ j. not (eqb 7 j)) (λ j. not (eqb j 7)) (λ j n. differ (λ x. not (eqb 7 x)) j 7 n tt) u.body o.1))
      ∙ and-true (fit f (edge_of u).arguments parameters)

  fitting-instruction : (t : Section) → T (is_instruction t) → fits_whole t ≡ edges_fit f (instruction_of t)
  fitting-instruction t h =
      let body = t.body in
      let us = (cut (eqb 7) body).sections in
      let edges : T (all is_edge us) =
      all-and (opened (eqb 7)) (λ u. chained u && all (λ r. in_body (kind r)) (whole u)) us (cut_opened (eqb 7) body).1
      (all-and chained (λ u. all (λ r. in_body (kind r)) (whole u)) us (cut-chained (eqb 7) body 4 (body-chained t h)).1 (cut-kinds (eqb 7) in_body body (body-allowed t h)).1) in
      ap (λ x. x && fitting f body) (no_edge t.head body (differ (λ x. eqb x 4) (kind t.head) 7 (head-instruction t h) tt))
      ∙ fitting-cut (eqb 7) tt body
      ∙ ap (λ x. x && all fits_whole us)
      (no_edges (cut (eqb 7) body).front
      (kinds-weaken (λ j. not (eqb 7 j)) (λ j. not (eqb j 7)) (λ j n. differ (λ x. not (eqb 7 x)) j 7 n tt) (cut (eqb 7) body).front (cut_opened (eqb 7) body).0))
      ∙ all-where is_edge fits_whole (λ u. fit f (edge_of u).arguments (block_at f (edge_of u).target).parameters) fitting-edge us edges
      ∙ sym (all_map (λ (e : Edge). fit f e.arguments (block_at f e.target).parameters) edge_of us)

  fitting-block : (s : Section) → T (is_block s) → fits_whole s ≡ all (edges_fit f) (instructions_of (block_of s))
  fitting-block s b =
      let body = s.body in
      let h = is_block-body s b in
      let two : T (eqb 2 (kind s.head)) =
      and_left (eqb 2 (kind s.head)) (all (λ r. not (eqb 2 (kind r))) body) (and_left (opened (eqb 2) s) (chained s) b) in
      ap (λ x. x && fitting f body) (no_edge s.head body (differ (eqb 2) (kind s.head) 7 two tt))
      ∙ fitting-cut opens_item tt body
      ∙ ap (λ x. x && all fits_whole (cut opens_item body).sections)
      (no_edges (cut opens_item body).front
      (kinds-weaken (eqb 3) (λ j. not (eqb j 7)) (λ j m. differ (eqb 3) j 7 m tt) (cut opens_item body).front (front-parameters body h)))
      ∙ all-in-block (edges_fit f) fits_whole fitting-instruction s h

  -- THE LAW.
  pub fitting-instructions : (rs : List Record) → T (ordered 0 rs) → fitting f rs ≡ all (edges_fit f) (all_instructions (function rs))
  fitting-instructions rs h =
      fitting-cut (eqb 2) tt rs
      ∙ ap (λ x. x && all fits_whole (cut (eqb 2) rs).sections)
      (no_edges (cut (eqb 2) rs).front
      (kinds-weaken (eqb 1) (λ j. not (eqb j 7)) (λ j m. differ (eqb 1) j 7 m tt) (cut (eqb 2) rs).front (front-values rs h)))
      ∙ all-in-file (edges_fit f) fits_whole fitting-block rs h

-- THE PARAMETERS OF A BLOCK stand behind its record, whatever else stands behind those.
pub parameters-first : (r : Record) (rs : List Record) → T (eqb 2 (kind r)) → T (chain (kind r) rs)
    → (block_of (record { head = r; body = (cut (eqb 2) rs).front })).parameters ≡ parameters_first rs
parameters-first r rs two c =
    let c₂ = subst (λ j. T (chain j rs)) (sym (eqb→eq 2 (kind r) two)) c in
    ap (map second)
    (parameters-lead (cut (eqb 2) rs).front ((cut-chained (eqb 2) rs 2 c₂).0, (cut_opened (eqb 2) rs).0) ∙ leading-cut (eqb 2) 3 tt rs)
