-- THE RULE BY RECORDS. What document 01's rule gives before an instruction is what going back over its records gives,
-- since they are in order: arguments, results, edges with their arguments, contexts.
use Rattle.std.specs.Prelude.{ℕ, ◌≡◌, None, Bool, true, false, not, ◌&&◌, ◌||◌, T, eqb}
use Rattle.std.proofs.Math.Path.{refl, sym, ap, ap₂}
use Rattle.std.proofs.Common.{◌∙◌}
use mathlib.Core.List.{List, [], ◌∷◌, ◌++◌, map}
use Rattle.rules.specs.Lists.{all, keep, has, concat_map, NumberSet, adding, removing}
use Rattle.rules.specs.Tree.{Edge, Function}
use Rattle.rules.specs.Records.{kind}
use Rattle.rules.specs.File.{followers, follows, Section, of_kind, named, instruction_of, edges_of}
use Rattle.rules.specs.Graph.{is_marked, values_among, values_passed}
use Rattle.rules.specs.Liveness.{across, before, before_all}
use Rattle.rules.specs.declared.EdgeArgument.{EdgeArgument}
use Rattle.rules.specs.declared.EdgeArgument.TheVariants as passes
use Rattle.rules.specs.declared.Record.{Record}
use Rattle.rules.specs.declared.Record.TheVariants as record'
use Rattle.rules.specs.declared.Words.{Words}
use Rattle.lists.specs.Tests.{and_left, and_right}
use Rattle.records.specs.Kinds.{Kinds, of_kind-none}
use Rattle.records.specs.InOrder.{chain, Sections, whole, kept_by, chain-good}
use Rattle.records.specs.Parts.{is_instruction, in_body, body-chained, body-allowed, head-instruction, argument, passed-picked}
use Rattle.blocksets.specs.Operands.{operand_of, live_before, over-append, back}

-- the values that records of kind 8 pass
abbrev pub passed_by : List Record → List ℕ
passed_by rs = values_among (map argument (of_kind 8 rs))

-- the kinds of an instruction's records behind its own
abbrev pub in_instruction : ℕ → Bool
in_instruction j = has j (5 ∷ 6 ∷ 7 ∷ 8 ∷ 9 ∷ [])

-- SETS, one value more: of what is added, and of what is removed
adding-more : (m : NumberSet) (v : ℕ) (vs : List ℕ) (s : NumberSet) → adding (keep m (v ∷ vs)) s ≡ adding (keep m (v ∷ [])) (adding (keep m vs) s)
adding-more m v vs s = λ i w. go (m v) w i
  where
    go : (b : Bool) (w : ℕ)
        → has w (elim b [ true ↦ v ∷ keep m vs | false ↦ keep m vs ]) || s w
        ≡ has w (elim b [ true ↦ v ∷ [] | false ↦ [] ]) || (has w (keep m vs) || s w)
    go true w = sym (three (eqb w v) (has w (keep m vs)) (s w))
      where
        three : (a b c : Bool) → (a || false) || (b || c) ≡ (a || b) || c
        three true b c = refl
        three false b c = refl
    go false w = refl

pub removing-more : (v : ℕ) (vs : List ℕ) (s : NumberSet) → removing (v ∷ vs) s ≡ removing (v ∷ []) (removing vs s)
removing-more v vs s = λ i w. three (eqb w v) (has w vs) (s w) i
  where
    three : (a b c : Bool) → not (a || b) && c ≡ not (a || false) && (not b && c)
    three true b c = refl
    three false b c = refl

module _ (f : Function) where
  -- the rule before some records of an instruction, by what they name
  abbrev pub before_by : List Record → NumberSet → NumberSet
  before_by rs live = adding (keep (is_marked f) (named 6 rs)) (removing (named 5 rs) (adding (keep (is_marked f) (passed_by rs)) live))

  -- nothing of a kind stands behind a kind that only others follow
  none-behind :
      (p j : ℕ) (among : List ℕ) → T (kept_by among in_instruction (λ i. not (eqb i j))) → T (has p among)
      → (rs : List Record) → T (chain p rs) → Kinds in_instruction rs → named j rs ≡ []
  none-behind p j among kept m rs c k =
      ap (map (λ (w : Words). w.second)) (of_kind-none j rs (chain-good among in_instruction (λ i. not (eqb i j)) kept p rs m c k))

  -- So going back over them gives the rule.
  pub back-before : (p : ℕ) (rs : List Record) (live : NumberSet) → T (chain p rs) → Kinds in_instruction rs → back f rs live ≡ before_by rs live
  unfolding kept_by followers
  back-before p [] live c k = refl
  back-before p (record'.Value _ _ ∷ rs) live c k = absurd k
  back-before p (record'.Block _ _ ∷ rs) live c k = absurd k
  back-before p (record'.Parameter _ ∷ rs) live c k = absurd k
  back-before p (record'.Instruction _ _ _ ∷ rs) live c k = absurd k
  back-before p (record'.Result v ∷ rs) live c k =
      let m = is_marked f in
      let passed = adding (keep m (passed_by rs)) live in
      let order = and_right (follows p 5) (chain 5 rs) c in
      let no-argument : named 6 rs ≡ [] = none-behind 5 6 (5 ∷ 7 ∷ 8 ∷ 9 ∷ []) tt tt rs order k in
      ap (removing (v ∷ [])) (back-before 5 rs live order k)
      ∙ ap (λ a. removing (v ∷ []) (adding (keep m a) (removing (named 5 rs) passed))) no-argument
      ∙ sym (removing-more v (named 5 rs) passed)
      ∙ sym (ap (λ a. adding (keep m a) (removing (v ∷ named 5 rs) passed)) no-argument)
  back-before p (record'.Argument v ∷ rs) live c k =
      let m = is_marked f in
      ap (adding (keep m (v ∷ []))) (back-before 6 rs live (and_right (follows p 6) (chain 6 rs) c) k)
      ∙ sym (adding-more m v (named 6 rs) (removing (named 5 rs) (adding (keep m (passed_by rs)) live)))
  back-before p (record'.Edge _ ∷ rs) live c k = back-before 7 rs live (and_right (follows p 7) (chain 7 rs) c) k
  back-before p (record'.EdgeArgument (passes.Value v) ∷ rs) live c k =
      let m = is_marked f in
      let order = and_right (follows p 8) (chain 8 rs) c in
      let no-argument : named 6 rs ≡ [] = none-behind 8 6 (7 ∷ 8 ∷ 9 ∷ []) tt tt rs order k in
      let no_result : named 5 rs ≡ [] = none-behind 8 5 (7 ∷ 8 ∷ 9 ∷ []) tt tt rs order k in
      ap (adding (keep m (v ∷ []))) (back-before 8 rs live order k)
      ∙ ap₂ (λ a r. adding (keep m (v ∷ [])) (adding (keep m a) (removing r (adding (keep m (passed_by rs)) live)))) no-argument no_result
      ∙ sym (adding-more m v (passed_by rs) live)
      ∙ sym (ap₂ (λ a r. adding (keep m a) (removing r (adding (keep m (v ∷ passed_by rs)) live))) no-argument no_result)
  back-before p (record'.EdgeArgument (passes.Returned _) ∷ rs) live c k = back-before 8 rs live (and_right (follows p 8) (chain 8 rs) c) k
  back-before p (record'.EdgeArgument (passes.Exception _) ∷ rs) live c k = back-before 8 rs live (and_right (follows p 8) (chain 8 rs) c) k
  back-before p (record'.Context _ ∷ rs) live c k = back-before 9 rs live (and_right (follows p 9) (chain 9 rs) c) k
  back-before p (record'.Slot _ ∷ rs) live c k = absurd k
  back-before p (record'.MapEntry _ _ ∷ rs) live c k = absurd k
  back-before p (record'.SlotAddress _ _ ∷ rs) live c k = absurd k
  back-before p (record'.Store _ _ ∷ rs) live c k = absurd k
  back-before p (record'.Load _ _ _ ∷ rs) live c k = absurd k
  back-before p (record'.Jump ∷ rs) live c k = absurd k
  back-before p (record'.Outside ∷ rs) live c k = absurd k

-- the values that a list of edges' arguments are, edge by edge
values_among-append : (xs ys : List EdgeArgument) → values_among (xs ++ ys) ≡ values_among xs ++ values_among ys
values_among-append [] ys = refl
values_among-append (passes.Value v ∷ xs) ys = ap (λ l. v ∷ l) (values_among-append xs ys)
values_among-append (passes.Returned _ ∷ xs) ys = values_among-append xs ys
values_among-append (passes.Exception _ ∷ xs) ys = values_among-append xs ys

values_among-edges : (es : List Edge) → concat_map (λ e. values_among e.arguments) es ≡ values_among (concat_map (λ e. e.arguments) es)
values_among-edges [] = refl
values_among-edges (e ∷ es) =
    ap (λ l. values_among e.arguments ++ l) (values_among-edges es)
    ∙ sym (values_among-append e.arguments (concat_map (λ x. x.arguments) es))

-- a record of kind 4 has no operand of its own
head-none : (r : Record) → T (eqb (kind r) 4) → operand_of r ≡ None
head-none (record'.Value _ _) h = absurd h
head-none (record'.Block _ _) h = absurd h
head-none (record'.Parameter _) h = absurd h
head-none (record'.Instruction _ _ _) h = refl
head-none (record'.Result _) h = absurd h
head-none (record'.Argument _) h = absurd h
head-none (record'.Edge _) h = absurd h
head-none (record'.EdgeArgument (passes.Value _)) h = absurd h
head-none (record'.EdgeArgument (passes.Returned _)) h = absurd h
head-none (record'.EdgeArgument (passes.Exception _)) h = absurd h
head-none (record'.Context _) h = absurd h
head-none (record'.Slot _) h = absurd h
head-none (record'.MapEntry _ _) h = absurd h
head-none (record'.SlotAddress _ _) h = absurd h
head-none (record'.Store _ _) h = absurd h
head-none (record'.Load _ _ _) h = absurd h
head-none record'.Jump h = absurd h
head-none record'.Outside h = absurd h

-- AN INSTRUCTION'S SECTION of a file in order
module _ (f : Function) (t : Section) (h : T (is_instruction t)) where
  -- its body has only the kinds of one
  pub body-kinds : Kinds in_instruction t.body
  unfolding kept_by followers
  body-kinds =
      chain-good (4 ∷ 5 ∷ 6 ∷ 7 ∷ 8 ∷ 9 ∷ []) in_body in_instruction tt 4 t.body tt (body-chained t h) (body-allowed t h)

  -- the values that its edges pass are those of its records of kind 8
  passed-by-records : values_passed (instruction_of t) ≡ passed_by t.body
  passed-by-records = values_among-edges (edges_of t.body) ∙ ap values_among (passed-picked t h)

  -- the rule across it and before it, by what its body names
  pub across-by-records :
      (live : NumberSet)
      → across f (instruction_of t) live ≡ removing (named 5 t.body) (adding (keep (is_marked f) (passed_by t.body)) live)
  across-by-records live =
      ap (λ l. removing (named 5 t.body) (adding (keep (is_marked f) l) live)) passed-by-records

  -- Going back over its body gives what is live before it.
  pub back-body : (live : NumberSet) → back f t.body live ≡ before f (instruction_of t) live
  back-body live =
      back-before f 4 t.body live (body-chained t h) body-kinds
      ∙ sym (ap (adding (keep (is_marked f) (named 6 t.body))) (across-by-records live))

  pub back_whole : (live : NumberSet) → back f (whole t) live ≡ before f (instruction_of t) live
  back_whole live =
      ap (λ x. live_before f x (back f t.body live)) (head-none t.head (head-instruction t h)) ∙ back-body live

-- and over all records of some instructions what is live before them
pub back-sections :
    (f : Function) (ts : List Section) (live : NumberSet) → Sections is_instruction ts
    → back f (concat_map whole ts) live ≡ before_all f (map instruction_of ts) live
back-sections f [] live h = refl
back-sections f (t ∷ ts) live h =
    let here = and_left (is_instruction t) (all is_instruction ts) h in
    over-append (live_before f) (whole t) (concat_map whole ts) live
    ∙ ap (back f (whole t)) (back-sections f ts live (and_right (is_instruction t) (all is_instruction ts) h))
    ∙ back_whole f t here (before_all f (map instruction_of ts) live)
