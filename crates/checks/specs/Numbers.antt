-- Refusal 5 by records: a file in order has its numbers in the file exactly if each record has.
use Rattle.std.specs.Prelude.{ℕ, ◌≡◌, refl, List, [], ◌∷◌, ◌++◌, map, length, eqb, ltb}
use Rattle.std.proofs.Common.{sym, ap, ◌∙◌, eqb→eq}
use Rattle.std.proofs.Math.Path.{subst}
use Rattle.std.proofs.Math.Bool.{Bool, true, false, cond}
use Rattle.std.proofs.Math.Dec.{T}
use Rattle.rules.specs.Lists.{all, concat_map, has}
use Rattle.rules.specs.Tree.{Edge, Instruction, Function}
use Rattle.rules.specs.Records.{encode, kind, edge_argument}
use Rattle.rules.specs.File.{ordered, of_kind, named, function}
use Rattle.rules.specs.Graph.{values_among, values_passed}
use Rattle.rules.specs.Refusals.{all_instructions, all_edges, definitions, uses, numbers_in_file}
use Rattle.rules.specs.declared.EdgeArgument.{EdgeArgument}
use Rattle.rules.specs.declared.EdgeArgument.TheVariants as passes
use Rattle.rules.specs.declared.Record.{Record}
use Rattle.rules.specs.declared.Words.{Words}
use Rattle.lists.specs.Tests.{T-ext, T_and, T-cond, or_elim, is_true, and_intro, and_left, and_right}
use Rattle.lists.specs.Maps.{concat_map-concat_map, all_append, all_apart, all_map, all_three, all-of-three}
use Rattle.records.specs.Parts.{parameters-in-order, results-in-order, arguments-in-order, contexts-in-order, targets-in-order, edge_arguments-in-order}

-- The numbers that four words name are in a file of so many values and blocks: word 2 of a parameter, result, argument or
-- context, and of an edge; word 3 of an edge argument that is a value.
unfoldable pub numbers_fit : ℕ → ℕ → Words → Bool
numbers_fit values blocks w =
    cond (eqb w.kind 7) (ltb w.second blocks)
    (cond (eqb w.kind 8) (cond (eqb w.second 0) (ltb w.third values) true)
    (cond (has w.kind (3 ∷ 5 ∷ 6 ∷ 9 ∷ [])) (ltb w.second values) true))

-- A test of the numbers named by a kind, on one record more.
module _ (p : ℕ → Bool) (k : ℕ) (r : Record) (rs : List Record) where
  -- the rest passes
  named-tail : T (all p (named k (r ∷ rs))) → T (all p (named k rs))
  named-tail = go (eqb (kind r) k)
    where
      go : (b : Bool) → T (all p (map (λ (w : Words). w.second) (elim b [ true ↦ encode r ∷ of_kind k rs | false ↦ of_kind k rs ]))) → T (all p (named k rs))
      go true h = and_right (p (encode r).second) (all p (named k rs)) h
      go false h = h

  -- and so does the record, if it is of the kind
  named-head : T (eqb (kind r) k) → T (all p (named k (r ∷ rs))) → T (p (encode r).second)
  named-head = go (eqb (kind r) k)
    where
      go : (b : Bool) → T b → T (all p (map (λ (w : Words). w.second) (elim b [ true ↦ encode r ∷ of_kind k rs | false ↦ of_kind k rs ]))) → T (p (encode r).second)
      go true e h = and_left (p (encode r).second) (all p (named k rs)) h
      go false e h = absurd e

  named-cons : (T (eqb (kind r) k) → T (p (encode r).second)) → T (all p (named k rs)) → T (all p (named k (r ∷ rs)))
  named-cons = go (eqb (kind r) k)
    where
      go : (b : Bool) → (T b → T (p (encode r).second)) → T (all p (named k rs))
          → T (all p (map (λ (w : Words). w.second) (elim b [ true ↦ encode r ∷ of_kind k rs | false ↦ of_kind k rs ])))
      go true f h = and_intro (p (encode r).second) (all p (named k rs)) (f tt) h
      go false f h = h

-- the values that edge arguments pass, by records
abbrev passed_by : List Record → List ℕ
passed_by rs = values_among (map (λ (w : Words). edge_argument w.second w.third) (of_kind 8 rs))

module _ (p : ℕ → Bool) (a b : ℕ) (xs : List EdgeArgument) where
  argument-tail : T (all p (values_among (edge_argument a b ∷ xs))) → T (all p (values_among xs))
  argument-tail = go (eqb a 0) (eqb a 1)
    where
      go : (c d : Bool) → T (all p (values_among (cond c (passes.Value b) (cond d (passes.Returned b) (passes.Exception b)) ∷ xs))) → T (all p (values_among xs))
      go true d h = and_right (p b) (all p (values_among xs)) h
      go false true h = h
      go false false h = h

  argument-head : T (eqb a 0) → T (all p (values_among (edge_argument a b ∷ xs))) → T (p b)
  argument-head = go (eqb a 0)
    where
      go : (c : Bool) → T c → T (all p (values_among (cond c (passes.Value b) (cond (eqb a 1) (passes.Returned b) (passes.Exception b)) ∷ xs))) → T (p b)
      go true e h = and_left (p b) (all p (values_among xs)) h
      go false e h = absurd e

  argument-cons : (T (eqb a 0) → T (p b)) → T (all p (values_among xs)) → T (all p (values_among (edge_argument a b ∷ xs)))
  argument-cons = go (eqb a 0) (eqb a 1)
    where
      go : (c d : Bool) → (T c → T (p b)) → T (all p (values_among xs))
          → T (all p (values_among (cond c (passes.Value b) (cond d (passes.Returned b) (passes.Exception b)) ∷ xs)))
      go true d f h = and_intro (p b) (all p (values_among xs)) (f tt) h
      go false true f h = h
      go false false f h = h

module _ (p : ℕ → Bool) (r : Record) (rs : List Record) where
  abbrev arguments_after : Bool → List EdgeArgument
  arguments_after b = map (λ (w : Words). edge_argument w.second w.third) (elim b [ true ↦ encode r ∷ of_kind 8 rs | false ↦ of_kind 8 rs ])

  passed-tail : T (all p (passed_by (r ∷ rs))) → T (all p (passed_by rs))
  passed-tail = go (eqb (kind r) 8)
    where
      go : (b : Bool) → T (all p (values_among (arguments_after b))) → T (all p (passed_by rs))
      go true h = argument-tail p (encode r).second (encode r).third (map (λ (w : Words). edge_argument w.second w.third) (of_kind 8 rs)) h
      go false h = h

  passed-head : T (eqb (kind r) 8) → T (eqb (encode r).second 0) → T (all p (passed_by (r ∷ rs))) → T (p (encode r).third)
  passed-head = go (eqb (kind r) 8)
    where
      go : (b : Bool) → T b → T (eqb (encode r).second 0) → T (all p (values_among (arguments_after b))) → T (p (encode r).third)
      go true e z h = argument-head p (encode r).second (encode r).third (map (λ (w : Words). edge_argument w.second w.third) (of_kind 8 rs)) z h
      go false e z h = absurd e

  passed-cons : (T (eqb (kind r) 8) → T (eqb (encode r).second 0) → T (p (encode r).third)) → T (all p (passed_by rs)) → T (all p (passed_by (r ∷ rs)))
  passed-cons = go (eqb (kind r) 8)
    where
      go : (b : Bool) → (T b → T (eqb (encode r).second 0) → T (p (encode r).third)) → T (all p (passed_by rs)) → T (all p (values_among (arguments_after b)))
      go true f h = argument-cons p (encode r).second (encode r).third (map (λ (w : Words). edge_argument w.second w.third) (of_kind 8 rs)) (f tt) h
      go false f h = h

-- every number that a list of records names is in the file, kind by kind
pub record Fit (values blocks : ℕ) (rs : List Record) : Type 0 where
  pub parameters : T (all (λ v. ltb v values) (named 3 rs))
  pub results : T (all (λ v. ltb v values) (named 5 rs))
  pub arguments : T (all (λ v. ltb v values) (named 6 rs))
  pub contexts : T (all (λ v. ltb v values) (named 9 rs))
  pub targets : T (all (λ b. ltb b blocks) (named 7 rs))
  pub passed : T (all (λ v. ltb v values) (passed_by rs))

-- a number's own kinds
abbrev value_kinds : List ℕ
value_kinds = 3 ∷ 5 ∷ 6 ∷ 9 ∷ []

-- what four words that fit say of each of their numbers, and the other way round
module _ (values blocks : ℕ) (w : Words) where
  -- the same words with another kind
  abbrev of_kind_only : ℕ → Words
  of_kind_only k = record { kind = k; second = w.second; third = w.third; fourth = w.fourth }

  abbrev fits_as : ℕ → Type 0
  fits_as k = T (numbers_fit values blocks (of_kind_only k))

  pub fit-edge : T (numbers_fit values blocks w) → T (eqb w.kind 7) → T (ltb w.second blocks)
  unfolding numbers_fit
  fit-edge h e = subst fits_as (eqb→eq w.kind 7 e) h

  fit-argument : T (numbers_fit values blocks w) → T (eqb w.kind 8) → T (eqb w.second 0) → T (ltb w.third values)
  unfolding numbers_fit
  fit-argument h e z = subst (λ b. T (cond b (ltb w.third values) true)) (is_true (eqb w.second 0) z) (subst fits_as (eqb→eq w.kind 8 e) h)

  -- of one of the kinds whose word 2 is a value
  pub fit-value : T (numbers_fit values blocks w) → (k : ℕ) → T (has k value_kinds) → T (eqb w.kind k) → T (ltb w.second values)
  unfolding numbers_fit
  fit-value h k m e =
      let own : fits_as k = subst fits_as (eqb→eq w.kind k e) h in
      or_elim (eqb k 3) (has k (5 ∷ 6 ∷ 9 ∷ [])) (λ x. subst fits_as (eqb→eq k 3 x) own)
      (or_elim (eqb k 5) (has k (6 ∷ 9 ∷ [])) (λ x. subst fits_as (eqb→eq k 5 x) own)
      (or_elim (eqb k 6) (has k (9 ∷ [])) (λ x. subst fits_as (eqb→eq k 6 x) own)
      (or_elim (eqb k 9) false (λ x. subst fits_as (eqb→eq k 9 x) own) (λ x. absurd x))))
      m

  fits : (T (eqb w.kind 7) → T (ltb w.second blocks)) → (T (eqb w.kind 8) → T (eqb w.second 0) → T (ltb w.third values))
      → (T (has w.kind value_kinds) → T (ltb w.second values)) → T (numbers_fit values blocks w)
  unfolding numbers_fit
  fits edge argument value =
      T-cond (eqb w.kind 7) (ltb w.second blocks) (cond (eqb w.kind 8) as_argument as_value) edge
      (λ _. T-cond (eqb w.kind 8) as_argument as_value (λ e. T-cond (eqb w.second 0) (ltb w.third values) true (argument e) (λ _. tt))
      (λ _. T-cond (has w.kind value_kinds) (ltb w.second values) true value (λ _. tt)))
    where
      as_argument : Bool
      as_argument = cond (eqb w.second 0) (ltb w.third values) true

      as_value : Bool
      as_value = cond (has w.kind value_kinds) (ltb w.second values) true

-- A list of records fits kind by kind exactly if each record does.
module _ (values blocks : ℕ) where
  abbrev is_value : ℕ → Bool
  is_value v = ltb v values

  abbrev is_block : ℕ → Bool
  is_block b = ltb b blocks

  abbrev pub fit : Record → Bool
  fit r = numbers_fit values blocks (encode r)

  fit-named : (k : ℕ) → T (has k value_kinds) → (rs : List Record) → T (all fit rs) → T (all is_value (named k rs))
  fit-named k m [] h = tt
  fit-named k m (r ∷ rs) h =
      let both = T_and (fit r) (all fit rs) h in
      named-cons is_value k r rs (fit-value values blocks (encode r) both.0 k m) (fit-named k m rs both.1)

  fit-targets : (rs : List Record) → T (all fit rs) → T (all is_block (named 7 rs))
  fit-targets [] h = tt
  fit-targets (r ∷ rs) h =
      let both = T_and (fit r) (all fit rs) h in
      named-cons is_block 7 r rs (fit-edge values blocks (encode r) both.0) (fit-targets rs both.1)

  fit_passed : (rs : List Record) → T (all fit rs) → T (all is_value (passed_by rs))
  fit_passed [] h = tt
  fit_passed (r ∷ rs) h =
      let both = T_and (fit r) (all fit rs) h in
      passed-cons is_value r rs (fit-argument values blocks (encode r) both.0) (fit_passed rs both.1)

  all_fit : (rs : List Record) → T (all fit rs) → Fit values blocks rs
  all_fit rs h =
      record {
        parameters = fit-named 3 tt rs h;
        results = fit-named 5 tt rs h;
        arguments = fit-named 6 tt rs h;
        contexts = fit-named 9 tt rs h;
        targets = fit-targets rs h;
        passed = fit_passed rs h;
      }

  fit-tail : (r : Record) (rs : List Record) → Fit values blocks (r ∷ rs) → Fit values blocks rs
  fit-tail r rs h =
      record {
        parameters = named-tail is_value 3 r rs h.parameters;
        results = named-tail is_value 5 r rs h.results;
        arguments = named-tail is_value 6 r rs h.arguments;
        contexts = named-tail is_value 9 r rs h.contexts;
        targets = named-tail is_block 7 r rs h.targets;
        passed = passed-tail is_value r rs h.passed;
      }

  fit_all : (rs : List Record) → Fit values blocks rs → T (all fit rs)
  fit_all [] h = tt
  fit_all (r ∷ rs) h =
      and_intro (fit r) (all fit rs)
      (fits values blocks (encode r) (λ e. named-head is_block 7 r rs e h.targets) (λ e z. passed-head is_value r rs e z h.passed)
      (λ m. let k = kind r in
      or_elim (eqb k 3) (has k (5 ∷ 6 ∷ 9 ∷ [])) (λ e. named-head is_value 3 r rs e h.parameters)
      (or_elim (eqb k 5) (has k (6 ∷ 9 ∷ [])) (λ e. named-head is_value 5 r rs e h.results)
      (or_elim (eqb k 6) (has k (9 ∷ [])) (λ e. named-head is_value 6 r rs e h.arguments)
      (or_elim (eqb k 9) false (λ e. named-head is_value 9 r rs e h.contexts) (λ x. absurd x))))
      m))
      (fit_all rs (fit-tail r rs h))

-- the values that a list of edge arguments has, put together
values-append : (xs ys : List EdgeArgument) → values_among (xs ++ ys) ≡ values_among xs ++ values_among ys
values-append [] ys = refl
values-append (passes.Value v ∷ xs) ys = ap (λ t. v ∷ t) (values-append xs ys)
values-append (passes.Returned _ ∷ xs) ys = values-append xs ys
values-append (passes.Exception _ ∷ xs) ys = values-append xs ys

values-concat : (es : List Edge) → values_among (concat_map (λ e. e.arguments) es) ≡ concat_map (λ e. values_among e.arguments) es
values-concat [] = refl
values-concat (e ∷ es) =
    values-append e.arguments (concat_map (λ x. x.arguments) es) ∙ ap (λ t. values_among e.arguments ++ t) (values-concat es)

module _ (rs : List Record) (h : T (ordered 0 rs)) where
  passed-in-order : concat_map values_passed (all_instructions (function rs)) ≡ passed_by rs
  passed-in-order =
      sym (concat_map-concat_map (λ (e : Edge). values_among e.arguments) (λ (i : Instruction). i.edges) (all_instructions (function rs)))
      ∙ sym (values-concat (all_edges (function rs))) ∙ ap values_among (edge_arguments-in-order rs h)

  -- refusal 5, of a file in order
  pub numbers_in_file-by-records : numbers_in_file (function rs) ≡ all (fit (length (function rs).values) (length (function rs).blocks)) rs
  numbers_in_file-by-records = T-ext (numbers_in_file f) (all (fit n m) rs) there back
    where
      f : Function
      f = function rs

      n : ℕ
      n = length f.values

      m : ℕ
      m = length f.blocks

      ps : List ℕ
      ps = concat_map (λ b. b.parameters) f.blocks

      qs : List ℕ
      qs = concat_map (λ i. i.results) (all_instructions f)

      in_file : ℕ → Bool
      in_file v = ltb v n

      there : T (numbers_in_file f) → T (all (fit n m) rs)
      there t =
          let both = T_and (all in_file (definitions f ++ uses f)) (all (λ e. ltb e.target m) (all_edges f)) t in
          let each = all_apart in_file (definitions f) (uses f) both.0 in
          let defined = all_apart in_file ps qs each.0 in
          let used = all_three in_file (λ i. i.arguments) values_passed (λ i. i.contexts) (all_instructions f) each.1 in
          fit_all n m rs
          (record {
            parameters = subst (λ vs. T (all in_file vs)) (parameters-in-order rs h) defined.0;
            results = subst (λ vs. T (all in_file vs)) (results-in-order rs h) defined.1;
            arguments = subst (λ vs. T (all in_file vs)) (arguments-in-order rs h) used.0;
            contexts = subst (λ vs. T (all in_file vs)) (contexts-in-order rs h) used.2;
            targets =
                subst (λ bs. T (all (λ b. ltb b m) bs)) (targets-in-order rs h)
                (subst T (sym (all_map (λ b. ltb b m) (λ (e : Edge). e.target) (all_edges f))) both.1);
            passed = subst (λ vs. T (all in_file vs)) passed-in-order used.1;
          })

      back : T (all (fit n m) rs) → T (numbers_in_file f)
      back t =
          let parts = all_fit n m rs t in
          and_intro (all in_file (definitions f ++ uses f)) (all (λ e. ltb e.target m) (all_edges f))
          (all_append in_file (definitions f) (uses f)
          (all_append in_file ps qs (subst (λ vs. T (all in_file vs)) (sym (parameters-in-order rs h)) parts.parameters)
          (subst (λ vs. T (all in_file vs)) (sym (results-in-order rs h)) parts.results))
          (all-of-three in_file (λ i. i.arguments) values_passed (λ i. i.contexts) (all_instructions f)
          (subst (λ vs. T (all in_file vs)) (sym (arguments-in-order rs h)) parts.arguments)
          (subst (λ vs. T (all in_file vs)) (sym passed-in-order) parts.passed)
          (subst (λ vs. T (all in_file vs)) (sym (contexts-in-order rs h)) parts.contexts)))
          (subst T (all_map (λ b. ltb b m) (λ (e : Edge). e.target) (all_edges f))
          (subst (λ bs. T (all (λ b. ltb b m) bs)) (sym (targets-in-order rs h)) parts.targets))
