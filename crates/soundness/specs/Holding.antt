-- What an instruction may have by its flags, read off the records of a file in order: results, edges, contexts, and what
-- its edges pass.
use Rattle.std.specs.Prelude.{ℕ, suc, ◌≤◌, ◌≡◌, refl, Bool, true, false, not, ◌&&◌, ◌||◌, cond, List, [], ◌∷◌, map, length, T}
use Rattle.std.proofs.Math.Path.{sym, ap}
use Rattle.std.proofs.Common.{ap₂, ◌∙◌, arith, eqb→eq, ne_eqb}
use Rattle.std.proofs.Math.Bool.{and-true}
use Rattle.std.proofs.Math.Dec.{eqb, eqb-suc-suc}
use Rattle.rules.specs.Lists.{all, empty, concat_map}
use Rattle.rules.specs.Tree.{Edge, Instruction}
use Rattle.rules.specs.Records.{is_safepoint, is_terminator, edge_argument, encode, kind}
use Rattle.rules.specs.File.{ordered, Section, cut, of_kind, named, edge_of, edges_of, instruction_of, opens_item, block_of, function}
use Rattle.rules.specs.Graph.{instructions_of, values_among}
use Rattle.rules.specs.Refusals.{all_instructions, safepoint_terminator, only_values}
use Rattle.rules.specs.declared.EdgeArgument.{EdgeArgument}
use Rattle.rules.specs.declared.EdgeArgument.TheVariants as passes
use Rattle.rules.specs.declared.Words.{Words}
use Rattle.rules.specs.declared.Record.{Record}
use Rattle.lists.specs.Tests.{and_intro, and_left, and_right, differ, passes_at}
use Rattle.lists.specs.Truths.{agree, agree_same, every, every-at}
use Rattle.lists.specs.Maps.{all_map}
use Rattle.lists.specs.Alls.{all-where, all_same, all_both, all_either, all-constant, all-concat_map, empty-map}
use Rattle.records.specs.Kinds.{kinds-weaken}
use Rattle.records.specs.Parts.{in_block, in-block, in_body, is_instruction, body-allowed, BlockBody, block-instructions, block-instructions-are, front-parameters, is_block, is_block-body, file-blocks, front-values, cut-heads, argument, targets-picked, passed-picked}
use Rattle.soundness.specs.Standing.{safepoint_flags, only, has_there, flags_behind, always, holding, reading-cut, reading-steady, reading-idle}
use Rattle.soundness.specs.Ending.{cut-instructions}

-- what refusal 7 says of an instruction, but for whether its edges fit their targets
abbrev pub shaped : Instruction → Bool
shaped i =
    cond i.terminator (empty i.results) (empty i.edges && empty i.contexts)
    && (safepoint_terminator i || empty i.contexts)
    && all (λ e. not (eqb e.target 0) && (safepoint_terminator i || only_values e.arguments)) i.edges

-- A TEST OF ALL INSTRUCTIONS, BY SECTIONS. Of a block, and of a file.
module _ (P : Instruction → Bool) where
  pub all-in-block : (Q : Section → Bool) → ((t : Section) → T (is_instruction t) → Q t ≡ P (instruction_of t))
      → (s : Section) → BlockBody s.body → all Q (cut opens_item s.body).sections ≡ all P (instructions_of (block_of s))
  all-in-block Q e s h =
      let ts = (cut opens_item s.body).sections in
      all-where is_instruction Q (λ t. P (instruction_of t)) e ts (block-instructions s.body h)
      ∙ sym (all_map P instruction_of ts) ∙ ap (all P) (sym (block-instructions-are s h))

  pub all-in-file : (Q : Section → Bool) → ((s : Section) → T (is_block s) → Q s ≡ all P (instructions_of (block_of s)))
      → (rs : List Record) → T (ordered 0 rs) → all Q (cut (eqb 2) rs).sections ≡ all P (all_instructions (function rs))
  unfolding function
  all-in-file Q e rs h =
      let ss = (cut (eqb 2) rs).sections in
      all-where is_block Q (λ s. all P (instructions_of (block_of s))) e ss (file-blocks rs h)
      ∙ sym (all_map (λ b. all P (instructions_of b)) block_of ss) ∙ sym (all-concat_map P instructions_of (map block_of ss))

-- EDGE ARGUMENTS THAT ARE VALUES, one by one.
is_value : EdgeArgument → Bool
is_value (passes.Value v) = true
is_value (passes.Returned k) = false
is_value (passes.Exception k) = false

values-fewer : (xs : List EdgeArgument) → length (values_among xs) ≤ length xs
values-fewer [] = omega arith
values-fewer (passes.Value v ∷ xs) = let h = values-fewer xs in omega arith
values-fewer (passes.Returned k ∷ xs) = let h = values-fewer xs in omega arith
values-fewer (passes.Exception k ∷ xs) = let h = values-fewer xs in omega arith

values-only : (xs : List EdgeArgument) → only_values xs ≡ all is_value xs
unfolding is_value
values-only [] = refl
values-only (passes.Value v ∷ xs) = eqb-suc-suc (length (values_among xs)) (length xs) ∙ values-only xs
values-only (passes.Returned k ∷ xs) = let h = values-fewer xs in ne_eqb (length (values_among xs)) (suc (length xs)) (λ e. omega arith)
values-only (passes.Exception k ∷ xs) = let h = values-fewer xs in ne_eqb (length (values_among xs)) (suc (length xs)) (λ e. omega arith)

value-word : (a b : ℕ) → is_value (edge_argument a b) ≡ eqb a 0
unfolding is_value
value-word a b = go (eqb a 0) (eqb a 1)
  where
    go : (z o : Bool) → is_value (cond z (passes.Value b) (cond o (passes.Returned b) (passes.Exception b))) ≡ z
    go true o = refl
    go false true = refl
    go false false = refl

-- RECORDS OF A KIND IN AN INSTRUCTION'S BODY.
all-only : (k : ℕ) (P : Words → Bool) (rs : List Record) → all (λ r. only k (P (encode r)) (encode r)) rs ≡ all P (of_kind k rs)
all-only k P [] = refl
all-only k P (r ∷ rs) = go (eqb (kind r) k) (all-only k P rs)
  where
    go : (b : Bool) {x : Bool} → x ≡ all P (of_kind k rs)
        → ((not b || P (encode r)) && x) ≡ all P (elim b [ true ↦ encode r ∷ of_kind k rs | false ↦ of_kind k rs ])
    go true e = ap (λ y. P (encode r) && y) e
    go false e = e

-- The sentence by records is the sentence by parts. Of an instruction: it is a terminator, a safepoint; it has no results, no
-- edges, no contexts; its edges lead not to block 0, and pass only values.
by_parts : (t p results edges contexts targets values : Bool)
    → ((not t || results) && ((t || edges) && targets) && ((p && t) || values) && ((p && t) || contexts))
    ≡ (cond t results (edges && contexts) && ((p && t) || contexts) && (targets && ((p && t) || values)))
unfolding agree every
by_parts t p r e c z v =
    let same : Bool → Bool → Bool → Bool → Bool → Bool → Bool → Bool = λ t p r e c z v.
    agree ((not t || r) && ((t || e) && z) && ((p && t) || v) && ((p && t) || c)) (cond t r (e && c) && ((p && t) || c) && (z && ((p && t) || v))) in
    agree_same _ _
    (every-at (same t p r e c z)
    (every-at (λ z. every (same t p r e c z))
    (every-at (λ c. every (λ z. every (same t p r e c z)))
    (every-at (λ e. every (λ c. every (λ z. every (same t p r e c z))))
    (every-at (λ r. every (λ e. every (λ c. every (λ z. every (same t p r e c z)))))
    (every-at (λ p. every (λ r. every (λ e. every (λ c. every (λ z. every (same t p r e c z))))))
    (every-at (λ t. every (λ p. every (λ r. every (λ e. every (λ c. every (λ z. every (same t p r e c z))))))) tt t) p) r) e) c) z) v)

-- What the flags say of the records of each kind in an instruction's body, said of the instruction's parts.
module _ (flags : ℕ) (body : List Record) where
  abbrev terminator : Bool
  terminator = is_terminator flags

  abbrev both : Bool
  both = safepoint_flags flags

  abbrev not_to_entry : List Edge → Bool
  not_to_entry es = all (λ e. not (eqb e.target 0)) es

  abbrev pass_values : List Edge → Bool
  pass_values es = all (λ e. only_values e.arguments) es

  none_named : (k : ℕ) → empty (of_kind k body) ≡ empty (named k body)
  none_named k = sym (empty-map (λ (w : Words). w.second) (of_kind k body))

  results-held : all (λ r. only 5 (not terminator) (encode r)) body ≡ (not terminator || empty (named 5 body))
  results-held = all-only 5 (λ w. not terminator) body ∙ all-constant (not terminator) (of_kind 5 body) ∙ ap (λ x. not terminator || x) (none_named 5)

  contexts-held : all (λ r. only 9 both (encode r)) body ≡ (both || empty (named 9 body))
  contexts-held = all-only 9 (λ w. both) body ∙ all-constant both (of_kind 9 body) ∙ ap (λ x. both || x) (none_named 9)

  no_edges : empty (of_kind 7 body) ≡ empty (edges_of body)
  no_edges =
      let us = (cut (eqb 7) body).sections in
      ap empty (sym (cut-heads 7 body)) ∙ empty-map (λ (u : Section). encode u.head) us ∙ sym (empty-map edge_of us)

  targets-held : all (λ w. not (eqb w.second 0)) (of_kind 7 body) ≡ not_to_entry (edges_of body)
  targets-held =
      let other : ℕ → Bool = λ b. not (eqb b 0) in
      sym (all_map other (λ (w : Words). w.second) (of_kind 7 body)) ∙ ap (all other) (sym (targets-picked body)) ∙ all_map other (λ (e : Edge). e.target) (edges_of body)

  edges-held : all (λ r. only 7 (terminator && not (eqb (encode r).second 0)) (encode r)) body
      ≡ ((terminator || empty (edges_of body)) && not_to_entry (edges_of body))
  edges-held =
      all-only 7 (λ w. terminator && not (eqb w.second 0)) body
      ∙ all_both (λ (w : Words). terminator) (λ w. not (eqb w.second 0)) (of_kind 7 body)
      ∙ ap₂ (λ x y. x && y) (all-constant terminator (of_kind 7 body) ∙ ap (λ x. terminator || x) no_edges) targets-held

  module _ (p : concat_map (λ e. e.arguments) (edges_of body) ≡ map argument (of_kind 8 body)) where
    values-held : all (λ w. eqb w.second 0) (of_kind 8 body) ≡ pass_values (edges_of body)
    unfolding is_value
    values-held =
        sym (all_same (λ w. is_value (argument w)) (λ w. eqb w.second 0) (λ w. value-word w.second w.third) (of_kind 8 body))
        ∙ sym (all_map is_value argument (of_kind 8 body)) ∙ ap (all is_value) (sym p)
        ∙ all-concat_map is_value (λ (e : Edge). e.arguments) (edges_of body)
        ∙ sym (all_same (λ (e : Edge). only_values e.arguments) (λ e. all is_value e.arguments) (λ e. values-only e.arguments) (edges_of body))

    passed-held : all (λ r. only 8 (both || eqb (encode r).second 0) (encode r)) body ≡ (both || pass_values (edges_of body))
    passed-held =
        all-only 8 (λ w. both || eqb w.second 0) body ∙ all_either both (λ w. eqb w.second 0) (of_kind 8 body) ∙ ap (λ x. both || x) values-held

    -- all four, and the parts put together as refusal 7 has them
    held : all (λ r. has_there flags (encode r)) body
        ≡ (cond terminator (empty (named 5 body)) (empty (edges_of body) && empty (named 9 body)) && (both || empty (named 9 body))
        && all (λ e. not (eqb e.target 0) && (both || only_values e.arguments)) (edges_of body))
    held =
        let edges = edges_of body in
        let contexts = empty (named 9 body) in
        let five : Record → Bool = λ r. only 5 (not terminator) (encode r) in
        let seven : Record → Bool = λ r. only 7 (terminator && not (eqb (encode r).second 0)) (encode r) in
        let eight : Record → Bool = λ r. only 8 (both || eqb (encode r).second 0) (encode r) in
        let nine : Record → Bool = λ r. only 9 both (encode r) in
        all_both (λ r. five r && seven r && eight r) nine body
        ∙ ap (λ x. x && all nine body) (all_both (λ r. five r && seven r) eight body ∙ ap (λ x. x && all eight body) (all_both five seven body))
        ∙ ap₂ (λ x y. x && y) (ap₂ (λ x y. x && y) (ap₂ (λ x y. x && y) results-held edges-held) passed-held) contexts-held
        ∙ by_parts terminator (is_safepoint flags) (empty (named 5 body)) (empty edges) contexts (not_to_entry edges) (pass_values edges)
        ∙ ap (λ x. cond terminator (empty (named 5 body)) (empty edges && contexts) && (both || contexts) && x)
        (ap (λ x. not_to_entry edges && x) (sym (all_either both (λ (e : Edge). only_values e.arguments) edges))
        ∙ sym (all_both (λ (e : Edge). not (eqb e.target 0)) (λ e. both || only_values e.arguments) edges))

module _ (t : Section) (h : T (is_instruction t)) where
  holding-instruction : all (λ r. has_there (encode t.head).second (encode r)) t.body ≡ shaped (instruction_of t)
  holding-instruction = held (encode t.head).second t.body (passed-picked t h)

  holding-section : holding (encode t.head).second t.body ≡ shaped (instruction_of t)
  holding-section =
      let flags = (encode t.head).second in
      reading-steady has_there always t.body
      (kinds-weaken in_body (λ j. not (eqb j 2) && not (eqb j 4))
      (λ j m.
      and_intro (not (eqb j 2)) (not (eqb j 4))
      (passes_at (λ x. not (eqb x 2)) (3 ∷ 4 ∷ 5 ∷ 6 ∷ 7 ∷ 8 ∷ 9 ∷ []) tt j (and_right (not (opens_item j)) (in_block j) m))
      (differ (λ x. not (opens_item x)) j 4 (and_left (not (opens_item j)) (in_block j) m) tt)) t.body (body-allowed t h))
      flags
      ∙ and-true (all (λ r. has_there flags (encode r)) t.body) ∙ holding-instruction

-- a record of a kind that says nothing of the flags
idle : (k : ℕ) → T (not (eqb k 5) && not (eqb k 7) && not (eqb k 8) && not (eqb k 9)) → (flags : ℕ) (r : Record) → kind r ≡ k → has_there flags (encode r) ≡ true
idle k n flags r e =
    let t = is_terminator flags in
    ap (λ j. has_there flags (record { kind = j; second = (encode r).second; third = 0; fourth = 0 })) e
    ∙ free (eqb k 5) (eqb k 7) (eqb k 8) (eqb k 9) (not t) (t && not (eqb (encode r).second 0)) (safepoint_flags flags || eqb (encode r).second 0) (safepoint_flags flags) n
  where
    free : (a b c d w x y z : Bool) → T (not a && not b && not c && not d) → ((not a || w) && (not b || x) && (not c || y) && (not d || z)) ≡ true
    free false false false false w x y z h = refl
    free true b c d w x y z h = absurd h
    free false true c d w x y z h = absurd h
    free false false true d w x y z h = absurd h
    free false false false true w x y z h = absurd h

holding-block : (s : Section) → BlockBody s.body → (flags : ℕ) → holding flags s.body ≡ all shaped (instructions_of (block_of s))
unfolding flags_behind
holding-block s h flags =
    let body = s.body in
    let same = cut-instructions body (in-block body h) in
    let each : Section → Bool = λ t. holding (encode t.head).second t.body in
    reading-cut has_there always (eqb 4) (λ r. (encode r).second)
    (λ flags r o.
    let four : kind r ≡ 4 = sym (eqb→eq 4 (kind r) o) in
    (idle 4 tt flags r four, ap (λ k. cond (eqb k 2) 0 (cond (eqb k 4) (encode r).second flags)) four)) body flags
    ∙ ap (λ c. holding flags c.front && all each c.sections) (sym same)
    ∙ ap (λ x. x && all each (cut opens_item body).sections) (reading-idle has_there always 3 tt (idle 3 tt) (cut opens_item body).front (front-parameters body h) flags)
    ∙ all-in-block shaped each holding-section s h

-- THE LAW.
pub holding-instructions : (rs : List Record) → T (ordered 0 rs) → holding 2 rs ≡ all shaped (all_instructions (function rs))
unfolding flags_behind
holding-instructions rs h =
    let each : Section → Bool = λ s. holding 0 s.body in
    reading-cut has_there always (eqb 2) (λ r. 0)
    (λ flags r o.
    let two : kind r ≡ 2 = sym (eqb→eq 2 (kind r) o) in
    (idle 2 tt flags r two, ap (λ k. cond (eqb k 2) 0 (cond (eqb k 4) (encode r).second flags)) two)) rs 2
    ∙ ap (λ x. x && all each (cut (eqb 2) rs).sections) (reading-idle has_there always 1 tt (idle 1 tt) (cut (eqb 2) rs).front (front-values rs h) 2)
    ∙ all-in-file shaped each (λ s b. holding-block s (is_block-body s b) 0) rs h
