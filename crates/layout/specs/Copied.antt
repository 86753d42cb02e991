-- A block that is copied: the records of its tree are the file's records of it.
use Prim.Native.Nat.{ℕ, zero, suc, ◌+◌, ◌-◌, ◌<◌, ◌≤◌}
use Rattle.std.specs.Prelude.{◌≡◌, refl, Bool, not, cond, List, [], ◌∷◌, ◌++◌, map, length, eqb}
use Rattle.std.proofs.Common.{sym, ap, ap₂, ◌∙◌, append_assoc, append-nil, arith, eqb→eq}
use Rattle.std.proofs.Math.Path.{subst}
use Rattle.std.proofs.Math.Dec.{T}
use Rattle.rules.specs.Lists.{has, concat_map}
use Rattle.rules.specs.Tree.{MapEntry, instruction, slot_address, store, load, jump}
use Rattle.rules.specs.Records.{encode, kind, edge_argument, record_at, record_count, records}
use Rattle.rules.specs.File.{followers, follows, ordered, Section, Cut, cut, of_kind, named, edge_of, edges_of, first_edge, instruction_of, item_of, opens_item, block_of, edge_records, item_records, block_records, function_in}
use Rattle.rules.specs.Graph.{block_at}
use Rattle.rules.specs.declared.EdgeArgument.TheVariants as passes
use Rattle.rules.specs.declared.Record.{Record}
use Rattle.rules.specs.declared.Record.TheVariants as record'
use Rattle.rules.specs.declared.Words.{Words}
use Rattle.lists.specs.Tests.{and_right, passes_at}
use Rattle.lists.specs.Maps.{concat_map-map, concat_map-where}
use Rattle.records.specs.Kinds.{Kinds, kinds-weaken, of_kind-none, cut-closed}
use Rattle.records.specs.InOrder.{chain, whole, cut-joins, kept_by, chain-good}
use Rattle.records.specs.Parts.{BlockBody, front-parameters, in_body, is_instruction, head-instruction, body-chained, body-allowed, front-edges, block-instructions}
use Rattle.records.specs.Leading.{leading, leading-cut, parameters-lead}
use Rattle.graph.specs.Between.{between, between_none, between_more}
use Rattle.graph.specs.Blocks.{place_of, section_of, place-le, place-less, block-body, block_at-by-place, block-head}
use Rattle.writing.specs.Places.{from_to, from_to-none, from_to-more}
use Rattle.writing_instructions.specs.Remade.{block-remade, instruction-remade}
use Rattle.layout.specs.BlockRuns.{copy_at}

-- LISTS of which the first ones are empty
skip₁ : (a t rs : List Record) (x : Record) → a ≡ [] → a ++ t ≡ rs → a ++ (x ∷ t) ≡ x ∷ rs
skip₁ a t rs x e h = rw e (ap (λ (y : List Record). x ∷ y) (rw e at h))

skip₂ : (a b t rs : List Record) (x : Record) → a ≡ [] → b ≡ [] → a ++ (b ++ t) ≡ rs → a ++ (b ++ (x ∷ t)) ≡ x ∷ rs
skip₂ a b t rs x e f h = rw (e, f) (ap (λ (y : List Record). x ∷ y) (rw (e, f) at h))

-- THE BODY OF AN INSTRUCTION. What a body has in it, one kind behind the other; before its first edge there may be arguments
-- of an edge whose record stands further up.
abbrev arguments : List Record → List Record
arguments rs = map record'.Argument (named 6 rs)

abbrev results : List Record → List Record
results rs = map record'.Result (named 5 rs)

abbrev passed : List Record → List Record
passed rs = map record'.EdgeArgument (map (λ w. edge_argument w.second w.third) (of_kind 8 (cut (eqb 7) rs).front))

abbrev edges : List Record → List Record
edges rs = concat_map edge_records (edges_of rs)

abbrev contexts : List Record → List Record
contexts rs = map record'.Context (named 9 rs)

abbrev in_order_of : List Record → List Record
in_order_of rs = arguments rs ++ (results rs ++ (passed rs ++ (edges rs ++ contexts rs)))

-- the kinds in an instruction's body
abbrev inside : ℕ → Bool
inside j = has j (5 ∷ 6 ∷ 7 ∷ 8 ∷ 9 ∷ [])

-- behind a result no argument stands, behind an edge neither, behind a context nothing but contexts
no_arguments : (p : ℕ) → T (has p (5 ∷ 7 ∷ 8 ∷ 9 ∷ [])) → (rs : List Record) → T (chain p rs) → Kinds inside rs → arguments rs ≡ []
unfolding kept_by followers
no_arguments p m rs c k =
    ap (λ (ws : List Words). map record'.Argument (map (λ w. w.second) ws))
    (of_kind-none 6 rs (chain-good (5 ∷ 7 ∷ 8 ∷ 9 ∷ []) inside (λ j. not (eqb j 6)) tt p rs m c k))

no-results : (p : ℕ) → T (has p (7 ∷ 8 ∷ 9 ∷ [])) → (rs : List Record) → T (chain p rs) → Kinds inside rs → results rs ≡ []
unfolding kept_by followers
no-results p m rs c k =
    ap (λ (ws : List Words). map record'.Result (map (λ w. w.second) ws))
    (of_kind-none 5 rs (chain-good (7 ∷ 8 ∷ 9 ∷ []) inside (λ j. not (eqb j 5)) tt p rs m c k))

module _ (rs : List Record) (c : T (chain 9 rs)) (k : Kinds inside rs) where
  only-contexts : (good : ℕ → Bool) → T (good 9) → Kinds good rs
  unfolding kept_by followers
  only-contexts good g =
      kinds-weaken (eqb 9) good (λ j e. passes-nine good g j e) rs (chain-good (9 ∷ []) inside (eqb 9) tt 9 rs tt c k)
    where
      passes-nine : (good : ℕ → Bool) → T (good 9) → (j : ℕ) → T (eqb 9 j) → T (good j)
      passes-nine good g j e = subst (λ i. T (good i)) (eqb→eq 9 j e) g

  closed : cut (eqb 7) rs ≡ record { front = rs; sections = [] }
  closed = cut-closed (eqb 7) rs (only-contexts (λ j. not (eqb 7 j)) tt)

  no-passed : passed rs ≡ []
  no-passed =
      ap (λ (x : Cut). map record'.EdgeArgument (map (λ w. edge_argument w.second w.third) (of_kind 8 x.front))) closed
      ∙ ap (λ (ws : List Words). map record'.EdgeArgument (map (λ w. edge_argument w.second w.third) ws))
      (of_kind-none 8 rs (only-contexts (λ j. not (eqb j 8)) tt))

  no_edges : edges rs ≡ []
  no_edges = ap (λ (x : Cut). concat_map edge_records (map edge_of x.sections)) closed

-- so it is the body again
body-again : (p : ℕ) (rs : List Record) → T (chain p rs) → Kinds inside rs → in_order_of rs ≡ rs
body-again p [] c k = refl
body-again p (record'.Argument v ∷ rs) c k =
    ap (λ (t : List Record). record'.Argument v ∷ t) (body-again 6 rs (and_right (follows p 6) (chain 6 rs) c) k)
body-again p (record'.Result v ∷ rs) c k =
    let d = and_right (follows p 5) (chain 5 rs) c in
    skip₁ (arguments rs) (results rs ++ (passed rs ++ (edges rs ++ contexts rs))) rs (record'.Result v) (no_arguments 5 tt rs d k)
    (body-again 5 rs d k)
body-again p (record'.Edge b ∷ rs) c k =
    let d = and_right (follows p 7) (chain 7 rs) c in
    ap (λ (t : List Record). arguments rs ++ (results rs ++ (record'.Edge b ∷ t))) (append_assoc (passed rs) (edges rs) (contexts rs))
    ∙ skip₂ (arguments rs) (results rs) (passed rs ++ (edges rs ++ contexts rs)) rs (record'.Edge b) (no_arguments 7 tt rs d k) (no-results 7 tt rs d k)
    (body-again 7 rs d k)
body-again p (record'.EdgeArgument (passes.Value v) ∷ rs) c k =
    let d = and_right (follows p 8) (chain 8 rs) c in
    skip₂ (arguments rs) (results rs) (passed rs ++ (edges rs ++ contexts rs)) rs (record'.EdgeArgument (passes.Value v)) (no_arguments 8 tt rs d k)
    (no-results 8 tt rs d k) (body-again 8 rs d k)
body-again p (record'.EdgeArgument (passes.Returned index) ∷ rs) c k =
    let d = and_right (follows p 8) (chain 8 rs) c in
    skip₂ (arguments rs) (results rs) (passed rs ++ (edges rs ++ contexts rs)) rs (record'.EdgeArgument (passes.Returned index)) (no_arguments 8 tt rs d k)
    (no-results 8 tt rs d k) (body-again 8 rs d k)
body-again p (record'.EdgeArgument (passes.Exception index) ∷ rs) c k =
    let d = and_right (follows p 8) (chain 8 rs) c in
    skip₂ (arguments rs) (results rs) (passed rs ++ (edges rs ++ contexts rs)) rs (record'.EdgeArgument (passes.Exception index)) (no_arguments 8 tt rs d k)
    (no-results 8 tt rs d k) (body-again 8 rs d k)
body-again p (record'.Context v ∷ rs) c k =
    let d = and_right (follows p 9) (chain 9 rs) c in
    let last =
    ap₂ (λ (x y : List Record). x ++ (y ++ contexts rs)) (no-passed rs d k) (no_edges rs d k) in
    let put = ap₂ (λ (x y : List Record). x ++ (y ++ (record'.Context v ∷ contexts rs))) (no-passed rs d k) (no_edges rs d k) in
    ap (λ (t : List Record). arguments rs ++ (results rs ++ t)) put
    ∙ skip₂ (arguments rs) (results rs) (contexts rs) rs (record'.Context v) (no_arguments 9 tt rs d k) (no-results 9 tt rs d k)
    (ap (λ (t : List Record). arguments rs ++ (results rs ++ t)) (sym last) ∙ body-again 9 rs d k)
body-again p (record'.Value size marked ∷ rs) c k = absurd k
body-again p (record'.Block cold number ∷ rs) c k = absurd k
body-again p (record'.Parameter v ∷ rs) c k = absurd k
body-again p (record'.Instruction a b tag ∷ rs) c k = absurd k
body-again p (record'.Slot size ∷ rs) c k = absurd k
body-again p (record'.MapEntry slot size ∷ rs) c k = absurd k
body-again p (record'.SlotAddress result slot ∷ rs) c k = absurd k
body-again p (record'.Store value address ∷ rs) c k = absurd k
body-again p (record'.Load result address size ∷ rs) c k = absurd k
body-again p (record'.Jump ∷ rs) c k = absurd k
body-again p (record'.Outside ∷ rs) c k = absurd k

-- AN INSTRUCTION
module _ (t : Section) (h : T (is_instruction t)) where
  body-inside : Kinds inside t.body
  unfolding kept_by followers
  body-inside = chain-good (4 ∷ 5 ∷ 6 ∷ 7 ∷ 8 ∷ 9 ∷ []) in_body inside tt 4 t.body tt (body-chained t h) (body-allowed t h)

  -- before its first edge it passes nothing
  none_passed : passed t.body ≡ []
  none_passed =
      ap (λ (ws : List Words). map record'.EdgeArgument (map (λ w. edge_argument w.second w.third) ws))
      (of_kind-none 8 (cut (eqb 7) t.body).front (front-edges t h))

  no-entries : of_kind 11 t.body ≡ []
  no-entries =
      of_kind-none 11 t.body
      (kinds-weaken inside (λ j. not (eqb j 11)) (passes_at (λ j. not (eqb j 11)) (5 ∷ 6 ∷ 7 ∷ 8 ∷ 9 ∷ []) tt) t.body body-inside)

  instruction-again : item_records (item_of t) ≡ whole t
  instruction-again =
      let body = t.body in
      let four = eqb→eq (kind t.head) 4 (head-instruction t h) in
      ap item_records
      (ap (λ (k : ℕ).
      cond (eqb k 4) (instruction (instruction_of t))
      (cond (eqb k 12) (slot_address (encode t.head).second (encode t.head).third)
      (cond (eqb k 13) (store (encode t.head).second (encode t.head).third)
      (cond (eqb k 14) (load (encode t.head).second (encode t.head).third (encode t.head).fourth) (jump (first_edge (edges_of body))))))) four)
      ∙ ap₂ (λ (r : Record) (rs : List Record). r ∷ rs) (sym (instruction-remade t.head four))
      (ap
      (λ (ws : List Words).
      arguments body
      ++ (results body
      ++ (edges body
      ++ (contexts body ++ map (λ (x : MapEntry). record'.MapEntry x.slot x.size) (map (λ w. record { slot = w.second; size = w.third }) ws)))))
      no-entries
      ∙ ap (λ (x : List Record). arguments body ++ (results body ++ (edges body ++ x))) (append-nil (contexts body))
      ∙ ap (λ (x : List Record). arguments body ++ (results body ++ (x ++ (edges body ++ contexts body)))) (sym none_passed)
      ∙ body-again 4 body (body-chained t h) body-inside)

-- A BLOCK
front-again : (rs : List Record) → Kinds (eqb 3) rs → map record'.Parameter (map (λ w. w.second) (leading 3 rs)) ≡ rs
front-again [] k = refl
front-again (record'.Parameter v ∷ rs) k = ap (λ (t : List Record). record'.Parameter v ∷ t) (front-again rs k)
front-again (record'.Value size marked ∷ rs) k = absurd k
front-again (record'.Block cold number ∷ rs) k = absurd k
front-again (record'.Instruction a b tag ∷ rs) k = absurd k
front-again (record'.Result v ∷ rs) k = absurd k
front-again (record'.Argument v ∷ rs) k = absurd k
front-again (record'.Edge b ∷ rs) k = absurd k
front-again (record'.EdgeArgument (passes.Value v) ∷ rs) k = absurd k
front-again (record'.EdgeArgument (passes.Returned index) ∷ rs) k = absurd k
front-again (record'.EdgeArgument (passes.Exception index) ∷ rs) k = absurd k
front-again (record'.Context v ∷ rs) k = absurd k
front-again (record'.Slot size ∷ rs) k = absurd k
front-again (record'.MapEntry slot size ∷ rs) k = absurd k
front-again (record'.SlotAddress result slot ∷ rs) k = absurd k
front-again (record'.Store value address ∷ rs) k = absurd k
front-again (record'.Load result address size ∷ rs) k = absurd k
front-again (record'.Jump ∷ rs) k = absurd k
front-again (record'.Outside ∷ rs) k = absurd k

block-again : (t : Section) → kind t.head ≡ 2 → BlockBody t.body → block_records (block_of t) ≡ whole t
block-again t two h =
    let body = t.body in
    let c = cut opens_item body in
    ap₂ (λ (r : Record) (rs : List Record). r ∷ rs) (sym (block-remade t.head two))
    (ap₂ (λ (a b : List Record). a ++ b)
    (ap (λ (ws : List Words). map record'.Parameter (map (λ w. w.second) ws)) (parameters-lead body h ∙ sym (leading-cut opens_item 3 tt body))
    ∙ front-again c.front (front-parameters body h))
    (concat_map-map item_records item_of c.sections
    ∙ concat_map-where is_instruction (λ x. item_records (item_of x)) whole instruction-again c.sections (block-instructions body h))
    ∙ cut-joins opens_item body)

-- records copied are those of the file
copy-from : (s : List ℕ) (n p q : ℕ) → p + n ≡ q → q ≤ record_count s → between s p q ≡ from_to (copy_at s) p q
copy-from s zero p q e m =
    let same : q ≡ p = omega arith in
    rw (same, between_none s p, from_to-none (copy_at s) p) refl
copy-from s (suc n) p q e m =
    rw (between_more s p q (omega arith) m, from_to-more (copy_at s) p q (omega arith))
    (ap (λ (t : List Record). record_at s p ∷ t) (copy-from s n (suc p) q (omega arith) m))

-- THE BLOCK COPIED.
pub block-copied :
    (s : List ℕ) → T (ordered 0 (records s)) → (b : ℕ) → b < length (function_in s).blocks
    → block_records (block_at (function_in s) b) ≡ from_to (copy_at s) (place_of s b) (place_of s (suc b))
block-copied s h b l =
    ap block_records (block_at-by-place s b l)
    ∙ block-again (section_of s b) (block-head s b l) (block-body s h b l)
    ∙ sym (between_more s (place_of s b) (place_of s (suc b)) (place-less s b l) (place-le s (suc b) l))
    ∙ copy-from s (place_of s (suc b) - place_of s b) (place_of s b) (place_of s (suc b)) (let less = place-less s b l in omega arith) (place-le s (suc b) l)
