-- What refusals 4 and 5 give the walk: a file in order has a block; and where the numbers are in the file, paths stay
-- in the file, and there are no more indices than blocks.
use Rattle.std.specs.Prelude.{ℕ, ◌<◌, ◌≤◌, ◌≡◌, refl, not, List, [], ◌∷◌, ◌++◌, length, get_or, T, eqb, leb, ltb}
use Rattle.std.proofs.Common.{arith, sym, subst, T_not, ltb→lt, nltb→le}
use mathlib.Core.List.Memᴰ
use Rattle.std.proofs.lemmas.List.{length-map}
use Rattle.rules.specs.Lists.{all, has}
use Rattle.rules.specs.Tree.{Edge, Instruction, Function}
use Rattle.rules.specs.Records.{kind}
use Rattle.rules.specs.File.{followers, follows, ordered, Cut, cut, block_of, function}
use Rattle.rules.specs.Graph.{block_at, instructions_of, edges_out, successors, reachable}
use Rattle.rules.specs.Refusals.{all_edges, definitions, uses, numbers_in_file}
use Rattle.rules.specs.Demand3.{PathTo, start, onward}
use Rattle.rules.specs.declared.Record.{Record}
use Rattle.lists.specs.Tests.{test-elim, if-elim, T_and, neqb→ne}
use Rattle.lists.specs.Members.{has→∈}
use Rattle.lists.specs.Members.{◌∈◌, not-∈-nil, ∈-elim, all→∈, get_d-∈, ∈-concat_map, ∈-concat_map-from}
use Rattle.lists.specs.Lack.{nodup-length-le}
use Rattle.walks.specs.Paths.{successors-outside}
use Rattle.walks.specs.Reachable.{reachable-nodup, reachable→path}

-- what may stand first, or behind a value, and is no block, is a value
value-next : (p k : ℕ) → get_or followers p [] ≡ 1 ∷ 2 ∷ [] → T (follows p k) → T (not (eqb 2 k)) → k ≡ 1
unfolding follows
value-next p k next h other =
    ∈-elim (λ e. e) (∈-elim (λ e. absurd (neqb→ne 2 k other (sym e))) (λ m. absurd (not-∈-nil m)))
    (has→∈ (1 ∷ 2 ∷ []) (subst (λ ks. T (has k ks)) next h))

-- records in order from there on have a block among them
sections-some :
    (p : ℕ) → get_or followers p [] ≡ 1 ∷ 2 ∷ [] → T (not (leb 4 p)) → (rs : List Record) → T (ordered p rs)
    → 0 < length (cut (eqb 2) rs).sections
unfolding followers
sections-some p next short [] h = absurd (T_not (leb 4 p) short h)
sections-some p next short (r ∷ rs) h =
    let both = T_and (follows p (kind r)) (ordered (kind r) rs) h in
    if-elim (λ (c : Cut). 0 < length c.sections) (eqb 2 (kind r)) _ _
    (λ _. omega arith)
    (λ other.
    let value : kind r ≡ 1 = value-next p (kind r) next both.0 other in
    sections-some (kind r) (rw value refl) (rw value tt) rs both.1)

-- A file in order has a block.
pub blocks-some : (rs : List Record) → T (ordered 0 rs) → 0 < length (function rs).blocks
unfolding followers function
blocks-some rs h =
    let some : 0 < length (cut (eqb 2) rs).sections = sections-some 0 refl tt rs h in
    omega (arith, length-map (cut (eqb 2) rs).sections block_of)

-- an edge out of a block of the file is an edge of the file
edges_out→all_edges :
    (f : Function) {b : ℕ} {e : Edge} → b < length f.blocks → e ∈ edges_out (block_at f b) → e ∈ all_edges f
edges_out→all_edges f {b} l m =
    let i = ∈-concat_map-from (λ (i : Instruction). i.edges) (instructions_of (block_at f b)) m in
    ∈-concat_map (λ i. i.edges) (∈-concat_map instructions_of (get_d-∈ f.blocks b _ l) i.1) i.2

module _ (f : Function) (in_file : T (numbers_in_file f)) where
  -- an edge of the file leads to a block of the file
  target-in-file : {e : Edge} → e ∈ all_edges f → e.target < length f.blocks
  target-in-file {e} m =
      let targets =
      T_and (all (λ v. ltb v (length f.values)) (definitions f ++ uses f))
      (all (λ e. ltb e.target (length f.blocks)) (all_edges f))
      in_file in
      ltb→lt e.target (length f.blocks)
      (all→∈ (λ (e : Edge). ltb e.target (length f.blocks)) (all_edges f) targets.1 m)

  -- Every edge leads to a block of the file.
  pub successor-in-file : (b : ℕ) {t : ℕ} → t ∈ successors f b → t < length f.blocks
  successor-in-file b {t} m = test-elim (ltb b (length f.blocks)) inside outside
    where
      inside : T (ltb b (length f.blocks)) → t < length f.blocks
      inside h =
          let e = Memᴰ.of_map (λ (e : Edge). e.target) (edges_out (block_at f b)) m in
          let l : b < length f.blocks = ltb→lt b (length f.blocks) h in
          subst (λ u. u < length f.blocks) e.2 (target-in-file (edges_out→all_edges f l e.1))

      outside : T (not (ltb b (length f.blocks))) → t < length f.blocks
      outside h = absurd (not-∈-nil (subst (◌∈◌ t) (successors-outside f b (nltb→le b (length f.blocks) h)) m))

  module _ (some : 0 < length f.blocks) where
    -- Every path leads to a block of the file.
    pub path-in-file : {b : ℕ} {passed : List ℕ} → PathTo f b passed → b < length f.blocks
    path-in-file start = some
    path-in-file (onward {b = b} p m) = successor-in-file b m

    -- Every reachable block is a block of the file.
    pub reachable-in-file : {b : ℕ} → b ∈ reachable f → b < length f.blocks
    reachable-in-file m = path-in-file (reachable→path f m).path

    -- There are no more indices than blocks.
    pub length-reachable-le : length (reachable f) ≤ length f.blocks
    length-reachable-le =
        nodup-length-le (length f.blocks) (reachable f) (reachable-nodup f) (λ x. reachable-in-file)
