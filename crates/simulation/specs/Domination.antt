-- How the premise of demand 3 is found to hold without going through paths: the values that are surely defined where a block
-- is entered are written down, and one pass over each block confirms them.
use Rattle.std.specs.Prelude.{ℕ, zero, suc, ◌+◌, ◌≤◌, ◌<◌, ◌≡◌, refl, ◌⊎◌, Bool, true, false, ◌&&◌, List, [], ◌∷◌, ◌++◌, map, length, T, ltb, eqb}
use Rattle.std.proofs.Common.{arith, sym, ap, subst, ◌∙◌, inl, inr, ⊎_elim, ltb→lt, nltb→le}
use mathlib.Core.List.Memᴰ
use Rattle.std.proofs.Math.ListN.{get_or-eq_default}
use Rattle.rules.specs.Lists.{all, concat_map, has, up_from}
use Rattle.rules.specs.Tree.{Instruction, Function}
use Rattle.rules.specs.Graph.{block_at, instructions_of, values_passed, successors}
use Rattle.rules.specs.Demand3.{PathTo, start, onward, results_of, defined_in, Dominated}
use Rattle.lists.specs.Tests.{T_and, and_left, and_right, test-elim, passes_at, neqb→ne, or_left, or_right}
use Rattle.lists.specs.Members.{◌∈◌, here, not-∈-nil, has→∈, all→∈}

-- every use is among the values known before it: arguments and contexts before the instruction, edge arguments after it
abbrev pub read_ok : List ℕ → Instruction → Bool
read_ok known i = all (λ v. has v known) (i.arguments ++ i.contexts)

abbrev pub passed_ok : List ℕ → Instruction → Bool
passed_ok known i = all (λ v. has v (known ++ i.results)) (values_passed i)

abbrev pub uses_ok : List ℕ → List Instruction → Bool
uses_ok known [] = true
uses_ok known (i ∷ is) = read_ok known i && (passed_ok known i && uses_ok (known ++ i.results) is)

module _ (f : Function) (defined : ℕ → List ℕ) where
  -- what is known in a block is defined where it is entered, or a parameter; its successors know no more than it leaves
  abbrev pub block_dominated : ℕ → Bool
  block_dominated b =
      uses_ok (defined b ++ (block_at f b).parameters) (instructions_of (block_at f b))
      && all (λ t. all (λ v. has v (defined b ++ defined_in f b)) (defined t)) (successors f b)

  abbrev pub dominated_ok : Bool
  dominated_ok = all (λ _. false) (defined 0) && all block_dominated (up_from 0 (length f.blocks))

-- a value among the first two of three lists, or in the third
joined : {v : ℕ} (known rs later : List ℕ) → (v ∈ (known ++ rs)) ⊎ (v ∈ later) → (v ∈ known) ⊎ (v ∈ (rs ++ later))
joined known rs later (inl k) = ⊎_elim inl (λ r. inr (Memᴰ.append_left later r)) (Memᴰ.append_cases known k)
joined known rs later (inr k) = inr (Memᴰ.append_right rs k)

uses_ok-rest : (known : List ℕ) (i : Instruction) (is : List Instruction) → T (uses_ok known (i ∷ is))
    → T (uses_ok (known ++ i.results) is)
uses_ok-rest known i is t =
    let rest = uses_ok (known ++ i.results) is in
    and_right (passed_ok known i) rest (and_right (read_ok known i) (passed_ok known i && rest) t)

-- what the pass has tested of a use
uses-before : (known : List ℕ) (earlier : List Instruction) (i : Instruction) (later : List Instruction)
    → T (uses_ok known (earlier ++ (i ∷ later)))
    → (v : ℕ) → v ∈ (i.arguments ++ i.contexts) → (v ∈ known) ⊎ (v ∈ results_of earlier)
uses-before known [] i later t v m =
    inl (has→∈ known (all→∈ (λ v. has v known) (i.arguments ++ i.contexts) (and_left (read_ok known i) _ t) m))
uses-before known (e ∷ earlier) i later t v m =
    joined known e.results (results_of earlier)
    (uses-before (known ++ e.results) earlier i later (uses_ok-rest known e (earlier ++ (i ∷ later)) t) v m)

uses-after : (known : List ℕ) (earlier : List Instruction) (i : Instruction) (later : List Instruction)
    → T (uses_ok known (earlier ++ (i ∷ later)))
    → (v : ℕ) → v ∈ values_passed i → (v ∈ known) ⊎ (v ∈ results_of (earlier ++ (i ∷ [])))
uses-after known [] i later t v m =
    let rest = uses_ok (known ++ i.results) later in
    let all-passed = and_left (passed_ok known i) rest (and_right (read_ok known i) (passed_ok known i && rest) t) in
    joined known i.results []
    (inl (has→∈ (known ++ i.results) (all→∈ (λ v. has v (known ++ i.results)) (values_passed i) all-passed m)))
uses-after known (e ∷ earlier) i later t v m =
    joined known e.results (results_of (earlier ++ (i ∷ [])))
    (uses-after (known ++ e.results) earlier i later (uses_ok-rest known e (earlier ++ (i ∷ later)) t) v m)

has-up_from : (a k b : ℕ) → a ≤ b → b < a + k → T (has b (up_from a k))
has-up_from a zero b h l = absurd (omega arith)
has-up_from a (suc k) b h l =
    test-elim (eqb b a) (or_left (eqb b a) (has b (up_from (suc a) k)))
    (λ n. or_right (eqb b a) (has b (up_from (suc a) k)) (has-up_from (suc a) k b (omega (arith, neqb→ne b a n)) (omega arith)))

module _ (f : Function) (defined : ℕ → List ℕ) (ok : T (dominated_ok f defined)) where
  -- a block of the file has been passed; another has no instructions
  in-file : (b : ℕ) → T (block_dominated f defined b) ⊎ (instructions_of (block_at f b) ≡ [])
  in-file b =
      test-elim (ltb b (length f.blocks))
      (λ t. inl (passes_at (block_dominated f defined) (up_from 0 (length f.blocks))
      (T_and (all (λ _. false) (defined 0)) (all (block_dominated f defined) (up_from 0 (length f.blocks))) ok).1
      b (has-up_from 0 (length f.blocks) b (omega arith) (omega (arith, ltb→lt b (length f.blocks) t)))))
      (λ n. inr (ap instructions_of (get_or-eq_default f.blocks (record { cold = false; number = 0; parameters = []; items = [] })
      (nltb→le b (length f.blocks) n))))

  uses-ok : (b : ℕ) → T (block_dominated f defined b)
      → T (uses_ok (defined b ++ (block_at f b).parameters) (instructions_of (block_at f b)))
  uses-ok b t = (T_and (uses_ok (defined b ++ (block_at f b).parameters) (instructions_of (block_at f b))) _ t).0

  -- on every path the values written down are defined
  defined-passed : {b : ℕ} {passed : List ℕ} → PathTo f b passed → (v : ℕ) → v ∈ defined b → v ∈ concat_map (defined_in f) passed
  defined-passed start v m =
      let none = and_left (all (λ _. false) (defined 0)) (all (block_dominated f defined) (up_from 0 (length f.blocks))) ok in
      absurd (all→∈ (λ _. false) (defined 0) none m)
  defined-passed (onward {b} {t} {passed} p s) v m =
      ⊎_elim
      (λ h.
      let left : ℕ → Bool = λ w. has w (defined b ++ defined_in f b) in
      let into =
      and_right (uses_ok (defined b ++ (block_at f b).parameters) (instructions_of (block_at f b)))
      (all (λ t. all left (defined t)) (successors f b)) h in
      let all_left = all→∈ left (defined t) (all→∈ (λ t. all left (defined t)) (successors f b) into s) m in
      ⊎_elim (λ k. Memᴰ.append_right (defined_in f b) (defined-passed p v k)) (Memᴰ.append_left (concat_map (defined_in f) passed))
      (Memᴰ.append_cases (defined b) (has→∈ (defined b ++ defined_in f b) all_left)))
      (λ h. absurd (not-∈-nil (subst (λ is. t ∈ map (λ e. e.target) (concat_map (λ i. i.edges) is)) h s)))
      (in-file b)

  -- a use's value stands before it, among what is known
  stands : {b : ℕ} {passed : List ℕ} → PathTo f b passed → (v : ℕ) (rs : List ℕ)
      → (v ∈ (defined b ++ (block_at f b).parameters)) ⊎ (v ∈ rs)
      → v ∈ (concat_map (defined_in f) passed ++ ((block_at f b).parameters ++ rs))
  stands {b} {passed} p v rs (inl k) =
      ⊎_elim (λ d. Memᴰ.append_left ((block_at f b).parameters ++ rs) (defined-passed p v d))
      (λ d. Memᴰ.append_right (concat_map (defined_in f) passed) (Memᴰ.append_left rs d)) (Memᴰ.append_cases (defined b) k)
  stands {b} {passed} p v rs (inr k) = Memᴰ.append_right (concat_map (defined_in f) passed) (Memᴰ.append_right (block_at f b).parameters k)

  -- an instruction of a block stands in a block of the file
  of-file : (b : ℕ) (earlier : List Instruction) (i : Instruction) (later : List Instruction)
      → instructions_of (block_at f b) ≡ earlier ++ (i ∷ later)
      → T (uses_ok (defined b ++ (block_at f b).parameters) (earlier ++ (i ∷ later)))
  of-file b earlier i later e =
      ⊎_elim (λ t. subst (λ is. T (uses_ok (defined b ++ (block_at f b).parameters) is)) e (uses-ok b t))
      (λ none. absurd (not-∈-nil (subst (λ is. i ∈ is) (sym e ∙ none) (Memᴰ.append_right earlier (here refl)))))
      (in-file b)

  pub dominated-ok : Dominated f
  dominated-ok =
      record {
        before = λ {b} {passed} p earlier i later e v m.
            stands p v (results_of earlier)
            (uses-before (defined b ++ (block_at f b).parameters) earlier i later (of-file b earlier i later e) v m);
        after = λ {b} {passed} p earlier i later e v m.
            stands p v (results_of (earlier ++ (i ∷ [])))
            (uses-after (defined b ++ (block_at f b).parameters) earlier i later (of-file b earlier i later e) v m);
      }
