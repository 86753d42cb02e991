-- What is live is defined: where every use is dominated by its definition, so is every point at which a value is live. On
-- every path to the point the definition has been passed.
use Rattle.std.specs.Prelude.{ℕ, ◌≡◌, refl, ◌⊎◌, not, ◌&&◌, ◌||◌, List, [], ◌∷◌, ◌++◌, T}
use Rattle.std.proofs.Common.{ap, subst, ◌∙◌, sym, inl, inr, ⊎_elim, append_assoc, T_not}
use mathlib.Core.List.Memᴰ
use Rattle.rules.specs.Lists.{keep, concat_map, has, NumberSet}
use Rattle.rules.specs.Tree.{Instruction, Function}
use Rattle.rules.specs.Graph.{block_at, is_marked, instructions_of, values_passed}
use Rattle.rules.specs.Liveness.{before_all, through, LiveOut, LiveIn, successor, rule, process}
use Rattle.rules.specs.Demand3.{PathTo, onward, results_of, defined_in, Dominated}
use Rattle.lists.specs.Tests.{and_left, and_right, or_elim}
use Rattle.lists.specs.Maps.{concat_map-append}
use Rattle.lists.specs.Members.{◌∈◌, not-∈-nil, has→∈, ∈→has}
use Rattle.walks.specs.Reachable.{path→reachable}
use Rattle.fixpoint.specs.Finding.{keep-∈}
use Rattle.fixpoint.specs.Answer.{process-ins-live, process-outs-live}

-- a result of two lists of instructions is one of the first or of the second
pub results-cases : {v : ℕ} (is js : List Instruction) → v ∈ results_of (is ++ js) → (v ∈ results_of is) ⊎ (v ∈ results_of js)
results-cases {v} is js m =
    Memᴰ.append_cases (results_of is) (subst (λ l. v ∈ l) (concat_map-append (λ i. i.results) is js) m)

-- an instruction of a list uses v, as an argument or behind its results by an edge, and none before it defines v
pub record FirstUse (is : List Instruction) (v : ℕ) : Type 0 where
  pub earlier : List Instruction
  pub user : Instruction
  pub later : List Instruction
  pub stands : is ≡ earlier ++ (user ∷ later)
  pub undefined : v ∈ results_of earlier → ⊥
  pub used : (v ∈ user.arguments) ⊎ ((v ∈ user.results → ⊥) × (v ∈ values_passed user))

-- the test for a result failed
not-result : {v : ℕ} {vs : List ℕ} → T (not (has v vs)) → v ∈ vs → ⊥
not-result {v} {vs} n m = T_not (has v vs) n (∈→has m)

-- What is live before a list of instructions is used there before it is defined, or is live behind them and not defined.
pub live-before :
    (f : Function) (is : List Instruction) (out : NumberSet) {v : ℕ} → T (before_all f is out v)
    → FirstUse is v ⊎ (T (out v) × (v ∈ results_of is → ⊥))
live-before f [] out t = inr (t, not-∈-nil)
live-before f (i ∷ is) out {v} t =
    let argument = has v (keep (is_marked f) i.arguments) in
    let passed = has v (keep (is_marked f) (values_passed i)) in
    let stays = not (has v i.results) in
    let behind = before_all f is out v in
    or_elim argument (stays && (passed || behind))
    (λ a. inl (at_head (inl (keep-∈ (is_marked f) i.arguments (has→∈ (keep (is_marked f) i.arguments) a)))))
    (λ b.
    let unnamed : v ∈ i.results → ⊥ = not-result (and_left stays (passed || behind) b) in
    or_elim passed behind
    (λ q. inl (at_head (inr (unnamed, keep-∈ (is_marked f) (values_passed i) (has→∈ (keep (is_marked f) (values_passed i)) q)))))
    (λ q. ⊎_elim (λ u. inl (behind-head unnamed u)) (λ o. inr (o.0, neither is unnamed o.1)) (live-before f is out q))
    (and_right stays (passed || behind) b))
    t
  where
    at_head : (v ∈ i.arguments) ⊎ ((v ∈ i.results → ⊥) × (v ∈ values_passed i)) → FirstUse (i ∷ is) v
    at_head u = record { earlier = []; user = i; later = is; stands = refl; undefined = not-∈-nil; used = u }

    neither : (js : List Instruction) → (v ∈ i.results → ⊥) → (v ∈ results_of js → ⊥) → v ∈ results_of (i ∷ js) → ⊥
    neither js n k m = ⊎_elim n k (Memᴰ.append_cases i.results m)

    behind-head : (v ∈ i.results → ⊥) → FirstUse is v → FirstUse (i ∷ is) v
    behind-head n u =
        record {
          earlier = i ∷ u.earlier;
          user = u.user;
          later = u.later;
          stands = ap (λ js. i ∷ js) u.stands;
          undefined = neither u.earlier n u.undefined;
          used = u.used;
        }

-- the definitions on a path to block b, and in it by parameters and these instructions
abbrev passed_by : Function → ℕ → List ℕ → List Instruction → List ℕ
passed_by f b passed earlier = concat_map (defined_in f) passed ++ ((block_at f b).parameters ++ results_of earlier)

module _ {f : Function} (dominated : Dominated f) where
  -- a definition that is not in the later ones of a block's instructions is before them
  fewer :
      {b v : ℕ} {passed : List ℕ} → PathTo f b passed → (is js : List Instruction) → (v ∈ results_of js → ⊥)
      → v ∈ passed_by f b passed (is ++ js) → v ∈ passed_by f b passed is
  fewer {b} {v} {passed} p is js n m =
      ⊎_elim (Memᴰ.append_left ((block_at f b).parameters ++ results_of is))
      (λ k.
      Memᴰ.append_right (concat_map (defined_in f) passed)
      (⊎_elim (Memᴰ.append_left (results_of is))
      (λ r.
      Memᴰ.append_right (block_at f b).parameters (⊎_elim (λ j. j) (λ j. absurd (n j)) (results-cases is js r)))
      (Memᴰ.append_cases (block_at f b).parameters k)))
      (Memᴰ.append_cases (concat_map (defined_in f) passed) m)

  -- A first use behind some instructions of a block: the definition is before them.
  use-dominated :
      {b v : ℕ} {passed : List ℕ} (front is : List Instruction) → instructions_of (block_at f b) ≡ front ++ is
      → FirstUse is v → PathTo f b passed → v ∈ passed_by f b passed front
  use-dominated {b} {v} {passed} front is split u p =
      ⊎_elim
      (λ m.
      fewer p front u.earlier u.undefined
      (dominated.before p (front ++ u.earlier) u.user u.later place v (Memᴰ.append_left u.user.contexts m)))
      (λ k.
      fewer p front u.earlier u.undefined
      (fewer p (front ++ u.earlier) (u.user ∷ []) (λ m. ⊎_elim k.0 not-∈-nil (Memᴰ.append_cases u.user.results m))
      (dominated.after p (front ++ u.earlier) u.user u.later place v k.1)))
      u.used
    where
      place : instructions_of (block_at f b) ≡ (front ++ u.earlier) ++ (u.user ∷ u.later)
      place = split ∙ ap (λ js. front ++ js) u.stands ∙ sym (append_assoc front u.earlier (u.user ∷ u.later))

  -- What is live before the later instructions of a block, from values of which this holds at the block's end.
  point-dominated :
      {b v : ℕ} {passed : List ℕ} (earlier later : List Instruction) → instructions_of (block_at f b) ≡ earlier ++ later
      → (out : NumberSet) → ((w : ℕ) → T (out w) → w ∈ concat_map (defined_in f) (b ∷ passed)) → PathTo f b passed
      → T (before_all f later out v) → v ∈ passed_by f b passed earlier
  point-dominated {b} {v} {passed} earlier later split out ended p t =
      ⊎_elim (λ u. use-dominated earlier later split u p)
      (λ o.
      let all : v ∈ defined_in f b ++ concat_map (defined_in f) passed = ended v o.0 in
      fewer p earlier later o.1
      (⊎_elim
      (λ m.
      Memᴰ.append_right (concat_map (defined_in f) passed)
      (subst (λ is. v ∈ (block_at f b).parameters ++ results_of is) split m))
      (Memᴰ.append_left ((block_at f b).parameters ++ results_of (earlier ++ later)))
      (Memᴰ.append_cases (defined_in f b) all)))
      (live-before f later out t)

  -- at the start of a block
  start-dominated :
      {b v : ℕ} {passed : List ℕ} (out : NumberSet) → ((w : ℕ) → T (out w) → w ∈ concat_map (defined_in f) (b ∷ passed))
      → PathTo f b passed → T (through f b out v) → v ∈ concat_map (defined_in f) passed
  start-dominated {b} {v} {passed} out ended p t =
      let parameters = (block_at f b).parameters in
      let stays = not (has v parameters) in
      let before = before_all f (instructions_of (block_at f b)) out v in
      ⊎_elim (λ m. m)
      (λ m.
      ⊎_elim (λ k. absurd (not-result {vs = parameters} (and_left stays before t) k)) (λ k. absurd (not-∈-nil k))
      (Memᴰ.append_cases parameters m))
      (Memᴰ.append_cases (concat_map (defined_in f) passed)
      (point-dominated [] (instructions_of (block_at f b)) refl out ended p (and_right stays before t)))

  abbrev OutDefined : (b v : ℕ) → LiveOut f b v → Type 0
  OutDefined b v _ = (passed : List ℕ) → PathTo f b passed → v ∈ concat_map (defined_in f) (b ∷ passed)

  abbrev InDefined : (b v : ℕ) → LiveIn f b v → Type 0
  InDefined b v _ = (passed : List ℕ) → PathTo f b passed → v ∈ concat_map (defined_in f) passed

  -- WHAT IS LIVE OUT of a block is defined in it or on the path to it,
  pub live-out-dominated :
      {b v : ℕ} → LiveOut f b v → {passed : List ℕ} → PathTo f b passed → v ∈ concat_map (defined_in f) (b ∷ passed)
  live-out-dominated {b} {v} live {passed} p = go passed p
    where
      go : OutDefined b v live
      go =
          elim live as OutDefined InDefined [
            | successor {b} {t} {v} edge (_ → defined) ↦ λ passed p. defined (b ∷ passed) (onward p edge)
            | rule {b} {v} out (_ → defined) t ↦ λ passed p. start-dominated out (λ w k. defined w k passed p) p t
          ]

  -- what is live into a block is defined on the path to it,
  pub live-in-dominated :
      {b v : ℕ} → LiveIn f b v → {passed : List ℕ} → PathTo f b passed → v ∈ concat_map (defined_in f) passed
  live-in-dominated (rule out live t) p = start-dominated out (λ w k. live-out-dominated (live w k) p) p t

  -- AND AT A POINT in a block, what is live before its later instructions is defined on the path, by a parameter, or by
  -- an earlier instruction.
  pub live-dominated :
      {b v : ℕ} {passed : List ℕ} (earlier later : List Instruction) → instructions_of (block_at f b) ≡ earlier ++ later
      → PathTo f b passed → T (before_all f later ((process f).outs b) v)
      → v ∈ concat_map (defined_in f) passed ++ ((block_at f b).parameters ++ results_of earlier)
  live-dominated {b} earlier later split p t =
      point-dominated earlier later split ((process f).outs b)
      (λ w k. live-out-dominated ((process-outs-live f (path→reachable f p) w).0 k) p) p t

  -- So is what the process leaves as live into a block.
  pub ins-dominated :
      {b v : ℕ} {passed : List ℕ} → PathTo f b passed → T ((process f).ins b v) → v ∈ concat_map (defined_in f) passed
  ins-dominated {v = v} p t = live-in-dominated ((process-ins-live f (path→reachable f p) v).0 t) p
