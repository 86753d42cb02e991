-- When planning comes to a definition: what is live behind it, and its own value if it is spilled, hold their slots. What is
-- live is not yet freed, for its definition dominates this point; a spilled value has been given a slot, for its definition
-- dominates a safepoint that lists it.
use Rattle.std.specs.Prelude.{ℕ, ◌≤◌, ◌≡◌, refl, ◌⊎◌, ◌≢◌, T, eqb}
use native.Mathlib.Omega.{arith}
use Rattle.std.proofs.Common.{sym, subst, ◌∙◌, ⊎_elim, eqb→eq}
use Rattle.std.proofs.Math.Path.{ap}
use mathlib.Core.List.{List, [], ◌∷◌, ◌++◌, append_assoc, tail-eq_of_cons-eq}
use mathlib.Core.List.Memᴰ
use Rattle.rules.specs.Lists.{concat_map}
use Rattle.rules.specs.Tree.{Instruction, Function}
use Rattle.rules.specs.Graph.{block_at, instructions_of, reachable}
use Rattle.rules.specs.Liveness.{before_all, process, is_spilled}
use Rattle.rules.specs.Refusals.{numbers_in_file, defined_once}
use Rattle.rules.specs.Demand3.{results_of, defined_in, Dominated}
use Rattle.lists.specs.Tests.{test-elim, neqb→ne}
use Rattle.lists.specs.Splits.{ends-compare}
use Rattle.lists.specs.Counts.{count-append}
use Rattle.lists.specs.Members.{◌∈◌, here, ∈-concat_map}
use Rattle.walks.specs.Paths.{StrictlyDominates, strictly-dominates}
use Rattle.walks.specs.Reachable.{reachable-nodup, strict-dominator-ne, dominator-not-before}
use Rattle.sharing.specs.SlotSteps.{gives, is_free_of, freed, out_steps, block_steps, slot_steps}
use Rattle.sharing.specs.Once.{earlier-defined, later-defined, same_block, others-define-none, blocks-define-once}
use Rattle.sharing.specs.Once.{later-define-none, ∈→count, not-∈→count}
use Rattle.sharing.specs.Spilled.{AcrossIn, across-before, spilled-across}
use Rattle.sharing.specs.Turns.{Turn, turn-reachable, turn-new, dominated-planned, live-definer}
use Rattle.sharing.specs.Points.{behind_steps, behind_steps-more, point_steps, block_steps-lead, point_steps-lead, live-given}
use Rattle.sharing.specs.Freeing.{blocks-free, point-frees}

module _ (f : Function) (once : T (defined_once f)) (in-file : T (numbers_in_file f)) where
  -- When it is the turn of b, and planning comes to a point in it:
  module _
      {b : ℕ} (at : Turn f b) (earlier later : List Instruction) (split : instructions_of (block_at f b) ≡ earlier ++ later)
    where
      -- no value has been freed twice,
      pub freed-once : (v : ℕ) → freed v (point_steps f at.planned b later) ≤ 1
      unfolding slot_steps
      freed-once v =
          let r = point_steps-lead f at.planned at.behind at.turn (turn-reachable at) earlier later split in
          let counted : freed v (slot_steps f) ≡ freed v (point_steps f at.planned b later ++ r.0) = ap (freed v) r.1 in
          omega (
            arith,
            counted,
            count-append (is_free_of v) (point_steps f at.planned b later) r.0,
            blocks-free f v (reachable f),
            blocks-define-once f once in-file v (reachable f) (reachable-nodup f),
          )

      -- none that is defined before the point in its block has been freed,
      pub defined-unfreed :
          {v : ℕ} → v ∈ (block_at f b).parameters ++ results_of earlier → freed v (point_steps f at.planned b later) ≡ 0
      defined-unfreed {v} m =
          omega (
            arith,
            point-frees f v at.planned b later,
            others-define-none f once in-file (earlier-defined f b earlier later split m) at.planned (turn-new at),
            later-define-none f once in-file b earlier later split m,
          )

      -- and none that is live at it.
      pub live-unfreed :
          Dominated f → (u : ℕ) → T (before_all f later ((process f).outs b) u) → freed u (point_steps f at.planned b later) ≡ 0
      live-unfreed dominated u t =
          ⊎_elim defined-unfreed
          (λ r.
          let strict = r.1 in
          omega (
            arith,
            point-frees f u at.planned b later,
            others-define-none f once in-file r.2 at.planned
                (λ k. dominator-not-before f at.planned at.behind at.turn k (strictly-dominates strict)),
            not-∈→count (results_of later)
                (λ k.
                strict-dominator-ne f (turn-reachable at) strict
                (same_block f once in-file r.2 (later-defined f b earlier later split k))),
          ))
          (live-definer f once in-file dominated (turn-reachable at) earlier later split t)

      -- A spilled value that the block defines has been given a slot, if those safepoints of the block that list it are
      -- behind the point: another block that lists it has been planned before.
      spilled-given :
          Dominated f → (v : ℕ) → T (is_spilled f v) → v ∈ defined_in f b
          → ((a : AcrossIn f b v) → v ∈ (block_at f b).parameters ++ results_of a.earlier
          → (ms : List Instruction) × (later ≡ ms ++ (a.safepoint ∷ a.later)))
          → gives v ∈ point_steps f at.planned b later
      spilled-given dominated v spilled own follows =
          let r = spilled-across f spilled in
          test-elim (eqb r.0 b)
          (λ e.
          here-given
          (subst (λ x. AcrossIn f x v) (eqb→eq r.0 b e) r.2))
          (λ n. elsewhere r.0 (neqb→ne r.0 b n) r.1 r.2)
        where
          before-safepoint :
              (c : ℕ) (a : AcrossIn f c v)
              → T (before_all f (a.safepoint ∷ a.later) ((process f).outs c) v)
          before-safepoint c a = across-before f a.safepoint (before_all f a.later ((process f).outs c)) v a.live

          here-given : AcrossIn f b v → gives v ∈ point_steps f at.planned b later
          here-given a =
              let out = (process f).outs b in
              let end = a.safepoint ∷ a.later in
              let m = turn-reachable at in
              Memᴰ.append_right (concat_map (block_steps f) at.planned)
              (⊎_elim
              (λ k.
              let r = follows a k in
              ⊎_elim (Memᴰ.append_left (behind_steps f later out))
              (λ j.
              Memᴰ.append_right (out_steps f out)
              (subst (λ is. gives v ∈ behind_steps f is out) (sym r.1) (behind_steps-more f r.0 end out j)))
              (Memᴰ.append_cases (out_steps f out) (live-given f v spilled m end (before-safepoint b a))))
              (λ d. absurd (strict-dominator-ne f m d.1 (same_block f once in-file d.2 own)))
              (live-definer f once in-file dominated m a.earlier end a.stands (before-safepoint b a)))

          elsewhere :
              (c : ℕ) → c ≢ b → c ∈ reachable f → AcrossIn f c v
              → gives v ∈ point_steps f at.planned b later
          elsewhere c other m a =
              let out = (process f).outs c in
              let end = a.safepoint ∷ a.later in
              let lead = block_steps-lead f m a.earlier end a.stands in
              Memᴰ.append_left (out_steps f ((process f).outs b) ++ behind_steps f later ((process f).outs b))
              (⊎_elim
              (λ k. absurd (other (same_block f once in-file (earlier-defined f c a.earlier end a.stands k) own)))
              (λ d.
              ∈-concat_map (block_steps f)
              (dominated-planned at (subst (λ x. StrictlyDominates f x c) (same_block f once in-file d.2 own) d.1) m)
              (subst (λ ss. gives v ∈ ss) (sym lead.1)
              (Memᴰ.append_left lead.0 (live-given f v spilled m end (before-safepoint c a)))))
              (live-definer f once in-file dominated m a.earlier end a.stands (before-safepoint c a)))

  -- So when planning comes to a definition, its value has a slot if it is spilled: a parameter
  pub parameter-given :
      Dominated f → {b : ℕ} (at : Turn f b) (v : ℕ) → T (is_spilled f v) → v ∈ (block_at f b).parameters
      → gives v ∈ point_steps f at.planned b (instructions_of (block_at f b))
  parameter-given dominated {b} at v spilled m =
      spilled-given at [] (instructions_of (block_at f b)) refl dominated v spilled
      (Memᴰ.append_left (results_of (instructions_of (block_at f b))) m) (λ a _. (a.earlier, a.stands))

  -- or a result.
  pub result-given :
      Dominated f → {b : ℕ} (at : Turn f b) (earlier : List Instruction) (i : Instruction) (later : List Instruction)
      → instructions_of (block_at f b) ≡ earlier ++ (i ∷ later) → (v : ℕ) → T (is_spilled f v) → v ∈ i.results
      → gives v ∈ point_steps f at.planned b later
  result-given dominated {b} at earlier i later split v spilled m =
      spilled-given at (earlier ++ (i ∷ [])) later (split ∙ sym (append_assoc earlier (i ∷ []) later)) dominated v spilled
      own follows
    where
      ps : List ℕ
      ps = (block_at f b).parameters

      own : v ∈ defined_in f b
      own =
          Memᴰ.append_right ps
          (subst (λ is. v ∈ results_of is) (sym split) (∈-concat_map (λ j. j.results) (Memᴰ.append_right earlier (here refl)) m))

      -- the safepoint is none of those before the definition: they are not dominated by it
      follows :
          (a : AcrossIn f b v) → v ∈ ps ++ results_of a.earlier
          → (ms : List Instruction) × (later ≡ ms ++ (a.safepoint ∷ a.later))
      follows a k = ⊎_elim (λ r. shorter r.0 r.1) (λ r. absurd (longer r.0 r.1)) compared
        where
          end : List Instruction
          end = a.safepoint ∷ a.later

          compared : ((ms : List Instruction) × (i ∷ later ≡ ms ++ end)) ⊎ ((ms : List Instruction) × (ms ++ (i ∷ later) ≡ end))
          compared = ends-compare earlier (i ∷ later) a.earlier end (sym split ∙ a.stands)

          longer : (ms : List Instruction) → ms ++ (i ∷ later) ≡ end → ⊥
          longer ms e =
              omega (
                arith,
                later-define-none f once in-file b a.earlier end a.stands k,
                ∈→count (subst (λ is. v ∈ results_of is) e (∈-concat_map (λ j. j.results) (Memᴰ.append_right ms (here refl)) m)),
              )

          shorter : (ms : List Instruction) → i ∷ later ≡ ms ++ end → (ns : List Instruction) × (later ≡ ns ++ end)
          shorter [] e = absurd (longer [] e)
          shorter (_ ∷ ns) e = (ns, tail-eq_of_cons-eq e)
