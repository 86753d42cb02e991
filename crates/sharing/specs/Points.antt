-- The steps that planning has taken when it comes to a point of a block from behind: those of the blocks before it by index,
-- the early slots for the block's live-out, and those of the instructions behind the point. They lead the whole list, and
-- they give slots to what is live at the point.
use Rattle.std.specs.Prelude.{ℕ, ◌≡◌, refl, ◌⊎◌, Bool, true, false, not, ◌||◌, cond, List, [], ◌∷◌, ◌++◌, map, length, T}
use Rattle.std.proofs.Common.{arith, subst, ◌∙◌, inl, inr, ⊎_elim, append_assoc, append-nil}
use Rattle.std.proofs.Math.Path.{sym, ap}
use Rattle.std.proofs.Math.Option.{Option, none, some, some-injective, none-ne-some}
use mathlib.Core.List.Memᴰ
use Rattle.std.proofs.Math.Dec.{not_T}
use Rattle.rules.specs.Lists.{keep, concat_map, zip_with, has, NumberSet, members}
use Rattle.rules.specs.Tree.{Edge, Instruction, Function}
use Rattle.rules.specs.Graph.{block_at, is_marked, instructions_of, values_among, values_passed, reachable}
use Rattle.rules.specs.Liveness.{across, before_all, process, lists_among, listed_instructions, is_spilled}
use Rattle.rules.specs.declared.EdgeArgument.{EdgeArgument}
use Rattle.rules.specs.declared.EdgeArgument.TheVariants as passes
use Rattle.lists.specs.Tests.{and_intro, or_left}
use Rattle.lists.specs.Maps.{concat_map-append}
use Rattle.lists.specs.Members.{◌∈◌, here, not-∈-nil, ∈-elim, ∈-concat_map, has→∈, ∈→has}
use Rattle.fixpoint.specs.Finding.{∈-keep, ∈-up_from}
use Rattle.fixpoint.specs.Rule.{marked-in-file}
use Rattle.sharing.specs.SlotSteps.{SlotStep, gives, last_first, definition_steps, use_steps, edge_use_steps}
use Rattle.sharing.specs.SlotSteps.{edge_steps, safepoint_edge_steps, instruction_steps, out_steps, block_steps, slot_steps}
use Rattle.sharing.specs.LiveDominated.{FirstUse, live-before}
use Rattle.sharing.specs.Spilled.{spilled-marked, live-in-file, listed_instructions-reachable}

-- each instruction with its list
abbrev pub listed : Function → List Instruction → NumberSet → List (Instruction × Option (List ℕ))
listed f is out = zip_with (λ i l. (i, l)) is (lists_among f is out)

-- the steps of instructions behind which this is live, the last one first
abbrev pub behind_steps : Function → List Instruction → NumberSet → List SlotStep
behind_steps f later out = last_first (instruction_steps f) (listed f later out)

-- the steps up to the point before these instructions of block b, when these blocks have been planned before it
abbrev pub point_steps : Function → List ℕ → ℕ → List Instruction → List SlotStep
point_steps f planned b later =
    concat_map (block_steps f) planned ++ (out_steps f ((process f).outs b) ++ behind_steps f later ((process f).outs b))

-- THEY LEAD. Instructions behind others are planned first,
behind_steps-lead :
    (f : Function) (earlier later : List Instruction) (out : NumberSet)
    → (rest : List SlotStep) × (behind_steps f (earlier ++ later) out ≡ behind_steps f later out ++ rest)
behind_steps-lead f [] later out = ([], sym (append-nil (behind_steps f later out)))
behind_steps-lead f (i ∷ earlier) later out =
    let r = behind_steps-lead f earlier later out in
    let list = members (length f.values) (across f i (before_all f (earlier ++ later) out)) in
    let own = instruction_steps f (i, cond i.safepoint (some list) none) in
    (r.0 ++ own, ap (λ ss. ss ++ own) r.1 ∙ append_assoc (behind_steps f later out) r.0 own)

-- so their steps are among those of more instructions.
pub behind_steps-more :
    (f : Function) (earlier later : List Instruction) (out : NumberSet) {s : SlotStep} → s ∈ behind_steps f later out
    → s ∈ behind_steps f (earlier ++ later) out
behind_steps-more f earlier later out {s} m =
    let r = behind_steps-lead f earlier later out in
    subst (λ ss. s ∈ ss) (sym r.1) (Memᴰ.append_left r.0 m)

module _ (f : Function) where
  -- The steps of a reachable block are those of its points and more,
  pub block_steps-lead :
      {b : ℕ} → b ∈ reachable f → (earlier later : List Instruction) → instructions_of (block_at f b) ≡ earlier ++ later
      → (rest : List SlotStep)
      × (block_steps f b ≡ (out_steps f ((process f).outs b) ++ behind_steps f later ((process f).outs b)) ++ rest)
  block_steps-lead {b} m earlier later split =
      let out = (process f).outs b in
      let r = behind_steps-lead f earlier later out in
      let own = concat_map (definition_steps f) (block_at f b).parameters in
      let all : last_first (instruction_steps f) (listed_instructions f b) ≡ behind_steps f later out ++ r.0 =
      ap (last_first (instruction_steps f)) (listed_instructions-reachable f m) ∙ ap (λ is. behind_steps f is out) split ∙ r.1 in (
        r.0 ++ own,
        ap (λ ss. out_steps f out ++ (ss ++ own)) all
            ∙ ap (λ ss. out_steps f out ++ ss) (append_assoc (behind_steps f later out) r.0 own)
            ∙ sym (append_assoc (out_steps f out) (behind_steps f later out) (r.0 ++ own)),
      )

  -- and so the steps up to a point lead the whole list.
  pub point_steps-lead :
      {b : ℕ} (planned behind : List ℕ) → reachable f ≡ planned ++ (b ∷ behind) → b ∈ reachable f
      → (earlier later : List Instruction) → instructions_of (block_at f b) ≡ earlier ++ later
      → (rest : List SlotStep) × (slot_steps f ≡ point_steps f planned b later ++ rest)
  unfolding slot_steps
  point_steps-lead {b} planned behind turn m earlier later split =
      let r = block_steps-lead m earlier later split in
      let before = concat_map (block_steps f) planned in
      let inside = out_steps f ((process f).outs b) ++ behind_steps f later ((process f).outs b) in
      let after = concat_map (block_steps f) behind in (
        r.0 ++ after,
        ap (concat_map (block_steps f)) turn
            ∙ concat_map-append (block_steps f) planned (b ∷ behind)
            ∙ ap (λ ss. before ++ (ss ++ after)) r.1
            ∙ ap (λ ss. before ++ ss) (append_assoc inside r.0 after)
            ∙ sym (append_assoc before inside (r.0 ++ after)),
      )

-- WHAT THEY GIVE.
module _ (f : Function) (v : ℕ) (spilled : T (is_spilled f v)) where
  -- A spilled use gives a slot,
  use-gives : gives v ∈ use_steps f v
  use-gives = go (is_spilled f v) spilled
    where
      go : (s : Bool) → T s → gives v ∈ cond s (gives v ∷ []) []
      go true t = here refl
      go false t = absurd t

  passed-gives : (xs : List EdgeArgument) → v ∈ values_among xs → gives v ∈ concat_map (edge_use_steps f) xs
  passed-gives [] m = absurd (not-∈-nil m)
  passed-gives (passes.Value w ∷ xs) m =
      ∈-elim (λ e. Memᴰ.append_left (concat_map (edge_use_steps f) xs) (subst (λ x. gives v ∈ use_steps f x) e use-gives))
      (λ k. Memᴰ.append_right (use_steps f w) (passed-gives xs k))
      m
  passed-gives (passes.Returned _ ∷ xs) m = passed-gives xs m
  passed-gives (passes.Exception _ ∷ xs) m = passed-gives xs m

  edges-give : (es : List Edge) → v ∈ concat_map (λ e. values_among e.arguments) es → gives v ∈ concat_map (edge_steps f) es
  edges-give [] m = absurd (not-∈-nil m)
  edges-give (e ∷ es) m =
      ⊎_elim (λ k. Memᴰ.append_left (concat_map (edge_steps f) es) (passed-gives e.arguments k))
      (λ k. Memᴰ.append_right (edge_steps f e) (edges-give es k))
      (Memᴰ.append_cases (values_among e.arguments) m)

  -- and so does an instruction that uses the value, if its list has what it passes,
  instruction-gives :
      (i : Instruction) (l : Option (List ℕ))
      → (v ∈ i.arguments) ⊎ ((v ∈ values_passed i) × ((list : List ℕ) → l ≡ some list → v ∈ list))
      → gives v ∈ instruction_steps f (i, l)
  instruction-gives i none u =
      Memᴰ.append_right (concat_map (definition_steps f) i.results)
      (⊎_elim (λ m. Memᴰ.append_left (concat_map (edge_steps f) i.edges) (∈-concat_map (use_steps f) m use-gives))
      (λ k. Memᴰ.append_right (concat_map (use_steps f) i.arguments) (edges-give i.edges k.0))
      u)
  instruction-gives i (some list) u =
      Memᴰ.append_right (concat_map (definition_steps f) i.results)
      (⊎_elim
      (λ m.
      Memᴰ.append_right (map gives list)
      (Memᴰ.append_right (concat_map (safepoint_edge_steps f) i.edges) (∈-concat_map (use_steps f) m use-gives)))
      (λ k.
      Memᴰ.append_left (concat_map (safepoint_edge_steps f) i.edges ++ concat_map (use_steps f) i.arguments)
      (Memᴰ.map gives (k.1 list refl)))
      u)

  -- which a safepoint's list has: it is live across it.
  passed-listed :
      (i : Instruction) (behind : NumberSet) → (v ∈ i.results → ⊥) → v ∈ values_passed i
      → v ∈ members (length f.values) (across f i behind)
  passed-listed i behind unnamed m =
      let marked : T (is_marked f v) = spilled-marked f v spilled in
      let passed = has v (keep (is_marked f) (values_passed i)) in
      ∈-keep (across f i behind) (∈-up_from 0 (length f.values) v (omega arith) (omega (arith, marked-in-file f v marked)))
      (and_intro (not (has v i.results)) (passed || behind v) (not_T (has v i.results) (λ t. unnamed (has→∈ i.results t)))
      (or_left passed (behind v) (∈→has (∈-keep (is_marked f) m marked))))

  first-use-gives : (is : List Instruction) (out : NumberSet) → FirstUse is v → gives v ∈ behind_steps f is out
  first-use-gives is out u =
      subst (λ js. gives v ∈ behind_steps f js out) (sym u.stands)
      (behind_steps-more f u.earlier (u.user ∷ u.later) out
      (Memᴰ.append_right (behind_steps f u.later out)
      (instruction-gives u.user (cond u.user.safepoint (some list) none)
      (⊎_elim inl (λ k. inr (k.1, is-list u.user.safepoint (passed-listed u.user behind k.0 k.1))) u.used))))
    where
      behind : NumberSet
      behind = before_all f u.later out

      list : List ℕ
      list = members (length f.values) (across f u.user behind)

      is-list : (s : Bool) → v ∈ list → (l : List ℕ) → cond s (some list) none ≡ some l → v ∈ l
      is-list true m l e = subst (λ x. v ∈ x) (some-injective list l e) m
      is-list false m l e = absurd (none-ne-some l e)

  -- What is live at a point of a reachable block has been given a slot.
  pub live-given :
      {b : ℕ} → b ∈ reachable f → (later : List Instruction) → T (before_all f later ((process f).outs b) v)
      → gives v ∈ out_steps f ((process f).outs b) ++ behind_steps f later ((process f).outs b)
  live-given {b} m later t =
      let out = (process f).outs b in
      let n = length f.values in
      ⊎_elim (λ u. Memᴰ.append_right (out_steps f out) (first-use-gives later out u))
      (λ o.
      Memᴰ.append_left (behind_steps f later out)
      (Memᴰ.map gives
      (∈-keep (is_spilled f)
      (∈-keep out (∈-up_from 0 n v (omega arith) (omega (arith, live-in-file f m [] o.0))) o.0) spilled)))
      (live-before f later out t)
