-- Which values are spilled: exactly those that are live across a safepoint of a reachable block. They are marked values of
-- the file.
use Rattle.std.specs.Prelude.{ℕ, ◌<◌, ◌≡◌, refl, Bool, true, false, cond, T, ltb}
use Rattle.std.proofs.Common.{arith, sym, ◌∙◌, ltb→lt, nltb→le}
use Rattle.std.proofs.Math.Path.{ap, subst}
use Rattle.std.proofs.Math.Option.{Option, none, some}
use mathlib.Core.List.Memᴰ
use mathlib.Core.List.{List, [], ◌∷◌, ◌++◌, map}
use Rattle.std.proofs.Math.ListN.{length, get_or-eq_default}
use Rattle.rules.specs.Lists.{keep, or_else, zip_with, has, up_from, NumberSet, members}
use Rattle.rules.specs.Tree.{Instruction, Block, Function}
use Rattle.rules.specs.Graph.{block_at, is_marked, instructions_of, reachable}
use Rattle.rules.specs.Liveness.{across, before, before_all, process, lists_among, lists_of, listed_instructions, lists, is_spilled}
use Rattle.lists.specs.Tests.{test-elim, if-elim, chosen, or_right}
use Rattle.lists.specs.Sets.{Within}
use Rattle.lists.specs.Members.{◌∈◌, here, there, not-∈-nil, ∈-elim, ∈-concat_map, ∈-concat_map-from, has→∈, ∈→has}
use Rattle.fixpoint.specs.Finding.{any-intro, any-elim, ∈-keep, keep-passes, ∈-up_from}
use Rattle.fixpoint.specs.Rule.{before_all-marked, marked-in-file}
use Rattle.fixpoint.specs.Least.{live-out-marked}
use Rattle.fixpoint.specs.Answer.{process-outs-live}

-- v is live across the safepoint that stands between these instructions, from what is live behind them
pub record Across (f : Function) (is : List Instruction) (out : NumberSet) (v : ℕ) : Type 0 where
  pub earlier : List Instruction
  pub safepoint : Instruction
  pub later : List Instruction
  pub stands : is ≡ earlier ++ (safepoint ∷ later)
  pub is-safepoint : T safepoint.safepoint
  pub live : T (across f safepoint (before_all f later out) v)

-- v is live across a safepoint of block b
abbrev pub AcrossIn : Function → ℕ → ℕ → Type 0
AcrossIn f b v = Across f (instructions_of (block_at f b)) ((process f).outs b) v

module _ (f : Function) where
  -- what is live at a point of a reachable block is marked,
  pub live-marked :
      {b : ℕ} → b ∈ reachable f → (later : List Instruction) → Within (before_all f later ((process f).outs b)) (is_marked f)
  live-marked {b} m later =
      before_all-marked f later ((process f).outs b) (λ v t. live-out-marked f ((process-outs-live f m v).0 t))

  -- and a value of the file.
  pub live-in-file :
      {b : ℕ} → b ∈ reachable f → (later : List Instruction) {v : ℕ} → T (before_all f later ((process f).outs b) v)
      → v < length f.values
  live-in-file m later {v} t = marked-in-file f v (live-marked m later v t)

  -- what is live across an instruction is live before it
  pub across-before :
      (i : Instruction) (after : NumberSet) (v : ℕ) → T (across f i after v) → T (before f i after v)
  across-before i after v t = or_right (has v (keep (is_marked f) i.arguments)) (across f i after v) t

  -- the lists of a block's instructions tell which safepoint has v,
  listed-across :
      (is : List Instruction) (out : NumberSet) {l : Option (List ℕ)} {v : ℕ} → l ∈ lists_among f is out → T (has v (or_else [] l))
      → Across f is out v
  listed-across [] out m t = absurd (not-∈-nil m)
  listed-across (i ∷ is) out {l} {v} m t =
      ∈-elim (λ e. first i.safepoint refl (subst (λ (x : Option (List ℕ)). T (has v (or_else [] x))) e t))
      (λ k. further (listed-across is out k t))
      m
    where
      live-across : NumberSet
      live-across = across f i (before_all f is out)

      first :
          (s : Bool) → i.safepoint ≡ s → T (has v (or_else [] (cond s (some (members (length f.values) live-across)) none)))
          → Across f (i ∷ is) out v
      first false e h = absurd h
      first true e h =
          record {
            earlier = [];
            safepoint = i;
            later = is;
            stands = refl;
            is-safepoint = subst T (sym e) tt;
            live = keep-passes live-across (up_from 0 (length f.values)) (has→∈ (members (length f.values) live-across) h);
          }

      further : Across f is out v → Across f (i ∷ is) out v
      further a =
          record {
            earlier = i ∷ a.earlier;
            safepoint = a.safepoint;
            later = a.later;
            stands = ap (λ js. i ∷ js) a.stands;
            is-safepoint = a.is-safepoint;
            live = a.live;
          }

  -- and that safepoint's list is among them.
  across-listed :
      (earlier : List Instruction) (i : Instruction) (later : List Instruction) (out : NumberSet) {v : ℕ} → T i.safepoint
      → v < length f.values → T (across f i (before_all f later out) v)
      → (l : Option (List ℕ)) × (l ∈ lists_among f (earlier ++ (i ∷ later)) out) × T (has v (or_else [] l))
  across-listed [] i later out {v} s low t =
      let live-across = across f i (before_all f later out) in
      let list = members (length f.values) live-across in (
        some list,
        here (sym (chosen-some i.safepoint list s)),
        ∈→has (∈-keep live-across (∈-up_from 0 (length f.values) v (omega arith) (omega (arith, low))) t),
      )
    where
      chosen-some : (s : Bool) (list : List ℕ) → T s → cond s (some list) none ≡ some list
      chosen-some true list h = refl
      chosen-some false list h = absurd h
  across-listed (j ∷ earlier) i later out s low t =
      let r = across-listed earlier i later out s low t in (r.0, there r.1, r.2)

  -- no list is where none is made
  none-listed : (v : ℕ) (is : List Instruction) {l : Option (List ℕ)} → l ∈ map (λ _. none) is → T (has v (or_else [] l)) → ⊥
  none-listed v [] m t = not-∈-nil m
  none-listed v (i ∷ is) {l} m t =
      ∈-elim (λ e. subst (λ (x : Option (List ℕ)). T (has v (or_else [] x))) e t) (λ k. none-listed v is k t) m

  -- A SPILLED VALUE is live across a safepoint of a reachable block,
  pub spilled-across :
      {v : ℕ} → T (is_spilled f v)
      → (b : ℕ) × (b ∈ reachable f) × AcrossIn f b v
  unfolding is_spilled lists_of
  spilled-across {v} spilled =
      let on = any-elim (λ l. has v (or_else [] l)) (lists f) spilled in
      let of = ∈-concat_map-from (lists_of f) (up_from 0 (length f.blocks)) on.1 in
      let b = of.0 in
      let is = instructions_of (block_at f b) in
      if-elim
      (λ (ls : List (Option (List ℕ))). on.0 ∈ ls → (c : ℕ) × (c ∈ reachable f) × AcrossIn f c v)
      (has b (reachable f)) (lists_among f is ((process f).outs b)) (map (λ _. none) is)
      (λ reached m. (b, has→∈ (reachable f) reached, listed-across is ((process f).outs b) m on.2))
      (λ _ m. absurd (none-listed v is m on.2))
      of.2

  -- a block with an instruction is in the file
  inhabited-in-file :
      (b : ℕ) (earlier : List Instruction) (i : Instruction) (later : List Instruction)
      → instructions_of (block_at f b) ≡ earlier ++ (i ∷ later) → b < length f.blocks
  inhabited-in-file b earlier i later stands =
      test-elim (ltb b (length f.blocks)) (ltb→lt b (length f.blocks))
      (λ n.
      let none : Block = record { cold = false; number = 0; parameters = []; items = [] } in
      let outside = get_or-eq_default f.blocks none (nltb→le b (length f.blocks) n) in
      let no-instructions = sym stands ∙ ap (λ (x : Block). instructions_of x) outside in
      absurd (not-∈-nil (subst (λ is. i ∈ is) no-instructions (Memᴰ.append_right earlier (here refl)))))

  -- and what is live across one is spilled.
  pub across-spilled :
      {b : ℕ} (v : ℕ) → b ∈ reachable f → (earlier : List Instruction) (i : Instruction) (later : List Instruction)
      → instructions_of (block_at f b) ≡ earlier ++ (i ∷ later) → T i.safepoint
      → T (across f i (before_all f later ((process f).outs b)) v) → T (is_spilled f v)
  unfolding is_spilled lists_of
  across-spilled {b} v m earlier i later stands s t =
      let out = (process f).outs b in
      let low : v < length f.values = live-in-file m (i ∷ later) (across-before i (before_all f later out) v t) in
      let listed = across-listed earlier i later out s low t in
      let is = instructions_of (block_at f b) in
      let own : lists_of f b ≡ lists_among f is out =
      chosen (has b (reachable f)) (lists_among f is out) (map (λ _. none) is) (∈→has m) in
      let in-block : listed.0 ∈ lists_of f b =
      subst (λ (ls : List (Option (List ℕ))). listed.0 ∈ ls) (sym own)
      (subst (λ js. listed.0 ∈ lists_among f js out) (sym stands) listed.1) in
      let low-block : b < length f.blocks = inhabited-in-file b earlier i later stands in
      any-intro (λ l. has v (or_else [] l))
      (∈-concat_map (lists_of f) (∈-up_from 0 (length f.blocks) b (omega arith) (omega (arith, low-block))) in-block)
      listed.2

  -- So it is marked.
  pub spilled-marked : (v : ℕ) → T (is_spilled f v) → T (is_marked f v)
  spilled-marked v spilled =
      let r = spilled-across spilled in
      let a = r.2 in
      live-marked r.1 (a.safepoint ∷ a.later) v
      (across-before a.safepoint (before_all f a.later ((process f).outs r.0)) v a.live)

  -- A reachable block's instructions, each with what is live across it.
  pub listed_instructions-reachable :
      {b : ℕ} → b ∈ reachable f
      → listed_instructions f b
      ≡ zip_with (λ i l. (i, l)) (instructions_of (block_at f b)) (lists_among f (instructions_of (block_at f b)) ((process f).outs b))
  unfolding lists_of
  listed_instructions-reachable {b} m =
      let is = instructions_of (block_at f b) in
      ap (zip_with (λ i l. (i, l)) is)
      (chosen (has b (reachable f)) (lists_among f is ((process f).outs b)) (map (λ _. none) is) (∈→has m))
