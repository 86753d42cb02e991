-- Over one instruction of a path: its loads, what it reads, and what holds behind it.
use Rattle.std.specs.Prelude.{ℕ, suc, ◌≡◌, Bool, true, false, not, cond, List, [], map, length, T}
use Rattle.std.proofs.Common.{arith, ap, subst, ◌∙◌, ⊎_elim, T_not}
use Rattle.std.proofs.Math.Option.{Option, none, some}
use mathlib.Core.List.Memᴰ
use Rattle.rules.specs.Lists.{any, has, is_none, or_else, members, concat_zip}
use Rattle.rules.specs.Tree.{Edge, MapEntry, Instruction, Item, Function}
use Rattle.rules.specs.Graph.{size_of, is_marked, values_among}
use Rattle.rules.specs.Liveness.{across, is_spilled}
use Rattle.rules.specs.Plan.{Made, InstructionPlan}
use Rattle.rules.specs.Rewriting.{map_entry, rewritten_instruction, slot_number}
use Rattle.rules.specs.Demand3.{Dominated}
use Rattle.rules.specs.declared.EdgeArgument.TheVariants as passes
use Rattle.lists.specs.Tests.{test-elim}
use Rattle.lists.specs.Members.{◌∈◌, not-∈-nil, ∈→has}
use Rattle.fixpoint.specs.Finding.{any-intro}
use Rattle.simulation.specs.Ghost.{word, Ghost, moving, stepping}
use Rattle.simulation.specs.Related.{Each, Paired}
use Rattle.agreement.specs.Entries.{past_all, ReadsAll, each-paired}
use Rattle.agreement.specs.Plans.{loaded, edge_loaded, loaded_before, value_limit, EdgeNumbered, InstructionNumbered}
use Rattle.agreement.specs.Items.{loads_of}
use Rattle.agreement.specs.Accepted.{Accepted}
use Rattle.agreement.specs.Layout.{∈-concat_zip-from, ∈-concat_zip, paired-first}
use Rattle.sharing.specs.Spilled.{spilled-marked}
use Rattle.agreement.specs.Spilled.{live-marked, across-listed}
use Rattle.agreement.specs.Keeping.{below-off, loads-slots, loads-other, loads-read, loads-known}
use Rattle.agreement.specs.Changing.{defining-word, moving-still}
use Rattle.agreement.specs.Operands.{arguments-among, loaded-spilled, LoadedWords, arguments-mean}
use Rattle.agreement.specs.Points.{Point, point-kept, passed-behind, behind-across, across-before, argument-before}
use Rattle.agreement.specs.Spots.{Spot, live_after, live_before, list_here, defined_here, before-marked, arguments-own, Behind}
use Rattle.agreement.specs.Spots.{stepped-behind, no-results, passed_here}

-- the loads before it, and the ghost behind them and behind itself
module _ (f : Function) (pointer : ℕ) (spot : Spot f) (n : InstructionPlan) (γ : Ghost) where
  abbrev pub loads_here : List Item
  loads_here = loads_of (size_of f) (slot_number f pointer) (loaded_before spot.at n)

  -- the instruction that stands for it
  abbrev pub rewritten_here : Instruction
  rewritten_here = rewritten_instruction (size_of f) (slot_number f pointer) spot.at (or_else [] (list_here f spot)) n

  -- behind the loads
  abbrev pub loaded_ghost : Ghost
  loaded_ghost = past_all loads_here γ

  -- behind the instruction
  abbrev pub stepped_ghost : Ghost
  stepped_ghost = stepping (is_marked f) rewritten_here loaded_ghost

module _ (f : Function) (pointer : ℕ) (accepted : Accepted f) (dominated : Dominated f) (spot : Spot f) (n : InstructionPlan)
    (numbered : InstructionNumbered f (value_limit f pointer) (spot.at, list_here f spot) n) (γ : Ghost)
    (point : Point f pointer (defined_here f spot) (live_before f spot) γ) where
  -- LOADS
  -- what is loaded is spilled and live before the instruction, so held
  argument-loaded : (l : ℕ × ℕ) → l ∈ loaded (map passes.Value spot.at.arguments) n.arguments
      → T (is_spilled f l.0) × T (live_before f spot l.0)
  argument-loaded l m =
      let xs = map passes.Value spot.at.arguments in
      let from = loaded-spilled f false numbered.first numbered.last xs n.arguments numbered.arguments l m in (
        from.1,
        argument-before f spot.at (live_after f spot) l.0 (subst (◌∈◌ l.0) (arguments-among spot.at.arguments) from.0)
            (spilled-marked f l.0 from.1),
      )

  -- so is what an edge asks to be loaded
  edge-loaded : (e : Edge) → e ∈ spot.at.edges → (landing : Option ℕ) (ns : List Made)
      → EdgeNumbered f (value_limit f pointer) (not (is_none (list_here f spot))) e (record { landing = landing; arguments = ns })
      → (l : ℕ × ℕ) → l ∈ edge_loaded e (record { landing = landing; arguments = ns })
      → T (is_spilled f l.0) × T (live_before f spot l.0)
  edge-loaded e k none ns h l m =
      let from = loaded-spilled f false h.0 h.1 e.arguments ns h.3.0 l m in
      let v = l.0 in (
        from.1,
        across-before f spot.at (live_after f spot) v
            (behind-across f spot.at (live_after f spot) v
            (passed-behind f spot.at (live_after f spot) v (passed_here f accepted spot e k v from.0) (spilled-marked f v from.1))
            (no-results f accepted spot e k v)),
      )
  edge-loaded e k (some b) ns h l m = absurd (not-∈-nil m)

  -- and so all that is loaded before it
  loaded-live : (l : ℕ × ℕ) → l ∈ loaded_before spot.at n → T (is_spilled f l.0) × T (live_before f spot l.0)
  loaded-live l m =
      ⊎_elim (argument-loaded l)
      (λ k.
      let from = ∈-concat_zip-from edge_loaded spot.at.edges n.edges k in
      edge-loaded from.0 (paired-first spot.at.edges n.edges from.0 from.1 from.2) from.1.landing from.1.arguments
      (each-paired (EdgeNumbered f (value_limit f pointer) (not (is_none (list_here f spot)))) spot.at.edges n.edges numbered.edges from.0 from.1 from.2)
      l from.3)
      (Memᴰ.append_cases (loaded (map passes.Value spot.at.arguments) n.arguments) m)

  loaded-held : (l : ℕ × ℕ) → l ∈ loaded_before spot.at n → γ.slots (slot_number f pointer l.0) ≡ word l.0
  loaded-held l m = let r = loaded-live l m in point.held l.0 r.1 r.0

  -- they read what they may,
  pub loads-read-here : ReadsAll (loads_here f pointer spot n γ) γ
  loads-read-here = loads-read (size_of f) (slot_number f pointer) (loaded_before spot.at n) γ loaded-held

  -- give their words,
  loads-known-here : LoadedWords f (loaded_ghost f pointer spot n γ) (loaded_before spot.at n)
  loads-known-here =
      loads-known (size_of f) (slot_number f pointer) numbered.first numbered.loads.0 (loaded_before spot.at n) γ numbered.loads.1
      loaded-held

  -- and change nothing else.
  loads-point : Point f pointer (defined_here f spot) (live_before f spot) (loaded_ghost f pointer spot n γ)
  loads-point =
      point-kept f pointer (before-marked f spot)
      (λ x h.
      loads-other (size_of f) (slot_number f pointer) (loaded_before spot.at n) γ x
      (below-off numbered.first numbered.loads.0 (loaded_before spot.at n) numbered.loads.1 x (omega (arith, h, numbered.new))))
      (loads-slots (size_of f) (slot_number f pointer) (loaded_before spot.at n) γ) point

  -- ARGUMENTS
  -- the instruction reads what the original's reads
  pub arguments-here : Each (λ v x. (loaded_ghost f pointer spot n γ).words x ≡ word v) spot.at.arguments
      (rewritten_here f pointer spot n γ).arguments
  arguments-here =
      arguments-mean f (loaded_ghost f pointer spot n γ) numbered.first numbered.last spot.at.arguments n.arguments
      numbered.arguments (arguments-own f pointer accepted dominated spot (loaded_ghost f pointer spot n γ) loads-point)
      (λ l m. loads-known-here l (Memᴰ.append_left (concat_zip edge_loaded spot.at.edges n.edges) m))

  -- BEHIND IT
  -- its listed values' slots move with them
  listed_here : (v : ℕ) → T (across f spot.at (live_after f spot) v) → (c : Bool) → T c
      → T (has (slot_number f pointer v)
      (map (λ (e : MapEntry). e.slot) (map (map_entry (size_of f) (slot_number f pointer))
      (or_else [] (cond c (some (members (length f.values) (across f spot.at (live_after f spot)))) none)))))
  listed_here v t true s =
      ∈→has (Memᴰ.map (λ (e : MapEntry). e.slot) (Memᴰ.map (map_entry (size_of f) (slot_number f pointer))
      (across-listed f spot.at (live_after f spot) (live-marked f spot.block spot.later) v t)))
  listed_here v t false s = absurd s

  -- what is asked behind it holds
  pub behind-here : Behind f pointer spot (stepped_ghost f pointer spot n γ)
  behind-here =
      let j = rewritten_here f pointer spot n γ in
      stepped-behind f pointer accepted spot j.arguments j.edges j.entries (loaded_ghost f pointer spot n γ) loads-point
      (λ v across-it s t. listed_here v across-it spot.at.safepoint s)

  -- what is loaded for an edge without a landing stays: over a safepoint nothing is
  listed-safepoint : (c : Bool) (list : List ℕ) → T c → T (not (is_none (cond c (some list) none)))
  listed-safepoint true list t = tt
  listed-safepoint false list t = absurd t

  -- an edge without a landing passes what was loaded for it
  pub direct-loaded : (e : Edge) (ns : List Made) → Paired e (record { landing = none; arguments = ns }) spot.at.edges n.edges
      → LoadedWords f (stepped_ghost f pointer spot n γ) (loaded e.arguments ns)
  direct-loaded e ns pair l m =
      let h = each-paired (EdgeNumbered f (value_limit f pointer) (not (is_none (list_here f spot)))) spot.at.edges n.edges numbered.edges e _ pair in
      let k = paired-first spot.at.edges n.edges e _ pair in
      let j = rewritten_here f pointer spot n γ in
      let γ₁ = loaded_ghost f pointer spot n γ in
      let spilled = loaded-spilled f false h.0 h.1 e.arguments ns h.3.0 l m in
      test-elim spot.at.safepoint
      (λ s.
      absurd (T_not (any (is_spilled f) (values_among e.arguments)) (h.3.1 (listed-safepoint spot.at.safepoint _ s))
      (any-intro (is_spilled f) spilled.0 spilled.1)))
      (λ s.
      defining-word spot.at.results (moving (is_marked f) j γ₁) (suc l.1) l.0
      (ap (λ (δ : Ghost). δ.words (suc l.1)) (moving-still (is_marked f) j γ₁ s)
      ∙ loads-known-here l
      (Memᴰ.append_right (loaded (map passes.Value spot.at.arguments) n.arguments)
      (∈-concat_zip edge_loaded spot.at.edges n.edges e _ pair m)))
      (no-results f accepted spot e k (suc l.1)) (no-results f accepted spot e k l.0))
