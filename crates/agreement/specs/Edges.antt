-- The edges of a rewritten instruction lead where the original's lead with the words meant, at once or over a landing, into
-- blocks that are entered where everything live is known.
use Rattle.std.specs.Prelude.{ℕ, ◌≤◌, ◌<◌, ◌≡◌, refl, true, false, not, List, [], ◌∷◌, ◌++◌, map, length}
use Rattle.std.proofs.Common.{arith, sym, ap, subst, ◌∙◌, inl, inr}
use Rattle.std.proofs.Math.Option.{Option, none, some}
use Rattle.rules.specs.Lists.{is_none, zip_with}
use Rattle.rules.specs.Tree.{Edge, jump, Block, Function}
use Rattle.rules.specs.Graph.{size_of}
use Rattle.rules.specs.Liveness.{listed_instructions}
use Rattle.rules.specs.Plan.{Made, EdgePlan, InstructionPlan, BlockPlan}
use Rattle.rules.specs.Rewriting.{words_among, edge_to, rewritten_edge, landed_argument, landing_of, landings, slot_number, rewritten}
use Rattle.rules.specs.Demand3.{Dominated}
use Rattle.rules.specs.declared.EdgeArgument.{EdgeArgument}
use Rattle.lists.specs.Members.{◌∈◌, here, there}
use Rattle.simulation.specs.Ghost.{Meaning, word, Ghost, passing, jumping, meant, binding}
use Rattle.simulation.specs.Related.{Each, Paired, Passes}
use Rattle.agreement.specs.Entries.{past_all, each-paired, Crosses, Leads, Goes, crosses-behind}
use Rattle.agreement.specs.Numbers.{Numbered}
use Rattle.agreement.specs.Plans.{loaded, Ascending, numbered-ascending, value_limit, EdgeNumbered}
use Rattle.agreement.specs.Landings.{instruction_landings}
use Rattle.agreement.specs.Items.{loads_of, operands-loads}
use Rattle.agreement.specs.Accepted.{Accepted, below-number, edge-in-file}
use Rattle.agreement.specs.Layout.{∈-concat_zip, paired-first}
use Rattle.agreement.specs.Rewritten.{LaidBy, landings_of, lands, found-landing}
use Rattle.sharing.specs.Spilled.{spilled-marked}
use Rattle.agreement.specs.Keeping.{below-off, loads-slots, loads-other, loads-read, loads-known}
use Rattle.agreement.specs.Operands.{loaded-spilled, LoadedWords, passing-mean, jumping-mean, parameters-off}
use Rattle.agreement.specs.Operands.{bound, bound-slots, bound-other, bound-arrived, arrived-kept}
use Rattle.agreement.specs.Points.{Entered, passed-behind}
use Rattle.agreement.specs.Spots.{Spot, live_after, list_here, spot-stands, spot-inside, Behind, no-results, passed_here, passed-inside}
use Rattle.agreement.specs.Spots.{passed-own, entered_by}

module _ (f : Function) (pointer : ℕ) (accepted : Accepted f) (dominated : Dominated f) (spot : Spot f) (γ : Ghost)
    (behind : Behind f pointer spot γ) where
  module _ (e : Edge) (k : e ∈ spot.at.edges) where
    -- an edge with these arguments, where they mean the original's, leads into its target by a ghost that knows as much
    pub leads-by : (mean : EdgeArgument → Meaning) (ys : List EdgeArgument) → Each (λ x y. mean y ≡ meant x) e.arguments ys
        → (γ' : Ghost) → ((x : ℕ) → x < length f.values → γ'.words x ≡ γ.words x) → γ'.slots ≡ γ.slots
        → Passes f mean e (record { target = e.target; arguments = ys }) × Entered f pointer e.target γ'
    leads-by mean ys each γ' words slots = (
      record {
        target = refl;
        in-file = below-number f accepted e.target (edge-in-file f accepted spot.block (spot-inside f spot accepted) spot.at (spot-stands f spot) e k);
        arguments = each;
      },
      entered_by f accepted spot e k pointer γ behind γ' words slots,
    )

    -- AT ONCE
    direct-leads : (lo hi : ℕ) (ns : List Made) → Numbered f false lo hi e.arguments ns → LoadedWords f γ (loaded e.arguments ns)
        → Leads f (rewritten f pointer) (Entered f pointer) (passing γ) e (edge_to none e ns) γ
    direct-leads lo hi ns h known =
        leads-by (passing γ) (edge_to none e ns).arguments
        (passing-mean f γ lo hi e.arguments ns h (passed-own f accepted spot e k pointer γ behind dominated) known) γ (λ x l. refl) refl

    -- OVER A LANDING
    module _ (lo hi : ℕ) (ns : List Made) (h : Numbered f true lo hi e.arguments ns) (new : length f.values ≤ lo) where
      abbrev loads : List (ℕ × ℕ)
      loads = loaded e.arguments ns

      -- behind its parameters, and behind its loads
      abbrev γ₃ : Ghost
      γ₃ = bound f γ e.arguments ns γ

      abbrev γ₄ : Ghost
      γ₄ = past_all (loads_of (size_of f) (slot_number f pointer) loads) γ₃

      landing-ascends : Ascending lo hi loads
      landing-ascends = numbered-ascending f true lo hi e.arguments ns h

      landing-held : (l : ℕ × ℕ) → l ∈ loads → γ₃.slots (slot_number f pointer l.0) ≡ word l.0
      landing-held l m =
          let spilled = loaded-spilled f true lo hi e.arguments ns h l m in
          let v = l.0 in
          ap (λ (s : ℕ → Meaning). s (slot_number f pointer v)) (bound-slots f lo hi e.arguments ns h γ γ)
          ∙ behind.held v
          (passed-behind f spot.at (live_after f spot) v (passed_here f accepted spot e k v spilled.0) (spilled-marked f v spilled.1))
          spilled.1 (no-results f accepted spot e k v)

      landing-words : (x : ℕ) → x < length f.values → γ₄.words x ≡ γ.words x
      landing-words x l =
          loads-other (size_of f) (slot_number f pointer) loads γ₃ x (below-off lo hi loads landing-ascends x (omega (arith, l, new)))
          ∙ bound-other f lo hi e.arguments ns h γ γ x (omega (arith, l, new))

      landing-slots : γ₄.slots ≡ γ.slots
      landing-slots = loads-slots (size_of f) (slot_number f pointer) loads γ₃ ∙ bound-slots f lo hi e.arguments ns h γ γ

      landing-jumps : Leads f (rewritten f pointer) (Entered f pointer) (jumping γ₄) e
          (record { target = e.target; arguments = zip_with landed_argument e.arguments ns }) γ₄
      landing-jumps =
          leads-by (jumping γ₄) (zip_with landed_argument e.arguments ns)
          (jumping-mean f γ₄ lo hi e.arguments ns h
          (λ v m t.
          landing-words v (passed-inside f accepted spot e k v m) ∙ passed-own f accepted spot e k pointer γ behind dominated v m t)
          (loads-known (size_of f) (slot_number f pointer) lo hi loads γ₃ landing-ascends landing-held)
          (arrived-kept f e.arguments ns γ₃ γ₄
          (λ p m. loads-other (size_of f) (slot_number f pointer) loads γ₃ p (parameters-off f lo hi e.arguments ns h p m))
          (bound-arrived f lo hi e.arguments ns h γ γ)))
          γ₄ landing-words landing-slots

      landing-crosses : (c : ℕ)
          → Crosses f (rewritten f pointer) (Entered f pointer) e (landing_of (size_of f) (slot_number f pointer) e ns c).items γ₃
      landing-crosses c =
          let jumps = jump (record { target = e.target; arguments = zip_with landed_argument e.arguments ns }) ∷ [] in
          subst (λ is. Crosses f (rewritten f pointer) (Entered f pointer) e (is ++ jumps) γ₃)
          (sym (operands-loads (size_of f) (slot_number f pointer) e.arguments ns))
          (crosses-behind f (rewritten f pointer) (Entered f pointer) e (loads_of (size_of f) (slot_number f pointer) loads) jumps γ₃
          (loads-read (size_of f) (slot_number f pointer) loads γ₃ landing-held) landing-jumps)

  -- EITHER WAY, by the plan of the instruction and of its block
  module _ (n : InstructionPlan) (numbered : Each (EdgeNumbered f (value_limit f pointer) (not (is_none (list_here f spot)))) spot.at.edges n.edges)
      (direct : (e : Edge) (ns : List Made) → Paired e (record { landing = none; arguments = ns }) spot.at.edges n.edges
      → LoadedWords f γ (loaded e.arguments ns))
      (plan : BlockPlan) (by : LaidBy f pointer accepted spot.block plan)
      (planned-as : Paired (spot.at, list_here f spot) n (listed_instructions f spot.block) plan.instructions) where
    edge_goes : (e : Edge) (landing : Option ℕ) (ns : List Made)
        → Paired e (record { landing = landing; arguments = ns }) spot.at.edges n.edges
        → Goes f (rewritten f pointer) (Entered f pointer) γ e (edge_to landing e ns)
    edge_goes e none ns pair =
        let k = paired-first spot.at.edges n.edges e _ pair in
        let h = each-paired (EdgeNumbered f (value_limit f pointer) (not (is_none (list_here f spot)))) spot.at.edges n.edges numbered e _ pair in
        inl (direct-leads e k h.0 h.1 ns h.3.0 (direct e ns pair))
    edge_goes e (some c) ns pair =
        let k = paired-first spot.at.edges n.edges e _ pair in
        let h = each-paired (EdgeNumbered f (value_limit f pointer) (not (is_none (list_here f spot)))) spot.at.edges n.edges numbered e _ pair in
        let l = landing_of (size_of f) (slot_number f pointer) e ns c in
        let inside = spot-inside f spot accepted in
        let stands : l ∈ landings_of f pointer accepted spot.block plan =
        ∈-concat_zip (instruction_landings f pointer (size_of f) (slot_number f pointer)) (listed_instructions f spot.block) plan.instructions
        (spot.at, list_here f spot) n planned-as
        (∈-concat_zip (landings (size_of f) (slot_number f pointer)) spot.at.edges n.edges e _ pair (here refl)) in
        inr (
          lands f pointer accepted spot.block inside plan by l stands (edge_to (some c) e ns) refl,
          λ l' found.
              subst
              (λ (b : Block). Crosses f (rewritten f pointer) (Entered f pointer) e b.items
              (binding b.parameters (map (passing γ) (words_among e.arguments)) γ))
              (sym (found-landing f pointer accepted spot.block inside plan by l stands c refl l' found))
              (landing-crosses e k h.0 h.1 ns h.3 h.2 c),
        )

    -- every edge of the instruction
    pub edges-go : Each (Goes f (rewritten f pointer) (Entered f pointer) γ) spot.at.edges (zip_with rewritten_edge spot.at.edges n.edges)
    edges-go = go spot.at.edges n.edges numbered (λ e m pair. edge_goes e m.landing m.arguments pair)
      where
        go : (es : List Edge) (ms : List EdgePlan) → Each (EdgeNumbered f (value_limit f pointer) (not (is_none (list_here f spot)))) es ms
            → ((e : Edge) (m : EdgePlan) → Paired e m es ms → Goes f (rewritten f pointer) (Entered f pointer) γ e (rewritten_edge e m))
            → Each (Goes f (rewritten f pointer) (Entered f pointer) γ) es (zip_with rewritten_edge es ms)
        go [] ms r h = tt
        go (e ∷ es) [] r h = absurd r
        go (e ∷ es) (m ∷ ms) r h = (h e m (here refl), go es ms r.1 (λ e' m' pair. h e' m' (there pair)))
