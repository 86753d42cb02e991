-- What rewritten operands mean: a spilled one is the value loaded for it, another is itself, and in a landing a word is the
-- parameter that it arrived at.
use Rattle.std.specs.Prelude.{ℕ, suc, ◌≤◌, ◌<◌, ◌≡◌, refl, Bool, true, false, not, List, [], ◌∷◌, map, T}
use Rattle.std.proofs.Common.{arith, sym, ap, subst, ◌∙◌}
use Rattle.std.proofs.Math.Option.{none, some}
use Rattle.rules.specs.Lists.{zip_with, concat_zip}
use Rattle.rules.specs.Tree.{Function}
use Rattle.rules.specs.Graph.{values_among}
use Rattle.rules.specs.Liveness.{is_spilled}
use Rattle.rules.specs.Plan.{Made}
use Rattle.rules.specs.Rewriting.{operand, edge_operand, words_among, landing_parameters, landed_argument}
use Rattle.rules.specs.declared.EdgeArgument.{EdgeArgument}
use Rattle.rules.specs.declared.EdgeArgument.TheVariants as passes
use Rattle.lists.specs.Members.{◌∈◌, here, there, not-∈-nil, ∈-elim}
use Rattle.simulation.specs.Ghost.{word, returned, exception, Ghost, setting, passing, jumping, meant, binding}
use Rattle.simulation.specs.Related.{Each}
use Rattle.agreement.specs.Numbers.{Numbered}
use Rattle.agreement.specs.Plans.{loaded, numbered-ascending}
use Rattle.agreement.specs.Keeping.{Off, setting-here, setting-there, below-off}

-- the values among arguments taken as edge arguments are the arguments
pub arguments-among : (vs : List ℕ) → values_among (map passes.Value vs) ≡ vs
arguments-among [] = refl
arguments-among (v ∷ vs) = ap (λ ws. v ∷ ws) (arguments-among vs)

module _ (f : Function) (landing : Bool) where
  -- what is loaded is a spilled value among the operands
  pub loaded-spilled : (lo hi : ℕ) (xs : List EdgeArgument) (ns : List Made) → Numbered f landing lo hi xs ns
      → (l : ℕ × ℕ) → l ∈ loaded xs ns → (l.0 ∈ values_among xs) × T (is_spilled f l.0)
  loaded-spilled lo hi [] ns h l m = absurd (not-∈-nil m)
  loaded-spilled lo hi (passes.Value v ∷ xs) [] h l m = absurd h
  loaded-spilled lo hi (passes.Returned k ∷ xs) [] h l m = absurd h
  loaded-spilled lo hi (passes.Exception k ∷ xs) [] h l m = absurd h
  loaded-spilled lo hi (passes.Value v ∷ xs) (none ∷ ns) h l m =
      let r = loaded-spilled lo hi xs ns h.1 l m in (there r.0, r.1)
  loaded-spilled lo hi (passes.Value v ∷ xs) (some a ∷ ns) h l m =
      ∈-elim
      (λ e.
      let same : l.0 ≡ v = ap (λ (x : ℕ × ℕ). x.0) e in
      (here same, subst (λ w. T (is_spilled f w)) (sym same) h.0))
      (λ k. let r = loaded-spilled (suc (suc a)) hi xs ns h.2 l k in (there r.0, r.1)) m
  loaded-spilled lo hi (passes.Returned k ∷ xs) (none ∷ ns) h l m = loaded-spilled lo hi xs ns h.1 l m
  loaded-spilled lo hi (passes.Returned k ∷ xs) (some p ∷ ns) h l m = loaded-spilled (suc p) hi xs ns h.2 l m
  loaded-spilled lo hi (passes.Exception k ∷ xs) (none ∷ ns) h l m = loaded-spilled lo hi xs ns h.1 l m
  loaded-spilled lo hi (passes.Exception k ∷ xs) (some p ∷ ns) h l m = loaded-spilled (suc p) hi xs ns h.2 l m

module _ (f : Function) (γ : Ghost) where
  -- where operands that are not spilled have their words
  abbrev pub OwnWords : List ℕ → Type 0
  OwnWords vs = (v : ℕ) → v ∈ vs → T (not (is_spilled f v)) → γ.words v ≡ word v

  -- and loaded ones theirs
  abbrev pub LoadedWords : List (ℕ × ℕ) → Type 0
  LoadedWords ls = (l : ℕ × ℕ) → l ∈ ls → γ.words (suc l.1) ≡ word l.0

  -- an instruction's arguments mean the original's,
  pub arguments-mean : (lo hi : ℕ) (vs : List ℕ) (ns : List Made) → Numbered f false lo hi (map passes.Value vs) ns
      → OwnWords vs → LoadedWords (loaded (map passes.Value vs) ns)
      → Each (λ v x. γ.words x ≡ word v) vs (zip_with operand vs ns)
  arguments-mean lo hi [] ns h own load = tt
  arguments-mean lo hi (v ∷ vs) [] h own load = absurd h
  arguments-mean lo hi (v ∷ vs) (none ∷ ns) h own load =
      (own v (here refl) h.0, arguments-mean lo hi vs ns h.1 (λ w m. own w (there m)) load)
  arguments-mean lo hi (v ∷ vs) (some a ∷ ns) h own load =
      (load (v, a) (here refl), arguments-mean (suc (suc a)) hi vs ns h.2 (λ w m. own w (there m)) (λ l m. load l (there m)))

  -- so do an edge's,
  pub passing-mean : (lo hi : ℕ) (xs : List EdgeArgument) (ns : List Made) → Numbered f false lo hi xs ns
      → OwnWords (values_among xs) → LoadedWords (loaded xs ns)
      → Each (λ x y. passing γ y ≡ meant x) xs (zip_with edge_operand xs ns)
  passing-mean lo hi [] ns h own load = tt
  passing-mean lo hi (passes.Value v ∷ xs) [] h own load = absurd h
  passing-mean lo hi (passes.Returned k ∷ xs) [] h own load = absurd h
  passing-mean lo hi (passes.Exception k ∷ xs) [] h own load = absurd h
  passing-mean lo hi (passes.Value v ∷ xs) (none ∷ ns) h own load =
      (own v (here refl) h.0, passing-mean lo hi xs ns h.1 (λ w m. own w (there m)) load)
  passing-mean lo hi (passes.Value v ∷ xs) (some a ∷ ns) h own load =
      (load (v, a) (here refl), passing-mean (suc (suc a)) hi xs ns h.2 (λ w m. own w (there m)) (λ l m. load l (there m)))
  passing-mean lo hi (passes.Returned k ∷ xs) (none ∷ ns) h own load = (refl, passing-mean lo hi xs ns h.1 own load)
  passing-mean lo hi (passes.Returned k ∷ xs) (some p ∷ ns) h own load = absurd h.0
  passing-mean lo hi (passes.Exception k ∷ xs) (none ∷ ns) h own load = (refl, passing-mean lo hi xs ns h.1 own load)
  passing-mean lo hi (passes.Exception k ∷ xs) (some p ∷ ns) h own load = absurd h.0

  -- where the words have arrived at a landing's parameters
  abbrev pub Arrived : List EdgeArgument → List Made → Type 0
  Arrived [] ns = Unit
  Arrived (_ ∷ _) [] = Unit
  Arrived (passes.Value _ ∷ xs) (_ ∷ ns) = Arrived xs ns
  Arrived (passes.Returned _ ∷ xs) (none ∷ ns) = Arrived xs ns
  Arrived (passes.Returned k ∷ xs) (some p ∷ ns) = (γ.words p ≡ returned k) × Arrived xs ns
  Arrived (passes.Exception _ ∷ xs) (none ∷ ns) = Arrived xs ns
  Arrived (passes.Exception k ∷ xs) (some p ∷ ns) = (γ.words p ≡ exception k) × Arrived xs ns

  -- and so do those of a landing's jump.
  pub jumping-mean : (lo hi : ℕ) (xs : List EdgeArgument) (ns : List Made) → Numbered f true lo hi xs ns
      → OwnWords (values_among xs) → LoadedWords (loaded xs ns) → Arrived xs ns
      → Each (λ x y. jumping γ y ≡ meant x) xs (zip_with landed_argument xs ns)
  jumping-mean lo hi [] ns h own load arrived = tt
  jumping-mean lo hi (passes.Value v ∷ xs) [] h own load arrived = absurd h
  jumping-mean lo hi (passes.Returned k ∷ xs) [] h own load arrived = absurd h
  jumping-mean lo hi (passes.Exception k ∷ xs) [] h own load arrived = absurd h
  jumping-mean lo hi (passes.Value v ∷ xs) (none ∷ ns) h own load arrived =
      (own v (here refl) h.0, jumping-mean lo hi xs ns h.1 (λ w m. own w (there m)) load arrived)
  jumping-mean lo hi (passes.Value v ∷ xs) (some a ∷ ns) h own load arrived =
      (load (v, a) (here refl), jumping-mean (suc (suc a)) hi xs ns h.2 (λ w m. own w (there m)) (λ l m. load l (there m)) arrived)
  jumping-mean lo hi (passes.Returned k ∷ xs) (none ∷ ns) h own load arrived = absurd h.0
  jumping-mean lo hi (passes.Returned k ∷ xs) (some p ∷ ns) h own load arrived =
      (arrived.0, jumping-mean (suc p) hi xs ns h.2 own load arrived.1)
  jumping-mean lo hi (passes.Exception k ∷ xs) (none ∷ ns) h own load arrived = absurd h.0
  jumping-mean lo hi (passes.Exception k ∷ xs) (some p ∷ ns) h own load arrived =
      (arrived.0, jumping-mean (suc p) hi xs ns h.2 own load arrived.1)

-- A LANDING'S PARAMETERS
abbrev pub parameters_of : List EdgeArgument → List Made → List ℕ
parameters_of xs ns = concat_zip landing_parameters xs ns

module _ (f : Function) where
  -- they are numbered like its loads
  pub parameters-above : (lo hi : ℕ) (xs : List EdgeArgument) (ns : List Made) → Numbered f true lo hi xs ns
      → (p : ℕ) → p ∈ parameters_of xs ns → lo ≤ p
  parameters-above lo hi [] ns h p m = absurd (not-∈-nil m)
  parameters-above lo hi (passes.Value v ∷ xs) [] h p m = absurd h
  parameters-above lo hi (passes.Returned k ∷ xs) [] h p m = absurd h
  parameters-above lo hi (passes.Exception k ∷ xs) [] h p m = absurd h
  parameters-above lo hi (passes.Value v ∷ xs) (none ∷ ns) h p m = parameters-above lo hi xs ns h.1 p m
  parameters-above lo hi (passes.Value v ∷ xs) (some a ∷ ns) h p m =
      omega (arith, h.1, parameters-above (suc (suc a)) hi xs ns h.2 p m)
  parameters-above lo hi (passes.Returned k ∷ xs) (none ∷ ns) h p m = absurd h.0
  parameters-above lo hi (passes.Returned k ∷ xs) (some q ∷ ns) h p m =
      ∈-elim (λ e. omega (arith, h.1, e)) (λ r. omega (arith, h.1, parameters-above (suc q) hi xs ns h.2 p r)) m
  parameters-above lo hi (passes.Exception k ∷ xs) (none ∷ ns) h p m = absurd h.0
  parameters-above lo hi (passes.Exception k ∷ xs) (some q ∷ ns) h p m =
      ∈-elim (λ e. omega (arith, h.1, e)) (λ r. omega (arith, h.1, parameters-above (suc q) hi xs ns h.2 p r)) m

  -- a word's parameter, of which the numbers behind it are above it, or one of those
  word-off : (hi : ℕ) (xs : List EdgeArgument) (ns : List Made) (q : ℕ) → Numbered f true (suc q) hi xs ns
      → (p : ℕ) → p ∈ (q ∷ parameters_of xs ns) → (p ∈ parameters_of xs ns → Off p (loaded xs ns)) → Off p (loaded xs ns)
  word-off hi xs ns q h p m later =
      ∈-elim
      (λ e. below-off (suc q) hi (loaded xs ns) (numbered-ascending f true (suc q) hi xs ns h) p (omega (arith, e)))
      later m

  -- and no load sets one
  pub parameters-off : (lo hi : ℕ) (xs : List EdgeArgument) (ns : List Made) → Numbered f true lo hi xs ns
      → (p : ℕ) → p ∈ parameters_of xs ns → Off p (loaded xs ns)
  parameters-off lo hi [] ns h p m = absurd (not-∈-nil m)
  parameters-off lo hi (passes.Value v ∷ xs) [] h p m = absurd h
  parameters-off lo hi (passes.Returned k ∷ xs) [] h p m = absurd h
  parameters-off lo hi (passes.Exception k ∷ xs) [] h p m = absurd h
  parameters-off lo hi (passes.Value v ∷ xs) (none ∷ ns) h p m = parameters-off lo hi xs ns h.1 p m
  parameters-off lo hi (passes.Value v ∷ xs) (some a ∷ ns) h p m =
      let above = parameters-above (suc (suc a)) hi xs ns h.2 p m in
      λ l k.
      ∈-elim
      (λ e.
      let same : l.1 ≡ a = ap (λ (x : ℕ × ℕ). x.1) e in
      (λ d. absurd (omega (arith, above, same, d)), λ d. absurd (omega (arith, above, same, d))))
      (parameters-off (suc (suc a)) hi xs ns h.2 p m l) k
  parameters-off lo hi (passes.Returned k ∷ xs) (none ∷ ns) h p m = absurd h.0
  parameters-off lo hi (passes.Returned k ∷ xs) (some q ∷ ns) h p m = word-off hi xs ns q h.2 p m (parameters-off (suc q) hi xs ns h.2 p)
  parameters-off lo hi (passes.Exception k ∷ xs) (none ∷ ns) h p m = absurd h.0
  parameters-off lo hi (passes.Exception k ∷ xs) (some q ∷ ns) h p m = word-off hi xs ns q h.2 p m (parameters-off (suc q) hi xs ns h.2 p)

  -- what an edge passes to them, with γ₀ where it passes
  abbrev pub bound : Ghost → List EdgeArgument → List Made → Ghost → Ghost
  bound γ₀ xs ns γ = binding (parameters_of xs ns) (map (passing γ₀) (words_among xs)) γ

  pub bound-slots : (lo hi : ℕ) (xs : List EdgeArgument) (ns : List Made) → Numbered f true lo hi xs ns → (γ₀ γ : Ghost)
      → (bound γ₀ xs ns γ).slots ≡ γ.slots
  bound-slots lo hi [] ns h γ₀ γ = refl
  bound-slots lo hi (passes.Value v ∷ xs) [] h γ₀ γ = absurd h
  bound-slots lo hi (passes.Returned k ∷ xs) [] h γ₀ γ = absurd h
  bound-slots lo hi (passes.Exception k ∷ xs) [] h γ₀ γ = absurd h
  bound-slots lo hi (passes.Value v ∷ xs) (none ∷ ns) h γ₀ γ = bound-slots lo hi xs ns h.1 γ₀ γ
  bound-slots lo hi (passes.Value v ∷ xs) (some a ∷ ns) h γ₀ γ = bound-slots (suc (suc a)) hi xs ns h.2 γ₀ γ
  bound-slots lo hi (passes.Returned k ∷ xs) (none ∷ ns) h γ₀ γ = absurd h.0
  bound-slots lo hi (passes.Returned k ∷ xs) (some q ∷ ns) h γ₀ γ = bound-slots (suc q) hi xs ns h.2 γ₀ (setting q (returned k) γ)
  bound-slots lo hi (passes.Exception k ∷ xs) (none ∷ ns) h γ₀ γ = absurd h.0
  bound-slots lo hi (passes.Exception k ∷ xs) (some q ∷ ns) h γ₀ γ = bound-slots (suc q) hi xs ns h.2 γ₀ (setting q (exception k) γ)

  -- values below their numbers keep their words
  pub bound-other : (lo hi : ℕ) (xs : List EdgeArgument) (ns : List Made) → Numbered f true lo hi xs ns → (γ₀ γ : Ghost) (x : ℕ) → x < lo
      → (bound γ₀ xs ns γ).words x ≡ γ.words x
  bound-other lo hi [] ns h γ₀ γ x l = refl
  bound-other lo hi (passes.Value v ∷ xs) [] h γ₀ γ x l = absurd h
  bound-other lo hi (passes.Returned k ∷ xs) [] h γ₀ γ x l = absurd h
  bound-other lo hi (passes.Exception k ∷ xs) [] h γ₀ γ x l = absurd h
  bound-other lo hi (passes.Value v ∷ xs) (none ∷ ns) h γ₀ γ x l = bound-other lo hi xs ns h.1 γ₀ γ x l
  bound-other lo hi (passes.Value v ∷ xs) (some a ∷ ns) h γ₀ γ x l =
      bound-other (suc (suc a)) hi xs ns h.2 γ₀ γ x (omega (arith, h.1))
  bound-other lo hi (passes.Returned k ∷ xs) (none ∷ ns) h γ₀ γ x l = absurd h.0
  bound-other lo hi (passes.Returned k ∷ xs) (some q ∷ ns) h γ₀ γ x l =
      bound-other (suc q) hi xs ns h.2 γ₀ (setting q (returned k) γ) x (omega (arith, h.1))
      ∙ setting-there q (returned k) γ x (λ e. absurd (omega (arith, h.1, e)))
  bound-other lo hi (passes.Exception k ∷ xs) (none ∷ ns) h γ₀ γ x l = absurd h.0
  bound-other lo hi (passes.Exception k ∷ xs) (some q ∷ ns) h γ₀ γ x l =
      bound-other (suc q) hi xs ns h.2 γ₀ (setting q (exception k) γ) x (omega (arith, h.1))
      ∙ setting-there q (exception k) γ x (λ e. absurd (omega (arith, h.1, e)))

  -- and the words arrive.
  pub bound-arrived : (lo hi : ℕ) (xs : List EdgeArgument) (ns : List Made) → Numbered f true lo hi xs ns → (γ₀ γ : Ghost)
      → Arrived f (bound γ₀ xs ns γ) xs ns
  bound-arrived lo hi [] ns h γ₀ γ = tt
  bound-arrived lo hi (passes.Value v ∷ xs) [] h γ₀ γ = absurd h
  bound-arrived lo hi (passes.Returned k ∷ xs) [] h γ₀ γ = absurd h
  bound-arrived lo hi (passes.Exception k ∷ xs) [] h γ₀ γ = absurd h
  bound-arrived lo hi (passes.Value v ∷ xs) (none ∷ ns) h γ₀ γ = bound-arrived lo hi xs ns h.1 γ₀ γ
  bound-arrived lo hi (passes.Value v ∷ xs) (some a ∷ ns) h γ₀ γ = bound-arrived (suc (suc a)) hi xs ns h.2 γ₀ γ
  bound-arrived lo hi (passes.Returned k ∷ xs) (none ∷ ns) h γ₀ γ = absurd h.0
  bound-arrived lo hi (passes.Returned k ∷ xs) (some q ∷ ns) h γ₀ γ =
      let γ' = setting q (returned k) γ in
      (bound-other (suc q) hi xs ns h.2 γ₀ γ' q (omega arith) ∙ setting-here q (returned k) γ, bound-arrived (suc q) hi xs ns h.2 γ₀ γ')
  bound-arrived lo hi (passes.Exception k ∷ xs) (none ∷ ns) h γ₀ γ = absurd h.0
  bound-arrived lo hi (passes.Exception k ∷ xs) (some q ∷ ns) h γ₀ γ =
      let γ' = setting q (exception k) γ in
      (bound-other (suc q) hi xs ns h.2 γ₀ γ' q (omega arith) ∙ setting-here q (exception k) γ, bound-arrived (suc q) hi xs ns h.2 γ₀ γ')

  -- what has arrived stays where the parameters keep their words
  pub arrived-kept : (xs : List EdgeArgument) (ns : List Made) (γ γ' : Ghost)
      → ((p : ℕ) → p ∈ parameters_of xs ns → γ'.words p ≡ γ.words p) → Arrived f γ xs ns → Arrived f γ' xs ns
  arrived-kept [] ns γ γ' h a = tt
  arrived-kept (passes.Value v ∷ xs) [] γ γ' h a = tt
  arrived-kept (passes.Returned k ∷ xs) [] γ γ' h a = tt
  arrived-kept (passes.Exception k ∷ xs) [] γ γ' h a = tt
  arrived-kept (passes.Value v ∷ xs) (n ∷ ns) γ γ' h a = arrived-kept xs ns γ γ' h a
  arrived-kept (passes.Returned k ∷ xs) (none ∷ ns) γ γ' h a = arrived-kept xs ns γ γ' h a
  arrived-kept (passes.Returned k ∷ xs) (some q ∷ ns) γ γ' h a =
      (h q (here refl) ∙ a.0, arrived-kept xs ns γ γ' (λ p m. h p (there m)) a.1)
  arrived-kept (passes.Exception k ∷ xs) (none ∷ ns) γ γ' h a = arrived-kept xs ns γ γ' h a
  arrived-kept (passes.Exception k ∷ xs) (some q ∷ ns) γ γ' h a =
      (h q (here refl) ∙ a.0, arrived-kept xs ns γ γ' (λ p m. h p (there m)) a.1)
