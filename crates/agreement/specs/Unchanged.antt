-- A file in which no value is spilled is related to itself: it is its own rewritten function, though nothing moves in it.
use Rattle.std.specs.Prelude.{ℕ, ◌≡◌, refl, not, List, [], ◌∷◌, ◌++◌, map, T}
use Rattle.std.proofs.Common.{sym, subst, ◌∙◌, inl, append_assoc, T_not}
use Rattle.rules.specs.Tree.{Edge, Instruction, instruction, Block, Function}
use Rattle.rules.specs.Graph.{block_at, is_marked, instructions_of, values_among}
use Rattle.rules.specs.Liveness.{before_all, process, is_spilled}
use Rattle.rules.specs.Demand3.{PathTo, Dominated}
use Rattle.rules.specs.declared.EdgeArgument.{EdgeArgument}
use Rattle.rules.specs.declared.EdgeArgument.TheVariants as passes
use Rattle.lists.specs.Members.{◌∈◌, here, there}
use Rattle.simulation.specs.Ghost.{word, Ghost, defining, stepping, passing, meant}
use Rattle.simulation.specs.Related.{Each, numbers, IsBlock, at, Shape, Laid, Related}
use Rattle.agreement.specs.Entries.{Goes, Follows, entries-related}
use Rattle.agreement.specs.Items.{copied-shape}
use Rattle.agreement.specs.Accepted.{Accepted, is-block-at, block-in-file, below-number}
use Rattle.agreement.specs.Points.{Point, Entered, defined_before, after-behind}
use Rattle.agreement.specs.Spots.{Spot, live_after, live_before, defined_here, arguments-own, Behind, stepped-behind, passed-own}
use Rattle.agreement.specs.Edges.{leads-by}
use Rattle.agreement.specs.Entering.{entered-inside, entering-unmarked, entering-unspilled, starts}

-- a list is related to itself where each member is
each_same : {A : Type 0} (R : A → A → Type 0) (xs : List A) → ((x : A) → x ∈ xs → R x x) → Each R xs xs
each_same R [] h = tt
each_same R (x ∷ xs) h = (h x (here refl), each_same R xs (λ y m. h y (there m)))

-- operands of which each value has its word are passed as they are meant
operands_same : (γ : Ghost) (xs : List EdgeArgument) → ((v : ℕ) → v ∈ values_among xs → γ.words v ≡ word v)
    → Each (λ x y. passing γ y ≡ meant x) xs xs
operands_same γ [] h = tt
operands_same γ (passes.Value v ∷ xs) h = (h v (here refl), operands_same γ xs (λ w m. h w (there m)))
operands_same γ (passes.Returned k ∷ xs) h = (refl, operands_same γ xs h)
operands_same γ (passes.Exception k ∷ xs) h = (refl, operands_same γ xs h)

module _ (f : Function) (pointer : ℕ) (accepted : Accepted f) (dominated : Dominated f) (unspilled : (v : ℕ) → T (not (is_spilled f v))) where
  -- nothing is held by a slot
  none-held : {C : Type 0} (v : ℕ) → T (is_spilled f v) → C
  none-held v t = absurd (T_not (is_spilled f v) (unspilled v) t)

  -- ONE INSTRUCTION
  module _ (spot : Spot f) (γ : Ghost) (point : Point f pointer (defined_here f spot) (live_before f spot) γ) where
    abbrev γ₂ : Ghost
    γ₂ = stepping (is_marked f) spot.at γ

    behind : Behind f pointer spot γ₂
    behind =
        stepped-behind f pointer accepted spot spot.at.arguments spot.at.edges spot.at.entries γ point
        (λ v _ _ t. none-held v t)

    edge_goes : (e : Edge) → e ∈ spot.at.edges → Goes f f (Entered f pointer) γ₂ e e
    edge_goes e k =
        inl (leads-by f pointer accepted dominated spot γ₂ behind e k (passing γ₂) e.arguments
        (operands_same γ₂ e.arguments (λ v m. passed-own f accepted spot e k pointer γ₂ behind dominated v m (unspilled v))) γ₂ (λ x l. refl) refl)

  -- A BLOCK'S INSTRUCTIONS
  module _ (t : ℕ) (passed : List ℕ) (path : PathTo f t passed) where
    instructions-follow : (earlier is : List Instruction) → instructions_of (block_at f t) ≡ earlier ++ is
        → (γ : Ghost) → Point f pointer (defined_before f passed t earlier) (before_all f is ((process f).outs t)) γ
        → Follows f f (Entered f pointer) (map instruction is) (map instruction is) γ
    instructions-follow earlier [] split γ point = tt
    instructions-follow earlier (i ∷ later) split γ point =
        let spot : Spot f =
        record { block = t; passed = passed; path = path; earlier = earlier; at = i; later = later; split = split } in
        let left = behind spot γ point in (
          (
            each_same (λ v x. γ.words x ≡ word v) i.arguments (λ v m. arguments-own f pointer accepted dominated spot γ point v m (unspilled v)),
            each_same (Goes f f (Entered f pointer) (stepping (is_marked f) i γ)) i.edges (edge_goes spot γ point),
          ),
          instructions-follow (earlier ++ (i ∷ [])) later (split ∙ sym (append_assoc earlier (i ∷ []) later)) (stepping (is_marked f) i γ)
              (record {
                unmarked = left.unmarked;
                unspilled = λ v l u. left.unspilled v (after-behind f i (live_after f spot) v l) u;
                held = λ v l s. none-held v s;
              }),
        )

  -- THE WHOLE
  enters : (t : ℕ) (γ : Ghost) → Entered f pointer t γ → (b b' : Block) → IsBlock f t b → IsBlock f t b'
      → Follows f f (Entered f pointer) b.items b'.items (defining b'.parameters γ)
  enters t γ entered b b' k k' =
      let plain = accepted.plain (block_at f t) (block-in-file f accepted t (entered-inside f pointer t γ entered accepted)) in
      let follows =
      instructions-follow t entered.passed entered.path [] (instructions_of (block_at f t)) refl (defining (block_at f t).parameters γ)
      (record {
        unmarked = entering-unmarked f pointer t γ entered;
        unspilled = entering-unspilled f pointer t γ entered;
        held = λ v l s. none-held v s;
      }) in
      subst (λ (c : Block). Follows f f (Entered f pointer) b.items c.items (defining c.parameters γ)) (sym (is-block-at f accepted t b' k'))
      (subst (λ (c : Block). Follows f f (Entered f pointer) c.items (block_at f t).items (defining (block_at f t).parameters γ))
      (sym (is-block-at f accepted t b k))
      (subst (λ is. Follows f f (Entered f pointer) is is (defining (block_at f t).parameters γ)) (sym plain) follows))

  copied-laid : (bs : List Block) → ((b : Block) → b ∈ bs → b ∈ f.blocks) → Laid (numbers f.blocks) bs bs
  copied-laid [] h = Laid.done
  copied-laid (b ∷ bs) h =
      Laid.block b (subst (λ is. Shape (at is) is) (sym (accepted.plain b (h b (here refl)))) (copied-shape (instructions_of b)))
      (copied-laid bs (λ c m. h c (there m)))

  -- An accepted file in which every use is dominated and no value is spilled is related to itself.
  pub unspilled-related : Related f f
  unspilled-related =
      entries-related f f (Entered f pointer) (record { starts = starts f pointer dominated; enters = enters })
      (copied-laid f.blocks (λ b m. m)) (below-number f accepted 0 accepted.some_block) refl
