-- THE EDGES OF A SOUND FILE, by place: each leads to a block of the file, its arguments stand directly behind it, and they are
-- as many as the block's parameters.
use Rattle.std.specs.Prelude.{ℕ, zero, suc, ◌+◌, ◌-◌, ◌<◌, ◌≤◌, ◌≡◌, refl, Bool, true, false, not, ◌&&◌, ◌||◌, cond, List, [], ◌∷◌, ◌++◌, map, length, T, eqb, ltb}
use Rattle.std.proofs.Common.{sym, ap, subst, ◌∙◌, arith, eqb→eq, ltb→lt}
use Rattle.std.proofs.lemmas.List.{length-map}
use Rattle.rules.specs.Lists.{all, empty}
use Rattle.rules.specs.Tree.{Edge, Function}
use Rattle.rules.specs.Records.{encode, kind, record_at, record_count, records}
use Rattle.rules.specs.File.{follows, of_kind, named, function_in}
use Rattle.rules.specs.Graph.{block_at, size_of, instructions_of}
use Rattle.rules.specs.Refusals.{all_instructions, all_edges, definitions, uses, ends_once, fit, safepoint_terminator, only_values, sound_edge, sound_instruction, sound}
use Rattle.rules.specs.declared.EdgeArgument.{EdgeArgument}
use Rattle.rules.specs.declared.EdgeArgument.TheVariants as passes
use Rattle.rules.specs.declared.Record.{Record}
use Rattle.rules.specs.declared.Words.{Words}
use Rattle.lists.specs.Tests.{test-elim, and_right, and_intro, or-then, eq→eqb, neqb→ne, T_and}
use Rattle.lists.specs.Maps.{all_apart, all-and, all_map, all-weaken}
use Rattle.records.specs.InOrder.{chain}
use Rattle.records.specs.Kinds.{Kinds}
use Rattle.records.specs.Leading.{leading, arguments-lead, chain-behind}
use Rattle.records.specs.Parts.{argument, in_body, body-allowed, targets-in-order}
use Rattle.soundness.specs.Fitting.{arguments_first, edge_fits, fitting, edges_fit, fitting-instructions}
use Rattle.graph.specs.Between.{between, between_more, between-all, between-rest}
use Rattle.graph.specs.Sections.{place_if, places}
use Rattle.graph.specs.Tables.{Given}
use Rattle.listing.specs.Across.{section_at, between-parted}
use Rattle.planning_edges.specs.Spans.{next_edge_place, next-bounds, none-before-next}
use Rattle.planner.specs.Backward.{SoundEdges}

-- a test of what the records of a kind name, at the place of one
named-at :
    (s : List ℕ) (k : ℕ) (q : ℕ → Bool) (n p e : ℕ) → p + n ≡ e → e ≤ record_count s → T (all q (named k (between s p e))) → (i : ℕ) → p ≤ i → i < e
    → kind (record_at s i) ≡ k → T (q (encode (record_at s i)).second)
named-at s k q zero p e sum m h i l u own = absurd (omega arith)
named-at s k q (suc n) p e sum m h i l u own =
    go (eqb (kind (record_at s p)) k) refl (subst (λ (rs : List Record). T (all q (named k rs))) (between_more s p e (omega arith) m) h) (named-at s k q n (suc p) e (omega arith) m)
  where
    go : (b : Bool) → b ≡ eqb (kind (record_at s p)) k
        → T (all q (map (λ (w : Words). w.second) (elim b [ true ↦ encode (record_at s p) ∷ of_kind k (between s (suc p) e) | false ↦ of_kind k (between s (suc p) e) ])))
        → (T (all q (named k (between s (suc p) e))) → (i : ℕ) → suc p ≤ i → i < e → kind (record_at s i) ≡ k → T (q (encode (record_at s i)).second))
        → T (q (encode (record_at s i)).second)
    go true b h later =
        let both = T_and (q (encode (record_at s p)).second) (all q (named k (between s (suc p) e))) h in
        test-elim (eqb p i)
        (λ y. subst (λ (j : ℕ). T (q (encode (record_at s j)).second)) (eqb→eq p i y) both.0)
        (λ y. later both.1 i (let d = neqb→ne p i y in omega (arith, d)) u own)
    go false b h later =
        test-elim (eqb p i)
        (λ y. absurd (subst T (sym b) (eq→eqb (ap (λ (j : ℕ). kind (record_at s j)) (eqb→eq p i y) ∙ own))))
        (λ y. later h i (let d = neqb→ne p i y in omega (arith, d)) u own)

-- arguments that fit are as many as parameters
fit_length : (f : Function) (xs : List EdgeArgument) (ps : List ℕ) → T (fit f xs ps) → length xs ≡ length ps
fit_length f [] [] h = refl
fit_length f (x ∷ xs) [] h = absurd h
fit_length f [] (p ∷ ps) h = absurd h
fit_length f (passes.Value v ∷ xs) (p ∷ ps) h = ap suc (fit_length f xs ps (and_right (eqb (size_of f v) (size_of f p)) (fit f xs ps) h))
fit_length f (passes.Returned _ ∷ xs) (p ∷ ps) h = ap suc (fit_length f xs ps h)
fit_length f (passes.Exception _ ∷ xs) (p ∷ ps) h = ap suc (fit_length f xs ps h)

-- a front has no more leading records than the whole
leading-front : (k : ℕ) (xs ys : List Record) → length (leading k xs) ≤ length (leading k (xs ++ ys))
leading-front k [] ys = omega arith
leading-front k (x ∷ xs) ys = go (eqb (kind x) k) (leading-front k xs ys)
  where
    go : (b : Bool) → length (leading k xs) ≤ length (leading k (xs ++ ys))
        → length {A = Words} (elim b [ true ↦ encode x ∷ leading k xs | false ↦ [] ]) ≤ length {A = Words} (elim b [ true ↦ encode x ∷ leading k (xs ++ ys) | false ↦ [] ])
    go true h = omega arith
    go false h = omega arith

chain-front : (p : ℕ) (xs ys : List Record) → T (chain p (xs ++ ys)) → T (chain p xs)
chain-front p [] ys c = tt
chain-front p (x ∷ xs) ys c =
    let both = T_and (follows p (kind x)) (chain (kind x) (xs ++ ys)) c in
    and_intro (follows p (kind x)) (chain (kind x) xs) both.0 (chain-front (kind x) xs ys both.1)

-- no place, no record of the kind
kinds-unplaced : (k p : ℕ) (rs : List Record) → places (eqb k) p rs ≡ [] → Kinds (λ j. not (eqb k j)) rs
kinds-unplaced k p [] e = tt
kinds-unplaced k p (r ∷ rs) e = go (eqb k (kind r)) e (kinds-unplaced k (suc p) rs)
  where
    go : (b : Bool) → place_if b p (places (eqb k) (suc p) rs) ≡ [] → (places (eqb k) (suc p) rs ≡ [] → Kinds (λ j. not (eqb k j)) rs)
        → T (not b && all (λ x. not (eqb k (kind x))) rs)
    go true e later = absurd (omega (arith, ap length e))
    go false e later = later e

-- each edge among records fits with what stands behind it
fitting-at :
    (s : List ℕ) (n p e : ℕ) → p + n ≡ e → e ≤ record_count s → T (fitting (function_in s) (between s p e)) → (i : ℕ) → p ≤ i → i < e → kind (record_at s i) ≡ 7
    → T (fit (function_in s) (arguments_first (between s (suc i) e)) (block_at (function_in s) (encode (record_at s i)).second).parameters)
fitting-at s zero p e sum m h i l u own = absurd (omega arith)
fitting-at s (suc n) p e sum m h i l u own =
    let f = function_in s in
    let both =
    T_and (edge_fits f (record_at s p) (between s (suc p) e)) (fitting f (between s (suc p) e))
    (subst (λ (rs : List Record). T (fitting f rs)) (between_more s p e (omega arith) m) h) in
    test-elim (eqb p i)
    (λ y.
    let same = eqb→eq p i y in
    let here = subst (λ (j : ℕ). T (edge_fits f (record_at s j) (between s (suc j) e))) same both.0 in
    or-then (eqb (kind (record_at s i)) 7) (fit f (arguments_first (between s (suc i) e)) (block_at f (encode (record_at s i)).second).parameters) here (eq→eqb own))
    (λ y. let d = neqb→ne p i y in fitting-at s n (suc p) e (omega arith) m both.1 i (omega (arith, d)) u own)

module _ (s places' : List ℕ) (given : Given s places') (is_sound : T (sound (function_in s))) where
  abbrev f : Function
  f = function_in s

  -- the edges of every instruction fit
  all_fit : T (all (edges_fit f) (all_instructions f))
  all_fit =
      all-weaken (sound_instruction f) (edges_fit f)
      (λ i h.
      all-weaken (sound_edge f i) (λ e. fit f e.arguments (block_at f e.target).parameters)
      (λ e g. and_right (not (eqb e.target 0) && (safepoint_terminator i || only_values e.arguments)) (fit f e.arguments (block_at f e.target).parameters) g)
      i.edges (and_right (cond i.terminator (empty i.results) (empty i.edges && empty i.contexts) && (safepoint_terminator i || empty i.contexts)) (all (sound_edge f i) i.edges) h))
      (all_instructions f)
      (and_right (all (λ b. ends_once (instructions_of b)) f.blocks) (all (sound_instruction f) (all_instructions f)) is_sound)

  all-targets : T (all (λ v. ltb v (length f.blocks)) (named 7 (between s 0 (record_count s))))
  all-targets =
      let h = and_right (all (λ v. ltb v (length f.values)) (definitions f ++ uses f)) (all (λ e. ltb e.target (length f.blocks)) (all_edges f)) given.in_file in
      subst (λ (vs : List ℕ). T (all (λ v. ltb v (length f.blocks)) vs)) (targets-in-order (records s) given.in_order ∙ ap (named 7) (sym (between-all s)))
      (subst T (sym (all_map (λ v. ltb v (length f.blocks)) (λ (e : Edge). e.target) (all_edges f))) h)

  -- THE LAW.
  pub sound-edges : SoundEdges s
  sound-edges place end l m shape p low high head =
      let n = record_count s in
      let next = next_edge_place s (suc p) end in
      let bounds = next-bounds s (suc p) end high m in
      let body = between s (suc p) next in
      let whole : between s (suc p) n ≡ body ++ between s next n = between-parted s (next - suc p) (suc p) next n (omega (arith, bounds.0)) (omega (arith, bounds.1)) (omega arith) in
      let fits =
      fitting-at s n 0 n (omega arith) (omega arith)
      (subst (λ (rs : List Record). T (fitting f rs)) (sym (between-all s)) (subst T (sym (fitting-instructions f (records s) given.in_order)) all_fit)) p (omega arith) (omega arith) head in
      let order : T (chain 7 (body ++ between s next n)) =
      subst (λ (k : ℕ). T (chain k (body ++ between s next n))) head
      (subst (λ (rs : List Record). T (chain (kind (record_at s p)) rs)) (sym (between-rest s (suc p)) ∙ whole) (chain-behind s given.in_order p (omega arith))) in
      let near : between s (suc place) end ≡ between s (suc place) (suc p) ++ (body ++ between s next end) =
      between-parted s (suc p - suc place) (suc place) (suc p) end (omega arith) high m
      ∙ ap (λ (rs : List Record). between s (suc place) (suc p) ++ rs) (between-parted s (next - suc p) (suc p) next end (omega (arith, bounds.0)) bounds.1 m) in
      let inside : Kinds in_body body =
      (all_apart (λ r. in_body (kind r)) body (between s next end)
      (all_apart (λ r. in_body (kind r)) (between s (suc place) (suc p)) (body ++ between s next end) (subst (Kinds in_body) near (body-allowed (section_at s place end) shape))).1).0 in
      let leads : of_kind 8 body ≡ leading 8 body =
      arguments-lead body (chain-front 7 body (between s next n) order)
      (all-and (λ r. not (eqb 7 (kind r))) (λ r. in_body (kind r)) body (kinds-unplaced 7 (suc p) body (none-before-next s (suc p) end high m)) inside) in
      record {
        inside = bounds.0;
        in_file = omega (arith, bounds.1);
        head = head;
        target = ltb→lt _ _ (named-at s 7 (λ v. ltb v (length f.blocks)) n 0 n (omega arith) (omega arith) all-targets p (omega arith) (omega arith) head);
        leads = leads;
        fits =
            omega (
              arith,
              ap length leads,
              leading-front 8 body (between s next n),
              ap (λ (rs : List Record). length (leading 8 rs)) whole,
              length-map (leading 8 (between s (suc p) n)) argument,
              fit_length f (arguments_first (between s (suc p) n)) (block_at f (encode (record_at s p)).second).parameters fits,
            );
      }
