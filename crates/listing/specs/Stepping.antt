-- The walk back over a block's records, one after the other: where it stands, and what the rows are there.
use Prim.Native.Nat.{ℕ, zero, suc, ◌+◌, ◌-◌, ◌<◌, ◌≤◌}
use Rattle.std.specs.Prelude.{◌≡◌, refl, Bool, true, false, not, ◌&&◌, ◌||◌, cond, length, eqb, ltb}
use Rattle.std.proofs.Common.{sym, ap, ap₂, subst, ◌∙◌, arith, add-one, eqb→eq, ltb→lt}
use Rattle.std.proofs.Math.Option.{Option, none, some}
use mathlib.Core.List.{List, [], ◌∷◌, ◌++◌, map}
use Rattle.std.proofs.Math.Dec.{T, nltb→le}
use Rattle.rules.specs.Lists.{all, update, NumberSet}
use Rattle.rules.specs.Tree.{Instruction, Function}
use Rattle.rules.specs.Records.{encode, is_safepoint, kind, record_at, record_count}
use Rattle.rules.specs.File.{followers, follows, Cut, cut, instruction_of, opens_item, function_in}
use Rattle.rules.specs.Liveness.{across, before, before_all}
use Rattle.rules.specs.declared.Record.{Record}
use Rattle.lists.specs.Tests.{test-elim, and_left, and_right, passes_at, eqb_same, is_true, is_false}
use Rattle.lists.specs.Maps.{all_apart, all-and}
use Rattle.records.specs.Kinds.{Kinds, kinds-weaken}
use Rattle.records.specs.InOrder.{chain, chained, Sections, whole, opened, cut_opened, cut-chained, cut-kinds}
use Rattle.records.specs.Parts.{BlockBody, in_block, in-block, is_instruction}
use Rattle.graph.specs.Between.{between, between_none, between_more, length-between}
use Rattle.graph.specs.Sections.{agree, place_if, places, first_or, sections_at, first-bounds, cut-between, places_same}
use Rattle.fixpoint.specs.Finding.{update_here}
use Rattle.blocksets.specs.Operands.{operand_of, live_before, over-append, back}
use Rattle.blocksets.specs.Instructions.{back-body}
use Rattle.listing.specs.declared.blocks.Spot.{Spot}
use Rattle.listing.specs.Crossings.{put, fill, crossing, crossings_among}
use Rattle.listing.specs.Across.{behind_arguments, section_at, back-across, between-parted}

-- the places of the instructions from place p on and before place end, and those instructions
abbrev pub heads_from : List ℕ → ℕ → ℕ → List ℕ
heads_from s p end = places (eqb 4) p (between s p end)

abbrev pub instructions_from : List ℕ → ℕ → ℕ → List Instruction
instructions_from s p end = map instruction_of (sections_at s end (heads_from s p end))

-- an instruction starts at place p
abbrev pub opens : List ℕ → ℕ → Bool
opens s p = eqb (kind (record_at s p)) 4

-- an argument stands there
abbrev pub argues : List ℕ → ℕ → Bool
argues s p = eqb (kind (record_at s p)) 6

abbrev pub spot : ℕ → ℕ → Spot
spot middle number = record { middle = middle; number = number }

-- WHAT ONE RECORD DOES, by whether it is an argument or opens an instruction: to where the walk stands, to what is live, and
-- to the lists. An argument waits for its instruction, since the list is taken behind the arguments.
abbrev pub spot_by : Bool → Bool → ℕ → Spot → Spot
spot_by a o p at = cond a at (cond o (spot p (at.number - 1)) (spot p at.number))

abbrev pub live_by : Bool → Bool → List ℕ → ℕ → Spot → (ℕ → NumberSet) → ℕ → NumberSet
live_by a o s p at live =
    cond a live
    (cond o (update 0 (back (function_in s) (between s (p + 1) at.middle) (live 0)) live)
    (update 0 (live_before (function_in s) (operand_of (record_at s p)) (live 0)) live))

abbrev pub lists_by : Bool → Bool → List ℕ → ℕ → Spot → (ℕ → NumberSet) → (ℕ → NumberSet) → ℕ → NumberSet
lists_by a o s p at live lists =
    cond a lists
    (cond o (put (at.number - 1) (cond (is_safepoint (encode (record_at s p)).second) (some (live 0)) none) lists) lists)

abbrev pub spot_at : List ℕ → ℕ → Spot → Spot
spot_at s p = spot_by (argues s p) (opens s p) p

abbrev pub live_at : List ℕ → ℕ → Spot → (ℕ → NumberSet) → ℕ → NumberSet
live_at s p = live_by (argues s p) (opens s p) s p

abbrev pub lists_at : List ℕ → ℕ → Spot → (ℕ → NumberSet) → (ℕ → NumberSet) → ℕ → NumberSet
lists_at s p = lists_by (argues s p) (opens s p) s p

-- the records of a block behind its own
pub record BlockRecords (s : List ℕ) (start end : ℕ) : Type 0 where
  pub ascends : start ≤ end
  pub inside : end ≤ record_count s
  pub body : BlockBody (between s start end)

-- an order goes on behind some records
chain-behind : (p : ℕ) (xs ys : List Record) → T (chain p (xs ++ ys)) → (q : ℕ) × T (chain q ys)
chain-behind p [] ys c = (p, c)
chain-behind p (x ∷ xs) ys c = chain-behind (kind x) xs ys (and_right (follows p (kind x)) (chain (kind x) (xs ++ ys)) c)

module _ (s : List ℕ) (end : ℕ) (k : end ≤ record_count s) where
  -- one record more in front
  pub heads-more : (p : ℕ) → p < end → heads_from s p end ≡ place_if (opens s p) p (heads_from s (suc p) end)
  heads-more p l =
      ap (places (eqb 4) p) (between_more s p end l k)
      ∙ ap (λ (b : Bool). place_if b p (heads_from s (suc p) end)) (eqb_same 4 (kind (record_at s p)))

  -- where one opens
  heads-here : (p : ℕ) → p < end → T (opens s p) → heads_from s p end ≡ p ∷ heads_from s (suc p) end
  heads-here p l o = heads-more p l ∙ ap (λ (b : Bool). place_if b p (heads_from s (suc p) end)) (is_true (opens s p) o)

  length-heads : (b : Bool) (p : ℕ) (ps : List ℕ) → length ps ≤ length (place_if b p ps)
  length-heads true p ps = omega arith
  length-heads false p ps = omega arith

  -- further back there are no fewer
  heads-le : (n p q : ℕ) → p + n ≡ q → q ≤ end → length (heads_from s q end) ≤ length (heads_from s p end)
  heads-le zero p q e l = let same : q ≡ p = omega arith in rw same (omega arith)
  heads-le (suc n) p q e l =
      omega (
        arith,
        heads-le n (suc p) q (omega arith) l,
        ap length (heads-more p (omega arith)),
        length-heads (opens s p) p (heads_from s (suc p) end),
      )

  pub heads-fewer : (p q : ℕ) → p ≤ q → q ≤ end → length (heads_from s q end) ≤ length (heads_from s p end)
  heads-fewer p q l m = heads-le (q - p) p q (omega arith) m

  -- the first of them is not before place p, and not behind the end
  pub heads-bounds : (p : ℕ) → p ≤ end → (p ≤ first_or end (heads_from s p end)) × (first_or end (heads_from s p end) ≤ end)
  heads-bounds p l = first-bounds (eqb 4) p end (between s p end) (omega (arith, length-between s p end k))

  module _ (start : ℕ) (h : BlockRecords s start end) where
    -- what starts in a block is an instruction
    sections-from : (p : ℕ) → start ≤ p → p ≤ end → Sections is_instruction (sections_at s end (heads_from s p end))
    sections-from p l m =
        let rs = between s p end in
        let parted = between-parted s (p - start) start p end (omega arith) m k in
        let order = chain-behind 2 (between s start p) rs (subst (λ (x : List Record). T (chain 2 x)) parted h.body.0) in
        let kinds : Kinds in_block rs = (all_apart (λ r. in_block (kind r)) (between s start p) rs (subst (Kinds in_block) parted (in-block (between s start end) h.body))).1 in
        let ts = (cut opens_item rs).sections in
        let all-instructions : Sections is_instruction ts =
        all-and (opened opens_item) (λ t. chained t && all (λ r. in_block (kind r)) (whole t)) ts (cut_opened opens_item rs).1
        (all-and chained (λ t. all (λ r. in_block (kind r)) (whole t)) ts (cut-chained opens_item rs order.0 order.1).1 (cut-kinds opens_item in_block rs kinds).1) in
        let same : ts ≡ sections_at s end (heads_from s p end) =
        ap (λ (c : Cut). c.sections) (cut-between s opens_item p end m k)
        ∙ ap (sections_at s end)
        (places_same opens_item (eqb 4) p rs
        (kinds-weaken in_block (λ j. agree (opens_item j) (eqb 4 j))
        (passes_at (λ j. agree (opens_item j) (eqb 4 j)) (3 ∷ 4 ∷ 5 ∷ 6 ∷ 7 ∷ 8 ∷ 9 ∷ []) tt) rs kinds)) in
        subst (Sections is_instruction) same all-instructions

    -- up to the next one
    pub instruction-at : (p : ℕ) → start ≤ p → p < end → T (opens s p) → T (is_instruction (section_at s p (first_or end (heads_from s (suc p) end))))
    instruction-at p l m o =
        and_left (is_instruction (section_at s p (first_or end (heads_from s (suc p) end)))) (all is_instruction (sections_at s end (heads_from s (suc p) end)))
        (subst (λ (ps : List ℕ). Sections is_instruction (sections_at s end ps)) (heads-here p m o) (sections-from p l (omega arith)))

    -- it has a number, if enough are left
    pub numbered-at :
        (p number behind : ℕ) → start ≤ p → p < end → number + length (heads_from s (suc p) end) ≡ behind → length (heads_from s start end) ≤ behind
        → T (opens s p) → 0 < number
    numbered-at p number behind l m counted room o = omega (arith, ap length (heads-here p m o), heads-fewer start p l (omega arith))

    -- only behind an instruction or an argument an argument stands
    unargued : (p q : ℕ) → start ≤ p → p < q → q ≤ end → argues s p ≡ false → opens s p ≡ false → between s (suc p) q ≡ behind_arguments (between s (suc p) q)
    unfolding followers follows
    unargued p q l m n a o =
        test-elim (ltb (suc p) q) (λ t. behind (ltb→lt (suc p) q t))
        (λ t. let same : suc p ≡ q = omega (arith, nltb→le (suc p) q t) in rw (same, between_none s q) refl)
      where
        here : T (chain (kind (record_at s p)) (between s (suc p) end)) × T (in_block (kind (record_at s p)))
        here =
            let rs = between s p end in
            let parted = between-parted s (p - start) start p end (omega arith) (omega arith) k in
            let more = between_more s p end (omega arith) k in
            let order = chain-behind 2 (between s start p) rs (subst (λ (x : List Record). T (chain 2 x)) parted h.body.0) in
            let kinds = (all_apart (λ r. in_block (kind r)) (between s start p) rs (subst (Kinds in_block) parted (in-block (between s start end) h.body))).1 in (
              and_right (follows order.0 (kind (record_at s p))) (chain (kind (record_at s p)) (between s (suc p) end)) (subst (λ (x : List Record). T (chain order.0 x)) more order.1),
              and_left (in_block (kind (record_at s p))) (all (λ r. in_block (kind r)) (between s (suc p) end)) (subst (Kinds in_block) more kinds),
            )

        behind : suc p < q → between s (suc p) q ≡ behind_arguments (between s (suc p) q)
        behind less =
            let next = kind (record_at s (suc p)) in
            let later = between s (suc (suc p)) q in
            let follow : T (follows (kind (record_at s p)) next) =
            and_left (follows (kind (record_at s p)) next) (chain next (between s (suc (suc p)) end))
            (subst (λ (x : List Record). T (chain (kind (record_at s p)) x)) (between_more s (suc p) end (omega arith) k) here.0) in
            let other : eqb next 6 ≡ false =
            test-elim {C = eqb next 6 ≡ false} (eqb next 6)
            (λ t.
            let six : next ≡ 6 = eqb→eq next 6 t in
            let j = kind (record_at s p) in
            let either = passes_at (λ j. not (follows j 6) || (eqb j 6 || eqb j 4)) (3 ∷ 4 ∷ 5 ∷ 6 ∷ 7 ∷ 8 ∷ 9 ∷ []) tt j here.1 in
            absurd (rw (ap (follows j) (sym six), is_true (follows j next) follow, a, o) at either))
            (λ t. is_false (eqb next 6) t) in
            between_more s (suc p) q less (omega arith) ∙ sym (ap behind_arguments (between_more s (suc p) q less (omega arith)) ∙ ap (λ b. cond b (behind_arguments later) (record_at s (suc p) ∷ later)) other)

-- HOW FAR IT HAS COME, at place p, where the instructions from there on start at some places: what is live there but for the
-- arguments that wait, and the lists of those instructions.
pub record ReachedBy (s : List ℕ) (end behind : ℕ) (out : NumberSet) (lent : ℕ → NumberSet) (ps : List ℕ) (p : ℕ) (at : Spot) (live lists : ℕ → NumberSet) : Type 0 where
  pub low : p ≤ at.middle
  pub high : at.middle ≤ first_or end ps
  pub waiting : between s at.middle (first_or end ps) ≡ behind_arguments (between s p (first_or end ps))
  pub number : at.number + length ps ≡ behind
  pub live_here : live 0 ≡ back (function_in s) (between s at.middle (first_or end ps)) (before_all (function_in s) (map instruction_of (sections_at s end ps)) out)
  pub lists_here : lists ≡ fill at.number (crossings_among (function_in s) (map instruction_of (sections_at s end ps)) out) lent

abbrev pub Reached : List ℕ → ℕ → ℕ → NumberSet → (ℕ → NumberSet) → ℕ → Spot → (ℕ → NumberSet) → (ℕ → NumberSet) → Type 0
Reached s end behind out lent p at live lists = ReachedBy s end behind out lent (heads_from s p end) p at live lists

module _ (s : List ℕ) (end behind : ℕ) (out : NumberSet) (lent : ℕ → NumberSet) where
  abbrev f : Function
  f = function_in s

  pub reached-start : (live : ℕ → NumberSet) → live 0 ≡ out → Reached s end behind out lent end (spot end behind) live lent
  reached-start live e =
      let none : heads_from s end end ≡ [] = ap (places (eqb 4) end) (between_none s end) in
      subst (λ (ps : List ℕ). ReachedBy s end behind out lent ps end (spot end behind) live lent) (sym none)
      (record {
        low = omega arith;
        high = omega arith;
        waiting = rw (between_none s end) refl;
        number = omega arith;
        live_here = e ∙ sym (ap (λ (rs : List Record). back f rs out) (between_none s end));
        lists_here = refl;
      })

  -- ONE RECORD FURTHER BACK
  module _ (k : end ≤ record_count s) (p : ℕ) (at : Spot) (live lists : ℕ → NumberSet) (ps : List ℕ) (m : first_or end ps ≤ end)
      (r : ReachedBy s end behind out lent ps (suc p) at live lists) where
    abbrev q : ℕ
    q = first_or end ps

    abbrev behind_it : NumberSet
    behind_it = before_all f (map instruction_of (sections_at s end ps)) out

    here : between s p q ≡ record_at s p ∷ between s (suc p) q
    here = between_more s p q (omega (arith, r.low, r.high)) (omega (arith, k))

    front : (b : Bool) → argues s p ≡ b → behind_arguments (between s p q) ≡ cond b (behind_arguments (between s (suc p) q)) (record_at s p ∷ between s (suc p) q)
    front b e = ap behind_arguments here ∙ ap (λ (c : Bool). cond c (behind_arguments (between s (suc p) q)) (record_at s p ∷ between s (suc p) q)) e

    -- an argument waits,
    reached-argument : argues s p ≡ true → ReachedBy s end behind out lent ps p at live lists
    reached-argument e =
        record {
          low = omega (arith, r.low);
          high = r.high;
          waiting = r.waiting ∙ sym (front true e);
          number = r.number;
          live_here = r.live_here;
          lists_here = r.lists_here;
        }

    -- another record that none waits behind does what it does,
    reached-other :
        argues s p ≡ false → between s (suc p) q ≡ behind_arguments (between s (suc p) q)
        → ReachedBy s end behind out lent ps p (spot p at.number) (update 0 (live_before f (operand_of (record_at s p)) (live 0)) live) lists
    reached-other e alone =
        record {
          low = omega arith;
          high = omega (arith, r.low, r.high);
          waiting = here ∙ sym (front false e);
          number = r.number;
          live_here =
              update_here 0 (live_before f (operand_of (record_at s p)) (live 0)) live
              ∙ ap (live_before f (operand_of (record_at s p))) (r.live_here ∙ ap (λ (rs : List Record). back f rs behind_it) (r.waiting ∙ sym alone))
              ∙ sym (ap (λ (rs : List Record). back f rs behind_it) here);
          lists_here = r.lists_here;
        }

    -- and an instruction has its list, and then its arguments
    reached-instruction :
        0 < at.number → T (is_instruction (section_at s p q))
        → ReachedBy s end behind out lent (p ∷ ps) p (spot p (at.number - 1)) (update 0 (back f (between s (p + 1) at.middle) (live 0)) live)
        (put (at.number - 1) (cond (is_safepoint (encode (record_at s p)).second) (some (live 0)) none) lists)
    reached-instruction numbered h =
        let i = instruction_of (section_at s p q) in
        let crossed : live 0 ≡ across f i behind_it = r.live_here ∙ ap (λ (rs : List Record). back f rs behind_it) r.waiting ∙ back-across f (section_at s p q) h behind_it in
        let next : suc (at.number - 1) ≡ at.number = omega arith in
        let low = r.low in
        record {
          low = omega arith;
          high = omega arith;
          waiting = rw (between_none s p) refl;
          number = omega (arith, r.number);
          live_here =
              update_here 0 (back f (between s (p + 1) at.middle) (live 0)) live
              ∙ ap₂ (λ (n : ℕ) (x : NumberSet). back f (between s n at.middle) x) (add-one p) r.live_here
              ∙ sym (over-append (live_before f) (between s (suc p) at.middle) (between s at.middle q) behind_it)
              ∙ ap (λ (rs : List Record). back f rs behind_it) (sym (between-parted s (at.middle - suc p) (suc p) at.middle q (omega arith) r.high (omega (arith, k))))
              ∙ back-body f (section_at s p q) h behind_it
              ∙ sym (ap (λ (rs : List Record). back f rs (before f i behind_it)) (between_none s p));
          lists_here =
              ap (λ (x : NumberSet). put (at.number - 1) (cond {A = Option NumberSet} i.safepoint (some x) none) lists) crossed
              ∙ ap (put (at.number - 1) (crossing f i behind_it)) (r.lists_here ∙ ap (λ (n : ℕ). fill n (crossings_among f (map instruction_of (sections_at s end ps)) out) lent) (sym next));
        }

  module _ (start : ℕ) (h : BlockRecords s start end) (room : length (heads_from s start end) ≤ behind) where
    reached-more :
        (p : ℕ) → start ≤ p → p < end → (at : Spot) (live lists : ℕ → NumberSet) → Reached s end behind out lent (suc p) at live lists
        → Reached s end behind out lent p (spot_at s p at) (live_at s p at live) (lists_at s p at live lists)
    reached-more p l m at live lists r = go (argues s p) (opens s p) refl refl
      where
        ps : List ℕ
        ps = heads_from s (suc p) end

        bounds : (suc p ≤ first_or end ps) × (first_or end ps ≤ end)
        bounds = heads-bounds s end h.inside (suc p) (omega arith)

        same : (b : Bool) → opens s p ≡ b → heads_from s p end ≡ place_if b p ps
        same b e = heads-more s end h.inside p m ∙ ap (λ (o : Bool). place_if o p ps) e

        at-heads :
            (b : Bool) → opens s p ≡ b → (z : Spot) (live' lists' : ℕ → NumberSet) → ReachedBy s end behind out lent (place_if b p ps) p z live' lists'
            → Reached s end behind out lent p z live' lists'
        at-heads b e z live' lists' = subst (λ (qs : List ℕ). ReachedBy s end behind out lent qs p z live' lists') (sym (same b e))

        go : (a b : Bool) → argues s p ≡ a → opens s p ≡ b
            → Reached s end behind out lent p (spot_by a b p at) (live_by a b s p at live) (lists_by a b s p at live lists)
        go true true a b = absurd (omega (arith, eqb→eq (kind (record_at s p)) 6 (rw a tt), eqb→eq (kind (record_at s p)) 4 (rw b tt)))
        go true false a b = at-heads false b at live lists (reached-argument h.inside p at live lists ps bounds.1 r a)
        go false true a b =
            at-heads true b _ _ _
            (reached-instruction h.inside p at live lists ps bounds.1 r
            (numbered-at s end h.inside start h p at.number behind l m r.number room (rw b tt))
            (instruction-at s end h.inside start h p l m (rw b tt)))
        go false false a b =
            at-heads false b _ _ _
            (reached-other h.inside p at live lists ps bounds.1 r a (unargued s end h.inside start h p (first_or end ps) l bounds.0 bounds.1 a b))

    module _ (p : ℕ) (l : start < p) (m : p ≤ end) (at : Spot) (live lists : ℕ → NumberSet) (r : Reached s end behind out lent p at live lists) where
      -- the same by the code's difference: what the next record asks for,
      pub asked-before : (p - 1 < at.middle) × (at.middle ≤ record_count s) × (T (opens s (p - 1)) → 0 < at.number)
      asked-before =
          let same : p ≡ suc (p - 1) = omega arith in
          let bounds = heads-bounds s end h.inside p m in (
            omega (arith, r.low),
            omega (arith, r.high, bounds.1, h.inside),
            numbered-at s end h.inside start h (p - 1) at.number behind (omega arith) (omega arith)
                (ap (λ (n : ℕ). at.number + length (heads_from s n end)) (sym same) ∙ r.number) room,
          )

      -- and what its step gives
      pub reached-back :
          (next : Spot) (live' lists' : ℕ → NumberSet) → next ≡ spot_at s (p - 1) at → live' ≡ live_at s (p - 1) at live
          → lists' ≡ lists_at s (p - 1) at live lists → Reached s end behind out lent (p - 1) next live' lists'
      reached-back next live' lists' e₁ e₂ e₃ =
          let same : p ≡ suc (p - 1) = omega arith in
          let step =
          reached-more (p - 1) (omega arith) (omega arith) at live lists (subst (λ (n : ℕ). Reached s end behind out lent n at live lists) same r) in
          subst (λ (z : Spot). Reached s end behind out lent (p - 1) z live' lists') (sym e₁)
          (subst (λ (z : ℕ → NumberSet). Reached s end behind out lent (p - 1) (spot_at s (p - 1) at) z lists') (sym e₂)
          (subst (λ (z : ℕ → NumberSet). Reached s end behind out lent (p - 1) (spot_at s (p - 1) at) (live_at s (p - 1) at live) z) (sym e₃) step))
