-- ALL REACHABLE BLOCKS by ascending index, each in its own places.
use Prim.Native.Nat.{ℕ, zero, suc, ◌+◌, ◌-◌, ◌<◌, ◌≤◌}
use Rattle.std.specs.Prelude.{◌≡◌, refl, false, not, length, get_or, take, T, eqb, ltb}
use Rattle.std.proofs.Common.{sym, ap, ap₂, subst, ◌∙◌, add-one, take-suc, take_all, eqb→eq, ltb→lt, nltb→le}
use mathlib.Core.List.{List, [], ◌∷◌, ◌++◌, map, Nodup, Nodup-cons}
use native.Mathlib.Omega.{arith}
use Rattle.std.proofs.Math.Dec.{not_T, eqb_refl}
use Rattle.rules.specs.Lists.{has, nothing}
use Rattle.rules.specs.Tree.{Function}
use Rattle.rules.specs.Records.{record_count}
use Rattle.rules.specs.File.{function_in}
use Rattle.rules.specs.Graph.{reachable}
use Rattle.rules.specs.Plan.{BlockPlan, for_each, plan_block}
use Rattle.lists.specs.Lack.{lack, lack-insert}
use Rattle.lists.specs.Maps.{map-append}
use Rattle.lists.specs.Members.{◌∈◌, here, there, has→∈, ∈→has, get_d-∈}
use Rattle.lists.specs.Tests.{test-elim, or_elim, or_left, or_right, is_true}
use Rattle.walks.specs.InFile.{reachable-in-file}
use Rattle.walks.specs.Reachable.{reachable-nodup}
use Rattle.graph.specs.Blocks.{place_of, place-le, place-less}
use Rattle.graph.specs.ByTable.{some, block-at-index, block_listed}
use Rattle.graph.specs.Links.{Walked}
use Rattle.graph.specs.Zeros.{Zeros, zeros-at}
use Rattle.listing.specs.Firsts.{Firsts}
use Rattle.numbering.specs.Beside.{block_plan_at}
use Rattle.planning.specs.Standing.{Tables, plan_of, Kept}
use Rattle.spiller.specs.Instructions.{any_kind}
use Rattle.planning_edges.specs.Noted.{Within, Able, able-less, able-then, Noted, noted-none, noted_more}
use Rattle.planning_edges.specs.Stable.{Agree, mades-same}
use Rattle.planner.specs.Backward.{plans-same}
use Rattle.planner.specs.Blocks.{BlockGiven, BlockReady, BlockNoted}
use Rattle.planner.specs.BlockTables.{PlanTables, block-given}

-- the places of some blocks' records, and how many they are
abbrev pub InBlocks : List ℕ → List ℕ → ℕ → Type 0
InBlocks s bs i = (b : ℕ) × T (has b bs) × Within s any_kind (place_of s b) (place_of s (suc b)) i

abbrev pub width : List ℕ → ℕ → ℕ
width s b = place_of s (suc b) - place_of s b

abbrev pub widths : List ℕ → List ℕ → ℕ
widths s [] = 0
widths s (b ∷ bs) = widths s bs + width s b

-- what is noted beside them
abbrev pub BlocksNoted : List ℕ → ℕ → List ℕ → Tables → List ℕ → Tables → List ℕ → Type 0
BlocksNoted s pointer bs =
    Noted (function_in s) (InBlocks s bs) (λ ns. map (block_plan_at s ns) bs) (for_each (plan_block (function_in s) pointer) bs) (widths s bs)

-- LISTS of different blocks
fresh_at : (xs : List ℕ) → Nodup xs → (i : ℕ) → i < length xs → T (has (get_or xs i 0) (take i xs)) → ⊥
fresh_at [] d i l h = omega arith
fresh_at (x ∷ xs) d zero l h = h
fresh_at (x ∷ xs) d (suc i) l h =
    let parts = Nodup-cons.0 d in
    or_elim (eqb (get_or xs i 0) x) (has (get_or xs i 0) (take i xs))
    (λ e. parts.0 ∣ subst (λ (y : ℕ). y ∈ xs) (eqb→eq (get_or xs i 0) x e) (get_d-∈ xs i 0 (omega arith)) ∣₁)
    (λ e. fresh_at xs parts.1 i (omega arith) e) h

has-take : (xs : List ℕ) (i v : ℕ) → T (has v (take i xs)) → v ∈ xs
has-take xs zero v h = absurd h
has-take [] (suc i) v h = absurd h
has-take (x ∷ xs) (suc i) v h = or_elim (eqb v x) (has v (take i xs)) (λ e. here (eqb→eq v x e)) (λ e. there (has-take xs i v e)) h

widths-append : (s xs : List ℕ) (b : ℕ) → widths s (xs ++ (b ∷ [])) ≡ widths s xs + width s b
widths-append s [] b = refl
widths-append s (x ∷ xs) b = omega (arith, widths-append s xs b)

widths-take : (s xs : List ℕ) (i : ℕ) → widths s (take i xs) ≤ widths s xs
widths-take s xs zero = omega arith
widths-take s [] (suc i) = omega arith
widths-take s (x ∷ xs) (suc i) = omega (arith, widths-take s xs i)

module _ (s : List ℕ) where
  abbrev f : Function
  f = function_in s

  abbrev n : ℕ
  n = length f.blocks

  widths-lack : (l : List ℕ) → Nodup l → ((x : ℕ) → x ∈ l → x < n) → widths s l + lack (width s) n (λ x. has x l) ≤ lack (width s) n nothing
  widths-lack [] d h = omega arith
  widths-lack (b ∷ l) d h =
      let parts = Nodup-cons.0 d in
      let new : T (not (has b l)) = not_T (has b l) (λ k. parts.0 ∣ has→∈ l k ∣₁) in
      omega (
        arith,
        widths-lack l parts.1 (λ x m. h x (there m)),
        lack-insert (width s) n (λ x. has x l) b (h b (here refl)) new,
      )

  lack-all : (k : ℕ) → k ≤ n → lack (width s) k nothing ≤ place_of s k
  unfolding lack
  lack-all zero l = omega arith
  lack-all (suc k) l = omega (arith, lack-all k (omega arith), place-less s k (omega arith))

  -- blocks stand one behind the other
  place_up : (k b c : ℕ) → b + k ≡ c → c ≤ n → place_of s b ≤ place_of s c
  place_up zero b c e l = let same : c ≡ b = omega arith in rw same (omega arith)
  place_up (suc k) b c e l = omega (arith, place-less s b (omega arith), place_up k (suc b) c (omega arith) l)

  apart : (b c i : ℕ) → b < n → c < n → (b ≡ c → ⊥) → Within s any_kind (place_of s b) (place_of s (suc b)) i → Within s any_kind (place_of s c) (place_of s (suc c)) i → ⊥
  apart b c i l m other x y =
      test-elim (ltb b c)
      (λ h. let less = ltb→lt b c h in omega (arith, x.1, y.0, place_up (c - suc b) (suc b) c (omega arith) (omega arith)))
      (λ h. let more = nltb→le b c h in omega (arith, x.0, y.1, place_up (b - suc c) (suc c) b (omega (arith, other)) (omega arith)))

  block_same : (b : ℕ) → b < n → (ns ms : List ℕ) → Agree (Within s any_kind (place_of s b) (place_of s (suc b))) ns ms → block_plan_at s ns b ≡ block_plan_at s ms b
  block_same b l ns ms same =
      let up = place-less s b l in
      let inside = place-le s (suc b) l in
      let ps = mades-same s ns ms 3 (suc (place_of s b)) (place_of s (suc b)) up inside (λ i w. same i (omega (arith, w.0), w.1, tt)) in
      let is = plans-same s ns ms (suc (place_of s b)) (place_of s (suc b)) up inside (λ i w. same i (omega (arith, w.0), w.1, tt)) in
      λ j. record { parameters = ps j; instructions = is j }

  blocks-same : (ns ms bs : List ℕ) → ((b : ℕ) → T (has b bs) → block_plan_at s ns b ≡ block_plan_at s ms b) → map (block_plan_at s ns) bs ≡ map (block_plan_at s ms) bs
  blocks-same ns ms [] h = refl
  blocks-same ns ms (b ∷ bs) h =
      ap₂ (λ (x : BlockPlan) (xs : List BlockPlan). x ∷ xs) (h b (or_left (eqb b b) (has b bs) (eqb_refl b)))
      (blocks-same ns ms bs (λ c m. h c (or_right (eqb c b) (has c bs) m)))

-- THE LOOP
module _ (s places order table outs firsts : List ℕ) (count : ℕ) (w : Walked s places order count) (g : PlanTables s places table outs) (numbered : Firsts s firsts)
    (t : Tables) (numbers : List ℕ) where
  abbrev function : Function
  function = function_in s

  abbrev done : ℕ → List ℕ
  done i = take i (reachable function)

  pub blocks_start : (pointer : ℕ) → BlocksNoted s pointer (done 0) t numbers t numbers
  blocks_start pointer =
      noted-none function (InBlocks s []) (λ ns. map (block_plan_at s ns) []) (for_each (plan_block function pointer) []) 0 t numbers refl

  below : (b : ℕ) → b ∈ reachable function → b < length function.blocks
  below b m = reachable-in-file function g.given.in_file (some s places g.given) m

  -- their records are no more than the file's
  pub all_fit : widths s (reachable function) ≤ record_count s
  all_fit =
      let k = length function.blocks in
      omega (
        arith,
        widths-lack s (reachable function) (reachable-nodup function) below,
        lack-all s k (omega arith),
        place-le s k (omega arith),
      )

  module _ (i : ℕ) (l : i < count) where
    in_range : i < length (reachable function)
    in_range = omega (arith, w.counted)

    member : get_or order i 0 ∈ reachable function
    member = subst (λ (x : ℕ). x ∈ reachable function) (sym (block-at-index w i)) (get_d-∈ (reachable function) i 0 in_range)

    other : (c : ℕ) → T (has c (done i)) → get_or order i 0 ≡ c → ⊥
    other c h e =
        fresh_at (reachable function) (reachable-nodup function) i in_range
        (subst (λ (x : ℕ). T (has x (done i))) (sym (sym (block-at-index w i) ∙ e)) h)

    next : done (i + 1) ≡ done i ++ (get_or order i 0 ∷ [])
    next =
        ap (λ (k : ℕ). take k (reachable function)) (add-one i) ∙ take-suc (reachable function) i 0 in_range
        ∙ ap (λ (x : ℕ). done i ++ (x ∷ [])) (sym (block-at-index w i))

    pub block_read : (get_or order i 0 + 1 < length firsts) × BlockGiven s table outs (get_or order i 0) (get_or firsts (get_or order i 0 + 1) 0) (get_or places (get_or order i 0) 0 + 1) (get_or places (get_or order i 0 + 1) 0)
    block_read =
        let low = block_listed w i l in
        let room = numbered.room in
        (omega arith, block-given s places table outs firsts g numbered (get_or order i 0) low (is_true (has (get_or order i 0) (reachable function)) (∈→has member)))

    module _ (pointer : ℕ) (u : Tables) (ms : List ℕ) (a : BlocksNoted s pointer (done i) t numbers u ms) where
      pub block-ready : Zeros numbers → record_count s ≤ length numbers → Able function t (record_count s) → BlockReady s (get_or order i 0) u ms
      block-ready zeros room able =
          let low = block_listed w i l in
          let spent = widths s (done i) in
          let fits : spent + width s (get_or order i 0) ≤ record_count s =
          omega (arith, sym (widths-append s (done i) (get_or order i 0)) ∙ ap (widths s) (sym next), widths-take s (reachable function) (i + 1), all_fit) in
          let parts : record_count s ≡ spent + (record_count s - spent) = omega arith in
          record {
            able =
                able-less function u (record_count s - spent) (width s (get_or order i 0)) (omega arith)
                (able-then function t u spent (record_count s - spent) a.kept a.blocks (subst (λ (k : ℕ). Able function t k) parts able));
            blank = λ j x. a.same j (λ z. apart s (get_or order i 0) z.0 j low (below z.0 (has-take (reachable function) i z.0 z.1)) (other z.0 z.1) x z.2) ∙ zeros-at zeros j;
            long = omega (arith, a.long, place-le s (suc (get_or order i 0)) low);
          }

      pub block-turn :
          pointer ≡ t.progress.pointer → (v : Tables) (ks : List ℕ) → BlockNoted s u.progress.pointer (get_or order i 0) u ms v ks
          → BlocksNoted s pointer (done (i + 1)) t numbers v ks
      block-turn own v ks step =
          let low = block_listed w i l in
          let x = get_or order i 0 in
          let this = subst (λ (y : ℕ). BlockNoted s y x u ms v ks) (a.kept.pointer ∙ sym own) step in
          let both =
          noted_more function (InBlocks s (done i)) (Within s any_kind (place_of s x) (place_of s (suc x))) (InBlocks s (done i ++ (x ∷ []))) (plan_block function pointer) (done i) x
          (λ ns. map (block_plan_at s ns) (done i)) (λ ns. block_plan_at s ns x) (widths s (done i)) (width s x) t u v numbers ms ks a this
          (λ j z. (z.0, has-front (done i) z.0 z.1, z.2)) (λ j z. (x, has_last (done i), z))
          (blocks-same s ks ms (done i)
          (λ c m. block_same s c (below c (has-take (reachable function) i c m)) ks ms
          (λ j z. this.same j (λ y. apart s x c j low (below c (has-take (reachable function) i c m)) (other c m) y z)))) in
          subst (λ (bs : List ℕ). BlocksNoted s pointer bs t numbers v ks) (sym next)
          (record {
            answer = ap (λ (ps : List BlockPlan). (ps, plan_of function v)) (map-append (block_plan_at s ks) (done i) (x ∷ [])) ∙ both.answer;
            same = both.same;
            kept = subst (λ (k : ℕ). Kept function k t v) (sym (widths-append s (done i) x)) both.kept;
            blocks = omega (arith, both.blocks, widths-append s (done i) x);
            long = both.long;
          })
        where
          has-front : (bs : List ℕ) (c : ℕ) → T (has c bs) → T (has c (bs ++ (get_or order i 0 ∷ [])))
          has-front [] c h = absurd h
          has-front (y ∷ bs) c h =
              or_elim (eqb c y) (has c bs) (λ e. or_left (eqb c y) (has c (bs ++ (get_or order i 0 ∷ []))) e)
              (λ e. or_right (eqb c y) (has c (bs ++ (get_or order i 0 ∷ []))) (has-front bs c e)) h

          has_last : (bs : List ℕ) → T (has (get_or order i 0) (bs ++ (get_or order i 0 ∷ [])))
          has_last [] = or_left (eqb (get_or order i 0) (get_or order i 0)) false (eqb_refl (get_or order i 0))
          has_last (y ∷ bs) = or_right (eqb (get_or order i 0) y) (has (get_or order i 0) (bs ++ (get_or order i 0 ∷ []))) (has_last bs)

  -- at its end all are done
  pub blocks_end : (pointer i : ℕ) (u : Tables) (ms : List ℕ) → count ≤ i → BlocksNoted s pointer (done i) t numbers u ms → BlocksNoted s pointer (reachable function) t numbers u ms
  blocks_end pointer i u ms l a =
      subst (λ (bs : List ℕ). BlocksNoted s pointer bs t numbers u ms) (take_all i (reachable function) (omega (arith, w.counted))) a
