-- The simulation: related functions have equal traces. An induction on steps that looks only at the path taken: at every
-- step the two runs stand at one point of a path, the same words have arrived there, and their machines agree through that
-- path's ghost.
use Rattle.std.specs.Prelude.{ℕ, zero, suc, ◌+◌, ◌%◌, ◌≡◌, refl, ◌⊎◌, Bool, true, false, List, [], ◌∷◌, map, length, get_or, T, is_ok}
use Rattle.std.proofs.Common.{arith, mod-lt, sym, ap, ap₂, subst, subst₂, ◌∙◌, inl, inr}
use Rattle.std.proofs.Math.Option.{Option, none, some}
use Rattle.rules.specs.Lists.{has, nothing, up_from}
use Rattle.rules.specs.Tree.{Edge, MapEntry, Instruction, Item, instruction, slot_address, store, load, jump, Block, Function}
use Rattle.rules.specs.Records.{bit, IsBytes}
use Rattle.rules.specs.Graph.{block_at, is_marked}
use Rattle.rules.specs.TwoRuns.{World, Mover, Seen, Machine, define, set_arrived, passed, Step, Next, meets, along, ends}
use Rattle.rules.specs.TwoRuns.{meet, enter_block, follow, take_step, run, trace}
use Rattle.rules.specs.File.{function_in}
use Rattle.rules.specs.Services.{rewriting_answer}
use Rattle.rules.specs.Demand3.{every_instruction, Dominated, final_file, Demand3}
use Rattle.simulation.specs.Ghost.{Ghost, nothing_known, past, defining, stepping, passing, binding}
use Rattle.simulation.specs.Related.{Paired, numbers, IsBlock, at, crossing, replaced, is_added, Shape, done, kept, added, lands}
use Rattle.simulation.specs.Related.{refilled, Reached, Passes, Lands, Related}
use Rattle.simulation.specs.Agreement.{Against, Agrees, against, agrees-nothing, arrived-agrees, ran, ran-arrived, added-agrees}
use Rattle.simulation.specs.Agreement.{arrive_same, defining-agrees}
use Rattle.simulation.specs.Stepping.{made, none-given, original_behind, rewritten_behind, stepped-agrees}
use Rattle.simulation.specs.Passing.{read_same, passing-same, jumping-same, passed-mean, binding-agrees}
use Rattle.simulation.specs.Blocks.{found_some, found-block, found-landing, entered, enter-found, each-length, each_at}

-- what is seen of a step, by its parts
abbrev seen : Option (List ℕ) → ℕ → Bool → Bool → ℕ → List ℕ → Option ℕ → Seen
seen arrived number safepoint terminator tag arguments edge =
    record {
      arrived = arrived;
      number = number;
      safepoint = safepoint;
      terminator = terminator;
      tag = tag;
      arguments = arguments;
      edge = edge;
    }

module _ (f g : Function) (related : Related f g) (world : World) (mover : Mover) where
  -- the original's run, in which the marked values move, and the rewritten one's, in which only listed slots do
  abbrev meet_o : List Item → ℕ → Machine → Next
  meet_o = meet f every_instruction (is_marked f) world mover

  abbrev meet_r : List Item → ℕ → Machine → Next
  meet_r = meet g every_instruction nothing world mover

  abbrev enter_o : ℕ → List ℕ → Machine → Next
  enter_o = enter_block f every_instruction (is_marked f) world mover

  abbrev enter_r : ℕ → List ℕ → Machine → Next
  enter_r = enter_block g every_instruction nothing world mover

  abbrev follow_o : ℕ → Next → Option Step
  follow_o = follow f every_instruction (is_marked f) world mover

  abbrev follow_r : ℕ → Next → Option Step
  follow_r = follow g every_instruction nothing world mover

  abbrev take_o : ℕ → ℕ → Step → Seen × Next
  take_o = take_step f every_instruction (is_marked f) world mover

  abbrev take_r : ℕ → ℕ → Step → Seen × Next
  take_r = take_step g every_instruction nothing world mover

  abbrev run_o : ℕ → ℕ → ℕ → Next → List Seen
  run_o = run f every_instruction (is_marked f) world mover

  abbrev run_r : ℕ → ℕ → ℕ → Next → List Seen
  run_r = run g every_instruction nothing world mover

  -- two steps that are about to be taken, of an instruction and of the same one rewritten
  data Tied : Step → Step → Type 0 where
    tied : (i : Instruction) (xs : List ℕ) (es : List Edge) (ms : List MapEntry) (n : ℕ) (is js : List Item) (mo m : Machine) (γ : Ghost)
        → Reached f g (at (instruction i ∷ is)) (instruction (replaced i xs es ms) ∷ js) γ → Shape (at is) js
        → mo.arrived ≡ m.arrived → Agrees (against mo none-given none-given) γ m
        → Tied (record { at = i; number = n; behind = is; machine = mo })
        (record { at = replaced i xs es ms; number = n; behind = js; machine = m })

  data TiedNext : Next → Next → Type 0 where
    end : TiedNext ends ends
    met : {s s' : Step} → Tied s s' → TiedNext (meets s) (meets s')

  data TiedMet : Option Step → Option Step → Type 0 where
    end : TiedMet none none
    met : {s s' : Step} → Tied s s' → TiedMet (some s) (some s')

  -- added items are run through
  meet-added : (x : Item) (js : List Item) (n : ℕ) (m : Machine) → T (is_added x)
      → meet_r (x ∷ js) n m ≡ meet_r js n (ran x m)
  meet-added (instruction _) js n m t = absurd t
  meet-added (slot_address _ _) js n m t = refl
  meet-added (store _ _) js n m t = refl
  meet-added (load _ _ _) js n m t = refl
  meet-added (jump _) js n m t = absurd t

  meets-tied : {is js : List Item} → Shape (at is) js → (n : ℕ) (mo m : Machine) (γ : Ghost)
      → Reached f g (at is) js γ → mo.arrived ≡ m.arrived → Agrees (against mo none-given none-given) γ m
      → TiedNext (meet_o is n mo) (meet_r js n m)
  meets-tied done n mo m γ p e a = end
  meets-tied (kept i xs es ms {is} {js} _ s) n mo m γ p e a = met (tied i xs es ms n is js mo m γ p s e a)
  meets-tied {is} (added x {js = js} t s) n mo m γ p e a =
      subst (TiedNext (meet_o is n mo)) (sym (meet-added x js n m t))
      (meets-tied s n mo (ran x m) (past x γ) (Reached.added t p) (e ∙ sym (ran-arrived x m))
      (added-agrees (against mo none-given none-given) x a))

  -- a landing comes to its jump
  record AtJump (e : Edge) (o : Against) (next : Next) : Type 0 where
    edge : Edge
    behind : List Item
    ghost : Ghost
    machine : Machine
    reached : Reached f g (crossing e) (jump edge ∷ behind) ghost
    agrees : Agrees o ghost machine
    comes : next ≡ along edge machine

  jumps-on : {e : Edge} {js : List Item} → Shape (crossing e) js → (n : ℕ) (m : Machine) (γ : Ghost) (o : Against)
      → Reached f g (crossing e) js γ → Agrees o γ m → AtJump e o (meet_r js n m)
  jumps-on {e} (added x {js = js} t s) n m γ o p a =
      subst (AtJump e o) (sym (meet-added x js n m t)) (jumps-on s n (ran x m) (past x γ) o (Reached.added t p) (added-agrees o x a))
  jumps-on (lands e e') n m γ o p a =
      record { edge = e'; behind = []; ghost = γ; machine = m; reached = p; agrees = a; comes = refl }

  -- both enter one block of the original
  enters : (t : ℕ) → T (has t (numbers f.blocks)) → (ws : List ℕ) (mo m : Machine) (γ : Ghost) (r e : ℕ → ℕ)
      → Agrees (against mo r e) γ m
      → ((b b' : Block) → IsBlock f t b → IsBlock g t b' → Reached f g (at b.items) b'.items (defining b'.parameters γ))
      → TiedNext (enter_o t ws mo) (enter_r t ws m)
  enters t known ws mo m γ r e a onto =
      let original = found_some 0 t f.blocks known in
      let b = original.0.1 in
      let given : ℕ → ℕ = λ j. get_or ws j 0 in
      let again = found-block related.laid t known 0 original.0 original.1 in
      let inside_o = define b.parameters given mo in
      let inside_r = define b.parameters given m in
      let arrived_o = some (map inside_o.words b.parameters) in
      let arrived_r = some (map inside_r.words b.parameters) in
      subst₂ TiedNext
      (sym (enter-found f (is_marked f) world mover ws mo 0 t f.blocks ∙ ap (entered f (is_marked f) world mover ws mo) original.1))
      (sym (enter-found g nothing world mover ws m 0 t g.blocks ∙ ap (entered g nothing world mover ws m) again.1))
      (meets-tied again.2 original.0.0 (set_arrived arrived_o inside_o) (set_arrived arrived_r inside_r) (defining b.parameters γ)
      (onto b (refilled b again.0) (original.0.0, original.1) (original.0.0, again.1))
      (ap some (arrive_same given b.parameters mo m))
      (arrived-agrees inside_r arrived_r (defining-agrees given 0 b.parameters mo m r e none-given none-given γ a)))

  follow-tied : (u v : ℕ) {x y : Next} → TiedNext x y → TiedMet (follow_o (suc u) x) (follow_r (suc v) y)
  follow-tied u v end = end
  follow-tied u v (met t) = met t

  -- out of a landing both enter the block to which the original's edge leads
  after-landing : (e : Edge) (mo : Machine) (r x : ℕ → ℕ) (next : Next) (u v : ℕ) → AtJump e (against mo r x) next
      → TiedMet (follow_o (suc u) (enter_o e.target (passed mo.words r x e.arguments) mo)) (follow_r (suc (suc v)) next)
  after-landing e mo r x next u v q =
      let words = passed mo.words r x e.arguments in
      let m = q.machine in
      let h = related.jumps q.reached in
      let original = follow_o (suc u) (enter_o e.target words mo) in
      subst (λ n. TiedMet original (follow_r (suc (suc v)) n)) (sym q.comes)
      (subst₂
      (λ t vs. TiedMet original (follow_r (suc v) (enter_r t vs m)))
      (sym h.target) (jumping-same mo r x q.ghost m q.agrees e.arguments q.edge.arguments h.arguments)
      (follow-tied u v
      (enters e.target h.in-file words mo m q.ghost r x q.agrees
      (λ b b' k k'.
      Reached.landed q.reached (subst (λ t. IsBlock f t b) (sym h.target) k) (subst (λ t. IsBlock g t b') (sym h.target) k')))))

  -- BY AN EDGE. From the point of an instruction, after which the original has mo and returns r and throws x: both go by
  -- one of its edges, the rewritten run perhaps through a landing, and meet tied steps.
  module _ {i j : Instruction} {is js : List Item} {γ : Ghost} (p : Reached f g (at (instruction i ∷ is)) (instruction j ∷ js) γ)
      (mo m : Machine) (r x : ℕ → ℕ) (a : Agrees (against mo r x) (stepping (is_marked f) j γ) m) (u v : ℕ) where
    abbrev after : Ghost
    after = stepping (is_marked f) j γ

    abbrev Crossed : Edge → ℕ → List ℕ → Type 0
    Crossed e t ws =
        TiedMet (follow_o (suc u) (enter_o e.target (passed mo.words r x e.arguments) mo))
        (follow_r (suc (suc v)) (enter_r t ws m))

    passes : (e e' : Edge) → Paired e e' i.edges j.edges → Passes f (passing after) e e'
        → Crossed e e'.target (passed m.words r x e'.arguments)
    passes e e' pair h =
        subst₂ (Crossed e) (sym h.target) (passing-same mo r x after m a e.arguments e'.arguments h.arguments)
        (follow-tied u (suc v)
        (enters e.target h.in-file (passed mo.words r x e.arguments) mo m after r x a
        (λ b b' k k'.
        Reached.direct p pair (subst (λ t. IsBlock f t b) (sym h.target) k) (subst (λ t. IsBlock g t b') (sym h.target) k'))))

    lands-on : (e e' : Edge) → Paired e e' i.edges j.edges → Lands f g e'
        → Crossed e e'.target (passed m.words r x e'.arguments)
    lands-on e e' pair h =
        let ws = passed m.words r x e'.arguments in
        let given = map (passing after) e'.arguments in
        let l = found_some 0 e'.target g.blocks h.in-file in
        let ps = l.0.1.parameters in
        let inside = define ps (λ k. get_or ws k 0) m in
        let arrived = some (map inside.words ps) in
        let jumped =
        jumps-on {e = e} (found-landing related.laid e'.target h.new 0 l.0 l.1 e) l.0.0
        (set_arrived arrived inside) (binding ps given after) (against mo r x)
        (Reached.landing p pair h.new (l.0.0, l.1))
        (arrived-agrees inside arrived
        (binding-agrees (against mo r x) ps given ws after m (passed-mean mo r x after m a e'.arguments) a)) in
        subst
        (λ n. TiedMet (follow_o (suc u) (enter_o e.target (passed mo.words r x e.arguments) mo)) (follow_r (suc (suc v)) n))
        (sym (enter-found g nothing world mover ws m 0 e'.target g.blocks ∙ ap (entered g nothing world mover ws m) l.1))
        (after-landing e mo r x _ u v jumped)

    crosses : (e e' : Edge) → Paired e e' i.edges j.edges → Passes f (passing after) e e' ⊎ Lands f g e'
        → Crossed e e'.target (passed m.words r x e'.arguments)
    crosses e e' pair (inl h) = passes e e' pair h
    crosses e e' pair (inr h) = lands-on e e' pair h

  -- A STEP
  abbrev behind_o : ℕ → Instruction → (ℕ → ℕ) → Machine → Machine
  behind_o = original_behind f g world mover

  abbrev behind_r : ℕ → Instruction → (ℕ → ℕ) → Machine → Machine
  behind_r = rewritten_behind f g world mover

  -- what is seen of two steps is the same, and they lead to tied ones
  abbrev Led : Seen × Next → Seen × Next → Type 0
  Led t t' =
      (t.0 ≡ t'.0) × TiedMet (follow_o (suc (suc (length f.blocks))) t.1) (follow_r (suc (suc (length g.blocks))) t'.1)

  leads : (k c : ℕ) (safepoint terminator : Bool) (tag : ℕ) (vs xs rs : List ℕ) (es es' : List Edge) (cs : List ℕ)
      (entries ms : List MapEntry) (n : ℕ) (is js : List Item) (mo m : Machine) (γ : Ghost)
      → Reached f g (at (instruction (made safepoint terminator tag vs rs es cs entries) ∷ is))
      (instruction (made safepoint terminator tag xs rs es' cs ms) ∷ js) γ
      → Shape (at is) js → mo.arrived ≡ m.arrived → Agrees (against mo none-given none-given) γ m
      → Led
      (take_o k c (record { at = made safepoint terminator tag vs rs es cs entries; number = n; behind = is; machine = mo }))
      (take_r k c (record { at = made safepoint terminator tag xs rs es' cs ms; number = n; behind = js; machine = m }))
  leads k c safepoint true tag vs xs rs [] [] cs entries ms n is js mo m γ p s q a =
      rw (← (read_same mo none-given none-given γ m a vs xs (related.arguments p))) (
        ap (λ ws. seen ws n safepoint true tag (map mo.words vs) none) q,
        end,
      )
  leads k c safepoint false tag vs xs rs [] [] cs entries ms n is js mo m γ p s q a =
      let i = made safepoint false tag vs rs [] cs entries in
      let given = world.results k n (map mo.words vs) in
      rw (← (read_same mo none-given none-given γ m a vs xs (related.arguments p))) (
        ap (λ ws. seen ws n safepoint false tag (map mo.words vs) none) q,
        follow-tied (suc (length f.blocks)) (suc (length g.blocks))
            (meets-tied s (suc n) (behind_o c i given mo) (behind_r c (replaced i xs [] ms) given m)
            (stepping (is_marked f) (replaced i xs [] ms) γ) (Reached.onward p) refl
            (stepped-agrees f g world mover c i xs [] ms given mo m γ none-given none-given a)),
      )
  leads k c safepoint terminator tag vs xs rs [] (e' ∷ es') cs entries ms n is js mo m γ p s q a = absurd (related.edges p)
  leads k c safepoint terminator tag vs xs rs (e ∷ es) [] cs entries ms n is js mo m γ p s q a = absurd (related.edges p)
  leads k c safepoint terminator tag vs xs rs (e ∷ es) (e' ∷ es') cs entries ms n is js mo m γ p s q a =
      let i = made safepoint terminator tag vs rs (e ∷ es) cs entries in
      let j = replaced i xs (e' ∷ es') ms in
      let words = map mo.words vs in
      let given = world.results k n words in
      let r = world.returned k n words in
      let x = world.exception k n words in
      let taken = world.edge k n words % suc (length es) in
      let Fits : Edge → Edge → Type 0 = λ e₁ e₂. Passes f (passing (stepping (is_marked f) j γ)) e₁ e₂ ⊎ Lands f g e₂ in
      let all = related.edges p in
      let one = each_at Fits (e ∷ es) (e' ∷ es') all taken e e' (mod-lt (world.edge k n words) (omega arith)) in
      rw (← (read_same mo none-given none-given γ m a vs xs (related.arguments p)), ← (each-length Fits es es' all.1)) (
        ap (λ ws. seen ws n safepoint terminator tag words (some taken)) q,
        crosses p (behind_o c i given mo) (behind_r c j given m) r x
            (stepped-agrees f g world mover c i xs (e' ∷ es') ms given mo m γ r x a) (suc (length f.blocks)) (length g.blocks)
            (get_or (e ∷ es) taken e) (get_or (e' ∷ es') taken e') one.1 one.0,
      )

  takes : (k c : ℕ) {s s' : Step} → Tied s s' → Led (take_o k c s) (take_r k c s')
  takes k c (tied i xs es ms n is js mo m γ p s q a) =
      leads k c i.safepoint i.terminator i.tag i.arguments xs i.results i.edges es i.contexts i.entries ms
      n is js mo m γ p s q a

  -- RUNS
  tied-safepoint : {s s' : Step} → Tied s s' → s.at.safepoint ≡ s'.at.safepoint
  tied-safepoint (tied i xs es ms n is js mo m γ p s q a) = refl

  -- two ends of a step lead to tied steps, or to none
  abbrev Follow : Next → Next → Type 0
  Follow x y = TiedMet (follow_o (suc (suc (length f.blocks))) x) (follow_r (suc (suc (length g.blocks))) y)

  runs : (n k c : ℕ) (x y : Next) → Follow x y → run_o n k c x ≡ run_r n k c y
  runs zero k c x y h = refl
  runs (suc n) k c x y h = go h (runs n)
    where
      go : {z z' : Option Step} → TiedMet z z' → ((k c : ℕ) (x y : Next) → Follow x y → run_o n k c x ≡ run_r n k c y)
          → ◌≡◌ {A = List Seen}
          (elim z [
            | none ↦ []
            | some s ↦ let t = take_o k c s in t.0 ∷ run_o n (suc k) (c + bit s.at.safepoint) t.1
          ])
          (elim z' [
            | none ↦ []
            | some s ↦ let t = take_r k c s in t.0 ∷ run_r n (suc k) (c + bit s.at.safepoint) t.1
          ])
      go end later = refl
      go (met {s} {s'} t) later =
          let led = takes k c t in
          let next = take_o k c s in
          let next' = take_r k c s' in
          ap₂ (λ z zs. z ∷ zs) led.0
          (later (suc k) (c + bit s.at.safepoint) next.1 next'.1 led.1
          ∙ ap (λ b. run_r n (suc k) (c + bit b) next'.1) (tied-safepoint t))

  starts : (mo m : Machine) (ws : List ℕ) → TiedNext (enter_o 0 ws mo) (enter_r 0 ws m)
  starts mo m ws =
      enters 0 related.begins ws mo m nothing_known none-given none-given (agrees-nothing (against mo none-given none-given) m)
      (λ b b' k k'. Reached.start k k')

-- Related functions have equal traces: for every world, mover, number of steps, and first content of the words and slots of
-- each run, the original, in which the marked values defined so far move, and the rewritten function, in which only listed
-- slots move, are seen to do the same.
pub related-traces : (f g : Function) → Related f g
    → (world : World) (mover : Mover) (words words' slots slots' : ℕ → ℕ) (steps : ℕ)
    → trace f every_instruction (is_marked f) world mover words slots steps ≡ trace g every_instruction nothing world mover words' slots' steps
unfolding trace
related-traces f g related world mover words words' slots slots' steps =
    let ws = map world.entry (up_from 0 (length (block_at f 0).parameters)) in
    let mo : Machine = record { words = words; defined = nothing; slots = slots; arrived = none } in
    let m : Machine = record { words = words'; defined = nothing; slots = slots'; arrived = none } in
    runs f g related world mover steps 0 0
    (enter_block f every_instruction (is_marked f) world mover 0 ws mo) (enter_block g every_instruction nothing world mover 0 ws m)
    (follow-tied f g related world mover (suc (length f.blocks)) (suc (length g.blocks)) (starts f g related world mover mo m ws))
    ∙ ap
    (λ ps.
    run g every_instruction nothing world mover steps 0 0
    (enter_block g every_instruction nothing world mover 0 (map world.entry (up_from 0 (length {A = ℕ} ps))) m))
    (sym related.first)

-- So demand 3 holds once every accepted file in which every use is dominated is related to what rewriting leaves of it.
pub demand3-by-relation :
    ((s : List ℕ) (pointer n : ℕ) → IsBytes s → T (is_ok (rewriting_answer s pointer n)) → Dominated (function_in s)
    → Related (function_in s) (function_in (final_file s pointer n)))
    → Demand3
unfolding Demand3
demand3-by-relation h s pointer n is_bytes accepted dominated =
    related-traces (function_in s) (function_in (final_file s pointer n)) (h s pointer n is_bytes accepted dominated)
