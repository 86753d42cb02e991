-- STEPS WITH THEIR NUMBERS. A part of planning changes numbers only beside the records of an area, and what is read there
-- afterwards is what the rules answer. So parts whose areas are apart compose.
use Rattle.std.specs.Prelude.{ℕ, ◌+◌, ◌<◌, ◌≤◌, ◌≡◌, refl, Bool, List, [], ◌∷◌, ◌++◌, length, get_or, T}
use Rattle.std.proofs.Common.{sym, ap, ap₂, subst, ◌∙◌, arith}
use Rattle.rules.specs.Limits.{largest_records, largest_blocks}
use Rattle.rules.specs.Tree.{Function}
use Rattle.rules.specs.Records.{kind, record_at}
use Rattle.rules.specs.Plan.{Plan, Planning, for_each, for_each_backward}
use Rattle.planning.specs.Standing.{Tables, plan_of, Good, Kept}
use Rattle.planning.specs.Walking.{good-less, kept-none, kept_more}

-- the places from p on and before q, of records of these kinds
abbrev pub Within : List ℕ → (ℕ → Bool) → ℕ → ℕ → ℕ → Type 0
Within s which p q i = (p ≤ i) × (i < q) × T (which (kind (record_at s i)))

-- nothing is noted in an area
abbrev pub Blank : (ℕ → Type 0) → List ℕ → Type 0
Blank area numbers = (i : ℕ) → area i → get_or numbers i 0 ≡ 0

-- numbers are the same beside every place that is not in the area
abbrev pub SameBut : (ℕ → Type 0) → List ℕ → List ℕ → Type 0
SameBut area numbers numbers' = (i : ℕ) → (area i → ⊥) → get_or numbers' i 0 ≡ get_or numbers i 0

-- room for n records more, each of which may make a block
pub record Able (f : Function) (t : Tables) (n : ℕ) : Type 0 where
  pub good : Good f t n
  pub few_blocks : t.progress.blocks + n ≤ largest_blocks + largest_records

-- A STEP that needs room for n records, with the numbers that it notes
pub record Noted (f : Function) (area : ℕ → Type 0) {A : Type 0} (read : List ℕ → A) (m : Planning A) (n : ℕ) (t : Tables) (numbers : List ℕ) (t' : Tables) (numbers' : List ℕ) : Type 0 where
  pub answer : ◌≡◌ {A = A × Plan} (read numbers', plan_of f t') (m (plan_of f t))
  pub same : SameBut area numbers numbers'
  pub kept : Kept f n t t'
  pub blocks : t'.progress.blocks ≤ t.progress.blocks + n
  pub long : length numbers' ≡ length numbers

-- what is noted in one area leaves another blank, if they are apart
pub blank-kept :
    (a b : ℕ → Type 0) (numbers numbers' : List ℕ) → ((i : ℕ) → b i → a i → ⊥) → SameBut a numbers numbers' → Blank b numbers
    → Blank b numbers'
blank-kept a b numbers numbers' apart same blank i h = same i (apart i h) ∙ blank i h

-- room for more is room for fewer
pub able-less : (f : Function) (t : Tables) (n k : ℕ) → k ≤ n → Able f t n → Able f t k
able-less f t n k l able = record { good = good-less f t n k l able.good; few_blocks = omega (arith, able.few_blocks) }

-- the room that a step leaves
pub able-then :
    (f : Function) (t t' : Tables) (n k : ℕ) → Kept f n t t' → t'.progress.blocks ≤ t.progress.blocks + n → Able f t (n + k)
    → Able f t' k
able-then f t t' n k kept blocks able = record { good = kept.good k able.good; few_blocks = omega (arith, able.few_blocks) }

-- nothing is made
pub noted-none :
    (f : Function) (area : ℕ → Type 0) {A : Type 0} (read : List ℕ → A) (m : Planning A) (n : ℕ) (t : Tables) (numbers : List ℕ)
    → ◌≡◌ {A = A × Plan} (read numbers, plan_of f t) (m (plan_of f t)) → Noted f area read m n t numbers t numbers
noted-none f area read m n t numbers e =
    record { answer = e; same = λ i out. refl; kept = kept-none f n t; blocks = omega arith; long = refl }

-- A STEP MORE for a list, from what the steps for its front have left: they are apart, and what the front has noted is
-- read as before.
module _ (f : Function) (area now all : ℕ → Type 0) {A B : Type 0} (k : A → Planning B) (xs : List A) (x : A) (read : List ℕ → List B) (one : List ℕ → B) where
  pub noted_more :
      (n m : ℕ) (t u w : Tables) (ns ms ks : List ℕ) → Noted f area read (for_each k xs) n t ns u ms → Noted f now one (k x) m u ms w ks
      → ((i : ℕ) → area i → all i) → ((i : ℕ) → now i → all i) → read ks ≡ read ms
      → Noted f all (λ numbers. read numbers ++ (one numbers ∷ [])) (for_each k (xs ++ (x ∷ []))) (n + m) t ns w ks
  noted_more n m t u w ns ms ks a b front next still =
      record {
        answer =
            ap₂ (λ (ys : List B) (y : B × Plan). (ys ++ (y.0 ∷ []), y.1)) still b.answer
            ∙ ap (λ (y : List B × Plan). (y.0 ++ ((k x y.1).0 ∷ []), (k x y.1).1)) a.answer
            ∙ sym (each_more xs (plan_of f t));
        same = λ i out. b.same i (λ h. out (next i h)) ∙ a.same i (λ h. out (front i h));
        kept = kept_more f n m t u w a.kept b.kept;
        blocks = omega (arith, a.blocks, b.blocks);
        long = b.long ∙ a.long;
      }
    where
      each_more : (ys : List A) (p : Plan) → for_each k (ys ++ (x ∷ [])) p ≡ (let r = for_each k ys p in (r.0 ++ ((k x r.1).0 ∷ []), (k x r.1).1))
      each_more [] p = refl
      each_more (y ∷ ys) p = ap (λ (r : List B × Plan). ((k y p).0 ∷ r.0, r.1)) (each_more ys (k y p).1)

-- WHAT A STEP ASKS FOR: room for n records, and places for numbers up to place q, with none in its area
pub record Ready (f : Function) (area : ℕ → Type 0) (q n : ℕ) (t : Tables) (numbers : List ℕ) : Type 0 where
  pub able : Able f t n
  pub blank : Blank area numbers
  pub long : q ≤ length numbers

-- the rest of an area
infixl 20 ◌without◌
abbrev pub ◌without◌ : (ℕ → Type 0) → (ℕ → Type 0) → ℕ → Type 0
◌without◌ all area i = all i × (area i → ⊥)

-- what is left for the next steps
pub ready-then :
    (f : Function) (all area : ℕ → Type 0) {A : Type 0} (read : List ℕ → A) (m : Planning A) (q n k total : ℕ) (t t' : Tables) (numbers numbers' : List ℕ)
    → n + k ≡ total → Ready f all q total t numbers → Noted f area read m n t numbers t' numbers' → Ready f (all without area) q k t' numbers'
ready-then f all area read m q n k total t t' numbers numbers' sum ready noted =
    record {
      able = able-then f t t' n k noted.kept noted.blocks (subst (λ (x : ℕ). Able f t x) (sym sum) ready.able);
      blank = λ i h. noted.same i h.1 ∙ ready.blank i h.0;
      long = omega (arith, ready.long, noted.long);
    }

-- the same for less
pub ready-less :
    (f : Function) (all area : ℕ → Type 0) (q r n k : ℕ) (t : Tables) (numbers : List ℕ) → ((i : ℕ) → area i → all i) → r ≤ q → k ≤ n
    → Ready f all q n t numbers → Ready f area r k t numbers
ready-less f all area q r n k t numbers inside short fewer ready =
    record {
      able = able-less f t n k fewer ready.able;
      blank = λ i h. ready.blank i (inside i h);
      long = omega (arith, ready.long);
    }

-- A STEP MORE in front of a list, the last one first
pub noted-before :
    (f : Function) (area now all : ℕ → Type 0) {A B : Type 0} (k : A → Planning B) (x : A) (xs : List A) (one : List ℕ → B) (read : List ℕ → List B)
    (n m : ℕ) (t u w : Tables) (ns ms ks : List ℕ) → Noted f area read (for_each_backward k xs) n t ns u ms → Noted f now one (k x) m u ms w ks
    → ((i : ℕ) → area i → all i) → ((i : ℕ) → now i → all i) → read ks ≡ read ms
    → Noted f all (λ numbers. one numbers ∷ read numbers) (for_each_backward k (x ∷ xs)) (n + m) t ns w ks
noted-before f area now all {A} {B} k x xs one read n m t u w ns ms ks a b back next still =
    record {
      answer =
          ap₂ (λ (ys : List B) (y : B × Plan). (y.0 ∷ ys, y.1)) still b.answer
          ∙ ap (λ (y : List B × Plan). ((k x y.1).0 ∷ y.0, (k x y.1).1)) a.answer;
      same = λ i out. b.same i (λ h. out (next i h)) ∙ a.same i (λ h. out (back i h));
      kept = kept_more f n m t u w a.kept b.kept;
      blocks = omega (arith, a.blocks, b.blocks);
      long = b.long ∙ a.long;
    }
