-- What is read and what is passed: words of the meanings meant are the original's words.
use Rattle.std.specs.Prelude.{ℕ, suc, ◌≡◌, refl, List, [], ◌∷◌, map, get_or}
use Rattle.std.proofs.Common.{sym, ap, ap₂, subst, ◌∙◌}
use Rattle.rules.specs.TwoRuns.{Machine, define_from, define, passed}
use Rattle.rules.specs.declared.EdgeArgument.{EdgeArgument}
use Rattle.rules.specs.declared.EdgeArgument.TheVariants as passes
use Rattle.simulation.specs.Ghost.{Meaning, unknown, word, Ghost, setting, passing, jumping, meant, binding}
use Rattle.simulation.specs.Related.{Each}
use Rattle.simulation.specs.Agreement.{Against, Means, Agrees, assigned, against, setting-agrees}

-- lists related member by member give equal lists where related members give equal ones
each_map : {A B C : Type 0} {R : A → B → Type 0} (f : A → C) (g : B → C)
    → ((x : A) (y : B) → R x y → f x ≡ g y) → (xs : List A) (ys : List B) → Each R xs ys → map f xs ≡ map g ys
each_map f g h [] [] r = refl
each_map f g h [] (_ ∷ _) r = absurd r
each_map f g h (_ ∷ _) [] r = absurd r
each_map f g h (x ∷ xs) (y ∷ ys) r = ap₂ (λ z zs. z ∷ zs) (h x y r.0) (each_map f g h xs ys r.1)

-- the word that an edge passes for an argument
abbrev pub word_of : (ℕ → ℕ) → (ℕ → ℕ) → (ℕ → ℕ) → EdgeArgument → ℕ
word_of words r e (passes.Value v) = words v
word_of words r e (passes.Returned k) = r k
word_of words r e (passes.Exception k) = e k

passed-map : (words r e : ℕ → ℕ) (xs : List EdgeArgument) → passed words r e xs ≡ map (word_of words r e) xs
passed-map words r e [] = refl
passed-map words r e (passes.Value v ∷ xs) = ap (λ ws. words v ∷ ws) (passed-map words r e xs)
passed-map words r e (passes.Returned k ∷ xs) = ap (λ ws. r k ∷ ws) (passed-map words r e xs)
passed-map words r e (passes.Exception k ∷ xs) = ap (λ ws. e k ∷ ws) (passed-map words r e xs)

module _ (mo : Machine) (r e : ℕ → ℕ) (γ : Ghost) (m : Machine) (a : Agrees (against mo r e) γ m) where
  -- an instruction's arguments
  pub read_same : (vs xs : List ℕ) → Each (λ v x. γ.words x ≡ word v) vs xs → map mo.words vs ≡ map m.words xs
  read_same =
      each_map mo.words m.words
      (λ v x h.
      let known : Means (against mo r e) (word v) (m.words x) = subst (λ n. Means (against mo r e) n (m.words x)) h (a.words x) in
      known.1)

  meant_word : (x : EdgeArgument) (w : ℕ) → Means (against mo r e) (meant x) w → word_of mo.words r e x ≡ w
  meant_word (passes.Value v) w h = h.1
  meant_word (passes.Returned k) w h = h
  meant_word (passes.Exception k) w h = h

  passing-means : (x : EdgeArgument) → Means (against mo r e) (passing γ x) (word_of m.words r e x)
  passing-means (passes.Value x) = a.words x
  passing-means (passes.Returned k) = refl
  passing-means (passes.Exception k) = refl

  jumping-means : (x : EdgeArgument) → Means (against mo r e) (jumping γ x) (word_of m.words (λ _. 0) (λ _. 0) x)
  jumping-means (passes.Value x) = a.words x
  jumping-means (passes.Returned k) = tt
  jumping-means (passes.Exception k) = tt

  words_same : (mean : EdgeArgument → Meaning) (r' e' : ℕ → ℕ)
      → ((x : EdgeArgument) → Means (against mo r e) (mean x) (word_of m.words r' e' x))
      → (xs ys : List EdgeArgument) → Each (λ x y. mean y ≡ meant x) xs ys
      → passed mo.words r e xs ≡ passed m.words r' e' ys
  words_same mean r' e' h xs ys each =
      let theirs = word_of m.words r' e' in
      passed-map mo.words r e xs
      ∙ each_map (word_of mo.words r e) theirs
      (λ x y k. meant_word x (theirs y) (subst (λ n. Means (against mo r e) n (theirs y)) k (h y))) xs ys each
      ∙ sym (passed-map m.words r' e' ys)

  -- an instruction's edge, and a landing's jump
  pub passing-same : (xs ys : List EdgeArgument) → Each (λ x y. passing γ y ≡ meant x) xs ys
      → passed mo.words r e xs ≡ passed m.words r e ys
  passing-same = words_same (passing γ) r e passing-means

  pub jumping-same : (xs ys : List EdgeArgument) → Each (λ x y. jumping γ y ≡ meant x) xs ys
      → passed mo.words r e xs ≡ passed m.words (λ _. 0) (λ _. 0) ys
  jumping-same = words_same (jumping γ) (λ _. 0) (λ _. 0) jumping-means

  -- the words that an edge passes to a landing
  pub passed-mean : (ys : List EdgeArgument) → Each (Means (against mo r e)) (map (passing γ) ys) (passed m.words r e ys)
  passed-mean [] = tt
  passed-mean (passes.Value x ∷ ys) = (a.words x, passed-mean ys)
  passed-mean (passes.Returned k ∷ ys) = (refl, passed-mean ys)
  passed-mean (passes.Exception k ∷ ys) = (refl, passed-mean ys)

-- A LANDING'S PARAMETERS
define-shift : (k : ℕ) (vs : List ℕ) (given : ℕ → ℕ) (m : Machine)
    → define_from (suc k) vs given m ≡ define_from k vs (λ j. given (suc j)) m
define-shift k [] given m = refl
define-shift k (v ∷ vs) given m = define-shift (suc k) vs given (assigned v (given (suc k)) m)

pub binding-agrees : (o : Against) (ps : List ℕ) (ms : List Meaning) (ws : List ℕ) (γ : Ghost) (m : Machine)
    → Each (Means o) ms ws → Agrees o γ m → Agrees o (binding ps ms γ) (define ps (λ k. get_or ws k 0) m)
binding-agrees o [] ms ws γ m h a = a
binding-agrees o (p ∷ ps) [] [] γ m h a =
    subst (Agrees o (binding ps [] (setting p unknown γ))) (sym (define-shift 0 ps (λ k. get_or {A = ℕ} [] k 0) (assigned p 0 m)))
    (binding-agrees o ps [] [] (setting p unknown γ) (assigned p 0 m) h (setting-agrees o p unknown 0 tt a))
binding-agrees o (p ∷ ps) [] (w ∷ ws) γ m h a = absurd h
binding-agrees o (p ∷ ps) (n ∷ ms) [] γ m h a = absurd h
binding-agrees o (p ∷ ps) (n ∷ ms) (w ∷ ws) γ m h a =
    subst (Agrees o (binding ps ms (setting p n γ))) (sym (define-shift 0 ps (λ k. get_or (w ∷ ws) k 0) (assigned p w m)))
    (binding-agrees o ps ms ws (setting p n γ) (assigned p w m) h.1 (setting-agrees o p n w h.0 a))
