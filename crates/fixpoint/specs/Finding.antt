-- What `any`, `keep`, `up_from` and `update` find. Nothing here is about functions or live sets.
use Rattle.std.specs.Prelude.{ℕ, zero, suc, ◌+◌, ◌≤◌, ◌<◌, ◌≡◌, refl, Bool, true, false, not, cond, List, [], ◌∷◌, T, eqb}
use Rattle.std.proofs.Common.{arith, ap, subst, sym, T_not, eqb→eq}
use Rattle.rules.specs.Lists.{any, keep, update, up_from}
use Rattle.lists.specs.Tests.{test-elim, if-elim, or_elim, or_left, or_right, neqb→ne}
use Rattle.lists.specs.Members.{◌∈◌, here, there, not-∈-nil, ∈-elim}

module _ {A : Type 0} where
  -- some member passes where one does
  pub any-intro : (p : A → Bool) {x : A} {l : List A} → x ∈ l → T (p x) → T (any p l)
  any-intro p (here {x = y} {xs = l} e) t = or_left (p y) (any p l) (subst (λ z. T (p z)) e t)
  any-intro p (there {x = y} {xs = l} m) t = or_right (p y) (any p l) (any-intro p m t)

  -- and where some member passes, here is one
  pub any-elim : (p : A → Bool) (l : List A) → T (any p l) → (x : A) × (x ∈ l) × T (p x)
  any-elim p [] h = absurd h
  any-elim p (x ∷ l) h =
      or_elim (p x) (any p l) (λ t. (x, here refl, t))
      (λ t. let r = any-elim p l t in (r.0, there r.1, r.2))
      h

  -- a weaker test passes too, if it is weaker at the members
  pub any-mono : (p q : A → Bool) (l : List A) → ((x : A) → x ∈ l → T (p x) → T (q x)) → T (any p l) → T (any q l)
  any-mono p q l weaker h = let r = any-elim p l h in any-intro q r.1 (weaker r.0 r.1 r.2)

  -- a member that passes is kept
  pub ∈-keep : (p : A → Bool) {x : A} {l : List A} → x ∈ l → T (p x) → x ∈ keep p l
  ∈-keep p {x} (here {x = y} {xs = l} e) t =
      if-elim (λ (r : List A). x ∈ r) (p y) (y ∷ keep p l) (keep p l) (λ _. here e)
      (λ n. absurd (T_not (p y) n (subst (λ z. T (p z)) e t)))
  ∈-keep p {x} (there {x = y} {xs = l} m) t =
      if-elim (λ (r : List A). x ∈ r) (p y) (y ∷ keep p l) (keep p l) (λ _. there (∈-keep p m t)) (λ _. ∈-keep p m t)

  -- what is kept passes,
  pub keep-passes : (p : A → Bool) {x : A} (l : List A) → x ∈ keep p l → T (p x)
  keep-passes p [] m = absurd (not-∈-nil m)
  keep-passes p {x} (y ∷ l) m =
      if-elim (λ (r : List A). x ∈ r → T (p x)) (p y) (y ∷ keep p l) (keep p l)
      (λ t. ∈-elim (λ e. subst (λ z. T (p z)) (sym e) t) (keep-passes p l)) (λ _. keep-passes p l)
      m

  -- and is a member.
  pub keep-∈ : (p : A → Bool) {x : A} (l : List A) → x ∈ keep p l → x ∈ l
  keep-∈ p [] m = m
  keep-∈ p {x} (y ∷ l) m =
      if-elim (λ (r : List A). x ∈ r → x ∈ (y ∷ l)) (p y) (y ∷ keep p l) (keep p l)
      (λ _. ∈-elim here (λ k. there (keep-∈ p l k))) (λ _ k. there (keep-∈ p l k))
      m

-- the k numbers from n on are there,
pub ∈-up_from : (n k x : ℕ) → n ≤ x → x < n + k → x ∈ up_from n k
∈-up_from n zero x low high = absurd (omega arith)
∈-up_from n (suc k) x low high =
    test-elim (eqb x n) (λ same. here (eqb→eq x n same))
    (λ other. there (∈-up_from (suc n) k x (omega (arith, neqb→ne x n other)) (omega arith)))

-- and none above them.
pub up_from-below : (n k : ℕ) {x : ℕ} → x ∈ up_from n k → x < n + k
up_from-below n zero m = absurd (not-∈-nil m)
up_from-below n (suc k) {x} m =
    ∈-elim (λ (e : x ≡ n). let low : x < n + suc k = omega arith in low)
    (λ r. omega (arith, up_from-below (suc n) k r))
    m

module _ {A : Type 0} where
  -- to prove something of what a test chooses, prove it of either choice under its test
  cond-elim : (P : A → Type 0) (a : Bool) (x y : A) → (T a → P x) → (T (not a) → P y) → P (cond a x y)
  cond-elim P true x y f g = f tt
  cond-elim P false x y f g = g tt

  -- to prove something of a changed table, prove it of the new entry and of the old ones elsewhere
  pub update-elim :
      (P : A → Type 0) (k : ℕ) (x : A) (f : ℕ → A) (j : ℕ) → (j ≡ k → P x) → (T (not (eqb j k)) → P (f j))
      → P (update k x f j)
  update-elim P k x f j new old = cond-elim P (eqb j k) x (f j) (λ t. new (eqb→eq j k t)) old

  -- a changed table has the new entry at its place,
  pub update_here : (k : ℕ) (x : A) (f : ℕ → A) → update k x f k ≡ x
  update_here k x f = update-elim (λ y. y ≡ x) k x f k (λ _. refl) (λ n. absurd (neqb→ne k k n refl))

  -- and the old ones elsewhere.
  pub update-there : (k : ℕ) (x : A) (f : ℕ → A) (j : ℕ) → T (not (eqb j k)) → update k x f j ≡ f j
  update-there k x f j n = update-elim (λ y. y ≡ f j) k x f j (λ e. absurd (neqb→ne j k n e)) (λ _. refl)

  -- Changed to what it was it is as it was,
  pub update_self : (k : ℕ) (f : ℕ → A) → update k (f k) f ≡ f
  update_self k f = λ i j. update-elim (λ y. y ≡ f j) k (f k) f j (λ e. ap f (sym e)) (λ _. refl) i

  -- and of two changes at one place the second stands.
  pub update-again : (k : ℕ) (x y : A) (f : ℕ → A) → update k y (update k x f) ≡ update k y f
  update-again k x y f = λ i j. go (eqb j k) (f j) i
    where
      go : (t : Bool) (z : A) → cond t y (cond t x z) ≡ cond t y z
      go true z = refl
      go false z = refl
