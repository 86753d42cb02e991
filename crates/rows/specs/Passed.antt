-- Values passed over: what is kept of numbers in order does not change where none of them is in the set.
use Rattle.std.specs.Prelude.{ℕ, zero, suc, ◌+◌, ◌-◌, ◌<◌, ◌≤◌, ◌≡◌, Bool, true, false, ◌∷◌}
use Rattle.std.proofs.Common.{arith, sym, ap, ◌∙◌}
use Rattle.rules.specs.Lists.{keep, up_from, NumberSet}

-- none of the next k numbers is in the set
keep-none-of :
    (set : NumberSet) (k v n : ℕ) → ((i : ℕ) → i < k → set (v + i) ≡ false) → keep set (up_from v (k + n)) ≡ keep set (up_from (v + k) n)
keep-none-of set zero v n none =
    let here : v + 0 ≡ v = omega arith in
    let all : 0 + n ≡ n = omega arith in
    ap (λ (m : ℕ). keep set (up_from v m)) all ∙ ap (λ (u : ℕ). keep set (up_from u n)) (sym here)
keep-none-of set (suc k) v n none =
    let first : set v ≡ false = let here : v + 0 ≡ v = omega arith in ap set (sym here) ∙ none 0 (omega arith) in
    let more : suc k + n ≡ suc (k + n) = omega arith in
    let next : suc v + k ≡ v + suc k = omega arith in
    let later = keep-none-of set k (suc v) n (λ i l. let there : suc v + i ≡ v + suc i = omega arith in ap set there ∙ none (suc i) (omega arith)) in
    ap (λ (m : ℕ). keep set (up_from v m)) more
    ∙ ap (λ (b : Bool). elim b [ true ↦ v ∷ keep set (up_from (suc v) (k + n)) | false ↦ keep set (up_from (suc v) (k + n)) ]) first
    ∙ later
    ∙ ap (λ (u : ℕ). keep set (up_from u n)) next

-- the members from v on are those from r on, if none stands between
pub keep-passed :
    (set : NumberSet) (v r end : ℕ) → v ≤ r → r ≤ end → ((u : ℕ) → v ≤ u → u < r → set u ≡ false)
    → keep set (up_from v (end - v)) ≡ keep set (up_from r (end - r))
keep-passed set v r end l m none =
    let whole : end - v ≡ (r - v) + (end - r) = omega arith in
    let there : v + (r - v) ≡ r = omega arith in
    ap (λ (n : ℕ). keep set (up_from v n)) whole
    ∙ keep-none-of set (r - v) v (end - r) (λ i h. none (v + i) (omega arith) (omega arith))
    ∙ ap (λ (u : ℕ). keep set (up_from u (end - r))) there
