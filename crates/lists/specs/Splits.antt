-- Lists that are parted in two ways.
use Rattle.std.specs.Prelude.{◌≡◌, ◌⊎◌}
use Rattle.std.proofs.Common.{sym, ap, inl, inr}
use mathlib.Core.List.{List, [], ◌∷◌, ◌++◌, tail-eq_of_cons-eq}
use Rattle.lists.specs.Members.{◌∈◌, here, there}

module _ {A : Type 0} where
  -- a member stands behind some and before others
  pub ∈-split : {x : A} {l : List A} → x ∈ l → (before : List A) × (behind : List A) × (l ≡ before ++ (x ∷ behind))
  ∈-split (here {xs = l} e) = ([], l, ap (λ y. y ∷ l) (sym e))
  ∈-split (there {x = y} m) = let r = ∈-split m in (y ∷ r.0, r.1, ap (λ l. y ∷ l) r.2)

  -- of two ends of a list one is an end of the other
  pub ends-compare :
      (ws xs ys zs : List A) → ws ++ xs ≡ ys ++ zs
      → ((ms : List A) × (xs ≡ ms ++ zs)) ⊎ ((ms : List A) × (ms ++ xs ≡ zs))
  ends-compare [] xs ys zs e = inl (ys, e)
  ends-compare (w ∷ ws) xs [] zs e = inr (w ∷ ws, e)
  ends-compare (w ∷ ws) xs (y ∷ ys) zs e = ends-compare ws xs ys zs (tail-eq_of_cons-eq e)
