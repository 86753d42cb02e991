-- A loop over a table that puts a record for each of its numbers.
use Prim.Native.Nat.{ℕ, ◌+◌, ◌<◌}
use mathlib.Core.Path.{◌≡◌, sym, ap, ◌∙◌}
use mathlib.Core.List.{List, [], ◌∷◌, ◌++◌, map}
use lib.ListN.{length, get_or, take, drop}
use Rattle.std.proofs.Common.{add-one}
use Rattle.std.proofs.Math.Seq.{take-suc}
use Rattle.std.proofs.Common.{take-append-drop}
use Rattle.rules.specs.declared.Record.{Record}
use Rattle.lists.specs.Maps.{map-append}
use Rattle.writing.specs.Put.{Fits, Put, put_as, put_then, fits_as, first_fits, next_fits}
use Rattle.writing.specs.declared.put.Output.{Output}

module _ (f : ℕ → Record) (xs : List ℕ) (i : ℕ) (l : i < length xs) {a b : Output} (fits : Fits a (map f xs)) (w : Put a (map f (take i xs)) b) where
  abbrev one : List Record
  one = f (get_or xs i 0) ∷ []

  next : map f (take i xs) ++ one ≡ map f (take (i + 1) xs)
  next = sym (ap (λ (n : ℕ). map f (take n xs)) (add-one i) ∙ ap (map f) (take-suc xs i 0 l) ∙ map-append f (take i xs) (get_or xs i 0 ∷ []))

  whole : map f xs ≡ map f (take (i + 1) xs) ++ map f (drop (i + 1) xs)
  whole = ap (map f) (sym (take-append-drop (i + 1) xs)) ∙ map-append f (take (i + 1) xs) (drop (i + 1) xs)

  both : Fits a (map f (take i xs) ++ one)
  both = fits_as a (sym next) (first_fits a (map f (take (i + 1) xs)) (map f (drop (i + 1) xs)) (fits_as a whole fits))

  -- there is room for the next one,
  pub mapped_fits : Fits b one
  mapped_fits = next_fits w one both

  -- and it stands behind those before
  pub mapped_turn : {c : Output} → Put b one c → Put a (map f (take (i + 1) xs)) c
  mapped_turn v = put_as next (put_then w both v)
