-- Lists of things and sets of numbers: what the definitions compute with. Nothing here is about functions or slots.
use Rattle.std.specs.Prelude.{ℕ, zero, suc, ◌-◌, Bool, true, false, not, ◌&&◌, ◌||◌, cond, List, [], ◌∷◌, ◌++◌, length, replicate, eqb}
use Rattle.std.proofs.Math.Option.{Option, none, some}

module _ {A : Type 0} where
  -- every member passes the test
  abbrev pub all : (A → Bool) → List A → Bool
  all p [] = true
  all p (x ∷ xs) = p x && all p xs

  -- some member passes the test
  abbrev pub any : (A → Bool) → List A → Bool
  any p [] = false
  any p (x ∷ xs) = p x || any p xs

  -- the members that pass the test, in order
  abbrev pub keep : (A → Bool) → List A → List A
  keep p [] = []
  keep p (x ∷ xs) = elim (p x) [ true ↦ x ∷ keep p xs | false ↦ keep p xs ]

  -- how many members pass the test
  abbrev pub count : (A → Bool) → List A → ℕ
  count p [] = 0
  count p (x ∷ xs) = elim (p x) [ true ↦ suc (count p xs) | false ↦ count p xs ]

  -- the list has no member
  abbrev pub empty : List A → Bool
  empty [] = true
  empty (_ ∷ _) = false

  -- the option holds nothing
  abbrev pub is_none : Option A → Bool
  is_none none = true
  is_none (some _) = false

  -- what an option holds, or else this
  abbrev pub or_else : A → Option A → A
  or_else x none = x
  or_else x (some y) = y

module _ {A B : Type 0} where
  -- the lists that the members give, one behind the other
  abbrev pub concat_map : (A → List B) → List A → List B
  concat_map f [] = []
  concat_map f (x ∷ xs) = f x ++ concat_map f xs

  -- from the first member to the last, each step from what the step before left
  abbrev pub foldl : (B → A → B) → B → List A → B
  foldl f b [] = b
  foldl f b (x ∷ xs) = foldl f (f b x) xs

module _ {A B C : Type 0} where
  -- two lists member by member, as far as both go
  abbrev pub zip_with : (A → B → C) → List A → List B → List C
  zip_with f [] ys = []
  zip_with f (x ∷ xs) [] = []
  zip_with f (x ∷ xs) (y ∷ ys) = f x y ∷ zip_with f xs ys

  -- the lists that two lists give member by member, one behind the other
  abbrev pub concat_zip : (A → B → List C) → List A → List B → List C
  concat_zip f [] ys = []
  concat_zip f (x ∷ xs) [] = []
  concat_zip f (x ∷ xs) (y ∷ ys) = f x y ++ concat_zip f xs ys

-- n, n + 1, .. : k numbers
abbrev pub up_from : ℕ → ℕ → List ℕ
up_from n zero = []
up_from n (suc k) = n ∷ up_from (suc n) k

-- the number is in the list
abbrev pub has : ℕ → List ℕ → Bool
has v [] = false
has v (x ∷ xs) = eqb v x || has v xs

-- a table of numbers with zeros behind it, n long
abbrev pub padded : ℕ → List ℕ → List ℕ
padded n xs = xs ++ replicate (n - length xs) 0

-- a table by number, changed at one place
abbrev pub update : {A : Type 0} → ℕ → A → (ℕ → A) → ℕ → A
update k x f j = cond (eqb j k) x (f j)

-- A set of numbers is its test.
abbrev pub NumberSet : Type 0
NumberSet = ℕ → Bool

abbrev pub nothing : NumberSet
nothing v = false

abbrev pub union : NumberSet → NumberSet → NumberSet
union s t v = s v || t v

abbrev pub adding : List ℕ → NumberSet → NumberSet
adding vs s v = has v vs || s v

abbrev pub removing : List ℕ → NumberSet → NumberSet
removing vs s v = not (has v vs) && s v

-- the members below n, ascending
abbrev pub members : ℕ → NumberSet → List ℕ
members n s = keep s (up_from 0 n)

-- some number below n is in the second set and not in the first
abbrev pub grew : ℕ → NumberSet → NumberSet → Bool
grew n old new = any (λ v. new v && not (old v)) (up_from 0 n)
