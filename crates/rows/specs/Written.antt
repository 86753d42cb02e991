-- A row written word by word, each word by a call at its number that gets the word that stood there.
use Rattle.std.specs.Prelude.{ℕ, ◌+◌, ◌*◌, ◌<◌, ◌≤◌, ◌≡◌, List, length, get_or}
use Rattle.rules.specs.Limits.{row_words}

-- the first n words of the row are what the calls made of them; all other words are as they were
pub record Written (post : ℕ → ℕ → ℕ → Type 0) (row n : ℕ) (d e : List ℕ) : Type 0 where
  pub long : length e ≡ length d
  pub made : (k : ℕ) → k < n → post (get_or d (row_words * row + k) 0) k (get_or e (row_words * row + k) 0)
  pub below : (i : ℕ) → i < row_words * row → get_or e i 0 ≡ get_or d i 0
  pub above : (i : ℕ) → row_words * row + n ≤ i → get_or e i 0 ≡ get_or d i 0
