-- The parts of a file's function, each in file order, are the file's records of their kind, if the file is in order.
use Rattle.std.specs.Prelude.{ℕ, ◌≡◌, refl, Bool, true, false, not, ◌&&◌, ◌||◌, List, [], ◌∷◌, ◌++◌, get_or, T}
use Rattle.std.proofs.Common.{ap}
use Rattle.rules.specs.Lists.{all, concat_map, has}
use Rattle.rules.specs.Records.{kind}
use Rattle.rules.specs.File.{followers, follows, ordered, Section, Cut, cut}
use Rattle.rules.specs.declared.Record.{Record}
use Rattle.lists.specs.Tests.{and_intro, and_left, and_right, or-then, passes_at}
use Rattle.records.specs.Kinds.{Kinds}

-- each record of a list may follow the one before it, the first one kind p
abbrev pub chain : ℕ → List Record → Bool
chain p [] = true
chain p (r ∷ rs) = follows p (kind r) && chain (kind r) rs

pub ordered-chain : (p : ℕ) (rs : List Record) → T (ordered p rs) → T (chain p rs)
ordered-chain p [] h = tt
ordered-chain p (r ∷ rs) h =
    let f = follows p (kind r) in
    and_intro f (chain (kind r) rs) (and_left f (ordered (kind r) rs) h) (ordered-chain (kind r) rs (and_right f (ordered (kind r) rs) h))

-- a section's records
abbrev pub whole : Section → List Record
whole s = s.head ∷ s.body

-- what a test says of each section
abbrev pub Sections : (Section → Bool) → List Section → Type 0
Sections p ss = T (all p ss)

-- CUTTING. A property of a list and its cut that holds of nothing is kept by one record more, or it does not hold.
pub cut_keeps : (opens : ℕ → Bool) (P : List Record → Cut → Type 0) → P [] (record { front = []; sections = [] })
    → ((r : Record) (rs : List Record) (c : Cut) → T (opens (kind r)) → P rs c → P (r ∷ rs) (record { front = []; sections = record { head = r; body = c.front } ∷ c.sections }))
    → ((r : Record) (rs : List Record) (c : Cut) → T (not (opens (kind r))) → P rs c → P (r ∷ rs) (record { front = r ∷ c.front; sections = c.sections }))
    → (rs : List Record) → P rs (cut opens rs)
cut_keeps opens P none opening other [] = none
cut_keeps opens P none opening other (r ∷ rs) = go (opens (kind r)) (opening r rs (cut opens rs)) (other r rs (cut opens rs)) (cut_keeps opens P none opening other rs)
  where
    go : (b : Bool)
        → (T b → P rs (cut opens rs) → P (r ∷ rs) (record { front = []; sections = record { head = r; body = (cut opens rs).front } ∷ (cut opens rs).sections }))
        → (T (not b) → P rs (cut opens rs) → P (r ∷ rs) (record { front = r ∷ (cut opens rs).front; sections = (cut opens rs).sections }))
        → P rs (cut opens rs)
        → P (r ∷ rs) (elim b [
          | true ↦ record { front = []; sections = record { head = r; body = (cut opens rs).front } ∷ (cut opens rs).sections }
          | false ↦ record { front = r ∷ (cut opens rs).front; sections = (cut opens rs).sections }
        ])
    go true f g h = f tt h
    go false f g h = g tt h

-- it loses nothing and moves nothing
pub cut-joins : (opens : ℕ → Bool) (rs : List Record) → (cut opens rs).front ++ concat_map whole (cut opens rs).sections ≡ rs
cut-joins opens =
    cut_keeps opens (λ rs c. c.front ++ concat_map whole c.sections ≡ rs) refl
    (λ r rs c o e. ap (λ t. r ∷ t) e)
    (λ r rs c o e. ap (λ t. r ∷ t) e)

-- a section is opened by its head and by nothing in its body
abbrev pub opened : (ℕ → Bool) → Section → Bool
opened opens s = opens (kind s.head) && all (λ r. not (opens (kind r))) s.body

pub cut_opened : (opens : ℕ → Bool) (rs : List Record)
    → Kinds (λ j. not (opens j)) (cut opens rs).front × Sections (opened opens) (cut opens rs).sections
cut_opened opens =
    cut_keeps opens (λ rs c. Kinds (λ j. not (opens j)) c.front × Sections (opened opens) c.sections) (tt, tt)
    (λ r rs c o h. (
      tt,
      and_intro (opens (kind r) && all (λ x. not (opens (kind x))) c.front) (all (opened opens) c.sections)
          (and_intro (opens (kind r)) (all (λ x. not (opens (kind x))) c.front) o h.0) h.1,
    ))
    (λ r rs c o h. (and_intro (not (opens (kind r))) (all (λ x. not (opens (kind x))) c.front) o h.0, h.1))

-- what follows what in a list follows in the front and in each section
abbrev pub chained : Section → Bool
chained s = chain (kind s.head) s.body

pub cut-chained : (opens : ℕ → Bool) (rs : List Record) (p : ℕ) → T (chain p rs)
    → T (chain p (cut opens rs).front) × Sections chained (cut opens rs).sections
cut-chained opens =
    cut_keeps opens (λ rs c. (p : ℕ) → T (chain p rs) → T (chain p c.front) × Sections chained c.sections) (λ p h. (tt, tt))
    (λ r rs c o h p t.
    let k = h (kind r) (and_right (follows p (kind r)) (chain (kind r) rs) t) in
    (tt, and_intro (chain (kind r) c.front) (all chained c.sections) k.0 k.1))
    (λ r rs c o h p t.
    let k = h (kind r) (and_right (follows p (kind r)) (chain (kind r) rs) t) in
    (and_intro (follows p (kind r)) (chain (kind r) c.front) (and_left (follows p (kind r)) (chain (kind r) rs) t) k.0, k.1))

-- ORDER, by computation over the table. From a kind of `among`, an allowed one that may follow is good, and one of `among`.
unfoldable pub kept_by : List ℕ → (ℕ → Bool) → (ℕ → Bool) → Bool
unfolding followers
kept_by among allowed good = all (λ i. all (λ j. not (allowed j) || (good j && has j among)) (get_or followers i [])) among

-- so in a chain of allowed kinds that starts behind one of `among` every record is good
pub chain-good : (among : List ℕ) (allowed good : ℕ → Bool) → T (kept_by among allowed good)
    → (p : ℕ) (rs : List Record) → T (has p among) → T (chain p rs) → Kinds allowed rs → Kinds good rs
unfolding follows followers kept_by
chain-good among allowed good k p [] m c a = tt
chain-good among allowed good k p (r ∷ rs) m c a =
    let j = kind r in
    let one : T (all (λ i. not (allowed i) || (good i && has i among)) (get_or followers p [])) =
    passes_at (λ i. all (λ x. not (allowed x) || (good x && has x among)) (get_or followers i [])) among k p m in
    let f : T (has j (get_or followers p [])) = and_left (has j (get_or followers p [])) (chain j rs) c in
    let g : T (good j && has j among) =
    or-then (allowed j) (good j && has j among) (passes_at (λ i. not (allowed i) || (good i && has i among)) (get_or followers p []) one j f)
    (and_left (allowed j) (all (λ x. allowed (kind x)) rs) a) in
    and_intro (good j) (all (λ x. good (kind x)) rs) (and_left (good j) (has j among) g)
    (chain-good among allowed good k j rs (and_right (good j) (has j among) g) (and_right (has j (get_or followers p [])) (chain j rs) c)
    (and_right (allowed j) (all (λ x. allowed (kind x)) rs) a))

-- a test that every record of a list passes, in the front and in each section
pub cut-kinds : (opens p : ℕ → Bool) (rs : List Record) → Kinds p rs
    → Kinds p (cut opens rs).front × Sections (λ s. all (λ r. p (kind r)) (whole s)) (cut opens rs).sections
cut-kinds opens p =
    cut_keeps opens (λ rs c. Kinds p rs → Kinds p c.front × Sections (λ s. all (λ r. p (kind r)) (whole s)) c.sections) (λ h. (tt, tt))
    (λ r rs c o h t.
    let k = h (and_right (p (kind r)) (all (λ x. p (kind x)) rs) t) in (
      tt,
      and_intro (p (kind r) && all (λ x. p (kind x)) c.front) (all (λ s. all (λ x. p (kind x)) (whole s)) c.sections)
          (and_intro (p (kind r)) (all (λ x. p (kind x)) c.front) (and_left (p (kind r)) (all (λ x. p (kind x)) rs) t) k.0) k.1,
    ))
    (λ r rs c o h t.
    let k = h (and_right (p (kind r)) (all (λ x. p (kind x)) rs) t) in
    (and_intro (p (kind r)) (all (λ x. p (kind x)) c.front) (and_left (p (kind r)) (all (λ x. p (kind x)) rs) t) k.0, k.1))
