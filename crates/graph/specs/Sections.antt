-- Parts of a file by place. Records cut in front of each that opens a part are the sections from one such place to the
-- next. So code that knows the places needs no list of sections.
use Rattle.std.specs.Prelude.{ℕ, zero, suc, ◌+◌, ◌-◌, ◌<◌, ◌≤◌, ◌≡◌, refl, Bool, true, false, not, List, [], ◌∷◌, ◌++◌, length, get_or, T}
use Rattle.std.proofs.Common.{sym, ap, ap₂, ◌∙◌, arith}
use Rattle.rules.specs.Lists.{all}
use Rattle.rules.specs.Records.{kind, record_at, record_count}
use Rattle.rules.specs.File.{Section, Cut, cut}
use Rattle.rules.specs.declared.Record.{Record}
use Rattle.lists.specs.Tests.{and_left, and_right, is_true, is_false}
use Rattle.records.specs.Kinds.{Kinds}
use Rattle.graph.specs.Between.{between, between_none, between_more, length-between}

-- two tests agree
abbrev pub agree : Bool → Bool → Bool
agree true b = b
agree false b = not b

agree→≡ : (a b : Bool) → T (agree a b) → a ≡ b
agree→≡ true b h = sym (is_true b h)
agree→≡ false b h = sym (is_false b h)

-- one place more, if it opens a part
abbrev pub place_if : Bool → ℕ → List ℕ → List ℕ
place_if true p ps = p ∷ ps
place_if false p ps = ps

-- the places of the records that open a part, where the first record stands at place p
abbrev pub places : (ℕ → Bool) → ℕ → List Record → List ℕ
places opens p [] = []
places opens p (r ∷ rs) = place_if (opens (kind r)) p (places opens (suc p) rs)

-- the first place of a list, or q behind the last
abbrev pub first_or : ℕ → List ℕ → ℕ
first_or q [] = q
first_or q (p ∷ _) = p

-- the sections that start at these places, the last one before place q
abbrev pub sections_at : List ℕ → ℕ → List ℕ → List Section
sections_at s q [] = []
sections_at s q (p ∷ ps) = record { head = record_at s p; body = between s (suc p) (first_or q ps) } ∷ sections_at s q ps

-- the first place is one of the records', or the one behind them
pub first-bounds :
    (opens : ℕ → Bool) (p q : ℕ) (rs : List Record) → p + length rs ≡ q
    → (p ≤ first_or q (places opens p rs)) × (first_or q (places opens p rs) ≤ q)
first-bounds opens p q [] n = (omega arith, omega arith)
first-bounds opens p q (r ∷ rs) n = go (opens (kind r)) (first-bounds opens (suc p) q rs (omega arith))
  where
    ps : List ℕ
    ps = places opens (suc p) rs

    go : (b : Bool) → (suc p ≤ first_or q ps) × (first_or q ps ≤ q)
        → (p ≤ first_or q (place_if b p ps)) × (first_or q (place_if b p ps) ≤ q)
    go true h = (omega arith, omega arith)
    go false h = (omega (arith, h.0), h.1)

module _ (s : List ℕ) (opens : ℕ → Bool) where
  -- records of which the first stands at place p are cut at the places that open a part
  abbrev CutAt : ℕ → ℕ → List Record → Type 0
  CutAt p q rs =
      cut opens rs
      ≡ record { front = between s p (first_or q (places opens p rs)); sections = sections_at s q (places opens p rs) }

  cut_at-more :
      (p q : ℕ) (rs : List Record) → q ≤ record_count s → suc p + length rs ≡ q → CutAt (suc p) q rs
      → CutAt p q (record_at s p ∷ rs)
  cut_at-more p q rs k n e = go (opens (kind (record_at s p)))
    where
      c : Cut
      c = cut opens rs

      ps : List ℕ
      ps = places opens (suc p) rs

      behind : between s p (first_or q ps) ≡ record_at s p ∷ between s (suc p) (first_or q ps)
      behind =
          let h = first-bounds opens (suc p) q rs n in
          between_more s p (first_or q ps) (omega (arith, h.0)) (omega (arith, h.1))

      go : (b : Bool)
          → ◌≡◌ {A = Cut} (elim b [
            | true ↦ record { front = []; sections = record { head = record_at s p; body = c.front } ∷ c.sections }
            | false ↦ record { front = record_at s p ∷ c.front; sections = c.sections }
          ])
          (record {
            front = between s p (first_or q (place_if b p ps));
            sections = sections_at s q (place_if b p ps);
          })
      go true =
          λ i. record {
            front = sym (between_none s p) i;
            sections = record { head = record_at s p; body = (e i).front } ∷ (e i).sections;
          }
      go false = ap (λ (d : Cut). record { front = record_at s p ∷ d.front; sections = d.sections }) e
          ∙ ap (λ (t : List Record). record { front = t; sections = sections_at s q ps }) (sym behind)

  cut_at-from : (n p q : ℕ) → p + n ≡ q → q ≤ record_count s → CutAt p q (between s p q)
  cut_at-from zero p q e k =
      let same : q ≡ p = omega arith in
      rw (same, between_none s p) (λ i. record { front = sym (between_none s p) i; sections = [] })
  cut_at-from (suc n) p q e k =
      rw (between_more s p q (omega arith) k)
      (cut_at-more p q (between s (suc p) q) k (omega (arith, length-between s (suc p) q k))
      (cut_at-from n (suc p) q (omega arith) k))

  -- The records between two places, cut.
  pub cut-between :
      (p q : ℕ) → p ≤ q → q ≤ record_count s
      → let ps = places opens p (between s p q) in
      cut opens (between s p q) ≡ record { front = between s p (first_or q ps); sections = sections_at s q ps }
  cut-between p q l k = cut_at-from (q - p) p q (omega arith) k

module _ (s : List ℕ) (q : ℕ) where
  pub length-sections_at : (ps : List ℕ) → length (sections_at s q ps) ≡ length ps
  length-sections_at [] = refl
  length-sections_at (p ∷ ps) = ap suc (length-sections_at ps)

  -- Section b is what stands from place b to the next.
  pub section-at :
      (ps : List ℕ) (b : ℕ) (none : Section) → b < length ps
      → get_or (sections_at s q ps) b none
      ≡ record {
        head = record_at s (get_or (ps ++ (q ∷ [])) b 0);
        body = between s (suc (get_or (ps ++ (q ∷ [])) b 0)) (get_or (ps ++ (q ∷ [])) (suc b) 0);
      }
  section-at [] b none l = absurd (omega arith)
  section-at (p ∷ []) zero none l = refl
  section-at (p ∷ (x ∷ ps)) zero none l = refl
  section-at (p ∷ ps) (suc b) none l = section-at ps b none (omega arith)

-- THE TABLE of the places that open a part, and q behind them. Its entries are places of the records or q,
pub table-bounds :
    (opens : ℕ → Bool) (p q : ℕ) (rs : List Record) → p + length rs ≡ q
    → let ps = places opens p rs in
    (b : ℕ) → b ≤ length ps → (p ≤ get_or (ps ++ (q ∷ [])) b 0) × (get_or (ps ++ (q ∷ [])) b 0 ≤ q)
table-bounds opens p q [] n b l =
    let e : b ≡ 0 = omega arith in
    rw e (omega arith, omega arith)
table-bounds opens p q (r ∷ rs) n b l = go (opens (kind r)) (table-bounds opens (suc p) q rs (omega arith)) b l
  where
    ps : List ℕ
    ps = places opens (suc p) rs

    go : (o : Bool) → ((b : ℕ) → b ≤ length ps → (suc p ≤ get_or (ps ++ (q ∷ [])) b 0) × (get_or (ps ++ (q ∷ [])) b 0 ≤ q))
        → (b : ℕ) → b ≤ length (place_if o p ps)
        → (p ≤ get_or (place_if o p ps ++ (q ∷ [])) b 0) × (get_or (place_if o p ps ++ (q ∷ [])) b 0 ≤ q)
    go true h zero l = (omega arith, omega arith)
    go true h (suc b) l = let k = h b (omega arith) in (omega (arith, k.0), k.1)
    go false h b l = let k = h b l in (omega (arith, k.0), k.1)

-- and they ascend.
pub table-ascends :
    (opens : ℕ → Bool) (p q : ℕ) (rs : List Record) → p + length rs ≡ q
    → let ps = places opens p rs in
    (b : ℕ) → b < length ps → get_or (ps ++ (q ∷ [])) b 0 < get_or (ps ++ (q ∷ [])) (suc b) 0
table-ascends opens p q [] n b l = absurd (omega arith)
table-ascends opens p q (r ∷ rs) n b l = go (opens (kind r)) (table-ascends opens (suc p) q rs (omega arith)) b l
  where
    ps : List ℕ
    ps = places opens (suc p) rs

    go : (o : Bool) → ((b : ℕ) → b < length ps → get_or (ps ++ (q ∷ [])) b 0 < get_or (ps ++ (q ∷ [])) (suc b) 0)
        → (b : ℕ) → b < length (place_if o p ps)
        → get_or (place_if o p ps ++ (q ∷ [])) b 0 < get_or (place_if o p ps ++ (q ∷ [])) (suc b) 0
    go true h zero l = let k = table-bounds opens (suc p) q rs (omega arith) 0 (omega arith) in omega (arith, k.0)
    go true h (suc b) l = h b (omega arith)
    go false h b l = h b l

-- two tests that agree on each record's kind open the same parts
pub places_same :
    (opens other : ℕ → Bool) (p : ℕ) (rs : List Record) → Kinds (λ j. agree (opens j) (other j)) rs
    → places opens p rs ≡ places other p rs
places_same opens other p [] h = refl
places_same opens other p (r ∷ rs) h =
    let a = agree (opens (kind r)) (other (kind r)) in
    ap₂ (λ (o : Bool) (ps : List ℕ). place_if o p ps)
    (agree→≡ (opens (kind r)) (other (kind r)) (and_left a (all (λ x. agree (opens (kind x)) (other (kind x))) rs) h))
    (places_same opens other (suc p) rs (and_right a (all (λ x. agree (opens (kind x)) (other (kind x))) rs) h))
