-- Lists of records by their kinds: what picking a kind out, and cutting in front of a kind, give on a list put together.
use Rattle.std.specs.Prelude.{ℕ, ◌≡◌, refl, Bool, true, false, not, List, [], ◌∷◌, ◌++◌, map, T, eqb, ltb}
use Rattle.std.proofs.Common.{sym, ap, ap₂, ◌∙◌, arith, append-nil}
use Rattle.std.proofs.lemmas.Bool.{ne_eqb}
use Rattle.rules.specs.Lists.{all, concat_map}
use Rattle.rules.specs.Records.{encode, kind}
use Rattle.rules.specs.declared.Words.{Words}
use Rattle.lists.specs.Tests.{and_intro, and_left, and_right, T_and, chosen, left_out}
use Rattle.lists.specs.Maps.{all_append, all-weaken}
use Rattle.lists.specs.Truths.{agree, agree_same}
use Rattle.rules.specs.File.{Cut, cut, of_kind}
use Rattle.rules.specs.declared.EdgeArgument.{EdgeArgument}
use Rattle.rules.specs.declared.EdgeArgument.TheVariants as passes
use Rattle.rules.specs.declared.Record.{Record}
use Rattle.rules.specs.declared.Record.TheVariants as record'

-- every record of a list is of a kind that passes the test
abbrev pub Kinds : (ℕ → Bool) → List Record → Type 0
Kinds p rs = T (all (λ r. p (kind r)) rs)

pub kinds-append : (p : ℕ → Bool) (xs ys : List Record) → Kinds p xs → Kinds p ys → Kinds p (xs ++ ys)
kinds-append p = all_append (λ r. p (kind r))

module _ {A : Type 0} where
  pub kinds-map : (p : ℕ → Bool) (c : A → Record) → ((x : A) → T (p (kind (c x)))) → (xs : List A) → Kinds p (map c xs)
  kinds-map p c h [] = tt
  kinds-map p c h (x ∷ xs) = and_intro (p (kind (c x))) (all (λ r. p (kind r)) (map c xs)) (h x) (kinds-map p c h xs)

  pub kinds-concat_map : (p : ℕ → Bool) (g : A → List Record) → ((x : A) → Kinds p (g x)) → (xs : List A) → Kinds p (concat_map g xs)
  kinds-concat_map p g h [] = tt
  kinds-concat_map p g h (x ∷ xs) = kinds-append p (g x) (concat_map g xs) (h x) (kinds-concat_map p g h xs)

-- the kind of an edge argument's record does not depend on which one it is
pub kind-edge_argument : (p : ℕ → Bool) (x : EdgeArgument) → T (p 8) → T (p (kind (record'.EdgeArgument x)))
kind-edge_argument p (passes.Value _) h = h
kind-edge_argument p (passes.Returned _) h = h
kind-edge_argument p (passes.Exception _) h = h

pub kinds-weaken : (p q : ℕ → Bool) → ((j : ℕ) → T (p j) → T (q j)) → (rs : List Record) → Kinds p rs → Kinds q rs
kinds-weaken p q w = all-weaken (λ r. p (kind r)) (λ r. q (kind r)) (λ r. w (kind r))

-- the records of a kind in a list put together
pub of_kind-append : (k : ℕ) (xs ys : List Record) → of_kind k (xs ++ ys) ≡ of_kind k xs ++ of_kind k ys
of_kind-append k [] ys = refl
of_kind-append k (x ∷ xs) ys = go (eqb (kind x) k) (of_kind-append k xs ys)
  where
    go : (b : Bool) {zs : List Words} → zs ≡ of_kind k xs ++ of_kind k ys
        → elim b [ true ↦ encode x ∷ zs | false ↦ zs ] ≡ elim b [ true ↦ encode x ∷ of_kind k xs | false ↦ of_kind k xs ] ++ of_kind k ys
    go true e = ap (λ t. encode x ∷ t) e
    go false e = e

-- where no record is of the kind
pub of_kind-none : (k : ℕ) (rs : List Record) → Kinds (λ j. not (eqb j k)) rs → of_kind k rs ≡ []
of_kind-none k [] h = refl
of_kind-none k (r ∷ rs) h =
    left_out (eqb (kind r) k) (encode r ∷ of_kind k rs) (of_kind k rs) (and_left (not (eqb (kind r) k)) (all (λ x. not (eqb (kind x) k)) rs) h)
    ∙ of_kind-none k rs (and_right (not (eqb (kind r) k)) (all (λ x. not (eqb (kind x) k)) rs) h)

-- where every record is
pub of_kind-map : {A : Type 0} (k : ℕ) (c : A → Record) → ((x : A) → T (eqb (kind (c x)) k)) → (xs : List A) → of_kind k (map c xs) ≡ map (λ x. encode (c x)) xs
of_kind-map k c h [] = refl
of_kind-map k c h (x ∷ xs) =
    chosen (eqb (kind (c x)) k) (encode (c x) ∷ of_kind k (map c xs)) (of_kind k (map c xs)) (h x)
    ∙ ap (λ t. encode (c x) ∷ t) (of_kind-map k c h xs)

-- records that are not of the kind may be left away in front and behind
pub of_kind-skip : (k : ℕ) (xs ys : List Record) → Kinds (λ j. not (eqb j k)) xs → of_kind k (xs ++ ys) ≡ of_kind k ys
of_kind-skip k xs ys h = of_kind-append k xs ys ∙ ap (λ (t : List Words). t ++ of_kind k ys) (of_kind-none k xs h)

pub of_kind-stop : (k : ℕ) (xs ys : List Record) → Kinds (λ j. not (eqb j k)) ys → of_kind k (xs ++ ys) ≡ of_kind k xs
of_kind-stop k xs ys h =
    of_kind-append k xs ys ∙ ap (λ (t : List Words). of_kind k xs ++ t) (of_kind-none k ys h) ∙ append-nil (of_kind k xs)

-- records that open nothing belong to the front
pub cut-front : (opens : ℕ → Bool) (xs rs : List Record) → Kinds (λ j. not (opens j)) xs
    → cut opens (xs ++ rs) ≡ record { front = xs ++ (cut opens rs).front; sections = (cut opens rs).sections }
cut-front opens [] rs h = refl
cut-front opens (x ∷ xs) rs h =
    let c = cut opens (xs ++ rs) in
    left_out (opens (kind x)) (record { front = []; sections = record { head = x; body = c.front } ∷ c.sections })
    (record { front = x ∷ c.front; sections = c.sections }) (and_left (not (opens (kind x))) (all (λ r. not (opens (kind r))) xs) h)
    ∙ ap (λ (d : Cut). record { front = x ∷ d.front; sections = d.sections })
    (cut-front opens xs rs (and_right (not (opens (kind x))) (all (λ r. not (opens (kind r))) xs) h))

pub cut-closed : (opens : ℕ → Bool) (xs : List Record) → Kinds (λ j. not (opens j)) xs → cut opens xs ≡ record { front = xs; sections = [] }
cut-closed opens xs h =
    ap (cut opens) (sym (append-nil xs)) ∙ cut-front opens xs [] h ∙ ap (λ (t : List Record). record { front = t; sections = [] }) (append-nil xs)

-- two tests that agree on each record's kind cut alike
pub cut-same : (opens other : ℕ → Bool) (rs : List Record) → Kinds (λ j. agree (opens j) (other j)) rs → cut opens rs ≡ cut other rs
cut-same opens other [] h = refl
cut-same opens other (r ∷ rs) h =
    let both = T_and (agree (opens (kind r)) (other (kind r))) (all (λ x. agree (opens (kind x)) (other (kind x))) rs) h in
    ap₂ (λ (o : Bool) (c : Cut). elim o as (λ _. Cut) [
      | true ↦ record { front = []; sections = record { head = r; body = c.front } ∷ c.sections }
      | false ↦ record { front = r ∷ c.front; sections = c.sections }
    ]) (agree_same (opens (kind r)) (other (kind r)) both.0) (cut-same opens other rs both.1)

-- a record that opens a part, with a body that opens nothing, is a section
pub cut-section : (opens : ℕ → Bool) (h : Record) (body rs : List Record) → T (opens (kind h)) → Kinds (λ j. not (opens j)) body
    → cut opens (h ∷ (body ++ rs))
    ≡ record { front = []; sections = record { head = h; body = body ++ (cut opens rs).front } ∷ (cut opens rs).sections }
cut-section opens h body rs o k =
    let c = cut opens (body ++ rs) in
    chosen (opens (kind h)) (record { front = []; sections = record { head = h; body = c.front } ∷ c.sections })
    (record { front = h ∷ c.front; sections = c.sections }) o
    ∙ ap (λ (d : Cut). record { front = []; sections = record { head = h; body = d.front } ∷ d.sections }) (cut-front opens body rs k)

-- the parts of a list of things, each of whose records opens one part
pub cut-sections : {A : Type 0} (opens : ℕ → Bool) (head : A → Record) (body : A → List Record)
    → ((x : A) → T (opens (kind (head x)))) → ((x : A) → Kinds (λ j. not (opens j)) (body x)) → (xs : List A)
    → cut opens (concat_map (λ x. head x ∷ body x) xs) ≡ record { front = []; sections = map (λ x. record { head = head x; body = body x }) xs }
cut-sections opens head body o k [] = refl
cut-sections opens head body o k (x ∷ xs) =
    cut-section opens (head x) (body x) (concat_map (λ y. head y ∷ body y) xs) (o x) (k x)
    ∙ ap (λ (d : Cut). record { front = []; sections = record { head = head x; body = body x ++ d.front } ∷ d.sections }) (cut-sections opens head body o k xs)
    ∙ ap (λ (t : List Record). record { front = []; sections = record { head = head x; body = t } ∷ map (λ y. record { head = head y; body = body y }) xs }) (append-nil (body x))

-- every kind is below 16
pub kind-small : (r : Record) → T (ltb (kind r) 16)
kind-small (record'.Value _ _) = tt
kind-small (record'.Block _ _) = tt
kind-small (record'.Parameter _) = tt
kind-small (record'.Instruction _ _ _) = tt
kind-small (record'.Result _) = tt
kind-small (record'.Argument _) = tt
kind-small (record'.Edge _) = tt
kind-small (record'.EdgeArgument x) = kind-edge_argument (λ k. ltb k 16) x tt
kind-small (record'.Context _) = tt
kind-small (record'.Slot _) = tt
kind-small (record'.MapEntry _ _) = tt
kind-small (record'.SlotAddress _ _) = tt
kind-small (record'.Store _ _) = tt
kind-small (record'.Load _ _ _) = tt
kind-small record'.Jump = tt
kind-small record'.Outside = tt

-- only an edge argument's record is of kind 8,
pub is-argument : (r : Record) → kind r ≡ 8 → (x : EdgeArgument) × (r ≡ record'.EdgeArgument x)
is-argument (record'.Value _ _) h = absurd (omega arith)
is-argument (record'.Block _ _) h = absurd (omega arith)
is-argument (record'.Parameter _) h = absurd (omega arith)
is-argument (record'.Instruction _ _ _) h = absurd (omega arith)
is-argument (record'.Result _) h = absurd (omega arith)
is-argument (record'.Argument _) h = absurd (omega arith)
is-argument (record'.Edge _) h = absurd (omega arith)
is-argument (record'.EdgeArgument x) h = (x, refl)
is-argument (record'.Context _) h = absurd (omega arith)
is-argument (record'.Slot _) h = absurd (omega arith)
is-argument (record'.MapEntry _ _) h = absurd (omega arith)
is-argument (record'.SlotAddress _ _) h = absurd (omega arith)
is-argument (record'.Store _ _) h = absurd (omega arith)
is-argument (record'.Load _ _ _) h = absurd (omega arith)
is-argument record'.Jump h = absurd (omega arith)
is-argument record'.Outside h = absurd (omega arith)

-- so a record that is none has another kind
pub no-argument : (r : Record) → ((x : EdgeArgument) → r ≡ record'.EdgeArgument x → ⊥) → eqb (kind r) 8 ≡ false
no-argument r n = ne_eqb (kind r) 8 (λ h. let x = is-argument r h in n x.0 x.1)
