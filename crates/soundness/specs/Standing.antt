-- Refusal 7 but for what edges pass, as one reading of a file's records: which record may stand where, by the flags of the
-- instruction that stands last in front of it.
use Rattle.std.specs.Prelude.{ℕ, ◌≡◌, refl, Bool, true, not, ◌&&◌, ◌||◌, cond, List, [], ◌∷◌, T, eqb}
use Rattle.std.proofs.Common.{sym, ap, ap₂, subst, ◌∙◌, eqb→eq}
use Rattle.std.proofs.Math.Bool.{and-true, and_assoc}
use Rattle.rules.specs.Lists.{all}
use Rattle.rules.specs.Records.{is_safepoint, is_terminator, encode, kind}
use Rattle.rules.specs.File.{cut}
use Rattle.rules.specs.declared.Words.{Words}
use Rattle.rules.specs.declared.Record.{Record}
use Rattle.lists.specs.Tests.{T_and, is_false}
use Rattle.lists.specs.Alls.{and-swap}
use Rattle.records.specs.Kinds.{Kinds}
use Rattle.records.specs.InOrder.{cut_keeps}

-- the flags are 3
abbrev pub safepoint_flags : ℕ → Bool
safepoint_flags flags = is_safepoint flags && is_terminator flags

-- a record of kind k only where the test passes
abbrev pub only : ℕ → Bool → Words → Bool
only k b w = not (eqb w.kind k) || b

-- A block opens where a terminator has ended the one before, and an instruction follows no terminator.
abbrev pub ends_there : ℕ → Words → Bool
ends_there flags w = only 2 (is_terminator flags) w && only 4 (not (is_terminator flags)) w

-- What an instruction of these flags may have: results if it is no terminator, edges if it is, and those not to block 0;
-- contexts, and edge arguments that are not values, if the flags are 3.
abbrev pub has_there : ℕ → Words → Bool
has_there flags w =
    only 5 (not (is_terminator flags)) w
    && only 7 (is_terminator flags && not (eqb w.second 0)) w
    && only 8 (safepoint_flags flags || eqb w.second 0) w
    && only 9 (safepoint_flags flags) w

-- both: the record may stand there
unfoldable pub may_stand : ℕ → Words → Bool
may_stand flags w = ends_there flags w && has_there flags w

-- the flags of the instruction that stands last in front of what comes behind a record, 0 where its block has none yet
unfoldable pub flags_behind : ℕ → Words → ℕ
flags_behind flags w = cond (eqb w.kind 2) 0 (cond (eqb w.kind 4) w.second flags)

-- Records read on behind an instruction of these flags: each passes the test there, and so does the end.
abbrev pub reading : (ℕ → Words → Bool) → (ℕ → Bool) → ℕ → List Record → Bool
reading ok end flags [] = end flags
reading ok end flags (r ∷ rs) = ok flags (encode r) && reading ok end (flags_behind flags (encode r)) rs

-- an end that asks nothing
abbrev pub always : ℕ → Bool
always flags = true

-- each record may stand where it does, and the file ends with a terminator
abbrev pub standing : ℕ → List Record → Bool
standing = reading may_stand is_terminator

-- its two halves: how blocks end, and what instructions have
abbrev pub ending : ℕ → List Record → Bool
ending = reading ends_there is_terminator

abbrev pub holding : ℕ → List Record → Bool
holding = reading has_there always

pub standing-halves : (flags : ℕ) (rs : List Record) → standing flags rs ≡ (ending flags rs && holding flags rs)
unfolding may_stand
standing-halves flags [] = sym (and-true (is_terminator flags))
standing-halves flags (r ∷ rs) =
    let w = encode r in
    let f = flags_behind flags w in
    ap (λ t. (ends_there flags w && has_there flags w) && t) (standing-halves f rs) ∙ and-swap (ends_there flags w) (has_there flags w) (ending f rs) (holding f rs)

-- behind a record that opens neither a block nor an instruction they are what they were
pub behind-other : (flags : ℕ) (r : Record) → T (not (eqb (kind r) 2) && not (eqb (kind r) 4)) → flags_behind flags (encode r) ≡ flags
unfolding flags_behind
behind-other flags r h =
    let k = kind r in
    let h₂ = T_and (not (eqb k 2)) (not (eqb k 4)) h in
    ap (λ b. cond b 0 (cond (eqb k 4) (encode r).second flags)) (is_false (eqb k 2) h₂.0)
    ∙ ap (λ b. cond b (encode r).second flags) (is_false (eqb k 4) h₂.1)

-- A record that opens a part, and ends the part before: the parts are read each for itself.
module _ (ok : ℕ → Words → Bool) (end : ℕ → Bool) where
  pub reading-cut : (opens : ℕ → Bool) (start : Record → ℕ)
      → ((flags : ℕ) (r : Record) → T (opens (kind r)) → (ok flags (encode r) ≡ end flags) × (flags_behind flags (encode r) ≡ start r))
      → (rs : List Record) (flags : ℕ)
      → reading ok end flags rs ≡ (reading ok end flags (cut opens rs).front && all (λ s. reading ok end (start s.head) s.body) (cut opens rs).sections)
  reading-cut opens start e =
      cut_keeps opens
      (λ rs c. (flags : ℕ) → reading ok end flags rs ≡ (reading ok end flags c.front && all (λ s. reading ok end (start s.head) s.body) c.sections))
      (λ flags. sym (and-true (end flags)))
      (λ r rs c o h flags. ap₂ (λ x y. x && y) (e flags r o).0 (ap (λ f. reading ok end f rs) (e flags r o).1 ∙ h (start r)))
      (λ r rs c o h flags.
      let f = flags_behind flags (encode r) in
      ap (λ t. ok flags (encode r) && t) (h f)
      ∙ sym (and_assoc (ok flags (encode r)) (reading ok end f c.front) (all (λ s. reading ok end (start s.head) s.body) c.sections)))

  -- records that open neither a block nor an instruction are read with the same flags
  pub reading-steady : (rs : List Record) → Kinds (λ j. not (eqb j 2) && not (eqb j 4)) rs → (flags : ℕ)
      → reading ok end flags rs ≡ (all (λ r. ok flags (encode r)) rs && end flags)
  reading-steady [] h flags = refl
  reading-steady (r ∷ rs) h flags =
      let k = kind r in
      let h₂ = T_and (not (eqb k 2) && not (eqb k 4)) (all (λ x. not (eqb (kind x) 2) && not (eqb (kind x) 4)) rs) h in
      ap (λ f. ok flags (encode r) && reading ok end f rs) (behind-other flags r h₂.0)
      ∙ ap (λ t. ok flags (encode r) && t) (reading-steady rs h₂.1 flags)
      ∙ sym (and_assoc (ok flags (encode r)) (all (λ x. ok flags (encode x)) rs) (end flags))

  -- and of one kind that always passes, as if they were not there
  pub reading-idle : (k : ℕ) → T (not (eqb k 2) && not (eqb k 4)) → ((flags : ℕ) (r : Record) → kind r ≡ k → ok flags (encode r) ≡ true)
      → (rs : List Record) → Kinds (eqb k) rs → (flags : ℕ) → reading ok end flags rs ≡ end flags
  reading-idle k n e [] h flags = refl
  reading-idle k n e (r ∷ rs) h flags =
      let h₂ = T_and (eqb k (kind r)) (all (λ x. eqb k (kind x)) rs) h in
      let q = sym (eqb→eq k (kind r) h₂.0) in
      let same = behind-other flags r (subst (λ j. T (not (eqb j 2) && not (eqb j 4))) (sym q) n) in
      ap₂ (λ x f. x && reading ok end f rs) (e flags r q) same ∙ reading-idle k n e rs h₂.1 flags
