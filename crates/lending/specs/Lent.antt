-- STEPS OF A PROOF BY HAND for a plain struct that is lent by `&mut`, so that a thin function over it is walked in a few lines. `Plain` is such
-- a struct: its fields own nothing, so to know its value is to own it, and a context holds its cell alone.
--     had, had-number            what a plain struct, or a number, owns is had for nothing
--     opens-lent, closes-lent    a `&mut` parameter: its struct's cell is had, at the type and the value that the code sees, and handed back at
--                                another value
--     calls-core                 a call by value: the caller has nothing to give but facts, and gets the result's value and what is ensured of it
--     calls-lending              a call that a local is lent to: its cell is at the head of the context before, and after, at the last value
--     ends                       a local is freed: its cell stands at n, and what frees it at m of the others
--     meets-by                   a walk of a function's code from its entry is a proof of its contract
-- Assumes `Logic`. Nothing here speaks of one struct or one function.
use Rattle.std.specs.Prelude.{◌≡◌, refl, ℕ, zero, List, [], ◌∷◌, T}
use Rattle.std.proofs.Common.{ap, subst, sym}
use seplogic.Ra.Ura.{Ura}
use base.Fraction.{full_share}
use mir.Syntax.{named, Width, Ty, Fn, Callee, Place, Opd as Operand, Body as Code, seq, call}
use mir.Val.{Val, WT, vunit, vint, vptr, has_ty}
use base.Logic.{ent, sep, emp, ex, via, mono∗, mono_r, assoc'}
use base.Stored.{Gv}
use base.Fml.{Lft, Share, GName, Fml, ftrue, fsep, fat, fdies, flft, fobs, fauth, fres, fbor, fobor, flent}
use prog.Wp.{Env, Calls, Loops, WpFn, Tables}
use types.Logic.{Logic, sem}
use contract.Lifetimes.{Lfts, Shares, AllOutlive}
use contract.Monad.{fact}
use types.Kit.{Goal, Soaks, Post, Seq, Step, step, Item, ‵, raw, some, later, ◌⊛◌, mean, ⋆, nth, del, pull, lands, runs, frees, ◌$◌, move, drop, use0, use1, use2, use3, split, pick, rewrite, fsplit, fsplit3, fjoin, fpick, fpack, await}
use types.Run.{Opds}
use types.Tokens.{lft_new, lft_end}
use types.SemTy.{Body}
use sound.WpLaws.{FmC, WpFn-mono}
use denote.RattleType.{RattleType, flat}
use denote.Laws.{Is, Ises, Are, Tells, Tellss, Spells, valss, shows}
use denote.Memory.{mem, part_at, part_of, cell_at}
use denote.Plain.{UInt, uint_Makes, uint_Tells, Nothing-Tells}
use Rattle.std.specs.Borrow.{unit}
use denote.Lend.{lends_ref, ref_back}
use denote.Ref.{MutRef}
use denote.Steps.{only, opens, closes, owned, peeks, heard}
use denote.Struct.Declared.{Declared, fields, shape, row}
use denote.Struct.Struct.{Plains, layout}
use denote.Struct.Laws.{Laws}
use denote.Struct.Laws as LL
use denote.Triple.Statement.{Contract, Triple}
use denote.Triple.Call.{calls_at}
use denote.Triple.Clauses.{Ended, Clauses, closing}
use denote.Triple.Entry.{Args, on_entry}
use denote.Triple.Spec.{Meets}
use denote.Triple.Walked.{Stays, AllGo, walk_of, walked, walk_Meets}
use denote.Signature.{types_at}

-- a struct that owns nothing, with the laws that are made of its fields
pub record Plain : Type 2 where
  pub type : Declared
  pub laws : Laws type
  pub plain : Plains (fields type)

module _ (S : Plain) where
  -- its row, its type in the code, and the machine value of a record of it
  abbrev pub row_of : RattleType
  row_of = row S.type

  abbrev pub type_of : Ty
  type_of = layout (shape S.type)

  abbrev pub value_of : S.type.D → Val
  value_of d = LL.val S.type S.laws d

  -- the record is at its machine value
  abbrev pub Valued : S.type.D → Type 0
  Valued d = Is row_of d (value_of d ∷ [])

  -- such a value is of the struct's type, so it can be stored
  pub fits : {M : Type 1} {𝓤 : Ura M} (𝓛 : Logic 𝓤) (d : S.type.D) → Valued d → T (has_ty type_of (value_of d)) × WT (value_of d)
  fits 𝓛 d is = ((LL.lawful S.type S.laws 𝓛).typed d _ is).0

-- the machine value of each result of a type
pub record Spelt (R : RattleType) : Type 1 where
  pub value : R.Denot → Val
  pub tells : Tells R (Is R) (λ x. value x ∷ [])

-- a struct's
abbrev pub struct-spelt : (S : Plain) → Spelt (row_of S)
struct-spelt S = record { value = value_of S; tells = LL.tells S.type S.laws }

-- a number's, and that of no result
abbrev pub number-spelt : (w : Width) → Spelt (UInt w)
number-spelt w = record { value = vint w; tells = uint_Tells w }

abbrev pub nothing-spelt : Spelt unit
nothing-spelt = record { value = λ _. vunit; tells = Nothing-Tells }

-- WHAT IS OWNED FOR NOTHING: a plain struct, and a number.
module _ {M : Type 1} {𝓤 : Ura M} {𝓛 : Logic 𝓤} {K : Type 0} {Γ : List (Item 𝓤)} {G : Goal 𝓤 𝓛.H} where
  pub had : K → (S : Plain) (d : S.type.D) → Valued S d → Step K 𝓛 (‵ ((row_of S).own_val d (value_of S d ∷ [])) ∷ Γ) G Γ G
  had t S d is = owned t (row_of S) (Is (row_of S)) (LL.makes S.type S.plain 𝓛) d _ is

  pub had-number : K → (w : Width) (n : ℕ) → Is (UInt w) n (vint w n ∷ []) → Step K 𝓛 (‵ ((UInt w).own_val n (vint w n ∷ [])) ∷ Γ) G Γ G
  had-number t w n is = owned t (UInt w) (Is (UInt w)) (uint_Makes 𝓛 w) n _ is

-- THE CELL.
module _ {M : Type 1} {𝓤 : Ura M} {𝓛 : Logic 𝓤} {K : Type 0} {Γ : List (Item 𝓤)} where
  -- what lies at (b, o), at the type that memory has it in, is the struct's cell as the code sees it;
  open 𝓛 use {H}

  lies-seen : {G : Goal 𝓤 H} → K → (S : Plain) (d : S.type.D) (b o : ℕ) (vs : List Val)
      → (Valued S d → Seq K 𝓛 (‵ (fat full_share (type_of S) b o (value_of S d)) ∷ Γ) G) → Seq K 𝓛 (‵ (cell_at full_share (row_of S).mir vs b o) ∷ ‵ ((row_of S).own_val d vs) ∷ Γ) G
  lies-seen t S d b o vs k =
      move t (1 ∷ []) $ peeks t (row_of S) (Is (row_of S)) (shows 𝓛 (row_of S)) d vs (λ p. drop t $
      rewrite t 0 (λ (us : List Val). ‵ (cell_at full_share (row_of S).mir us b o)) (LL.tells S.type S.laws d vs p) refl $
      use1 𝓛 (‵ (fat full_share (type_of S) b o (value_of S d))) (𝓛.laws.raw_at full_share (type_of S) b o (value_of S d)) $
      k (subst (Is (row_of S) d) (LL.tells S.type S.laws d vs p) p))

  -- and back
  seen-lies : {G : Goal 𝓤 H} → K → (S : Plain) (d : S.type.D) (b o : ℕ) → Valued S d
      → Step K 𝓛 (‵ (cell_at full_share (row_of S).mir (value_of S d ∷ []) b o) ∷ ‵ ((row_of S).own_val d (value_of S d ∷ [])) ∷ Γ) G (‵ (fat full_share (type_of S) b o (value_of S d)) ∷ Γ) G
  seen-lies t S d b o is =
      step (λ s. use1 𝓛 (‵ (cell_at full_share (row_of S).mir (value_of S d ∷ []) b o)) (𝓛.laws.at_raw full_share (type_of S) b o (value_of S d)) $
      had t S d is $ move t (1 ∷ 0 ∷ []) $ s)

-- A PARAMETER.
module _ {M : Type 1} {𝓤 : Ura M} {𝓛 : Logic 𝓤} {K : Type 0} {Γ : List (Item 𝓤)} where
  -- The struct behind a `&mut` is had for as long as its lifetime's token is given,
  open 𝓛 use {H}

  pub opens-lent : {G : Goal 𝓤 H} → K → Soaks G → (S : Plain) {κ : Lft} {q : Share} {γ : GName} (d : S.type.D) (b o : ℕ)
      → (Valued S d → Seq K 𝓛 (‵ (fat full_share (type_of S) b o (value_of S d)) ∷ ‵ (fobor κ q (Body (mem (row_of S)) b o γ)) ∷ ‵ (fobs γ ((row_of S).coded.code d)) ∷ ‵ (fauth γ ((row_of S).coded.code d)) ∷ Γ) G)
      → Seq K 𝓛 (‵ ((MutRef (named 0) κ (row_of S)).own_val (record { ref_ptr = (b, o); ghost_name = γ; now = d }) (vptr b o ∷ [])) ∷ ‵ (flft κ q) ∷ Γ) G
  opens-lent t z S d b o k = fsplit3 t $ drop t $ opens t z (row_of S) {h = d} b o (λ vs. lies-seen t S d b o vs k)

  -- and given back at another value.
  pub closes-lent : {G : Goal 𝓤 H} → K → Soaks G → (S : Plain) {κ : Lft} {q : Share} {u v : Gv} {γ : GName} (d : S.type.D) (b o : ℕ) → Valued S d
      → Step K 𝓛 (‵ (fobs γ ((row_of S).coded.code d)) ∷ ‵ (fbor κ (Body (mem (row_of S)) b o γ)) ∷ ‵ (flft κ q) ∷ Γ) G
      (‵ (fat full_share (type_of S) b o (value_of S d)) ∷ ‵ (fobor κ q (Body (mem (row_of S)) b o γ)) ∷ ‵ (fobs γ u) ∷ ‵ (fauth γ v) ∷ Γ) G
  closes-lent t z S d b o is = step (λ s. seen-lies t S d b o is $ closes t z (row_of S) d (value_of S d ∷ []) b o $ s)

-- CALLS.
module _ {M : Type 1} {𝓤 : Ura M} {𝓛 : Logic 𝓤} {K : Type 0} {Γ : List (Item 𝓤)} {E : Env 𝓤 𝓛.H} {C : Calls 𝓤 𝓛.H} {Λ : Loops 𝓤 𝓛.H} {q : Post 𝓤 𝓛.H} {d : Place} {rest : Code} where
  -- a result at its machine value, whatever value the call returned
  returned : (v : Val) {R : RattleType} (spelt : Spelt R) (x : R.Denot) → Is R x (v ∷ [])
      → (Is R x (spelt.value x ∷ []) → Seq K 𝓛 Γ (lands C Λ E d (spelt.value x) rest q)) → Seq K 𝓛 Γ (lands C Λ E d v rest q)
  returned v {R} spelt x is k =
      let e : v ≡ spelt.value x = ap only (spelt.tells x (v ∷ []) is) in
      subst (λ (u : Val). Seq K 𝓛 Γ (lands C Λ E d u rest q)) (sym e) (k (subst (λ (u : Val). Is R x (u ∷ [])) e is))

module _ {M : Type 1} {𝓤 : Ura M} {𝓛 : Logic 𝓤} {K : Type 0} {Γ : List (Item 𝓤)} {E : Env 𝓤 𝓛.H} {C : Calls 𝓤 𝓛.H} {Λ : Loops 𝓤 𝓛.H} {q : Post 𝓤 𝓛.H} {f : Callee} {d : Place} {xs : List Operand} {rest : Code} where
  -- By value: what the callee asks is had for nothing. It says Q of its result, and of last values what `lasts` is, which is let go. Each operand is
  -- read below one item more.
  open 𝓛 use {H, A}

  pub calls-core : K → FmC 𝓤 H 𝓛.laws C → (c : Contract 𝓤) → Triple 𝓤 (C f) c → (y : c.Ghost) → ent 𝓤 (emp 𝓤) (c.pre y)
      → {R : RattleType} (spelt : Spelt R) (Q : R.Denot → Type 0) {Z : R.Denot → Type 0} (lasts : (x : R.Denot) → Z x → Fml)
      → ((v : Val) → ent 𝓤 (c.post y v) (H.⇛ (ex 𝓤 (λ (x : R.Denot). sep 𝓤 (sep 𝓤 (sem 𝓛 ftrue) (sem 𝓛 (R.own_val x (v ∷ [])))) (ex 𝓤 (λ (z : Z x). sep 𝓤 (sem 𝓛 (lasts x z)) (fact 𝓤 (Q x))))))))
      → ((i : Item 𝓤) → Opds K 𝓛 (i ∷ Γ) E xs (c.args y))
      → ((x : R.Denot) → Is R x (spelt.value x ∷ []) → Q x → Seq K 𝓛 Γ (lands C Λ E d (spelt.value x) rest q))
      → Seq K 𝓛 Γ (runs C Λ E (seq (call f xs d) rest) q)
  calls-core t fm c known y asked {R} spelt Q {Z} lasts told os k =
      use0 𝓛 (raw (c.pre y)) asked $ calls_at t fm c known y (os _) (λ v.
      use1 𝓛 (later (some (λ (x : R.Denot). (‵ ftrue ⊛ ‵ (R.own_val x (v ∷ []))) ⊛ some (λ (z : Z x). ‵ (lasts x z) ⊛ raw (fact 𝓤 (Q x)))))) (told v) $ await t tt $ pick t (λ x. split t $
      move t (1 ∷ []) $ pick t (λ z. split t $ drop t $ heard t (Q x) (λ h. split t $ drop t $
      peeks t R (Is R) (shows 𝓛 R) x (v ∷ []) (λ is. drop t $ returned v spelt x is (λ is'. k x is' h))))))

  -- A local at l is lent: for a lifetime ν of the call, under a name δ, and taken back at the last value. Q is said of the result and that value. Each
  -- operand is read below two items more, in place of the local's cell.
  pub calls-lending : K → FmC 𝓤 H 𝓛.laws C → (c : Contract 𝓤) → Triple 𝓤 (C f) c → (S : Plain) (l : ℕ) (h : S.type.D) → Valued S h
      → (y : ℕ → GName → c.Ghost)
      → ((ν : ℕ) (δ : GName) → ent 𝓤 (sep 𝓤 (A.lft (ν ∷ []) full_share) (sem 𝓛 ((MutRef (named 0) (ν ∷ []) (row_of S)).own_val (record { ref_ptr = (l, 0); ghost_name = δ; now = h }) (vptr l 0 ∷ [])))) (c.pre (y ν δ)))
      → {R : RattleType} (spelt : Spelt R) (Q : R.Denot → S.type.D → Type 0) {Z : R.Denot → S.type.D → Type 0} (lasts : (x : R.Denot) (r : S.type.D) → Z x r → Fml)
      → ((ν : ℕ) (δ : GName) (v : Val) → ent 𝓤 (c.post (y ν δ) v)
      (H.⇛ (ex 𝓤 (λ (x : R.Denot). sep 𝓤 (sep 𝓤 (sep 𝓤 (A.lft (ν ∷ []) full_share) (sem 𝓛 ftrue)) (sem 𝓛 (R.own_val x (v ∷ []))))
      (ex 𝓤 (λ (z : (r : S.type.D) × Z x r). sep 𝓤 (sem 𝓛 (fsep (fres δ ((row_of S).coded.code z.0)) (lasts x z.0 z.1))) (fact 𝓤 (Q x z.0))))))))
      → ((i j : Item 𝓤) (ν : ℕ) (δ : GName) → Opds K 𝓛 (i ∷ j ∷ Γ) E xs (c.args (y ν δ)))
      → ((x : R.Denot) (r : S.type.D) → Is R x (spelt.value x ∷ []) → Valued S r → Q x r → Seq K 𝓛 (‵ (fat full_share (type_of S) l 0 (value_of S r)) ∷ Γ) (lands C Λ E d (spelt.value x) rest q))
      → Seq K 𝓛 (‵ (fat full_share (type_of S) l 0 (value_of S h)) ∷ Γ) (runs C Λ E (seq (call f xs d) rest) q)
  unfolding part_of
  calls-lending t fm c known S l h is y goes {R} spelt Q {Z} lasts told os k =
      seen-lies t S h l 0 is $ fjoin t $ fpack t (List Val) (λ vs. fsep (cell_at full_share (row_of S).mir vs l 0) ((row_of S).own_val h vs)) (value_of S h ∷ []) $
      lft_new t tt (λ ν. move t (1 ∷ []) $
      use1 𝓛 (later (some (λ (δ : GName). ‵ ((MutRef (named 0) (ν ∷ []) (row_of S)).own_val (record { ref_ptr = (l, 0); ghost_name = δ; now = h }) (vptr l 0 ∷ [])) ⊛ ‵ (flent (ν ∷ []) (Body (mem (row_of S)) l 0 δ))))) (lends_ref 𝓛 (row_of S) (named 0) (ν ∷ []) h l 0) $ await t tt $ pick t (λ δ. split t $
      move t (2 ∷ 0 ∷ []) $ use2 𝓛 (raw (c.pre (y ν δ))) (goes ν δ) $
      calls_at t fm c known (y ν δ) (os _ _ ν δ) (λ v.
      use1 𝓛 (later (some (λ (x : R.Denot). ((‵ (flft (ν ∷ []) full_share) ⊛ ‵ ftrue) ⊛ ‵ (R.own_val x (v ∷ []))) ⊛ some (λ (z : (r : S.type.D) × Z x r). ‵ (fsep (fres δ ((row_of S).coded.code z.0)) (lasts x z.0 z.1)) ⊛ raw (fact 𝓤 (Q x z.0)))))) (told ν δ v) $ await t tt $ pick t (λ x.
      split t $ move t (1 ∷ []) $ pick t (λ z. split t $ move t (1 ∷ []) $ heard t (Q x z.0) (λ e. fsplit t $
      -- [the last value; what else is said; the token and the result; the lender's part; …]
      move t (2 ∷ []) $ split t $ move t (1 ∷ []) $ peeks t R (Is R) (shows 𝓛 R) x (v ∷ []) (λ of. drop t $
      split t $ lft_end t tt $ move t (0 ∷ 4 ∷ 2 ∷ []) $
      use3 𝓛 (later (‵ (part_at (row_of S) full_share z.0 l 0))) (ref_back 𝓛 (row_of S) (ν ∷ []) δ z.0 l 0) $ await t tt $
      move t (1 ∷ []) $ drop t $ move t (1 ∷ []) $ drop t $
      fpick t (λ vs. fsplit t $ lies-seen t S z.0 l 0 vs (λ is'. returned v spelt x of (λ of'. k x z.0 of' is' e))))))))))

-- THE END.
module _ {M : Type 1} {𝓤 : Ura M} {𝓛 : Logic 𝓤} {K : Type 0} {Γ : List (Item 𝓤)} where
  -- a local's cell, at n, and what frees it, at m of the others, are given up
  open 𝓛 use {H}

  pub ends : K → (n m : ℕ) {τ : Ty} {b : ℕ} {v : Val} {E : Env 𝓤 H} {g : Goal 𝓤 H} → nth 𝓛 n Γ ≡ ‵ (fat full_share τ b zero v) → nth 𝓛 m (del 𝓛 n Γ) ≡ ‵ (fdies τ b)
      → Step K 𝓛 (del 𝓛 m (del 𝓛 n Γ)) (frees E g) Γ (frees ((τ, b) ∷ E) g)
  ends t n m {τ} {b} {v} cell dies =
      let others : List (Item 𝓤) = del 𝓛 n Γ in
      let left : List (Item 𝓤) = del 𝓛 m others in
      step (λ s. record {
        prf =
            via 𝓤 (sep 𝓤 (H.at full_share τ b zero v) (⋆ 𝓛 others)) (subst (λ (i : Item 𝓤). ent 𝓤 (⋆ 𝓛 Γ) (sep 𝓤 (mean 𝓛 i) (⋆ 𝓛 others))) cell (pull 𝓛 n Γ))
            (via 𝓤 (sep 𝓤 (H.room τ b zero) (sep 𝓤 (H.dies τ b) (⋆ 𝓛 left)))
            (mono∗ 𝓤 (𝓛.laws.at_room τ b zero v) (subst (λ (i : Item 𝓤). ent 𝓤 (⋆ 𝓛 others) (sep 𝓤 (mean 𝓛 i) (⋆ 𝓛 left))) dies (pull 𝓛 m others)))
            (via 𝓤 (sep 𝓤 (sep 𝓤 (H.room τ b zero) (H.dies τ b)) (⋆ 𝓛 left)) (assoc' 𝓤 (H.room τ b zero) (H.dies τ b) (⋆ 𝓛 left)) (mono_r 𝓤 (sep 𝓤 (H.room τ b zero) (H.dies τ b)) s.prf)));
      })

module _ {M : Type 1} {𝓤 : Ura M} (𝓛 : Logic 𝓤) (𝓣 : Tables 𝓤 𝓛.H) (e : Fn) (F : Ended) (hs : Stays F.signature.params F.kept) (c : Clauses 𝓤 F) where
  -- the walk is from the entry, at the parameters' machine values, for every choice of lifetimes, shares and arguments
  open 𝓛 use {H}

  pub meets-by : AllGo 𝓛 F.signature.lifetimes F.signature.params F.kept hs
      → (sp : (κs : Lfts F.signature.lifetimes) → Spells (types_at F.signature.params κs)) → ((κs : Lfts F.signature.lifetimes) → Tellss (types_at F.signature.params κs) (Ises (types_at F.signature.params κs)) (sp κs))
      → ((κs : Lfts F.signature.lifetimes) (qs : Shares F.signature.lifetimes) (bounds : AllOutlive F.signature.lifetimes F.signature.outlives κs) (a : Args F.signature κs) (g : (c κs a).ghost)
      → Are (types_at F.signature.params κs) (Ises (types_at F.signature.params κs)) a (valss (types_at F.signature.params κs) (sp κs) a)
      → ent 𝓤 (sep 𝓤 (on_entry 𝓛 F.signature κs qs a (valss (types_at F.signature.params κs) (sp κs) a)) ((c κs a).requires g))
      (WpFn 𝓤 H 𝓣.C 𝓣.Λ e (flat (types_at F.signature.params κs) (valss (types_at F.signature.params κs) (sp κs) a)) ((walk_of 𝓛 F hs c).post ((κs, qs, bounds, a, valss (types_at F.signature.params κs) (sp κs) a), g))))
      → Meets 𝓛 F.signature (WpFn 𝓤 H 𝓣.C 𝓣.Λ e) (closing 𝓛 F c)
  meets-by gs sp tl k = walk_Meets 𝓛 F hs gs c (WpFn 𝓤 H 𝓣.C 𝓣.Λ e) (WpFn-mono 𝓤 H 𝓛.laws 𝓣 e) (walked 𝓛 F hs c (WpFn 𝓤 H 𝓣.C 𝓣.Λ e) sp tl k)
