-- THE RULE through a block. It splits: a value is live into a block if the block uses it before it defines it, or if it
-- is live out and the block does not define it. So a block is its uses and its kills; the rule is monotone; and it
-- gives only marked values from marked ones.
use Rattle.std.specs.Prelude.{ℕ, ◌<◌, ◌≡◌, refl, Bool, true, false, not, ◌&&◌, ◌||◌, List, [], ◌∷◌, ◌++◌, length, T, ltb}
use Rattle.std.proofs.Common.{sym, ap, subst, ◌∙◌, ltb→lt, nltb→le}
use Rattle.std.proofs.Math.ListN.{get_or-eq_default}
use Rattle.rules.specs.Lists.{any, keep, has, NumberSet, nothing, adding, removing}
use Rattle.rules.specs.Tree.{Value, Instruction, Function}
use Rattle.rules.specs.Graph.{block_at, is_marked, instructions_of, values_passed, successors}
use Rattle.rules.specs.Liveness.{across, before, before_all, through, joined}
use Rattle.lists.specs.Tests.{test-elim, and_intro, and_left, and_right, or_elim, or_left, or_right}
use Rattle.lists.specs.Sets.{Within}
use Rattle.lists.specs.Anys.{or_assoc}
use Rattle.lists.specs.Members.{has→∈}
use Rattle.fixpoint.specs.Finding.{any-elim, keep-passes}

-- what a block uses before it defines it: what the rule gives from nothing
abbrev pub uses : Function → ℕ → NumberSet
uses f b = through f b nothing

-- what some instruction defines
abbrev pub results : List Instruction → NumberSet
results is v = any (λ i. has v i.results) is

-- what a block defines, by parameter or result
abbrev pub kills : Function → ℕ → NumberSet
kills f b v = has v (block_at f b).parameters || results (instructions_of (block_at f b)) v

-- the rule takes the instructions behind first, and those before them from there
pub before_all-append :
    (f : Function) (is js : List Instruction) (out : NumberSet)
    → before_all f (is ++ js) out ≡ before_all f is (before_all f js out)
before_all-append f [] js out = refl
before_all-append f (i ∷ is) js out = ap (before f i) (before_all-append f is js out)

-- One step back: a was added, r removed, p added. Behind it u is used, o comes from the end and d stops it.
split_step :
    (a r p u o d : Bool)
    → a || (not r && (p || (u || (o && not d)))) ≡ (a || (not r && (p || u))) || (o && not (r || d))
split_step true r p u o d = refl
split_step false true p u true d = refl
split_step false true p u false d = refl
split_step false false true u o d = refl
split_step false false false u o d = refl

-- at the end nothing is used and nothing stops
split-end : (o : Bool) → o ≡ false || (o && not false)
split-end true = refl
split-end false = refl

-- so before a list of instructions: what it uses before it defines it, and what comes from its end undefined
pub before_all-split :
    (f : Function) (is : List Instruction) (out : NumberSet) (v : ℕ)
    → before_all f is out v ≡ before_all f is nothing v || (out v && not (results is v))
before_all-split f [] out v = split-end (out v)
before_all-split f (i ∷ is) out v =
    let added = has v (keep (is_marked f) i.arguments) in
    let removed = has v i.results in
    let passed = has v (keep (is_marked f) (values_passed i)) in
    ap (λ x. added || (not removed && (passed || x))) (before_all-split f is out v)
    ∙ split_step added removed passed (before_all f is nothing v) (out v) (results is v)

-- What they define: what one of them defines.
pub results-append : (is js : List Instruction) (v : ℕ) → results (is ++ js) v ≡ results is v || results js v
results-append [] js v = refl
results-append (i ∷ is) js v =
    ap (λ x. has v i.results || x) (results-append is js v)
    ∙ or_assoc (has v i.results) (results is v) (results js v)

-- THE RULE SPLITS: live in is what is used, and of what is live out what is not killed.
pub through-split :
    (f : Function) (b : ℕ) (out : NumberSet) (v : ℕ) → through f b out v ≡ uses f b v || (out v && not (kills f b v))
through-split f b out v =
    let is = instructions_of (block_at f b) in
    let removed = has v (block_at f b).parameters in
    ap (λ x. not removed && x) (before_all-split f is out v)
    ∙ split_step false removed false (before_all f is nothing v) (out v) (results is v)

-- Larger sets give larger ones.
pub through-mono : (f : Function) (b : ℕ) (s t : NumberSet) → Within s t → Within (through f b s) (through f b t)
through-mono f b s t h v live =
    let used = uses f b v in
    let stays = not (kills f b v) in
    subst T (sym (through-split f b t v))
    (or_elim used (s v && stays) (or_left used (t v && stays))
    (λ o.
    or_right used (t v && stays) (and_intro (t v) stays (h v (and_left (s v) stays o)) (and_right (s v) stays o)))
    (subst T (through-split f b s v) live))

-- what is added of a list's marked values is marked
pub adding-marked :
    (f : Function) (l : List ℕ) (s : NumberSet) → Within s (is_marked f)
    → Within (adding (keep (is_marked f) l) s) (is_marked f)
adding-marked f l s h v =
    or_elim (has v (keep (is_marked f) l)) (s v) (λ t. keep-passes (is_marked f) l (has→∈ (keep (is_marked f) l) t)) (h v)

-- what is left of a set is within what the set is
pub removing-within : (l : List ℕ) (s t : NumberSet) → Within s t → Within (removing l s) t
removing-within l s t h v k = h v (and_right (not (has v l)) (s v) k)

-- So before a list of instructions all is marked.
pub before_all-marked :
    (f : Function) (is : List Instruction) (out : NumberSet) → Within out (is_marked f)
    → Within (before_all f is out) (is_marked f)
before_all-marked f [] out h = h
before_all-marked f (i ∷ is) out h =
    adding-marked f i.arguments (across f i (before_all f is out))
    (removing-within i.results (adding (keep (is_marked f) (values_passed i)) (before_all f is out)) (is_marked f)
    (adding-marked f (values_passed i) (before_all f is out) (before_all-marked f is out h)))

-- From marked values the rule gives marked values.
pub through-marked :
    (f : Function) (b : ℕ) (out : NumberSet) → Within out (is_marked f) → Within (through f b out) (is_marked f)
through-marked f b out h =
    removing-within (block_at f b).parameters (before_all f (instructions_of (block_at f b)) out) (is_marked f)
    (before_all-marked f (instructions_of (block_at f b)) out h)

-- A marked value is a value of the file.
pub marked-in-file : (f : Function) (v : ℕ) → T (is_marked f v) → v < length f.values
marked-in-file f v h =
    test-elim (ltb v (length f.values)) (ltb→lt v (length f.values))
    (λ n.
    let none : Value = record { size = 0; marked = false } in
    let outside = get_or-eq_default f.values none (nltb→le v (length f.values) n) in
    absurd (subst (λ (x : Value). T x.marked) outside h))

-- So what the rule gives from marked values are values of the file.
pub through-in-file :
    (f : Function) (b : ℕ) (out : NumberSet) → Within out (is_marked f) → (v : ℕ) → T (through f b out v)
    → v < length f.values
through-in-file f b out h v t = marked-in-file f v (through-marked f b out h v t)

-- What is live into some successor now is in every set that each successor's live-in is in.
pub joined-within :
    (f : Function) (ins : ℕ → NumberSet) (s : NumberSet) → ((t : ℕ) → Within (ins t) s) → (b : ℕ) → Within (joined f ins b) s
joined-within f ins s h b v live = let r = any-elim (λ t. ins t v) (successors f b) live in h r.0 v r.2
