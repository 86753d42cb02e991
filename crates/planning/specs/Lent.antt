-- The spiller by its lent tables: what they stand for, and that they stay the same ones.
use Rattle.std.specs.Prelude.{ℕ, ◌≡◌, List, refl}
use Rattle.std.proofs.Common.{ap, subst, ◌∙◌}
use Rattle.planning.specs.declared.SafepointSpiller.{SafepointSpiller}
use Rattle.planning.specs.Standing.{Tables, tables}

-- the tables, with how far planning has come
abbrev pub tables_of : SafepointSpiller → Tables
tables_of x =
    tables x.asked.now x.steps.now x.sizes.now
    (record { pointer = x.pointer; given = x.given; made = x.made; blocks = x.blocks; steps = x.noted })

-- two states are of the same lent tables
abbrev pub SameLent : SafepointSpiller → SafepointSpiller → Type 0
SameLent x y =
    (y.asked.ghost_name ≡ x.asked.ghost_name) × (y.steps.ghost_name ≡ x.steps.ghost_name) × (y.sizes.ghost_name ≡ x.sizes.ghost_name)
    × (y.numbers.ghost_name ≡ x.numbers.ghost_name)

pub lent-none : (x : SafepointSpiller) → SameLent x x
lent-none x = (refl, refl, refl, refl)

pub lent-then : (x y z : SafepointSpiller) → SameLent x y → SameLent y z → SameLent x z
lent-then x y z a b = (b.0 ∙ a.0, b.1 ∙ a.1, b.2 ∙ a.2, b.3 ∙ a.3)

-- tables with other asks
abbrev pub with_asks : List ℕ → List ℕ → ℕ → Tables → Tables
with_asks asked steps n t =
    tables asked steps t.sizes
    (record { pointer = t.progress.pointer; given = t.progress.given; made = t.progress.made; blocks = t.progress.blocks; steps = n })

-- two states differ by their asks alone
abbrev pub SameRest : SafepointSpiller → SafepointSpiller → Type 0
SameRest x y = (tables_of y ≡ with_asks y.asked.now y.steps.now y.noted (tables_of x)) × (y.numbers.now ≡ x.numbers.now)

pub rest-then : (x y z : SafepointSpiller) → SameRest x y → SameRest y z → SameRest x z
rest-then x y z a b = (b.0 ∙ ap (with_asks z.asked.now z.steps.now z.noted) a.0, b.1 ∙ a.1)

-- what holds of tables and numbers, by what they are
pub along : (P : Tables → List ℕ → Type 0) {t u : Tables} {ns ms : List ℕ} → t ≡ u → ns ≡ ms → P t ns → P u ms
along P {u = u} {ns = ns} a b h = subst (P u) b (subst (λ x. P x ns) a h)
