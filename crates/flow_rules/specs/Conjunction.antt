-- Rules that are all to be met, as one normal form.
use Rattle.std.specs.Prelude.{◌≡◌, ℕ, true, Option}
use Rattle.flow_model.specs.Constraint.{Constraint}
use Rattle.flow_model.specs.Ways.{Normal, normal_form, ways}
use Rattle.flow_rules.specs.declared.conjunction.Conjunction.{Conjunction}
use Rattle.flow_rules.specs.Normal.{all_normals, normals_of}

abbrev pub normal_in : Conjunction → Normal
normal_in c = all_normals (normals_of c.rules.items)

-- the normal form has the ways of the constraint
abbrev pub HasWaysOf : Normal → Constraint → Type 0
HasWaysOf normal c = (leaf : ℕ → Option ℕ) → ways normal leaf ≡ ways (normal_form c true) leaf
