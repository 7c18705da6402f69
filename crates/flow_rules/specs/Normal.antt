-- A normal form of the code as one of the definitions, and the normal forms that the code makes.
use Rattle.std.specs.Prelude.{ℕ, Bool, true, false, not, List, [], ◌∷◌, map, fold}
use Rattle.flow_model.specs.Constraint.{Constraint, Always, Impossible, Must, Never, Order, Not, And, Or}
use Rattle.flow_model.specs.Ways.{Normal, always, impossible, must, never, before, not_before, both, either}
use Rattle.flow_model.specs.declared.operators.Connective.{Connective}
use Rattle.flow_model.specs.declared.operators.Connective.TheVariants as connective
use Rattle.flow_rules.specs.declared.normal.Nnf.{Nnf}
use Rattle.flow_rules.specs.declared.normal.Nnf.TheOpen as open_nnf
use Rattle.flow_rules.specs.declared.normal.Nnf.TheOpen.{Nnf-F}
use Rattle.flow_rules.specs.declared.normal.Nnf.TheFolds.{fold-Nnf}

-- all of them, joined from the left
abbrev pub all_normals : List Normal → Normal
all_normals ns = fold both always ns

-- normal forms that are joined so, from the left
abbrev pub joined_normals : Connective → List Normal → Normal
joined_normals connective.And ns = all_normals ns
joined_normals connective.Or ns = fold either impossible ns

-- one event where it is wanted, and else not
abbrev pub event_form : Bool → ℕ → Normal
event_form true e = must e
event_form false e = never e

-- one event before another where it is wanted, and else not
abbrev pub pair_form : Bool → ℕ → ℕ → Normal
pair_form true a b = before a b
pair_form false a b = not_before a b

-- one normal form, with that of the definitions in place of each inner one
abbrev pub normal_step : Nnf-F Normal → Normal
normal_step (open_nnf.Event wanted e) = event_form wanted e
normal_step (open_nnf.Order wanted a b) = pair_form wanted a b
normal_step (open_nnf.Parts c ns) = joined_normals c ns.items

abbrev pub normal_of : Nnf → Normal
normal_of = fold-Nnf Normal normal_step

abbrev pub normals_of : List Nnf → List Normal
normals_of ns = map normal_of ns

-- f of each member and the next
abbrev pub linked : {A : Type 0} → (ℕ → ℕ → A) → ℕ → List ℕ → List A
linked f first [] = []
linked f first (next ∷ more) = f first next ∷ linked f next more

-- how parts are joined of which all are wanted, or of whose negations one is
abbrev pub joining : Bool → Connective
joining true = connective.And
joining false = connective.Or

-- all of them where they are wanted, and else one of them
abbrev pub all_form : Bool → List Normal → Normal
all_form wanted ns = joined_normals (joining wanted) ns

-- an order of events, or its negation where it is not wanted
abbrev pub split_chain : Bool → List ℕ → Normal
split_chain wanted [] = all_form wanted []
split_chain wanted (e ∷ []) = event_form wanted e
split_chain wanted (a ∷ b ∷ more) = all_form wanted (linked (pair_form wanted) a (b ∷ more))

-- the normal form of a constraint, or of its negation where it is not wanted, its orders lists of pairs
abbrev pub split_form : Constraint → Bool → Normal
split_form Always wanted = all_form wanted []
split_form Impossible wanted = all_form (not wanted) []
split_form (Must e) wanted = split_chain wanted (e ∷ [])
split_form (Never e) wanted = split_chain (not wanted) (e ∷ [])
split_form (Order es) wanted = split_chain wanted es
split_form (Not c) wanted = split_form c (not wanted)
split_form (And c d) true = both (split_form c true) (split_form d true)
split_form (And c d) false = either (split_form c false) (split_form d false)
split_form (Or c d) true = either (split_form c true) (split_form d true)
split_form (Or c d) false = both (split_form c false) (split_form d false)
