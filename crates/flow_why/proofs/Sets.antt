-- Sets of constraints, and the workflow with just these.
use Rattle.std.proofs.Common.{◌≡◌, ◌<◌, ◌≤◌, ◌+◌, ℕ, zero, suc, List, [], ◌∷◌, map, length, get_or, arith, refl, ap, subst, sym, ◌∙◌}
use Rattle.std.specs.List.{range_with_len}
use Rattle.std.proofs.lemmas.List.{ext_get_or}
use Rattle.std.proofs.lemmas.List.FromFn.{get_or-map-range_with_len, length-map-range_with_len}
use Rattle.flow_model.specs.declared.limits.TheConstants.{GREATEST_BULK, MOST_OPTIONS, MOST_RESOLUTIONS}
use Rattle.flow_model.specs.Lists.{Begins, Each}
use Rattle.flow_model.specs.Constraint.{Constraint, Meets, Always}
use Rattle.flow_model.specs.Facts.{events_of}
use Rattle.flow_model.specs.Schema.{Schema, IsGood}
use Rattle.flow_laws.specs.WellFormed.{IsConsistent, IsWellFormed}
use Rattle.flow_goal.specs.Labelled.{Labelled}
use Rattle.flow_workflow.specs.Definition.{Definition, schema_of}
use Rattle.flow_plan.specs.Compilation.{IsWithinLimits}
use Rattle.flow_excise.specs.Options.{schema_with}
use Rattle.flow_excise.specs.Compilation.{IsRefused}
use Rattle.flow_excise.specs.declared.refusal.CompileRefusal.{CompileRefusal}
use Rattle.flow_excise.specs.declared.refusal.CompileRefusal.TheVariants.{TooManyChoices, TooManyWays, TooBulky}
use Rattle.flow_conflict.specs.declared.judge.Judged.{Judged}
use Rattle.flow_conflict.specs.declared.judge.Judged.TheVariants.{Met, Unmet, Unknown}
use Rattle.flow_conflict.specs.Judgement.{Tells}
use Rattle.flow_why.specs.Constraints.{constraint_at, constraints_at, with_only, IsMet, IsWithin}
use Rattle.flow_why.specs.Fronts.{IsFront}

each_mapped : (P : Constraint → Type 0) (f : ℕ → Constraint) (ns : List ℕ) → Each (λ n. P (f n)) ns → Each P (map f ns)
each_mapped P f [] h = tt
each_mapped P f (n ∷ ns) h = (h.0, each_mapped P f ns h.1)

each_unmapped : (P : Constraint → Type 0) (f : ℕ → Constraint) (ns : List ℕ) → Each P (map f ns) → Each (λ n. P (f n)) ns
each_unmapped P f [] h = tt
each_unmapped P f (n ∷ ns) h = (h.0, each_unmapped P f ns h.1)

front_of_met : (w : Schema) (list ns : List ℕ) → IsMet w list ns → IsFront (with_only w ns) list
front_of_met w list ns (t, trace, begins, each) =
    (t, (trace, each_mapped (λ c. Meets c (events_of w.labels t)) (constraint_at w.rules) ns each), begins)

met_of_front : (w : Schema) (list ns : List ℕ) → IsFront (with_only w ns) list → IsMet w list ns
met_of_front w list ns (t, (trace, each), begins) =
    (t, trace, begins, each_unmapped (λ c. Meets c (events_of w.labels t)) (constraint_at w.rules) ns each)

-- a workflow with just these constraints, as the compiler is given it

module _ (w : Definition) (ns : List ℕ) where
  within_only : IsWithinLimits (schema_with w.tree (constraints_at w.rules ns)) → IsWithin (schema_of w) ns
  within_only h = record { resolutions = h.resolutions; options_few = h.options_few; light = h.light }

  within_given : IsWithin (schema_of w) ns → IsWithinLimits (schema_with w.tree (constraints_at w.rules ns))
  within_given h = record { resolutions = h.resolutions; options_few = h.options_few; light = h.light }

  told_of_these : (list : List ℕ) (judged : Judged) →
      Tells (IsWithinLimits (schema_with w.tree (constraints_at w.rules ns))) (IsFront (schema_with w.tree (constraints_at w.rules ns)) list) judged →
      Tells (IsWithin (schema_of w) ns) (IsMet (schema_of w) list ns) judged
  told_of_these list Met (within, front) = (within_only within, met_of_front (schema_of w) list ns front)
  told_of_these list Unmet (within, none) = (within_only within, λ met. none (front_of_met (schema_of w) list ns met))
  told_of_these list Unknown past = λ within. past (within_given within)

  -- what is told of the rules that the code has
  pub told_of : (list : List ℕ) (rules : List Constraint) (judged : Judged) → rules ≡ constraints_at w.rules ns →
      Tells (IsWithinLimits (schema_with w.tree rules)) (IsFront (schema_with w.tree rules) list) judged →
      Tells (IsWithin (schema_of w) ns) (IsMet (schema_of w) list ns) judged
  told_of list rules judged same h =
      told_of_these list judged
      (subst (λ rs. Tells (IsWithinLimits (schema_with w.tree rs)) (IsFront (schema_with w.tree rs) list) judged) same h)

-- the constraints are not asked about
pub formed : (w : Definition) (rules : List Constraint) → IsWellFormed (schema_of w) → IsWellFormed (schema_with w.tree rules)
formed w rules h = record { numbered = h.numbered; unique = h.unique }

-- all numbers have all constraints
pub all_constraints : (rules : List Constraint) → constraints_at rules (range_with_len 0 (length rules)) ≡ rules
all_constraints rules =
    ext_get_or Always (constraints_at rules (range_with_len 0 (length rules))) rules
    (length-map-range_with_len (constraint_at rules) 0 (length rules))
    (λ i below. get_or-map-range_with_len (constraint_at rules) 0 (length rules) i i Always
    (let n : length (constraints_at rules (range_with_len 0 (length rules))) ≡ length rules = length-map-range_with_len (constraint_at rules) 0 (length rules) in
    omega (arith, n, below)) (omega arith))

-- of all constraints together
module _ (w : Definition) (n : ℕ) (list : List ℕ) (all : n ≡ length w.rules) where
  same : constraints_at w.rules (range_with_len 0 n) ≡ w.rules
  same = ap (λ m. constraints_at w.rules (range_with_len 0 m)) all ∙ all_constraints w.rules

  whole_within : IsWithinLimits (schema_of w) → IsWithin (schema_of w) (range_with_len 0 n)
  whole_within h = subst (λ rs. IsWithinLimits (record (schema_of w) { rules = rs })) (sym same) h

  within_whole : IsWithin (schema_of w) (range_with_len 0 n) → IsWithinLimits (schema_of w)
  within_whole h = subst (λ rs. IsWithinLimits (record (schema_of w) { rules = rs })) same h

  pub met_by_all : (IsWithin (schema_of w) (range_with_len 0 n) → IsMet (schema_of w) list (range_with_len 0 n)) →
      IsWithinLimits (schema_of w) → IsFront (schema_of w) list
  met_by_all h within =
      subst (λ rs. IsFront (record (schema_of w) { rules = rs }) list) same (front_of_met (schema_of w) list (range_with_len 0 n) (h (whole_within within)))

  pub unmet_by_all : IsWithin (schema_of w) (range_with_len 0 n) × ¬ (IsMet (schema_of w) list (range_with_len 0 n)) →
      IsWithinLimits (schema_of w) × ¬ (IsFront (schema_of w) list)
  unmet_by_all (within, none) = (
    within_whole within,
    λ front. none (met_of_front (schema_of w) list (range_with_len 0 n)
        (subst (λ rs. IsFront (record (schema_of w) { rules = rs }) list) (sym same) front)),
  )
