-- What is kept of a run with no entry.
use Rattle.std.proofs.Common.{◌≡◌, ℕ, false, List, [], length, refl, sym, subst, arith}
use Rattle.flow_model.specs.Lists.{Each}
use Rattle.flow_model.specs.Folding.{folded_options}
use Rattle.flow_laws.specs.WellFormed.{IsWellFormed}
use Rattle.flow_plan.specs.Options.{HasExecution, AreJustThose, options_of}
use Rattle.flow_plan.specs.Compilation.{Compilation, IsCompiled}
use Rattle.flow_workflow.specs.Definition.{Definition, schema_of}
use Rattle.flow_workflow.specs.Numbers.{IsKnown}
use Rattle.flow_residual.specs.Remaining.{Remaining}
use Rattle.flow_residual.specs.Claimed.{Claimed}
use Rattle.flow_facts.specs.Course.{Course, course_from}
use Rattle.flow_core.specs.Invariant.{IsKept}

pub kept_first : (w : Definition) (limit : ℕ) (c : Compilation) (r : Remaining) (claimed : Claimed) (v : Course) (kinds : ℕ) (held : List ℕ) (count leaves : ℕ) →
    IsCompiled (schema_of w) c → Each (IsKnown (length w.events) (length w.facts)) w.tree.labels → length w.notes ≡ length w.events → IsWellFormed (schema_of w) →
    r.options ≡ options_of c.plans → r.journal ≡ [] → r.bans ≡ [] → claimed ≡ record { claims = []; events = []; takers = []; epoch = 0; room = limit; kinds = kinds } →
    kinds ≡ length w.events → v ≡ course_from held count leaves → held ≡ w.held → count ≡ length w.facts → leaves ≡ length w.tree.labels →
    IsKept w limit [] r claimed v false
kept_first w limit c r claimed v kinds held count leaves compiled known noted well_formed options_are journal bans claims_are kinds_are course_is held_is count_is leaves_are =
    let first : Claimed = record { claims = []; events = []; takers = []; epoch = 0; room = limit; kinds = kinds } in
    subst (λ (n : Claimed). IsKept w limit [] r n v false) (sym claims_are) (subst (λ (u : Course). IsKept w limit [] r first u false) (sym course_is) (record {
      legal = tt;
      consistent = compiled.consistent;
      known = known;
      noted = noted;
      remains = record {
        well_formed = well_formed;
        options_are = subst (AreJustThose HasExecution (folded_options (schema_of w))) (sym options_are) compiled.plans;
        journal_is = sym journal;
        bans_are = sym bans;
      };
      claims = record { claims_are = refl; epoch_is = refl; events_are = refl; kinds = kinds_are };
      takers_are = refl;
      course = record { held_is = held_is; count = count_is; labels_are = refl; room = leaves_are };
      committed_is = refl;
      within_limit = omega arith;
      claims_room = omega arith;
      few_claims = omega arith;
      few_epochs = omega arith;
    }))
