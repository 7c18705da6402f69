-- A list that a plan follows to its end is a ready run of its option.
use Rattle.std.proofs.Common.{◌≡◌, ◌+◌, ◌↔◌, ℕ, List, length, take, drop, sym, subst, ⊎_elim, arith}
use Rattle.std.proofs.lemmas.Bool.{cases_lt}
use Rattle.std.proofs.lemmas.List.{take_all, take-append-drop}
use Rattle.flow_model.specs.Resolution.{ChoiceOption}
use Rattle.flow_plan.specs.Courses.{AreFollowed}
use Rattle.flow_plan.specs.Options.{option_of}
use Rattle.flow_plan.specs.Planned.{Planned}
use Rattle.flow_residual.proofs.FoldedSteps.{run_front}
use Rattle.flow_trace.specs.Fronts.{Follows}
use Rattle.flow_trace.proofs.FrontLemmas.{reaches_so}

front_follows : (o : ChoiceOption) (list : List ℕ) (k : ℕ) → Follows list o → Follows (take k list) o
front_follows o list k run =
    run_front o.resolution o.order (λ n. ⊥) (take k list) (drop k list) (subst (λ (l : List ℕ). Follows l o) (sym (take-append-drop k list)) run)

pub follows_all : (p : Planned) (list : List ℕ) (k : ℕ) → AreFollowed p list k → (k ≡ length list) ↔ Follows list (option_of p)
follows_all p list k followed =
    let reaches = reaches_so p list k followed in (
      λ all. subst (λ (l : List ℕ). Follows l (option_of p)) (take_all k list (omega (arith, all))) reaches.follows,
      λ run. ⊎_elim
          (λ less. absurd (reaches.no_longer less (front_follows (option_of p) list (k + 1) run)))
          (λ past. omega (arith, past, followed.within))
          (cases_lt k (length list)),
    )
