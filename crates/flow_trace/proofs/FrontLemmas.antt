-- How long options are followed.
use Rattle.std.proofs.Common.{◌≡◌, ◌<◌, ◌≤◌, ◌+◌, ◌⊎◌, ℕ, zero, suc, max, Bool, true, ◌↔◌, IsTrue, List, [], ◌∷◌, ◌++◌, length, take, drop, get_or, Some, slice_get, refl, sym, ap, ◌∙◌, subst, below_more, arith, inl, inr, ⊎_elim}
use Rattle.std.proofs.lemmas.Bool.{cases_lt}
use Rattle.std.proofs.lemmas.Option.{slice_get-get_or}
use Rattle.std.proofs.lemmas.List.{take_all, take_more, take-append-drop}
use Rattle.flow_model.specs.FoldedReady.{IsFinished}
use Rattle.flow_model.specs.Lists.{◌∈◌}
use Rattle.flow_model.specs.Resolution.{ChoiceOption}
use Rattle.flow_model.proofs.Lists.{mem-slice_get}
use Rattle.flow_model.proofs.MadeLists.{some_same}
use Rattle.flow_plan.specs.Courses.{AreFollowed}
use Rattle.flow_plan.specs.Planned.{Planned}
use Rattle.flow_plan.specs.Sampled.{Sampled}
use Rattle.flow_plan.specs.Options.{options_of, option_of}
use Rattle.flow_residual.specs.Options.{SomeOption}
use Rattle.flow_residual.proofs.FoldedSteps.{run_front, run_grow, ready_at}
use Rattle.flow_residual.proofs.OptionLemmas.{none_found, plan_at}
use Rattle.flow_trace.specs.Fronts.{Follows, Finishes, Reaches, AreReaching, AreReachingBelow}
use Rattle.flow_trace.proofs.TraceLemmas.{take_longer}

-- a front is followed where the list is
front_follows : (o : ChoiceOption) (list : List ℕ) (k : ℕ) → Follows list o → Follows (take k list) o
front_follows o list k run =
    run_front o.resolution o.order (λ n. ⊥) (take k list) (drop k list) (subst (λ (l : List ℕ). Follows l o) (sym (take-append-drop k list)) run)

longer_not : (o : ChoiceOption) (list : List ℕ) (k m : ℕ) → k ≤ m → ¬ (Follows (take k list) o) → ¬ (Follows (take m list) o)
longer_not o list k m h none run =
    let (rest, is) = take_longer list k m h in
    none (run_front o.resolution o.order (λ n. ⊥) (take k list) rest (subst (λ (l : List ℕ). Follows l o) is run))

-- ---- one option, leaf by leaf

module _ (p : Planned) (list : List ℕ) (k : ℕ) (followed : AreFollowed p list k) where
  abbrev o : ChoiceOption
  o = option_of p

  follows_to : (i : ℕ) → i ≤ k → Follows (take i list) o
  follows_to zero most = tt
  follows_to (suc i) most =
      let more : take (i + 1) list ≡ take i list ++ get_or list i 0 ∷ [] = take_more list i 0 (omega (arith, most, followed.within)) in
      let grown = run_grow o.resolution o.order (take i list) (get_or list i 0) (follows_to i (omega (arith, most))) (followed.each i (omega (arith, most))) in
      let same : i + 1 ≡ suc i = omega arith in
      subst (λ n. Follows (take n list) o) same (subst (λ (l : List ℕ). Follows l o) (sym more) grown)

  no_longer : k < length list → ¬ (Follows (take (k + 1) list) o)
  no_longer less run = followed.no_longer less (ready_at o.resolution o.order (take k list) (get_or list k 0) [] (subst (λ (l : List ℕ). Follows l o) (take_more list k 0 less) run))

  pub reaches_so : Reaches list o k
  reaches_so = record { within = followed.within; follows = follows_to k (omega arith); no_longer = no_longer }

  pub finishes_so : (whole : Bool) → IsTrue whole ↔ ((k ≡ length list) × IsFinished p.process (λ n. n ∈ list)) → IsTrue whole ↔ Finishes list o
  finishes_so whole says = (
    λ yes. let (all, finished) = says.0 yes in (subst (λ (l : List ℕ). Follows l o) (take_all k list (omega (arith, all))) (follows_to k (omega arith)), finished),
    λ (run, finished). ⊎_elim
        (λ less. absurd (no_longer less (front_follows o list (k + 1) run)))
        (λ past. says.1 (omega (arith, past, followed.within), finished))
        (cases_lt k (length list)),
  )

-- ---- the options, one by one

-- a plan that was read
pub plan_read : (plans : List Sampled) (i : ℕ) (s : Sampled) → i < length plans → s ≡ get_or plans i s → s ∈ plans
plan_read plans i s within is = mem-slice_get plans i s (slice_get-get_or plans i s within ∙ ap (λ (t : Sampled). Some t) (sym is))

-- the option of a plan that was read
pub option_read : (plans : List Sampled) (i : ℕ) (s : Sampled) (p : Planned) → i < length plans → s ≡ get_or plans i s → p ≡ s.plan → slice_get (options_of plans) i ≡ Some (option_of p)
option_read plans i s p within is same = plan_at plans i s within is ∙ ap (λ (q : Planned). Some (option_of q)) (sym same)

module _ (list : List ℕ) (os : List ChoiceOption) where
  pub reaching_none : AreReachingBelow list os 0 0
  reaching_none = record { within = omega arith; follows = inl refl; no_longer = λ less j below. absurd (omega (arith, below)); none_whole = λ j below. absurd (omega (arith, below)) }

  -- no option before has the list as a whole execution, nor has this one
  pub reaching_more : (i k m : ℕ) (o : ChoiceOption) → AreReachingBelow list os i k → slice_get os i ≡ Some o → Reaches list o m → ¬ (Finishes list o) →
      AreReachingBelow list os (i + 1) (max m k)
  reaching_more i k m o below at reaches part = record {
    within = omega (arith, below.within, reaches.within);
    follows = elim (cases_lt k m) [
      | inl longer ↦ inr (o, mem-slice_get os i o at, (let is : m ≡ max m k = omega (arith, longer) in subst (λ n. Follows (take n list) o) is reaches.follows))
      | inr most ↦ (let is : k ≡ max m k = omega (arith, most) in subst (λ n. (n ≡ 0) ⊎ SomeOption (Follows (take n list)) os) is below.follows)
    ];
    no_longer = λ less.
        below_more (λ j. (q : ChoiceOption) → slice_get os j ≡ Some q → ¬ (Follows (take (max m k + 1) list) q)) i
        (λ j before q there. longer_not q list (k + 1) (max m k + 1) (omega arith) (below.no_longer (omega (arith, less)) j before q there))
        (λ q there.
        let same : o ≡ q = some_same o q (sym at ∙ there) in
        subst (λ (r : ChoiceOption). ¬ (Follows (take (max m k + 1) list) r)) same (longer_not o list (m + 1) (max m k + 1) (omega arith) (reaches.no_longer (omega (arith, less)))));
    none_whole = below_more (λ j. (q : ChoiceOption) → slice_get os j ≡ Some q → ¬ (Finishes list q)) i below.none_whole
        (λ q there. let same : o ≡ q = some_same o q (sym at ∙ there) in subst (λ (r : ChoiceOption). ¬ (Finishes list r)) same part);
  }

  pub reaching_all : (i k : ℕ) → length os ≤ i → AreReachingBelow list os i k → AreReaching list os k
  reaching_all i k past below = record {
    within = below.within;
    follows = below.follows;
    no_longer = λ less some. let wrong = (none_found (Follows (take (k + 1) list)) os i past (below.no_longer less)).1 some in absurd (cc);
  }

  -- an option has the list as a whole execution
  pub reaching_whole : (i : ℕ) (o : ChoiceOption) → slice_get os i ≡ Some o → Finishes list o → AreReaching list os (length list)
  reaching_whole i o at whole = record {
    within = omega arith;
    follows = inr (o, mem-slice_get os i o at, front_follows o list (length list) whole.0);
    no_longer = λ less. absurd (omega (arith, less));
  }

  pub some_whole : (i : ℕ) (o : ChoiceOption) → slice_get os i ≡ Some o → Finishes list o → IsTrue true ↔ SomeOption (Finishes list) os
  some_whole i o at whole = (λ _. (o, mem-slice_get os i o at, whole), λ some. refl)
