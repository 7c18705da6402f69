-- Options that are looked through one by one, and what stands beside them.
use Rattle.std.proofs.Common.{◌≡◌, ℕ, zero, suc, ◌+◌, ◌<◌, ◌≤◌, Bool, false, ◌↔◌, IsTrue, List, [], ◌∷◌, ◌++◌, length, get_or, set, take, Option, Some, None, IfSome, IfNone, is_some, true≢false, slice_get, refl, sym, ap, ◌∙◌, subst, inl, inr, ◌⊎◌, ⊎_elim, below_more, arith, get_or-set_same, get_or-set_other}
use Rattle.std.proofs.Math.ListN.{length-set}
use Rattle.std.proofs.lemmas.List.{get_or_default, map-append, take_all, take_more}
use Rattle.std.proofs.lemmas.Bool.{cases_lt}
use Rattle.std.proofs.lemmas.Option.{slice_get_within}
use Rattle.flow_model.proofs.Lists.{each-append, mem-slice_get}
use Rattle.flow_model.specs.Lists.{◌∈◌, Each}
use Rattle.flow_model.specs.Resolution.{ChoiceOption}
use Rattle.flow_plan.specs.Planned.{Planned}
use Rattle.flow_plan.specs.Sampled.{Sampled}
use Rattle.flow_plan.specs.Options.{options_of, option_of}
use Rattle.flow_residual.specs.Options.{HasAt, SomeOption, NoneBelow, SomeBelow, EachHas}

-- a member stands at some place
place_of_option : (os : List ChoiceOption) (o : ChoiceOption) → o ∈ os → (k : ℕ) × (k < length os) × (slice_get os k ≡ Some o)
place_of_option [] o m = absurd m
place_of_option (p ∷ os) o (inl e) = (0, omega arith, let at : Some p ≡ Some o = cc in at)
place_of_option (p ∷ os) o (inr m) = let k = place_of_option os o m in (suc k.0, omega (arith, k.1), k.2)

-- there is an option at each place
option_there : (os : List ChoiceOption) (k : ℕ) → k < length os → (o : ChoiceOption) × (slice_get os k ≡ Some o)
option_there [] k within = absurd (omega arith)
option_there (p ∷ os) zero within = (p, refl)
option_there (p ∷ os) (suc k) within = option_there os k (omega arith)

-- ---- what is asked of each, told of the option at a place

module _ (P : ChoiceOption → Type 0) (os : List ChoiceOption) (k : ℕ) where
  -- the answers when one was found, and when none was
  pub found_at : (b : Bool) → k < length os → ((o : ChoiceOption) → slice_get os k ≡ Some o → IsTrue b ↔ P o) → IsTrue b → HasAt P os k
  found_at b within says told = let (o, at) = option_there os k within in (o, at, (says o at).0 told)

  pub some_at : HasAt P os k → SomeOption P os
  some_at (o, at, has) = (o, mem-slice_get os k o at, has)

  pub none_more : (b : Bool) → NoneBelow P os k → ((o : ChoiceOption) → slice_get os k ≡ Some o → IsTrue b ↔ P o) → b ≡ false → NoneBelow P os (k + 1)
  none_more b none says not =
      below_more (λ j. (o : ChoiceOption) → slice_get os j ≡ Some o → ¬ (P o)) k none (λ o at h. let yes = (says o at).1 h in absurd (cc))

  pub none_of_all : length os ≤ k → NoneBelow P os k → ¬ (SomeOption P os)
  none_of_all past none some = let at = place_of_option os some.0 some.1 in none at.0 (let l = at.1 in omega arith) some.0 at.2 some.2

  pub none_found : length os ≤ k → NoneBelow P os k → IsTrue false ↔ SomeOption P os
  none_found past none = (λ wrong. absurd (cc), λ some. absurd (none_of_all past none some))

  -- what is found, option by option
  pub some_more : (new now : Bool) → k < length os → ((o : ChoiceOption) → slice_get os k ≡ Some o → IsTrue new ↔ (IsTrue now ⊎ P o)) → (IsTrue now ↔ SomeBelow P os k) →
      IsTrue new ↔ SomeBelow P os (k + 1)
  some_more new now within says before =
      let (o, here) = option_there os k within in
      let step = says o here in (
        λ h. ⊎_elim (λ old. let found = before.0 old in (found.0, (let b = found.1 in omega (arith, b)), found.2, found.3, found.4))
            (λ p. (k, (let b : k < k + 1 = omega arith in b), o, here, p)) (step.0 h),
        λ found. step.1 (⊎_elim (λ below. inl (before.1 (found.0, below, found.2, found.3, found.4)))
            (λ above. let at : found.0 ≡ k = (let b = found.1 in omega (arith, b, above)) in
            inr (subst P (let e : Some found.2 ≡ Some o = sym found.3 ∙ ap (λ j. slice_get os j) at ∙ here in cc) found.4))
            (cases_lt found.0 k)),
      )

  pub some_all : (answer : Bool) → length os ≤ k → (IsTrue answer ↔ SomeBelow P os k) → IsTrue answer ↔ SomeOption P os
  some_all answer past below = (
    λ h. let found = below.0 h in (found.2, mem-slice_get os found.0 found.2 found.3, found.4),
    λ some. let at = place_of_option os some.0 some.1 in below.1 (at.0, (let l = at.1 in omega (arith, l, past)), some.0, at.2, some.2),
  )

-- whether some place was found
pub is_found : (P : ChoiceOption → Type 0) (os : List ChoiceOption) (place : Option ℕ) (b : Bool) → b ≡ is_some place → IfSome place (HasAt P os) → IfNone place (¬ (SomeOption P os)) →
    IsTrue b ↔ SomeOption P os
is_found P os (Some k) b is some none = (λ _. some_at P os k some, λ _. is)
is_found P os None b is some none = (λ yes. absurd (true≢false (sym yes ∙ is)), λ has. absurd (none has))

-- ---- the options of plans

pub length-options : (plans : List Sampled) → length (options_of plans) ≡ length plans
length-options [] = refl
length-options (p ∷ plans) = ap suc (length-options plans)

-- the plan that was read at a place is that of the option there
pub same_plan : (plans : List Sampled) (k : ℕ) (s : Sampled) (p : Planned) (o : ChoiceOption) → s ≡ get_or plans k s → p ≡ s.plan → slice_get (options_of plans) k ≡ Some o → option_of p ≡ o
same_plan [] k s p o is same at = absurd (cc)
same_plan (q ∷ plans) zero s p o is same at = ap option_of same ∙ ap (λ (t : Sampled). option_of t.plan) is ∙ (let here : option_of q.plan ≡ o = cc in here)
same_plan (q ∷ plans) (suc k) s p o is same at = same_plan plans k s p o is same at

pub plan_at : (plans : List Sampled) (k : ℕ) (s : Sampled) → k < length plans → s ≡ get_or plans k s → slice_get (options_of plans) k ≡ Some (option_of s.plan)
plan_at [] k s within is = absurd (omega arith)
plan_at (q ∷ plans) zero s within is = ap (λ (t : Sampled). Some (option_of t.plan)) (sym is)
plan_at (q ∷ plans) (suc k) s within is = plan_at plans k s (omega arith) is

-- an option stands where its plan does
pub option_member : (plans : List Sampled) (k : ℕ) (s : Sampled) → k < length plans → s ≡ get_or plans k s → option_of s.plan ∈ options_of plans
option_member plans k s within is = mem-slice_get (options_of plans) k (option_of s.plan) (plan_at plans k s within is)

-- ---- what stands beside the options

-- those before the place have changed, the others not yet
pub record AreTurned {A : Type 0} (i : ℕ) (R S : ChoiceOption → A → Type 0) (os : List ChoiceOption) (xs : List A) : Type 0 where
  pub one_each : length xs ≡ length os
  pub new : (k : ℕ) → k < i → (o : ChoiceOption) (x : A) → slice_get os k ≡ Some o → x ≡ get_or xs k x → S o x
  pub old : (k : ℕ) → i ≤ k → (o : ChoiceOption) (x : A) → slice_get os k ≡ Some o → x ≡ get_or xs k x → R o x

module _ {A : Type 0} (R S : ChoiceOption → A → Type 0) (os : List ChoiceOption) where
  pub turned_none : (xs : List A) → EachHas R os xs → AreTurned 0 R S os xs
  turned_none xs are = record { one_each = are.one_each; new = λ k h. absurd (omega arith); old = λ k h. are.each k }

  pub turned_set : (i : ℕ) (v : A) (xs : List A) → i < length xs → AreTurned i R S os xs → ((o : ChoiceOption) → slice_get os i ≡ Some o → S o v) → AreTurned (i + 1) R S os (set xs i v)
  turned_set i v xs within are here = record {
    one_each = length-set xs i v ∙ are.one_each;
    new = below_more (λ k. (o : ChoiceOption) (x : A) → slice_get os k ≡ Some o → x ≡ get_or (set xs i v) k x → S o x) i
        (λ k h o x at is. are.new k h o x at (is ∙ get_or-set_other xs i k v x (omega (arith, h))))
        (λ o x at is. subst (S o) (sym (is ∙ get_or-set_same xs i v x within)) (here o at));
    old = λ k h o x at is. are.old k (omega (arith, h)) o x at (is ∙ get_or-set_other xs i k v x (omega (arith, h)));
  }

  pub turned_all : (n : ℕ) (xs : List A) → length xs ≤ n → AreTurned n R S os xs → EachHas S os xs
  turned_all n xs past are = record {
    one_each = are.one_each;
    each = λ k o x at. let within = slice_get_within os k o at in are.new k (omega (arith, are.one_each)) o x at;
  }

-- one has changed by what its plan was asked
pub turned_by : {A : Type 0} (R S : ChoiceOption → A → Type 0) (plans : List Sampled) (i : ℕ) (v d : A) (xs : List A) (s : Sampled) (p : Planned) → i < length xs → s ≡ get_or plans i s → p ≡ s.plan →
    AreTurned i R S (options_of plans) xs → (R (option_of p) (get_or xs i d) → S (option_of p) v) → AreTurned (i + 1) R S (options_of plans) (set xs i v)
turned_by R S plans i v d xs s p within is same are makes = turned_set R S (options_of plans) i v xs within are (λ o at.
    let here : option_of p ≡ o = same_plan plans i s p o is same at in
    let first : i ≤ i = omega arith in
    subst (λ q. S q v) here (makes (subst (λ q. R q (get_or xs i d)) (sym here) (are.old i first o (get_or xs i d) at (get_or_default xs i d (get_or xs i d) within)))))

-- ---- what each plan says of itself

pub each_plan_more : (P : ChoiceOption → Type 0) (plans : List Sampled) (i : ℕ) (s : Sampled) (p : Planned) → i < length plans → s ≡ get_or plans i s → p ≡ s.plan → P (option_of p) →
    Each P (options_of (take i plans)) → Each P (options_of (take (i + 1) plans))
each_plan_more P plans i s p within is same says all =
    let more : take (i + 1) plans ≡ take i plans ++ s ∷ [] = take_more plans i s within ∙ ap (λ (t : Sampled). take i plans ++ t ∷ []) (sym is) in
    subst (λ (l : List Sampled). Each P (options_of l)) (sym more)
    (subst (Each P) (sym (map-append (λ (t : Sampled). option_of t.plan) (take i plans) (s ∷ [])))
    (each-append P (options_of (take i plans)) (option_of s.plan ∷ []) all (subst (λ (t : Planned). P (option_of t)) same says, tt)))

pub each_plan_all : (P : ChoiceOption → Type 0) (plans : List Sampled) (i : ℕ) → length plans ≤ i → Each P (options_of (take i plans)) → Each P (options_of plans)
each_plan_all P plans i past all = subst (λ (l : List Sampled). Each P (options_of l)) (take_all i plans past) all
