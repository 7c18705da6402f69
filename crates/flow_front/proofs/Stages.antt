-- One thing after another.
use Rattle.std.proofs.Common.{◌≡◌, Result, Ok, Err, refl, sym, subst, inl, inr}
use Rattle.std.specs.Result.{IsErrAnd}
use Rattle.flow_form.specs.Script.{Said}
use Rattle.flow_workflow.specs.Definition.{Definition, schema_of}
use Rattle.flow_expand.specs.Workflows.{IsExpanded}
use Rattle.flow_plan.specs.Compilation.{Compilation, IsCompiled}
use Rattle.flow_findings.specs.declared.refused.Refused.{Refused}
use Rattle.flow_front.specs.declared.stop.Stop.{Stop}
use Rattle.flow_front.specs.declared.stop.Stop.TheVariants as stop
use Rattle.flow_front.specs.Stop.{IsStop}
use Rattle.flow_front.specs.Refusal.{Looked, the_script, the_workflow, IsCause}
use Rattle.flow_front.specs.Prepared.{IsPrepared, IsNotPrepared}
use Rattle.flow_front.specs.Stages.{Then, Prepares, Comes}

module _ {F A B : Type 0} (IsOf : B → F → Type 0) (looked : Looked) (Has : A → Type 0) (P : A → Result F Refused → Type 0) where
  -- what follows of what was made
  pub goes_on : (a : A) (result : Result B Stop) → Has a → Comes IsOf (P a) result → Comes IsOf (Then looked Has P) result
  goes_on a (Ok b) has (f, p, is) = (f, inr (a, has, p), is)
  goes_on a (Err (stop.Refused why)) has p = inr (a, has, p)
  goes_on a (Err stop.NoMemory) has p = tt

  -- nothing was made
  pub stops : (why : Stop) → IsStop (IsCause looked) why → Comes IsOf (Then looked Has P) (Err why)
  stops (stop.Refused why) cause = inl (why, cause, refl)
  stops stop.NoMemory cause = tt

module _ {F B : Type 0} (IsOf : B → F → Type 0) (P : Result F Refused → Type 0) where
  -- what stopped a call that the one at hand made stops that too
  pub told : (result : Result B Stop) (why : Stop) → IsErrAnd result (λ e. e ≡ why) → Comes IsOf P (Err why) → Comes IsOf P result
  told (Ok b) why is comes = absurd is
  told (Err e) why is comes = subst (λ (s : Stop). Comes IsOf P (Err s)) (sym is) comes

  pub starved : (result : Result B Stop) → IsErrAnd result (λ e. e ≡ stop.NoMemory) → Comes IsOf P result
  starved result is = told result stop.NoMemory is tt

module _ {F B : Type 0} (IsOf : B → F → Type 0) (s : Said) (P : Definition → Compilation → Result F Refused → Type 0) where
  -- what comes of what was prepared
  pub when_prepared : (w : Definition) (c : Compilation) (result : Result B Stop) → IsPrepared s w c → Comes IsOf (P w c) result → Comes IsOf (Prepares s P) result
  when_prepared w c result (expanded, compiled) comes =
      goes_on IsOf (the_script s) (IsExpanded s) (λ w. Then (the_workflow (schema_of w)) (IsCompiled (schema_of w)) (P w)) w result expanded
      (goes_on IsOf (the_workflow (schema_of w)) (IsCompiled (schema_of w)) (P w) c result compiled comes)

  -- nothing was prepared
  pub when_not_prepared : (why : Stop) → IsStop (IsNotPrepared s) why → Comes IsOf (Prepares s P) (Err why)
  when_not_prepared (stop.Refused why) (inl cause) = inl (why, cause, refl)
  when_not_prepared (stop.Refused why) (inr (w, expanded, cause)) = inr (w, expanded, inl (why, cause, refl))
  when_not_prepared stop.NoMemory cause = tt

module _ {F A : Type 0} (looked : Looked) (Has : A → Type 0) (P : A → Result F Refused → Type 0) where
  -- what holds of each cause, and of each refusal of what follows, holds of each refusal
  pub each_refusal : (K : Refused → Type 0) → ((why : Refused) → IsCause looked why → K why) → ((a : A) (why : Refused) → Has a → P a (Err why) → K why) →
      (why : Refused) → Then looked Has P (Err why) → K why
  each_refusal K here later why (inl (r, cause, is)) = let same : r ≡ why = cc in subst K same (here r cause)
  each_refusal K here later why (inr (a, has, p)) = later a why has p

-- what is found is no refusal
pub no_refusal : {F : Type 0} (K : Type 0) (found : F) (why : Refused) → Err why ≡ Ok found → K
no_refusal K found why is = absurd (let no : Err why ≡ Ok found = is in cc)
