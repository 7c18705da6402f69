-- One answer of two about a text.
use Rattle.std.proofs.Common.{◌≡◌, Ok, Err, subst}
use Rattle.std.specs.Prelude.{Result}
use Rattle.flow_form.specs.declared.refusal.TextRefusal.{TextRefusal}
use Rattle.flow_form.specs.declared.refusal.TextRefusal.TheVariants.{NoMemory}
use Rattle.flow_policy.specs.declared.refusal.PolicyRefusal.{PolicyRefusal}
use Rattle.flow_policy.specs.declared.refusal.PolicyRefusal.TheVariants as policy
use Rattle.flow_findings.specs.Refusing.{IsOfText, IsOfPolicy}

-- a refusal of a text is not for want of memory
pub of_text : (r : TextRefusal) → IsOfText r → ¬ (r ≡ NoMemory)
of_text r tells none = subst IsOfText none tells

pub of_policy : (r : PolicyRefusal) → IsOfPolicy r → ¬ (r ≡ policy.NoMemory)
of_policy r tells none = subst IsOfPolicy none tells

-- of one answer there is one refusal or one value, and not both
pub one_refusal : {V E : Type 0} (a b : Result V E) (r q : E) → a ≡ Err r → b ≡ Err q → a ≡ b → r ≡ q
one_refusal a b r q is are same = cc

pub one_value : {V E : Type 0} (a b : Result V E) (v u : V) → a ≡ Ok v → b ≡ Ok u → a ≡ b → v ≡ u
one_value a b v u is are same = cc

pub not_both : {V E : Type 0} (a b : Result V E) (r : E) (v : V) → a ≡ Err r → b ≡ Ok v → a ≡ b → ⊥
not_both a b r v is are same = cc
