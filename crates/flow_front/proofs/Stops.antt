-- Refusals of the crates below, as what stops a call.
use Rattle.std.proofs.Common.{◌≡◌, ◌+◌, ℕ, zero, suc, List, [], ◌∷◌, length, Option, None, Some, Result, Ok, Err, refl, sym, ap, subst, ◌∙◌, arith}
use Rattle.std.specs.Prelude.{◌<◌, ◌≤◌, ◌↔◌, IfErr, IfSome}
use Rattle.std.specs.Result.{IsErrOf, IsErrAnd}
use Rattle.flow_model.specs.declared.limits.TheConstants.{GREATEST_INPUT}
use Rattle.flow_model.specs.Schema.{Schema}
use Rattle.flow_form.specs.Script.{Said}
use Rattle.flow_io.specs.declared.failure.ReadRefusal.{ReadRefusal}
use Rattle.flow_io.specs.declared.failure.ReadRefusal.TheVariants.{ReadFault, TooLong, NoMemory}
use Rattle.flow_io.specs.Source.{IsAllOf, LosesCount}
use Rattle.flow_workflow.specs.declared.refusal.ExpandRefusal.{ExpandRefusal}
use Rattle.flow_workflow.specs.declared.refusal.ExpandRefusal.TheVariants as expansion
use Rattle.flow_expand.specs.Refusals.{IsRefusal}
use Rattle.flow_excise.specs.declared.refusal.CompileRefusal.{CompileRefusal}
use Rattle.flow_excise.specs.declared.refusal.CompileRefusal.TheVariants as compilation
use Rattle.flow_excise.specs.Compilation.{IsRefused}
use Rattle.flow_findings.specs.declared.refused.Refused.{Refused}
use Rattle.flow_findings.specs.declared.refused.Refused.TheVariants as refused
use Rattle.flow_front.specs.declared.stop.Stop.{Stop}
use Rattle.flow_front.specs.declared.stop.Stop.TheVariants as stop
use Rattle.flow_front.specs.Stop.{IsStop, read_stop, expand_stop, compile_stop}
use Rattle.flow_front.specs.Refusal.{Gives, the_source, the_script, the_workflow, IsCause}
use Rattle.flow_front.specs.Input.{IsTextCause}
use Rattle.flow_front.proofs.ExpandedEvents.{tells_expansion}

-- a refusal that was turned into what stops the call
pub told_stop : {A : Type 0} (result : Result A Stop) (told : Stop) (Cause : Refused → Type 0) → IsErrAnd result (λ e. e ≡ told) → IsStop Cause told →
    IfErr result (IsStop Cause)
told_stop (Ok a) told Cause is stops = tt
told_stop (Err e) told Cause is stops = subst (IsStop Cause) (sym is) stops

pub weaker_stop : (One Other : Refused → Type 0) (why : Stop) → ((r : Refused) → One r → Other r) → IsStop One why → IsStop Other why
weaker_stop One Other (stop.Refused r) weaker stops = weaker r stops
weaker_stop One Other stop.NoMemory weaker stops = tt

pub weaker_stops : {A : Type 0} (One Other : Refused → Type 0) (result : Result A Stop) → ((r : Refused) → One r → Other r) → IfErr result (IsStop One) → IfErr result (IsStop Other)
weaker_stops One Other (Ok a) weaker stops = tt
weaker_stops One Other (Err e) weaker stops = weaker_stop One Other e weaker stops

pub expansion_stops : (s : Said) (r : ExpandRefusal) → IsRefusal s r → IsStop (IsCause (the_script s)) (expand_stop r)
expansion_stops s expansion.NoMemory h = tt
expansion_stops s r h = (tells_expansion s r h (λ none. cc), h)

pub compiling_stops : (w : Schema) (r : CompileRefusal) → IsRefused w r → IsStop (IsCause (the_workflow w)) (compile_stop r)
compiling_stops w compilation.NoMemory h = tt
compiling_stops w r h = (tt, h)

-- the text of a workflow, in an input that a source gives
pub text_stops : (left : Option (List ℕ)) (input : List ℕ) (why : Stop) → Gives left input → length input ≤ GREATEST_INPUT → IsStop (IsTextCause input) why →
    IsStop (IsCause (the_source left)) why
text_stops left input (stop.Refused (refused.Text refusal)) gives short (tells, first) = (input, gives, short, tells, first)
text_stops left input (stop.Refused other) gives short h = absurd h
text_stops left input stop.NoMemory gives short h = tt

-- what was read is what the source gives
given : (left left' : Option (List ℕ)) (bytes slice : List ℕ) → IsAllOf left left' bytes → slice ≡ bytes → Gives left slice
given None left' bytes slice whole same = tt
given (Some all) left' bytes slice whole same = same ∙ whole.0

pub read_text_stops : {A : Type 0} (result : Result A Stop) (left left' : Option (List ℕ)) (bytes slice : List ℕ) → IsAllOf left left' bytes → slice ≡ bytes →
    length slice ≤ GREATEST_INPUT → IfErr result (IsStop (IsTextCause slice)) → IfErr result (IsStop (IsCause (the_source left)))
read_text_stops (Ok a) left left' bytes slice whole same short h = tt
read_text_stops (Err why) left left' bytes slice whole same short h = text_stops left slice why (given left left' bytes slice whole same) short h

-- there are lists of each length
long_list : (n : ℕ) → (xs : List ℕ) × (length xs ≡ n)
long_list zero = ([], refl)
long_list (suc n) = let (xs, is) = long_list n in (0 ∷ xs, ap suc is)

too_long : (left left' : Option (List ℕ)) → IfSome left (λ bytes. LosesCount (Some bytes) left' (GREATEST_INPUT + 1)) →
    (input : List ℕ) × Gives left input × (GREATEST_INPUT < length input)
too_long None left' loses = let (xs, is) = long_list (GREATEST_INPUT + 1) in (xs, tt, omega (arith, is))
too_long (Some bytes) left' loses = (bytes, refl, omega (arith, loses.0))

-- a source that was not read
pub read_stops : (T : Type 0) (left left' : Option (List ℕ)) (r : ReadRefusal) →
    IfSome left (λ bytes. IsErrOf {T = T} (Err r) TooLong ↔ LosesCount (Some bytes) left' (GREATEST_INPUT + 1)) → IsStop (IsCause (the_source left)) (read_stop r)
read_stops T left left' ReadFault long = tt
read_stops T left left' TooLong long = too_long left left' (loses left long)
  where
    loses : (l : Option (List ℕ)) → IfSome l (λ bytes. IsErrOf {T = T} (Err TooLong) TooLong ↔ LosesCount (Some bytes) left' (GREATEST_INPUT + 1)) →
        IfSome l (λ bytes. LosesCount (Some bytes) left' (GREATEST_INPUT + 1))
    loses None h = tt
    loses (Some bytes) h = h.0 refl
read_stops T left left' NoMemory long = tt
