-- The arguments of a fact: what may follow each state.
use Rattle.std.proofs.Common.{◌≡◌, ℕ, List, [], ◌∷◌, ◌++◌, refl, sym, ap, subst, append_assoc, append-nil}
use Rattle.flow_facts.specs.declared.constant.Const.{Const}
use Rattle.flow_facts.specs.declared.constant.Const.TheVariants.{Word, Number}
use Rattle.flow_facts.specs.Atom.{Atom, atom}
use Rattle.flow_grammar.specs.Symbol.{Symbol, Placed, at, constant_symbol, a_name, a_number, comma, closing}
use Rattle.flow_grammar.specs.Grammar.{spell_constants}
use Rattle.flow_grammar.specs.Machine.{ArgState, constant_needed, after_constant, step_arg}
use Rattle.flow_grammar.proofs.Parts.{Follow, StepNext, StepFront}

abbrev pub ArgRest : ℕ → ArgState → List Placed → Follow Atom → Type 0
ArgRest d (constant_needed n args) w K =
    (c : Const) × (cs : List Const) × (r : List Placed) × (at d (constant_symbol c) ∷ spell_constants d cs (at d closing ∷ r) ≡ w) × K (atom n (args ++ c ∷ cs)) r
ArgRest d (after_constant n args) w K =
    (cs : List Const) × (r : List Placed) × (spell_constants d cs (at d closing ∷ r) ≡ w) × K (atom n (args ++ cs)) r

abbrev ArgFront : ℕ → ArgState → List Placed → Follow Atom → Type 0
ArgFront d = StepFront step_arg (λ a. d) (ArgRest d)

pub arg_forth : (d : ℕ) (a : ArgState) (w : List Placed) (K : Follow Atom) → ArgRest d a w K → ArgFront d a w K
arg_forth d (constant_needed n args) w K (Word m, cs, r, e, h) =
    subst (λ y. ArgFront d (constant_needed n args) y K) e
    (λ k. refl, (cs, r, refl, subst (λ y. K (atom n y) r) (sym (append_assoc args (Word m ∷ []) cs)) h))
arg_forth d (constant_needed n args) w K (Number m, cs, r, e, h) =
    subst (λ y. ArgFront d (constant_needed n args) y K) e
    (λ k. refl, (cs, r, refl, subst (λ y. K (atom n y) r) (sym (append_assoc args (Number m ∷ []) cs)) h))
arg_forth d (after_constant n args) w K ([], r, e, h) =
    subst (λ y. ArgFront d (after_constant n args) y K) e (λ k. refl, subst (λ y. K (atom n y) r) (append-nil args) h)
arg_forth d (after_constant n args) w K (c ∷ cs, r, e, h) =
    subst (λ y. ArgFront d (after_constant n args) y K) e (λ k. refl, (c, cs, r, refl, h))

pub arg_back : (d : ℕ) (a : ArgState) (t : Symbol) (w : List Placed) (K : Follow Atom) → StepNext (ArgRest d) (step_arg a t) w K → ArgRest d a (at d t ∷ w) K
arg_back d (constant_needed n args) (a_name m) w K (cs, r, e, h) =
    (Word m, cs, r, ap (λ y. at d (a_name m) ∷ y) e, subst (λ y. K (atom n y) r) (append_assoc args (Word m ∷ []) cs) h)
arg_back d (constant_needed n args) (a_number m) w K (cs, r, e, h) =
    (Number m, cs, r, ap (λ y. at d (a_number m) ∷ y) e, subst (λ y. K (atom n y) r) (append_assoc args (Number m ∷ []) cs) h)
arg_back d (after_constant n args) comma w K (c, cs, r, e, h) = (c ∷ cs, r, ap (λ y. at d comma ∷ y) e, h)
arg_back d (after_constant n args) closing w K h = ([], w, refl, subst (λ y. K (atom n y) w) (sym (append-nil args)) h)
arg_back d _ _ w K h = absurd h

pub arg_completes : {X : Type 0} (d : ℕ) (a : ArgState) (K : X → Follow Atom) → ((f : Atom) → (w : List Placed) × (x : X) × K x f w) →
    (w : List Placed) × (x : X) × ArgRest d a w (K x)
arg_completes d (constant_needed n args) K more = let (r, x, h) = more (atom n (args ++ Number 0 ∷ [])) in (_, x, (Number 0, [], r, refl, h))
arg_completes d (after_constant n args) K more = let (r, x, h) = more (atom n (args ++ [])) in (_, x, ([], r, refl, h))
