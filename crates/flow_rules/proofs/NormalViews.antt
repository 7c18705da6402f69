-- The ways of a normal form of the code.
use Rattle.std.proofs.Common.{◌≡◌, ◌==◌, ℕ, Bool, true, false, if◌then◌else◌, List, [], ◌∷◌, Vec, Global, fold, refl, sym, ap, ◌∙◌, Option, Some, None}
use Rattle.std.specs.Option.{is_some}
use Rattle.std.proofs.Math.Bool.{beq}
use Rattle.flow_model.specs.Ways.{Normal, always, free_way, impossible, both, either, ways, ways_of_before, ways_of_must, ways_of_never, ways_of_not_before}
use Rattle.flow_rules.specs.declared.normal.Nnf.{Nnf, Event, Order, Parts}
use Rattle.flow_rules.specs.declared.normal.Nnf.TheOpen as open_nnf
use Rattle.flow_rules.specs.declared.normal.Nnf.TheVariants.{rolls-Event, rolls-Order, rolls-Parts}
use Rattle.flow_rules.specs.declared.normal.Nnf.TheFolds.{fold-roll-Nnf}
use Rattle.flow_rules.specs.Normal.{event_form, joined_normals, normal_of, normal_step, normals_of, pair_form}
use Rattle.flow_model.specs.declared.operators.Connective.{Connective}
use Rattle.flow_model.specs.declared.operators.Connective.TheVariants.{And, Or}
use Rattle.flow_rules.specs.WayLists.{both_ways, decided, either_way, pair_in, pair_of, ways_of_pair, ways_of_parts}
use Rattle.flow_rules.proofs.WayListLemmas.{both_free, either_nothing}

pub normal_of-Event : (wanted : Bool) (event : ℕ) → normal_of (Event wanted event) ≡ event_form wanted event
normal_of-Event wanted event = ap normal_of (sym (rolls-Event wanted event)) ∙ fold-roll-Nnf Normal normal_step (open_nnf.Event wanted event)

pub normal_of-Order : (wanted : Bool) (a b : ℕ) → normal_of (Order wanted a b) ≡ pair_form wanted a b
normal_of-Order wanted a b = ap normal_of (sym (rolls-Order wanted a b)) ∙ fold-roll-Nnf Normal normal_step (open_nnf.Order wanted a b)

-- parts

all_from : (leaf : ℕ → Option ℕ) (ns : List Nnf) (n : Normal) →
    ways (fold both n (normals_of ns)) leaf ≡ fold (λ vs m. both_ways vs (ways (normal_of m) leaf)) (ways n leaf) ns
all_from leaf [] n = refl
all_from leaf (m ∷ ns) n = all_from leaf ns (both n (normal_of m))

any_from : (leaf : ℕ → Option ℕ) (ns : List Nnf) (n : Normal) →
    ways (fold either n (normals_of ns)) leaf ≡ fold (λ vs m. either_way vs (ways (normal_of m) leaf)) (ways n leaf) ns
any_from leaf [] n = refl
any_from leaf (m ∷ ns) n = any_from leaf ns (either n (normal_of m))

pub ways_of_joined : (c : Connective) (leaf : ℕ → Option ℕ) (ns : List Nnf) → ways (joined_normals c (normals_of ns)) leaf ≡ ways_of_parts c leaf ns
ways_of_joined And leaf ns = all_from leaf ns always
ways_of_joined Or leaf ns = any_from leaf ns impossible

pub ways_at_parts : (leaf : ℕ → Option ℕ) (n : Nnf) (c : Connective) (parts : Vec Nnf Global) → n ≡ Parts c parts →
    ways_of_parts c leaf parts.items ≡ ways (normal_of n) leaf
ways_at_parts leaf n c parts e =
    let rolled = ap normal_of (sym (rolls-Parts c parts)) ∙ fold-roll-Nnf Normal normal_step (open_nnf.Parts c parts) in
    sym (ap (λ m. ways m leaf) (ap normal_of e ∙ rolled) ∙ ways_of_joined c leaf parts.items)

pub ways_of_one : (c : Connective) (leaf : ℕ → Option ℕ) (n : Nnf) → ways_of_parts c leaf (n ∷ []) ≡ ways (normal_of n) leaf
ways_of_one And leaf n = both_free (ways (normal_of n) leaf)
ways_of_one Or leaf n = either_nothing (ways (normal_of n) leaf)

-- an event

must_met : (o : Option ℕ) → decided (beq (is_some o) true) ≡ ways_of_must o
must_met None = refl
must_met (Some x) = refl

never_met : (o : Option ℕ) → decided (beq (is_some o) false) ≡ ways_of_never o
never_met None = refl
never_met (Some x) = refl

pub event_met : (leaf : ℕ → Option ℕ) (wanted : Bool) (event : ℕ) → decided (beq (is_some (leaf event)) wanted) ≡ ways (event_form wanted event) leaf
event_met leaf true event = must_met (leaf event)
event_met leaf false event = never_met (leaf event)

-- two events

in_order : (same : Bool) (o p : Option ℕ) → (if same then [] else ways_of_before o p) ≡ ways_of_pair true (if same then None else pair_of true o p)
in_order true o p = refl
in_order false (Some x) (Some y) = refl
in_order false o p = refl

turned_round : (same : Bool) (o p : Option ℕ) → (if same then free_way else ways_of_not_before o p) ≡ ways_of_pair false (if same then None else pair_of false o p)
turned_round true o p = refl
turned_round false (Some x) (Some y) = refl
turned_round false o p = refl

pub pair_ways : (leaf : ℕ → Option ℕ) (wanted : Bool) (a b : ℕ) → ways (pair_form wanted a b) leaf ≡ ways_of_pair wanted (pair_in leaf wanted a b)
pair_ways leaf true a b = in_order (a == b) (leaf a) (leaf b)
pair_ways leaf false a b = turned_round (a == b) (leaf a) (leaf b)

-- where a rule of the code is one of these

pub ways_at_event : (leaf : ℕ → Option ℕ) (n : Nnf) (wanted : Bool) (event : ℕ) → n ≡ Event wanted event → ways (event_form wanted event) leaf ≡ ways (normal_of n) leaf
ways_at_event leaf n wanted event e = sym (ap (λ m. ways m leaf) (ap normal_of e ∙ normal_of-Event wanted event))

pub ways_at_order : (leaf : ℕ → Option ℕ) (n : Nnf) (wanted : Bool) (a b : ℕ) → n ≡ Order wanted a b → ways_of_pair wanted (pair_in leaf wanted a b) ≡ ways (normal_of n) leaf
ways_at_order leaf n wanted a b e = sym (ap (λ m. ways m leaf) (ap normal_of e ∙ normal_of-Order wanted a b) ∙ pair_ways leaf wanted a b)
