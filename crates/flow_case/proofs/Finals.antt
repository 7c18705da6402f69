-- The first leaf of a final event, looked for from the left; and what a step back would cut.
use Rattle.std.proofs.Common.{◌≡◌, ◌<◌, ◌+◌, ℕ, List, [], ◌∷◌, length, take, drop, get_or, Option, Some, None, MatchOption, sym, subst}
use Rattle.std.proofs.lemmas.List.{take_more}
use Rattle.flow_model.specs.Lists.{◌∈◌}
use Rattle.flow_model.specs.Run.{current_claims, IsCurrent, IsOpen, IsOpenIndex}
use Rattle.flow_model.proofs.Lists.{mem_here, each_member, each-append}
use Rattle.flow_model.specs.Schema.{Schema}
use Rattle.flow_model.specs.declared.history.Step.TheVariants.{Rewound}
use Rattle.flow_core.specs.Run.{Run, schema, now, IsUncommitted, HasEntryLeft}
use Rattle.flow_core.specs.Answers.{IsLeast}
use Rattle.flow_core.proofs.SingleLemmas.{none_out}
use Rattle.flow_core.specs.Make.{CanMake}
use Rattle.flow_policy.proofs.RowLemmas.{around}
use Rattle.flow_case.specs.Rules.{Rules, IsMarked, IsFinalLeaf, HasNoFinal, IsFirstFinal, IsLet}
use Rattle.flow_case.specs.Ruled.{Ruled}
use Rattle.flow_case.proofs.Governed.{open_once}

pub first_here : (w : Schema) (rules : Rules) (leaves : List ℕ) (k d : ℕ) → k < length leaves → HasNoFinal w rules (take k leaves) → IsFinalLeaf w rules (get_or leaves k d) →
    IsFirstFinal w rules leaves (get_or leaves k d)
first_here w rules leaves k d within none is = (take k leaves, drop (k + 1) leaves, around leaves k d within, none, is)

-- the rules let the step back that the run can make
pub let_back : (c : Ruled) (by index other : ℕ) → IsMarked c.rules.back by → HasNoFinal (schema c.desk.run) c.rules (drop index (now c.desk.run).journal) →
    CanMake c.desk.run (Rewound index) → CanMake c.desk.run (Rewound other) → IsLet (schema c.desk.run) c.rules (now c.desk.run) by (Rewound other)
let_back c by index other may none can can' =
    let one : index ≡ other = open_once (schema c.desk.run) (now c.desk.run) index other can.allowed can'.allowed in
    (may, subst (λ (i : ℕ). HasNoFinal (schema c.desk.run) c.rules (drop i (now c.desk.run).journal)) one none)

pub none_further : (w : Schema) (rules : Rules) (leaves : List ℕ) (k d : ℕ) → k < length leaves → HasNoFinal w rules (take k leaves) → ¬ (IsFinalLeaf w rules (get_or leaves k d)) →
    HasNoFinal w rules (take (k + 1) leaves)
none_further w rules leaves k d inside none not =
    subst (HasNoFinal w rules) (sym (take_more leaves k d inside)) (each-append (λ n. ¬ (IsFinalLeaf w rules n)) (take k leaves) (get_or leaves k d ∷ []) none (not, tt))

pub some_final : (w : Schema) (rules : Rules) (leaves : List ℕ) (leaf : ℕ) → IsFirstFinal w rules leaves leaf → HasNoFinal w rules leaves → ⊥
some_final w rules leaves leaf (before, after, cut, none, is) all =
    each_member (λ n. ¬ (IsFinalLeaf w rules n)) leaves all leaf (subst (λ (l : List ℕ). leaf ∈ l) (sym cut) (mem_here leaf before after)) is

pub claim_out : (r : Run) (claim : ℕ) → IsLeast (IsCurrent (now r)) claim → current_claims (now r) ≡ [] → ⊥
claim_out r claim least none = none_out (now r) claim none least

-- the run can go back to its open place
pub can_go_back : (r : Run) (place : Option ℕ) → IsUncommitted r × HasEntryLeft r →
    MatchOption place ((i : ℕ) → ¬ (IsOpen (schema r) (now r) i)) (IsOpenIndex (schema r) (now r)) →
    MatchOption place ((i : ℕ) → ¬ (CanMake r (Rewound i))) (λ i. CanMake r (Rewound i))
can_go_back r None going none = λ i can. none i can.allowed.0
can_go_back r (Some i) going is = record { going = going.0; room = going.1; allowed = is }
