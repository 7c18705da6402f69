-- What is possible after the journal, by the options that remain.
use Rattle.std.specs.Prelude.{ℕ, IsTrue, List, [], ◌∷◌, ◌++◌}
use Rattle.leaf_rows.specs.Leaves.{has_leaf}
use Rattle.leaf_rows.specs.declared.leaf_set.LeafSet.{LeafSet}
use Rattle.flow_model.specs.Lists.{◌∈◌, Each, IsOrderOf}
use Rattle.flow_model.specs.Process.{leaves}
use Rattle.flow_model.specs.Resolution.{ChoiceOption}
use Rattle.flow_model.specs.Ready.{DoneOr}
use Rattle.flow_model.specs.FoldedReady.{IsFoldedReady, IsFoldedRun, IsFoldedRunAfter, IsCompleteFoldedRun}
use Rattle.flow_model.specs.FoldedRun.{CanAvoid}
use Rattle.flow_residual.specs.declared.question.Stand.{Stand}
use Rattle.flow_residual.specs.declared.question.Stand.TheVariants.{Among, First}
use Rattle.flow_residual.specs.declared.question.Question.{Question}
use Rattle.flow_residual.specs.declared.question.Question.TheVariants as ask
use Rattle.flow_residual.specs.Remaining.{Remaining, IsLive, StillAvoids, banned}
use Rattle.flow_residual.specs.Telling.{Tells, IsApart}

-- the leaves may come next in every order
abbrev pub AllFollow : List ℕ → List ℕ → ChoiceOption → Type 0
AllFollow journal list o = (order : List ℕ) → IsOrderOf order list → IsFoldedRunAfter o.resolution o.order (λ n. n ∈ journal) order

-- the leaf may come next, and then the others in every order
abbrev pub FollowsFirst : List ℕ → ℕ → List ℕ → ChoiceOption → Type 0
FollowsFirst journal first list o = IsFoldedReady o.resolution o.order (λ n. n ∈ journal) first
    × ((order : List ℕ) → IsOrderOf order list → IsFoldedRunAfter o.resolution o.order (DoneOr (λ n. n ∈ journal) (first ∷ [])) order)

-- the option is live, and the leaves may follow so and leave it live
abbrev pub TakesAll : Remaining → List ℕ → ChoiceOption → Type 0
TakesAll r list o = IsLive r o × AllFollow r.journal list o × StillAvoids r list o

abbrev pub TakesFirst : Remaining → ℕ → List ℕ → ChoiceOption → Type 0
TakesFirst r first list o = IsLive r o × FollowsFirst r.journal first list o × StillAvoids r (first ∷ list) o

abbrev pub FollowsSo : List ℕ → List ℕ → Stand → ℕ → ChoiceOption → Type 0
FollowsSo journal claims Among leaf o = AllFollow journal (claims ++ leaf ∷ []) o
FollowsSo journal claims First leaf o = FollowsFirst journal leaf claims o

-- in one such order
abbrev pub with_claims : List ℕ → Stand → ℕ → List ℕ
with_claims claims Among leaf = claims ++ leaf ∷ []
with_claims claims First leaf = leaf ∷ claims

abbrev pub Takes : Remaining → List ℕ → Stand → ℕ → ChoiceOption → Type 0
Takes r claims stand leaf o = IsLive r o × FollowsSo r.journal claims stand leaf o × StillAvoids r (with_claims claims stand leaf) o

-- whether or not bans are avoided then
abbrev pub TakesInOrder : Remaining → List ℕ → Stand → ℕ → ChoiceOption → Type 0
TakesInOrder r claims stand leaf o = IsLive r o × FollowsSo r.journal claims stand leaf o

-- each live option that has the leaf can go on without the banned leaves once it is done
abbrev pub CanBegin : Remaining → ℕ → Type 0
CanBegin r n = (o : ChoiceOption) → IsLive r o → n ∈ leaves o.resolution → StillAvoids r (n ∷ []) o

-- none can
abbrev pub IsBarred : Remaining → ℕ → Type 0
IsBarred r n = (o : ChoiceOption) → IsLive r o → n ∈ leaves o.resolution → ¬ (StillAvoids r (n ∷ []) o)

-- the option would be live if these were banned besides
pub record LeavesOut (r : Remaining) (list : List ℕ) (o : ChoiceOption) : Type 0 where
  pub among : o ∈ r.options
  pub avoids : CanAvoid o.resolution (λ n. n ∈ r.journal) (λ n. n ∈ (banned r.bans ++ list))
  pub journal_ready : IsFoldedRun o.resolution o.order r.journal

-- the journal is a whole execution of the option
abbrev pub IsWhole : Remaining → ChoiceOption → Type 0
IsWhole r o = IsCompleteFoldedRun o.resolution o.order r.journal

-- what is asked of each option about the leaves of the list
abbrev pub Has : Remaining → List ℕ → Question → ChoiceOption → Type 0
Has r list (ask.Among leaf apart) o = TakesAll r (list ++ leaf ∷ []) o
Has r list (ask.First leaf after apart) o = TakesFirst r leaf list o
Has r list (ask.Without sides) o = LeavesOut r list o
Has r list ask.Finished o = IsWhole r o

-- the sets that come with the question are what it says
abbrev pub IsAsked : Remaining → List ℕ → Question → Type 0
IsAsked r list (ask.Among leaf apart) = Each (CanBegin r) (leaf ∷ list) × Each (IsApart (leaf ∷ list) apart) r.options
IsAsked r list (ask.First leaf after apart) = Each (CanBegin r) (leaf ∷ list) × Each (IsApart list apart) r.options
    × Tells r.options (r.journal ++ leaf ∷ []) (banned r.bans) after
IsAsked r list (ask.Without sides) = Tells r.options r.journal (banned r.bans ++ list) sides
IsAsked r list ask.Finished = Unit {0}

-- each leaf of the set may come next in an option that says yes, and that is live
abbrev pub AreWanted : {w : ℕ} → Remaining → List ℕ → Question → LeafSet w → Type 0
AreWanted r list question wanted = (o : ChoiceOption) → Has r list question o →
    IsLive r o × ((n : ℕ) → IsTrue (has_leaf wanted n) → IsFoldedReady o.resolution o.order (λ x. x ∈ r.journal) n)
