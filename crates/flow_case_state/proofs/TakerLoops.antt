-- Users that are asked one after another, from 1.
use Rattle.std.proofs.Common.{◌≡◌, ◌<◌, ◌≤◌, ◌+◌, ◌∙◌, ℕ, List, [], ◌∷◌, ◌++◌, length, Option, Some, None, sym, ap, subst, arith}
use Rattle.flow_model.specs.Facts.{event_at}
use Rattle.flow_model.specs.Verdict.{AreJust}
use Rattle.flow_goal.specs.Labelled.{Labelled}
use Rattle.flow_workflow.specs.Definition.{Definition}
use Rattle.flow_core.specs.Run.{Run, schema}
use Rattle.flow_core.proofs.RisingLists.{Below, none_yet, one_passed, all_found, just_as, none_has}
use Rattle.flow_roles.specs.Desked.{Desked}
use Rattle.flow_case_state.specs.Takers.{IsTaker, IsTakerAt}

pub some_same : (a b : ℕ) → Some a ≡ Some b → a ≡ b
some_same a b e = cc

some_none : (a : ℕ) → ¬ (Some a ≡ None)
some_none a e = cc

-- the event that is found at a leaf of the run's workflow
pub event_of : (r : Run) (leaf : ℕ) (found : Option ℕ) (tree : Labelled) (w : Definition) → found ≡ event_at tree.labels leaf → tree ≡ w.tree → w ≡ r.definition →
    event_at (schema r).labels leaf ≡ found
event_of r leaf found tree w at of is =
    sym (at ∙ ap (λ (t : Labelled). event_at t.labels leaf) of ∙ ap (λ (d : Definition). event_at d.tree.labels leaf) is)

-- nobody has the number 0
pub none_first : (d : Desked) (users event : ℕ) → AreJust (Below (IsTaker d users event) (0 + 1)) []
none_first d users event = one_passed (IsTaker d users event) 0 [] (none_yet (IsTaker d users event)) zero_is_none
  where
    zero_is_none : ¬ (IsTaker d users event 0)
    zero_is_none is = let low : 1 ≤ 0 = is.from in omega arith

-- nobody has a number past the last
pub none_past : (d : Desked) (users event place : ℕ) (found : List ℕ) → users ≤ place → AreJust (Below (IsTaker d users event) (place + 1)) found →
    AreJust (IsTaker d users event) found
none_past d users event place found past just =
    all_found (IsTaker d users event) (place + 1) found just (λ user is. let low : user ≤ users = is.to in omega arith)

-- none of the first users is a taker
abbrev pub NoneOf : Desked → ℕ → ℕ → ℕ → Type 0
NoneOf d users event place = (user : ℕ) → user < place + 1 → ¬ (IsTaker d users event user)

pub none_of_no : (d : Desked) (users event : ℕ) → NoneOf d users event 0
none_of_no d users event user within is = let low : 1 ≤ user = is.from in omega arith

pub none_of_all : (d : Desked) (users event place : ℕ) → users ≤ place → NoneOf d users event place → (user : ℕ) → ¬ (IsTaker d users event user)
none_of_all d users event place past none user is = let low : user ≤ users = is.to in none user (omega arith) is

-- the takers of a leaf's event are those of the leaf
pub takers_at : (d : Desked) (users leaf event : ℕ) (found : List ℕ) → event_at (schema d.run).labels leaf ≡ Some event → AreJust (IsTaker d users event) found →
    AreJust (IsTakerAt d users leaf) found
takers_at d users leaf event found its just = just_as (IsTaker d users event) (IsTakerAt d users leaf) found just
    (λ user is. (event, its, is))
    (λ user is. subst (λ (e : ℕ). IsTaker d users e user) (some_same is.0 event (sym is.1 ∙ its)) is.2)

pub no_takers : (d : Desked) (users leaf : ℕ) (found : List ℕ) → event_at (schema d.run).labels leaf ≡ None → found ≡ [] → AreJust (IsTakerAt d users leaf) found
no_takers d users leaf found none empty = subst (AreJust (IsTakerAt d users leaf)) (sym empty) (none_has (IsTakerAt d users leaf) (λ user is. some_none is.0 (sym is.1 ∙ none)))
