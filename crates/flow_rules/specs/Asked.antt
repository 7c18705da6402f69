-- What a rule asks of some leaves.
use Rattle.std.specs.Prelude.{◌≡◌, ℕ, Bool, true, false, not, List, [], ◌∷◌, ◌++◌, map, fold}
use Rattle.flow_rules.specs.declared.asked.Asked.{Asked}
use Rattle.flow_rules.specs.declared.asked.Asked.TheOpen as open_asked
use Rattle.flow_rules.specs.declared.asked.Asked.TheOpen.{Asked-F}
use Rattle.flow_rules.specs.declared.asked.Asked.TheFolds.{fold-Asked}
use Rattle.flow_rules.specs.declared.asked.Found.{Found}
use Rattle.flow_rules.specs.declared.asked.Found.TheVariants.{Decided, Open}
use Rattle.flow_model.specs.declared.operators.Connective.{Connective}
use Rattle.flow_model.specs.declared.operators.Connective.TheVariants.{And, Or}
use Rattle.flow_rules.specs.WayLists.{both_ways, decided, decider, is_decided}

-- the ways of two parts that each ask for an order
abbrev pub open_joined : Connective → List (List (ℕ × ℕ)) → List (List (ℕ × ℕ)) → List (List (ℕ × ℕ))
open_joined And vs ws = both_ways vs ws
open_joined Or vs ws = vs ++ ws

-- the ways of such parts
abbrev pub open_ways_by : Connective → List (List (List (ℕ × ℕ))) → List (List (ℕ × ℕ))
open_ways_by c parts = fold (open_joined c) (decided (not (decider c))) parts

-- the ways in which it is met, with those of each part in its place
abbrev pub asked_step : Asked-F (List (List (ℕ × ℕ))) → List (List (ℕ × ℕ))
asked_step (open_asked.Pair x y) = ((x, y) ∷ []) ∷ []
asked_step (open_asked.Parts c parts) = open_ways_by c parts.items

abbrev pub ways_asked : Asked → List (List (ℕ × ℕ))
ways_asked = fold-Asked (List (List (ℕ × ℕ))) asked_step

-- the ways of those that are asked together
abbrev pub ways_asked_by : Connective → List Asked → List (List (ℕ × ℕ))
ways_asked_by c parts = open_ways_by c (map ways_asked parts)

-- there is a way, and they are not the one that asks for nothing
abbrev pub AreOpen : List (List (ℕ × ℕ)) → Type 0
AreOpen ways = (met : Bool) → is_decided met ways ≡ false

-- what is found is a rule with these ways
abbrev pub Finds : Found → List (List (ℕ × ℕ)) → Type 0
Finds (Decided met) ways = ways ≡ decided met
Finds (Open asked) ways = (ways_asked asked ≡ ways) × AreOpen ways

abbrev pub is_nil : List Asked → Bool
is_nil [] = true
is_nil (part ∷ parts) = false

-- what is kept of parts with these ways: none of them decides the whole, and those that are left out add nothing
pub record HasKept (c : Connective) (kept : List Asked) (ways : List (List (ℕ × ℕ))) : Type 0 where
  pub same : ways_asked_by c kept ≡ ways
  pub undecided : is_decided (decider c) ways ≡ false
  pub none : is_decided (not (decider c)) ways ≡ is_nil kept
