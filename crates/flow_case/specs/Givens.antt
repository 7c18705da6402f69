-- What the code has read of a case's rules.
use Rattle.std.specs.Prelude.{◌≡◌, ◌++◌, ℕ, List, ◌∷◌, Err}
use Rattle.flow_lex.specs.declared.token.Token.{Token}
use Rattle.flow_case.specs.declared.given.Given as code
use Rattle.flow_case.specs.declared.kind.RuleStage.TheVariants.{WordNeeded}
use Rattle.flow_case.specs.declared.text_refusal.CasePolicyRefusal.{CasePolicyRefusal}
use Rattle.flow_case.specs.declared.text_refusal.CasePolicyRefusal.TheVariants.{Expected, NoEvent, NoRole, NoMemory}
use Rattle.flow_model.specs.Lists.{Each}
use Rattle.flow_case.specs.declared.kind.Kind.{Kind}
use Rattle.flow_case.specs.declared.kind.Kind.TheVariants.{Final, Back, Close}
use Rattle.flow_case.specs.Reading.{Given, read_from}
use Rattle.flow_case.specs.RulesOf.{IsKnownName}

abbrev pub said : code.Given → Given
said g = record { kind = g.kind; place = g.place; name = g.name.now }

-- the reading stops at the place; want of memory says nothing
abbrev pub IsReadRefusal : List ℕ → List Token → CasePolicyRefusal → Type 0
IsReadRefusal text tokens (Expected place) = read_from text WordNeeded tokens ≡ Err place
IsReadRefusal text tokens NoMemory = Unit {0}
IsReadRefusal text tokens other = ⊥

-- the refusal of an unknown name
abbrev pub unknown_at : Kind → ℕ → CasePolicyRefusal
unknown_at Final place = NoEvent place
unknown_at Back place = NoRole place
unknown_at Close place = NoRole place

-- the refusal is of that name, which is not known; want of memory says nothing
abbrev pub IsNameRefusal : List (List ℕ) → List (List ℕ) → Given → CasePolicyRefusal → Type 0
IsNameRefusal events roles g NoMemory = Unit {0}
IsNameRefusal events roles g refusal = (refusal ≡ unknown_at g.kind g.place) × ¬ (IsKnownName events roles g)

-- it is of the first name that is not known
pub record IsOfFirst (events roles : List (List ℕ)) (given : List Given) (refusal : CasePolicyRefusal) : Type 0 where
  pub front : List Given
  pub here : Given
  pub back : List Given
  pub cut : given ≡ front ++ here ∷ back
  pub refused : IsNameRefusal events roles here refusal
  pub first : Each (IsKnownName events roles) front

abbrev pub IsNamesRefusal : List (List ℕ) → List (List ℕ) → List Given → CasePolicyRefusal → Type 0
IsNamesRefusal events roles given NoMemory = Unit {0}
IsNamesRefusal events roles given refusal = IsOfFirst events roles given refusal
