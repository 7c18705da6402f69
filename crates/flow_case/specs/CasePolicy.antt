-- The policy of a case that a text says, or why it says none.
use Rattle.std.specs.Prelude.{◌≡◌, ◌⊎◌, ℕ, List, Some, None, Ok, Err}
use Rattle.std.proofs.Common.{refl}
use Rattle.std.specs.Coded.{Coded, code_by, coded×}
use Rattle.std.specs.List.{flat_map}
use Rattle.flow_form.specs.Script.{Said}
use Rattle.flow_lex.specs.declared.token.Token.{Token}
use Rattle.flow_lex.specs.Tokens.{lexed, IsAscii, IsFirstNotAscii}
use Rattle.flow_policy.specs.declared.refusal.PolicyRefusal.{PolicyRefusal}
use Rattle.flow_policy.specs.declared.refusal.PolicyRefusal.TheVariants as policy
use Rattle.flow_policy.specs.Assigned.{Assigned, assigned_code}
use Rattle.flow_policy.specs.Statement.{Statement}
use Rattle.flow_policy.specs.Policy.{IsPolicyOf, IsPolicyRefusal, memberships, users_of}
use Rattle.flow_case.specs.declared.kind.RuleStage.TheVariants.{WordNeeded}
use Rattle.flow_case.specs.declared.text_refusal.CasePolicyRefusal.{CasePolicyRefusal}
use Rattle.flow_case.specs.declared.text_refusal.CasePolicyRefusal.TheVariants.{Policy, Expected, NoEvent, NoRole, NoMemory}
use Rattle.flow_case.specs.Givens.{IsNamesRefusal}
use Rattle.flow_case.specs.Reading.{Given, read_from}
use Rattle.flow_case.specs.Rules.{Rules, rules_code}
use Rattle.flow_case.specs.RulesOf.{AreRulesOf, roles_in}
use Rattle.flow_case.specs.Split.{rules_in, duties_in}

-- what the policy of a case says: what is assigned to whom, and the rules
pub record CaseSaid : Type 0 where
  pub assigned : Assigned
  pub rules : Rules

abbrev pub case_said_code : Coded CaseSaid
case_said_code = code_by (Assigned × Rules) (coded× assigned_code rules_code) (λ p. (p.assigned, p.rules)) (λ t. record { assigned = t.0; rules = t.1 }) (λ _. refl)

-- Without its statements of rules the text is that policy; and these are the rules that those statements say, where users have the roles
-- that the policy gives to them.
pub record IsCasePolicyOf (text : List ℕ) (s : Said) (events : List (List ℕ)) (p : CaseSaid) : Type 0 where
  pub duties : IsPolicyOf (duties_in text) s p.assigned
  pub given : List Given
  pub read : read_from text WordNeeded (rules_in text) ≡ Ok given
  pub rules : AreRulesOf given (flat_map memberships duties.statements) p.assigned.users events p.rules

-- the first byte of the text that is not ASCII, or begins no token
abbrev pub IsUnread : List ℕ → PolicyRefusal → Type 0
IsUnread text (policy.NotAscii place) = IsFirstNotAscii text place
IsUnread text (policy.BadToken place) = IsAscii text × ((lexed text).bad ≡ Some place)
IsUnread text other = ⊥

-- the text is cut into tokens, and without its statements of rules it is a policy
pub record IsPolicyBut (text : List ℕ) (s : Said) : Type 0 where
  pub ascii : IsAscii text
  pub lexed : (lexed text).bad ≡ None
  pub assigned : Assigned
  pub duties : IsPolicyOf (duties_in text) s assigned

-- a name in a statement of rules is not known
pub record IsUnknownIn (text : List ℕ) (s : Said) (events : List (List ℕ)) (refusal : CasePolicyRefusal) : Type 0 where
  pub but : IsPolicyBut text s
  pub given : List Given
  pub read : read_from text WordNeeded (rules_in text) ≡ Ok given
  pub refused : IsNamesRefusal events (roles_in (flat_map memberships but.duties.statements)) given refusal

-- The refusal is the first that applies to the text: no tokens; what is left without the rules is no policy; a statement of rules is not
-- as it must be; a name in one is not known. Want of memory says nothing of it.
abbrev pub IsCasePolicyRefusal : List ℕ → Said → List (List ℕ) → CasePolicyRefusal → Type 0
IsCasePolicyRefusal text s events (Policy why) = IsUnread text why ⊎ (IsAscii text × ((lexed text).bad ≡ None) × IsPolicyRefusal (duties_in text) s why)
IsCasePolicyRefusal text s events (Expected place) = IsPolicyBut text s × (read_from text WordNeeded (rules_in text) ≡ Err place)
IsCasePolicyRefusal text s events (NoEvent place) = IsUnknownIn text s events (NoEvent place)
IsCasePolicyRefusal text s events (NoRole place) = IsUnknownIn text s events (NoRole place)
IsCasePolicyRefusal text s events NoMemory = Unit {0}

-- Of tokens of rules, and of the statements that the text without them says: what the users and the rules are, or why there are none

pub record ArePeopleOf (text : List ℕ) (cut : List Token) (statements : List Statement) (events users : List (List ℕ)) (rules : Rules) : Type 0 where
  pub given : List Given
  pub read : read_from text WordNeeded cut ≡ Ok given
  pub users_are : users ≡ users_of statements
  pub rules_are : AreRulesOf given (flat_map memberships statements) users events rules

pub record AreUnknownIn (text : List ℕ) (cut : List Token) (statements : List Statement) (events : List (List ℕ)) (refusal : CasePolicyRefusal) : Type 0 where
  pub given : List Given
  pub read : read_from text WordNeeded cut ≡ Ok given
  pub refused : IsNamesRefusal events (roles_in (flat_map memberships statements)) given refusal

abbrev pub IsPeopleRefusal : List ℕ → List Token → List Statement → List (List ℕ) → CasePolicyRefusal → Type 0
IsPeopleRefusal text cut statements events (Policy why) = ⊥
IsPeopleRefusal text cut statements events (Expected place) = read_from text WordNeeded cut ≡ Err place
IsPeopleRefusal text cut statements events (NoEvent place) = AreUnknownIn text cut statements events (NoEvent place)
IsPeopleRefusal text cut statements events (NoRole place) = AreUnknownIn text cut statements events (NoRole place)
IsPeopleRefusal text cut statements events NoMemory = Unit {0}

-- what is left without the rules is no policy
abbrev pub IsDutyRefusal : List ℕ → Said → CasePolicyRefusal → Type 0
IsDutyRefusal text s (Policy why) = IsPolicyRefusal text s why
IsDutyRefusal text s other = ⊥
