-- The policy of a case, put together.
use Rattle.std.proofs.Common.{◌≡◌, ℕ, List, None, Result, Ok, Err, IfOk, inr, sym, ap, ◌∙◌, subst}
use Rattle.std.specs.List.{flat_map}
use Rattle.flow_form.specs.Script.{Said}
use Rattle.flow_lex.specs.declared.token.Token.{Token}
use Rattle.flow_lex.specs.Tokens.{Lexed, lexed, IsAscii}
use Rattle.flow_policy.specs.Statement.{Statement}
use Rattle.flow_policy.specs.Assigned.{Assigned}
use Rattle.flow_policy.specs.Policy.{IsPolicyOf, IsPolicyRefusal, memberships, users_of}
use Rattle.flow_case.specs.declared.kind.Kind.{Kind}
use Rattle.flow_case.specs.declared.kind.Kind.TheVariants.{Final, Back, Close}
use Rattle.flow_case.specs.declared.kind.RuleStage.TheVariants.{WordNeeded}
use Rattle.flow_case.specs.declared.split.Side.TheVariants.{Begins}
use Rattle.flow_case.specs.declared.text_refusal.CasePolicyRefusal.{CasePolicyRefusal}
use Rattle.flow_case.specs.declared.text_refusal.CasePolicyRefusal.TheVariants.{Policy, Expected, NoEvent, NoRole, NoMemory}
use Rattle.flow_case.specs.Givens.{unknown_at, IsReadRefusal, IsNamesRefusal}
use Rattle.flow_case.specs.Reading.{Given, read_from}
use Rattle.flow_case.specs.Rules.{Rules}
use Rattle.flow_case.specs.RulesOf.{AreRulesOf, roles_in}
use Rattle.flow_case.specs.Split.{rule_tokens, blanked, rules_in, duties_in}
use Rattle.flow_case.specs.CasePolicy.{IsCasePolicyOf, IsPolicyBut, IsCasePolicyRefusal, ArePeopleOf, IsPeopleRefusal, IsDutyRefusal}

-- what two clauses say of an Ok
pub both_ok : {T E : Type 0} (r : Result T E) (P Q R : T → Type 0) → ((x : T) → P x → Q x → R x) → IfOk r P → IfOk r Q → IfOk r R
both_ok (Ok x) P Q R f p q = f x p q
both_ok (Err e) P Q R f p q = tt

-- the refusals of reading, and of names

pub people_unread : (text : List ℕ) (cut : List Token) (statements : List Statement) (events : List (List ℕ)) (refusal : CasePolicyRefusal) → IsReadRefusal text cut refusal →
    IsPeopleRefusal text cut statements events refusal
people_unread text cut statements events (Policy why) h = h
people_unread text cut statements events (Expected place) h = h
people_unread text cut statements events (NoEvent place) h = absurd h
people_unread text cut statements events (NoRole place) h = absurd h
people_unread text cut statements events NoMemory h = tt

module _ (text : List ℕ) (cut : List Token) (tokens : List Token) (duties : List ℕ) (s : Said) (events : List (List ℕ)) (ascii : IsAscii text)
    (lexes : lexed text ≡ record { tokens = tokens; bad = None }) (cut_is : cut ≡ rule_tokens text Begins tokens) (left : duties ≡ blanked text 0 cut) where
  cut_in : cut ≡ rules_in text
  cut_in = cut_is ∙ ap (λ (l : Lexed). rule_tokens text Begins l.tokens) (sym lexes)

  left_in : duties ≡ duties_in text
  left_in = left ∙ ap (blanked text 0) cut_in

  none_bad : (lexed text).bad ≡ None
  none_bad = ap (λ (l : Lexed). l.bad) lexes

  pub case_policy : (assigned : Assigned) (users : List (List ℕ)) (rules : Rules) (h : IsPolicyOf duties s assigned) → ArePeopleOf text cut h.statements events users rules →
      IsCasePolicyOf text s events (record { assigned = assigned; rules = rules }) × (users ≡ assigned.users)
  case_policy assigned users rules h people = (
    subst (λ l. (k : IsPolicyOf l s assigned) → ArePeopleOf text cut k.statements events users rules → IsCasePolicyOf text s events (record { assigned = assigned; rules = rules }))
        (sym left_in) whole h people,
    people.users_are ∙ sym h.users_are,
  )
    where
      whole : (k : IsPolicyOf (duties_in text) s assigned) → ArePeopleOf text cut k.statements events users rules → IsCasePolicyOf text s events (record { assigned = assigned; rules = rules })
      whole k p = record {
        duties = k;
        given = p.given;
        read = subst (λ c. read_from text WordNeeded c ≡ Ok p.given) cut_in p.read;
        rules = subst (λ us. AreRulesOf p.given (flat_map memberships k.statements) us events rules) (p.users_are ∙ sym k.users_are) p.rules_are;
      }

  pub case_refusal : (assigned : Assigned) (refusal : CasePolicyRefusal) (h : IsPolicyOf duties s assigned) → IsPeopleRefusal text cut h.statements events refusal →
      IsCasePolicyRefusal text s events refusal
  case_refusal assigned refusal h why =
      subst (λ l. (k : IsPolicyOf l s assigned) → IsPeopleRefusal text cut k.statements events refusal → IsCasePolicyRefusal text s events refusal) (sym left_in) (of refusal) h why
    where
      but : IsPolicyOf (duties_in text) s assigned → IsPolicyBut text s
      but k = record { ascii = ascii; lexed = none_bad; assigned = assigned; duties = k }

      of : (refusal : CasePolicyRefusal) (k : IsPolicyOf (duties_in text) s assigned) → IsPeopleRefusal text cut k.statements events refusal → IsCasePolicyRefusal text s events refusal
      of (Policy why) k h = absurd h
      of (Expected place) k h = (but k, subst (λ c. read_from text WordNeeded c ≡ Err place) cut_in h)
      of (NoEvent place) k h = record { but = but k; given = h.given; read = subst (λ c. read_from text WordNeeded c ≡ Ok h.given) cut_in h.read; refused = h.refused }
      of (NoRole place) k h = record { but = but k; given = h.given; read = subst (λ c. read_from text WordNeeded c ≡ Ok h.given) cut_in h.read; refused = h.refused }
      of NoMemory k h = tt

  pub duty_refusal : (refusal : CasePolicyRefusal) → IsDutyRefusal duties s refusal → IsCasePolicyRefusal text s events refusal
  duty_refusal (Policy why) h = inr (ascii, none_bad, subst (λ l. IsPolicyRefusal l s why) left_in h)
  duty_refusal (Expected place) h = absurd h
  duty_refusal (NoEvent place) h = absurd h
  duty_refusal (NoRole place) h = absurd h
  duty_refusal NoMemory h = tt

pub people_unknown : (text : List ℕ) (cut : List Token) (statements : List Statement) (events : List (List ℕ)) (given : List Given) (refusal : CasePolicyRefusal) →
    read_from text WordNeeded cut ≡ Ok given → IsNamesRefusal events (roles_in (flat_map memberships statements)) given refusal → IsPeopleRefusal text cut statements events refusal
people_unknown text cut statements events given (Policy why) read h = not_known h.here.kind h.here.place h.refused.0
  where
    not_known : (kind : Kind) (there : ℕ) → Policy why ≡ unknown_at kind there → ⊥
    not_known Final there e = let f : Policy why ≡ NoEvent there = e in cc
    not_known Back there e = let f : Policy why ≡ NoRole there = e in cc
    not_known Close there e = let f : Policy why ≡ NoRole there = e in cc
people_unknown text cut statements events given (Expected place) read h = expected h.here.kind h.here.place h.refused.0
  where
    expected : (kind : Kind) (there : ℕ) → Expected place ≡ unknown_at kind there → read_from text WordNeeded cut ≡ Err place
    expected Final there e = absurd (let f : Expected place ≡ NoEvent there = e in cc)
    expected Back there e = absurd (let f : Expected place ≡ NoRole there = e in cc)
    expected Close there e = absurd (let f : Expected place ≡ NoRole there = e in cc)
people_unknown text cut statements events given (NoEvent place) read h = record { given = given; read = read; refused = h }
people_unknown text cut statements events given (NoRole place) read h = record { given = given; read = read; refused = h }
people_unknown text cut statements events given NoMemory read h = tt

pub people_are : (text : List ℕ) (cut : List Token) (statements : List Statement) (events users : List (List ℕ)) (given : List Given) (rules : Rules) → read_from text WordNeeded cut ≡ Ok given →
    users ≡ users_of statements → AreRulesOf given (flat_map memberships statements) users events rules → ArePeopleOf text cut statements events users rules
people_are text cut statements events users given rules read are of = record { given = given; read = read; users_are = are; rules_are = of }
