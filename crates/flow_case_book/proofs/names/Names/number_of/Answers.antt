use Rattle.std.proofs.Common.{◌≡◌, ◌-◌, ◌++◌, ◌∷◌, [], Some, length, inl, inr, refl, sym, ap, subst, ◌∙◌, arith}
use Rattle.std.specs.Prelude.{slice_get}
use Rattle.std.specs.String.{string_bytes}
use Rattle.flow_case.specs.RulesOf.{IsUser}
use Rattle.flow_case_book.specs.People.{names_in}
use Rattle.flow_case_book.proofs.PeopleLemmas.{member_of, user_last}
use Rattle.flow_case_book.proofs.names.Names.number_of.Goals as goal

pub returns-in-Some-clause-unknown : goal.returns-in-Some-clause-unknown
returns-in-Some-clause-unknown c =
    let user = c.in-Some.ensures in
    (λ none. absurd (omega (arith, user.0, none)), λ unknown. absurd (unknown.1 (member_of (names_in c.args.self.now) (c.in-Some.number - 1) c.args.name.now user.1)))

pub returns-clause-number : goal.returns-clause-number
returns-clause-number c =
    let more = c.in_ok-push.ensures.ok ∙ ap (λ n. names_in c.args.self.now ++ n ∷ []) c.in_ok-from_str.ensures.ok in
    inr (subst (λ n. IsUser (names_in c.push.new.self) n c.args.name.now) (sym c.count.ensures) (user_last (names_in c.args.self.now) (names_in c.push.new.self) c.args.name.now more))
