use Rattle.std.proofs.Common.{ap, sym, refl, ◌∙◌}
use Rattle.std.specs.Prelude.{is_some}
use Rattle.flow_text.specs.Named.{role_of}
use Rattle.flow_text.specs.KnownNames.{has, is_again, with_role}
use Rattle.flow_text.proofs.KnownNames.{given}
use Rattle.flow_text.proofs.names.is_again.Goals as goal

pub returns-in_ok-insert-in-Declares-clause-again : goal.returns-in_ok-insert-in-Declares-clause-again
returns-in_ok-insert-in-Declares-clause-again c =
    c.is_some.ensures ∙ ap is_some c.in_ok-insert-in-Declares.ensures.old
    ∙ ap (λ r. is_again (has c.args.names.now) (role_of r)) (sym c.in-Declares.is)

pub returns-in_ok-insert-in-Declares-clause-names : goal.returns-in_ok-insert-in-Declares-clause-names
returns-in_ok-insert-in-Declares-clause-names c =
    given is_some c.args.names.now c.insert.new.self c.in-Declares.name.now tt refl c.in_ok-insert-in-Declares.ensures.updates
    ∙ ap (λ r. with_role (has c.args.names.now) (role_of r)) (sym c.in-Declares.is)
