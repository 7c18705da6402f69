use Rattle.std.proofs.Common.{ℕ, List, subst}
use Rattle.flow_form.specs.Script.{said}
use Rattle.flow_cli.specs.Finding.{Answers}
use Rattle.flow_cli.specs.Audit.{AuditsText}
use Rattle.flow_cli.proofs.Outcomes.{audit_left}
use Rattle.flow_cli.proofs.run.Crew.find.Goals as goal

pub returns-in-Run : goal.returns-in-Run
returns-in-Run g c = rw c.in-Run.is c.run_script.ensures

pub returns-in_default : goal.returns-in_default
returns-in_default g c =
    rw (audit_left c.args.self.now.request.mode c.requires.threads c.requires.reads c.in_default.not-Run)
    (subst (λ (text : List ℕ). Answers (AuditsText (said c.args.input.now.script) text) c.audit_text.result) c.deref.ensures.value c.audit_text.ensures)
