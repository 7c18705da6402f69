-- The texts of cases, as they are read.
use Rattle.std.proofs.Common.{◌≡◌, ◌∙◌, ℕ, List, [], Option, ap, subst}
use Rattle.std.specs.Option.{unwrap_or}
use Rattle.flow_form.specs.Script.{Said}
use Rattle.flow_form.specs.Names.{IsClosed}
use Rattle.flow_text.specs.Saying.{Says}
use Rattle.flow_trail.specs.declared.line.TrailEnd.{TrailEnd}
use Rattle.flow_trail.specs.Due.{first_end}
use Rattle.flow_case.specs.declared.case_run.CaseRun.{CaseRun}
use Rattle.flow_case_begin.specs.Begun.{IsBegun}
use Rattle.flow_case_begin.specs.declared.stop.CaseStop.{CaseStop}
use Rattle.flow_case_begin.specs.Stops.{IsNoCaseOf}
use Rattle.flow_case_seen.specs.Texts.{AreRead}

pub are_read : (workflow : List ℕ) (given policy : Option (List ℕ)) (users : Option (List (List ℕ))) (s : Said) (start : TrailEnd) (begun : CaseRun) →
    given ≡ policy → Says workflow s → IsClosed s → IsBegun s given begun → start ≡ first_end workflow (unwrap_or given []) →
    AreRead (record { workflow = workflow; policy = policy; users = users }) s start
are_read workflow given policy users s start begun same says closed begins starts = record {
  says = says;
  closed = closed;
  begun = begun;
  is_begun = subst (λ (p : Option (List ℕ)). IsBegun s p begun) same begins;
  starts = starts ∙ ap (λ (p : Option (List ℕ)). first_end workflow (unwrap_or p [])) same;
}

pub none_read : (read workflow : List ℕ) (given policy : Option (List ℕ)) (stop : CaseStop) → read ≡ workflow → given ≡ policy → IsNoCaseOf read given stop →
    IsNoCaseOf workflow policy stop
none_read read workflow given policy stop whole same why =
    subst (λ (p : Option (List ℕ)). IsNoCaseOf workflow p stop) same (subst (λ (w : List ℕ). IsNoCaseOf w given stop) whole why)
