use Rattle.std.proofs.Common.{◌≡◌, ◌∙◌, None, Some, ap, sym}
use Rattle.std.specs.Option.{option_map}
use Rattle.flow_text.specs.Parser.{bytes_now}
use Rattle.flow_form.specs.Script.{said}
use Rattle.flow_case_begin.proofs.BeginLemmas.{if_ok}
use Rattle.flow_case_seen.proofs.KeptLemmas.{free_case, ruled_case}
use Rattle.flow_case_seen.proofs.kept.kept_case.Goals as goal

pub returns-in-Some : goal.returns-in-Some
returns-in-Some c =
    let same : Some c.in-Some.policy.now ≡ c.args.texts.now.policy = sym (ap (option_map bytes_now) c.in-Some.is) ∙ c.policy.ensures in
    if_ok c.governed.result _ _
    (λ x (begun, begins, is). ruled_case (said c.script-script.result.now) c.args.texts.now.workflow c.in-Some.policy.now c.args.entries.items c.args.texts.now.policy
    c.in_ok-core.core.history begun x same c.script-script.ensures.says begins is c.in_ok-core.ensures.history)
    c.governed.ensures

pub returns-in-None : goal.returns-in-None
returns-in-None c =
    let same : None ≡ c.args.texts.now.policy = sym (ap (option_map bytes_now) c.in-None.is) ∙ c.policy.ensures in
    free_case (said c.script-script.result.now) c.args.texts.now.workflow c.args.entries.items c.args.texts.now.policy c.in_ok-core.core same c.script-script.ensures.says
    c.in_ok-core.ensures.workflow c.in_ok-core.ensures.limit c.in_ok-core.ensures.history
