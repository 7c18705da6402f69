use Rattle.std.proofs.Common.{◌≡◌, ◌∙◌, ap, codes, true}
use Rattle.std.proofs.lemmas.Result.{IfOk-weaker}
use Rattle.clap.specs.Words.{App, Shape, app_of, new_app, with_rule}
use Rattle.clap.specs.Simple.{app_of_fields, on_top}
use Rattle.flow_words.proofs.command.flow_command.Goals as goal

abbrev with_version : Shape → Shape
with_version s = record s { has_version = true }

abbrev named_flow : App
named_flow = on_top with_version (new_app (codes "flow"))

pub returns : goal.returns
returns c =
    let named : app_of c.version.result ≡ named_flow = ap app_of_fields c.version.ensures ∙ ap (on_top with_version) c.new.ensures.app in
    let mode = c.in_ok-arg.ensures.shape c.mode_argument.ensures.local ∙ (λ i. with_rule (named i) (c.mode_argument.ensures.rule i)) in
    let steps = c.in_ok-arg-2.ensures.shape c.number_option.ensures.local ∙ (λ i. with_rule (mode i) (c.number_option.ensures.rule i)) in
    let workers = c.in_ok-arg-3.ensures.shape c.number_option-2.ensures.local ∙ (λ i. with_rule (steps i) (c.number_option-2.ensures.rule i)) in
    let seed = c.in_ok-arg-4.ensures.shape c.number_option-3.ensures.local ∙ (λ i. with_rule (workers i) (c.number_option-3.ensures.rule i)) in
    IfOk-weaker c.arg-5.result _ _
    (λ new adds. adds.shape c.number_option-4.ensures.local ∙ (λ i. with_rule (seed i) (c.number_option-4.ensures.rule i))) c.arg-5.ensures
