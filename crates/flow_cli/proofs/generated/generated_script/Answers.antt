use Rattle.std.proofs.Common.{ℕ, List, ◌∙◌, subst, sym}
use Rattle.flow_form.specs.Script.{said}
use Rattle.flow_text.specs.Saying.{Says}
use Rattle.flow_text.specs.Parser.{IsParseRefusal}
use Rattle.flow_gen.specs.Generated.{generated}
use Rattle.flow_cli.proofs.generated.generated_script.Goals as goal

pub unreachable-requires : goal.unreachable-requires
unreachable-requires c =
    c.in_default.not-NoMemory (c.law_generated_texts_are_read.ensures.read c.args.request.seed c.args.request.size c.in-Err.refusal c.requires.size_some c.requires.size_few
    (subst (λ (text : List ℕ). IsParseRefusal text c.in-Err.refusal) (c.deref.ensures.value ∙ c.in_ok-text.ensures) c.in-Err.ensures.refused))

pub returns-in-Ok : goal.returns-in-Ok
returns-in-Ok c =
    c.law_texts_say_one_thing.ensures c.deref.result.now (said c.in-Ok.script) (generated c.args.request.seed c.args.request.size) c.in-Ok.ensures.ok
    (subst (λ (text : List ℕ). Says text (generated c.args.request.seed c.args.request.size)) (sym (c.deref.ensures.value ∙ c.in_ok-text.ensures))
    (c.law_generated_texts_are_read.ensures.says c.args.request.seed c.args.request.size c.requires.size_some c.requires.size_few))
