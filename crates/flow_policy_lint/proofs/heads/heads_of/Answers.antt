use Rattle.std.proofs.Common.{◌≡◌, map, sym, ap, ◌∙◌}
use Rattle.std.proofs.lemmas.Result.{IfOk-weaker}
use Rattle.flow_reader.specs.Symbols.{symbols_of}
use Rattle.flow_policy_lint.specs.declared.heads.Reading.TheVariants.{Begins}
use Rattle.flow_policy_lint.specs.Heads.{said, head_of, heads_from}
use Rattle.flow_policy_lint.proofs.HeadLemmas.{with_list, heads_are_said}
use Rattle.flow_policy_lint.proofs.heads.heads_of.Goals as goal

pub returns : goal.returns
returns c = λ statements says.
    let text = c.args.policy.now in
    let tokens = c.deref.result.now in
    IfOk-weaker c.heads_in.result (λ found. map said found.items ≡ heads_from Begins (symbols_of text tokens)) (λ found. map said found.items ≡ map head_of statements)
    (λ found is. heads_are_said text tokens statements (map said found.items) (c.in-Ok.ensures.tokens ∙ ap with_list (sym c.deref.ensures.value)) is says) c.heads_in.ensures
