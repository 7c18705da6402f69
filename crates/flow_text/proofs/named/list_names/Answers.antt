use Rattle.std.proofs.Common.{ap, sym, ◌∙◌, ◌++◌, ◌∷◌, [], append_assoc, map, take}
use Rattle.std.proofs.lemmas.List.{map_more, take_all}
use Rattle.flow_grammar.specs.Roles.{in_rule}
use Rattle.flow_text.specs.Named.{roles_of}
use Rattle.flow_text.proofs.named.list_names.Goals as goal

pub loop-name-preserved : goal.loop-name-preserved
loop-name-preserved c =
    let so_far = map in_rule (take c.loop-name.name-index c.args.names.now) in
    c.in_ok-list_name.ensures ∙ ap (λ l. l ++ in_rule c.name-item.result ∷ []) c.loop-name.invariant ∙ append_assoc _ so_far (in_rule c.name-item.result ∷ [])
    ∙ ap (λ l. roles_of c.args.list.now.items ++ l)
    (ap (λ n. so_far ++ in_rule n ∷ []) c.name-item.is ∙ sym (map_more in_rule c.args.names.now c.loop-name.name-index c.name-item.result c.loop-name-test.true))

pub returns : goal.returns
returns c = c.loop-name.invariant ∙ ap (λ ns. roles_of c.args.list.now.items ++ map in_rule ns) (take_all c.loop-name.name-index c.args.names.now c.loop-name-test.false)
