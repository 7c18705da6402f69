use Rattle.std.proofs.Common.{ℕ, [], ◌∷◌, ◌++◌, get_or, map, take, ap, sym, ◌∙◌}
use Rattle.std.proofs.lemmas.List.{append_assoc, get_or_default, map_more}
use Rattle.flow_expand.proofs.chain.push_names.Goals as goal

pub loop-number-preserved : goal.loop-number-preserved
loop-number-preserved c =
    let names = c.args.names.now in
    let numbers = c.args.numbers.now in
    let i = c.loop-number.number-index in
    let k = get_or numbers i 0 in
    let name = λ (n : ℕ). get_or names n [] in
    let copied = c.in_ok-copy.ensures ∙ c.index-names-number.is ∙ get_or_default names k _ [] (c.requires i 0 c.loop-number-test.true) in
    c.in_ok-push.ensures.items ∙ (λ t. c.loop-number.invariant t ++ copied t ∷ []) ∙ append_assoc _ (map name (take i numbers)) (name k ∷ [])
    ∙ ap (λ l. c.args.chain.now.items ++ l) (sym (map_more name numbers i 0 c.loop-number-test.true))
