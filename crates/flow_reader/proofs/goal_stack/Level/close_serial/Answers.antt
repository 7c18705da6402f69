use Rattle.std.proofs.Common.{map, [], ◌∷◌, ◌++◌, ap, ap₂, ◌∙◌}
use Rattle.std.proofs.lemmas.List.{map-append}
use Rattle.flow_form.specs.Form.{shape_of}
use Rattle.flow_grammar.specs.Grammar.{gather, list, goals}
use Rattle.flow_grammar.specs.Machine as machine
use Rattle.flow_reader.proofs.goal_stack.Level.close_serial.Goals as goal

pub returns : goal.returns
returns c =
    ap₂ (machine.level (map shape_of c.args.self.now.eithers.items))
    (ap (map shape_of) c.in_ok-push.ensures.items ∙ map-append shape_of _ _
    ∙ ap (λ s. map shape_of c.args.self.now.besides.items ++ s ∷ [])
    (c.gathered.ensures ∙ ap (λ v. gather (list goals 0) (map shape_of v.items)) c.replace-serials.ensures.value))
    (ap (λ v. map shape_of v.items) c.replace-serials.ensures.after ∙ ap (map shape_of) c.new.ensures.items)
