use Rattle.std.proofs.Common.{map, [], ◌∷◌, ◌++◌, ap, ap₂, ◌∙◌}
use Rattle.std.proofs.lemmas.List.{map-append}
use Rattle.flow_form.specs.Form.{shape_of}
use Rattle.flow_grammar.specs.Grammar.{gather, list, goals}
use Rattle.flow_grammar.specs.Machine as machine
use Rattle.flow_reader.proofs.goal_stack.Level.close_beside.Goals as goal

pub returns : goal.returns
returns c =
    ap₂ (λ es bs. machine.level es bs (map shape_of c.close_serial.new.self.serials.items))
    (ap (map shape_of) c.in_ok-push.ensures.items ∙ map-append shape_of _ _
    ∙ ap (λ s. map shape_of c.close_serial.new.self.eithers.items ++ s ∷ [])
    (c.gathered.ensures ∙ ap (λ v. gather (list goals 1) (map shape_of v.items)) c.replace-besides.ensures.value))
    (ap (λ v. map shape_of v.items) c.replace-besides.ensures.after ∙ ap (map shape_of) c.new.ensures.items)
    ∙ ap (λ (l : machine.Level). machine.level (l.eithers ++ gather (list goals 1) l.besides ∷ []) [] l.serials) c.in_ok-close_serial.ensures
