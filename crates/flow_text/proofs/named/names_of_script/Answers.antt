use Rattle.flow_text.proofs.NamedLemmas.{script_listed}
use Rattle.flow_text.proofs.named.names_of_script.Goals as goal

pub returns : goal.returns
returns c =
    script_listed c.new-list.result.items c.list_decls.new.list.items c.list_form.new.list.items c.list_rules.new.list.items c.args.script.now
    c.deref.result.now c.deref-2.result.now c.new-list.ensures.items c.deref.ensures.value c.deref-2.ensures.value
    c.in_ok-list_decls.ensures c.in_ok-list_form.ensures c.in_ok-list_rules.ensures
