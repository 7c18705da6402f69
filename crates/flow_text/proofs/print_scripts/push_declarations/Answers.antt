use Rattle.std.proofs.Common.{refl, map}
use Rattle.flow_form.specs.Script.{declared}
use Rattle.flow_text.specs.Printed.{declaration_line, declaration_lines}
use Rattle.flow_text.proofs.Pushed.{goes_on, all_put}
use Rattle.flow_text.proofs.print_scripts.push_declarations.Goals as goal

pub loop-decl-preserved : goal.loop-decl-preserved
loop-decl-preserved c =
    goes_on (λ ds. declaration_lines (map declared ds)) _ c.loop-decl.decl-index c.decl-item.result c.loop-decl.text.items c.push_declaration.new.text.items (declaration_line (declared c.decl-item.result)) _
    c.loop-decl-test.true c.decl-item.is (λ ds. refl) c.in_ok-push_declaration.ensures c.loop-decl.invariant

pub returns : goal.returns
returns c = all_put (λ ds. declaration_lines (map declared ds)) _ c.loop-decl.decl-index _ c.loop-decl.text.items refl c.loop-decl-test.false c.loop-decl.invariant
