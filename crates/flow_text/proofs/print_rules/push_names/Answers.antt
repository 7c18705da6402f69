use Rattle.std.proofs.Common.{refl, codes, ◌++◌}
use Rattle.flow_text.specs.Printed.{names_text}
use Rattle.flow_text.proofs.Pushed.{goes_on, all_put}
use Rattle.flow_text.proofs.print_rules.push_names.Goals as goal

pub loop-name-preserved : goal.loop-name-preserved
loop-name-preserved c =
    goes_on names_text _ c.loop-name.name-index c.name-item.result c.loop-name.text.items c.push_with_name.new.text.items (codes " " ++ c.name-item.result) _
    c.loop-name-test.true c.name-item.is (λ ns. refl) c.in_ok-push_with_name.ensures c.loop-name.invariant

pub returns : goal.returns
returns c = all_put names_text _ c.loop-name.name-index _ c.loop-name.text.items refl c.loop-name-test.false c.loop-name.invariant
