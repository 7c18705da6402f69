use Rattle.std.proofs.Common.{arith}
use Rattle.std.proofs.lemmas.Grind.{common_steps}
use Rattle.flow_facts.proofs.Pushed.{begins_longer, begins_put, arguments_put}
use Rattle.flow_facts.proofs.text.push_arguments.Goals as goal

pub returns-in_err-push_constant-in-len1-up-clause-grown : goal.returns-in_err-push_constant-in-len1-up-clause-grown
returns-in_err-push_constant-in-len1-up-clause-grown c =
    begins_longer c.args.text.now.items c.extend_from_slice.new.self.items c.push_constant.new.text.items c.push_constant.ensures.grown (_, c.in_ok-extend_from_slice-in-len1-up.ensures.items)

pub returns-in_err-push_more_constants-in-len1-up-clause-grown : goal.returns-in_err-push_more_constants-in-len1-up-clause-grown
returns-in_err-push_more_constants-in-len1-up-clause-grown c =
    begins_longer c.args.text.now.items c.extend_from_slice.new.self.items c.push_more_constants.new.text.items
    (begins_longer _ c.push_constant.new.text.items _ c.push_more_constants.ensures.grown c.push_constant.ensures.grown) (_, c.in_ok-extend_from_slice-in-len1-up.ensures.items)

pub returns-in_ok-push_more_constants-in-len1-up-clause-grown : goal.returns-in_ok-push_more_constants-in-len1-up-clause-grown
returns-in_ok-push_more_constants-in-len1-up-clause-grown c =
    begins_longer c.args.text.now.items c.extend_from_slice.new.self.items c.extend_from_slice-in-len1-up.new.self.items
    (begins_longer _ c.push_constant.new.text.items _
    (begins_longer _ c.push_more_constants.new.text.items _ (begins_put c.extend_from_slice-in-len1-up.result _ _ _ c.extend_from_slice-in-len1-up.ensures.items) c.push_more_constants.ensures.grown)
    c.push_constant.ensures.grown) (_, c.in_ok-extend_from_slice-in-len1-up.ensures.items)

pub returns-in_ok-push_more_constants-in-len1-up-clause-ok : goal.returns-in_ok-push_more_constants-in-len1-up-clause-ok
returns-in_ok-push_more_constants-in-len1-up-clause-ok c =
    arguments_put c.extend_from_slice-in-len1-up.result c.args.constants.now c.first-item.result c.args.text.now.items
    c.extend_from_slice.new.self.items c.push_constant.new.text.items c.push_more_constants.new.text.items c.extend_from_slice-in-len1-up.new.self.items
    c.in-len1-up.len_at_least c.first-item.is c.in_ok-extend_from_slice-in-len1-up.ensures.items c.in_ok-push_constant-in-len1-up.ensures.ok
    c.in_ok-push_more_constants-in-len1-up.ensures.ok c.extend_from_slice-in-len1-up.ensures.items

pub returns-in_err-extend_from_slice-in-len1-up-clause-grown : goal.returns-in_err-extend_from_slice-in-len1-up-clause-grown
returns-in_err-extend_from_slice-in-len1-up-clause-grown c = grind (arith, common_steps)
