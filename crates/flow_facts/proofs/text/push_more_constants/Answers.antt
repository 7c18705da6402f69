use Rattle.std.proofs.Common.{refl, [], sym, ◌∙◌, append-nil}
use Rattle.flow_facts.proofs.Pushed.{begins_longer, constant_more, constants_all}
use Rattle.flow_facts.proofs.text.push_more_constants.Goals as goal

pub loop-constant-init : goal.loop-constant-init
loop-constant-init c = record { grown = ([], sym (append-nil c.args.text.now.items)); rest = refl }

pub returns-in_err-extend_from_slice-clause-grown : goal.returns-in_err-extend_from_slice-clause-grown
returns-in_err-extend_from_slice-clause-grown c = (c.loop-constant.invariant.grown.0, c.in_err-extend_from_slice.ensures.items ∙ c.loop-constant.invariant.grown.1)

pub returns-in_err-push_constant-clause-grown : goal.returns-in_err-push_constant-clause-grown
returns-in_err-push_constant-clause-grown c =
    begins_longer c.args.text.now.items c.loop-constant.text.items c.push_constant.new.text.items
    (begins_longer _ c.extend_from_slice.new.self.items _ c.push_constant.ensures.grown (_, c.in_ok-extend_from_slice.ensures.items)) c.loop-constant.invariant.grown

pub loop-constant-preserved : goal.loop-constant-preserved
loop-constant-preserved c = record {
  grown = begins_longer c.args.text.now.items c.loop-constant.text.items c.push_constant.new.text.items
      (begins_longer _ c.extend_from_slice.new.self.items _ c.push_constant.ensures.grown (_, c.in_ok-extend_from_slice.ensures.items)) c.loop-constant.invariant.grown;
  rest = constant_more c.args.constants.now c.loop-constant.constant-index c.constant-item.result c.loop-constant.text.items c.extend_from_slice.new.self.items c.push_constant.new.text.items _
      c.loop-constant-test.true c.constant-item.is c.in_ok-extend_from_slice.ensures.items c.in_ok-push_constant.ensures.ok c.loop-constant.invariant.rest;
}

pub returns-clause-grown : goal.returns-clause-grown
returns-clause-grown c = c.loop-constant.invariant.grown

pub returns-clause-ok : goal.returns-clause-ok
returns-clause-ok c = constants_all c.args.constants.now c.loop-constant.constant-index c.loop-constant.text.items _ c.loop-constant-test.false c.loop-constant.invariant.rest
