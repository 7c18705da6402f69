use Rattle.std.proofs.Common.{rules, length, ◌<◌, ◌≡◌}
use Rattle.std.specs.Prelude.{Ok}
use Rattle.std.proofs.lemmas.Result.{IfErr-weaker}
use Rattle.std.specs.List.{remove}
use Rattle.flow_workflow.specs.Rule.{rule_of, rules_of}
use Rattle.flow_workflow.specs.Definition.{schema_of}
use Rattle.flow_excise.specs.Options.{schema_with}
use Rattle.flow_verify.specs.declared.answers.Redundancy.TheVariants.{Redundant, Needed}
use Rattle.flow_verify.specs.declared.refusal.VerifyRefusal.TheVariants.{NoMemory}
use Rattle.flow_verify.specs.Verification.{against, without, IsRefused}
use Rattle.flow_verify.proofs.Trials.{same_trial, within_trial, refused_trial, tells_redundant, tells_needed, one_at, never_no_rule, index_of_some}
use Rattle.flow_verify.proofs.verification.redundant.Goals as goal

pub returns-in_err-verify_tree-clause-refused : goal.returns-in_err-verify_tree-clause-refused
returns-in_err-verify_tree-clause-refused c rule at =
    let w = c.args.workflow.now in
    let trial = schema_with c.tree.result.now (rules_of c.in_ok-others.others.items) in
    let same = same_trial (record w { rules = remove w.rules c.args.index }) c.tree.result.now (rules_of c.in_ok-others.others.items) c.tree.ensures.tree c.in_ok-others.ensures.others in
    IfErr-weaker c.from_residual-in_err-verify_tree.result (IsRefused (against trial (rule_of c.in_ok-others.rule))) _
    (refused_trial trial (without (schema_of w) c.args.index) (rule_of c.in_ok-others.rule) rule same
    (one_at (schema_of w) c.args.index (rule_of c.in_ok-others.rule) c.in_ok-others.ensures.rule trial same rule at))
    (search rules)

pub returns-in-Holds-clause-told : goal.returns-in-Holds-clause-told
returns-in-Holds-clause-told c =
    let w = c.args.workflow.now in
    let same = same_trial (record w { rules = remove w.rules c.args.index }) c.tree.result.now (rules_of c.in_ok-others.others.items) c.tree.ensures.tree c.in_ok-others.ensures.others in
    tells_redundant (schema_of w) c.args.index (rule_of c.in_ok-others.rule) c.in_ok-others.ensures.rule _ same (rw c.in-Holds.is at c.in_ok-verify_tree.ensures.1)

pub returns-in-Fails-clause-told : goal.returns-in-Fails-clause-told
returns-in-Fails-clause-told c =
    let w = c.args.workflow.now in
    let same = same_trial (record w { rules = remove w.rules c.args.index }) c.tree.result.now (rules_of c.in_ok-others.others.items) c.tree.ensures.tree c.in_ok-others.ensures.others in
    tells_needed (schema_of w) c.args.index (rule_of c.in_ok-others.rule) c.in_ok-others.ensures.rule _ same c.in-Fails.execution (rw c.in-Fails.is at c.in_ok-verify_tree.ensures.1)

pub returns-in-Holds-clause-within : goal.returns-in-Holds-clause-within
returns-in-Holds-clause-within c rule at =
    let w = c.args.workflow.now in
    let same = same_trial (record w { rules = remove w.rules c.args.index }) c.tree.result.now (rules_of c.in_ok-others.others.items) c.tree.ensures.tree c.in_ok-others.ensures.others in
    let one = one_at (schema_of w) c.args.index (rule_of c.in_ok-others.rule) c.in_ok-others.ensures.rule _ same rule at in
    within_trial _ (without (schema_of w) c.args.index) _ rule same one c.in_ok-verify_tree.ensures.0

pub returns-in-Fails-clause-within : goal.returns-in-Fails-clause-within
returns-in-Fails-clause-within c rule at =
    let w = c.args.workflow.now in
    let same = same_trial (record w { rules = remove w.rules c.args.index }) c.tree.result.now (rules_of c.in_ok-others.others.items) c.tree.ensures.tree c.in_ok-others.ensures.others in
    let one = one_at (schema_of w) c.args.index (rule_of c.in_ok-others.rule) c.in_ok-others.ensures.rule _ same rule at in
    within_trial _ (without (schema_of w) c.args.index) _ rule same one c.in_ok-verify_tree.ensures.0

pub returns-in_err-verify_tree-clause-no_rule : goal.returns-in_err-verify_tree-clause-no_rule
returns-in_err-verify_tree-clause-no_rule c =
    let trial = against (schema_with c.tree.result.now (rules_of c.in_ok-others.others.items)) (rule_of c.in_ok-others.rule) in
    never_no_rule c.args.workflow.now.rules c.args.index (rule_of c.in_ok-others.rule) c.in_ok-others.ensures.rule trial c.from_residual-in_err-verify_tree.result (search rules)

pub returns-in-Holds-clause-no_rule : goal.returns-in-Holds-clause-no_rule
returns-in-Holds-clause-no_rule c =
    never_no_rule c.args.workflow.now.rules c.args.index (rule_of c.in_ok-others.rule) c.in_ok-others.ensures.rule (schema_of c.args.workflow.now) (Ok Redundant) tt

pub returns-in-Fails-clause-no_rule : goal.returns-in-Fails-clause-no_rule
returns-in-Fails-clause-no_rule c =
    never_no_rule c.args.workflow.now.rules c.args.index (rule_of c.in_ok-others.rule) c.in_ok-others.ensures.rule (schema_of c.args.workflow.now) (Ok (Needed c.in-Fails.execution)) tt

pub returns-in_err-others-clause-refused : goal.returns-in_err-others-clause-refused
returns-in_err-others-clause-refused c rule at =
    let some : c.args.index < length c.args.workflow.now.rules = index_of_some _ _ _ at in
    let none : c.in_err-others.field-0.0 ≡ NoMemory = c.in_err-others.ensures.memory some in
    search (rules, none)
