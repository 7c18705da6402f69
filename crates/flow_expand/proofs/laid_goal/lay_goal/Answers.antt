use Rattle.std.proofs.lemmas.Result.{IfErr-weaker}
use Rattle.std.proofs.Common.{rules, ℕ, ◌≡◌, ◌∙◌, ◌<◌, ◌≤◌, length, map, ap, sym, subst}
use Rattle.flow_model.specs.declared.limits.TheConstants.{MOST_LEAVES, MOST_RULE_NAMES}
use Rattle.flow_model.specs.Lists.{◌∈◌, Each}
use Rattle.flow_form.specs.Script.{said}
use Rattle.flow_form.specs.Names.{declared_names, names_in, names_in_rules}
use Rattle.flow_form.specs.RuleForm.{rule_shape_of, rule_shapes}
use Rattle.flow_workflow.specs.declared.refusal.ExpandRefusal.TheVariants as refusal
use Rattle.flow_workflow.specs.declared.refusal.Part.TheVariants as part
use Rattle.flow_expand.specs.Expansion.{capped}
use Rattle.flow_expand.specs.Directory.{decls_of}
use Rattle.flow_expand.specs.Lay.{IsLaid, IsSettled}
use Rattle.flow_expand.specs.Settlement.{IsFound}
use Rattle.flow_expand.specs.Refusals.{rule_name_count}
use Rattle.flow_expand.proofs.Declarations.{goal_declared, names_in_all}
use Rattle.flow_expand.proofs.LaidGoalLemmas.{all_ready, found_refusal, err_kept, goal_refusal, rules_refusal, prepared}
use Rattle.flow_expand.proofs.laid_goal.lay_goal.Goals as goal

pub returns-in_err-settle_all-clause-refused : goal.returns-in_err-settle_all-clause-refused
returns-in_err-settle_all-clause-refused c =
    IfErr-weaker c.from_residual.result (IsFound (decls_of c.args.directory.now)) _ (λ e h. found_refusal (said c.args.script.now) (decls_of c.args.directory.now) e c.requires.decls c.requires.few h) (search rules)

pub lay-requires-clause-ready : goal.lay-requires-clause-ready
lay-requires-clause-ready c =
    let d = c.args.directory.now in
    let s = said c.args.script.now in
    let laid = c.in_ok-settle_all.ensures.settlement.laid in
    subst (λ l. Each (IsSettled d l) (names_in s.goal)) (sym c.deref.ensures.value)
    (all_ready d _ _ laid (λ k lt. c.in_ok-settle_all.ensures.all k (subst (λ n. k < n) (sym d.goals.ok.0) lt)) (names_in s.goal)
    (subst (λ ds. Each (λ n. n ∈ declared_names ds) (names_in s.goal)) (sym c.requires.decls) (goal_declared s c.requires.closed)))

pub returns-in_err-at_most-clause-refused : goal.returns-in_err-at_most-clause-refused
returns-in_err-at_most-clause-refused c =
    let d = c.args.directory.now in
    let s = said c.args.script.now in
    let all = λ (k : ℕ) (lt : k < length d.goals.items). c.in_ok-settle_all.ensures.all k (subst (λ n. k < n) (sym d.goals.ok.0) lt) in
    IfErr-weaker c.from_residual-in_err-at_most.result (λ e. (MOST_LEAVES < c.most.result) × (e ≡ refusal.TooLarge part.Goal c.most.result)) _
    (goal_refusal d _ _ c.in_ok-settle_all.ensures.settlement.laid all s c.requires.closed c.requires.decls c.requires.few c.lay.new.layout.items c.in_ok-root.root c.in_ok-root.ensures.ok c.most.result c.most.ensures)
    (err_kept c.from_residual-in_err-at_most.result _ _ c.from_residual-in_err-at_most.ensures.1 (subst (λ n. (n < c.most.result) × (c.in_err-at_most.field-0.0 ≡ refusal.TooLarge part.Goal c.most.result)) c.from.ensures c.in_err-at_most.ensures.refused))

pub returns-in_err-at_most-2-clause-refused : goal.returns-in_err-at_most-2-clause-refused
returns-in_err-at_most-2-clause-refused c =
    let d = c.args.directory.now in
    let s = said c.args.script.now in
    let all = λ (k : ℕ) (lt : k < length d.goals.items). c.in_ok-settle_all.ensures.all k (subst (λ n. k < n) (sym d.goals.ok.0) lt) in
    let written : c.count_names.result ≡ capped (rule_name_count s) =
    c.count_names.ensures ∙ ap (λ rs. capped (length (names_in_rules (rule_shapes (map rule_shape_of rs))))) c.deref-2.ensures.value ∙ ap (λ l. capped (length l)) (names_in_all s.rules) in
    let fits : c.most.result ≤ MOST_LEAVES = subst (λ n. c.most.result ≤ n) c.from.ensures c.in_ok-at_most.ensures.ok in
    IfErr-weaker c.from_residual-in_err-at_most-2.result (λ e. (MOST_RULE_NAMES < c.count_names.result) × (e ≡ refusal.TooLarge part.Rules c.count_names.result)) _
    (rules_refusal d _ _ c.in_ok-settle_all.ensures.settlement.laid all s c.requires.closed c.requires.decls c.requires.few c.lay.new.layout.items c.in_ok-root.root c.in_ok-root.ensures.ok c.most.result c.most.ensures
    fits c.count_names.result written)
    (err_kept c.from_residual-in_err-at_most-2.result _ _ c.from_residual-in_err-at_most-2.ensures.1 c.in_err-at_most-2.ensures.refused)

pub returns-clause-ok : goal.returns-clause-ok
returns-clause-ok c =
    let d = c.args.directory.now in
    let s = said c.args.script.now in
    let all = λ (k : ℕ) (lt : k < length d.goals.items). c.in_ok-settle_all.ensures.all k (subst (λ n. k < n) (sym d.goals.ok.0) lt) in
    let written : c.count_names.result ≡ capped (rule_name_count s) =
    c.count_names.ensures ∙ ap (λ rs. capped (length (names_in_rules (rule_shapes (map rule_shape_of rs))))) c.deref-2.ensures.value ∙ ap (λ l. capped (length l)) (names_in_all s.rules) in
    let fits : c.most.result ≤ MOST_LEAVES = subst (λ n. c.most.result ≤ n) c.from.ensures c.in_ok-at_most.ensures.ok in
    prepared d _ _ c.in_ok-settle_all.ensures.settlement.laid all s c.requires.closed c.requires.decls c.requires.few c.lay.new.layout.items c.in_ok-root.root c.in_ok-root.ensures.ok c.most.result c.most.ensures
    fits c.count_names.result written c.in_ok-at_most-2.ensures.ok

pub lay-requires-clause-laid : goal.lay-requires-clause-laid
lay-requires-clause-laid c = subst (λ l. IsLaid c.args.directory.now l c.settle_all.new.self.layout.items) (sym c.deref.ensures.value) c.in_ok-settle_all.ensures.settlement.laid
