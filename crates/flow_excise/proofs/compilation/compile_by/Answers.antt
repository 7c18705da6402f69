use Rattle.std.proofs.Common.{◌≡◌, ◌≢◌, ◌∙◌, ◌≤◌, List, All, [], IfOk, ap, length, map, subst, sym}
use Rattle.flow_model.specs.declared.limits.TheConstants.{MOST_RESOLUTIONS}
use Rattle.flow_model.specs.Constraint.{Constraint}
use Rattle.flow_model.specs.Folding.{is_named, staying_choices}
use Rattle.flow_model.specs.Process.{IsNumbered}
use Rattle.flow_laws.specs.WellFormed.{IsWellFormed}
use Rattle.flow_goal.specs.Folds.{AreSpansOf}
use Rattle.flow_goal.specs.Labelled.{Labelled}
use Rattle.flow_goal.specs.Repeats.{HoldsNoneTwice}
use Rattle.flow_goal.specs.declared.fold.Fold.{Fold}
use Rattle.flow_plan.specs.FoldRows.{IsWithinLimit}
use Rattle.flow_rules.specs.Conjunction.{normal_in}
use Rattle.flow_excise.specs.Executions.{numbered_options}
use Rattle.flow_excise.specs.Limits.{AreFew}
use Rattle.flow_excise.specs.Options.{FoldedTree, all_options_by, count_in, folded, options_by, resolutions_in, schema_with}
use Rattle.flow_excise.specs.Sieve.{HasSifted}
use Rattle.flow_excise.proofs.CompilationLemmas.{all_shared, compiled_by, named_so, plannable, refused_by, same_options, spans_within, too_many}
use Rattle.flow_excise.proofs.compilation.compile_by.Goals as goal

formed : (t : Labelled) (these : List Constraint) → IsNumbered t.process (length t.labels) → HoldsNoneTwice t → IsWellFormed (schema_with t these)
formed t these numbered unique = record { numbered = numbered; unique = unique }

pub sift_all-requires-clause-plannable : goal.sift_all-requires-clause-plannable
sift_all-requires-clause-plannable c =
    let tree = c.args.tree.now in
    let normal = normal_in c.args.rules.now in
    let (these, made) = c.requires.made in
    let f = formed tree these (subst (IsNumbered tree.process) c.leaves-leaves.ensures.count c.leaves-leaves.ensures.numbered) c.requires.unique in
    let so = named_so tree c.args.choices.now these made.folds in
    plannable (schema_with tree these) (all_options_by (folded tree c.args.choices.now) normal) f c.requires.small
    (ap (λ (t : FoldedTree). all_options_by t normal) so ∙ same_options tree these normal made.ways) c.in-Ok.ensures.options.light

pub of_folds-requires : goal.of_folds-requires
of_folds-requires c =
    let tree = c.args.tree.now in
    let (these, made) = c.requires.made in
    let f = formed tree these (subst (IsNumbered tree.process) c.leaves-leaves.ensures.count c.leaves-leaves.ensures.numbered) c.requires.unique in
    subst (λ (l : List Fold). All IsWithinLimit l) (sym c.spans.ensures) (spans_within tree these c.args.choices.now.folds.spans.items f c.requires.small made.folds.spans)

pub compiled_of-requires : goal.compiled_of-requires
compiled_of-requires c =
    let tree = c.args.tree.now in
    let normal = normal_in c.args.rules.now in
    let (these, made) = c.requires.made in
    let f = formed tree these (subst (IsNumbered tree.process) c.leaves-leaves.ensures.count c.leaves-leaves.ensures.numbered) c.requires.unique in
    let so = named_so tree c.args.choices.now these made.folds in
    all_shared tree these normal made.ways f (subst (λ t. count_in t ≤ MOST_RESOLUTIONS) so c.requires.choices.few) c.in-Ok.counted.tally
    (subst (λ t. AreFew (all_options_by t normal) c.in-Ok.counted.tally) so c.in-Ok.ensures.options) c.in_ok-sieve.sieve
    (subst (λ t. HasSifted (numbered_options 0 (map (options_by t normal) (resolutions_in t))) c.in_ok-sieve.sieve) so c.in_ok-sieve.ensures)
    c.spans.result.now c.in_ok-rows.rows.items (subst (λ (l : List Fold). AreSpansOf (staying_choices (is_named (schema_with tree these)) tree.process) l) (sym c.spans.ensures) made.folds.spans)
    c.in_ok-rows.ensures.shared

pub returns-in-Err-clause-refused : goal.returns-in-Err-clause-refused
returns-in-Err-clause-refused c = λ these made.
    let tree = c.args.tree.now in
    let normal = normal_in c.args.rules.now in
    let so = named_so tree c.args.choices.now these made.folds in
    too_many (schema_with tree these) (all_options_by (folded tree c.args.choices.now) normal) c.in-Err.refusal
    (ap (λ (t : FoldedTree). all_options_by t normal) so ∙ same_options tree these normal made.ways)
    (subst (λ t. count_in t ≤ MOST_RESOLUTIONS) so c.requires.choices.few) c.in-Err.ensures.options

pub returns-clause-refused : goal.returns-clause-refused
returns-clause-refused c = λ these made.
    let tree = c.args.tree.now in
    let normal = normal_in c.args.rules.now in
    let f = formed tree these (subst (IsNumbered tree.process) c.leaves-leaves.ensures.count c.leaves-leaves.ensures.numbered) c.requires.unique in
    let so = named_so tree c.args.choices.now these made.folds in
    refused_by tree these normal made.ways f (subst (λ t. count_in t ≤ MOST_RESOLUTIONS) so c.requires.choices.few) c.in-Ok.counted.tally
    (subst (λ t. AreFew (all_options_by t normal) c.in-Ok.counted.tally) so c.in-Ok.ensures.options) c.in_ok-sieve.sieve
    (subst (λ t. HasSifted (numbered_options 0 (map (options_by t normal) (resolutions_in t))) c.in_ok-sieve.sieve) so c.in_ok-sieve.ensures)
    c.compiled_of.result c.compiled_of.ensures.none

pub returns-clause-ok : goal.returns-clause-ok
returns-clause-ok c = λ these made.
    let tree = c.args.tree.now in
    let normal = normal_in c.args.rules.now in
    let f = formed tree these (subst (IsNumbered tree.process) c.leaves-leaves.ensures.count c.leaves-leaves.ensures.numbered) c.requires.unique in
    let so = named_so tree c.args.choices.now these made.folds in
    compiled_by tree these normal made.ways f (subst (λ t. count_in t ≤ MOST_RESOLUTIONS) so c.requires.choices.few) c.in-Ok.counted.tally
    (subst (λ t. AreFew (all_options_by t normal) c.in-Ok.counted.tally) so c.in-Ok.ensures.options) c.in_ok-sieve.sieve
    (subst (λ t. HasSifted (numbered_options 0 (map (options_by t normal) (resolutions_in t))) c.in_ok-sieve.sieve) so c.in_ok-sieve.ensures)
    c.compiled_of.result
    (subst (λ n. IfOk c.compiled_of.result (λ compiled. (c.in_ok-sieve.sieve.kept.items ≢ []) × (compiled.plans ≡ c.in_ok-sieve.sieve.kept.items) ×
    (compiled.counts ≡ record { resolutions = n; options = c.in-Ok.counted.tally.options; bulk = c.in-Ok.counted.tally.bulk; live = length c.in_ok-sieve.sieve.kept.items })))
    (c.requires.choices.counted ∙ ap count_in so) c.compiled_of.ensures.ok)
