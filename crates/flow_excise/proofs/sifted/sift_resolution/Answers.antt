use Rattle.std.proofs.Common.{◌∙◌, ◌+◌, arith, subst, Result, Ok, Err, OnOk}
use Rattle.flow_model.specs.Lists.{◌∈◌}
use Rattle.flow_rules.proofs.LeafLemmas.{blank_again}
use Rattle.flow_excise.specs.Block.{options_in}
use Rattle.flow_excise.specs.declared.refusal.CompileRefusal.{CompileRefusal}
use Rattle.flow_excise.specs.Options.{folded}
use Rattle.flow_excise.specs.Sieve.{options_with}
use Rattle.flow_excise.proofs.SieveLemmas.{ways_found, sift_found}
use Rattle.flow_excise.proofs.sifted.sift_resolution.Goals as goal

pub resolve-requires : goal.resolve-requires
resolve-requires c =
    let t = folded c.args.tree.now c.args.choices.now in
    record { numbered = (t.apart, c.requires.choices.prepared, record { below = c.requires.numbered; exact = omega (arith, c.requires.choices.few) }) }

pub sift_ways-requires : goal.sift_ways-requires
sift_ways-requires c =
    let q = c.in_ok-resolution.resolution.process in
    let found = ways_found (folded c.args.tree.now c.args.choices.now) c.args.block.now c.args.lane q c.fixed-fixed.result.now c.args.events.now c.note_events.new.events c.in_ok-orders.orders.items
    c.deref.result.now c.requires.blank c.in_ok-note_events.ensures.noted (c.fixed-fixed.ensures.fixed ∙ c.fixed-fixed.ensures.outside) c.deref.ensures.value c.in_ok-orders.ensures in
    λ o m. c.requires.plannable q (c.in_ok-resolution.ensures.resolution (folded c.args.tree.now c.args.choices.now).apart c.requires.choices.prepared) o (subst (λ l. o ∈ l) found m)

pub returns-clause-options : goal.returns-clause-options
returns-clause-options c =
    let tree = folded c.args.tree.now c.args.choices.now in
    let block = c.args.block.now in
    let q = c.in_ok-resolution.resolution.process in
    let found = ways_found tree block c.args.lane q c.fixed-fixed.result.now c.args.events.now c.note_events.new.events c.in_ok-orders.orders.items
    c.deref.result.now c.requires.blank c.in_ok-note_events.ensures.noted (c.fixed-fixed.ensures.fixed ∙ c.fixed-fixed.ensures.outside) c.deref.ensures.value c.in_ok-orders.ensures in
    sift_found tree (block.first + c.args.lane) q (options_with q c.deref.result.now) (options_in tree block c.args.lane) c.args.sieve.now c.sift_ways.new.sieve c.sift_ways.result
    found (c.in_ok-resolution.ensures.resolution (folded c.args.tree.now c.args.choices.now).apart c.requires.choices.prepared) c.sift_ways.ensures

on_ok : (r : Result (Unit {0}) CompileRefusal) (P : Type 0) → P → OnOk r P
on_ok (Ok u) P p = p
on_ok (Err refusal) P p = tt

pub returns-clause-blank : goal.returns-clause-blank
returns-clause-blank c =
    on_ok c.sift_ways.result _
    (blank_again c.args.tree.now.labels c.fixed-fixed.result.now c.args.events.now c.note_events.new.events c.requires.blank c.in_ok-note_events.ensures.noted
    c.forget_events.new.events c.forget_events.ensures)
