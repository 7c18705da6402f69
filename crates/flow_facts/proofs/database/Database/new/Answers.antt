use Rattle.std.proofs.Common.{ap, ◌≡◌, ◌==◌, ◌∙◌, replicate}
use Rattle.std.specs.List.{list_any}
use Rattle.std.proofs.lemmas.List.{take_all}
use Rattle.flow_facts.proofs.Members.{held_more}
use Rattle.flow_facts.specs.Held.{is_held, flags_of}
use Rattle.flow_facts.proofs.BitFlags.{length-flags_of, is_held-empty}
use Rattle.flow_facts.proofs.database.Database.new.Goals as goal

pub loop-fact-init : goal.loop-fact-init
loop-fact-init c =
    let empty : c.in_ok-words.words.items ≡ replicate c.div_ceil.result 0 = c.in_ok-words.ensures.items_if_clones_equal (λ y same. same) in
    record {
      count = length-flags_of c.args.count c.in_ok-words.words.items;
      held = λ n. ap (λ words. is_held (flags_of c.args.count words) n) empty ∙ is_held-empty c.args.count c.div_ceil.result n;
    }

pub loop-fact-preserved : goal.loop-fact-preserved
loop-fact-preserved c = record {
  count = c.insert.ensures.count ∙ c.loop-fact.invariant.count;
  held = held_more c.loop-fact.facts c.insert.new.self c.args.held.now c.loop-fact.fact-index c.loop-fact-test.true c.insert.ensures.held c.loop-fact.invariant.held;
}

pub returns-clause-held : goal.returns-clause-held
returns-clause-held c = λ n.
    c.loop-fact.invariant.held n ∙ ap (λ list. list_any (λ h. h == n) list) (take_all c.loop-fact.fact-index c.args.held.now c.loop-fact-test.false)
