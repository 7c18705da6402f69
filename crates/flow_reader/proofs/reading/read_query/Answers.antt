use Rattle.std.proofs.Common.{rules, refl, sym}
use Rattle.std.proofs.lemmas.List.{nil_from_length}
use Rattle.flow_grammar.specs.Machine as machine
use Rattle.flow_reader.specs.Queries.{query_state}
use Rattle.flow_reader.proofs.Within.{query_within}
use Rattle.flow_reader.proofs.Loops.{token_within, stands_first, stands_after, stands_value, stands_no_value}
use Rattle.flow_reader.proofs.reading.read_query.Goals as goal

pub symbol_of-requires-clause-within : goal.symbol_of-requires-clause-within
symbol_of-requires-clause-within c =
    token_within _ _ _ _ machine.depth_query _ c.loop-token.rest.now c.in-Some.more.now c.in-Some.token.now (search rules) c.loop-token.invariant

pub loop-token-preserved : goal.loop-token-preserved
loop-token-preserved c =
    stands_after machine.step_query machine.finish_query machine.wanted_query machine.depth_query query_within
    _ _ _ _ _ _ c.in-Some.token.now c.loop-token.rest.now c.in-Some.more.now (search rules) c.symbol_of.ensures c.in_ok-reached.ensures.ok c.loop-token.invariant

pub returns-in-None : goal.returns-in-None
returns-in-None c =
    let none = nil_from_length c.loop-token.rest.now c.in_default.ensures.cases in
    record {
      ok = tt;
      refused = stands_no_value machine.step_query machine.finish_query machine.wanted_query machine.depth_query query_within _ _ _
          (query_state c.loop-token.stack c.loop-token.reached) c.wanted-kind.result _ (sym (c.in-None.ensures c.loop-token.stack)) c.wanted-kind.ensures refl
          (rw none at c.loop-token.invariant);
    }

pub returns-in-Some-finish-clause-ok : goal.returns-in-Some-finish-clause-ok
returns-in-Some-finish-clause-ok c =
    let none = nil_from_length c.loop-token.rest.now c.in_default.ensures.cases in
    stands_value machine.step_query machine.finish_query machine.wanted_query machine.depth_query query_within _ _ _
    (query_state c.loop-token.stack c.loop-token.reached) _ (sym (c.in-Some-finish.ensures c.loop-token.stack))
    (rw none at c.loop-token.invariant)

pub loop-token-init : goal.loop-token-init
loop-token-init c =
    stands_first machine.step_query machine.finish_query machine.wanted_query machine.depth_query query_within _ _ _
    machine.query_needed refl refl c.requires.spans c.requires.small
