use Rattle.std.proofs.Common.{rules, refl, ap}
use Rattle.std.proofs.lemmas.List.{nil_from_length}
use Rattle.flow_grammar.specs.Machine as machine
use Rattle.flow_reader.specs.Symbols.{symbols_of}
use Rattle.flow_reader.specs.Scripts.{declared_so_far, script_state}
use Rattle.flow_reader.proofs.Within.{script_within}
use Rattle.flow_reader.proofs.Loops.{token_within, stands_first, stands_after, stands_value, stands_no_value}
use Rattle.flow_reader.proofs.reading.read_parts.Goals as goal

pub symbol_of-requires-clause-within : goal.symbol_of-requires-clause-within
symbol_of-requires-clause-within c =
    token_within _ _ _ _ machine.depth_script _ c.loop-token.rest.now c.in-Some.more.now c.in-Some.token.now (search rules) c.loop-token.invariant

pub loop-token-preserved : goal.loop-token-preserved
loop-token-preserved c =
    stands_after machine.step_script machine.finish_script machine.wanted_script machine.depth_script script_within
    _ _ _ _ _ _ c.in-Some.token.now c.loop-token.rest.now c.in-Some.more.now (search rules) c.symbol_of.ensures c.in_ok-reached.ensures.ok c.loop-token.invariant

pub loop-token-init : goal.loop-token-init
loop-token-init c =
    stands_first machine.step_script machine.finish_script machine.wanted_script machine.depth_script script_within _ _ _
    (machine.declaration_needed (declared_so_far c.args.parts.now)) refl
    (ap (λ ds. machine.run_script (machine.declaration_needed ds) (symbols_of c.args.text.now c.args.tokens.now)) c.requires.fresh)
    c.requires.spans c.requires.small

pub returns-then-is_whole-clause-ok : goal.returns-then-is_whole-clause-ok
returns-then-is_whole-clause-ok c =
    let none = nil_from_length c.loop-token.rest.now c.in_default.ensures.cases in
    stands_value machine.step_script machine.finish_script machine.wanted_script machine.depth_script script_within _ _ _
    (script_state c.loop-token.parts c.loop-token.reached) _ c.if-is_whole.ensures
    (rw none at c.loop-token.invariant)

pub returns-else-is_whole-clause-refused : goal.returns-else-is_whole-clause-refused
returns-else-is_whole-clause-refused c =
    let none = nil_from_length c.loop-token.rest.now c.in_default.ensures.cases in
    stands_no_value machine.step_script machine.finish_script machine.wanted_script machine.depth_script script_within _ _ _
    (script_state c.loop-token.parts c.loop-token.reached) c.wanted-kind.result _ c.if-is_whole.ensures c.wanted-kind.ensures refl
    (rw none at c.loop-token.invariant)
