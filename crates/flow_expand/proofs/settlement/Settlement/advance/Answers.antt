use Rattle.std.proofs.Common.{◌<◌, OnOk, length, subst, sym, ◌∙◌}
use Rattle.std.proofs.lemmas.Option.{slice_get_within}
use Rattle.flow_expand.specs.declared.lay.Stage.TheVariants as stage
use Rattle.flow_expand.specs.Directory.{decls_of}
use Rattle.flow_expand.specs.Settlement.{IsPath, Stays}
use Rattle.flow_expand.proofs.SettlementLemmas.{last_begun, when_none, when_some, done}
use Rattle.flow_expand.proofs.settlement.Settlement.advance.Goals as goal

pub attempt-requires-clause-within : goal.attempt-requires-clause-within
attempt-requires-clause-within c =
    let lt : c.args.flow < length c.args.self.now.laid.items =
    slice_get_within c.args.self.now.laid.items c.args.flow stage.Begun (last_begun (decls_of c.args.directory.now) c.args.self.now.laid.items c.args.path.now.items _ c.args.flow c.requires.path c.requires.last) in
    subst (λ n. c.args.flow < n) (sym c.args.self.now.laid.ok.0 ∙ c.requires.settlement.many) lt

pub returns-in-None : goal.returns-in-None
returns-in-None c =
    let h = done (decls_of c.args.directory.now) c.args.self.now.laid.items c.attempt.new.self.laid.items c.args.path.now.items c.pop.new.self.items _ c.args.flow
    (when_none c.in_ok-next.field-0 _ _ c.in-None.is c.in_ok-next.ensures.laid) c.requires.path c.requires.last c.pop.ensures.rest in
    record { settlement = c.in_ok-next.ensures.settlement; path = h.path; stays = h.stays; less = h.less; found = tt }

pub wait_for-requires-clause-path : goal.wait_for-requires-clause-path
wait_for-requires-clause-path c =
    subst (λ l. IsPath (decls_of c.args.directory.now) l c.args.path.now.items) (sym (when_some c.in_ok-next.field-0 _ _ c.in-Some.next c.in-Some.is c.in_ok-next.ensures.laid)) c.requires.path

pub wait_for-requires-clause-step : goal.wait_for-requires-clause-step
wait_for-requires-clause-step c = (when_some c.in_ok-next.field-0 _ _ c.in-Some.next c.in-Some.is c.in_ok-next.ensures.waits).0

pub wait_for-requires-clause-unlaid : goal.wait_for-requires-clause-unlaid
wait_for-requires-clause-unlaid c = (when_some c.in_ok-next.field-0 _ _ c.in-Some.next c.in-Some.is c.in_ok-next.ensures.waits).1

pub returns-in-Some-clause-stays : goal.returns-in-Some-clause-stays
returns-in-Some-clause-stays c =
    subst (λ l. OnOk c.wait_for.result (Stays l c.wait_for.new.self.laid.items)) (when_some c.in_ok-next.field-0 _ _ c.in-Some.next c.in-Some.is c.in_ok-next.ensures.laid) c.wait_for.ensures.stays
