use Rattle.std.proofs.Common.{arith, ◌≡◌, ◌∙◌, ap, sym, subst, slice_get, get_or, set, Some, None, length, ◌<◌}
use Rattle.std.proofs.lemmas.Option.{slice_get-get_or, slice_get_within}
use Rattle.flow_expand.specs.declared.lay.Stage.TheVariants as stage
use Rattle.flow_expand.specs.Directory.{decls_of}
use Rattle.flow_expand.specs.Settlement.{ComesBack}
use Rattle.flow_expand.proofs.Declarations.{names_counted, flows_below}
use Rattle.flow_expand.proofs.SettlementLemmas.{path_push, stays_begun, work_set, path_within, laid_begun, seen_kept, stays_at}
use Rattle.flow_expand.proofs.settlement.Settlement.wait_for.Goals as goal

pub returns-in_ok-push-in-Some-Unlaid : goal.returns-in_ok-push-in-Some-Unlaid
returns-in_ok-push-in-Some-Unlaid c =
    let d = c.args.directory.now in
    let s = c.args.self.now in
    let at : slice_get s.laid.items c.args.next ≡ Some stage.Unlaid = ap (λ l. slice_get l c.args.next) (sym c.deref.ensures.value) ∙ sym c.in-Some-Unlaid.ensures ∙ ap Some c.in-Some-Unlaid.field-0-is in
    record {
      settlement = record {
        laid = laid_begun d s.laid.items s.layout.items c.args.next c.requires.settlement.laid;
        many = c.requires.settlement.many;
        calls = c.requires.settlement.calls;
        counted = c.requires.settlement.counted;
        seen = seen_kept s.calls.items s.seen.items s.laid.items (set s.laid.items c.args.next stage.Begun)
            (λ j. stays_at s.laid.items (set s.laid.items c.args.next stage.Begun) j (stays_begun s.laid.items c.args.next at)) c.requires.settlement.seen;
      };
      path = path_push (decls_of d) s.laid.items c.args.path.now.items c.push.new.self.items _ c.args.flow c.args.next c.requires.last c.requires.path c.requires.step at c.in_ok-push-in-Some-Unlaid.ensures.items;
      stays = stays_begun s.laid.items c.args.next at;
      less = omega (arith, work_set s.laid.items c.args.next stage.Unlaid stage.Begun at);
      found = tt;
    }

pub chain_of-requires-clause-back : goal.chain_of-requires-clause-back
chain_of-requires-clause-back c =
    let s = c.args.self.now in
    let count : length s.laid.items ≡ length c.args.directory.now.goals.items = sym s.laid.ok.0 ∙ c.requires.settlement.many ∙ c.args.directory.now.goals.ok.0 in
    let at : slice_get s.laid.items c.args.next ≡ Some stage.Begun = ap (λ l. slice_get l c.args.next) (sym c.deref.ensures.value) ∙ sym c.in-Some-Begun.ensures ∙ ap Some c.in-Some-Begun.field-0-is in
    subst (λ l. ComesBack (decls_of c.args.directory.now) l c.args.flow c.args.next) (sym c.deref-in-Some-Begun.ensures.value) (record {
      steps = c.requires.path.steps;
      distinct = c.requires.path.distinct;
      ends = (_, c.requires.last);
      step = c.requires.step;
      there = c.requires.path.only c.args.next at;
      within = path_within (decls_of c.args.directory.now) s.laid.items c.args.path.now.items _ c.requires.path (count ∙ names_counted c.args.directory.now c.requires.settlement.laid.directory);
    })

pub unreachable-requires-in-None : goal.unreachable-requires-in-None
unreachable-requires-in-None c =
    let d = c.args.directory.now in
    let laid = c.args.self.now.laid.items in
    let within = flows_below d c.requires.settlement.laid.directory c.args.next c.requires.step.other c.requires.step.others c.requires.step.second in
    let count : length laid ≡ length d.goals.items = sym c.args.self.now.laid.ok.0 ∙ c.requires.settlement.many ∙ d.goals.ok.0 in
    let some = slice_get-get_or laid c.args.next stage.Unlaid (omega (arith, within, count)) in
    let both : Some (get_or laid c.args.next stage.Unlaid) ≡ None = sym some ∙ ap (λ l. slice_get l c.args.next) (sym c.deref.ensures.value) ∙ sym c.stage_of.ensures ∙ c.in-None.is in
    cc

pub index_mut-requires : goal.index_mut-requires
index_mut-requires c =
    subst (λ n. c.args.next < n) (sym c.args.self.now.laid.ok.0)
    (slice_get_within _ c.args.next stage.Unlaid (ap (λ l. slice_get l c.args.next) (sym c.deref.ensures.value) ∙ sym c.in-Some-Unlaid.ensures ∙ ap Some c.in-Some-Unlaid.field-0-is))
