use Rattle.std.proofs.Common.{◌≡◌, length, get_or, sym, subst, ap, ◌∙◌, arith}
use Rattle.flow_model.specs.declared.history.Entry.{Entry}
use Rattle.flow_model.specs.declared.history.Step.TheVariants.{Took}
use Rattle.flow_core.specs.Run.{schema}
use Rattle.flow_standing.specs.Following.{leaves_given, leaf_numbered, IsTrail, next_bans}
use Rattle.flow_standing.proofs.Fronts.{element}
use Rattle.flow_standing.proofs.Trails.{no_trail, followed}
use Rattle.flow_standing.proofs.PastLemmas.{no_past, noted, past_all}
use Rattle.flow_standing.proofs.past.Past.of.Goals as goal

pub loop-place-init : goal.loop-place-init
loop-place-init c =
    let r = c.args.core.now in record {
      trail = subst (IsTrail (schema r) r.history 0) (sym c.new-trail.ensures.items) (no_trail (schema r) r.history);
      past = no_past (schema r) r.history c.in_ok-past.past.bans.items c.in_ok-past.past.failed.items c.leaf_count.result c.in_ok-past.ensures.bans c.in_ok-past.ensures.failed c.leaf_count.ensures;
    }

pub loop-place-preserved : goal.loop-place-preserved
loop-place-preserved c =
    let r = c.args.core.now in
    let lawful = c.history-history.ensures.lawful in
    let k = c.loop-place.place in
    let i = c.loop-place.invariant in
    let first : Entry = record { by = 0; step = Took 0 0 } in
    let at = element r.history c.history-history.result.now k first c.history-history.ensures.entries c.loop-place-test.true in
    let entry : Entry = get_or c.history-history.result.now k first in
    let given = c.in_ok-leaves.ensures ∙ ap leaves_given c.history-history.ensures.entries in
    record {
      trail = followed (schema r) r.limit r.history lawful.legal lawful.sound k _ at c.loop-place.trail.items i.trail c.deref-in-loop-place-2.result.now
          (c.deref-in-loop-place-2.ensures.value ∙ given) c.follow.new.trail.items c.in_ok-follow.ensures;
      past = noted (schema r) r.limit r.history lawful.legal lawful.sound k _ at c.loop-place.trail.items i.trail c.loop-place.past.bans.items c.loop-place.past.failed.items i.past
          c.deref-in-loop-place.result.now (c.deref-in-loop-place.ensures.value ∙ given) c.note.new.self.bans.items c.note.new.self.failed.items
          (c.in_ok-note.ensures.bans ∙ ap (λ t. next_bans (leaf_numbered c.deref-in-loop-place.result.now) t c.loop-place.past.bans.items entry.step) c.deref.ensures.value) c.in_ok-note.ensures.failed;
    }

pub returns : goal.returns
returns c =
    let r = c.args.core.now in
    let all : c.loop-place.place ≡ length r.history = omega (arith, ap length c.history-history.ensures.entries) in
    past_all (schema r) r.history c.loop-place.place c.loop-place.past.bans.items c.loop-place.past.failed.items all c.loop-place.invariant.past
