use Rattle.std.proofs.Common.{◌≡◌, ◌+◌, ◌++◌, length, drop, filter_map, sym, ap, subst, ◌∙◌, arith}
use Rattle.flow_model.specs.declared.history.Entry.{Entry}
use Rattle.flow_model.specs.declared.history.Step.TheVariants.{Took}
use Rattle.flow_core.specs.Run.{schema}
use Rattle.flow_standing.specs.Following.{leaves_given, taken_by}
use Rattle.flow_standing.proofs.Fronts.{element}
use Rattle.flow_standing.proofs.Trails.{followed}
use Rattle.flow_standing.proofs.Undoing.{IsTakenUpTo, taken_next, none_taken, taken_all, index_of, no_index}
use Rattle.flow_standing.proofs.undone.taken_back.Goals as goal
use Rattle.flow_standing.proofs.undone.taken_back.Goals.{in-Some+in_ok-take, in_default}

pub loop-place-preserved : goal.loop-place-preserved
loop-place-preserved c =
    let r = c.args.core.now in
    let lawful = c.history-history.ensures.lawful in
    let k = c.loop-place.place in
    let i = c.loop-place.invariant in
    let first : Entry = record { by = 0; step = Took 0 0 } in
    let at = element r.history c.history-history.result.now k first c.history-history.ensures.entries c.loop-place-test.true in
    record {
      trail = followed (schema r) r.limit r.history lawful.legal lawful.sound k _ at c.loop-place.trail.items i.trail c.deref-in-loop-place.result.now
          (c.deref-in-loop-place.ensures.value ∙ c.in_ok-leaves.ensures ∙ ap leaves_given c.history-history.ensures.entries) c.follow.new.trail.items c.in_ok-follow.ensures;
      taken = elim c.match-index_cut.branch [
        | in-Some+in_ok-take w ↦ subst (IsTakenUpTo (schema r) r.history (k + 1))
            (sym (ap (λ v. v.items) w.all-is ∙ w.in_ok-take.ensures
            ∙ ap (λ l. c.loop-place.all.items ++ filter_map (taken_by k) l) (w.behind.ensures ∙ ap (drop w.in-Some.index) w.deref.ensures.value)))
            (taken_next (schema r) r.history k _ at c.loop-place.trail.items i.trail w.in-Some.index (index_of _ w.in-Some.index w.in-Some.ensures) c.loop-place.all.items i.taken)
        | in_default w ↦ subst (IsTakenUpTo (schema r) r.history (k + 1)) (sym (ap (λ v. v.items) w.all-is))
            (none_taken (schema r) r.history k _ at c.loop-place.trail.items i.trail (no_index _ w.in_default.ensures) c.loop-place.all.items i.taken)
      ];
    }

pub returns : goal.returns
returns c =
    let r = c.args.core.now in
    let all : c.loop-place.place ≡ length r.history = omega (arith, ap length c.history-history.ensures.entries) in
    taken_all (schema r) r.history c.loop-place.place c.loop-place.all.items all c.loop-place.invariant.taken
