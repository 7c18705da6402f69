use Rattle.std.proofs.Common.{◌++◌, take, filter_map, get_or, refl, sym, ap, ◌∙◌, append_assoc}
use Rattle.flow_standing.specs.declared.undone.TakenBack.{TakenBack}
use Rattle.flow_standing.proofs.Fronts.{element}
use Rattle.flow_export.specs.Events.{listed, undone_by}
use Rattle.flow_export.proofs.EventLemmas.{filter_next}
use Rattle.flow_export.proofs.events.push_undone.Goals as goal

pub loop-one-preserved : goal.loop-one-preserved
loop-one-preserved c =
    let k = c.loop-one.one-index in
    let taken = c.args.taken.now in
    let none : TakenBack = record { leaf = 0; claim = 0; by = 0; done = 0; rewound = 0 } in
    let x : TakenBack = get_or taken k none in
    let old = c.args.events.now.items in
    c.in_ok-push_event.ensures ∙ ap (λ l. l ++ listed c.undone_by.result) c.loop-one.invariant
    ∙ append_assoc old (filter_map (undone_by c.args.place) (take k taken)) (listed c.undone_by.result)
    ∙ ap (λ o. old ++ (filter_map (undone_by c.args.place) (take k taken) ++ listed o)) c.undone_by.ensures
    ∙ ap (λ l. old ++ l) (sym (filter_next (undone_by c.args.place) taken k x (element taken taken k none refl c.loop-one-test.true)))
