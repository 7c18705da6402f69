use Rattle.std.proofs.Common.{◌≡◌, ap, sym, refl, Some, slice_get, ◌∙◌}
use Rattle.flow_form.specs.Form.{named}
use Rattle.flow_form.specs.Names.{event_names}
use Rattle.flow_expand.specs.Expansion.{happens, becomes_event}
use Rattle.flow_expand.specs.Directory.{decls_of}
use Rattle.flow_model.proofs.Lists.{mem-slice_get}
use Rattle.flow_expand.proofs.LayLemmas.{goes_flow, goes_plain}
use Rattle.flow_expand.proofs.lay.lay_name.Goals as goal

pub returns-in-Some-clause-ok : goal.returns-in-Some-clause-ok
returns-in-Some-clause-ok c =
    goes_flow c.args.directory.now c.args.laid.now c.args.layout.now.items c.args.name.now c.in-Some.flow c.root_of.result c.requires.laid (sym c.flow.ensures ∙ c.in-Some.is) c.root_of.ensures

pub returns-clause-ok : goal.returns-clause-ok
returns-clause-ok c =
    let events = event_names (decls_of c.args.directory.now) in
    let n = c.args.name.now in
    let at : slice_get events c.in-Some-number_of.number ≡ Some n = ap (λ l. slice_get l c.in-Some-number_of.number) (sym c.requires.laid.directory.events) ∙ c.in-Some-number_of.ensures.found in
    goes_plain c.put_end.result _ (decls_of c.args.directory.now) c.put_end.new.layout.items (named n) (named n) (happens n) refl (becomes_event (mem-slice_get events c.in-Some-number_of.number n at))
    (λ root put. put events (happens n) (n, refl, at)) c.put_end.ensures.ok
