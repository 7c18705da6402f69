use Rattle.std.proofs.Common.{◌≡◌, ◌-◌, ◌++◌, map}
use Rattle.flow_model.specs.declared.labels.Note.TheVariants.{Done}
use Rattle.flow_model.specs.Lists.{numbers_from}
use Rattle.flow_form.specs.Script.{declared, event}
use Rattle.flow_gen.specs.Generated.{event_name, events}
use Rattle.flow_gen.proofs.script.events_of.Given as goal

abbrev pub invariant-loop-number : goal.invariant-loop-number
invariant-loop-number l =
    map declared l.decls.items ++ map (λ k. event (event_name k) Done) (numbers_from l.number (l.count - l.number)) ≡ events l.count
