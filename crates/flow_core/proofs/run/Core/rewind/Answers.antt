use Rattle.std.proofs.Common.{false, refl}
use Rattle.flow_core.proofs.Entries.{ended_inside}
use Rattle.flow_core.proofs.run.Core.rewind.Goals as goal

pub record_rewound-requires-clause-steps : goal.record_rewound-requires-clause-steps
record_rewound-requires-clause-steps c = c.if-not-has_steps.ensures.0 refl

pub returns : goal.returns
returns c =
    let going = ended_inside c.self.inside c.self.invariant c.args.self.now c.self.view_is false c.if-self.false in
    (going, c.if-not-has_steps.ensures.0 refl, c.in-Some.ensures, c.record_rewound.ensures)
