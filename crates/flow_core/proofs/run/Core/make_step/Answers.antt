use Rattle.std.proofs.Common.{◌≡◌, ◌∙◌, ℕ, Bool, refl, sym, subst, true≢false}
use Rattle.flow_model.specs.declared.history.Step.{Step}
use Rattle.flow_model.specs.declared.history.Step.TheVariants.{Rewound, Committed}
use Rattle.flow_core.specs.Run.{Run}
use Rattle.flow_core.specs.Make.{Makes}
use Rattle.flow_core.proofs.MakeByAsks.{rewound, ended, is_last}
use Rattle.flow_core.proofs.run.Core.make_step.Goals as goal

-- the step and the answer are those that were looked at
made_as : (r after : Run) (by : ℕ) (step is : Step) (told made : Bool) → step ≡ is → told ≡ made → Makes r by is made after → Makes r by step told after
made_as r after by step is told made same answer makes =
    subst (λ (s : Step). Makes r by s told after) (sym same) (subst (λ (b : Bool). Makes r by is b after) (sym answer) makes)

pub returns-then-eq : goal.returns-then-eq
returns-then-eq c =
    let r = c.args.self.now in
    let index = c.in-Rewound.index in
    let last = (is_last r index c.open_index.result c.eq.result c.open_index.ensures c.eq.ensures).0 c.if-eq.true in
    made_as r c.rewind.new.self c.args.by c.args.step (Rewound index) _ _ c.in-Rewound.is c.is_ok-then-eq.ensures.value
    (rewound r c.rewind.new.self c.args.by index c.rewind.result last c.rewind.ensures)

pub returns-else-eq : goal.returns-else-eq
returns-else-eq c =
    let r = c.args.self.now in
    let index = c.in-Rewound.index in
    let last = is_last r index c.open_index.result c.eq.result c.open_index.ensures c.eq.ensures in
    made_as r r c.args.by c.args.step (Rewound index) _ _ c.in-Rewound.is c.if-eq.false ((λ can. true≢false (sym (last.1 can.allowed) ∙ c.if-eq.false)), refl)

pub returns-in-Committed : goal.returns-in-Committed
returns-in-Committed c =
    made_as c.args.self.now c.commit.new.self c.args.by c.args.step Committed _ _ c.in-Committed.is c.is_ok-in-Committed.ensures.value
    (ended c.args.self.now c.commit.new.self c.args.by c.commit.result c.commit.ensures)
