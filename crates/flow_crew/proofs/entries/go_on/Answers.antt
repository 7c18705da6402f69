use Rattle.std.proofs.Common.{subst, inl, inr}
use Rattle.flow_core.specs.Next.{IsNext}
use Rattle.flow_core.specs.declared.end.End.TheVariants as end
use Rattle.flow_crew.proofs.Acting.{is_committed, is_rewound}
use Rattle.flow_crew.proofs.entries.go_on.Goals as goal

pub unwrap-requires : goal.unwrap-requires
unwrap-requires c =
    (is_committed c.args.core.now c.requires.unfinished c.requires.steps (subst (IsNext c.args.core.now) c.in-Finished.is c.requires.next) c.args.by c.commit.result c.commit.new.self c.commit.ensures).0

pub unwrap-requires-in-Stuck : goal.unwrap-requires-in-Stuck
unwrap-requires-in-Stuck c =
    is_rewound c.args.core.now c.requires.unfinished c.requires.steps c.in-Stuck.field-0 (subst (IsNext c.args.core.now) c.in-Stuck.is c.requires.next) c.args.by c.rewind.result c.rewind.new.self c.rewind.ensures

pub unreachable-requires : goal.unreachable-requires
unreachable-requires c = elim c.in-Wait.is [
  | inl h ↦ c.requires.moves h.0 h.1
  | inr h ↦ c.requires.unfinished end.Committed (subst (IsNext c.args.core.now) h c.requires.next)
]

pub act-requires-clause-next : goal.act-requires-clause-next
act-requires-clause-next c = subst (IsNext c.args.core.now) c.in-Act.is c.requires.next
