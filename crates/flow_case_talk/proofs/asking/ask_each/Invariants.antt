use Rattle.std.proofs.Common.{◌≡◌, take}
use Rattle.flow_case_talk.specs.declared.reply.Outcome.TheVariants.{Made}
use Rattle.flow_case_talk.specs.Means.{AreMade}
use Rattle.flow_case_talk.specs.Plans.{came_last}
use Rattle.flow_case_talk.proofs.asking.ask_each.Given as goal

abbrev pub invariant-loop-ask : goal.invariant-loop-ask
invariant-loop-ask g l = record {
  made : AreMade l.speaker.number (g.B.Book.kept_case l.initial.book) (take l.ask-index l.asks) (g.B.Book.kept_case l.book);
  last : came_last l.last ≡ Made;
}
