use Rattle.flow_core.proofs.SingleLemmas.{takes_once, performs_once, posts_done_once, posts_failed_once, rewinds_once, commits_once, nexts_once, answers_once}
use Rattle.flow_core.proofs.single.law_answers_are_single.Goals as goal

pub returns : goal.returns
returns c = record {
  takes = takes_once;
  performs = performs_once;
  posts = λ r claim by. (posts_done_once r claim by, posts_failed_once r claim by);
  rewinds = rewinds_once;
  commits = commits_once;
  answers = answers_once;
  nexts = nexts_once;
}
