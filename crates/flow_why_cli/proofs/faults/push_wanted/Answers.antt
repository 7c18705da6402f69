use Rattle.std.proofs.Common.{refl}
use Rattle.std.proofs.lemmas.Result.{on_ok_weaker}
use Rattle.flow_why_cli.specs.Words.{wanted_line}
use Rattle.flow_why_cli.proofs.faults.push_wanted.Goals as goal

pub returns-in-Expected : goal.returns-in-Expected
returns-in-Expected c =
    rw c.in-Expected.is
    (on_ok_weaker c.push_words.result (λ e. (wanted_line c.wanted_words.result.now, (c.wanted_words.result.now, refl), e)) c.push_words.ensures)
