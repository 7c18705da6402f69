use Rattle.std.proofs.Common.{◌≡◌, ap, arith}
use Rattle.test_doubles.proofs.SourceReads.{gives_into_ok}
use Rattle.test_doubles.proofs.cut_source.CutSourceSource.read.Goals as goal

pub returns-clause-given : goal.returns-clause-given
returns-clause-given c =
    let source_is : c.self.inside.source ≡ c.args.self.now.bytes = ap (λ v. v.bytes) c.self.view_is in
    rw (← source_is) (gives_into_ok c.read.result _ _ _ _ _ c.read.auto.buf (λ not_empty. omega arith) c.read.ensures.given)
