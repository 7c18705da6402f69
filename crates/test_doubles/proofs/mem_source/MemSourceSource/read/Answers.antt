use Rattle.std.proofs.Common.{◌≡◌, ◌-◌, length, take, drop, rules, ap, ◌∙◌}
use Rattle.std.proofs.lemmas.List.{take_rest}
use Rattle.test_doubles.proofs.SourceReads.{gives_from}
use Rattle.test_doubles.proofs.mem_source.MemSourceSource.read.Goals as goal

pub returns-clause-given : goal.returns-clause-given
returns-clause-given c =
    let piece : take (length c.deref.result.now - c.self.inside.at) (drop c.self.inside.at c.deref.result.now) ≡ c.args.self.now
    = take_rest c.deref.result.now c.self.inside.at ∙ ap (drop c.self.inside.at) c.deref.ensures.value ∙ c.self.view_is in
    gives_from _ _ _ _ _ _ c.self.view_is
    (rw (← piece) c.copy_front-count.ensures.count)
    (search rules)
    (rw (← piece) c.copy_front-count.ensures.front)
    c.copy_front-count.ensures.rest
