use Rattle.std.proofs.Common.{[], ◌∷◌, ◌++◌, subst}
use Rattle.flow_trail.specs.Lines.{Said, void, said_of, Says}
use Rattle.flow_trail.specs.Held.{start_of, said_in, disk_of}
use Rattle.flow_case_cli.proofs.AskLemmas.{untold, line_at}
use Rattle.flow_case_cli.proofs.tell.tell_last.Goals as goal

pub returns-in_default-clause-told : goal.returns-in_default-clause-told
returns-in_default-clause-told g c = λ more.
    let t = c.args.trail.now in
    let said : Said = void [] in
    (said, λ none. cc, untold g.T.Disk.tells g.T.Disk.moment g.T.Disk.image g.T.Disk.seen (start_of t) (said_in t) said t.place (disk_of t) t.in_order (λ told. t.held told c.requires.whole))

pub returns-in-Ok-tell-clause-told : goal.returns-in-Ok-tell-clause-told
returns-in-Ok-tell-clause-told g c = λ more.
    let said : Said = said_of c.in-Ok.line in (
      said,
      λ fine entry is. line_at _ _ c.args.leaf c.history-history.result.now c.args.core.now.history c.args.count _ entry c.args.asker said c.workflow.ensures c.history-history.ensures.entries is c.in-Ok.ensures,
      record {
        any_moment = λ told. c.in-Ok-tell.ensures.any_moment told c.requires.whole;
        told = λ fine. c.in-Ok-tell.ensures.told;
        durable = λ told fine file i.
            let says = c.in-Ok-tell.ensures.durable told c.in-Ok-tell.ensures.whole file i in
            subst (λ e. Says e (said_in c.args.trail.now ++ said ∷ []) file) c.in-Ok-tell.ensures.start (subst (λ l. Says (start_of c.tell.new.self) l file) c.in-Ok-tell.ensures.told says);
      },
    )
