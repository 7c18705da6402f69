use Rattle.std.proofs.Common.{◌++◌, ◌≡◌, ℕ, List, Result, Ok, Err, get_or, sym, subst, refl, ◌∙◌, rules}
use Rattle.std.specs.Io.KnownBytes.{Appends}
use Rattle.std.proofs.KnownBytes.{Appends-trans}
use Rattle.flow_ask.specs.declared.ask.Ask.TheVariants as ask
use Rattle.flow_core.specs.Ask.{Answers}
use Rattle.flow_record.specs.declared.command.Command.TheVariants as command
use Rattle.flow_reply.specs.Replies.{Replies, RepliesTo, IsSame}
use Rattle.flow_reply.proofs.SessionLemmas.{goes_next}
use Rattle.flow_keep.specs.Holding.{run_of, disk_of}
use Rattle.flow_keep_cli.specs.Session.{driver}
use Rattle.flow_keep_cli.proofs.Cuts.{cut_served, cut_sink}
use Rattle.flow_keep_cli.proofs.replies.reply_to_all.Goals as goal

pub returns-in-Err-clause-cut : goal.returns-in-Err-clause-cut
returns-in-Err-clause-cut g c =
    let (text, driven, written) = c.loop-command.invariant.so_far in
    cut_served (run_of c.args.keep.now) (run_of c.loop-command.keep) (run_of c.serve.new.keep) c.args.commands.now c.loop-command.command-index (command.Ask (ask.Take 0))
    c.loop-command-test.true text (g.K.Sink.held c.args.sink.now) (g.K.Sink.held c.loop-command.sink) g.D.Disk.tells
    (g.D.Disk.image (disk_of c.serve.new.keep) (g.D.Disk.moment (disk_of c.serve.new.keep))) driven c.in-Err.ensures.given c.in-Err.cut c.in-Err.ensures.no_sink
    written c.in-Err.ensures.kept

pub returns-in_default-clause-cut : goal.returns-in_default-clause-cut
returns-in_default-clause-cut g c =
    let (text, driven, written) = c.loop-command.invariant.so_far in
    let replied = subst (λ (l : List ℕ). RepliesTo (run_of c.loop-command.keep) driver (get_or c.args.commands.now c.loop-command.command-index (command.Ask (ask.Take 0))) l (run_of c.serve.new.keep))
    (sym c.deref.ensures.value) c.in-Ok.ensures.replies in
    cut_sink (run_of c.args.keep.now) (run_of c.loop-command.keep) (run_of c.serve.new.keep) c.args.commands.now c.loop-command.command-index (command.Ask (ask.Take 0))
    c.loop-command-test.true text (g.K.Sink.held c.args.sink.now) (g.K.Sink.held c.loop-command.sink) g.D.Disk.tells
    (g.D.Disk.image (disk_of c.serve.new.keep) (g.D.Disk.moment (disk_of c.serve.new.keep))) driven c.in-Ok.ensures.given c.deref.result.now (g.K.Sink.held c.write_all.new.sink) written
    replied c.in_default.ensures.part c.in-Ok.ensures.kept

pub loop-command-preserved : goal.loop-command-preserved
loop-command-preserved g c =
    let i = c.loop-command.invariant in
    let (text, driven, written) = i.so_far in
    let line = c.in-Ok.line.items in
    let more = subst (λ (l : List ℕ). Appends (g.K.Sink.held c.loop-command.sink) (g.K.Sink.held c.write_all.new.sink) l) c.deref.ensures.value c.in-Ok-write_all.ensures.all in
    record {
      disk = c.in-Ok.ensures.cause ∙ i.disk;
      file = c.in-Ok.ensures.same_file ∙ i.file;
      sink = search rules;
      whole = c.in-Ok.ensures.unbroken;
      so_far = (
        text ++ line,
        goes_next (Replies (λ run. run) Answers IsSame driver) (run_of c.args.keep.now) (run_of c.loop-command.keep) (run_of c.serve.new.keep) c.args.commands.now c.loop-command.command-index
            (command.Ask (ask.Take 0)) text line (text ++ line) c.loop-command-test.true driven c.in-Ok.ensures.replies refl,
        Appends-trans (g.K.Sink.held c.args.sink.now) (g.K.Sink.held c.loop-command.sink) (g.K.Sink.held c.write_all.new.sink) text line written more,
      );
    }
