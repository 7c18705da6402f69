use Rattle.std.proofs.Common.{ℕ, List, map, refl, sym, subst, inl, inr}
use Rattle.std.specs.String.{string_bytes}
use Rattle.flow_keep_cli.specs.declared.asked.Looked.{Looked}
use Rattle.flow_keep_cli.specs.Asked.{IsRefusedBy, IsLooked, Wanted, IsWanted}
use Rattle.flow_keep_cli.specs.Lines.{help_text}
use Rattle.flow_front.specs.declared.status.Status.TheVariants.{Fine}
use Rattle.flow_keep_cli.specs.declared.status.KeepStatus.TheVariants.{Of}
use Rattle.flow_keep_cli.specs.Course.{IsAnsweredAlone}
use Rattle.flow_keep_cli.proofs.Courses.{before_alone, driven_of, cut_of, before_of}
use Rattle.flow_keep_cli.proofs.call.flowkeep.Goals as goal

-- ---- what is wanted

module _ (g : _) (c : goal.After-keep_session g) where
  abbrev wanted : Wanted
  wanted = record { path = c.in-Some.call.path.now; steps = c.in-Some.call.steps; workflow = c.in-Ok-Ready.asked.prepared.workflow; commands = c.in-Ok-Ready.asked.commands.items }

  is_wanted : IsWanted (map (λ word. string_bytes word) c.args.words.now) (g.S.Source.left c.args.source.now) wanted
  is_wanted = record {
    no_help = λ help. let asked = c.asks_for_help.ensures.1 help in cc;
    call = c.in-Some.ensures.call;
    compiled = c.in-Ok-Ready.asked.prepared.compiled;
    asked = subst (λ (l : Looked). IsLooked (g.S.Source.left c.args.source.now) l) c.in-Ok-Ready.field-0-is c.in-Ok-Ready.ensures.looked;
  }

pub returns-in-Ok-Ready-clause-whole : goal.returns-in-Ok-Ready-clause-whole
returns-in-Ok-Ready-clause-whole g c =
    driven_of g.D.Disk.tells g.D.Disk.moment g.D.Disk.image g.D.Disk.synced g.D.Disk.seen g.D.Disk.faults g.D.Disk.chosen g.D.Disk.file_at (map (λ word. string_bytes word) c.args.words.now) (g.S.Source.left c.args.source.now)
    c.args.disk c.keep_session.result.1 (g.K.Sink.held c.args.sink.now) (g.K.Sink.held c.keep_session.new.sink) c.keep_session.result.0 (wanted g c) (is_wanted g c) c.keep_session.ensures.course

pub returns-in-Ok-Ready-clause-cut : goal.returns-in-Ok-Ready-clause-cut
returns-in-Ok-Ready-clause-cut g c =
    cut_of g.D.Disk.tells g.D.Disk.moment g.D.Disk.image g.D.Disk.synced g.D.Disk.seen g.D.Disk.faults g.D.Disk.chosen g.D.Disk.file_at (map (λ word. string_bytes word) c.args.words.now) (g.S.Source.left c.args.source.now)
    c.args.disk c.keep_session.result.1 (g.K.Sink.held c.args.sink.now) (g.K.Sink.held c.keep_session.new.sink) c.keep_session.result.0 (wanted g c) (is_wanted g c) c.keep_session.ensures.course

pub returns-in-Ok-Ready-clause-before : goal.returns-in-Ok-Ready-clause-before
returns-in-Ok-Ready-clause-before g c =
    before_of g.D.Disk.tells g.D.Disk.moment g.D.Disk.image g.D.Disk.synced g.D.Disk.seen g.D.Disk.faults g.D.Disk.chosen g.D.Disk.file_at (map (λ word. string_bytes word) c.args.words.now) (g.S.Source.left c.args.source.now)
    c.args.disk c.keep_session.result.1 (g.K.Sink.held c.args.sink.now) (g.K.Sink.held c.keep_session.new.sink) c.keep_session.result.0 (wanted g c) (is_wanted g c) c.keep_session.ensures.course

-- ---- help

helped : (g : _) (c : goal.After-say g) → IsAnsweredAlone (map (λ word. string_bytes word) c.args.words.now) (g.S.Source.left c.args.source.now) c.args.disk c.args.disk
    (g.K.Sink.held c.args.sink.now) (g.K.Sink.held c.say.new.sink) c.say.result
helped g c = (refl, (Of Fine, (help_text, inl (c.asks_for_help.ensures.0 c.if-asks_for_help.true, refl, refl), c.say.ensures.said)))

pub returns-then-asks_for_help-clause-cut : goal.returns-then-asks_for_help-clause-cut
returns-then-asks_for_help-clause-cut g c = λ mishap. inr (before_alone g.D.Disk.tells g.D.Disk.moment g.D.Disk.image g.D.Disk.synced g.D.Disk.seen g.D.Disk.faults g.D.Disk.chosen g.D.Disk.file_at (map (λ word. string_bytes word) c.args.words.now) (g.S.Source.left c.args.source.now)
    c.args.disk c.args.disk (g.K.Sink.held c.args.sink.now) (g.K.Sink.held c.say.new.sink) c.say.result (helped g c))

pub returns-then-asks_for_help-clause-taken : goal.returns-then-asks_for_help-clause-taken
returns-then-asks_for_help-clause-taken g c = λ path steps call plain. absurd (plain (c.asks_for_help.ensures.0 c.if-asks_for_help.true))

-- ---- words that are no call

pub returns-in_default-clause-taken : goal.returns-in_default-clause-taken
returns-in_default-clause-taken g c = λ path steps call. absurd (c.in_default.ensures.call path steps call)

-- ---- what is refused

turned : (g : _) (c : goal.After-drop g) → IsAnsweredAlone (map (λ word. string_bytes word) c.args.words.now) (g.S.Source.left c.args.source.now) c.args.disk c.args.disk
    (g.K.Sink.held c.args.sink.now) (g.K.Sink.held c.say-status.new.sink) c.say-status.result
turned g c =
    let source = g.S.Source.left c.args.source.now in
    let output = c.in-Ok-Refused.output in
    let looked = subst (λ (l : Looked). IsLooked source l) c.in-Ok-Refused.field-0-is c.in-Ok-Refused.ensures.looked in
    let refused = subst (λ (text : List ℕ). IsRefusedBy source output.status text) (sym c.deref.ensures.value) looked in
    (refl, (Of c.in-Ok-Refused.output.status, (c.deref.result.now, inr ((λ help. let asked = c.asks_for_help.ensures.1 help in cc), inr (c.in-Some.call.path.now, (c.in-Some.call.steps, c.in-Some.ensures.call, (output.status, refl, refused)))), c.say-status.ensures.said)))

pub returns-in-Ok-Refused-clause-whole : goal.returns-in-Ok-Refused-clause-whole
returns-in-Ok-Refused-clause-whole g c = λ over. inl (turned g c)

pub returns-in-Ok-Refused-clause-cut : goal.returns-in-Ok-Refused-clause-cut
returns-in-Ok-Refused-clause-cut g c = λ mishap. inr (before_alone g.D.Disk.tells g.D.Disk.moment g.D.Disk.image g.D.Disk.synced g.D.Disk.seen g.D.Disk.faults g.D.Disk.chosen g.D.Disk.file_at (map (λ word. string_bytes word) c.args.words.now) (g.S.Source.left c.args.source.now)
    c.args.disk c.args.disk (g.K.Sink.held c.args.sink.now) (g.K.Sink.held c.say-status.new.sink) c.say-status.result (turned g c))

pub returns-in-Ok-Refused-clause-before : goal.returns-in-Ok-Refused-clause-before
returns-in-Ok-Refused-clause-before g c = λ refusal. before_alone g.D.Disk.tells g.D.Disk.moment g.D.Disk.image g.D.Disk.synced g.D.Disk.seen g.D.Disk.faults g.D.Disk.chosen g.D.Disk.file_at (map (λ word. string_bytes word) c.args.words.now) (g.S.Source.left c.args.source.now)
    c.args.disk c.args.disk (g.K.Sink.held c.args.sink.now) (g.K.Sink.held c.say-status.new.sink) c.say-status.result (turned g c)
