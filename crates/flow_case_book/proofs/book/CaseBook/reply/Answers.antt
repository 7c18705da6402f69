use Rattle.std.proofs.Common.{map}
use Rattle.flow_trail.specs.Lines.{said_of}
use Rattle.flow_trail.proofs.TellLemmas.{held_says}
use Rattle.flow_case_begin.proofs.BeginLemmas.{if_ok}
use Rattle.flow_case_book.proofs.BookLemmas.{on_err}
use Rattle.flow_case_book.proofs.book.CaseBook.reply.Goals as goal

pub returns-in_err-number_of-clause-lines : goal.returns-in_err-number_of-clause-lines
returns-in_err-number_of-clause-lines g c = λ told whole file i.
    let k = c.args.self.now.case in
    let t = k.trail in
    held_says t.start (map said_of t.lines.items) t.place (g.T.Disk.seen t.disk) (g.T.Disk.image t.disk (g.T.Disk.moment t.disk)) t.in_order (t.held told (k.told whole)) file i

pub returns-then-history-before-clause-lines : goal.returns-then-history-before-clause-lines
returns-then-history-before-clause-lines g c = λ told whole file i.
    let k = c.respond-reply.new.book.case in
    let t = k.trail in
    held_says t.start (map said_of t.lines.items) t.place (g.T.Disk.seen t.disk) (g.T.Disk.image t.disk (g.T.Disk.moment t.disk)) t.in_order (t.held told (k.told whole)) file i

pub returns-else-history-before-clause-lines : goal.returns-else-history-before-clause-lines
returns-else-history-before-clause-lines g c = λ told whole file i.
    let k = c.respond-reply.new.book.case in
    let t = k.trail in
    held_says t.start (map said_of t.lines.items) t.place (g.T.Disk.seen t.disk) (g.T.Disk.image t.disk (g.T.Disk.moment t.disk)) t.in_order (t.held told (k.told whole)) file i

pub returns-then-history-before-clause-means : goal.returns-then-history-before-clause-means
returns-then-history-before-clause-means g c =
    if_ok c.respond-reply.result _ _ (λ reply h. (c.in_ok-number_of.field-0, c.in_ok-number_of.ensures.speaks, h)) c.respond-reply.ensures.means

pub returns-then-history-before-clause-begins : goal.returns-then-history-before-clause-begins
returns-then-history-before-clause-begins g c = on_err c.respond-reply.result _ _ (λ h. (c.in_ok-number_of.field-0, h)) c.respond-reply.ensures.begins

pub returns-else-history-before-clause-means : goal.returns-else-history-before-clause-means
returns-else-history-before-clause-means g c =
    if_ok c.respond-reply.result _ _ (λ reply h. (c.in_ok-number_of.field-0, c.in_ok-number_of.ensures.speaks, h)) c.respond-reply.ensures.means

pub returns-else-history-before-clause-begins : goal.returns-else-history-before-clause-begins
returns-else-history-before-clause-begins g c = on_err c.respond-reply.result _ _ (λ h. (c.in_ok-number_of.field-0, h)) c.respond-reply.ensures.begins
