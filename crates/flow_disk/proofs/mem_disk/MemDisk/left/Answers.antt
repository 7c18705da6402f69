use Rattle.std.proofs.Common.{rules, ◌≡◌, List, ℕ, IfOk, subst, sym}
use Rattle.std.proofs.lemmas.Result.{IfOk-weaker}
use Rattle.flow_disk.specs.ChangeLog.{images_of, moment_of, shown_of}
use Rattle.flow_disk.proofs.ChangeLogLemmas.{shown_image}
use Rattle.flow_disk.proofs.mem_disk.MemDisk.left.Goals as goal

pub returns-then-keep-clause-image : goal.returns-then-keep-clause-image
returns-then-keep-clause-image c =
    let log = c.args.self.now.log in
    let copied : IfOk c.to_vec.result (λ bytes. bytes.items ≡ shown_of log) = search rules in
    IfOk-weaker c.to_vec.result (λ bytes. bytes.items ≡ shown_of log) (λ bytes. images_of log (moment_of log) bytes.items)
    (λ bytes is. subst (λ (c : List ℕ). images_of log (moment_of log) c) (sym is) (shown_image log)) copied
