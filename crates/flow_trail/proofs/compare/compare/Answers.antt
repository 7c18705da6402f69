use Rattle.std.proofs.Common.{◌≡◌, ◌≤◌, ◌<◌, ◌+◌, List, map, length, sym, subst, arith}
use Rattle.std.proofs.lemmas.List.{length-map}
use Rattle.flow_trail.specs.Lines.{Said, said_of}
use Rattle.flow_trail.specs.Due.{Entered, entered_of}
use Rattle.flow_trail.proofs.DueLemmas.{IsToldTo, by_nothing, by_next, by_last, by_other, by_missing}
use Rattle.flow_trail.proofs.compare.compare.Goals as goal
use Rattle.flow_trail.proofs.compare.compare.Goals.{in-Nothing, in-Expected}

pub loop-index-preserved : goal.loop-index-preserved
loop-index-preserved c =
    let ss : List Said = map said_of c.args.lines.now in
    let ds : List Entered = map entered_of c.args.due.now in
    elim c.match-tale.branch [
      | in-Nothing w ↦ subst (λ n. IsToldTo ss ds (c.loop-index.index + 1) n) (sym w.count-is) (by_nothing ss ds c.loop-index.index c.loop-index.count c.loop-index.invariant w.in-Nothing.ensures)
      | in-Expected w ↦
          let told = w.in-Expected.ensures in
          subst (λ n. IsToldTo ss ds (c.loop-index.index + 1) n) (sym w.count-is) (by_next ss ds c.loop-index.index c.loop-index.count c.loop-index.invariant told.0 told.1 told.2)
    ]

pub returns-in-Next-clause-ok : goal.returns-in-Next-clause-ok
returns-in-Next-clause-ok c = λ e.
    let told = c.in-Next.ensures in
    by_last (map said_of c.args.lines.now) (map entered_of c.args.due.now) c.loop-index.index c.loop-index.count c.loop-index.invariant told.0 told.1.0 told.1.1 told.2 e

pub returns-in-Other-clause-other : goal.returns-in-Other-clause-other
returns-in-Other-clause-other c = λ line e.
    let same : c.loop-index.index + 1 ≡ line = cc in
    let told = c.in-Other.ensures in
    by_other (map said_of c.args.lines.now) (map entered_of c.args.due.now) c.loop-index.index c.loop-index.count c.loop-index.invariant told.0 told.1 told.2 line same

pub returns-then-count-due-clause-missing : goal.returns-then-count-due-clause-missing
returns-then-count-due-clause-missing c = λ entry e.
    let same : c.loop-index.count + 1 ≡ entry = cc in
    let end : length (map said_of c.args.lines.now) ≤ c.loop-index.index = omega (arith, length-map c.args.lines.now said_of) in
    let left : c.loop-index.count < length (map entered_of c.args.due.now) = omega (arith, length-map c.args.due.now entered_of) in
    by_missing (map said_of c.args.lines.now) (map entered_of c.args.due.now) c.loop-index.index c.loop-index.count c.loop-index.invariant end left entry same
