use Rattle.std.proofs.Common.{Option, IfSome, get_or, sym, subst, arith}
use Rattle.std.proofs.lemmas.Option.{slice_get-get_or}
use Rattle.flow_audit.specs.declared.finding.Finding.{Finding}
use Rattle.flow_audit.specs.Cuts.{piece}
use Rattle.flow_audit.specs.Shares.{IsInShare}
use Rattle.flow_audit.proofs.ShareLemmas.{next_first, all_found}
use Rattle.flow_audit.proofs.audits.in_order.Goals.{in-Some, in-None+in_ok-finding-in-None}
use Rattle.flow_audit.proofs.audits.in_order.Goals as goal

pub check_piece-requires-after_bounds : goal.check_piece-requires-after_bounds
check_piece-requires-after_bounds g c κs within =
    c.requires.cuts c.loop-place.place _ (slice_get-get_or c.args.cuts.now c.loop-place.place (0, 0) (omega arith))

pub loop-place-preserved : goal.loop-place-preserved
loop-place-preserved g c =
    let Finds = g.C.Checker.finds c.args.checker.now in
    let text = c.args.text.now in
    let cuts = c.args.cuts.now in
    let place = c.loop-place.place in
    let cut = get_or cuts place (0, 0) in
    let there = slice_get-get_or cuts place (0, 0) c.loop-place-test.true in
    let finds : Finds (piece text cut) c.match-branch-3.finding = elim c.match-branch-3.branch [
      | in-Some w ↦
          let is : IsInShare c.args.shares.now place w.in-Some.finding = subst (λ (o : Option Finding). IfSome o (IsInShare c.args.shares.now place)) w.in-Some.is c.in_ok-finding.ensures in
          subst (λ (f : Finding). Finds (piece text cut) f) (sym w.finding-is)
          ((c.requires.shares is.worker is.share is.of_worker).each place cut w.in-Some.finding there is.found)
      | in-None+in_ok-finding-in-None w ↦ subst (λ (f : Finding). Finds (piece text cut) f) (sym w.finding-is) w.in_ok-finding-in-None.ensures
    ] in
    next_first Finds text cuts place c.loop-place.all.items c.push.new.self.items cut c.match-branch-3.finding c.in_ok-push.ensures.items c.loop-place.invariant there finds

pub returns : goal.returns
returns g c =
    all_found (g.C.Checker.finds c.args.checker.now) c.args.text.now c.args.cuts.now c.loop-place.place c.loop-place.all.items (omega arith) c.loop-place.invariant
