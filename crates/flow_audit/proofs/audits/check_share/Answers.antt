use Rattle.std.proofs.Common.{get_or, refl, rules, arith}
use Rattle.std.proofs.lemmas.Option.{slice_get-get_or}
use Rattle.flow_audit.proofs.ShareLemmas.{none_yet, one_more}
use Rattle.flow_audit.proofs.audits.check_share.Goals as goal

pub check_piece-requires-after_bounds : goal.check_piece-requires-after_bounds
check_piece-requires-after_bounds g c κs within =
    c.requires c.fetch_add-place.result _ (slice_get-get_or c.args.cuts.now c.fetch_add-place.result (0, 0) (omega arith))

pub loop-turn-init : goal.loop-turn-init
loop-turn-init g c =
    none_yet (g.C.Checker.finds c.args.checker.now) c.args.text.now c.args.cuts.now _ (search rules)

pub loop-turn-preserved : goal.loop-turn-preserved
loop-turn-preserved g c =
    one_more (g.C.Checker.finds c.args.checker.now) c.args.text.now c.args.cuts.now c.loop-turn.share.items _ c.fetch_add-place.result
    (get_or c.args.cuts.now c.fetch_add-place.result (0, 0)) c.in_ok-finding.finding refl c.loop-turn.invariant
    (slice_get-get_or c.args.cuts.now c.fetch_add-place.result (0, 0) (omega arith)) c.in_ok-finding.ensures
