use Rattle.std.proofs.Common.{◌≡◌, ◌<◌, ℕ, List, Some, length, slice_get, refl, subst, rules, arith}
use Rattle.std.proofs.lemmas.Option.{slice_get_read}
use Rattle.flow_conformance.proofs.ShareLemmas.{none_yet, one_more}
use Rattle.flow_conformance.proofs.verdicts.judge_share.Goals as goal

pub loop-turn-init : goal.loop-turn-init
loop-turn-init g c =
    none_yet (g.J.Judge.judges c.args.judge.now) c.args.sequences.now _ (search rules)

pub loop-turn-preserved : goal.loop-turn-preserved
loop-turn-preserved g c =
    let Judges = g.J.Judge.judges c.args.judge.now in
    let sequences = c.args.sequences.now in
    let place = c.fetch_add-place.result in
    let events = c.index-sequences-place.result in
    let below : place < length sequences = omega arith in
    let there : slice_get sequences place ≡ Some events = slice_get_read sequences _ place events refl below c.index-sequences-place.is in
    one_more Judges sequences c.loop-turn.share.items _ place events c.in_ok-finding.finding refl c.loop-turn.invariant there
    (subst (λ (es : List ℕ). Judges es c.in_ok-finding.finding.verdict) c.deref.ensures.value c.in_ok-finding.ensures)
