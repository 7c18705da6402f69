use Rattle.std.proofs.Common.{◌≡◌, ℕ, List, Option, IfSome, refl, sym, subst, ◌∙◌, arith, Vec, Global}
use Rattle.std.proofs.lemmas.Option.{slice_get_read}
use Rattle.flow_conformance.specs.declared.cause.Finding.{Finding}
use Rattle.flow_conformance.specs.Shares.{IsInShare}
use Rattle.flow_conformance.proofs.ShareLemmas.{next_first, all_found, some_same}
use Rattle.flow_conformance.proofs.verdicts.in_order.Goals.{in-Some, in-None+in_ok-finding-in-None}
use Rattle.flow_conformance.proofs.verdicts.in_order.Goals as goal

pub loop-place-preserved : goal.loop-place-preserved
loop-place-preserved g c =
    let Judges = g.J.Judge.judges c.args.judge.now in
    let sequences = c.args.sequences.now in
    let place = c.loop-place.place in
    let below = c.loop-place-test.true in
    next_first Judges sequences place c.loop-place.all.items c.push.new.self.items c.match-branch-3.finding c.in_ok-push.ensures.items c.loop-place.invariant
    (λ events there. elim c.match-branch-3.branch [
      | in-Some w ↦
          let is : IsInShare c.args.shares.now place w.in-Some.finding = subst (λ (o : Option Finding). IfSome o (IsInShare c.args.shares.now place)) w.in-Some.is c.in_ok-finding.ensures in
          subst (λ (f : Finding). Judges events.items f.verdict) (sym w.finding-is)
          ((c.requires is.worker is.share is.of_worker).each place events w.in-Some.finding there is.found)
      | in-None+in_ok-finding-in-None w ↦
          let read = w.index-sequences-place.result in
          let same : read ≡ events = some_same read events (sym (slice_get_read sequences _ place read refl below w.index-sequences-place.is) ∙ there) in
          subst (λ (f : Finding). Judges events.items f.verdict) (sym w.finding-is)
          (subst (λ (v : Vec ℕ Global). Judges v.items w.in_ok-finding-in-None.finding.verdict) same
          (subst (λ (es : List ℕ). Judges es w.in_ok-finding-in-None.finding.verdict) w.deref.ensures.value w.in_ok-finding-in-None.ensures))
    ])

pub returns : goal.returns
returns g c =
    all_found (g.J.Judge.judges c.args.judge.now) c.args.sequences.now c.loop-place.place c.loop-place.all.items (omega arith) c.loop-place.invariant
