use Rattle.std.proofs.Common.{◌≡◌, ℕ, List, length, refl, sym, subst, ◌∙◌, arith, Vec, Global}
use Rattle.std.proofs.lemmas.Option.{slice_get_read}
use Rattle.flow_log_cli.proofs.Places.{some_same}
use Rattle.flow_log_cli.specs.Passing.{IsWay}
use Rattle.flow_log_cli.proofs.PassingLemmas.{next_way, all_ways}
use Rattle.flow_log_cli.proofs.passing.ways_of.Goals as goal

pub loop-place-preserved : goal.loop-place-preserved
loop-place-preserved c =
    let d = c.args.prepared.now.workflow in
    let sequences = c.args.sequences.now in
    let place = c.loop-place.place in
    let read = c.index-sequences-place.result in
    next_way d c.args.budget sequences place c.loop-place.ways.items c.push.new.self.items c.in_ok-way.way c.in_ok-push.ensures.items c.loop-place.invariant
    (λ events there.
    let same : read ≡ events = some_same read events (sym (slice_get_read sequences _ place read refl c.loop-place-test.true c.index-sequences-place.is) ∙ there) in
    subst (λ (v : Vec ℕ Global). IsWay d c.args.budget v.items c.in_ok-way.way.items) same
    (subst (λ (es : List ℕ). IsWay d c.args.budget es c.in_ok-way.way.items) c.deref.ensures.value c.in_ok-way.ensures))

pub returns : goal.returns
returns c =
    all_ways c.args.prepared.now.workflow c.args.budget c.args.sequences.now c.loop-place.place c.loop-place.ways.items (omega arith) c.loop-place.invariant
