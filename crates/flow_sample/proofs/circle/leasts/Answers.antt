use Rattle.std.proofs.Common.{◌<◌, arith, List, length, ℕ, ◌++◌, ◌∷◌, [], ◌∙◌, ap, map, sym, get_or}
use Rattle.std.proofs.lemmas.List.{take_all}
use Rattle.flow_model.specs.Lists.{Each}
use Rattle.flow_model.proofs.Lists.{each_member}
use Rattle.flow_plan.proofs.PlaceLemmas.{read_member}
use Rattle.flow_sample.specs.Rows.{least_at, least_in}
use Rattle.flow_sample.proofs.OrderLemmas.{read_more}
use Rattle.flow_sample.proofs.circle.leasts.Goals as goal

inside : (numbers : List ℕ) (n i : ℕ) → Each (λ number. number < n) numbers → i < length numbers → get_or numbers i 0 < n
inside numbers n i each there = each_member (λ number. number < n) numbers each (get_or numbers i 0) (read_member numbers i there)

pub loop-number-preserved : goal.loop-number-preserved
loop-number-preserved g c =
    c.in_ok-push.ensures.items
    ∙ ap (λ (z : List ℕ). z ++ (get_or c.args.items.now (get_or c.args.numbers.now c.loop-number.number-index 0) c.index-items-number.result).least ∷ []) c.loop-number.invariant
    ∙ sym (read_more least_in c.args.items.now c.args.numbers.now c.loop-number.number-index c.index-items-number.result c.loop-number-test.true c.requires)

pub returns : goal.returns
returns g c = c.loop-number.invariant ∙ ap (map (least_at c.args.items.now)) (take_all c.loop-number.number-index c.args.numbers.now c.loop-number-test.false)

pub bounds-items-number : goal.bounds-items-number
bounds-items-number g c = inside c.args.numbers.now (length c.args.items.now) c.loop-number.number-index c.requires c.loop-number-test.true

pub bounds-items-number-in-loop-number : goal.bounds-items-number-in-loop-number
bounds-items-number-in-loop-number g c = inside c.args.numbers.now (length c.args.items.now) c.loop-number.number-index c.requires c.loop-number-test.true

pub offset_bounds-items-number : goal.offset_bounds-items-number
offset_bounds-items-number g c =
    let within : get_or c.args.numbers.now c.loop-number.number-index 0 < length c.args.items.now = inside c.args.numbers.now (length c.args.items.now) c.loop-number.number-index c.requires c.loop-number-test.true in
    omega arith
