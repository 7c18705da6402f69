use Rattle.std.proofs.Common.{ℕ, ◌<◌, ◌∙◌, ap, length, map, subst, sym}
use Rattle.std.proofs.lemmas.List.{length-map}
use Rattle.flow_sample.specs.Rows.{least_at}
use Rattle.flow_sample.proofs.TurningLemmas.{turned_list}
use Rattle.flow_sample.proofs.circle.circle_of.Goals as goal

pub returns : goal.returns
returns g c =
    turned_list (map (least_at c.args.items.now) c.args.ring.now) c.in_ok-leaves.leaves.items c.deref.result.now
    c.rotate_left.new.self.items c.least_place-place.result c.in_ok-leaves.ensures c.deref.ensures.value
    c.rotate_left.ensures.items c.least_place-place.ensures.within c.least_place-place.ensures.least

pub least_place-place-requires : goal.least_place-place-requires
least_place-place-requires g c =
    subst (λ (n : ℕ). 0 < n) (sym (ap length (c.deref.ensures.value ∙ c.in_ok-leaves.ensures) ∙ length-map c.args.ring.now (least_at c.args.items.now))) c.requires.some
