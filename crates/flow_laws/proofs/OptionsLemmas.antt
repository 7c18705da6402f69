-- Options: what each has, and that their executions are the good traces.
use Rattle.std.proofs.Common.{◌≢◌, ℕ, List, length, sym, subst, true, ◌↔◌, [], ◌∷◌, arith}
use Rattle.flow_model.specs.declared.labels.Label.{Label}
use Rattle.flow_model.specs.Lists.{◌∈◌, AreDistinct, Each}
use Rattle.flow_model.specs.Process.{Process, leaves}
use Rattle.flow_model.specs.Constraint.{all_of, Constraint, Always, And, Meets, conjoined}
use Rattle.flow_model.specs.Ways.{normal_form, leaf_of_event, ways_of}
use Rattle.flow_model.specs.Schema.{Schema, IsGood}
use Rattle.flow_model.specs.Resolution.{ChoiceOption, options, options_in, ways_in, resolutions, OptionTrace}
use Rattle.flow_model.specs.Trace.{Trace}
use Rattle.flow_model.specs.Facts.{events_of}
use Rattle.flow_laws.specs.WellFormed.{IsWellFormed, IsOrdered}
use Rattle.flow_model.proofs.MadeLists.{of_flat_map, of_map, mem-flat_map, mem-map, distinct-numbers_from}
use Rattle.flow_laws.proofs.ResolutionsLemmas.{resolves_of, choice_free_resolution, distinct_leaves_of_resolution, blocks_of_a_resolution, goal_trace}
use Rattle.flow_laws.proofs.WaysLemmas.{each_pair, leaf_of_event_is, same_event, normal_form_is, AreItsLeaves, HasWay, ways_decide}
use Rattle.flow_laws.proofs.TraceLeaves.{leaf_of_trace, leaf_in_trace}

pub option_parts : (w : Schema) (o : ChoiceOption) → o ∈ options w → (o.resolution ∈ resolutions w.goal) × (o.order ∈ ways_in w o.resolution)
option_parts w o m =
    let (q, mq, mo) = of_flat_map (options_in w) o (resolutions w.goal) m in
    let (way, mw, e) = of_map _ o (ways_in w q) mo in rw e (mq, mw)

pub distinct_leaves : (w : Schema) → IsWellFormed w → AreDistinct (leaves w.goal)
distinct_leaves w f = subst AreDistinct (sym f.numbered) (distinct-numbers_from 0 (length w.labels))

pub option_is_ordered : (w : Schema) → IsWellFormed w → (o : ChoiceOption) → o ∈ options w → IsOrdered o.resolution o.order
option_is_ordered w f o m =
    let (mq, mw) = option_parts w o m in
    let r = resolves_of w.goal o.resolution mq in
    let leaf = leaf_of_event w.labels (leaves o.resolution) in
    record {
      choice_free = choice_free_resolution w.goal o.resolution r;
      distinct = distinct_leaves_of_resolution w.goal o.resolution r (distinct_leaves w f);
      of_leaves = each_pair (λ pair. (pair.0 ∈ leaves o.resolution) × (pair.1 ∈ leaves o.resolution)) leaf
          (λ a b x y d i j. ((leaf_of_event_is w.labels (leaves o.resolution) a x i).0, (leaf_of_event_is w.labels (leaves o.resolution) b y j).0))
          (normal_form (all_of w.rules) true) o.order mw;
      different = each_pair (λ pair. pair.0 ≢ pair.1) leaf
          (λ a b x y d i j e. d (same_event w.labels (leaves o.resolution) a b x y i j e))
          (normal_form (all_of w.rules) true) o.order mw;
    }

pub constraint_by_ways : (c : Constraint) (labels : List Label) (t ls : List ℕ) → AreItsLeaves labels t ls →
    Meets c (events_of labels t) ↔ HasWay (ways_of c labels ls) t
constraint_by_ways c labels t ls l = grind (arith, normal_form_is c (events_of labels t), ways_decide l (normal_form c true))

pub conjoined_is : (c : Constraint) (ds : List Constraint) (events : List ℕ) →
    Meets (conjoined c ds) events ↔ (Meets c events × Each (λ d. Meets d events) ds)
conjoined_is c [] events = grind arith
conjoined_is c (d ∷ ds) events = grind (arith, conjoined_is (And c d) ds events)

pub all_of_is : (ds : List Constraint) (events : List ℕ) → Meets (all_of ds) events ↔ Each (λ d. Meets d events) ds
all_of_is ds events = grind (arith, conjoined_is Always ds events)

-- an execution of a resolution has its leaves, and no event twice
pub has_its_leaves : (w : Schema) → IsWellFormed w → (q : Process) → q ∈ resolutions w.goal → (t : List ℕ) → Trace q t → AreItsLeaves w.labels t (leaves q)
has_its_leaves w f q m t h =
    let free = choice_free_resolution w.goal q (resolves_of w.goal q m) in
    record { distinct = f.unique t (goal_trace w.goal q m t h); same = λ n. (leaf_of_trace q t h n, leaf_in_trace q free t h n) }

pub option_of_good : (w : Schema) → IsWellFormed w → (t : List ℕ) → IsGood w t →
    (o : ChoiceOption) × (o ∈ options w) × OptionTrace o t
option_of_good w f t ((bs, h, e), met) =
    let (q, m, k) = blocks_of_a_resolution w.goal bs h in
    let (way, mw, s) = (constraint_by_ways (all_of w.rules) w.labels t (leaves q) (has_its_leaves w f q m t (bs, k, e))).0
    ((all_of_is w.rules (events_of w.labels t)).1 met) in
    (record { resolution = q; order = way }, mem-flat_map (options_in w) q _ (resolutions w.goal) m (mem-map _ way (ways_in w q) mw), ((bs, k, e), s))

pub option_trace_is_good : (w : Schema) → IsWellFormed w → (t : List ℕ) (o : ChoiceOption) → o ∈ options w → OptionTrace o t → IsGood w t
option_trace_is_good w f t o m (h, s) =
    let (mq, mw) = option_parts w o m in
    let met = (constraint_by_ways (all_of w.rules) w.labels t (leaves o.resolution) (has_its_leaves w f o.resolution mq t h)).1 (o.order, mw, s) in
    (goal_trace w.goal o.resolution mq t h, (all_of_is w.rules (events_of w.labels t)).0 met)
