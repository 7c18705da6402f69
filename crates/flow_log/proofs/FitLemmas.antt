-- What is told of the events, by the points of a search that has gone through all of them.
use Rattle.std.proofs.Common.{◌≡◌, ◌<◌, ◌≤◌, ◌+◌, ℕ, IsTrue, List, [], ◌∷◌, ◌++◌, length, take, drop, get_or, Option, Some, None, slice_get, refl, sym, ap, ◌∙◌, subst, arith, inl, inr}
use Rattle.std.proofs.lemmas.List.{append-nil, append_assoc, length-take-le, take_all, take-append-drop}
use Rattle.std.proofs.lemmas.Option.{slice_get_within, get_or_from_slice_get}
use Rattle.leaf_rows.specs.Leaves.{has_leaf}
use Rattle.flow_model.specs.declared.labels.Label.{Label}
use Rattle.flow_model.specs.Lists.{◌∈◌}
use Rattle.flow_model.specs.Facts.{event_at, events_of}
use Rattle.flow_model.specs.Resolution.{ChoiceOption}
use Rattle.flow_model.specs.Schema.{Schema}
use Rattle.flow_model.specs.Verdict.{IsPossible}
use Rattle.flow_model.proofs.Lists.{each_from_members}
use Rattle.flow_fold_laws.proofs.FoldedOrdersByTwo.{same_folded_ready}
use Rattle.flow_plan.specs.Options.{AreJustThose, options_of}
use Rattle.flow_residual.specs.Options.{SomeOption}
use Rattle.flow_residual.proofs.FoldedSteps.{ready_at}
use Rattle.flow_residual.proofs.OptionLemmas.{some_at}
use Rattle.flow_trace.specs.Fronts.{Follows}
use Rattle.flow_trace.proofs.TraceLemmas.{followed, finished, begun_within, begun_few}
use Rattle.flow_workflow.specs.Definition.{schema_of}
use Rattle.flow_log.specs.declared.case.Case.{Case}
use Rattle.flow_log.specs.declared.point.Point.{Point}
use Rattle.flow_log.specs.Case.{Fitted, IsBegun, IsKept, fitted_of}
use Rattle.flow_log.specs.Fits.{IsExecutionOf, IsFrontOf, FitsWhole, FitsUpTo, BeginInWays}
use Rattle.flow_log.specs.Search.{LeadsTo, AreLed, Knows, ArePassed, AreShort, IsEnd}
use Rattle.flow_log.proofs.BeginLemmas.{begun_none, begun_once, begun_front}
use Rattle.flow_log.proofs.OnceLemmas.{events_silent, events_event}
use Rattle.flow_log.proofs.PointLemmas.{place_of, there_at}

-- ---- where every leaf is tried from every point, every list that begins so is known

module _ {w : ℕ} (f : Fitted) (points : List (Point w)) (lists : List (List ℕ)) (led : AreLed f points lists) (passed : ArePassed f points (length points))
    (j : ℕ) (o : ChoiceOption) (at : slice_get f.options j ≡ Some o) where
  onward : (b a : List ℕ) (had count : ℕ) → Knows f points j a had → IsBegun f a had → Follows (a ++ b) o → IsBegun f (a ++ b) count → Knows f points j (a ++ b) count
  onward [] a had count known begun run more =
      subst (λ (l : List ℕ). Knows f points j l count) (sym (append-nil a))
      (subst (Knows f points j a) (begun_once f a had count begun (subst (λ (l : List ℕ). IsBegun f l count) (append-nil a) more)) known)
  onward (n ∷ b) a had count known begun run more =
      let split : (a ++ n ∷ []) ++ b ≡ a ++ n ∷ b = append_assoc a (n ∷ []) b in
      let more' : IsBegun f ((a ++ n ∷ []) ++ b) count = subst (λ (l : List ℕ). IsBegun f l count) (sym split) more in
      let run' : Follows ((a ++ n ∷ []) ++ b) o = subst (λ (l : List ℕ). Follows l o) (sym split) run in
      let (next, step) = begun_front f (a ++ n ∷ []) b count more' in
      let ready = same_folded_ready o.resolution o.order (λ x. x ∈ a) (λ x. IsTrue (has_leaf known.point.done x)) n (λ x. (known.after.done x).1) (λ x. (known.after.done x).0)
      (ready_at o.resolution o.order a n b run) in
      let mine : IsBegun f a known.point.count = subst (IsBegun f a) (sym known.counted) begun in
      let here : Knows f points j (a ++ n ∷ []) next =
      passed known.place known.point n (slice_get_within points known.place known.point known.there) known.there j o a next known.option at known.after mine ready step in
      subst (λ (l : List ℕ). Knows f points j l count) split (onward b (a ++ n ∷ []) next count here step run' more')

  -- the first point
  known_none : Knows f points j [] 0
  known_none =
      let there = there_at points 0 (omega (arith, slice_get_within lists 0 [] led.first, led.one_each)) in
      let leads = led.each 0 there.0 [] there.1 led.first in record {
        place = 0;
        point = there.0;
        there = there.1;
        option = led.whole there.0 there.1 j (slice_get_within f.options j o at);
        counted = begun_once f [] there.0.count 0 leads.begun (begun_none f);
        after = leads.after;
      }

  pub all_known : (list : List ℕ) (count : ℕ) → Follows list o → IsBegun f list count → Knows f points j list count
  all_known list count run begun = onward list [] 0 count known_none (begun_none f) run begun

-- ---- in the words of the workflow

-- a list has no more events than leaves
one_at_most : (labels : List Label) (n : ℕ) (l : List ℕ) (e : Option ℕ) → event_at labels n ≡ e → length (events_of labels l) ≤ length l → length (events_of labels (n ∷ l)) ≤ length (n ∷ l)
one_at_most labels n l None is few = omega (arith, few, ap length (events_silent labels n l is))
one_at_most labels n l (Some e) is few = omega (arith, few, ap length (events_event labels n e l is))

fewer : (labels : List Label) (l : List ℕ) → length (events_of labels l) ≤ length l
fewer labels [] = omega arith
fewer labels (n ∷ l) = one_at_most labels n l (event_at labels n) refl (fewer labels l)

module _ (c : Case) (kept : IsKept c) where
  abbrev f : Fitted
  f = fitted_of c

  abbrev w : Schema
  w = schema_of c.workflow.now

  abbrev os : List ChoiceOption
  os = options_of c.plans.now

  pub possible_of : {v : ℕ} (list : List ℕ) (p : Point v) → LeadsTo f list p → IsPossible w list
  possible_of list p leads =
      let (j, option) = leads.some in
      ((followed w kept.well_formed os kept.plans list).0 (some_at (Follows list) os j (leads.follows j option)), leads.begun.runs)

  pub few_events : {v : ℕ} (list : List ℕ) (p : Point v) → LeadsTo f list p → p.count ≤ length w.labels
  few_events list p leads =
      let most : length list ≤ length w.labels = begun_few w kept.well_formed list (possible_of list p leads).0 in
      let few : length (events_of w.labels list) ≤ length list = fewer w.labels list in
      let is = ap length leads.begun.events_are in
      omega (arith, most, few, is, length-take-le p.count f.events leads.begun.within)

  begun_of : (list : List ℕ) (count : ℕ) → count ≤ length f.events → IsPossible w list → events_of w.labels list ≡ take count f.events → IsBegun f list count
  begun_of list count within possible events = record { leaves_are = begun_within w kept.well_formed list possible.0; runs = possible.1; within = within; events_are = events }

  events_all : take (length f.events) f.events ≡ f.events
  events_all = take_all (length f.events) f.events (omega arith)

  module _ {v : ℕ} (points : List (Point v)) (lists : List (List ℕ)) (led : AreLed f points lists) where
    -- an end
    pub told_whole : (list : List ℕ) (p : Point v) → LeadsTo f list p → IsEnd f p → IsExecutionOf w f.events list
    told_whole list p leads end = (
      ((finished w kept.well_formed os kept.plans list).0 (end.1 list leads), leads.begun.runs),
      leads.begun.events_are ∙ ap (λ n. take n f.events) end.0 ∙ events_all,
    )

    -- the budget is spent
    pub told_spent : (budget : ℕ) → budget ≤ length points → BeginInWays w f.events budget
    told_spent budget spent = record {
      lists = lists;
      many = omega (arith, led.one_each, spent);
      different = led.different;
      each = each_from_members _ lists (λ list m.
          let (i, at) = place_of lists list m in
          let (p, there) = there_at points i (omega (arith, slice_get_within lists i list at, led.one_each)) in
          let leads = led.each i p list there at in
          (possible_of list p leads, (drop p.count f.events, sym (take-append-drop p.count f.events) ∙ ap (λ (l : List ℕ). l ++ drop p.count f.events) (sym leads.begun.events_are))));
    }

    -- all are gone through
    module _ (passed : ArePassed f points (length points)) (furthest : ℕ) (short : AreShort f points (length points) furthest) where
      known_in : (list : List ℕ) (count : ℕ) → IsBegun f list count → SomeOption (Follows list) os → (j : ℕ) × Knows f points j list count
      known_in list count begun (o, m, run) = let (j, at) = place_of os o m in (j, all_known f points lists led passed j o at list count run begun)

      pub not_whole : ¬ (FitsWhole w f.events)
      not_whole (list, ((good, runs), events)) =
          let (o, m, whole) = (finished w kept.well_formed os kept.plans list).1 good in
          let (j, at) = place_of os o m in
          let begun = begun_of list (length f.events) (omega arith) ((list, good, ([], sym (append-nil list))), runs) (events ∙ sym events_all) in
          let known = all_known f points lists led passed j o at list (length f.events) whole.0 begun in
          short.no_end known.place known.point (slice_get_within points known.place known.point known.there) known.there j list known.option known.after known.counted (o, at, whole)

      not_more : (list : List ℕ) (count : ℕ) → count ≤ length f.events → IsPossible w list → events_of w.labels list ≡ take count f.events → count ≤ short.best.count
      not_more list count within possible events =
          let begun = begun_of list count within possible events in
          let (j, known) = known_in list count begun ((followed w kept.well_formed os kept.plans list).1 possible.0) in
          let most = short.most known.place known.point (slice_get_within points known.place known.point known.there) known.there in
          omega (arith, most, known.counted)

      module _ (list : List ℕ) (leads : LeadsTo f list short.best) where
        pub told_front : short.best.count ≡ length f.events → IsFrontOf w f.events list
        told_front all = (possible_of list short.best leads, leads.begun.events_are ∙ ap (λ n. take n f.events) all ∙ events_all)

        pub told_upto : short.best.count < length f.events → FitsUpTo w f.events short.best.count
        told_upto less = record {
          within = less;
          fits = (list, (possible_of list short.best leads, leads.begun.events_are));
          no_longer = λ (other, (possible, events)). let more = not_more other (short.best.count + 1) (omega (arith, less)) possible events in omega (arith, more);
        }

-- options with an execution are no more than all
pub kept_few : {A : Type 0} (P : A → Type 0) (xs ys : List A) → AreJustThose P xs ys → length ys ≤ length xs
kept_few P [] ys is = omega (arith, ap length is)
kept_few P (x ∷ xs) ys (inl (here, (rest, is, more))) = let few = kept_few P xs rest more in omega (arith, few, ap length is)
kept_few P (x ∷ xs) ys (inr (out, more)) = let few = kept_few P xs ys more in omega (arith, few)

-- the furthest point is the one that was read
pub furthest_read : {w : ℕ} (f : Fitted) (points : List (Point w)) (place : ℕ) (p : Point w) (short : AreShort f points (length points) place) → p ≡ get_or points place p → short.best ≡ p
furthest_read f points place p short is = sym (is ∙ get_or_from_slice_get points place short.best p short.there)
