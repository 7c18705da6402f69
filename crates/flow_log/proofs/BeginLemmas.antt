-- Lists of leaves that begin so, one leaf more or less.
use Rattle.std.proofs.Common.{◌≡◌, ◌<◌, ◌⊎◌, ◌↔◌, ◌||◌, ◌==◌, ℕ, zero, suc, IsTrue, List, [], ◌∷◌, ◌++◌, length, take, Some, slice_get, refl, sym, ap, ◌∙◌, subst, arith, length-append, inl, inr, ⊎_elim}
use Rattle.std.proofs.lemmas.Bool.{cases_eq}
use Rattle.std.proofs.lemmas.List.{length-take-le}
use Rattle.std.proofs.lemmas.List.Elements.{filter_map-append}
use Rattle.std.proofs.lemmas.Option.{slice_get_within}
use Rattle.flow_model.specs.declared.labels.Label.{Label}
use Rattle.flow_model.specs.declared.labels.Label.TheVariants.{Event, Test, Absent, Ins, Del}
use Rattle.flow_model.specs.Lists.{◌∈◌}
use Rattle.flow_model.specs.Facts.{State, Holds, HoldsAt, after, after_leaf, replay, Runs, event_at, events_of}
use Rattle.flow_model.specs.Schema.{start_of}
use Rattle.flow_model.proofs.Lists.{each-append, each_parts, mem-append, mem_append_left, mem_append_right, only_one}
use Rattle.flow_laws.proofs.SoundStates.{runs-append, runs_front}
use Rattle.leaf_rows.specs.Leaves.{has_leaf}
use Rattle.flow_log.specs.declared.point.Point.{Point}
use Rattle.flow_log.specs.Case.{Fitted, IsBegun, AreFacts, CountsTo, event_list}
use Rattle.flow_log.specs.Search.{IsAfter}

-- the state after one leaf more
pub replay_more : (labels : List Label) (s : State) (a : List ℕ) (n : ℕ) → replay labels s (a ++ n ∷ []) ≡ after_leaf labels (replay labels s a) n
replay_more labels s [] n = refl
replay_more labels s (m ∷ a) n = replay_more labels (after_leaf labels s m) a n

pub runs_back : (labels : List Label) (s : State) (a b : List ℕ) → Runs labels s (a ++ b) → Runs labels (replay labels s a) b
runs_back labels s [] b h = h
runs_back labels s (n ∷ a) b (h, t) = runs_back labels (after_leaf labels s n) a b t

-- the events of one leaf
events_of_one : (labels : List Label) (n : ℕ) (label : Label) → slice_get labels n ≡ Some label → events_of labels (n ∷ []) ≡ event_list label
events_of_one labels n (Event e) at = rw at refl
events_of_one labels n (Test f) at = rw at refl
events_of_one labels n (Absent f) at = rw at refl
events_of_one labels n (Ins f) at = rw at refl
events_of_one labels n (Del f) at = rw at refl

-- the label at a leaf holds, and leaves its state
pub holds_at : (labels : List Label) (s : State) (n : ℕ) (label : Label) → slice_get labels n ≡ Some label → HoldsAt labels s n ↔ Holds s label
holds_at labels s n label at = (λ h. rw at at h, λ h. rw at h)

pub after_at : (labels : List Label) (s : State) (n : ℕ) (label : Label) → slice_get labels n ≡ Some label → after_leaf labels s n ≡ after s label
after_at labels s n label at = rw at refl

module _ (f : Fitted) (list : List ℕ) (n : ℕ) (label : Label) (at : slice_get f.schema.labels n ≡ Some label) where
  abbrev labels : List Label
  labels = f.schema.labels

  abbrev now : State
  now = replay labels (start_of f.schema) list

  events_more : events_of labels (list ++ n ∷ []) ≡ events_of labels list ++ event_list label
  events_more = filter_map-append (event_at labels) list (n ∷ []) ∙ ap (λ (l : List ℕ). events_of labels list ++ l) (events_of_one labels n label at)

  -- one leaf more
  pub begun_more : (count next : ℕ) → IsBegun f list count → Holds now label → CountsTo f.events count label next → IsBegun f (list ++ n ∷ []) next
  begun_more count next begun holds counts = record {
    leaves_are = each-append (λ m. m < length labels) list (n ∷ []) begun.leaves_are (slice_get_within labels n label at, tt);
    runs = runs-append labels (start_of f.schema) list (n ∷ []) begun.runs ((holds_at labels now n label at).1 holds, tt);
    within = counts.within;
    events_are = events_more ∙ ap (λ (l : List ℕ). l ++ event_list label) begun.events_are ∙ sym counts.is;
  }

  -- and one less
  pub begun_holds : (next : ℕ) → IsBegun f (list ++ n ∷ []) next → Holds now label
  begun_holds next begun = (holds_at labels now n label at).0 (runs_back labels (start_of f.schema) list (n ∷ []) begun.runs).0

  pub begun_counts : (count next : ℕ) → IsBegun f list count → IsBegun f (list ++ n ∷ []) next → CountsTo f.events count label next
  begun_counts count next one more = record {
    within = more.within;
    is = sym more.events_are ∙ events_more ∙ ap (λ (l : List ℕ). l ++ event_list label) one.events_are;
  }

  state_more : replay labels (start_of f.schema) (list ++ n ∷ []) ≡ after now label
  state_more = replay_more labels (start_of f.schema) list n ∙ after_at labels now n label at

  -- what is done and which facts hold, after one leaf more
  pub after_more : {w : ℕ} (p q : Point w) → IsAfter f list p → ((m : ℕ) → has_leaf q.done m ≡ (m == n || has_leaf p.done m)) →
      AreFacts labels f.places (after now label) (has_leaf q.facts) → IsAfter f (list ++ n ∷ []) q
  after_more p q is done facts = record {
    done = λ m. (
      λ h. ⊎_elim (λ e. subst (λ k. k ∈ (list ++ n ∷ [])) (sym e) (mem_append_right n list (n ∷ []) (inl refl)))
          (λ old. mem_append_left m list (n ∷ []) ((is.done m).0 old)) (either m (sym (done m) ∙ h)),
      λ there. done m ∙ ⊎_elim (λ old. let had = (is.done m).1 old in grind (arith, had)) (λ e. let same = only_one m n e in grind (arith, same)) (mem-append m list (n ∷ []) there),
    );
    facts = subst (λ (s : State). AreFacts labels f.places s (has_leaf q.facts)) (sym state_more) facts;
  }
    where
      either : (m : ℕ) → IsTrue (m == n || has_leaf p.done m) → (m ≡ n) ⊎ IsTrue (has_leaf p.done m)
      either m h = elim (cases_eq m n) [ inl e ↦ inl e | inr other ↦ inr (grind (arith, h, other)) ]

-- the empty list
pub begun_none : (f : Fitted) → IsBegun f [] 0
begun_none f = record { leaves_are = tt; runs = tt; within = omega arith; events_are = refl }

-- a list has one number of events
pub begun_once : (f : Fitted) (list : List ℕ) (one other : ℕ) → IsBegun f list one → IsBegun f list other → one ≡ other
begun_once f list one other a b =
    sym (length-take-le one f.events a.within) ∙ ap length (sym a.events_are ∙ b.events_are) ∙ length-take-le other f.events b.within

-- a front of what begins so begins so
pub begun_front : (f : Fitted) (list back : List ℕ) (next : ℕ) → IsBegun f (list ++ back) next → (count : ℕ) × IsBegun f list count
begun_front f list back next more = (
  length (events_of f.schema.labels list),
  record {
    leaves_are = (each_parts (λ m. m < length f.schema.labels) list back more.leaves_are).0;
    runs = runs_front f.schema.labels (start_of f.schema) list back more.runs;
    within = omega (arith, more.within, ap length split, length-append (events_of f.schema.labels list) (events_of f.schema.labels back), length-take-le next f.events more.within);
    events_are = front_taken (events_of f.schema.labels list) (events_of f.schema.labels back) next f.events split;
  },
)
  where
    split : events_of f.schema.labels list ++ events_of f.schema.labels back ≡ take next f.events
    split = sym (filter_map-append (event_at f.schema.labels) list back) ∙ more.events_are

    front_taken : (a b : List ℕ) (k : ℕ) (es : List ℕ) → a ++ b ≡ take k es → a ≡ take (length a) es
    front_taken [] b k es e = refl
    front_taken (x ∷ a) b zero es e = absurd (cc)
    front_taken (x ∷ a) b (suc k) [] e = absurd (cc)
    front_taken (x ∷ a) b (suc k) (y ∷ es) e = let same : x ≡ y = cc in let rest : a ++ b ≡ take k es = cc in let more = front_taken a b k es rest in cc
