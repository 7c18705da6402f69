-- Nothing else could be told.
use Rattle.std.proofs.Common.{◌≡◌, ◌<◌, ◌≤◌, ◌+◌, ℕ, zero, suc, List, [], ◌∷◌, ◌++◌, length, take, Option, Some, None, Result, Ok, Err, IfOk, refl, sym, ap, ◌∙◌, subst, arith, inl, inr, le_antisymm}
use Rattle.std.specs.Prelude.{slice_index}
use Rattle.std.specs.List.{filter_map}
use Rattle.std.specs.declared.alloc.AllocError.{AllocError}
use Rattle.std.proofs.lemmas.Bool.{cases_lt}
use Rattle.std.proofs.lemmas.List.{append-nil, take_all}
use Rattle.flow_model.specs.declared.labels.Label.{Label}
use Rattle.flow_model.specs.Facts.{event_at, events_of}
use Rattle.flow_model.specs.Schema.{Schema}
use Rattle.flow_model.specs.Verdict.{IsPossible}
use Rattle.flow_trace.proofs.TraceLemmas.{possible_front}
use Rattle.flow_workflow.specs.Definition.{Definition, schema_of}
use Rattle.flow_log.specs.declared.verdict.Fit.{Fit}
use Rattle.flow_log.specs.declared.verdict.Fit.TheVariants.{Execution, Front, Deviates, Unknown, Undecided}
use Rattle.flow_log.specs.Fits.{FitsWhole, FitsFront, FitsUpTo, TellsOfFit, IsOneVerdict}

-- the front of a list that has so many of its events
record Cut (labels : List Label) (list : List ℕ) (k : ℕ) : Type 0 where
  front : List ℕ
  back : List ℕ
  split : list ≡ front ++ back
  events : events_of labels front ≡ take k (events_of labels list)

-- the events of one leaf more in front
pub events_silent : (labels : List Label) (n : ℕ) (list : List ℕ) → event_at labels n ≡ None → events_of labels (n ∷ list) ≡ events_of labels list
events_silent labels n list is = filter_map_none (event_at labels) n list is
  where
    filter_map_none : (h : ℕ → Option ℕ) (n : ℕ) (list : List ℕ) → h n ≡ None → filter_map h (n ∷ list) ≡ filter_map h list
    filter_map_none h n list is = rw (is, filter_map) refl

pub events_event : (labels : List Label) (n e : ℕ) (list : List ℕ) → event_at labels n ≡ Some e → events_of labels (n ∷ list) ≡ e ∷ events_of labels list
events_event labels n e list is = filter_map_some (event_at labels) n e list is
  where
    filter_map_some : (h : ℕ → Option ℕ) (n e : ℕ) (list : List ℕ) → h n ≡ Some e → filter_map h (n ∷ list) ≡ e ∷ filter_map h list
    filter_map_some h n e list is = rw (is, filter_map) refl

cut_silent : (labels : List Label) (n : ℕ) (list : List ℕ) (k : ℕ) → event_at labels n ≡ None → Cut labels list k → Cut labels (n ∷ list) k
cut_silent labels n list k is cut = record {
  front = n ∷ cut.front;
  back = cut.back;
  split = ap (λ (l : List ℕ). n ∷ l) cut.split;
  events = events_silent labels n cut.front is ∙ cut.events ∙ ap (take k) (sym (events_silent labels n list is));
}

cut_event : (labels : List Label) (n e : ℕ) (list : List ℕ) (k : ℕ) → event_at labels n ≡ Some e → Cut labels list k → Cut labels (n ∷ list) (suc k)
cut_event labels n e list k is cut = record {
  front = n ∷ cut.front;
  back = cut.back;
  split = ap (λ (l : List ℕ). n ∷ l) cut.split;
  events = events_event labels n e cut.front is ∙ ap (λ (l : List ℕ). e ∷ l) cut.events ∙ ap (take (suc k)) (sym (events_event labels n e list is));
}

cut_one : (labels : List Label) (n : ℕ) (list : List ℕ) (k : ℕ) (e : Option ℕ) → event_at labels n ≡ e → Cut labels list k → Cut labels list (suc k) → Cut labels (n ∷ list) (suc k)
cut_one labels n list k None is one other = cut_silent labels n list (suc k) is other
cut_one labels n list k (Some e) is one other = cut_event labels n e list k is one

cut_at : (labels : List Label) (list : List ℕ) (k : ℕ) → Cut labels list k
cut_at labels [] k = record { front = []; back = []; split = refl; events = sym (take_all k [] (let none : length {A = ℕ} [] ≤ k = omega arith in none)) }
cut_at labels (n ∷ list) zero = record { front = []; back = n ∷ list; split = refl; events = refl }
cut_at labels (n ∷ list) (suc k) = cut_one labels n list k (event_at labels n) refl (cut_at labels list k) (cut_at labels list (suc k))

module _ (w : Schema) (events : List ℕ) where
  pub front_of_whole : FitsWhole w events → FitsFront w events
  front_of_whole (list, ((good, runs), is)) = (list, (((list, good, ([], sym (append-nil list))), runs), is))

  fits_less : (es : List ℕ) (k : ℕ) → FitsFront w es → FitsFront w (take k es)
  fits_less es k (list, (possible, is)) =
      let cut = cut_at w.labels list k in
      (cut.front, (possible_front w cut.front cut.back (subst (IsPossible w) cut.split possible), cut.events ∙ ap (take k) is))

  take_less : (k m : ℕ) (es : List ℕ) → k ≤ m → take k (take m es) ≡ take k es
  take_less zero m es h = refl
  take_less (suc k) zero es h = absurd (omega arith)
  take_less (suc k) (suc m) [] h = refl
  take_less (suc k) (suc m) (e ∷ es) h = ap (λ (l : List ℕ). e ∷ l) (take_less k m es (omega arith))

  no_front : (at : ℕ) → FitsUpTo w events at → ¬ (FitsFront w events)
  no_front at upto fits = upto.no_longer (fits_less events (at + 1) fits)

  at_most : (at other : ℕ) → FitsUpTo w events at → FitsUpTo w events other → at ≤ other
  at_most at other one two = elim (cases_lt other at) [
    | inl less ↦ absurd (two.no_longer (subst (FitsFront w) (take_less (other + 1) at events (omega (arith, less))) (fits_less (take at events) (other + 1) one.fits)))
    | inr most ↦ most
  ]

  pub at_once : (at other : ℕ) → FitsUpTo w events at → FitsUpTo w events other → at ≡ other
  at_once at other one two = le_antisymm (at_most at other one two) (at_most other at two one)

module _ (d : Definition) (events : List ℕ) (budget : ℕ) where
  abbrev w : Schema
  w = schema_of d

  abbrev Tells : Fit → Type 0
  Tells told = TellsOfFit d events budget told

  known_once : (at other : ℕ) → FitsUpTo w events at → FitsUpTo w events other → slice_index events at < length d.events → length d.events ≤ slice_index events other → ⊥
  known_once at other one two known not = let same = ap (slice_index events) (at_once w events at other one two) in omega (arith, known, not, same)

  pub told_once : (one other : Fit) → Tells one → Tells other → IsOneVerdict one other
  told_once Undecided other h k = tt
  told_once (Execution a) Undecided h k = tt
  told_once (Front a) Undecided h k = tt
  told_once (Deviates a) Undecided h k = tt
  told_once (Unknown a) Undecided h k = tt
  told_once (Execution a) (Execution b) h k = tt
  told_once (Execution a) (Front b) h k = k.1 (a.items, h)
  told_once (Execution a) (Deviates b) h k = no_front w events b k.0 (front_of_whole w events (a.items, h))
  told_once (Execution a) (Unknown b) h k = no_front w events b k.0 (front_of_whole w events (a.items, h))
  told_once (Front a) (Execution b) h k = h.1 (b.items, k)
  told_once (Front a) (Front b) h k = tt
  told_once (Front a) (Deviates b) h k = no_front w events b k.0 (a.items, h.0)
  told_once (Front a) (Unknown b) h k = no_front w events b k.0 (a.items, h.0)
  told_once (Deviates a) (Execution b) h k = no_front w events a h.0 (front_of_whole w events (b.items, k))
  told_once (Deviates a) (Front b) h k = no_front w events a h.0 (b.items, k.0)
  told_once (Deviates a) (Deviates b) h k = at_once w events a b h.0 k.0
  told_once (Deviates a) (Unknown b) h k = known_once a b h.0 k.0 h.1 k.1
  told_once (Unknown a) (Execution b) h k = no_front w events a h.0 (front_of_whole w events (b.items, k))
  told_once (Unknown a) (Front b) h k = no_front w events a h.0 (b.items, k.0)
  told_once (Unknown a) (Deviates b) h k = known_once b a k.0 h.0 k.1 h.1
  told_once (Unknown a) (Unknown b) h k = at_once w events a b h.0 k.0

-- of what a call gave
pub all_once : (d : Definition) (events : List ℕ) (budget : ℕ) (r : Result Fit AllocError) → IfOk r (TellsOfFit d events budget) →
    IfOk r (λ one. (other : Fit) → TellsOfFit d events budget other → IsOneVerdict one other)
all_once d events budget (Ok one) h = λ other k. told_once d events budget one other h k
all_once d events budget (Err e) h = tt
