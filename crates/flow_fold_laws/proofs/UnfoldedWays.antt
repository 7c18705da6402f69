-- The ways of a constraint over the leaves outside choices are those over the leaves of any unfolding.
use Rattle.std.proofs.Common.{◌≡◌, ℕ, Bool, true, false, List, ◌++◌, find, inl, inr, ⊎_elim, refl, sym, ◌∙◌, true≢false}
use Rattle.std.proofs.lemmas.Bool.{cases_Bool}
use Rattle.std.proofs.lemmas.List.Folds.{find-append}
use Rattle.std.specs.Option.{option_or}
use Rattle.flow_model.specs.Lists.{◌∈◌}
use Rattle.flow_model.specs.Process.{Process, Empty, Task, Sequence, Parallel, Choice, Isolated, leaves, IsChoiceFree}
use Rattle.flow_model.specs.Facts.{event_at, is_event}
use Rattle.flow_model.specs.Constraint.{Constraint, all_of}
use Rattle.flow_model.specs.Ways.{normal_form, ways_of, leaf_of_event}
use Rattle.flow_model.specs.Schema.{Schema}
use Rattle.flow_model.specs.Folding.{named_events, fixed_leaves, KeepsNamedApart}
use Rattle.flow_model.proofs.Lists.{each_from_members}
use Rattle.flow_model.proofs.MadeLists.{found_none, none_passes}
use Rattle.flow_laws.specs.Resolutions.{Resolves}
use Rattle.flow_laws.proofs.ResolutionsLemmas.{mem-leaves_of_goal, choice_free_resolution}
use Rattle.flow_laws.proofs.FoldingLemmas.{FoldsTo, may_stay}
use Rattle.flow_fold_laws.proofs.NamedEvents.{events_of_normal_form, same_ways, named_leaf}

-- The leaf of a named event

-- no leaf in a choice passes the test
abbrev NoneInChoices : (ℕ → Bool) → Process → Type 0
NoneInChoices apart Empty = Unit {0}
NoneInChoices apart (Task n) = Unit {0}
NoneInChoices apart (Sequence a b) = NoneInChoices apart a × NoneInChoices apart b
NoneInChoices apart (Parallel a b) = NoneInChoices apart a × NoneInChoices apart b
NoneInChoices apart (Choice a b) = (n : ℕ) → n ∈ (leaves a ++ leaves b) → apart n ≡ false
NoneInChoices apart (Isolated a) = NoneInChoices apart a

none_where_no_choice : (apart : ℕ → Bool) (q : Process) → IsChoiceFree q → NoneInChoices apart q
none_where_no_choice apart (Sequence a b) (h, k) = (none_where_no_choice apart a h, none_where_no_choice apart b k)
none_where_no_choice apart (Parallel a b) (h, k) = (none_where_no_choice apart a h, none_where_no_choice apart b k)
none_where_no_choice apart (Choice a b) free = absurd free
none_where_no_choice apart (Isolated a) free = none_where_no_choice apart a free
none_where_no_choice apart leaf free = tt

none_in_choices : (apart : ℕ → Bool) (g q : Process) → FoldsTo apart g q → NoneInChoices apart q
none_in_choices apart (Sequence a b) q (x, y, hx, hy, e) = rw e (none_in_choices apart a x hx, none_in_choices apart b y hy)
none_in_choices apart (Parallel a b) q (x, y, hx, hy, e) = rw e (none_in_choices apart a x hx, none_in_choices apart b y hy)
none_in_choices apart (Choice a b) q (inl (stays, e)) = rw e (none_passes apart (leaves a ++ leaves b) (may_stay apart a b stays).none_apart)
none_in_choices apart (Choice a b) q (inr (goes, h)) = ⊎_elim (none_in_choices apart a q) (none_in_choices apart b q) h
none_in_choices apart (Isolated a) q (x, h, e) = rw e (none_where_no_choice apart x (choice_free_resolution a x h))
none_in_choices apart leaf q e = rw e tt

found_in_halves : (test : ℕ → Bool) (a b x y : List ℕ) → find test x ≡ find test a → find test y ≡ find test b → find test (x ++ y) ≡ find test (a ++ b)
found_in_halves test a b x y e k = find-append test x y ∙ ((λ i. option_or (e i) (k i)) ∙ sym (find-append test a b))

-- the first leaf of an unfolding that passes a test is found outside choices
found_outside : (apart test : ℕ → Bool) → ((n : ℕ) → test n ≡ true → apart n ≡ true) → (q u : Process) → NoneInChoices apart q → Resolves q u →
    find test (leaves u) ≡ find test (fixed_leaves q)
found_outside apart test keeps (Sequence a b) u none (x, y, hx, hy, e) = rw e (found_in_halves test (fixed_leaves a) (fixed_leaves b) (leaves x) (leaves y)
    (found_outside apart test keeps a x none.0 hx) (found_outside apart test keeps b y none.1 hy))
found_outside apart test keeps (Parallel a b) u none (x, y, hx, hy, e) = rw e (found_in_halves test (fixed_leaves a) (fixed_leaves b) (leaves x) (leaves y)
    (found_outside apart test keeps a x none.0 hx) (found_outside apart test keeps b y none.1 hy))
found_outside apart test keeps (Choice a b) u none r = found_none test (leaves u) (λ n m. fails n (none n (mem-leaves_of_goal (Choice a b) u r n m)))
  where
    fails : (n : ℕ) → apart n ≡ false → test n ≡ false
    fails n e = ⊎_elim (λ t. absurd (true≢false (sym (keeps n t) ∙ e))) (λ f. f) (cases_Bool (test n))
found_outside apart test keeps (Isolated a) u none (x, h, e) = rw e (found_outside apart test keeps a x none h)
found_outside apart test keeps leaf u none e = rw e refl

-- the ways of a constraint that names no other events
pub ways_unfold : (apart : ℕ → Bool) (w : Schema) → KeepsNamedApart apart w → (c : Constraint) →
    ((e : ℕ) → e ∈ named_events c → e ∈ named_events (all_of w.rules)) → (q u : Process) → FoldsTo apart w.goal q → Resolves q u →
    ways_of c w.labels (leaves u) ≡ ways_of c w.labels (fixed_leaves q)
ways_unfold apart w keeps c named q u h r =
    same_ways (leaf_of_event w.labels (leaves u)) (leaf_of_event w.labels (fixed_leaves q)) (normal_form c true)
    (events_of_normal_form (λ e. leaf_of_event w.labels (leaves u) e ≡ leaf_of_event w.labels (fixed_leaves q) e) c (each_from_members _ (named_events c)
    (λ e m. found_outside apart (λ n. is_event e (event_at w.labels n)) (λ n t. keeps n (named_leaf (all_of w.rules) w.labels e n (named e m) t)) q u (none_in_choices apart w.goal q h) r))).0
