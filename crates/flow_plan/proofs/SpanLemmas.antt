-- The spans of isolated parts: which are added, and that each comes once.
use Rattle.std.proofs.Common.{◌≡◌, ◌≢◌, ℕ, ◌+◌, ◌-◌, ◌<◌, ◌≤◌, zero, suc, true, false, ◌==◌, ◌&&◌, eq-eqb, eqb-true, List, [], ◌∷◌, ◌++◌, length, None, Some, slice_get, inl, inr, ◌⊎◌, ⊎_elim, refl, sym, ◌∙◌, ap, subst, arith, length-append}
use Rattle.std.proofs.lemmas.Bool.{cases_eq, and_parts, and_from}
use Rattle.flow_model.specs.Lists.{◌∈◌}
use Rattle.flow_model.specs.Process.{Process, Isolated, leaves}
use Rattle.flow_model.specs.Ready.{isolated_parts}
use Rattle.flow_model.proofs.Lists.{mem-slice_get, mem_append_left, mem_append_right, mem-append, each_member, each-append}
use Rattle.flow_model.proofs.MadeLists.{some_same}
use Rattle.flow_plan.specs.declared.span.Span.{Span}
use Rattle.flow_plan.specs.Span.{at_span, IsEarlier, IsNotAfter, AreRising, AddsSpan, AddsSpans}

-- ---- one span more

-- a span that is there is not added
pub adds_none : (span : Span) (spans : List Span) → span ∈ spans → AddsSpan span spans spans
adds_none span spans member = record { kept = λ s m. m; sound = λ s m. inl m; complete = inr member; rising = λ rising before. rising }

rising_push : (spans : List Span) (t : Span) → AreRising spans → ((s : Span) → s ∈ spans → IsEarlier s t) → AreRising (spans ++ t ∷ [])
rising_push [] t rising earlier = (tt, tt)
rising_push (s ∷ spans) t rising earlier = (
  each-append (IsEarlier s) spans (t ∷ []) rising.0 (earlier s (inl refl), tt),
  rising_push spans t rising.1 (λ r member. earlier r (inr member)),
)

-- each is the last, or earlier
at_or_earlier : (spans : List Span) (k : ℕ) (last s : Span) → Some last ≡ slice_get spans k → k + 1 ≡ length spans → AreRising spans → s ∈ spans →
    (s ≡ last) ⊎ IsEarlier s last
at_or_earlier [] k last s at end rising member = absurd member
at_or_earlier (r ∷ []) zero last s at end rising (inl same) = inl (same ∙ sym (some_same last r at))
at_or_earlier (r ∷ []) zero last s at end rising (inr none) = absurd none
at_or_earlier (r ∷ (t ∷ spans)) zero last s at end rising member = absurd (omega (arith, end))
at_or_earlier (r ∷ spans) (suc k) last s at end rising (inl same) =
    inr (subst (λ (x : Span). IsEarlier x last) (sym same) (each_member (IsEarlier r) spans rising.0 last (mem-slice_get spans k last (sym at))))
at_or_earlier (r ∷ spans) (suc k) last s at end rising (inr member) = at_or_earlier spans k last s at (omega (arith, end)) rising.1 member

-- earlier than what is not after, or not after and different
earlier_before : (s t u : Span) → IsEarlier s t → IsNotAfter t u → IsEarlier s u
earlier_before s t u first second = record {
  end = omega (arith, first.end, second.end);
  first = λ same. let st : s.end ≡ t.end = omega (arith, first.end, second.end, same) in
      omega (arith, first.first st, second.first (omega (arith, st, same)));
}

same_span : (s t : Span) → s.first ≡ t.first → s.end ≡ t.end → s ≡ t
same_span s t first end = λ i. record { first = first i; end = end i }

earlier_other : (s t : Span) → s ≢ t → IsNotAfter s t → IsEarlier s t
earlier_other s t other before = record {
  end = before.end;
  first = λ same. ⊎_elim (λ equal. absurd (other (same_span s t equal same))) (λ differs. omega (arith, before.first same, differs)) (cases_eq s.first t.first);
}

-- what a test of two spans says
pub test_same : (s t : Span) → true ≡ ((s.first == t.first) && (s.end == t.end)) → s ≡ t
test_same s t test =
    let parts = and_parts (s.first == t.first) (s.end == t.end) (sym test) in
    same_span s t (eqb-true s.first t.first parts.0) (eqb-true s.end t.end parts.1)

pub test_other : (s t : Span) → false ≡ ((s.first == t.first) && (s.end == t.end)) → s ≢ t
test_other s t test same =
    let first = eq-eqb s.first t.first (ap (λ (x : Span). x.first) same) in
    let second = eq-eqb s.end t.end (ap (λ (x : Span). x.end) same) in
    let both = and_from (s.first == t.first) (s.end == t.end) first second in absurd (cc)

pub adds_again : (span last : Span) (old : List Span) (k : ℕ) → Some last ≡ slice_get old k → last ≡ span → AddsSpan span old old
adds_again span last old k at same = record {
  kept = λ s h. h;
  sound = λ s h. inl h;
  complete = inr (subst (λ (s : Span). s ∈ old) same (mem-slice_get old k last (sym at)));
  rising = λ rising all. rising;
}

abbrev pub pushed_last : Span → List Span → Type 0
pushed_last span old = (s : Span) → AreRising old → s ∈ old → ((t : Span) → t ∈ old → IsNotAfter t span) → IsEarlier s span

pub earlier_of_last : (span last : Span) (old : List Span) (k : ℕ) → Some last ≡ slice_get old k → k + 1 ≡ length old → last ≢ span → pushed_last span old
earlier_of_last span last old k at end other s rising member all =
    let here = all last (mem-slice_get old k last (sym at)) in
    ⊎_elim (λ same. subst (λ (x : Span). IsEarlier x span) (sym same) (earlier_other last span other here))
    (λ before. earlier_before s last span before here)
    (at_or_earlier old k last s at end rising member)

some_there : (spans : List Span) (k : ℕ) → k < length spans → ¬ (None ≡ slice_get spans k)
some_there [] k within none = omega (arith, within)
some_there (s ∷ spans) zero within none = absurd (cc)
some_there (s ∷ spans) (suc k) within none = some_there spans k (omega (arith, within)) none

-- where there is no last, there is none
pub earlier_of_none : (span : Span) (old : List Span) → None ≡ slice_get old (length old - 1) → pushed_last span old
earlier_of_none span [] none s rising member all = absurd member
earlier_of_none span (t ∷ old) none s rising member all = absurd (some_there (t ∷ old) (length (t ∷ old) - 1) (omega arith) none)

-- where there is a last, it is at the end
pub end_of_last : (last : Span) (old : List Span) → Some last ≡ slice_get old (length old - 1) → (length old - 1) + 1 ≡ length old
end_of_last last [] at = absurd (cc)
end_of_last last (t ∷ old) at = omega arith

pub adds_behind : (span : Span) (old new : List Span) → new ≡ old ++ span ∷ [] → span.first + 2 ≤ span.end → pushed_last span old → AddsSpan span old new
adds_behind span old new is long earlier = record {
  kept = λ s h. subst (λ (l : List Span). s ∈ l) (sym is) (mem_append_left s old (span ∷ []) h);
  sound = λ s h. ⊎_elim (λ before. inl before) (λ last. ⊎_elim (λ same. inr (same, long)) (λ none. absurd none) last)
      (mem-append s old (span ∷ []) (subst (λ (l : List Span). s ∈ l) is h));
  complete = inr (subst (λ (l : List Span). span ∈ l) (sym is) (mem_append_right span old (span ∷ []) (inl refl)));
  rising = λ rising all. subst AreRising (sym is) (rising_push old span rising (λ s member. earlier s rising member (all long)));
}

-- ---- the spans of a goal

pub spans_of_none : (g : Process) (ns : List ℕ) (first : ℕ) (old : List Span) → isolated_parts g ≡ [] → AddsSpans g ns first old old
spans_of_none g ns first old none = record {
  kept = λ s h. h;
  sound = λ s h. inl h;
  complete = λ part member. absurd (subst (λ (l : List Process). part ∈ l) none member);
  within = λ s h. inl h;
  rising = λ rising all. rising;
}

pub spans_of_both : (g a b : Process) (ns : List ℕ) (first : ℕ) (old mid new : List Span) → leaves g ≡ leaves a ++ leaves b → isolated_parts g ≡ isolated_parts a ++ isolated_parts b →
    AddsSpans a ns first old mid → AddsSpans b ns (first + length (leaves a)) mid new → AddsSpans g ns first old new
spans_of_both g a b ns first old mid new listed parts one two =
    let long : length (leaves g) ≡ length (leaves a) + length (leaves b) = ap length listed ∙ length-append (leaves a) (leaves b) in
    let ps = isolated_parts a in
    let qs = isolated_parts b in
    let into : (part : Process) → part ∈ (ps ++ qs) → part ∈ isolated_parts g = λ part h. subst (λ (l : List Process). part ∈ l) (sym parts) h in
    record {
      kept = λ s h. two.kept s (one.kept s h);
      sound = λ s h. ⊎_elim
          (λ in_mid. ⊎_elim (λ in_old. inl in_old) (λ found. inr (found.0, into found.0 (mem_append_left found.0 ps qs found.1), found.2, found.3)) (one.sound s in_mid))
          (λ found. inr (found.0, into found.0 (mem_append_right found.0 ps qs found.1), found.2, found.3)) (two.sound s h);
      complete = λ part member. ⊎_elim
          (λ in_a. ⊎_elim (λ short. inl short) (λ found. inr (found.0, two.kept found.0 found.1, found.2)) (one.complete part in_a))
          (λ in_b. two.complete part in_b)
          (mem-append part ps qs (subst (λ (l : List Process). part ∈ l) parts member));
      within = λ s h. ⊎_elim
          (λ in_mid. ⊎_elim (λ in_old. inl in_old) (λ inside. inr (inside.0, omega (arith, inside.1, long))) (one.within s in_mid))
          (λ inside. inr (omega (arith, inside.0), omega (arith, inside.1, long))) (two.within s h);
      rising = λ rising all. two.rising (one.rising rising all)
          (λ s member. ⊎_elim (λ in_old. omega (arith, all s in_old)) (λ inside. omega (arith, inside.1)) (one.within s member));
    }

pub spans_of_isolated : (a : Process) (ns : List ℕ) (span : Span) (old mid new : List Span) → at_span span ns ≡ leaves a → span.end ≡ span.first + length (leaves a) →
    AddsSpans a ns span.first old mid → AddsSpan span mid new → AddsSpans (Isolated a) ns span.first old new
spans_of_isolated a ns span old mid new here end inner outer = record {
  kept = λ s h. outer.kept s (inner.kept s h);
  sound = λ s h. ⊎_elim
      (λ in_mid. ⊎_elim (λ in_old. inl in_old) (λ found. inr (found.0, inr found.1, found.2, found.3)) (inner.sound s in_mid))
      (λ (last : (s ≡ span) × (span.first + 2 ≤ span.end)).
      inr (a, inl refl, subst (λ (x : Span). at_span x ns ≡ leaves a) (sym last.0) here, subst (λ (x : Span). x.first + 2 ≤ x.end) (sym last.0) last.1)) (outer.sound s h);
  complete = λ part member. ⊎_elim
      (λ (same : part ≡ a).
      let Has : Process → Type 0 = λ q. (length (leaves q) < 2) ⊎ ((s : Span) × (s ∈ new) × (at_span s ns ≡ leaves q)) in
      subst Has (sym same) (⊎_elim (λ short. inl (omega (arith, short, end))) (λ there. inr (span, there, here)) outer.complete))
      (λ inside. ⊎_elim (λ short. inl short) (λ found. inr (found.0, outer.kept found.0 found.1, found.2)) (inner.complete part inside)) member;
  within = λ s h. ⊎_elim (λ in_mid. inner.within s in_mid)
      (λ (last : (s ≡ span) × (span.first + 2 ≤ span.end)).
      inr (subst (λ (x : Span). (span.first ≤ x.first) × (x.end ≤ span.first + length (leaves a))) (sym last.0) (omega arith, omega (arith, end)))) (outer.sound s h);
  rising = λ rising all. outer.rising (inner.rising rising all) (λ long s member. ⊎_elim
      (λ in_old. record { end = omega (arith, all s in_old, long); first = λ same. omega (arith, all s in_old, long, same) })
      (λ inside. record { end = omega (arith, inside.1, end); first = λ same. inside.0 })
      (inner.within s member));
}
