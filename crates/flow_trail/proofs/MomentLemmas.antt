-- How a run of calls of a disk goes on.
use Rattle.std.proofs.Common.{inl, inr, ℕ, ◌≤◌, List, refl, sym, subst, ◌∙◌, arith}
use Rattle.std.proofs.lemmas.Bool.{cases_lt}
use Rattle.flow_disk.specs.Disk.{Passes, Rests, Same, Leaves}

module _ {D : Type 0} (moment : D → ℕ) (image : D → ℕ → List ℕ → Type 0) where
  -- before the first call
  pub started : (old : D) (P : List ℕ → Type 0) → ((c : List ℕ) → image old (moment old) c → P c) → Leaves moment image old old P
  started old P here = record {
    later = omega arith;
    keeps = λ t c le i. i;
    past = λ t c lt i. i;
    each = λ t c from to i. here c (subst (λ n. image old n c) (omega (arith, from, to)) i);
  }

  -- one call more, after whose step each image has P
  pub goes_on : (old mid new : D) (P : List ℕ → Type 0) (step : List ℕ → List ℕ → Type 0) → Leaves moment image old mid P →
      Passes (moment mid) (moment new) (image mid) (image new) step → ((d c : List ℕ) → image mid (moment mid) d → step d c → P c) → Leaves moment image old new P
  goes_on old mid new P step so_far call here = record {
    later = omega (arith, so_far.later, call.later);
    keeps = λ t c le i. call.keeps t c (omega (arith, so_far.later, le)) (so_far.keeps t c le i);
    past = λ t c lt i. so_far.past t c lt (call.past t c (omega (arith, so_far.later, lt)) i);
    each = λ t c from to i. elim (cases_lt t (moment mid)) [
      | inl before ↦ so_far.each t c from (omega (arith, before)) (call.past t c before i)
      | inr after ↦ let (d, was, stepped) = call.during t c after to i in here d c was stepped
    ];
  }

  -- a call that writes nothing
  pub goes_on_same : (old mid new : D) (P : List ℕ → Type 0) → Leaves moment image old mid P → Passes (moment mid) (moment new) (image mid) (image new) Same → Leaves moment image old new P
  goes_on_same old mid new P so_far call =
      goes_on old mid new P Same so_far call (λ d c was same. subst P (sym same) (so_far.each (moment mid) d so_far.later (omega arith) was))

  -- what each image has may be said in other words
  pub weaker : (old new : D) (P Q : List ℕ → Type 0) → ((c : List ℕ) → P c → Q c) → Leaves moment image old new P → Leaves moment image old new Q
  weaker old new P Q turn l = record { later = l.later; keeps = l.keeps; past = l.past; each = λ t c from to i. turn c (l.each t c from to i) }

-- ---- calls that change nothing

-- none yet
pub rests_first : (now : ℕ) (seen : List ℕ) (images : ℕ → List ℕ → Type 0) (synced : ℕ → Type 0) → Rests now now seen seen images images synced synced
rests_first now seen images synced = record {
  seen_is = refl;
  passes = record {
    later = omega arith;
    keeps = λ t c le i. i;
    past = λ t c lt i. i;
    during = λ t c from to i. (c, subst (λ n. images n c) (omega (arith, from, to)) i, refl);
  };
  no_sync = record { keeps = λ t le s. s; past = λ t le s. s; none = λ t after le s. absurd (omega (arith, after, le)) };
}

-- one after another
pub rests_then : (a b c : ℕ) (seen seen' seen'' : List ℕ) (images images' images'' : ℕ → List ℕ → Type 0) (synced synced' synced'' : ℕ → Type 0) →
    Rests a b seen seen' images images' synced synced' → Rests b c seen' seen'' images' images'' synced' synced'' → Rests a c seen seen'' images images'' synced synced''
rests_then a b c seen seen' seen'' images images' images'' synced synced' synced'' p q =
    let later : a ≤ b = p.passes.later in
    let later' : b ≤ c = q.passes.later in
    record {
      seen_is = q.seen_is ∙ p.seen_is;
      passes = record {
        later = omega arith;
        keeps = λ t x le i. q.passes.keeps t x (omega (arith, le)) (p.passes.keeps t x le i);
        past = λ t x lt i. p.passes.past t x lt (q.passes.past t x (omega (arith, lt)) i);
        during = λ t x from to i. elim (cases_lt t b) [
          | inl before ↦ p.passes.during t x from (omega (arith, before)) (q.passes.past t x before i)
          | inr after ↦
              let (d, was, same) = q.passes.during t x after to i in
              let (e, first, again) = p.passes.during b d later (omega arith) was in
              (e, first, same ∙ again)
        ];
      };
      no_sync = record {
        keeps = λ t le s. q.no_sync.keeps t (omega (arith, le)) (p.no_sync.keeps t le s);
        past = λ t le s. p.no_sync.past t le (q.no_sync.past t (omega (arith, le)) s);
        none = λ t after le s. elim (cases_lt b t) [
          | inl late ↦ q.no_sync.none t late le s
          | inr early ↦ p.no_sync.none t after early (q.no_sync.past t early s)
        ];
      };
    }
