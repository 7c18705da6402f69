-- What a run finds is so, and it finds what is so, where each state knows what may follow it.
use Rattle.std.proofs.Common.{rules, ◌≡◌, ℕ, zero, suc, ◌<◌, ◌≤◌, ◌⊎◌, Bool, true, false, Option, Some, None, List, [], ◌∷◌, ◌++◌, length, take, drop, refl, sym, ap, ◌∙◌, subst, inl, inr, ⊎_elim, append_assoc, le_antisymm, take-append-drop, arith, le-leb, leb-true, leb-false}
use Rattle.std.specs.Prelude.{option_map}
use Rattle.flow_model.specs.declared.limits.TheConstants.{GREATEST_DEPTH}
use Rattle.flow_form.specs.declared.refusal.Wanted.{Wanted}
use Rattle.flow_grammar.specs.Symbol.{Symbol, Placed, at, symbols, Deepens}
use Rattle.flow_grammar.specs.Machine.{Reading, gives, expected, too_deep, later, is_too_deep, at_end, go_on, run, standing}
use Rattle.flow_grammar.specs.Laws.{StandsFor, MayEnd}
use Rattle.flow_grammar.specs.Texts.{IsShallow, IsDeepAt, Derives, IsWhole, IsViable, StandsDeep, IsStuckAt, NoneDeepBefore}
use Rattle.std.proofs.lemmas.Bool.{cases_lt}
use Rattle.std.proofs.lemmas.List.{take-take}

pub uncons : (w : List Placed) (t : Symbol) (ts : List Symbol) → symbols w ≡ t ∷ ts →
    (n : ℕ) × (v : List Placed) × (w ≡ at n t ∷ v) × (symbols v ≡ ts)
uncons [] t ts e = cc
uncons (at n u ∷ v) t ts e = let same : u ≡ t = cc in (n, v, ap (λ y. at n y ∷ v) same, cc)

is_deep : (t : Symbol) (d : ℕ) → Deepens t → GREATEST_DEPTH ≤ d → is_too_deep t d ≡ true
is_deep t d h l = search (rules, le-leb)

not_deep : (t : Symbol) (d : ℕ) → is_too_deep t d ≡ false → Deepens t → d < GREATEST_DEPTH
not_deep t d e h = search (rules, leb-false)

deep_of : (t : Symbol) (d : ℕ) → is_too_deep t d ≡ true → Deepens t × (GREATEST_DEPTH ≤ d)
deep_of t d e = search (rules, leb-true)

-- What a state knows: R s w x says that w may follow s, and the whole then says x

abbrev pub OnNext : {S V : Type 0} → (S → List Placed → V → Type 0) → Option S → List Placed → V → Type 0
OnNext R (Some s) w x = R s w x
OnNext R None w x = ⊥

abbrev pub Front : {S V : Type 0} → (S → Symbol → Option S) → (S → Option V) → (S → ℕ) → (S → List Placed → V → Type 0) → S → List Placed → V → Type 0
Front step finish depth R s [] x = finish s ≡ Some x
Front step finish depth R s (at n t ∷ w) x = (Deepens t → n ≡ depth s) × OnNext R (step s t) w x

pub record Knows {S V : Type 0} (step : S → Symbol → Option S) (finish : S → Option V) (depth : S → ℕ) (R : S → List Placed → V → Type 0) : Type 0 where
  pub forth : (s : S) (w : List Placed) (x : V) → R s w x → Front step finish depth R s w x
  pub back : (s : S) (t : Symbol) (w : List Placed) (x : V) → OnNext R (step s t) w x →
      (n : ℕ) × (Deepens t → n ≡ depth s) × R s (at n t ∷ w) x
  pub ended : (s : S) (x : V) → finish s ≡ Some x → R s [] x
  pub completes : (s : S) → (w : List Placed) × (x : V) × R s w x

-- it is something
abbrev pub Goes : {A : Type 0} → Option A → Type 0
Goes (Some s) = Unit {0}
Goes None = ⊥

-- what a state wants could come
pub record Wants {S V : Type 0} (step : S → Symbol → Option S) (finish : S → Option V) (wanted : S → Wanted) : Type 0 where
  pub comes : (s : S) (t : Symbol) → StandsFor (wanted s) t → Goes (step s t)
  pub ends : (s : S) → MayEnd (wanted s) → Goes (finish s)

-- it is what is read, but for the kind
abbrev pub IsFound : {V : Type 0} → Reading V → Reading V → Type 0
IsFound r (expected kind i) = (kind' : Wanted) × (r ≡ expected kind' i)
IsFound r q = r ≡ q

of_goes : {A : Type 0} (o : Option A) → Goes o → (s : A) × (o ≡ Some s)
of_goes (Some s) h = (s, refl)
of_goes None h = absurd h

module _ {S V : Type 0} (step : S → Symbol → Option S) (finish : S → Option V) (wanted : S → Wanted) (depth : S → ℕ) (R : S → List Placed → V → Type 0) (k : Knows step finish depth R) (wants : Wants step finish wanted) where
  abbrev reads : S → List Symbol → Reading V
  reads = run step finish wanted depth

  on_next : (o : Option S) (w : List Placed) (x : V) → OnNext R o w x → (s : S) × (o ≡ Some s) × R s w x
  on_next None w x h = absurd h
  on_next (Some s) w x h = (s, refl, h)

  front : (s : S) (o : Option S) (t : Symbol) (ts : List Symbol) (w : List Placed) (x : V) → step s t ≡ o → symbols w ≡ t ∷ ts → R s w x →
      (n : ℕ) × (v : List Placed) × (w ≡ at n t ∷ v) × (symbols v ≡ ts) × (Deepens t → n ≡ depth s) × OnNext R o v x
  front s o t ts w x es e r =
      let (n, v, ew, ev) = uncons w t ts e in
      let f : (Deepens t → n ≡ depth s) × OnNext R (step s t) v x = k.forth s (at n t ∷ v) x (subst (λ y. R s y x) ew r) in
      (n, v, ew, ev, f.0, subst (λ o'. OnNext R o' v x) es f.1)

  behind : (s next : S) (t : Symbol) (w : List Placed) (x : V) → step s t ≡ Some next → R next w x →
      (n : ℕ) × (Deepens t → n ≡ depth s) × R s (at n t ∷ w) x
  behind s next t w x es r = k.back s t w x (subst (λ o. OnNext R o w x) (sym es) r)

  viable_nil : (s : S) → IsViable (R s) []
  viable_nil s = let (w, x, r) = k.completes s in (w, x, (symbols w, refl), r)

  viable_none : (s : S) (t : Symbol) (ts : List Symbol) → step s t ≡ None → ¬ IsViable (R s) (t ∷ ts)
  viable_none s t ts es (w, x, (rest, e), r) = (front s None t (ts ++ rest) w x es e r).5

  viable_down : (s next : S) (t : Symbol) (ts : List Symbol) → step s t ≡ Some next → IsViable (R s) (t ∷ ts) → IsViable (R next) ts
  viable_down s next t ts es (w, x, (rest, e), r) = let (n, v, ew, ev, d, r') = front s (Some next) t (ts ++ rest) w x es e r in (v, x, (rest, ev), r')

  viable_up : (s next : S) (t : Symbol) (ts : List Symbol) → step s t ≡ Some next → IsViable (R next) ts → IsViable (R s) (t ∷ ts)
  viable_up s next t ts es (w, x, (rest, e), r) =
      let (n, d, r') = behind s next t w x es r in
      (at n t ∷ w, x, (rest, ap (λ y. t ∷ y) e), r')

  whole_up : (s next : S) (t : Symbol) (ts : List Symbol) → step s t ≡ Some next → IsWhole (R next) ts → IsWhole (R s) (t ∷ ts)
  whole_up s next t ts es (w, x, e, r) =
      let (n, d, r') = behind s next t w x es r in
      (at n t ∷ w, x, ap (λ y. t ∷ y) e, r')

  deep_down : (s next : S) (t : Symbol) (ts : List Symbol) (j : ℕ) → step s t ≡ Some next → StandsDeep (R s) (t ∷ ts) (suc j) → StandsDeep (R next) ts j
  deep_down s next t ts j es (l, (w, x, (rest, e), dp, r)) =
      let (n, v, ew, ev, d, r') = front s (Some next) t (take (suc j) ts ++ rest) w x es e r in
      (omega arith, (v, x, (rest, ev), subst (λ y. IsDeepAt y (suc j)) ew dp, r'))

  deep_up : (s next : S) (t : Symbol) (ts : List Symbol) (j : ℕ) → step s t ≡ Some next → StandsDeep (R next) ts j → StandsDeep (R s) (t ∷ ts) (suc j)
  deep_up s next t ts j es (l, (w, x, (rest, e), dp, r)) =
      let (n, d, r') = behind s next t w x es r in
      (omega arith, (at n t ∷ w, x, (rest, ap (λ y. t ∷ y) e), dp, r'))

  deep_here : (s : S) (t : Symbol) (ts : List Symbol) → StandsDeep (R s) (t ∷ ts) 0 → is_too_deep t (depth s) ≡ true
  deep_here s t ts (l, (w, x, (rest, e), dp, r)) =
      let (n, v, ew, ev, d, r') = front s (step s t) t rest w x refl e r in
      let here : Deepens t × (GREATEST_DEPTH ≤ n) = subst (λ y. IsDeepAt y 0) ew dp in
      is_deep t (depth s) here.0 (subst (λ y. GREATEST_DEPTH ≤ y) (d here.0) here.1)

  deep_there : (s next : S) (t : Symbol) (ts : List Symbol) → step s t ≡ Some next → is_too_deep t (depth s) ≡ true → StandsDeep (R s) (t ∷ ts) 0
  deep_there s next t ts es b =
      let (w, x, r) = k.completes next in
      let (n, d, r') = behind s next t w x es r in
      let (dt, l) = deep_of t (depth s) b in
      (omega arith, (at n t ∷ w, x, (symbols w, refl), (dt, subst (λ y. GREATEST_DEPTH ≤ y) (sym (d dt)) l), r'))

  none_before : (s next : S) (t : Symbol) (ts : List Symbol) (j : ℕ) → step s t ≡ Some next → is_too_deep t (depth s) ≡ false → NoneDeepBefore (R next) ts j →
      NoneDeepBefore (R s) (t ∷ ts) (suc j)
  none_before s next t ts j es eb h zero l dp = let e' = deep_here s t ts dp in cc
  none_before s next t ts j es eb h (suc i) l dp = h i (omega arith) (deep_down s next t ts i es dp)

  -- What is read is so

  -- what a reading says of the symbols, but for the kind that it tells
  abbrev pub Holds : S → List Symbol → Reading V → Type 0
  Holds s ts (gives x) = Derives (R s) ts x
  Holds s ts (expected kind i) = IsStuckAt (R s) ts i × NoneDeepBefore (R s) ts i
  Holds s ts (too_deep i) = StandsDeep (R s) ts i × NoneDeepBefore (R s) ts i

  -- each symbol of the kind could come at that place, the end too if it is of the kind, and the table has the kind
  pub record IsTold (s : S) (ts : List Symbol) (kind : Wanted) (i : ℕ) : Type 0 where
    pub stands : IsStuckAt (R s) ts i × NoneDeepBefore (R s) ts i
    pub comes : (t : Symbol) → StandsFor kind t → IsViable (R s) (take i ts ++ t ∷ [])
    pub ends : MayEnd kind → IsWhole (R s) (take i ts)
    pub by_the_table : option_map wanted (standing step (Some s) (take i ts)) ≡ Some kind

  abbrev pub IsSo : S → List Symbol → Reading V → Type 0
  IsSo s ts (expected kind i) = IsTold s ts kind i
  IsSo s ts r = Holds s ts r

  stuck_here : (s : S) (ts : List Symbol) → IsStuckAt (R s) ts 0 → IsTold s ts (wanted s) 0
  stuck_here s ts stuck = record {
    stands = (stuck, λ j l. absurd (omega arith));
    comes = λ t h. let (next, es) = of_goes (step s t) (wants.comes s t h) in viable_up s next t [] es (viable_nil next);
    ends = λ h. let (x, e) = of_goes (finish s) (wants.ends s h) in ([], x, refl, k.ended s x e);
    by_the_table = refl;
  }

  no_end : (s : S) → finish s ≡ None → ¬ IsWhole (R s) []
  no_end s ef ([], x, ew, r) = let e' : finish s ≡ Some x = k.forth s [] x r in cc
  no_end s ef (at n t ∷ w, x, ew, r) = cc

  -- what is so behind a symbol is so, one place later, from it on
  so_later : (s next : S) (t : Symbol) (ts : List Symbol) → step s t ≡ Some next → is_too_deep t (depth s) ≡ false →
      (r : Reading V) → IsSo next ts r → IsSo s (t ∷ ts) (later r)
  so_later s next t ts es eb (gives x) (w, ew, sh, r) =
      let (n, d, r') = behind s next t w x es r in
      (at n t ∷ w, ap (λ y. t ∷ y) ew, (λ h. subst (λ y. y < GREATEST_DEPTH) (sym (d h)) (not_deep t (depth s) eb h), sh), r')
  so_later s next t ts es eb (expected kind j) h = record {
    stands = (
      (
        viable_up s next t (take j ts) es h.stands.0.0,
        ⊎_elim
            (λ (l, refuted). inl (omega arith, λ v. refuted (viable_down s next t (take (suc j) ts) es v)))
            (λ (l, refuted). inr (omega arith, λ (w, x, e, r). let (n, v, ew, ev, d, r') = front s (Some next) t ts w x es e r in refuted (v, x, ev, r')))
            h.stands.0.1,
      ),
      none_before s next t ts j es eb h.stands.1,
    );
    comes = λ u m. viable_up s next t (take j ts ++ u ∷ []) es (h.comes u m);
    ends = λ m. whole_up s next t (take j ts) es (h.ends m);
    by_the_table = subst (λ o. option_map wanted (standing step o (take j ts)) ≡ Some kind) (sym es) h.by_the_table;
  }
  so_later s next t ts es eb (too_deep j) (dp, h) = (deep_up s next t ts j es dp, none_before s next t ts j es eb h)

  pub is_so : (ts : List Symbol) (s : S) → IsSo s ts (reads s ts)
  is_so [] s = at_finish (finish s) refl
    where
      at_finish : (o : Option V) → finish s ≡ o → IsSo s [] (at_end o (wanted s))
      at_finish (Some x) e = ([], refl, tt, k.ended s x e)
      at_finish None e = stuck_here s [] (viable_nil s, inr (refl, no_end s e))
  is_so (t ∷ ts) s = at_step (is_so ts) (step s t) refl (is_too_deep t (depth s)) refl
    where
      at_step : ((next : S) → IsSo next ts (reads next ts)) → (o : Option S) → step s t ≡ o → (b : Bool) → is_too_deep t (depth s) ≡ b →
          IsSo s (t ∷ ts) (go_on o b (wanted s) (λ y. reads y ts))
      at_step so None es b eb = stuck_here s (t ∷ ts) (viable_nil s, inl (omega arith, viable_none s t [] es))
      at_step so (Some next) es true eb = (deep_there s next t ts es eb, λ j l. absurd (omega arith))
      at_step so (Some next) es false eb = so_later s next t ts es eb (reads next ts) (so next)

  -- one meaning

  pub one_meaning : (w v : List Placed) (s : S) (x y : V) → symbols w ≡ symbols v → R s w x → R s v y → x ≡ y
  one_meaning [] [] s x y e r r' =
      let ex : finish s ≡ Some x = k.forth s [] x r in
      let ey : finish s ≡ Some y = k.forth s [] y r' in
      cc
  one_meaning [] (at m u ∷ v) s x y e r r' = cc
  one_meaning (at n t ∷ w) v s x y e r r' =
      let f : (Deepens t → n ≡ depth s) × OnNext R (step s t) w x = k.forth s (at n t ∷ w) x r in
      let (next, es, q) = on_next (step s t) w x f.1 in
      let (n', v', ew, ev, d, q') = front s (Some next) t (symbols w) v y es (sym e) r' in
      one_meaning w v' next x y (sym ev) q q'

  -- Of the three that may be read, each excludes the others

  -- no text goes on past the place where none does
  not_past : (ts : List Symbol) (s : S) (i j : ℕ) → IsStuckAt (R s) ts i → IsViable (R s) (take j ts) → j ≤ length ts → j ≤ i
  not_past ts s i j (v, more) (w, x, (rest, e), r) l = ⊎_elim (λ less. absurd (past less more)) (λ le. le) (cases_lt i j)
    where
      past : i < j → ((i < length ts) × ¬ IsViable (R s) (take (suc i) ts)) ⊎ ((i ≡ length ts) × ¬ IsWhole (R s) ts) → ⊥
      past less (inr (end, refuted)) = omega arith
      past less (inl (below, refuted)) =
          let back = drop (suc i) (take j ts) in
          let cut : take j ts ≡ take (suc i) ts ++ back =
          sym (take-append-drop (suc i) (take j ts)) ∙ ap (λ y. y ++ back) (take-take (suc i) j ts (omega arith)) in
          refuted (w, x, (back ++ rest, e ∙ ap (λ y. y ++ rest) cut ∙ append_assoc (take (suc i) ts) back rest), r)

  stuck_once : (ts : List Symbol) (s : S) (i j : ℕ) → IsStuckAt (R s) ts i → IsStuckAt (R s) ts j → j ≤ i
  stuck_once ts s i j a b = not_past ts s i j a b.0 (⊎_elim (λ (l, n). omega arith) (λ (l, n). omega arith) b.1)

  not_whole : (ts : List Symbol) (s : S) (i : ℕ) → IsStuckAt (R s) ts i → ¬ IsWhole (R s) ts
  not_whole ts s i (v, inl (l, refuted)) (w, x, e, r) = refuted (w, x, (drop (suc i) ts, e ∙ sym (take-append-drop (suc i) ts)), r)
  not_whole ts s i (v, inr (l, refuted)) h = refuted h

  deep_before : (ts : List Symbol) (s : S) (i j : ℕ) → IsStuckAt (R s) ts i → StandsDeep (R s) ts j → j < i
  deep_before ts s i j stuck (l, (w, x, b, dp, r)) = let past : suc j ≤ i = not_past ts s i (suc j) stuck (w, x, b, r) (omega arith) in omega arith

  none_deep : (w : List Placed) (s : S) (x : V) (i : ℕ) → IsShallow w → R s w x → ¬ StandsDeep (R s) (symbols w) i
  none_deep [] s x i sh r (l, more) = omega arith
  none_deep (at n t ∷ w) s x zero (sh, more) r dp =
      let f : (Deepens t → n ≡ depth s) × OnNext R (step s t) w x = k.forth s (at n t ∷ w) x r in
      let (dt, l) = deep_of t (depth s) (deep_here s t (symbols w) dp) in
      let below : n < GREATEST_DEPTH = sh dt in
      omega (arith, f.0 dt, l, below)
  none_deep (at n t ∷ w) s x (suc i) (sh, more) r dp =
      let f : (Deepens t → n ≡ depth s) × OnNext R (step s t) w x = k.forth s (at n t ∷ w) x r in
      let (next, es, r') = on_next (step s t) w x f.1 in
      none_deep w next x i more r' (deep_down s next t (symbols w) i es dp)

  first_deep : (ts : List Symbol) (s : S) (i j : ℕ) → NoneDeepBefore (R s) ts i → StandsDeep (R s) ts j → i ≤ j
  first_deep ts s i j h dp = ⊎_elim (λ l. absurd (h j l dp)) (λ le. le) (cases_lt j i)

  pub one_reading : (ts : List Symbol) (s : S) (r q : Reading V) → IsSo s ts r → Holds s ts q → IsFound r q
  one_reading ts s (gives y) (gives x) (v, e, sh, r) (w, e', sh', r') = ap gives (one_meaning v w s y x (e ∙ sym e') r r')
  one_reading ts s (gives y) (expected kind i) (w, e, sh, r) (stuck, h) = absurd (not_whole ts s i stuck (w, y, e, r))
  one_reading ts s (gives y) (too_deep i) (w, e, sh, r) (dp, h) = absurd (none_deep w s y i sh r (subst (λ u. StandsDeep (R s) u i) (sym e) dp))
  one_reading ts s (expected kind j) (gives x) told (w, e, sh, r) = absurd (not_whole ts s j told.stands.0 (w, x, e, r))
  one_reading ts s (expected kind j) (expected kind' i) told (stuck, h) =
      (kind, ap (expected kind) (le_antisymm (stuck_once ts s i j stuck told.stands.0) (stuck_once ts s j i told.stands.0 stuck)))
  one_reading ts s (expected kind j) (too_deep i) told (dp, h) = absurd (told.stands.1 i (deep_before ts s j i told.stands.0 dp) dp)
  one_reading ts s (too_deep j) (gives x) (dp, h) (w, e, sh, r) = absurd (none_deep w s x j sh r (subst (λ u. StandsDeep (R s) u j) (sym e) dp))
  one_reading ts s (too_deep j) (expected kind i) (dp, h) (stuck, none) = absurd (none j (deep_before ts s i j stuck dp) dp)
  one_reading ts s (too_deep j) (too_deep i) (dp, h) (dp', h') = ap too_deep (le_antisymm (first_deep ts s j i h dp') (first_deep ts s i j h' dp))
