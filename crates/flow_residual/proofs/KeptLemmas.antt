-- What is kept when a leaf is done or banned, and when a run goes back.
use Rattle.std.proofs.Common.{◌≡◌, ℕ, zero, suc, ◌<◌, ◌≤◌, nat_le, Bool, List, [], ◌∷◌, ◌++◌, length, take, drop, get_or, refl, sym, ap, ◌∙◌, subst, subst₂, inl, inr, ⊎_elim, arith, length-append}
use Rattle.std.specs.List.{filter}
use Rattle.std.specs.Vec.{with_items}
use Rattle.std.proofs.lemmas.Bool.{cases_Bool, leb-true}
use Rattle.std.proofs.lemmas.List.{map-append, take-append-drop, length-take-le, with_items_is}
use Rattle.flow_model.specs.declared.limits.TheConstants.{MOST_LEAVES}
use Rattle.flow_model.specs.Lists.{◌∈◌, Each, AreDistinct}
use Rattle.flow_model.specs.Process.{leaves}
use Rattle.flow_model.specs.Ready.{DoneOr}
use Rattle.flow_model.proofs.MadeLists.{each-filter}
use Rattle.flow_model.proofs.Lists.{mem-append, mem_append_left, each-append, each_parts, each_member, each_to, each_from_members, distinct_parts, distinct-append, at_most}
use Rattle.flow_plan.proofs.PlaceLemmas.{read_member}
use Rattle.flow_residual.specs.declared.residual.Ban.{Ban}
use Rattle.flow_plan.specs.Sampled.{Sampled}
use Rattle.flow_plan.specs.Options.{options_of, HasSmallLeaves}
use Rattle.flow_residual.proofs.OptionLemmas.{length-options}
use Rattle.flow_residual.specs.Remaining.{Remaining, MayComeNext, banned}
use Rattle.flow_residual.specs.View.{pairs_of_bans}
use Rattle.flow_residual.specs.Options.{EachHas}
use Rattle.leaf_rows.specs.declared.leaf_set.LeafSet.{LeafSet}
use Rattle.leaf_rows.specs.declared.TheConstants.{LEAF_WORDS}
use Rattle.flow_model.specs.Resolution.{ChoiceOption}
use Rattle.flow_plan.specs.declared.fold_row.FoldRow.{FoldRow}
use Rattle.flow_plan.specs.declared.sides.Sides.{Sides}
use Rattle.flow_residual.specs.Telling.{AreServing, IsOrderedOption, IsSetOf, Tells}
use Rattle.flow_residual.specs.Invariant.{AreFew, IsKept, IsRoomy}
use Rattle.flow_residual.proofs.Avoiding.{begun_not_banned}
use Rattle.flow_residual.specs.declared.fronts.Change.{Change}
use Rattle.flow_residual.specs.declared.residual.Residual.TheInside.{Inside}
use Rattle.flow_residual.specs.Track.{IsFront, journal_after}

-- ---- few numbers

pub at_most_all : (list : List ℕ) → AreFew list → length list ≤ MOST_LEAVES
at_most_all list few = at_most MOST_LEAVES list few.distinct (λ x m. each_member (λ n. n < MOST_LEAVES) list few.small x m)

pub one_more : (list : List ℕ) (n : ℕ) → AreFew list → n < MOST_LEAVES → ¬ (n ∈ list) → AreFew (list ++ n ∷ [])
one_more list n few small fresh = record {
  small = each-append (λ k. k < MOST_LEAVES) list (n ∷ []) few.small (small, tt);
  distinct = distinct-append list (n ∷ []) few.distinct ((λ none. none), tt)
      (λ x m k. ⊎_elim (λ same. fresh (subst (λ z. z ∈ list) same m)) (λ none. none) k);
}

pub room_left : (list : List ℕ) (n : ℕ) → AreFew list → n < MOST_LEAVES → ¬ (n ∈ list) → length list < MOST_LEAVES
room_left list n few small fresh =
    let most = at_most_all (list ++ n ∷ []) (one_more list n few small fresh) in
    omega (arith, most, length-append list (n ∷ []))

pub few_front : (list : List ℕ) (i : ℕ) → AreFew list → AreFew (take i list)
few_front list i few =
    let cut : list ≡ take i list ++ drop i list = sym (take-append-drop i list) in record {
      small = (each_parts (λ n. n < MOST_LEAVES) (take i list) (drop i list) (subst (Each (λ n. n < MOST_LEAVES)) cut few.small)).0;
      distinct = (distinct_parts (take i list) (drop i list) (subst AreDistinct cut few.distinct)).0;
    }

in_front : (list : List ℕ) (i n : ℕ) → n ∈ take i list → n ∈ list
in_front list i n m = subst (λ (l : List ℕ). n ∈ l) (take-append-drop i list) (mem_append_left n (take i list) (drop i list) m)

-- what stands at a place is not in the front before it
not_in_front : (list : List ℕ) (i : ℕ) → AreDistinct list → i < length list → ¬ (get_or list i 0 ∈ take i list)
not_in_front [] i d h m = absurd (omega arith)
not_in_front (x ∷ list) zero d h m = m
not_in_front (x ∷ list) (suc i) d h (inl e) =
    d.0 (subst (λ z. z ∈ list) e (read_member list i (omega arith)))
not_in_front (x ∷ list) (suc i) d h (inr m) = not_in_front list i d.1 (omega arith) m

-- ---- the leaf that may come next

module _ (r : Remaining) (k : IsKept r) (leaf : ℕ) (next : MayComeNext r leaf) where
  pub next_small : leaf < MOST_LEAVES
  next_small =
      let fit = each_member HasSmallLeaves r.options k.fits next.0 next.1.among in
      each_member (λ n. n < MOST_LEAVES) (leaves next.0.resolution) fit leaf next.2.leaf

  pub next_fresh : ¬ (leaf ∈ r.journal)
  next_fresh = next.2.not_done

  pub next_free : ¬ (leaf ∈ banned r.bans)
  next_free = begun_not_banned next.0.resolution (DoneOr (λ n. n ∈ r.journal) (leaf ∷ [])) (λ n. n ∈ banned r.bans) leaf next.3 next.2.leaf (inr (inl refl))

  pub kept_push : IsKept (record r { journal = r.journal ++ leaf ∷ [] })
  kept_push = record {
    fits = k.fits;
    ordered = k.ordered;
    done = one_more r.journal leaf k.done next_small next_fresh;
    bans_few = k.bans_few;
    apart = each_from_members (λ n. ¬ (n ∈ (r.journal ++ leaf ∷ []))) (banned r.bans) (λ n m there. ⊎_elim
        (λ before. each_member (λ x. ¬ (x ∈ r.journal)) (banned r.bans) k.apart n m before)
        (λ last. ⊎_elim (λ same. next_free (subst (λ x. x ∈ banned r.bans) same m)) (λ none. none) last)
        (mem-append n r.journal (leaf ∷ []) there));
    early = each_to (λ ban. ban.0 ≤ length r.journal) (λ ban. ban.0 ≤ length (r.journal ++ leaf ∷ [])) r.bans (λ ban b. omega (arith, b, length-append r.journal (leaf ∷ []))) k.early;
  }

  pub kept_ban : (i : ℕ) → i ≤ length r.journal → IsKept (record r { bans = r.bans ++ (i, leaf) ∷ [] })
  kept_ban i here =
      let more : banned (r.bans ++ (i, leaf) ∷ []) ≡ banned r.bans ++ leaf ∷ [] = map-append (λ (ban : ℕ × ℕ). ban.1) r.bans ((i, leaf) ∷ []) in record {
        fits = k.fits;
        ordered = k.ordered;
        done = k.done;
        bans_few = subst AreFew (sym more) (one_more (banned r.bans) leaf k.bans_few next_small next_free);
        apart = subst (Each (λ n. ¬ (n ∈ r.journal))) (sym more) (each-append (λ n. ¬ (n ∈ r.journal)) (banned r.bans) (leaf ∷ []) k.apart (next_fresh, tt));
        early = each-append (λ ban. ban.0 ≤ length r.journal) r.bans ((i, leaf) ∷ []) k.early (here, tt);
      }

-- ---- bans that are lifted

left_over : (p : ℕ × ℕ → Bool) (bans : List (ℕ × ℕ)) (n : ℕ) → n ∈ banned (filter p bans) → n ∈ banned bans
left_over p [] n m = m
left_over p (ban ∷ bans) n m = grind (arith, cases_Bool (p ban), m, left_over p bans n)

distinct_left_over : (p : ℕ × ℕ → Bool) (bans : List (ℕ × ℕ)) → AreDistinct (banned bans) → AreDistinct (banned (filter p bans))
distinct_left_over p [] d = tt
distinct_left_over p (ban ∷ bans) d =
    grind (arith, cases_Bool (p ban), d, left_over p bans ban.1, distinct_left_over p bans d.1)

module _ (r : Remaining) (k : IsKept r) (i : ℕ) (within : i < length r.journal) where
  -- the leaf that is taken back
  abbrev pub back : ℕ
  back = get_or r.journal i 0

  abbrev pub stays : ℕ × ℕ → Bool
  stays ban = nat_le ban.0 i

  back_done : back ∈ r.journal
  back_done = read_member r.journal i within

  back_free : ¬ (back ∈ banned (filter stays r.bans))
  back_free m = each_member (λ n. ¬ (n ∈ r.journal)) (banned r.bans) k.apart back (left_over stays r.bans back m) back_done

  pub rewind_room : length (banned r.bans) < MOST_LEAVES
  rewind_room = room_left (banned r.bans) back k.bans_few (each_member (λ n. n < MOST_LEAVES) r.journal k.done.small back back_done)
      (λ m. each_member (λ n. ¬ (n ∈ r.journal)) (banned r.bans) k.apart back m back_done)

  pub kept_rewind : IsKept (record r { journal = take i r.journal; bans = filter stays r.bans ++ (i, back) ∷ [] })
  kept_rewind =
      let more : banned (filter stays r.bans ++ (i, back) ∷ []) ≡ banned (filter stays r.bans) ++ back ∷ [] =
      map-append (λ (ban : ℕ × ℕ). ban.1) (filter stays r.bans) ((i, back) ∷ []) in
      let left : AreFew (banned (filter stays r.bans)) = record {
        small = each_from_members (λ n. n < MOST_LEAVES) (banned (filter stays r.bans))
            (λ n m. each_member (λ x. x < MOST_LEAVES) (banned r.bans) k.bans_few.small n (left_over stays r.bans n m));
        distinct = distinct_left_over stays r.bans k.bans_few.distinct;
      } in record {
        fits = k.fits;
        ordered = k.ordered;
        done = few_front r.journal i k.done;
        bans_few = subst AreFew (sym more)
            (one_more (banned (filter stays r.bans)) back left (each_member (λ n. n < MOST_LEAVES) r.journal k.done.small back back_done) back_free);
        apart = subst (Each (λ n. ¬ (n ∈ take i r.journal))) (sym more)
            (each-append (λ n. ¬ (n ∈ take i r.journal)) (banned (filter stays r.bans)) (back ∷ [])
            (each_from_members (λ n. ¬ (n ∈ take i r.journal)) (banned (filter stays r.bans))
            (λ n m there. each_member (λ x. ¬ (x ∈ r.journal)) (banned r.bans) k.apart n (left_over stays r.bans n m) (in_front r.journal i n there)))
            (not_in_front r.journal i k.done.distinct within, tt));
        early = let long : length (take i r.journal) ≡ i = length-take-le i r.journal (omega arith) in
            each-append (λ ban. ban.0 ≤ length (take i r.journal)) (filter stays r.bans) ((i, back) ∷ [])
            (each-filter (λ ban. ban.0 ≤ length (take i r.journal)) (λ ban. ban.0 ≤ length r.journal) stays r.bans (λ ban low b. omega (arith, long, leb-true ban.0 i low)) k.early)
            (omega (arith, long), tt);
      }

-- ---- bans as pairs

pub pairs_of_more : (bans : List Ban) (ban : Ban) → pairs_of_bans (bans ++ ban ∷ []) ≡ pairs_of_bans bans ++ (ban.index, ban.leaf) ∷ []
pairs_of_more bans ban = map-append (λ (b : Ban). (b.index, b.leaf)) bans (ban ∷ [])

pub pairs_of_left : (i : ℕ) (bans : List Ban) → pairs_of_bans (filter (λ (ban : Ban). nat_le ban.index i) bans) ≡ filter (λ ban. nat_le ban.0 i) (pairs_of_bans bans)
pairs_of_left i [] = refl
pairs_of_left i (ban ∷ bans) = grind (arith, cases_Bool (nat_le ban.index i), pairs_of_left i bans)

-- ---- fronts after a change

-- there is a front for each plan
pub one_each_lent : (i : Inside) (plans : List Sampled) (lent : List ℕ) → IsRoomy i → plans ≡ i.plans.items → lent ≡ i.fronts.items → length lent ≡ length plans
one_each_lent i plans lent roomy same_plans same_fronts =
    ap length same_fronts ∙ roomy.fronts.one_each ∙ length-options i.plans.items ∙ sym (ap length same_plans)

-- the vector that was lent has what was made of its fronts
pub followed : (i : Inside) (change : Change) (plans : List Sampled) (journal lent new : List ℕ) → IsRoomy i → plans ≡ i.plans.items → journal ≡ i.journal.items →
    lent ≡ i.fronts.items → (EachHas (IsFront journal) (options_of plans) lent → EachHas (IsFront (journal_after change journal)) (options_of plans) new) →
    EachHas (IsFront (journal_after change i.journal.items)) (options_of i.plans.items) (with_items i.fronts new).items
followed i change plans journal lent new roomy same_plans same_journal same_fronts makes =
    let before : EachHas (IsFront journal) (options_of plans) lent =
    subst (EachHas (IsFront journal) (options_of plans)) (sym same_fronts)
    (subst₂ (λ (ps : List Sampled) (j : List ℕ). EachHas (IsFront j) (options_of ps) i.fronts.items) (sym same_plans) (sym same_journal) roomy.fronts) in
    let made : EachHas (IsFront (journal_after change i.journal.items)) (options_of i.plans.items) new =
    subst₂ (λ (ps : List Sampled) (j : List ℕ). EachHas (IsFront (journal_after change j)) (options_of ps) new) same_plans same_journal (makes before) in
    subst (EachHas (IsFront (journal_after change i.journal.items)) (options_of i.plans.items))
    (sym (with_items_is i.fronts new (made.one_each ∙ sym roomy.fronts.one_each ∙ sym i.fronts.ok.0))) made

-- what the sides tell, as they are lent
pub telling : (i : Inside) (plans : List Sampled) (journal : List ℕ) → IsRoomy i → plans ≡ i.plans.items → journal ≡ i.journal.items →
    (bans : List ℕ) × Tells (options_of plans) journal bans i.sides
telling i plans journal roomy same_plans same_journal = (
  banned (pairs_of_bans i.bans.items),
  subst₂ (λ (ps : List Sampled) (j : List ℕ). Tells (options_of ps) j (banned (pairs_of_bans i.bans.items)) i.sides) (sym same_plans) (sym same_journal) roomy.sides,
)

-- what they tell when they are made anew
pub told_again : (i : Inside) → IsRoomy i → (folds : List FoldRow) (journal bans : List ℕ) (done excluded : LeafSet LEAF_WORDS) (sides : Sides) → folds ≡ i.folds.items →
    ((os : List ChoiceOption) (journal bans : List ℕ) → Each IsOrderedOption os → Each (AreServing folds) os → IsSetOf journal done → IsSetOf bans excluded → Tells os journal bans sides) →
    IsSetOf journal done → IsSetOf bans excluded → Tells (options_of i.plans.items) journal bans sides
told_again i roomy folds journal bans done excluded sides same makes done_are banned_are =
    makes (options_of i.plans.items) journal bans roomy.kept.ordered (subst (λ (l : List FoldRow). Each (AreServing l) (options_of i.plans.items)) (sym same) roomy.served) done_are banned_are
