-- Leaves that are banned, and executions that lack them.
use Rattle.std.proofs.Common.{Result, Ok, Err, IfOk, ◌≡◌, ◌<◌, ℕ, List, [], ◌∷◌, ◌++◌, length, refl, sym, inl, ⊎_elim, subst, append-nil, arith}
use Rattle.flow_model.specs.Lists.{◌∈◌, Begins, Each}
use Rattle.flow_model.specs.Schema.{IsGood}
use Rattle.flow_model.specs.Run.{IsFree, current_leaves}
use Rattle.flow_model.specs.Verdict.{AreJust}
use Rattle.flow_model.proofs.Lists.{each_member, each_from_members, mem_append_left, mem_append_right}
use Rattle.flow_model.proofs.MadeLists.{numbers_from_below, same_order}
use Rattle.flow_laws.specs.Histories.{IsSound}
use Rattle.flow_laws.specs.WellFormed.{IsConsistent, IsWellFormed}
use Rattle.flow_laws.proofs.TraceLeaves.{leaf_of_trace}
use Rattle.flow_core.specs.Lawful.{IsLawful}
use Rattle.flow_core.specs.Run.{Run, schema, now}
use Rattle.flow_standing.specs.declared.standing.Standing.{Standing}
use Rattle.flow_standing.specs.declared.standing.Standing.TheVariants.{Plain, Done, Next, Claimed, Failed, Banned}
use Rattle.flow_standing.specs.Standing.{IsBanned, IsStanding}
use Rattle.flow_why.specs.Fronts.{IsFront}
use Rattle.flow_reach.specs.Reach.{MayStillCome}
use Rattle.flow_reason.specs.GivenUp.{IsBannedLeaf, IsGivenUp}

-- ---- what a lawful history keeps

module _ (r : Run) (lawful : IsLawful (schema r) r.limit r.history) where
  sound : IsSound (schema r) (now r)
  sound = lawful.sound r.history ([], sym (append-nil r.history))

  -- some free trace goes on from the journal with the claims' leaves
  free_there : (t : List ℕ) × IsFree (schema r) (now r) t × Begins t ((now r).journal ++ current_leaves (now r))
  free_there =
      let (o, among, all) = sound.extends in
      let (t, of_option, free, begins) = all (current_leaves (now r)) (same_order (current_leaves (now r))) in
      (t, free, begins)

  pub front_there : IsFront (schema r) (now r).journal
  front_there = let (t, free, begins) = free_there in (t, free.0, free.1)

  pub consistent : IsConsistent (schema r)
  consistent = let (t, free, begins) = free_there in (t, free.0)

  module _ (leaf : ℕ) where
    not_free : IsBanned r leaf → (t : List ℕ) → IsFree (schema r) (now r) t → ¬ (leaf ∈ t)
    not_free (place, banned) t free has = each_member (λ ban. ¬ (ban.1 ∈ t)) (now r).bans free.2 (place, leaf) banned has

    -- what a free trace begins with is not banned
    not_begun : IsBanned r leaf → (t front : List ℕ) → IsFree (schema r) (now r) t → Begins t front → ¬ (leaf ∈ front)
    not_begun banned t front free (rest, is) has = not_free banned t free (subst (λ (l : List ℕ). leaf ∈ l) (sym is) (mem_append_left leaf front rest has))

    -- where a leaf is banned, the run stands so at it
    pub stands_banned : (standing : Standing) → IsStanding r leaf standing → IsBanned r leaf → standing ≡ Banned
    stands_banned Done done banned =
        let (t, free, begins) = free_there in
        absurd (not_begun banned t ((now r).journal ++ current_leaves (now r)) free begins (mem_append_left leaf (now r).journal (current_leaves (now r)) done))
    stands_banned Claimed claimed banned =
        let (t, free, begins) = free_there in
        absurd (not_begun banned t ((now r).journal ++ current_leaves (now r)) free begins (mem_append_right leaf (now r).journal (current_leaves (now r)) claimed.1))
    stands_banned Next (opened, (going, step)) banned = absurd (⊎_elim
        (λ take.
        let (o, among, all) = take.2 in
        let claims = current_leaves (now r) in
        let (t, of_option, free, begins) = all (claims ++ leaf ∷ []) (same_order (claims ++ leaf ∷ [])) in
        not_begun banned t ((now r).journal ++ (claims ++ leaf ∷ [])) free begins
        (mem_append_right leaf (now r).journal (claims ++ leaf ∷ []) (mem_append_right leaf claims (leaf ∷ []) (inl refl))))
        (λ does.
        let (o, among, all) = does.0.1 in
        let claims = current_leaves (now r) in
        let (t, of_option, free, begins) = all claims (same_order claims) in
        not_begun banned t ((now r).journal ++ leaf ∷ claims) free begins (mem_append_right leaf (now r).journal (leaf ∷ claims) (inl refl)))
        step)
    stands_banned Banned stands banned = refl
    stands_banned Failed failed banned = absurd (failed.1 banned)
    stands_banned Plain plain banned = absurd (plain.1 banned)

  pub bans_of : (leaf : ℕ) (standing : Standing) → IsStanding r leaf standing → standing ≡ Banned → IsBanned r leaf
  bans_of leaf standing stands is = (subst (IsStanding r leaf) is stands).1

-- ---- executions that lack the banned leaves are free

module _ (r : Run) (formed : IsWellFormed (schema r)) (banned : List ℕ) (just : AreJust (IsBannedLeaf r) banned) (t : List ℕ) where
  within : IsGood (schema r) t → (n : ℕ) → n ∈ t → n < length (schema r).labels
  within good n here =
      let l = numbers_from_below 0 (length (schema r).labels) n (subst (λ (l : List ℕ). n ∈ l) formed.numbered (leaf_of_trace (schema r).goal t good.0 n here)) in
      omega (arith, l)

  free_of : IsGood (schema r) t → Begins t (now r).journal → Each (λ n. ¬ (n ∈ t)) banned → IsFree (schema r) (now r) t
  free_of good begins lacks = (
    good,
    begins,
    each_from_members (λ ban. ¬ (ban.1 ∈ t)) (now r).bans
        (λ ban m here. each_member (λ n. ¬ (n ∈ t)) banned lacks ban.1 ((just.exact ban.1).1 (within good ban.1 here, (ban.0, m))) here),
  )

  lacks_of : IsFree (schema r) (now r) t → Each (λ n. ¬ (n ∈ t)) banned
  lacks_of free = each_from_members (λ n. ¬ (n ∈ t)) banned
      (λ n m here. let (place, there) = ((just.exact n).0 m).1 in each_member (λ ban. ¬ (ban.1 ∈ t)) (now r).bans free.2 (place, n) there here)

module _ (r : Run) (formed : IsWellFormed (schema r)) (banned : List ℕ) (just : AreJust (IsBannedLeaf r) banned) (leaf : ℕ) where
  -- a leaf that may still come was not given up
  pub comes_still : MayStillCome (schema r) (now r).journal banned leaf → ¬ (IsGivenUp r leaf)
  comes_still (t, good, begins, lacks, has) given = given.lost t (free_of r formed banned just t good begins lacks) has

  -- nor one where nothing is banned
  pub none_banned : banned ≡ [] → ¬ (IsGivenUp r leaf)
  none_banned none given =
      let (t, good, begins, has) = given.in_reach in
      given.lost t (free_of r formed banned just t good begins (subst (Each (λ n. ¬ (n ∈ t))) (sym none) tt)) has

  -- one that may come no more was, if some execution would have it
  pub comes_no_more : ¬ (MayStillCome (schema r) (now r).journal banned leaf) → MayStillCome (schema r) (now r).journal [] leaf → IsGivenUp r leaf
  comes_no_more none (t, good, begins, _, has) = record {
    lost = λ other free here. none (other, free.0, free.1, lacks_of r formed banned just other free, here);
    in_reach = (t, good, begins, has);
  }

  pub in_reach_of : IsGivenUp r leaf → MayStillCome (schema r) (now r).journal [] leaf
  in_reach_of given = let (t, good, begins, has) = given.in_reach in (t, good, begins, tt, has)

-- what is so of a result where another thing is
pub ok_as : {A E : Type 0} (result : Result A E) (P Q : A → Type 0) → IfOk result P → ((x : A) → P x → Q x) → IfOk result Q
ok_as (Ok x) P Q p to = to x p
ok_as (Err e) P Q p to = tt
