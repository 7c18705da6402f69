-- Options that are looked at one by one.
use Rattle.std.proofs.Common.{◌≡◌, Bool, false, not, true≢false, append-nil, ℕ, zero, suc, ◌+◌, ◌<◌, ◌≤◌, List, [], ◌∷◌, ◌++◌, length, take, get_or, map, refl, sym, ap, ◌∙◌, subst, inl, inr, arith, append_assoc, Some, slice_get, Result, Ok, Err, MatchResult}
use Rattle.std.specs.Option.{option_or}
use Rattle.std.proofs.lemmas.Bool.{cases_lt}
use Rattle.std.proofs.lemmas.List.{get_or-map, length-map, length-take-le, map-append, take_all, take_more}
use Rattle.std.proofs.lemmas.Option.{slice_get_within, slice_get-get_or, get_or_from_slice_get}
use Rattle.flow_model.specs.Lists.{◌∈◌}
use Rattle.flow_model.specs.Folding.{fixed_leaves}
use Rattle.flow_model.specs.Process.{Process, Empty}
use Rattle.flow_model.specs.Ways.{Normal, leaf_of_event}
use Rattle.flow_model.specs.Resolution.{ChoiceOption}
use Rattle.flow_model.proofs.MadeLists.{mem-flat_map, some_same}
use Rattle.flow_rules.specs.declared.leaf_table.LeafEvents.{LeafEvents}
use Rattle.flow_rules.specs.declared.order_set.OrderSet.{OrderSet}
use Rattle.flow_rules.specs.EventLeaves.{IsBlank, leaf_in}
use Rattle.flow_rules.specs.Narrowed.{ways_in}
use Rattle.flow_rules.proofs.LeafLemmas.{noted_leaves}
use Rattle.flow_excise.specs.declared.block.Block.{Block}
use Rattle.flow_excise.specs.Block.{options_in}
use Rattle.flow_rules.specs.WayLists.{is_none, ways_of_sets}
use Rattle.flow_plan.specs.Sampled.{Sampled}
use Rattle.flow_excise.specs.declared.refusal.Dropped.{Dropped}
use Rattle.flow_excise.specs.declared.refusal.CompileRefusal.{CompileRefusal}
use Rattle.flow_excise.specs.declared.refusal.CompileRefusal.TheVariants.{NoMemory}
use Rattle.flow_excise.specs.declared.sieve.Sieve.{Sieve}
use Rattle.flow_plan.specs.Options.{HasExecution, options_of, option_of}
use Rattle.flow_excise.specs.Executions.{NumberedOption, numbered_ways, numbered_options, TellsOf, AreSifted}
use Rattle.flow_excise.specs.Options.{FoldedTree, all_options_by, has_ways, option_by, options_by, resolutions_in, ways_by}
use Rattle.flow_excise.specs.Sieve.{ArePlannable, options_with, HasSifted, HasSiftedTo, Sifts}
use Rattle.flow_weave.specs.Woven.{option_with}
use Rattle.flow_excise.proofs.SiftingLemmas.{keep_one, drop_one, numbered, more_ways, more_resolutions}
use Rattle.flow_excise.proofs.TallyLemmas.{taken_more}
use Rattle.flow_model.proofs.Lists.{mem-slice_get}

-- one option

pub sift_kept : (n : NumberedOption) (old new : List Sampled) (dropped : List Dropped) (p : Sampled) → new ≡ old ++ p ∷ [] → option_of p.plan ≡ n.option →
    HasExecution n.option → (done : List NumberedOption) → AreSifted done (options_of old) dropped → AreSifted (done ++ n ∷ []) (options_of new) dropped
sift_kept n old new dropped p e same h done s =
    let whole : options_of new ≡ options_of old ++ n.option ∷ [] =
    ap options_of e ∙ map-append (λ (x : Sampled). option_of x.plan) old (p ∷ []) ∙ ap (λ (o : ChoiceOption). options_of old ++ o ∷ []) same in
    subst (λ l. AreSifted (done ++ n ∷ []) l dropped) (sym whole) (keep_one done n (options_of old) dropped s h)

pub sift_dropped : (n : NumberedOption) (kept : List ChoiceOption) (old new : List Dropped) (d : Dropped) → new ≡ old ++ d ∷ [] → TellsOf n d →
    (done : List NumberedOption) → AreSifted done kept old → AreSifted (done ++ n ∷ []) kept new
sift_dropped n kept old new d e t done s = subst (AreSifted (done ++ n ∷ []) kept) (sym e) (drop_one done n kept old d s t)

-- members by places

pub mem_read : {A : Type 0} (xs : List A) (i : ℕ) (x : A) → i < length xs → x ≡ get_or xs i x → x ∈ xs
mem_read xs i x l e = mem-slice_get xs i x (slice_get-get_or xs i x l ∙ ap Some (sym e))

-- the ways of a resolution

ways_more : (r : ℕ) (q : Process) (orders : List OrderSet) (i : ℕ) (order : OrderSet) → i < length orders → order ≡ get_or orders i order →
    numbered_ways r 0 (options_with q (take (i + 1) orders)) ≡ numbered_ways r 0 (options_with q (take i orders)) ++ numbered r i (option_with q order) ∷ []
ways_more r q orders i order l e =
    let taken : options_with q (take (i + 1) orders) ≡ options_with q (take i orders) ++ option_with q order ∷ [] =
    ap (options_with q) (take_more orders i order l) ∙ map-append (option_with q) (take i orders) (get_or orders i order ∷ [])
    ∙ ap (λ (o : OrderSet). options_with q (take i orders) ++ option_with q o ∷ []) (sym e) in
    let long : 0 + length (options_with q (take i orders)) ≡ i =
    omega (arith, length-map (take i orders) (option_with q), length-take-le i orders (omega arith)) in
    ap (numbered_ways r 0) taken ∙ more_ways r 0 (options_with q (take i orders)) (option_with q order)
    ∙ ap (λ k. numbered_ways r 0 (options_with q (take i orders)) ++ numbered r k (option_with q order) ∷ []) long

pub sift_more_ways : (r : ℕ) (q : Process) (orders : List OrderSet) (i : ℕ) (order : OrderSet) (first old new : Sieve) → i < length orders → order ≡ get_or orders i order →
    Sifts (numbered_ways r 0 (options_with q (take i orders))) first old → Sifts (numbered r i (option_with q order) ∷ []) old new →
    Sifts (numbered_ways r 0 (options_with q (take (i + 1) orders))) first new
sift_more_ways r q orders i order first old new l e so_far this done s =
    subst (λ ns. HasSifted ns new)
    (append_assoc done (numbered_ways r 0 (options_with q (take i orders))) (numbered r i (option_with q order) ∷ []) ∙ ap (λ ns. done ++ ns) (sym (ways_more r q orders i order l e)))
    (this (done ++ numbered_ways r 0 (options_with q (take i orders))) (so_far done s))

options_found : (q : Process) (orders : List OrderSet) → options_with q orders ≡ map (option_by q) (ways_of_sets orders)
options_found q [] = refl
options_found q (o ∷ orders) = ap (λ (l : List ChoiceOption). option_with q o ∷ l) (options_found q orders)

-- the ways that are listed by the leaves noted are those of the lane
pub ways_found : (t : FoldedTree) (block : Block) (lane : ℕ) (q : Process) (ls : List ℕ) (old noted : LeafEvents) (orders seen : List OrderSet) → IsBlank old →
    ((event : ℕ) → leaf_in noted event ≡ option_or (leaf_in old event) (leaf_of_event t.tree.labels ls event)) → ls ≡ fixed_leaves q → seen ≡ orders →
    ways_of_sets orders ≡ ways_in block.narrowed lane (leaf_in noted) → options_with q seen ≡ options_in t block lane q
ways_found t block lane q ls old noted orders seen blank notes listed e ways =
    ap (options_with q) e ∙ options_found q orders
    ∙ ap (map (option_by q))
    (ways ∙ (λ k. ways_in block.narrowed lane (λ event. noted_leaves t.tree.labels ls old noted blank notes event k))
    ∙ ap (λ (l : List ℕ). ways_in block.narrowed lane (leaf_of_event t.tree.labels l)) listed)

-- whether a resolution has an option

pub none_found : (t : FoldedTree) (n : Normal) (q : Process) → has_ways t n q ≡ false → options_by t n q ≡ []
none_found t n q h = at (ways_by t n q) h
  where
    at : (ws : List (List (ℕ × ℕ))) → not (is_none ws) ≡ false → map (option_by q) ws ≡ []
    at [] h = refl
    at (w ∷ ws) h = absurd (true≢false h)

-- nothing is looked at
pub sift_none : (t : FoldedTree) (n : Normal) (i : ℕ) (q : Process) (old : Sieve) → options_by t n q ≡ [] → Sifts (numbered_ways i 0 (options_by t n q)) old old
sift_none t n i q old none done s =
    subst (λ ns. HasSifted ns old) (sym (ap (λ (os : List ChoiceOption). done ++ numbered_ways i 0 os) none ∙ append-nil done)) s

module _ (t : FoldedTree) (n : Normal) (met : List Bool) (listed : met ≡ map (has_ways t n) (resolutions_in t)) where
  pub met_length : length met ≡ length (resolutions_in t)
  met_length = ap length listed ∙ length-map (resolutions_in t) (has_ways t n)

  pub met_at : (i : ℕ) (b : Bool) → get_or met i false ≡ b → (q : Process) → slice_get (resolutions_in t) i ≡ Some q → has_ways t n q ≡ b
  met_at i b read q there =
      let all = resolutions_in t in
      sym (ap (λ l. get_or l i false) listed ∙ get_or-map (has_ways t n) all i q false (slice_get_within all i q there)
      ∙ ap (has_ways t n) (get_or_from_slice_get all i q q there))
      ∙ read

pub plannable_ways : (t : FoldedTree) (n : Normal) (i : ℕ) (q : Process) (os : List ChoiceOption) → os ≡ options_by t n q → slice_get (resolutions_in t) i ≡ Some q →
    ArePlannable (all_options_by t n) → ArePlannable os
plannable_ways t n i q os e there all o m =
    all o (mem-flat_map (options_by t n) q o (resolutions_in t) (mem-slice_get (resolutions_in t) i q there) (subst (λ l. o ∈ l) e m))

pub sift_found : (t : FoldedTree) (i : ℕ) (p : Process) (os : List ChoiceOption) (of : Process → List ChoiceOption) (old new : Sieve) (r : Result (Unit {0}) CompileRefusal) → os ≡ of p →
    slice_get (resolutions_in t) i ≡ Some p → MatchResult r (λ _. Sifts (numbered_ways i 0 os) old new) (λ e. e ≡ NoMemory) →
    MatchResult r (λ _. (q : Process) → slice_get (resolutions_in t) i ≡ Some q → Sifts (numbered_ways i 0 (of q)) old new) (λ e. e ≡ NoMemory)
sift_found t i p os of old new (Ok u) e there h = λ q there_too.
    subst (λ (l : List ChoiceOption). Sifts (numbered_ways i 0 l) old new) (e ∙ ap of (some_same p q (sym there ∙ there_too))) h
sift_found t i p os of old new (Err f) e there h = h

-- all resolutions

pub sift_more : (t : FoldedTree) (n : Normal) (i : ℕ) (old new : Sieve) → i < length (resolutions_in t) →
    ((q : Process) → slice_get (resolutions_in t) i ≡ Some q → Sifts (numbered_ways i 0 (options_by t n q)) old new) →
    HasSifted (numbered_options 0 (map (options_by t n) (take i (resolutions_in t)))) old →
    HasSifted (numbered_options 0 (map (options_by t n) (take (i + 1) (resolutions_in t)))) new
sift_more t n i old new l this s =
    let all = resolutions_in t in
    let q = get_or all i Empty in
    let there = slice_get-get_or all i Empty l in
    let f = options_by t n in
    let long : 0 + length (map f (take i all)) ≡ i = omega (arith, length-map (take i all) f, length-take-le i all (omega arith)) in
    let whole : numbered_options 0 (map f (take (i + 1) all)) ≡ numbered_options 0 (map f (take i all)) ++ numbered_ways i 0 (f q) =
    ap (λ (l : List Process). numbered_options 0 (map f l)) (taken_more all i q there)
    ∙ ap (numbered_options 0) (map-append f (take i all) (q ∷ []))
    ∙ more_resolutions 0 (map f (take i all)) (f q)
    ∙ ap (λ k. numbered_options 0 (map f (take i all)) ++ numbered_ways k 0 (f q)) long in
    subst (λ ns. HasSifted ns new) (sym whole) (this q there (numbered_options 0 (map f (take i all))) s)

-- resolutions of which none has an option
module _ (t : FoldedTree) (n : Normal) (met : List Bool) (listed : met ≡ map (has_ways t n) (resolutions_in t)) (first : ℕ) (s : Sieve) where
  pub none_sifted : (count : ℕ) → ((k : ℕ) → first ≤ k → k < first + count → get_or met k false ≡ false) → HasSiftedTo t n first s → HasSiftedTo t n (first + count) s
  none_sifted zero none so_far = let e : first ≡ first + 0 = omega arith in subst (λ k. HasSiftedTo t n k s) e so_far
  none_sifted (suc count) none so_far =
      let all = resolutions_in t in
      let before = none_sifted count (λ k low high. none k low (omega arith)) so_far in
      let next : first + count + 1 ≡ first + suc count = omega arith in
      let this = none (first + count) (omega arith) (omega arith) in
      subst (λ k. HasSiftedTo t n k s) next (elim (cases_lt (first + count) (length all)) [
        | inl h ↦
            sift_more t n (first + count) s s h (λ q there. sift_none t n (first + count) q s (none_found t n q (met_at t n met listed (first + count) false this q there))) before
        | inr h ↦
            subst (λ qs. HasSifted (numbered_options 0 (map (options_by t n) qs)) s)
            (take_all (first + count) all h ∙ sym (take_all (first + count + 1) all (omega arith))) before
      ])
