-- What a new epoch does to the claims as the code keeps them.
use Rattle.std.proofs.Common.{◌≡◌, ◌≤◌, ◌<◌, ◌+◌, ℕ, zero, suc, Bool, true, false, ◌&&◌, not, cond, if◌then◌else◌, ◌==◌, List, [], ◌∷◌, ◌++◌, length, map, set, drop, get_or, slice_index, refl, sym, ap, ◌∙◌, subst, arith, append_assoc}
use Rattle.std.proofs.lemmas.Bool.{eq-eqb, ne_eqb, cases_Bool, and_parts}
use Rattle.std.proofs.lemmas.List.{at_drop_more, length-map, length_push}
use Rattle.flow_model.specs.Lists.{Each}
use Rattle.flow_model.specs.Schema.{Schema}
use Rattle.flow_model.specs.Decided.{can_all_follow}
use Rattle.flow_model.specs.Run.{RunState, spare}
use Rattle.flow_laws.proofs.ClaimLemmas.{and_false}
use Rattle.flow_residual.specs.declared.given.Given.{Given}
use Rattle.flow_residual.specs.Given.{claims_from, is_out, out_by, out_places, out_leaves, with_epoch, renewed_at}
use Rattle.flow_residual.specs.Fields.{events_of, takers_of, claimed, IsLastOf, IsKept}
use Rattle.flow_residual.proofs.Counting.{counts_of, counted_alike}
use Rattle.flow_residual.specs.Spared.{staying, head, tail, picked}

-- of the next epoch where the bit says so
abbrev pub renewed : ℕ → Bool → Given → Given
renewed e bit g = if bit then record g { epoch = e + 1 } else g

-- each that is out takes one bit
abbrev pub renew : ℕ → List Bool → List Given → List Given
renew e bits [] = []
renew e bits (g ∷ gs) = cond (is_out e g) (renewed e (head bits) g ∷ renew e (tail bits) gs) (g ∷ renew e bits gs)

-- ---- by the places

with_epoch_at : (e k : ℕ) (front : List Given) (g : Given) (gs : List Given) → length front ≡ k →
    with_epoch e k (front ++ g ∷ gs) ≡ front ++ record g { epoch = e } ∷ gs
with_epoch_at e k front g gs h = subst (λ n. with_epoch e n (front ++ g ∷ gs) ≡ front ++ record g { epoch = e } ∷ gs) h (there front)
  where
    there : (front : List Given) → with_epoch e (length front) (front ++ g ∷ gs) ≡ front ++ record g { epoch = e } ∷ gs
    there [] = refl
    there (x ∷ front) = ap (λ l. x ∷ l) (there front)

pub renewed_at_places : (e k : ℕ) (bits : List Bool) (front gs : List Given) → length front ≡ k →
    renewed_at (e + 1) (picked bits (out_places e k gs)) (front ++ gs) ≡ front ++ renew e bits gs
renewed_at_places e k bits front [] h = refl
renewed_at_places e k bits front (g ∷ gs) h =
    let after : (bits : List Bool) (x : Given) → renewed_at (e + 1) (picked bits (out_places e (k + 1) gs)) (front ++ x ∷ gs) ≡ front ++ x ∷ renew e bits gs = λ bits x.
    ap (renewed_at (e + 1) (picked bits (out_places e (k + 1) gs))) (sym (append_assoc front (x ∷ []) gs))
    ∙ renewed_at_places e (k + 1) bits (front ++ x ∷ []) gs (length_push front x ∙ ap (λ n. n + 1) h) ∙ append_assoc front (x ∷ []) (renew e bits gs) in
    let here = with_epoch_at (e + 1) k front g gs h in
    let renewed = after (tail bits) (record g { epoch = e + 1 }) in
    grind (arith, cases_Bool (is_out e g), cases_Bool (head bits), here, after bits g, after (tail bits) g, renewed)

-- ---- those that are out in the new epoch

old_is_not_out : (e : ℕ) (g : Given) → g.epoch ≤ e → is_out (e + 1) g ≡ false
old_is_not_out e g h = ap (λ b. not g.answered && b) (ne_eqb g.epoch (e + 1) (omega arith)) ∙ and_false (not g.answered)

renewed_is_out : (e : ℕ) (bit : Bool) (g : Given) → g.epoch ≤ e → is_out e g ≡ true → is_out (e + 1) (renewed e bit g) ≡ bit
renewed_is_out e true g h out = grind (arith, eq-eqb (e + 1) (e + 1) refl, and_parts (not g.answered) (g.epoch == e) out)
renewed_is_out e false g h out = old_is_not_out e g h

-- f tells the same of a claim, whatever its epoch
pub out_renewed : (f : ℕ → Given → ℕ) → ((k e : ℕ) (bit : Bool) (g : Given) → f k (renewed e bit g) ≡ f k g) → (e k : ℕ) (bits : List Bool) (gs : List Given) → Each (λ (g : Given). g.epoch ≤ e) gs →
    out_by f (e + 1) k (renew e bits gs) ≡ picked bits (out_by f e k gs)
out_renewed f same e k bits [] h = refl
out_renewed f same e k bits (g ∷ gs) (h, t) =
    let stays = renewed_is_out e (head bits) g h in
    let goes = old_is_not_out e g h in
    let rest = λ (bits : List Bool). out_renewed f same e (k + 1) bits gs t in
    grind (arith, cases_Bool (is_out e g), cases_Bool (head bits), stays, goes, same k e (head bits) g, rest bits, rest (tail bits))

same_leaf : (k e : ℕ) (bit : Bool) (g : Given) → (renewed e bit g).leaf ≡ g.leaf
same_leaf k e true g = refl
same_leaf k e false g = refl

-- ---- what stays

pub map-renew : {A : Type 0} (f : Given → A) → ((e : ℕ) (g : Given) → f (record g { epoch = e }) ≡ f g) → (e : ℕ) (bits : List Bool) (gs : List Given) → map f (renew e bits gs) ≡ map f gs
map-renew f same e bits [] = refl
map-renew f same e bits (g ∷ gs) =
    grind (arith, cases_Bool (is_out e g), cases_Bool (head bits), same (e + 1) g, map-renew f same e bits gs, map-renew f same e (tail bits) gs)

epochs_renewed : (e : ℕ) (bits : List Bool) (gs : List Given) → Each (λ (g : Given). g.epoch ≤ e) gs → Each (λ (g : Given). g.epoch ≤ e + 1) (renew e bits gs)
epochs_renewed e bits [] h = tt
epochs_renewed e bits (g ∷ gs) (h, t) =
    let later : g.epoch ≤ e + 1 = omega arith in
    grind (arith, cases_Bool (is_out e g), cases_Bool (head bits), later, epochs_renewed e bits gs t, epochs_renewed e (tail bits) gs t)

pub kept_renewed : (gs new : List Given) (current new_current leaves new_leaves last : List ℕ) (e : ℕ) (bits : List Bool) → IsKept gs current leaves last e →
    new ≡ renew e bits gs → new_current ≡ picked bits current → new_leaves ≡ picked bits leaves → IsKept new new_current new_leaves last (e + 1)
kept_renewed gs new current new_current leaves new_leaves last e bits k is places stay = rw (is, places, stay) (record {
  epochs = epochs_renewed e bits gs k.epochs;
  current_are = ap (picked bits) k.current_are ∙ sym (out_renewed (λ place g. place) (λ k e bit g. refl) e 0 bits gs k.epochs);
  leaves_are = ap (picked bits) k.leaves_are ∙ sym (out_renewed (λ place g. g.leaf) same_leaf e 0 bits gs k.epochs);
  counted = counted_alike [] gs (renew e bits gs) (map-renew counts_of (λ e g. refl) e bits gs) k.counted;
  known = subst (Each (λ event. event < length last)) (sym (map-renew (λ g. g.event) (λ e g. refl) e bits gs)) k.known;
  lasts = λ event h. subst (λ l. IsLastOf l event (slice_index last event)) (sym (map-renew (λ g. g.event) (λ e g. refl) e bits gs)) (k.lasts event h);
})

pub length-renew : (e : ℕ) (bits : List Bool) (gs : List Given) → length (renew e bits gs) ≡ length gs
length-renew e bits gs = sym (length-map (renew e bits gs) (λ (g : Given). g.leaf)) ∙ ap length (map-renew (λ (g : Given). g.leaf) (λ e g. refl) e bits gs) ∙ length-map gs (λ (g : Given). g.leaf)

pub each_picked : (P : ℕ → Type 0) (bits : List Bool) (xs : List ℕ) → Each P xs → Each P (picked bits xs)
each_picked P bits [] h = tt
each_picked P bits (x ∷ xs) (h, t) = grind (arith, cases_Bool (head bits), h, each_picked P (tail bits) xs t)

-- ---- just those are spared

pub spare_is : (w : Schema) (s : RunState) (before : List ℕ) (k j : ℕ) (gs : List Given) →
    spare w s before (claims_from k gs) ≡ claims_from k (renew s.epoch (staying w s before (out_leaves s.epoch j gs)) gs)
spare_is w s before k j [] = refl
spare_is w s before k j (g ∷ gs) =
    let next = before ++ g.leaf ∷ [] in
    grind (arith, cases_Bool (is_out s.epoch g), cases_Bool (can_all_follow w s next), spare_is w s before (k + 1) (j + 1) gs, spare_is w s next (k + 1) (j + 1) gs)

set_epoch : (e p : ℕ) (gs : List Given) (d : Given) → set gs p (record (get_or gs p d) { epoch = e }) ≡ with_epoch e p gs
set_epoch e zero [] d = refl
set_epoch e (suc p) [] d = refl
set_epoch e zero (x ∷ gs) d = refl
set_epoch e (suc p) (x ∷ gs) d = ap (λ l. x ∷ l) (set_epoch e p gs d)

-- a step of the loop
pub renewed_one : (e i : ℕ) (places : List ℕ) (gs : List Given) (d : Given) → i < length places →
    renewed_at e (drop (i + 1) places) (set gs (get_or places i 0) (record (get_or gs (get_or places i 0) d) { epoch = e })) ≡ renewed_at e (drop i places) gs
renewed_one e i places gs d h =
    ap (renewed_at e (drop (i + 1) places)) (set_epoch e (get_or places i 0) gs d) ∙ sym (at_drop_more (λ ps. renewed_at e ps gs) places i 0 h)

-- what the code does
pub renewed_is : (e : ℕ) (bits : List Bool) (gs was new : List Given) (current places : List ℕ) → was ≡ gs → current ≡ out_places e 0 gs → places ≡ picked bits current →
    new ≡ renewed_at (e + 1) places was → new ≡ renew e bits gs
renewed_is e bits gs was new current places same are stay is =
    is ∙ ap (renewed_at (e + 1) places) same ∙ ap (λ l. renewed_at (e + 1) l gs) (stay ∙ ap (picked bits) are) ∙ renewed_at_places e 0 bits [] gs refl

-- just those are spared
pub spared_claims : (w : Schema) (s : RunState) (gs new : List Given) (e : ℕ) (leaves was : List ℕ) (bits : List Bool) → s.claims ≡ claims_from 1 gs → s.epoch ≡ e →
    leaves ≡ out_leaves e 0 gs → was ≡ leaves → bits ≡ staying w s [] was → new ≡ renew e bits gs → claims_from 1 new ≡ spare w s [] s.claims
spared_claims w s gs new e leaves was bits claims epoch are same stay is =
    let all : bits ≡ staying w s [] (out_leaves s.epoch 0 gs) = stay ∙ ap (staying w s []) (same ∙ are ∙ ap (λ n. out_leaves n 0 gs) (sym epoch)) in
    ap (claims_from 1) is ∙ ap (λ n. claims_from 1 (renew n bits gs)) (sym epoch) ∙ ap (λ b. claims_from 1 (renew s.epoch b gs)) all
    ∙ sym (spare_is w s [] 1 0 gs) ∙ ap (spare w s []) (sym claims)

pub renewed_value : (gs new : List Given) (e room kinds : ℕ) (bits : List Bool) → new ≡ renew e bits gs →
    claimed new (e + 1) room kinds ≡ record (claimed gs e room kinds) { claims = claims_from 1 new; epoch = e + 1 }
renewed_value gs new e room kinds bits is =
    let events : events_of new ≡ events_of gs = ap events_of is ∙ map-renew (λ g. g.event) (λ e g. refl) e bits gs in
    let takers : takers_of new ≡ takers_of gs = ap takers_of is ∙ map-renew (λ g. g.by) (λ e g. refl) e bits gs in
    λ i. record { claims = claims_from 1 new; events = events i; takers = takers i; epoch = e + 1; room = room; kinds = kinds }
