-- Lists with members left out: what they keep, and how they interleave.
use Rattle.std.proofs.Common.{List, [], ◌∷◌, ◌++◌, inr, arith}
use Rattle.flow_model.specs.Lists.{◌∈◌, StandsBefore, joined}
use Rattle.flow_model.specs.Trace.{Shuffle, both_end, from_left, from_right}
use Rattle.flow_laws.proofs.Shuffles.{shuffle_swap}

-- the first list is the second with members left out
pub data Thins {A : Type 0} : List A → List A → Type 0 where
  thin_end : Thins [] []
  kept : {x : A} {a b : List A} → Thins a b → Thins (x ∷ a) (x ∷ b)
  left_out : {x : A} {a b : List A} → Thins a b → Thins a (x ∷ b)

pub thins_none : {A : Type 0} (a : List A) → Thins [] a
thins_none [] = thin_end
thins_none (x ∷ a) = left_out (thins_none a)

pub thins_all : {A : Type 0} (a : List A) → Thins a a
thins_all [] = thin_end
thins_all (x ∷ a) = kept (thins_all a)

pub thins-append : {A : Type 0} {a b c d : List A} → Thins a b → Thins c d → Thins (a ++ c) (b ++ d)
thins-append thin_end t = t
thins-append (kept s) t = kept (thins-append s t)
thins-append (left_out s) t = left_out (thins-append s t)

thins_before : {A : Type 0} (front : List A) {a b : List A} → Thins a b → Thins a (front ++ b)
thins_before [] t = t
thins_before (x ∷ front) t = left_out (thins_before front t)

pub thins-joined : {A : Type 0} {a b : List (List A)} → Thins a b → Thins (joined a) (joined b)
thins-joined thin_end = thin_end
thins-joined (kept {x = x} t) = thins-append (thins_all x) (thins-joined t)
thins-joined (left_out {x = x} t) = thins_before x (thins-joined t)

pub thins_trans : {A : Type 0} {a b c : List A} → Thins a b → Thins b c → Thins a c
thins_trans s thin_end = s
thins_trans (kept s) (kept t) = kept (thins_trans s t)
thins_trans (left_out s) (kept t) = left_out (thins_trans s t)
thins_trans s (left_out t) = left_out (thins_trans s t)

mem_thins : {A : Type 0} {a b : List A} → Thins a b → (x : A) → x ∈ a → x ∈ b
mem_thins thin_end x h = h
mem_thins (kept t) x h = grind (arith, h, mem_thins t x)
mem_thins (left_out t) x h = inr (mem_thins t x h)

pub before_in_thins : {A : Type 0} {a b : List A} → Thins a b → (x y : A) → StandsBefore x y a → StandsBefore x y b
before_in_thins thin_end x y h = h
before_in_thins (kept t) x y h = grind (arith, h, before_in_thins t x y, mem_thins t y)
before_in_thins (left_out t) x y h = inr (before_in_thins t x y h)

-- with members left out of one list, so are they of an interleaving
thinned_left : {A : Type 0} {a b c u : List A} → Shuffle a b c → Thins u a → (v : List A) × Shuffle u b v × Thins v c
thinned_left both_end t = ([], thin_shuffle t, thin_end)
  where
    thin_shuffle : {A : Type 0} {u : List A} → Thins u [] → Shuffle u [] []
    thin_shuffle thin_end = both_end
thinned_left (from_left {x = x} s) (kept t) = let (v, r, k) = thinned_left s t in (x ∷ v, from_left r, kept k)
thinned_left (from_left s) (left_out t) = let (v, r, k) = thinned_left s t in (v, r, left_out k)
thinned_left (from_right {x = x} s) t = let (v, r, k) = thinned_left s t in (x ∷ v, from_right r, kept k)

-- with members left out of both
pub thinned : {A : Type 0} {a b c u v : List A} → Shuffle a b c → Thins u a → Thins v b → (w : List A) × Shuffle u v w × Thins w c
thinned s t r =
    let (x, left, k) = thinned_left s t in
    let (y, right, l) = thinned_left (shuffle_swap left) r in
    (y, shuffle_swap right, thins_trans l k)

-- an interleaving goes on to one with the members that were left out of one list
filled_left : {A : Type 0} {a b c u : List A} → Thins a u → Shuffle a b c → (v : List A) × Shuffle u b v × Thins c v
filled_left {c = c} thin_end s = (c, s, thins_all c)
filled_left (left_out {x = x} t) s = let (v, r, k) = filled_left t s in (x ∷ v, from_left r, left_out k)
filled_left {A} (kept {x = x} {a = a} {b = u} t) s = after s (λ b c. filled_left {b = b} {c = c} t)
  where
    after : {b c : List A} → Shuffle (x ∷ a) b c → ((b c : List A) → Shuffle a b c → (v : List A) × Shuffle u b v × Thins c v) →
        (v : List A) × Shuffle (x ∷ u) b v × Thins c v
    after (from_left {b = b} {c = c} s) on = let (v, r, k) = on b c s in (x ∷ v, from_left r, kept k)
    after (from_right {x = y} s) on = let (v, r, k) = after s on in (y ∷ v, from_right r, kept k)

pub filled : {A : Type 0} {a b c u v : List A} → Thins a u → Thins b v → Shuffle a b c → (w : List A) × Shuffle u v w × Thins c w
filled t r s =
    let (x, left, k) = filled_left t s in
    let (y, right, l) = filled_left r (shuffle_swap left) in
    (y, shuffle_swap right, thins_trans k l)
