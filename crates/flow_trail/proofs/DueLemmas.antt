-- The entries that lines tell, line by line.
use Rattle.std.proofs.Common.{◌≡◌, inl, inr, ℕ, zero, suc, ◌+◌, ◌-◌, ◌<◌, ◌≤◌, true, false, List, [], ◌∷◌, ◌++◌, map, length, take, drop, get_or, refl, sym, ◌∙◌, ap, subst, append_assoc, append-nil, take-append-drop, length-drop, length-take, arith}
use Rattle.std.specs.Prelude.{◌==◌}
use Rattle.std.proofs.lemmas.List.{drop_more, drop_all, drop-drop}
use Rattle.flow_trail.specs.declared.line.About.{About}
use Rattle.flow_trail.specs.declared.line.TrailEnd.{TrailEnd}
use Rattle.flow_trail.specs.Lines.{Said, told, void, remark, end_behind, end_of}
use Rattle.flow_trail.specs.declared.due.Tale.{Tale}
use Rattle.flow_trail.specs.declared.due.Tale.TheVariants as tale
use Rattle.flow_trail.specs.Due.{Entered, begins_void, tells, Tells, IsUndue, IsOther, IsMissing, IsTale}

-- ---- lists

pub drop-map : {A B : Type 0} (f : A → B) (xs : List A) (n : ℕ) → drop n (map f xs) ≡ map f (drop n xs)
drop-map f xs zero = refl
drop-map f [] (suc n) = refl
drop-map f (x ∷ xs) (suc n) = drop-map f xs n

-- a line, and those behind it
pub line_there : {A B : Type 0} (f : A → B) (xs : List A) (n : ℕ) (x : A) → n < length xs → x ≡ get_or xs n x → drop n (map f xs) ≡ f x ∷ map f (drop (n + 1) xs)
line_there f xs n x there is = drop-map f xs n ∙ ap (map f) (drop_more xs n x there ∙ ap (λ y. y ∷ drop (n + 1) xs) (sym is))

-- where lines end, from a place on
pub end_from : (e : TrailEnd) (saying : List Said) (n : ℕ) → end_of e saying ≡ end_of (end_of e (take n saying)) (drop n saying)
end_from e saying zero = refl
end_from e [] (suc n) = refl
end_from e (said ∷ saying) (suc n) = end_from (end_behind e said) saying n

-- ---- one line

-- told so far, with the place of the next line
pub record IsToldTo (saying : List Said) (due : List Entered) (index count : ℕ) : Type 0 where
  pub few : count ≤ length due
  pub so_far : tells saying ≡ take count due ++ tells (drop index saying)

pub none_told : (saying : List Said) (due : List Entered) → IsToldTo saying due 0 0
none_told saying due = record { few = omega arith; so_far = refl }

module _ (saying : List Said) (due : List Entered) (index count : ℕ) (so_far : IsToldTo saying due index count) where
  next : drop 1 (drop index saying) ≡ drop (index + 1) saying
  next = drop-drop 1 index saying ∙ ap (λ n. drop n saying) (omega arith)

  pub by_nothing : tells (drop index saying) ≡ tells (drop 1 (drop index saying)) → IsToldTo saying due (index + 1) count
  by_nothing is = record {
    few = so_far.few;
    so_far = so_far.so_far ∙ ap (λ (l : List Entered). take count due ++ l) (is ∙ ap tells next);
  }

  pub by_next : (first : Entered) → drop count due ≡ first ∷ drop 1 (drop count due) → tells (drop index saying) ≡ first ∷ tells (drop 1 (drop index saying)) →
      IsToldTo saying due (index + 1) (count + 1)
  by_next first due_is is =
      let left = ap length due_is in
      let room : count < length due = omega (arith, left, length-drop count due) in
      let more : drop count due ≡ get_or due count first ∷ drop (count + 1) due = drop_more due count first room in
      let same : first ∷ drop 1 (drop count due) ≡ get_or due count first ∷ drop (count + 1) due = sym due_is ∙ more in
      let whole : take (count + 1) due ≡ take count due ++ first ∷ [] = take_one due count first (drop 1 (drop count due)) due_is in
      record {
        few = omega arith;
        so_far = so_far.so_far ∙ ap (λ (l : List Entered). take count due ++ l) (is ∙ ap (λ (l : List Said). first ∷ tells l) next)
            ∙ sym (append_assoc (take count due) (first ∷ []) (tells (drop (index + 1) saying))) ∙ ap (λ (l : List Entered). l ++ tells (drop (index + 1) saying)) (sym whole);
      }
    where
      take_one : {A : Type 0} (xs : List A) (n : ℕ) (x : A) (ys : List A) → drop n xs ≡ x ∷ ys → take (n + 1) xs ≡ take n xs ++ x ∷ []
      take_one [] zero x ys is = cc
      take_one [] (suc n) x ys is = cc
      take_one (y ∷ xs) zero x ys is = let same : y ≡ x = cc in ap (λ z. z ∷ []) same
      take_one (y ∷ xs) (suc n) x ys is = ap (λ k. take k (y ∷ xs)) (let e : suc n + 1 ≡ suc (n + 1) = omega arith in e) ∙ ap (λ l. y ∷ l) (take_one xs n x ys is)

  -- one more in the last line
  pub by_last : drop count due ≡ [] → (one : Entered) → tells (drop index saying) ≡ one ∷ [] → ((e : TrailEnd) → (end_of e (drop index saying)).last_told ≡ true) →
      (e : TrailEnd) → Tells e saying due
  by_last none one is last e =
      let all : take count due ≡ due = sym (append-nil (take count due)) ∙ ap (λ (l : List Entered). take count due ++ l) (sym none) ∙ take-append-drop count due in
      inr ((one, so_far.so_far ∙ ap (λ (l : List Entered). take count due ++ l) is ∙ ap (λ (l : List Entered). l ++ one ∷ []) all), ap (λ (x : TrailEnd). x.last_told) (end_from e saying index) ∙ last (end_of e (take index saying)))

  -- another one
  pub by_other : (one : Entered) → tells (drop index saying) ≡ one ∷ tells (drop 1 (drop index saying)) → IsUndue (drop count due) one (length (drop 1 (drop index saying))) →
      (line : ℕ) → index + 1 ≡ line → IsOther saying due line
  by_other one is undue line number = record {
    earlier = take count due;
    left = drop count due;
    due_is = sym (take-append-drop count due);
    next = one;
    more = tells (drop 1 (drop index saying));
    all = so_far.so_far ∙ ap (λ (l : List Entered). take count due ++ l) is;
    there = ap (λ n. tells (drop n saying)) (let back : line - 1 ≡ index = omega arith in back) ∙ is;
    undue = subst (λ (l : List Said). IsUndue (drop count due) one (length l)) (next ∙ ap (λ n. drop n saying) number) undue;
  }

  -- no further line
  module _ (end : length saying ≤ index) where
    told_all : tells saying ≡ take count due
    told_all = so_far.so_far ∙ ap (λ (l : List Said). take count due ++ tells l) (drop_all index saying end) ∙ append-nil (take count due)

    pub by_all : length due ≤ count → (e : TrailEnd) → Tells e saying due
    by_all full e = inl (told_all ∙ sym (append-nil (take count due)) ∙ ap (λ (l : List Entered). take count due ++ l) (sym (drop_all count due full)) ∙ take-append-drop count due)

    pub by_missing : count < length due → (entry : ℕ) → count + 1 ≡ entry → IsMissing saying due entry
    by_missing left entry number =
        let size : length (tells saying) ≡ count = ap length told_all ∙ (omega (arith, length-take count due)) in
        record {
          left = drop count due;
          due_is = sym (take-append-drop count due) ∙ ap (λ (l : List Entered). l ++ drop count due) (sym told_all);
          some = omega (arith, length-drop count due);
          counted = omega (arith, size);
        }

-- ---- what a line tells that tells an entry

module _ (at by entry task note : List ℕ) (behind : List Said) (stands : begins_void behind ≡ false) where
  abbrev it : Entered
  it = record { by = by; entry = entry; task = task }

  abbrev lines : List Said
  lines = told at by entry task note ∷ behind

  tells_it : tells lines ≡ it ∷ tells behind
  tells_it = rw stands refl

  pub last_tale : (due : List Entered) → due ≡ [] → behind ≡ [] → IsTale lines due tale.Next
  last_tale due none last = (none, (it, tells_it ∙ ap (λ (l : List Said). it ∷ tells l) last), λ e. ap (λ (l : List Said). (end_of (end_behind e (told at by entry task note)) l).last_told) last)

  pub past_tale : (due : List Entered) → due ≡ [] → 0 < length behind → IsTale lines due tale.Other
  past_tale due none some = (it, tells_it, subst (λ (d : List Entered). IsUndue d it (length behind)) (sym none) some)

  pub next_tale : (due : List Entered) (first : Entered) (rest : List Entered) → due ≡ first ∷ rest → first ≡ it → IsTale lines due tale.Expected
  next_tale due first rest is same =
      (it, is ∙ ap (λ (x : Entered). x ∷ rest) same ∙ ap (λ (l : List Entered). it ∷ l) (ap (drop 1) (sym is)), tells_it)

  pub other_tale : (due : List Entered) (first : Entered) (rest : List Entered) → due ≡ first ∷ rest → ¬ (first ≡ it) → IsTale lines due tale.Other
  other_tale due first rest is other = (it, tells_it, subst (λ (d : List Entered). IsUndue d it (length behind)) (sym is) other)

pub empty_of : {A B : Type 0} (f : A → B) (xs : List A) → length xs ≡ 0 → map f xs ≡ []
empty_of f [] none = refl
empty_of f (x ∷ xs) none = absurd (omega (arith, none))

-- a line that tells no entry
pub void_tale : (saying more : List Said) (at : List ℕ) → saying ≡ void at ∷ more → tells saying ≡ tells (drop 1 saying)
void_tale saying more at is = ap tells is ∙ ap (λ (l : List Said). tells (drop 1 l)) (sym is)

pub remark_tale : (saying more : List Said) (about : About) (text : List ℕ) (entry : ℕ) (by at : List ℕ) → saying ≡ remark about text entry by at ∷ more → tells saying ≡ tells (drop 1 saying)
remark_tale saying more about text entry by at is = ap tells is ∙ ap (λ (l : List Said). tells (drop 1 l)) (sym is)

-- the same in other words
pub same_tale : (saying saying' : List Said) (due due' : List Entered) (what : Tale) → saying' ≡ saying → due' ≡ due → IsTale saying due what → IsTale saying' due' what
same_tale saying saying' due due' what one two h = subst (λ (l : List Said). IsTale l due' what) (sym one) (subst (λ (d : List Entered). IsTale saying d what) (sym two) h)

pub not_zero : (n : ℕ) → (n == 0) ≡ false → 0 < n
not_zero zero none = let f : true ≡ false = none in cc
not_zero (suc n) some = omega arith
