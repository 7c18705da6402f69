-- Lists that tell the choices of a goal, and the one list of the choices that stay that tells those of each folded resolution.
use Rattle.std.proofs.Common.{◌≡◌, ℕ, Bool, true, false, if◌then◌else◌, List, [], ◌∷◌, ◌++◌, refl, sym, ap, subst, inl, inr, ⊎_elim, append-nil}
use Rattle.flow_model.specs.Lists.{◌∈◌, AreDistinct}
use Rattle.flow_model.specs.Process.{Process, Sequence, Parallel, Choice, Isolated, leaves, IsChoiceFree}
use Rattle.flow_model.specs.Folding.{is_foldable, choices_of, staying_choices}
use Rattle.flow_model.proofs.Lists.{only_one, mem-append, mem_by_halves, distinct_left, distinct_right, distinct_apart}
use Rattle.flow_laws.proofs.ResolutionsLemmas.{choice_free_resolution}
use Rattle.flow_laws.proofs.FoldingLemmas.{FoldsTo, folds_to, mem-folded_leaves}
use Rattle.flow_fold_laws.specs.SharedFolds.{TellsChoices, StayingChoicesServeEach}

-- Lists that tell choices

module _ {R : Type 0} (Is : (Process × Process) → R → Type 0) where
  pub tells-append : (Other : R → Type 0) (choices more : List (Process × Process)) (list rest : List R) →
      TellsChoices Is Other choices list → TellsChoices Is Other more rest → TellsChoices Is Other (choices ++ more) (list ++ rest)
  tells-append Other choices more [] rest e k = subst (λ (l : List (Process × Process)). TellsChoices Is Other (l ++ more) rest) (sym e) k
  tells-append Other choices more (entry ∷ list) rest h k = ⊎_elim
      (λ (choice, others, e, is, t). inl (choice, others ++ more, ap (λ (l : List (Process × Process)). l ++ more) e, is, tells-append Other others more list rest t k))
      (λ (other, t). inr (other, tells-append Other choices more list rest t k)) h

  pub tells_as : (Other Else : R → Type 0) (choices : List (Process × Process)) (list : List R) → ((entry : R) → entry ∈ list → Other entry → Else entry) →
      TellsChoices Is Other choices list → TellsChoices Is Else choices list
  tells_as Other Else choices [] to e = e
  tells_as Other Else choices (entry ∷ list) to h = ⊎_elim
      (λ (choice, more, e, is, t). inl (choice, more, e, is, tells_as Other Else more list (λ x m. to x (inr m)) t))
      (λ (other, t). inr (to entry (inl refl) other, tells_as Other Else choices list (λ x m. to x (inr m)) t)) h

  tells_none : (Other : R → Type 0) (list : List R) → ((entry : R) → entry ∈ list → Other entry) → TellsChoices Is Other [] list
  tells_none Other [] all = refl
  tells_none Other (entry ∷ list) all = inr (all entry (inl refl), tells_none Other list (λ x m. all x (inr m)))

pub tells_own : (Other : (Process × Process) → Type 0) (choices : List (Process × Process)) → TellsChoices (λ choice entry. choice ≡ entry) Other choices choices
tells_own Other [] = refl
tells_own Other (choice ∷ choices) = inl (choice, choices, refl, refl, tells_own Other choices)

-- The leaves of choices

-- each leaf of each of the choices is one of these
abbrev pub HaveLeavesIn : List ℕ → List (Process × Process) → Type 0
HaveLeavesIn ns choices = (choice : Process × Process) → choice ∈ choices → (n : ℕ) → n ∈ (leaves choice.0 ++ leaves choice.1) → n ∈ ns

halves_have : (a b : Process) (left right : List (Process × Process)) → HaveLeavesIn (leaves a) left → HaveLeavesIn (leaves b) right →
    HaveLeavesIn (leaves a ++ leaves b) (left ++ right)
halves_have a b left right h k choice m n l = mem_by_halves n (leaves a) (leaves b) (λ j. h choice j n l) (λ j. k choice j n l) (mem-append choice left right m)

pub choices_have : (q : Process) → HaveLeavesIn (leaves q) (choices_of q)
choices_have (Sequence a b) choice m n l = halves_have a b (choices_of a) (choices_of b) (choices_have a) (choices_have b) choice m n l
choices_have (Parallel a b) choice m n l = halves_have a b (choices_of a) (choices_of b) (choices_have a) (choices_have b) choice m n l
choices_have (Choice a b) choice m n l = ⊎_elim
    (λ k. halves_have a b (choices_of a) (choices_of b) (choices_have a) (choices_have b) choice k n l)
    (λ k. subst (λ (c : Process × Process). n ∈ (leaves c.0 ++ leaves c.1)) (only_one choice (a, b) k) l)
    (mem-append choice (choices_of a ++ choices_of b) ((a, b) ∷ []) m)
choices_have (Isolated a) choice m n l = choices_have a choice m n l
choices_have leaf choice m n l = absurd m

-- the choices of the whole, where it stays, and else those that stay of its sides
abbrev whole_or : Bool → List (Process × Process) → List (Process × Process) → List (Process × Process)
whole_or stays whole sides = if stays then whole else sides

whole_or_have : (stays : Bool) (ns : List ℕ) (whole sides : List (Process × Process)) → HaveLeavesIn ns whole → HaveLeavesIn ns sides → HaveLeavesIn ns (whole_or stays whole sides)
whole_or_have true ns whole sides h k = h
whole_or_have false ns whole sides h k = k

pub staying_have : (apart : ℕ → Bool) (g : Process) → HaveLeavesIn (leaves g) (staying_choices apart g)
staying_have apart (Sequence a b) choice m n l =
    halves_have a b (staying_choices apart a) (staying_choices apart b) (staying_have apart a) (staying_have apart b) choice m n l
staying_have apart (Parallel a b) choice m n l =
    halves_have a b (staying_choices apart a) (staying_choices apart b) (staying_have apart a) (staying_have apart b) choice m n l
staying_have apart (Choice a b) choice m n l = whole_or_have (is_foldable apart (Choice a b)) (leaves a ++ leaves b) (choices_of (Choice a b)) (staying_choices apart a ++ staying_choices apart b)
    (choices_have (Choice a b)) (halves_have a b (staying_choices apart a) (staying_choices apart b) (staying_have apart a) (staying_have apart b)) choice m n l
staying_have apart leaf choice m n l = absurd m

no_choices : (q : Process) → IsChoiceFree q → choices_of q ≡ []
no_choices (Sequence a b) (f, g) = rw (no_choices a f, no_choices b g) refl
no_choices (Parallel a b) (f, g) = rw (no_choices a f, no_choices b g) refl
no_choices (Choice a b) f = absurd f
no_choices (Isolated a) f = no_choices a f
no_choices leaf f = refl

-- One list for all

abbrev pub HasNoneOf : List ℕ → (Process × Process) → Type 0
HasNoneOf ns entry = (n : ℕ) → n ∈ ns → ¬ (n ∈ (leaves entry.0 ++ leaves entry.1))

abbrev Serves : (ℕ → Bool) → Process → Process → Type 0
Serves apart g q = TellsChoices (λ choice entry. choice ≡ entry) (HasNoneOf (leaves q)) (choices_of q) (staying_choices apart g)

serves_both : (apart : ℕ → Bool) (a b x y : Process) → AreDistinct (leaves a ++ leaves b) → FoldsTo apart a x → FoldsTo apart b y → Serves apart a x → Serves apart b y →
    TellsChoices (λ choice entry. choice ≡ entry) (HasNoneOf (leaves x ++ leaves y)) (choices_of x ++ choices_of y) (staying_choices apart a ++ staying_choices apart b)
serves_both apart a b x y d hx hy left right = tells-append (λ choice entry. choice ≡ entry) (HasNoneOf (leaves x ++ leaves y))
    (choices_of x) (choices_of y) (staying_choices apart a) (staying_choices apart b)
    (tells_as (λ choice entry. choice ≡ entry) (HasNoneOf (leaves x)) (HasNoneOf (leaves x ++ leaves y)) (choices_of x) (staying_choices apart a)
    (λ entry m none n k l. ⊎_elim (λ j. none n j l)
    (λ j. distinct_apart (leaves a) (leaves b) d n (staying_have apart a entry m n l) (mem-folded_leaves apart b y hy n j)) (mem-append n (leaves x) (leaves y) k)) left)
    (tells_as (λ choice entry. choice ≡ entry) (HasNoneOf (leaves y)) (HasNoneOf (leaves x ++ leaves y)) (choices_of y) (staying_choices apart b)
    (λ entry m none n k l. ⊎_elim
    (λ j. distinct_apart (leaves a) (leaves b) d n (mem-folded_leaves apart a x hx n j) (staying_have apart b entry m n l)) (λ j. none n j l) (mem-append n (leaves x) (leaves y) k)) right)

pub serves : (apart : ℕ → Bool) (g q : Process) → AreDistinct (leaves g) → FoldsTo apart g q → Serves apart g q
serves apart (Sequence a b) q d (x, y, hx, hy, e) = subst (Serves apart (Sequence a b)) (sym e) (serves_both apart a b x y d hx hy
    (serves apart a x (distinct_left (leaves a) (leaves b) d) hx) (serves apart b y (distinct_right (leaves a) (leaves b) d) hy))
serves apart (Parallel a b) q d (x, y, hx, hy, e) = subst (Serves apart (Parallel a b)) (sym e) (serves_both apart a b x y d hx hy
    (serves apart a x (distinct_left (leaves a) (leaves b) d) hx) (serves apart b y (distinct_right (leaves a) (leaves b) d) hy))
serves apart (Choice a b) q d (inl (stays, e)) = subst (Serves apart (Choice a b)) (sym e)
    (subst (λ (fold : Bool). TellsChoices (λ choice entry. choice ≡ entry) (HasNoneOf (leaves a ++ leaves b)) (choices_of (Choice a b))
    (whole_or fold (choices_of (Choice a b)) (staying_choices apart a ++ staying_choices apart b))) (sym stays)
    (tells_own (HasNoneOf (leaves a ++ leaves b)) (choices_of (Choice a b))))
serves apart (Choice a b) q d (inr (goes, inl h)) =
    subst (λ (fold : Bool). TellsChoices (λ choice entry. choice ≡ entry) (HasNoneOf (leaves q)) (choices_of q)
    (whole_or fold (choices_of (Choice a b)) (staying_choices apart a ++ staying_choices apart b))) (sym goes)
    (subst (λ (l : List (Process × Process)). TellsChoices (λ choice entry. choice ≡ entry) (HasNoneOf (leaves q)) l (staying_choices apart a ++ staying_choices apart b))
    (append-nil (choices_of q))
    (tells-append (λ choice entry. choice ≡ entry) (HasNoneOf (leaves q)) (choices_of q) [] (staying_choices apart a) (staying_choices apart b)
    (serves apart a q (distinct_left (leaves a) (leaves b) d) h)
    (tells_none (λ choice entry. choice ≡ entry) (HasNoneOf (leaves q)) (staying_choices apart b)
    (λ entry m n k l. distinct_apart (leaves a) (leaves b) d n (mem-folded_leaves apart a q h n k) (staying_have apart b entry m n l)))))
serves apart (Choice a b) q d (inr (goes, inr h)) =
    subst (λ (fold : Bool). TellsChoices (λ choice entry. choice ≡ entry) (HasNoneOf (leaves q)) (choices_of q)
    (whole_or fold (choices_of (Choice a b)) (staying_choices apart a ++ staying_choices apart b))) (sym goes)
    (tells-append (λ choice entry. choice ≡ entry) (HasNoneOf (leaves q)) [] (choices_of q) (staying_choices apart a) (staying_choices apart b)
    (tells_none (λ choice entry. choice ≡ entry) (HasNoneOf (leaves q)) (staying_choices apart a)
    (λ entry m n k l. distinct_apart (leaves a) (leaves b) d n (staying_have apart a entry m n l) (mem-folded_leaves apart b q h n k)))
    (serves apart b q (distinct_right (leaves a) (leaves b) d) h))
serves apart (Isolated a) q d (x, h, e) = subst (Serves apart (Isolated a)) (sym e) (no_choices x (choice_free_resolution a x h))
serves apart leaf q d e = subst (Serves apart leaf) (sym e) refl

pub staying_choices_serve_each : StayingChoicesServeEach
staying_choices_serve_each apart g q d m = serves apart g q d (folds_to apart g q m)
