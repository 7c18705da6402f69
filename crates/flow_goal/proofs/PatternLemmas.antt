-- Texts of resolutions, put together.
use Rattle.std.proofs.Common.{◌≡◌, ◌≤◌, ◌<◌, ℕ, ◌+◌, ◌-◌, ◌*◌, ◌/◌, ◌%◌, ◌^◌, List, [], ◌∷◌, ◌++◌, length, map, refl, sym, ap, ◌∙◌, subst, arith, append_assoc, append-nil, length-append, Option, Some, None, slice_get, option_map, Bool, true, false}
use Rattle.std.proofs.Math.Nat.{le-mul_of_pos_right, mul_comm, div-lt_iff_lt-mul, mod-lt, min-eq_left}
use Rattle.std.proofs.lemmas.Nat.{div-add-mod'}
use Rattle.std.proofs.lemmas.List.{length-map, map-append, map-id}
use Rattle.std.proofs.lemmas.Option.{slice_get-map}
use Rattle.std.proofs.lemmas.Simd.{map-map}
use Rattle.flow_model.specs.Lists.{each_with_each}
use Rattle.flow_model.specs.Process.{Process, Sequence, Parallel, Choice, Isolated, leaves}
use Rattle.flow_model.specs.Resolution.{resolutions}
use Rattle.flow_model.specs.Folding.{fixed_leaves, folded_count, folded_resolutions, is_foldable}
use Rattle.flow_laws.proofs.FoldingLemmas.{length-folded}
use Rattle.flow_model.proofs.MadeLists.{length-each_with_each, slice_get-each_with_each, slice_get_append_right, flat_map_end}
use Rattle.flow_model.proofs.Lists.{slice_get_append_left}
use Rattle.flow_goal.specs.declared.node.Node.{Node}
use Rattle.flow_goal.specs.declared.node.Node.TheVariants.{Serial, Fork, Split, Join, Open, Close}
use Rattle.flow_goal.specs.declared.text.Text.{Text}
use Rattle.flow_goal.specs.declared.pattern.Pattern.{Pattern, Fixed, Both', Either'}
use Rattle.flow_goal.specs.declared.draft.Draft.{Draft}
use Rattle.flow_goal.specs.Written.{nodes_of}
use Rattle.flow_goal.specs.Folds.{flags_in}
use Rattle.flow_goal.specs.Pattern.{GathersBy, IsCounted, IsLineOf, Lays, LaysBy, Line, Writes, drafted, line, line_of, lines_in, lines_of, lines_of_all, nothing, then}
use Rattle.flow_goal.proofs.FoldsLemmas.{all_resolved, goes_folded, isolated_flags, stays_folded}
use Rattle.flow_goal.proofs.Counting.{product_capped}
use Rattle.flow_goal.proofs.EachLists.{each_assoc}
use Rattle.flow_goal.specs.Capped.{capped}

-- lines after one another

abbrev both : List Line → List Line → List Line
both ss ts = each_with_each then ss ts

then_assoc : (s t u : Line) → then (then s t) u ≡ then s (then t u)
then_assoc s t u = λ i. record {
  nodes = append_assoc s.nodes t.nodes u.nodes i;
  leaves = append_assoc s.leaves t.leaves u.leaves i;
  fixed = append_assoc s.fixed t.fixed u.fixed i;
}

lines_assoc : (ss ts us : List Line) → both (both ss ts) us ≡ both ss (both ts us)
lines_assoc ss ts us = each_assoc then then_assoc ss ts us

pub nothing_first : (ls : List Line) → both (nothing ∷ []) ls ≡ ls
nothing_first ls = append-nil (map (then nothing) ls) ∙ map-id ls

pub nothing_last : (ls : List Line) → both ls (nothing ∷ []) ≡ ls
nothing_last [] = refl
nothing_last (l ∷ ls) = λ i. record { nodes = append-nil l.nodes i; leaves = append-nil l.leaves i; fixed = append-nil l.fixed i } ∷ nothing_last ls i

after_one : (s : Line) (ls : List Line) → both (s ∷ []) ls ≡ map (then s) ls
after_one s ls = append-nil (map (then s) ls)

before_one : (ls : List Line) (s : Line) → both ls (s ∷ []) ≡ map (λ l. then l s) ls
before_one [] s = refl
before_one (l ∷ ls) s = ap (λ w. then l s ∷ w) (before_one ls s)

-- the lines of a goal by those of its parts

abbrev pub mark : Node → Line
mark node = record { nodes = node ∷ []; leaves = []; fixed = [] }

module _ (f : Process → Process → Process) (p r : Process → Line) (same : (x y : Process) → then (p x) (r y) ≡ line (f x y)) where
  lines_of_row : (x : Process) (ys : List Process) → map (then (p x)) (map r ys) ≡ map line (map (f x) ys)
  lines_of_row x [] = refl
  lines_of_row x (y ∷ ys) = λ i. same x y i ∷ lines_of_row x ys i

  lines_of_each : (xs ys : List Process) → both (map p xs) (map r ys) ≡ map line (each_with_each f xs ys)
  lines_of_each [] ys = refl
  lines_of_each (x ∷ xs) ys =
      (λ i. lines_of_row x ys i ++ lines_of_each xs ys i) ∙ sym (map-append line (map (f x) ys) (each_with_each f xs ys))

ended : (qs : List Process) (node : Node) → both (map line qs) (mark node ∷ []) ≡ map (λ q. then (line q) (mark node)) qs
ended qs node = before_one (map line qs) (mark node) ∙ map-map (λ l. then l (mark node)) line qs

pub sequence_lines : (apart : ℕ → Bool) (a b : Process) →
    both (both (lines_in apart a) (lines_in apart b)) (mark Serial ∷ []) ≡ lines_in apart (Sequence a b)
sequence_lines apart a b =
    lines_assoc (lines_in apart a) (lines_in apart b) (mark Serial ∷ []) ∙ ap (both (lines_in apart a)) (ended (folded_resolutions apart b) Serial)
    ∙ lines_of_each Sequence line (λ y. then (line y) (mark Serial))
    (λ x y i. record {
      nodes = nodes_of (Sequence x y);
      leaves = leaves x ++ append-nil (leaves y) i;
      fixed = fixed_leaves x ++ append-nil (fixed_leaves y) i;
    }) (folded_resolutions apart a) (folded_resolutions apart b)

pub parallel_lines : (apart : ℕ → Bool) (a b : Process) →
    both (both (both (both (mark Fork ∷ []) (lines_in apart a)) (mark Split ∷ [])) (lines_in apart b)) (mark Join ∷ []) ≡ lines_in apart (Parallel a b)
parallel_lines apart a b =
    let xs = folded_resolutions apart a in
    let ys = folded_resolutions apart b in
    let first = both (mark Fork ∷ []) (map line xs) in
    lines_assoc (both first (mark Split ∷ [])) (map line ys) (mark Join ∷ [])
    ∙ lines_assoc first (mark Split ∷ []) (both (map line ys) (mark Join ∷ []))
    ∙ (λ i. both ((after_one (mark Fork) (map line xs) ∙ map-map (then (mark Fork)) line xs) i)
    ((ap (both (mark Split ∷ [])) (ended ys Join) ∙ after_one (mark Split) (map (λ y. then (line y) (mark Join)) ys)
    ∙ map-map (then (mark Split)) (λ y. then (line y) (mark Join)) ys) i))
    ∙ lines_of_each Parallel (λ x. then (mark Fork) (line x)) (λ y. then (mark Split) (then (line y) (mark Join)))
    (λ x y i. record {
      nodes = nodes_of (Parallel x y);
      leaves = leaves x ++ append-nil (leaves y) i;
      fixed = fixed_leaves x ++ append-nil (fixed_leaves y) i;
    }) xs ys

lines_inside : (qs : List Process) → map (λ l. then l (mark Close)) (map (then (mark Open)) (map line qs)) ≡ map line (map Isolated qs)
lines_inside [] = refl
lines_inside (q ∷ qs) = λ i. record {
  nodes = nodes_of (Isolated q);
  leaves = append-nil (leaves q) i;
  fixed = append-nil (fixed_leaves q) i;
} ∷ lines_inside qs i

pub isolated_lines : (apart : ℕ → Bool) (a : Process) →
    both (both (mark Open ∷ []) (map line (resolutions a))) (mark Close ∷ []) ≡ lines_in apart (Isolated a)
isolated_lines apart a =
    ap (λ ls. both ls (mark Close ∷ [])) (after_one (mark Open) (map line (resolutions a)))
    ∙ before_one (map (then (mark Open)) (map line (resolutions a))) (mark Close) ∙ lines_inside (resolutions a)

-- those of the two sides of a choice that does not stay
pub choice_lines : (apart : ℕ → Bool) (a b : Process) → is_foldable apart (Choice a b) ≡ false →
    lines_in apart a ++ lines_in apart b ≡ lines_in apart (Choice a b)
choice_lines apart a b goes =
    sym (ap (map line) (goes_folded apart a b goes) ∙ map-append line (folded_resolutions apart a) (folded_resolutions apart b))

-- that of one that stays
pub choice_line : (apart : ℕ → Bool) (a b : Process) → is_foldable apart (Choice a b) ≡ true → line (Choice a b) ∷ [] ≡ lines_in apart (Choice a b)
choice_line apart a b stays = sym (ap (map line) (stays_folded apart a b stays))

pub lines_count : (apart : ℕ → Bool) (g : Process) (ls : List Line) → ls ≡ lines_in apart g → length ls ≡ folded_count apart g
lines_count apart g ls e = ap length e ∙ length-map (folded_resolutions apart g) line ∙ length-folded apart g

-- what is put into a text

pub mark_put : (old new : Text) (node : Node) → new.nodes.items ≡ old.nodes.items ++ node ∷ [] → new.leaves.items ≡ old.leaves.items →
    new.fixed.items ≡ old.fixed.items → line_of new ≡ then (line_of old) (mark node)
mark_put old new node e f h = λ i. record {
  nodes = e i;
  leaves = (f ∙ sym (append-nil old.leaves.items)) i;
  fixed = (h ∙ sym (append-nil old.fixed.items)) i;
}

-- what is put into a draft

pub put_laid : (old new : Draft) (l : Line) → new.before ≡ old.before → line_of new.last ≡ then (line_of old.last) l → Lays (l ∷ []) old new
put_laid old new l same is = record {
  counted = λ h. subst IsCounted (sym same) h;
  laid = (λ i. both (lines_of (same i)) (is i ∷ [])) ∙ sym (lines_assoc (lines_of old.before) (line_of old.last ∷ []) (l ∷ []));
}

pub laid_more : (ss ts : List Line) (old mid new : Draft) → Lays ss old mid → Lays ts mid new → Lays (both ss ts) old new
laid_more ss ts old mid new p q = record {
  counted = λ h. q.counted (p.counted h);
  laid = q.laid ∙ ap (λ l. both l ts) p.laid ∙ lines_assoc (drafted old) ss ts;
}

-- a choice comes next, after which nothing is written
pub chosen : (old new : Draft) (ls : List Line) → IsCounted new.before → lines_of new.before ≡ both (drafted old) ls → line_of new.last ≡ nothing → Lays ls old new
chosen old new ls counted e none = record {
  counted = λ _. counted;
  laid = (λ i. both (e i) (none i ∷ [])) ∙ nothing_last (both (drafted old) ls);
}

pub laid_first : (old new : Draft) (ls : List Line) → lines_of old.before ≡ nothing ∷ [] → line_of old.last ≡ nothing → Lays ls old new → drafted new ≡ ls
laid_first old new ls e f p = p.laid ∙ (λ i. both (both (e i) (f i ∷ [])) ls) ∙ nothing_first ls

-- What is laid by flags

-- the flags of two parts, and those that follow
two_flags : (flags xs ys more : List Bool) → flags ≡ (xs ++ ys) ++ more → flags ≡ xs ++ (ys ++ more)
two_flags flags xs ys more e = e ∙ append_assoc xs ys more

pub sequence_laid : (a b : Process) (flags middle left : List Bool) (old mid next new : Draft) → LaysBy a flags middle old mid → LaysBy b middle left mid next →
    Lays (mark Serial ∷ []) next new → LaysBy (Sequence a b) flags left old new
sequence_laid a b flags middle left old mid next new p q r = λ apart more e.
    let (at, first) = p apart (flags_in apart false b ++ more) (two_flags flags (flags_in apart false a) (flags_in apart false b) more e) in
    let (end, second) = q apart more at in (
      end,
      subst (λ ls. Lays ls old new) (sequence_lines apart a b)
          (laid_more (both (lines_in apart a) (lines_in apart b)) (mark Serial ∷ []) old next new
          (laid_more (lines_in apart a) (lines_in apart b) old mid next first second) r),
    )

pub parallel_laid : (a b : Process) (flags middle left : List Bool) (old fork one split two new : Draft) → Lays (mark Fork ∷ []) old fork →
    LaysBy a flags middle fork one → Lays (mark Split ∷ []) one split → LaysBy b middle left split two → Lays (mark Join ∷ []) two new →
    LaysBy (Parallel a b) flags left old new
parallel_laid a b flags middle left old fork one split two new f p s q j = λ apart more e.
    let (at, first) = p apart (flags_in apart false b ++ more) (two_flags flags (flags_in apart false a) (flags_in apart false b) more e) in
    let (end, second) = q apart more at in
    let forked = both (mark Fork ∷ []) (lines_in apart a) in
    let half = both forked (mark Split ∷ []) in (
      end,
      subst (λ ls. Lays ls old new) (parallel_lines apart a b)
          (laid_more (both half (lines_in apart b)) (mark Join ∷ []) old two new
          (laid_more half (lines_in apart b) old split two
          (laid_more forked (mark Split ∷ []) old one split (laid_more (mark Fork ∷ []) (lines_in apart a) old fork one f first) s) second) j),
    )

-- in an isolated part each leaf keeps choices apart, so that none stays
abbrev everywhere : ℕ → Bool
everywhere n = true

pub isolated_laid : (a : Process) (flags left : List Bool) (old mid next new : Draft) → Lays (mark Open ∷ []) old mid → LaysBy a flags left mid next →
    Lays (mark Close ∷ []) next new → LaysBy (Isolated a) flags left old new
isolated_laid a flags left old mid next new p q r = λ apart more e.
    let (end, inside) = q everywhere more (e ∙ ap (λ f. f ++ more) (isolated_flags apart a)) in
    let laid : Lays (map line (resolutions a)) mid next = subst (λ qs. Lays (map line qs) mid next) (all_resolved a) inside in (
      end,
      subst (λ ls. Lays ls old new) (isolated_lines apart a)
          (laid_more (both (mark Open ∷ []) (map line (resolutions a))) (mark Close ∷ []) old next new
          (laid_more (mark Open ∷ []) (map line (resolutions a)) old mid next p laid) r),
    )

-- one pattern more
pub side_gathered : (g : Process) (flags left : List Bool) (draft laid : Draft) (side : Pattern) (old new : List Pattern) → lines_of draft.before ≡ nothing ∷ [] →
    line_of draft.last ≡ nothing → LaysBy g flags left draft laid → lines_of side ≡ drafted laid → new ≡ old ++ side ∷ [] → GathersBy g flags left old new
side_gathered g flags left draft laid side old new before last p is behind = λ apart more e.
    let (end, lays) = p apart more e in (
      end,
      ap lines_of_all behind ∙ flat_map_end lines_of old side
          ∙ ap (λ ls. lines_of_all old ++ ls) (is ∙ laid_first draft laid (lines_in apart g) before last lays),
    )

-- how many patterns a pattern is made of
abbrev pub pattern_size : Pattern → ℕ
pattern_size (Fixed text) = 1
pattern_size (Both' count p a q b) = pattern_size a + pattern_size b + 1
pattern_size (Either' count p a q b) = pattern_size a + pattern_size b + 1

-- the numbers of resolutions

some_line : (p : Pattern) → 0 < length (lines_of p)
some_line (Fixed text) = omega arith
some_line (Both' count p a q b) =
    omega (arith, length-each_with_each then (lines_of a) (lines_of b), le-mul_of_pos_right (length (lines_of a)) (some_line b), some_line a)
some_line (Either' count p a q b) = omega (arith, length-append (lines_of a) (lines_of b), some_line a)

pub both_counted : (a b : Pattern) (m n : ℕ) → m ≡ capped (length (lines_of a)) → n ≡ capped (length (lines_of b)) →
    capped (m * n) ≡ capped (length (lines_of a) * length (lines_of b))
both_counted a b m n e f =
    (λ i. capped (e i * f i)) ∙ product_capped (2 ^ 64 - 1) (length (lines_of a)) (length (lines_of b))

-- a number of both parts is a number of each
pub record IsSplit (xs ys : List Line) (number count : ℕ) : Type 0 where
  pub count_is : count ≡ length ys
  pub some : 0 < count
  pub first : number / count < length xs
  pub second : number % count < length ys
  pub first_exact : length xs < 2 ^ 64 - 1
  pub second_exact : length ys < 2 ^ 64 - 1

pub split : (ls : List Line) (a b : Pattern) (number count : ℕ) → ls ≡ both (lines_of a) (lines_of b) → count ≡ capped (length (lines_of b)) →
    number < length ls → length ls < 2 ^ 64 - 1 → IsSplit (lines_of a) (lines_of b) number count
split ls a b number count is kept_is below exact =
    let x = length (lines_of a) in
    let y = length (lines_of b) in
    let some_b : 0 < y = some_line b in
    let all : length ls ≡ x * y = ap length is ∙ length-each_with_each then (lines_of a) (lines_of b) in
    let le_a : x ≤ x * y = le-mul_of_pos_right x some_b in
    let le_b : y ≤ y * x = le-mul_of_pos_right y (some_line a) in
    let swap : y * x ≡ x * y = mul_comm y x in
    let le : y ≤ 2 ^ 64 - 1 = omega arith in
    let same : count ≡ y = kept_is ∙ min-eq_left le in
    let lt : number < x * y = omega arith in
    record {
      count_is = same;
      some = omega arith;
      first = subst (λ n. number / n < x) (sym same) ((div-lt_iff_lt-mul some_b).1 lt);
      second = subst (λ n. number % n < y) (sym same) (mod-lt number some_b);
      first_exact = omega arith;
      second_exact = omega arith;
    }

-- what is written of a number

pub wrote_both : (ls xs ys : List Line) (number count : ℕ) (old mid new : Text) → ls ≡ both xs ys → count ≡ length ys →
    Writes xs (number / count) old mid → Writes ys (number % count) mid new → Writes ls number old new
wrote_both ls xs ys number count old mid new is same (s, p, e) (t, q, f) = (
  then s t,
  ap (λ l. slice_get l number) is
      ∙ subst (λ n. slice_get (both xs ys) n ≡ Some (then s t)) (ap (λ n. number / count * n + number % count) (sym same) ∙ div-add-mod' number count)
      (slice_get-each_with_each then xs ys (number / count) (number % count) s t p q),
  f ∙ ap (λ l. then l t) e ∙ then_assoc (line_of old) s t,
)

pub wrote_left : (ls xs ys : List Line) (number : ℕ) (old new : Text) → ls ≡ xs ++ ys → Writes xs number old new → Writes ls number old new
wrote_left ls xs ys number old new are (l, at, is) = (l, ap (λ l. slice_get l number) are ∙ slice_get_append_left xs ys number l at, is)

pub wrote_right : (ls xs ys : List Line) (number count : ℕ) (old new : Text) → ls ≡ xs ++ ys → count ≡ capped (length xs) → length ls < 2 ^ 64 - 1 →
    count ≤ number → Writes ys (number - count) old new → Writes ls number old new
wrote_right ls xs ys number count old new are kept_is exact le (l, at, is) =
    let all : length ls ≡ length xs + length ys = ap length are ∙ length-append xs ys in
    let few : length xs ≤ 2 ^ 64 - 1 = omega arith in
    let same : count ≡ length xs = kept_is ∙ min-eq_left few in
    let back : number ≡ length xs + (number - count) = omega arith in
    (l, ap (λ l. slice_get l number) are ∙ ap (slice_get (xs ++ ys)) back ∙ slice_get_append_right xs ys (number - count) ∙ at, is)

found : (o : Option Process) (l : Line) → option_map line o ≡ Some l → (q : Process) × (o ≡ Some q) × (l ≡ line q)
found None l e = cc
found (Some q) l e = (q, refl, cc)

pub resolution_written : (apart : ℕ → Bool) (g : Process) (ls : List Line) (number : ℕ) (old new : Text) → ls ≡ lines_in apart g → line_of old ≡ nothing →
    Writes ls number old new → IsLineOf apart g number new
resolution_written apart g ls number old new are none (l, at, is) =
    let (q, e, f) = found (slice_get (folded_resolutions apart g) number) l
    (sym (slice_get-map line (folded_resolutions apart g) number) ∙ sym (ap (λ ls. slice_get ls number) are) ∙ at) in
    (q, e, is ∙ ap (λ s. then s l) none ∙ f)
