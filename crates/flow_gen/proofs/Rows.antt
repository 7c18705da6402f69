-- Goals whose leaves from the left are the events from one number on.
use Rattle.std.proofs.Common.{◌≡◌, ℕ, zero, suc, ◌+◌, ◌*◌, ◌^◌, ◌<◌, ◌≤◌, List, [], ◌∷◌, ◌++◌, length, map, sum, fold, refl, sym, ap, ap₂, ◌∙◌, inl, inr, length-append, arith}
use Rattle.std.proofs.lemmas.List.{map-append}
use Rattle.std.proofs.lemmas.List.Sums.{sum_by-cons}
use Rattle.std.proofs.lemmas.Nat.{pow-add}
use Rattle.flow_model.specs.declared.labels.Label.{Label}
use Rattle.flow_model.specs.declared.labels.Label.TheVariants.{Event}
use Rattle.flow_model.specs.Lists.{◌∈◌, numbers_from}
use Rattle.flow_model.specs.Process.{Process, leaves, IsChoiceFree}
use Rattle.flow_model.specs.Resolution.{resolution_count}
use Rattle.flow_laws.specs.Resolutions.{Resolves}
use Rattle.flow_fold_laws.proofs.Unfoldings.{choice_free_resolves}
use Rattle.flow_facts.specs.Atom.{Atom}
use Rattle.flow_goal.proofs.Numbers.{numbers_from-+}
use Rattle.flow_form.specs.Form.{Shape, named, iso, beside, shapes}
use Rattle.flow_form.specs.Script.{Declared}
use Rattle.flow_form.specs.Names.{event_names}
use Rattle.flow_workflow.specs.Numbers.{event_number}
use Rattle.flow_expand.specs.Expansion.{Expansion, happens, in_turn, at_once, one_of, alone, joined, Becomes, AllBecome, becomes_event, becomes_iso, becomes_serial, becomes_beside, becomes_either, none_becomes, more_become, ends_in, isolations_in}
use Rattle.flow_expand.specs.Numbers.{labels_of, leaf_count, numbered}
use Rattle.flow_gen.specs.declared.kind.Kind.{Kind}
use Rattle.flow_gen.specs.declared.kind.Kind.TheVariants.{Series, Beside, IsolatedBeside, Either}
use Rattle.flow_gen.specs.Generated as made
use Rattle.flow_gen.specs.Generated.{event_name, choices_in, series, block, pairs}

-- the labels of so many events, from that one on
abbrev pub labels_from : List (List ℕ) → ℕ → ℕ → List Label
labels_from events first count = map (λ k. Event (event_number events (event_name k))) (numbers_from first count)

labels_joined : (events : List (List ℕ)) (first m n : ℕ) → labels_from events first m ++ labels_from events (first + m) n ≡ labels_from events first (m + n)
labels_joined events first m n =
    sym (map-append (λ k. Event (event_number events (event_name k))) (numbers_from first m) (numbers_from (first + m) n))
    ∙ ap (λ ns. map (λ k. Event (event_number events (event_name k))) ns) (sym (numbers_from-+ first m n))

-- Its leaves are so many events, from that one on, it has no more isolations, and each of so many choices doubles its resolutions and takes four
-- leaves away.
pub record IsRow (events : List (List ℕ)) (first count choices : ℕ) (e : Expansion) : Type 0 where
  pub labels : (facts : List Atom) → labels_of events facts e ≡ labels_from events first count
  pub ends : ends_in e ≡ count
  pub isolations : isolations_in e ≤ count
  pub resolutions : (next : ℕ) → resolution_count (numbered next e) ≡ 2 ^ choices
  pub taken : (next : ℕ) (q : Process) → Resolves (numbered next e) q → length (leaves q) + 4 * choices ≡ count

row_as : (events : List (List ℕ)) (first count other i j : ℕ) (e : Expansion) → count ≡ other → i ≡ j → IsRow events first count i e → IsRow events first other j e
row_as events first count other i j e same more r = rw (← same, ← more) r

-- both have all of the leaves of two goals, the second behind the first, and their resolutions multiply
record AreBoth (a b e : Expansion) : Type 0 where
  labels : (events : List (List ℕ)) (facts : List Atom) → labels_of events facts e ≡ labels_of events facts a ++ labels_of events facts b
  ends : ends_in e ≡ ends_in a + ends_in b
  isolations : isolations_in e ≡ isolations_in a + isolations_in b
  resolutions : (next : ℕ) → resolution_count (numbered next e) ≡ resolution_count (numbered next a) * resolution_count (numbered (next + leaf_count a) b)
  taken : (next : ℕ) (q : Process) → Resolves (numbered next e) q →
      (x y : Process) × Resolves (numbered next a) x × Resolves (numbered (next + leaf_count a) b) y × (length (leaves q) ≡ length (leaves x) + length (leaves y))

by_turns : (a b : Expansion) → AreBoth a b (in_turn a b)
by_turns a b = record {
  labels = λ events facts. refl;
  ends = refl;
  isolations = refl;
  resolutions = λ next. refl;
  taken = λ next q (x, y, p, r, is). (x, y, p, r, ap (λ (g : Process). length (leaves g)) is ∙ length-append (leaves x) (leaves y));
}

side_by_side : (a b : Expansion) → AreBoth a b (at_once a b)
side_by_side a b = record {
  labels = λ events facts. refl;
  ends = refl;
  isolations = refl;
  resolutions = λ next. refl;
  taken = λ next q (x, y, p, r, is). (x, y, p, r, ap (λ (g : Process). length (leaves g)) is ∙ length-append (leaves x) (leaves y));
}

-- two rows, the second behind the first, are one
row_joined : (events : List (List ℕ)) (first m second n i j : ℕ) (a b e : Expansion) → AreBoth a b e → first + m ≡ second →
    IsRow events first m i a → IsRow events second n j b → IsRow events first (m + n) (i + j) e
row_joined events first m second n i j a b e both behind p q = record {
  labels = λ facts. both.labels events facts ∙ ap₂ ◌++◌ (p.labels facts) (q.labels facts ∙ ap (λ k. labels_from events k n) (sym behind)) ∙ labels_joined events first m n;
  ends = omega (arith, both.ends, p.ends, q.ends);
  isolations = omega (arith, both.isolations, p.isolations, q.isolations);
  resolutions = λ next. both.resolutions next ∙ ap₂ ◌*◌ (p.resolutions next) (q.resolutions (next + leaf_count a)) ∙ sym (pow-add 2 i j);
  taken = λ next g resolves. let (x, y, front, back, long) = both.taken next g resolves in
      omega (arith, long, p.taken next x front, q.taken (next + leaf_count a) y back);
}

all_taken : (g : Process) (count : ℕ) → IsChoiceFree g → length (leaves g) ≡ count → (q : Process) → Resolves g q → length (leaves q) + 0 ≡ count
all_taken g count free long q resolves = let same = ap (λ (p : Process). length (leaves p)) (choice_free_resolves g q free resolves) in omega (arith, same, long)

-- the goal that is written becomes such a one
abbrev pub HasRow : List Declared → ℕ → ℕ → ℕ → Shape → Type 0
HasRow decls first count choices s = (e : Expansion) × (Becomes decls s e × IsRow (event_names decls) first count choices e)

pub choices_more : (k : Kind) (ks : List Kind) → sum (map choices_in (k ∷ ks)) ≡ choices_in k + sum (map choices_in ks)
choices_more k ks = sum_by-cons (λ n. n) (choices_in k) (map choices_in ks)

-- The generated goals

abbrev row_of : ℕ → ℕ → Expansion
row_of first n = joined in_turn (map (λ k. happens (event_name k)) (numbers_from first n))

-- one of two rows of four
either_taken : (first next : ℕ) (q : Process) → Resolves (numbered next (one_of (row_of first 4) (row_of (first + 4) 4))) q → length (leaves q) + 4 ≡ 8
either_taken first next q (inl h) = let four = all_taken (numbered next (row_of first 4)) 4 (((tt, tt), tt), tt) refl q h in omega (arith, four)
either_taken first next q (inr h) = let four = all_taken (numbered (next + 4) (row_of (first + 4) 4)) 4 (((tt, tt), tt), tt) refl q h in omega (arith, four)

-- the declarations have the events below the count
module _ (decls : List Declared) (count : ℕ) (there : (k : ℕ) → k < count → event_name k ∈ event_names decls) where
  all_happen : (first n : ℕ) → first + n ≤ count →
      AllBecome decls (shapes (map (λ k. named (event_name k)) (numbers_from first n))) (map (λ k. happens (event_name k)) (numbers_from first n))
  all_happen first zero fits = none_becomes
  all_happen first (suc n) fits = more_become (becomes_event (there first (omega arith))) (all_happen (first + 1) n (omega arith))

  row_becomes : (first n : ℕ) → first + n ≤ count → Becomes decls (series first n) (row_of first n)
  row_becomes first n fits = becomes_serial (all_happen first n fits)

  -- goals of rows beside each other
  beside_row : (first m n i j : ℕ) (s t : Shape) → HasRow decls first m i s → HasRow decls (first + m) n j t → HasRow decls first (m + n) (i + j) (beside (shapes (s ∷ t ∷ [])))
  beside_row first m n i j s t (e, (b, p)) (f, (c, q)) = (
    at_once e f,
    (becomes_beside (more_become b (more_become c none_becomes)), row_joined (event_names decls) first m (first + m) n i j e f (at_once e f) (side_by_side e f) refl p q),
  )

  four_row : (first : ℕ) → first + 4 ≤ count → HasRow decls first 4 0 (series first 4)
  four_row first fits = (
    row_of first 4,
    (
      row_becomes first 4 fits,
      record { labels = λ facts. refl; ends = refl; isolations = omega arith; resolutions = λ next. refl; taken = λ next. all_taken (numbered next (row_of first 4)) 4 (((tt, tt), tt), tt) refl },
    ),
  )

  block_row : (first : ℕ) (k : Kind) → first + 8 ≤ count → HasRow decls first 8 (choices_in k) (block first k)
  block_row first Series fits = (
    row_of first 8,
    (
      row_becomes first 8 fits,
      record {
        labels = λ facts. refl;
        ends = refl;
        isolations = omega arith;
        resolutions = λ next. refl;
        taken = λ next. all_taken (numbered next (row_of first 8)) 8 (((((((tt, tt), tt), tt), tt), tt), tt), tt) refl;
      },
    ),
  )
  block_row first Beside fits = beside_row first 4 4 0 0 (series first 4) (series (first + 4) 4) (four_row first (omega arith)) (four_row (first + 4) (omega arith))
  block_row first IsolatedBeside fits = beside_row first 4 4 0 0 (iso (series first 4)) (series (first + 4) 4) (
    alone (row_of first 4),
    (
      becomes_iso (row_becomes first 4 (omega arith)),
      record {
        labels = λ facts. refl;
        ends = refl;
        isolations = omega arith;
        resolutions = λ next. refl;
        taken = λ next. all_taken (numbered next (alone (row_of first 4))) 4 (((tt, tt), tt), tt) refl;
      },
    ),
  )
      (four_row (first + 4) (omega arith))
  block_row first Either fits = (
    one_of (row_of first 4) (row_of (first + 4) 4),
    (
      becomes_either (more_become (row_becomes first 4 (omega arith)) (more_become (row_becomes (first + 4) 4 (omega arith)) none_becomes)),
      record {
        labels = λ facts. labels_joined (event_names decls) first 4 4;
        ends = refl;
        isolations = omega arith;
        resolutions = λ next. refl;
        taken = either_taken first;
      },
    ),
  )

  pair_row : (first : ℕ) (j k : Kind) → first + 16 ≤ count → HasRow decls first 16 (choices_in j + choices_in k) (beside (shapes (block first j ∷ block (first + 8) k ∷ [])))
  pair_row first j k fits =
      beside_row first 8 8 (choices_in j) (choices_in k) (block first j) (block (first + 8) k) (block_row first j (omega arith)) (block_row (first + 8) k (omega arith))

  -- and then the pairs that follow a row, one after another
  pairs_row : (ks : List Kind) (first i : ℕ) (a : Expansion) → first + 8 * length ks ≤ count → IsRow (event_names decls) 0 first i a →
      (es : List Expansion) × (AllBecome decls (shapes (pairs first ks)) es × IsRow (event_names decls) 0 (first + 8 * length ks) (i + sum (map choices_in ks)) (fold in_turn a es))
  pairs_row [] first i a fits r = ([], (none_becomes, row_as (event_names decls) 0 first (first + 0) i (i + 0) a (omega arith) (omega arith) r))
  pairs_row (k ∷ []) first i a fits r =
      let (e, (b, q)) = block_row first k (omega arith) in
      let both = row_joined (event_names decls) 0 first first 8 i (choices_in k) a e (in_turn a e) (by_turns a e) (omega arith) r q in
      (e ∷ [], (more_become b none_becomes, row_as (event_names decls) 0 (first + 8) _ (i + choices_in k) _ (in_turn a e) (omega arith) (omega (arith, choices_more k [])) both))
  pairs_row (j ∷ k ∷ ks) first i a fits r =
      let (e, (b, q)) = pair_row first j k (omega arith) in
      let both = row_joined (event_names decls) 0 first first 16 i (choices_in j + choices_in k) a e (in_turn a e) (by_turns a e) (omega arith) r q in
      let (es, (all, whole)) = pairs_row ks (first + 16) (i + (choices_in j + choices_in k)) (in_turn a e) (omega arith) both in (
        e ∷ es,
        (
          more_become {es = es} b all,
          row_as (event_names decls) 0 (first + 16 + 8 * length ks) _ (i + (choices_in j + choices_in k) + sum (map choices_in ks)) _ (fold in_turn (in_turn a e) es)
              (omega arith) (omega (arith, choices_more j (k ∷ ks), choices_more k ks)) whole,
        ),
      )

  turn_becomes : (s : Shape) (ss : List Shape) (e : Expansion) (es : List Expansion) → Becomes decls s e → AllBecome decls (shapes ss) es →
      Becomes decls (made.in_turn (s ∷ ss)) (joined in_turn (e ∷ es))
  turn_becomes s [] e es b none_becomes = b
  turn_becomes s (t ∷ ss) e es b all = becomes_serial (more_become b all)

  pub goal_row : (ks : List Kind) → 1 ≤ length ks → 8 * length ks ≤ count → HasRow decls 0 (8 * length ks) (sum (map choices_in ks)) (made.in_turn (pairs 0 ks))
  goal_row [] some fits = absurd (omega (arith, some))
  goal_row (k ∷ []) some fits =
      let (e, (b, r)) = block_row 0 k (omega arith) in (e, (b, row_as (event_names decls) 0 8 _ (choices_in k) _ e (omega arith) (omega (arith, choices_more k [])) r))
  goal_row (j ∷ k ∷ ks) some fits =
      let (e, (b, r)) = pair_row 0 j k (omega arith) in
      let (es, (all, whole)) = pairs_row ks 16 (choices_in j + choices_in k) e (omega arith) r in (
        joined in_turn (e ∷ es),
        (
          turn_becomes (beside (shapes (block 0 j ∷ block 8 k ∷ []))) (pairs 16 ks) e es b all,
          row_as (event_names decls) 0 (16 + 8 * length ks) _ (choices_in j + choices_in k + sum (map choices_in ks)) _ (joined in_turn (e ∷ es))
              (omega arith) (omega (arith, choices_more j (k ∷ ks), choices_more k ks)) whole,
        ),
      )
