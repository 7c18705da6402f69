-- The parts of a generated workflow.
use Rattle.std.proofs.Common.{◌≡◌, ℕ, zero, suc, ◌+◌, ◌*◌, ◌%◌, ◌<◌, ◌≤◌, Bool, true, false, List, [], ◌∷◌, Some, slice_get, length, map, refl, ap, ◌∙◌, append-nil, arith}
use Rattle.std.specs.List.{flat_map}
use Rattle.flow_model.specs.declared.limits.TheConstants.{MOST_LEAVES}
use Rattle.flow_model.specs.declared.labels.Note.TheVariants.{Done}
use Rattle.flow_model.specs.Lists.{◌∈◌, Each, numbers_from}
use Rattle.flow_model.proofs.Lists.{mem-slice_get, each-append}
use Rattle.flow_form.specs.Form.{Shape, named, beside, shapes, IsGrouped, AreGrouped}
use Rattle.flow_form.specs.RuleForm.{RuleShape, IsGroupedRule}
use Rattle.flow_form.specs.Script.{event}
use Rattle.flow_form.specs.Names.{declared_names, event_names, flow_goal, names_in, names_in_each, names_in_rule}
use Rattle.flow_grammar.specs.Print.{in_serial, in_beside, nest, nesting, nesting_list, rule_nesting}
use Rattle.flow_text.specs.Printable.{IsPrintableGoal, ArePrintableGoals, IsPrintableRule, IsPrintableDeclaration}
use Rattle.flow_expand.specs.Steps.{flow_names}
use Rattle.flow_gen.specs.declared.kind.Kind.{Kind}
use Rattle.flow_gen.specs.declared.kind.Kind.TheVariants.{Series}
use Rattle.flow_gen.specs.Generated.{event_name, series, block, pairs, in_turn, constraints}
use Rattle.flow_gen.proofs.EventNames.{name_is}

-- the name of an event below that number
abbrev pub IsEvent : ℕ → List ℕ → Type 0
IsEvent count name = (k : ℕ) × ((k < count) × (name ≡ event_name k))

-- a goal of events below that number, made as goals must be, and nested no deeper
pub record IsMade (count depth : ℕ) (s : Shape) : Type 0 where
  pub names : Each (IsEvent count) (names_in s)
  pub grouped : IsGrouped s
  pub printable : IsPrintableGoal s
  pub shallow : nesting s ≤ depth

-- the members of a list are
record AreMade (count depth : ℕ) (ss : List Shape) : Type 0 where
  names : Each (IsEvent count) (names_in_each (shapes ss))
  grouped : AreGrouped (shapes ss)
  printable : ArePrintableGoals (shapes ss)
  shallow : (parted : Shape → Bool) → nesting_list parted (shapes ss) ≤ suc depth

nest_le : (b : Bool) (n depth : ℕ) → n ≤ depth → nest b n ≤ suc depth
nest_le true n depth h = omega arith
nest_le false n depth h = omega arith

followed_made : (count depth : ℕ) (s : Shape) (ss : List Shape) → IsMade count depth s → AreMade count depth ss → AreMade count depth (s ∷ ss)
followed_made count depth s ss m h = record {
  names = each-append (IsEvent count) (names_in s) (names_in_each (shapes ss)) m.names h.names;
  grouped = (m.grouped, h.grouped);
  printable = (m.printable, h.printable);
  shallow = λ parted. omega (arith, nest_le (parted s) (nesting s) depth m.shallow, h.shallow parted);
}

none_made : (count depth : ℕ) → AreMade count depth []
none_made count depth = record { names = tt; grouped = tt; printable = tt; shallow = λ parted. omega arith }

-- Goals

module _ (count : ℕ) (few : count ≤ MOST_LEAVES) where
  events_made : (first n : ℕ) → first + n ≤ count → AreMade count 0 (map (λ k. named (event_name k)) (numbers_from first n))
  events_made first zero fits = none_made count 0
  events_made first (suc n) fits =
      followed_made count 0 (named (event_name first)) (map (λ k. named (event_name k)) (numbers_from (first + 1) n))
      (record { names = ((first, (omega arith, refl)), tt); grouped = tt; printable = name_is first (omega arith); shallow = omega arith })
      (events_made (first + 1) n (omega arith))

  series_made : (first n : ℕ) → first + suc (suc n) ≤ count → IsMade count 1 (series first (suc (suc n)))
  series_made first n fits =
      let m = events_made first (suc (suc n)) fits in
      record { names = m.names; grouped = (omega arith, m.grouped); printable = m.printable; shallow = m.shallow in_serial }

  block_made : (first : ℕ) (k : Kind) → first + 8 ≤ count → IsMade count 3 (block first k)
  block_made first k fits = by k
    where
      fours : AreMade count 1 (series first 4 ∷ series (first + 4) 4 ∷ [])
      fours = followed_made count 1 (series first 4) (series (first + 4) 4 ∷ []) (series_made first 2 (omega arith))
          (followed_made count 1 (series (first + 4) 4) [] (series_made (first + 4) 2 (omega arith)) (none_made count 1))

      by : (k : Kind) → IsMade count 3 (block first k)
      by Series = let m = series_made first 6 fits in record { names = m.names; grouped = m.grouped; printable = m.printable; shallow = omega (arith, m.shallow) }
      by other = record { names = fours.names; grouped = (omega arith, fours.grouped); printable = fours.printable; shallow = omega arith }

  pairs_made : (first : ℕ) (ks : List Kind) → first + 8 * length ks ≤ count → AreMade count 4 (pairs first ks)
  pairs_made first [] fits = none_made count 4
  pairs_made first (a ∷ []) fits =
      let m = block_made first a (omega arith) in
      followed_made count 4 (block first a) [] (record { names = m.names; grouped = m.grouped; printable = m.printable; shallow = omega (arith, m.shallow) }) (none_made count 4)
  pairs_made first (a ∷ b ∷ ks) fits =
      let both = followed_made count 3 (block first a) (block (first + 8) b ∷ []) (block_made first a (omega arith))
      (followed_made count 3 (block (first + 8) b) [] (block_made (first + 8) b (omega arith)) (none_made count 3)) in
      followed_made count 4 (beside (shapes (block first a ∷ block (first + 8) b ∷ []))) (pairs (first + 16) ks)
      (record { names = both.names; grouped = (omega arith, both.grouped); printable = both.printable; shallow = both.shallow in_beside })
      (pairs_made (first + 16) ks (omega arith))

  turn_made : (s : Shape) (ss : List Shape) → AreMade count 4 (s ∷ ss) → IsMade count 5 (in_turn (s ∷ ss))
  turn_made s [] m = record {
    names = rw (← append-nil (names_in s)) m.names;
    grouped = m.grouped.0;
    printable = m.printable.0;
    shallow = omega (arith, m.shallow (λ t. false));
  }
  turn_made s (t ∷ ss) m = record { names = m.names; grouped = (omega arith, m.grouped); printable = m.printable; shallow = m.shallow in_serial }

pub goal_made : (count : ℕ) (ks : List Kind) → 1 ≤ length ks → 8 * length ks ≤ count → count ≤ MOST_LEAVES → IsMade count 5 (in_turn (pairs 0 ks))
goal_made count [] some fits few = absurd (omega (arith, some))
goal_made count (a ∷ []) some fits few = turn_made count few (block 0 a) [] (pairs_made count few 0 (a ∷ []) (omega arith))
goal_made count (a ∷ b ∷ ks) some fits few =
    turn_made count few (beside (shapes (block 0 a ∷ block 8 b ∷ []))) (pairs 16 ks) (pairs_made count few 0 (a ∷ b ∷ ks) (omega arith))

-- Constraints

pub record IsRuled (count : ℕ) (r : RuleShape) : Type 0 where
  pub names : Each (IsEvent count) (names_in_rule r)
  pub grouped : IsGroupedRule r
  pub printable : IsPrintableRule r
  pub shallow : rule_nesting r ≤ 200

pub rules_made : (count first : ℕ) (ds : List ℕ) → first + 8 + 4 * length ds ≤ count → count ≤ MOST_LEAVES → Each (IsRuled count) (constraints first ds)
rules_made count first (f ∷ g ∷ ds) fits few = (
  record {
    names = ((first + f % 8, (omega arith, refl)), ((first + 8 + g % 8, (omega arith, refl)), tt));
    grouped = tt;
    printable = (name_is (first + f % 8) (omega arith), name_is (first + 8 + g % 8) (omega arith));
    shallow = omega arith;
  },
  rules_made count (first + 8) ds (omega arith) few,
)
rules_made count first fewer fits few = tt

-- Declarations

-- the names that events declare, and no sub-workflow among them
pub record IsOfEvents (ns : List ℕ) : Type 0 where
  pub names : declared_names (map (λ k. event (event_name k) Done) ns) ≡ map event_name ns
  pub events : event_names (map (λ k. event (event_name k) Done) ns) ≡ map event_name ns
  pub no_goal : flat_map flow_goal (map (λ k. event (event_name k) Done) ns) ≡ []
  pub no_flow : flow_names (map (λ k. event (event_name k) Done) ns) ≡ []

pub declares : (ns : List ℕ) → IsOfEvents ns
declares [] = record { names = refl; events = refl; no_goal = refl; no_flow = refl }
declares (n ∷ ns) = let rest = declares ns in record {
  names = ap (λ names. event_name n ∷ names) rest.names;
  events = ap (λ names. event_name n ∷ names) rest.events;
  no_goal = rest.no_goal;
  no_flow = rest.no_flow;
}

pub declared_printable : (first n : ℕ) → first + n ≤ MOST_LEAVES → Each IsPrintableDeclaration (map (λ k. event (event_name k) Done) (numbers_from first n))
declared_printable first zero few = tt
declared_printable first (suc n) few = ((name_is first (omega arith), tt), declared_printable (first + 1) n (omega arith))

pub get_numbers : {A : Type 0} (f : ℕ → A) (first count i : ℕ) → i < count → slice_get (map f (numbers_from first count)) i ≡ Some (f (first + i))
get_numbers {A} f first zero i h = absurd (omega (arith, h))
get_numbers {A} f first (suc count) zero h = let same : first ≡ first + 0 = omega arith in ap (λ k. Some (f k)) same
get_numbers {A} f first (suc count) (suc i) h =
    let same : first + 1 + i ≡ first + suc i = omega arith in get_numbers f (first + 1) count i (omega (arith, h)) ∙ ap (λ k. Some (f k)) same

-- as many as are counted, from 0 on
pub get_number : {A : Type 0} (f : ℕ → A) (count i : ℕ) → i < count → slice_get (map f (numbers_from 0 count)) i ≡ Some (f i)
get_number {A} f count i h = let plain : 0 + i ≡ i = omega arith in get_numbers f 0 count i h ∙ ap (λ k. Some (f k)) plain

pub event_there : (k count : ℕ) → k < count → event_name k ∈ map event_name (numbers_from 0 count)
event_there k count h = mem-slice_get (map event_name (numbers_from 0 count)) k (event_name k) (get_number event_name count k h)
