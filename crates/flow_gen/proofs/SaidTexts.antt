-- A generated text says the workflow that it was made from.
use Rattle.std.proofs.Common.{◌≡◌, ℕ, ◌+◌, ◌-◌, ◌*◌, ◌≤◌, List, [], ◌∷◌, ◌++◌, length, map, take, drop, Ok, Err, refl, sym, ap, subst, ◌∙◌, arith, length-drop}
use Rattle.std.specs.List.{flat_map}
use Rattle.std.proofs.lemmas.List.{length-take-le, length-map}
use Rattle.flow_model.specs.declared.limits.TheConstants.{GREATEST_DEPTH, GREATEST_SIZE}
use Rattle.flow_model.specs.declared.labels.Note.TheVariants.{Done}
use Rattle.flow_model.specs.Lists.{◌∈◌, Each, numbers_from, AreDistinct}
use Rattle.flow_model.proofs.Lists.{each-append, each_to}
use Rattle.flow_form.specs.declared.refusal.TextRefusal.{TextRefusal}
use Rattle.flow_form.specs.declared.refusal.TextRefusal.TheVariants.{NoMemory}
use Rattle.flow_form.specs.Form.{Shape, IsGrouped}
use Rattle.flow_form.specs.RuleForm.{RuleShape, IsGroupedRule}
use Rattle.flow_form.specs.Script.{event, Said}
use Rattle.flow_form.specs.Names.{declared_names, event_names, goals_of, names_in, names_in_rule, HasGoodNames}
use Rattle.flow_grammar.specs.Print.{nesting, rule_nesting, IsWithin}
use Rattle.flow_grammar.specs.Made.{IsWellMade}
use Rattle.flow_text.specs.Printable.{IsPrintable, IsPrintableRule}
use Rattle.flow_text.specs.Saying.{Says}
use Rattle.flow_text.specs.Parser.{IsParseRefusal}
use Rattle.flow_text.proofs.SaidLaws.{prints_say_it}
use Rattle.flow_text.proofs.OneAnswer.{texts_have_one_answer}
use Rattle.flow_model.proofs.MadeLists.{length-numbers_from}
use Rattle.flow_gen.specs.Generated.{event_name, all_draws, kinds, generated}
use Rattle.flow_gen.proofs.Steps.{draws_length, kinds_length}
use Rattle.flow_gen.specs.Laws.{TextsSayTheirWorkflow, TextsAreRead, WorkflowsAreClosed}
use Rattle.flow_gen.proofs.EventNames.{distinct_names}
use Rattle.flow_gen.proofs.Parts.{IsEvent, IsMade, goal_made, IsRuled, rules_made, declares, declared_printable, event_there}

pub kind_count : (seed size : ℕ) → length (kinds 0 (take size (all_draws seed size))) ≡ size
kind_count seed size =
    let all : length (all_draws seed size) ≡ size + 2 * (size - 1) = draws_length seed (size + 2 * (size - 1)) in
    kinds_length 0 (take size (all_draws seed size)) ∙ length-take-le size (all_draws seed size) (omega (arith, all))

pub rule_draws : (seed size : ℕ) → length (drop size (all_draws seed size)) ≡ 2 * (size - 1)
rule_draws seed size =
    let all : length (all_draws seed size) ≡ size + 2 * (size - 1) = draws_length seed (size + 2 * (size - 1)) in
    length-drop size (all_draws seed size) ∙ omega (arith, all)

pub event_declared : (seed size : ℕ) (n : List ℕ) → IsEvent (8 * size) n → (n ∈ event_names (generated seed size).decls) × (n ∈ declared_names (generated seed size).decls)
event_declared seed size n (k, (h, e)) =
    let names = declares (numbers_from 0 (8 * size)) in
    let there = subst (λ m. m ∈ map event_name (numbers_from 0 (8 * size))) (sym e) (event_there k (8 * size) h) in
    (subst (λ ns. n ∈ ns) (sym names.events) there, subst (λ ns. n ∈ ns) (sym names.names) there)

-- what the only goal has
of_goals : (P : Shape → Type 0) (seed size : ℕ) → P (generated seed size).goal → Each P (goals_of (generated seed size))
of_goals P seed size h =
    subst (Each P) (sym (ap (λ (gs : List Shape). gs ++ (generated seed size).goal ∷ []) (declares (numbers_from 0 (8 * size))).no_goal)) (h, tt)

each-flat_map : {A B : Type 0} (P : B → Type 0) (f : A → List B) (xs : List A) → Each (λ x. Each P (f x)) xs → Each P (flat_map f xs)
each-flat_map P f [] h = tt
each-flat_map P f (x ∷ xs) (m, h) = each-append P (f x) (flat_map f xs) m (each-flat_map P f xs h)

module _ (seed size : ℕ) (some : 1 ≤ size) (few : size ≤ GREATEST_SIZE) where
  goal_is : IsMade (8 * size) 5 (generated seed size).goal
  goal_is =
      let e = kind_count seed size in
      goal_made (8 * size) (kinds 0 (take size (all_draws seed size))) (omega (arith, e, some)) (omega (arith, e)) (omega (arith, few))

  rules_have : (P : RuleShape → Type 0) → ((r : RuleShape) → IsRuled (8 * size) r → P r) → Each P (generated seed size).rules
  rules_have P to =
      let e = rule_draws seed size in
      each_to (IsRuled (8 * size)) P (generated seed size).rules to (rules_made (8 * size) 0 (drop size (all_draws seed size)) (omega (arith, e, some)) (omega (arith, few)))

  pub names_are_good : HasGoodNames (generated seed size)
  names_are_good =
      let s = generated seed size in record {
        in_goals = each-flat_map (λ n. n ∈ declared_names s.decls) names_in (goals_of s) (of_goals (λ g. Each (λ n. n ∈ declared_names s.decls) (names_in g)) seed size
            (each_to (IsEvent (8 * size)) (λ n. n ∈ declared_names s.decls) (names_in s.goal) (λ n m. (event_declared seed size n m).1) goal_is.names));
        in_rules = each-flat_map (λ n. n ∈ event_names s.decls) names_in_rule s.rules (rules_have (λ r. Each (λ n. n ∈ event_names s.decls) (names_in_rule r))
            (λ r m. each_to (IsEvent (8 * size)) (λ n. n ∈ event_names s.decls) (names_in_rule r) (λ n i. (event_declared seed size n i).0) m.names));
        once = subst (λ (ns : List (List ℕ)). AreDistinct ns) (sym (declares (numbers_from 0 (8 * size))).names) (distinct_names 0 (8 * size) (omega (arith, few)));
      }

  is_printable : IsPrintable (generated seed size)
  is_printable = record {
    decls = declared_printable 0 (8 * size) (omega (arith, few));
    goal = goal_is.printable;
    rules = rules_have IsPrintableRule (λ r m. m.printable);
  }

  is_well_made : IsWellMade (generated seed size)
  is_well_made = (of_goals IsGrouped seed size goal_is.grouped, rules_have IsGroupedRule (λ r m. m.grouped))

  is_within : IsWithin (generated seed size)
  is_within = (of_goals (λ g. nesting g ≤ GREATEST_DEPTH) seed size (omega (arith, goal_is.shallow)), rules_have (λ r. rule_nesting r ≤ GREATEST_DEPTH) (λ r m. m.shallow))

pub texts_say_it : TextsSayTheirWorkflow
texts_say_it seed size some few =
    prints_say_it (generated seed size) (is_printable seed size some few) (is_well_made seed size some few) (is_within seed size some few) (names_are_good seed size some few)

none_refuses : (text : List ℕ) (s : Said) (refusal : TextRefusal) → Says text s → IsParseRefusal text refusal → refusal ≡ NoMemory
none_refuses text s NoMemory says h = refl
none_refuses text s refusal says h = let e : Ok s ≡ Err refusal = texts_have_one_answer text (Ok s) (Err refusal) says (h, λ e. cc) in cc

pub texts_are_read : TextsAreRead
texts_are_read seed size refusal some few h = none_refuses _ (generated seed size) refusal (texts_say_it seed size some few) h

pub workflows_are_closed : WorkflowsAreClosed
workflows_are_closed seed size some few =
    record {
      named = names_are_good seed size some few;
      grouped = (is_well_made seed size some few).0;
      few = omega (arith, length-map (numbers_from 0 (8 * size)) (λ k. event (event_name k) Done), length-numbers_from 0 (8 * size), few);
    }
