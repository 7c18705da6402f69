-- What a workflow that is laid says of the refusals.
use Rattle.std.proofs.Common.{◌≡◌, ℕ, ◌+◌, ◌<◌, ◌≤◌, max, List, ◌++◌, length, map, get_or, take, sym, ap, ◌∙◌, subst, arith, Result, Ok, Err}
use Rattle.std.specs.Result.{IfErr, IsErrAnd}
use Rattle.std.proofs.lemmas.List.{length-append}
use Rattle.flow_model.specs.declared.limits.TheConstants.{MOST_FLOWS, MOST_LEAVES, MOST_RULE_NAMES}
use Rattle.flow_model.specs.Lists.{◌∈◌, Each}
use Rattle.flow_form.specs.declared.rule_form.RuleForm.{RuleForm}
use Rattle.flow_form.specs.Form.{Shape}
use Rattle.flow_form.specs.RuleForm.{rule_shapes, rule_shape_of}
use Rattle.flow_form.specs.Script.{Declared, flow, Said}
use Rattle.flow_form.specs.Names.{names_in_rule, names_in_rules, declared_names, event_names, IsClosed}
use Rattle.flow_expand.specs.declared.directory.Directory.{Directory}
use Rattle.flow_expand.specs.declared.layout.Piece.{Piece}
use Rattle.flow_expand.specs.declared.layout.Root.{Root}
use Rattle.flow_expand.specs.declared.lay.Stage.{Stage}
use Rattle.flow_workflow.specs.declared.refusal.ExpandRefusal.{ExpandRefusal}
use Rattle.flow_workflow.specs.declared.refusal.ExpandRefusal.TheVariants as refusal
use Rattle.flow_workflow.specs.declared.refusal.Part.TheVariants as part
use Rattle.flow_expand.specs.Expansion.{Expansion, Becomes, ends_in, isolations_in, size_of, capped}
use Rattle.flow_expand.specs.Directory.{decls_of}
use Rattle.flow_expand.specs.Lay.{IsLaid, IsLaidAt, IsSettled, Goes}
use Rattle.flow_expand.specs.Settlement.{IsFound}
use Rattle.flow_expand.specs.Refusals.{flow_count, rule_name_count, IsFinite, IsFitting, IsRefusal}
use Rattle.flow_expand.specs.Layout.{IsPlaced}
use Rattle.flow_expand.specs.LaidGoal.{IsPrepared}
use Rattle.flow_expand.proofs.Members.{flat_more}
use Rattle.flow_expand.proofs.Declarations.{flow_found, flows_below, flow_place, names_in_all}
use Rattle.flow_expand.proofs.LayLemmas.{ready, capped_sum}
use Rattle.flow_expand.proofs.Endings.{no_recursion}

pub err_kept : {T E : Type 0} (r : Result T E) (x : E) (P : E → Type 0) → IsErrAnd r (λ e. e ≡ x) → P x → IfErr r P
err_kept (Ok y) x P is h = tt
err_kept (Err e) x P is h = subst P (sym is) h

pub count_more : (rules : List RuleForm) (i count one : ℕ) (item : RuleForm) → i < length rules → item ≡ get_or rules i item → count ≡ capped (length (names_in_rules (rule_shapes (map rule_shape_of (take i rules))))) →
    one ≡ capped (length (names_in_rule (rule_shape_of item))) → capped (count + one) ≡ capped (length (names_in_rules (rule_shapes (map rule_shape_of (take (i + 1) rules)))))
count_more rules i count one item lt is before one_is =
    (λ t. capped (before t + one_is t))
    ∙ capped_sum (length (names_in_rules (rule_shapes (map rule_shape_of (take i rules))))) (length (names_in_rule (rule_shape_of item)))
    ∙ ap capped (sym (length-append (names_in_rules (rule_shapes (map rule_shape_of (take i rules)))) (names_in_rule (rule_shape_of item))))
    ∙ ap (λ l. capped (length l))
    (ap (λ l. l ++ names_in_rule (rule_shape_of item)) (names_in_all (map rule_shape_of (take i rules))) ∙ sym (flat_more names_in_rule rule_shape_of rules i item lt is)
    ∙ sym (names_in_all (map rule_shape_of (take (i + 1) rules))))

-- sub-workflows that are all laid

module _ (d : Directory) (laid : List Stage) (layout : List Piece) (h : IsLaid d laid layout) (all : (k : ℕ) → k < length d.goals.items → IsLaidAt laid k) where
  pub all_ready : (ns : List (List ℕ)) → Each (λ n. n ∈ declared_names (decls_of d)) ns → Each (IsSettled d laid) ns
  all_ready ns declared = ready d laid ns h.directory declared (λ n k m e. let (s, at) = flow_found d h.directory n k e in all k (flows_below d h.directory k n s at))

  becomes : (n : List ℕ) (t : Shape) → flow n t ∈ decls_of d → (e : Expansion) × Becomes (decls_of d) t e
  becomes n t m =
      let (k, at) = flow_place (decls_of d) n t m in
      let (root, there) = all k (flows_below d h.directory k n t at) in
      let g = h.flows k root n t there at in
      (g.expansion, g.becomes)

  -- what the size and the count say of a goal that was laid
  module _ (s : Said) (closed : IsClosed s) (same : decls_of d ≡ s.decls) (few : flow_count s ≤ MOST_FLOWS) (after : List Piece) (root : Root) (g : Goes (decls_of d) after s.goal root)
      (most : ℕ) (sized : most ≡ max root.size.ends root.size.isolations) where
    finite : IsFinite s
    finite = record {
      few = few;
      ending = no_recursion s.decls closed.named.once (λ n t m. subst (λ ds. flow n t ∈ ds → (e : Expansion) × Becomes ds t e) same (becomes n t) m);
    }

    goal_becomes : Becomes s.decls s.goal g.expansion
    goal_becomes = subst (λ ds. Becomes ds s.goal g.expansion) same g.becomes

    size : most ≡ capped (size_of g.expansion)
    size = sized ∙ (λ t. max (g.is_root.sized t).ends (g.is_root.sized t).isolations) ∙ greater (ends_in g.expansion) (isolations_in g.expansion)
      where
        greater : (a b : ℕ) → max (capped a) (capped b) ≡ capped (max a b)
        greater a b = omega arith

    pub goal_refusal : (e : ExpandRefusal) → (MOST_LEAVES < most) × (e ≡ refusal.TooLarge part.Goal most) → IsRefusal s e
    goal_refusal e (many, is) = subst (IsRefusal s) (sym is)
        (record { finite = finite; expansion = g.expansion; becomes = goal_becomes; large = omega (arith, size, many); counted = size })

    module _ (fits : most ≤ MOST_LEAVES) (count : ℕ) (counted : count ≡ capped (rule_name_count s)) where
      fitting : IsFitting s g.expansion
      fitting = record { finite = finite; becomes = goal_becomes; fits = omega (arith, size, fits) }

      pub rules_refusal : (e : ExpandRefusal) → (MOST_RULE_NAMES < count) × (e ≡ refusal.TooLarge part.Rules count) → IsRefusal s e
      rules_refusal e (many, is) = subst (IsRefusal s) (sym is) (record { expansion = g.expansion; fitting = fitting; many = omega (arith, counted, many); counted = counted })

      pub prepared : count ≤ MOST_RULE_NAMES → IsPrepared s after root
      prepared few_names = record {
        expansion = g.expansion;
        measured = record { fitting = fitting; few_names = omega (arith, counted, few_names) };
        placed = subst (λ ds. IsPlaced after (event_names ds) g.expansion root.place) same g.is_root.placed;
      }

-- refusals

pub found_refusal : (s : Said) (decls : List Declared) (e : ExpandRefusal) → decls ≡ s.decls → flow_count s ≤ MOST_FLOWS → IsFound decls e → IsRefusal s e
found_refusal s decls (refusal.TooLarge p count) same few h = absurd h
found_refusal s decls (refusal.Recursive chain) same few h = record { few = few; recursive = subst (λ ds. IsFound ds (refusal.Recursive chain)) same h }
found_refusal s decls (refusal.Twice found) same few h = absurd h
found_refusal s decls refusal.NoMemory same few h = tt

pub flows_refusal : (s : Said) (count : ℕ) (e : ExpandRefusal) → count ≡ flow_count s → (MOST_FLOWS < count) × (e ≡ refusal.TooLarge part.Flows count) → IsRefusal s e
flows_refusal s count e same (many, is) = subst (IsRefusal s) (sym is) (record { many = subst (λ n. MOST_FLOWS < n) same many; counted = same })
