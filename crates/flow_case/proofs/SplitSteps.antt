-- The tokens of the rules, and the text without them.
use Rattle.std.proofs.Common.{◌≡◌, ◌<◌, ◌≤◌, ◌-◌, ℕ, List, [], ◌∷◌, ◌++◌, length, take, drop, replicate, refl, sym, ap, ◌∙◌, subst, append_assoc, append-nil, arith}
use Rattle.std.proofs.lemmas.List.{take_all}
use Rattle.flow_model.specs.Lists.{Each}
use Rattle.flow_lex.specs.declared.token.Token.{Token}
use Rattle.flow_lex.specs.Tokens.{AreSpans, IsSmall}
use Rattle.flow_grammar.specs.Symbol.{Symbol}
use Rattle.flow_reader.specs.Symbols.{symbol_of}
use Rattle.flow_reader.proofs.Loops.{spans_end}
use Rattle.flow_case.specs.declared.split.Side.{Side}
use Rattle.flow_case.specs.declared.split.Side.TheVariants.{Begins, Policy, Rules}
use Rattle.flow_case.specs.Split.{side_of, side_behind, of_rules, rule_tokens, blanked}

pub split_next : (text : List ℕ) (all cut new : List Token) (side here q : Side) (rest more : List Token) (t : Token) (s : Symbol) → rest ≡ t ∷ more → s ≡ symbol_of text t →
    here ≡ side_of side s → q ≡ side_behind here s → new ≡ cut ++ of_rules here t → all ≡ cut ++ rule_tokens text side rest → all ≡ new ++ rule_tokens text q more
split_next text all cut new side here q rest more t s e is at on added so_far =
    so_far ∙ ap (λ l. cut ++ rule_tokens text side l) e
    ∙ ap (λ x. cut ++ (of_rules (side_of side x) t ++ rule_tokens text (side_behind (side_of side x) x) more)) (sym is)
    ∙ ap (λ h. cut ++ (of_rules h t ++ rule_tokens text (side_behind h s) more)) (sym at)
    ∙ sym (append_assoc cut (of_rules here t) (rule_tokens text (side_behind here s) more))
    ∙ ap (λ l. l ++ rule_tokens text (side_behind here s) more) (sym added)
    ∙ ap (λ x. new ++ rule_tokens text x more) (sym on)

wider : (place further end : ℕ) (ts : List Token) → place ≤ further → AreSpans further end ts → AreSpans place end ts
wider place further end [] less h = omega (arith, less, h)
wider place further end (t ∷ ts) less (a, b, later) = (omega (arith, less, a), b, later)

rules_span_from : (text : List ℕ) (place end : ℕ) (side : Side) (ts : List Token) → AreSpans place end ts → AreSpans place end (rule_tokens text side ts)
rules_span_from text place end side [] h = h
rules_span_from text place end side (t ∷ ts) (a, b, later) =
    by (side_of side (symbol_of text t)) _ (rules_span_from text t.end end (side_behind (side_of side (symbol_of text t)) (symbol_of text t)) ts later)
  where
    by : (here : Side) (xs : List Token) → AreSpans t.end end xs → AreSpans place end (of_rules here t ++ xs)
    by Begins xs h = wider place t.end end xs (omega (arith, a, b)) h
    by Policy xs h = wider place t.end end xs (omega (arith, a, b)) h
    by Rules xs h = (a, b, h)

pub rules_span : (text : List ℕ) (side : Side) (ts cut : List Token) → AreSpans 0 (length text) ts → cut ≡ rule_tokens text side ts → AreSpans 0 (length text) cut
rules_span text side ts cut h is = subst (AreSpans 0 (length text)) (sym is) (rules_span_from text 0 (length text) side ts h)

small_from : (text : List ℕ) (side : Side) (ts : List Token) → Each (IsSmall text) ts → Each (IsSmall text) (rule_tokens text side ts)
small_from text side [] h = h
small_from text side (t ∷ ts) (a, later) =
    by (side_of side (symbol_of text t)) _ (small_from text (side_behind (side_of side (symbol_of text t)) (symbol_of text t)) ts later)
  where
    by : (here : Side) (xs : List Token) → Each (IsSmall text) xs → Each (IsSmall text) (of_rules here t ++ xs)
    by Begins xs h = h
    by Policy xs h = h
    by Rules xs h = (a, h)

pub rules_small : (text : List ℕ) (side : Side) (ts cut : List Token) → Each (IsSmall text) ts → cut ≡ rule_tokens text side ts → Each (IsSmall text) cut
rules_small text side ts cut h is = subst (Each (IsSmall text)) (sym is) (small_from text side ts h)

-- The text without tokens

pub token_here : (text : List ℕ) (place : ℕ) (rest more : List Token) (t : Token) → rest ≡ t ∷ more → AreSpans place (length text) rest →
    (place ≤ t.start) × (t.start < t.end) × (t.end ≤ length text) × AreSpans t.end (length text) more
token_here text place rest more t e h =
    let (a, b, later) = subst (AreSpans place (length text)) e h in (a, b, spans_end t.end (length text) more later, later)

pub blank_next : (text all left after filled : List ℕ) (place : ℕ) (rest more : List Token) (t : Token) → rest ≡ t ∷ more → length after ≡ t.start → t.start < t.end →
    after ≡ left ++ take (t.start - place) (drop place text) → filled ≡ take t.end after ++ replicate (t.end - length after) 32 →
    all ≡ left ++ blanked text place rest → all ≡ filled ++ blanked text t.end more
blank_next text all left after filled place rest more t e long less extended resized so_far =
    let whole : take t.end after ≡ after = take_all t.end after (omega (arith, long, less)) in
    let filled_is : filled ≡ after ++ replicate (t.end - t.start) 32 =
    resized ∙ ap (λ l. l ++ replicate (t.end - length after) 32) whole ∙ ap (λ n. after ++ replicate (t.end - n) 32) long in
    let opened : blanked text place (t ∷ more) ≡ take (t.start - place) (drop place text) ++ (replicate (t.end - t.start) 32 ++ blanked text t.end more) = refl in
    let first : all ≡ left ++ (take (t.start - place) (drop place text) ++ (replicate (t.end - t.start) 32 ++ blanked text t.end more)) =
    so_far ∙ ap (λ l. left ++ blanked text place l) e ∙ ap (λ l. left ++ l) opened in
    first ∙ sym (append_assoc left (take (t.start - place) (drop place text)) (replicate (t.end - t.start) 32 ++ blanked text t.end more))
    ∙ ap (λ l. l ++ (replicate (t.end - t.start) 32 ++ blanked text t.end more)) (sym extended)
    ∙ sym (append_assoc after (replicate (t.end - t.start) 32) (blanked text t.end more))
    ∙ ap (λ l. l ++ blanked text t.end more) (sym filled_is)

pub cut_whole : (text : List ℕ) (all cut : List Token) (side : Side) (rest : List Token) → rest ≡ [] → all ≡ cut ++ rule_tokens text side rest → cut ≡ all
cut_whole text all cut side rest e so_far = sym (so_far ∙ ap (λ l. cut ++ rule_tokens text side l) e ∙ append-nil cut)
