-- Each journal has one finding.
use Rattle.std.proofs.Common.{◌≡◌, ℕ, suc, List, [], ◌∷◌, refl, sym, ◌∙◌, ap, subst, arith}
use Rattle.flow_workflow.specs.Definition.{schema_of}
use Rattle.flow_record.specs.Journal.{journal, bad_line, wrong_label}
use Rattle.flow_trace.specs.Traces.{TellsOfTrace}
use Rattle.flow_trace.proofs.TraceLemmas.{tells_once}
use Rattle.flow_audit.specs.declared.finding.Finding.{Finding}
use Rattle.flow_audit.specs.declared.finding.Finding.TheVariants as finding
use Rattle.flow_audit.specs.Cuts.{piece}
use Rattle.flow_audit.specs.Findings.{IsJournalFinding, AreFindings}
use Rattle.flow_audit.specs.Single.{FindingIsSingle, FindingsAreSingle}

same_line : (a b : ℕ) → bad_line a ≡ bad_line b → a ≡ b
same_line a b e = cc

same_label : (a b : ℕ) → wrong_label a ≡ wrong_label b → a ≡ b
same_label a b e = cc

same_leaves : (a b : List ℕ) → journal a ≡ journal b → a ≡ b
same_leaves a b e = cc

-- a text that says one thing says no other
bad_or_wrong : (a b : ℕ) → bad_line a ≡ wrong_label b → ⊥
bad_or_wrong a b e = cc

bad_or_read : (a : ℕ) (b : List ℕ) → bad_line a ≡ journal b → ⊥
bad_or_read a b e = cc

wrong_or_read : (a : ℕ) (b : List ℕ) → wrong_label a ≡ journal b → ⊥
wrong_or_read a b e = cc

pub finding_single : FindingIsSingle
finding_single d text (finding.BadLine a) (finding.BadLine b) h k = ap finding.BadLine (same_line a b (sym h ∙ k))
finding_single d text (finding.BadLine a) (finding.Label b) h k = absurd (bad_or_wrong a b (sym h ∙ k))
finding_single d text (finding.BadLine a) (finding.Checked b) h k = absurd (bad_or_read a k.0 (sym h ∙ k.1))
finding_single d text (finding.Label a) (finding.BadLine b) h k = absurd (bad_or_wrong b a (sym k ∙ h))
finding_single d text (finding.Label a) (finding.Label b) h k = ap finding.Label (same_label a b (sym h ∙ k))
finding_single d text (finding.Label a) (finding.Checked b) h k = absurd (wrong_or_read a k.0 (sym h ∙ k.1))
finding_single d text (finding.Checked a) (finding.BadLine b) h k = absurd (bad_or_read b h.0 (sym k ∙ h.1))
finding_single d text (finding.Checked a) (finding.Label b) h k = absurd (wrong_or_read b h.0 (sym k ∙ h.1))
finding_single d text (finding.Checked a) (finding.Checked b) h k =
    let same : k.0 ≡ h.0 = same_leaves k.0 h.0 (sym k.1 ∙ h.1) in
    ap finding.Checked (tells_once (schema_of d) h.0 a b h.2 (subst (λ (l : List ℕ). TellsOfTrace (schema_of d) l b) same k.2))

later : (Finds : List ℕ → Finding → Type 0) (text : List ℕ) (cut : ℕ × ℕ) (cuts : List (ℕ × ℕ)) (first : Finding) (found : List Finding) →
    AreFindings Finds text (cut ∷ cuts) (first ∷ found) → AreFindings Finds text cuts found
later Finds text cut cuts first found are = record { count = omega (arith, are.count); each = λ i. are.each (suc i) }

pub findings_single : FindingsAreSingle
findings_single d text [] [] [] one other = refl
findings_single d text [] [] (g ∷ gs) one other = absurd (omega (arith, other.count))
findings_single d text [] (f ∷ fs) gs one other = absurd (omega (arith, one.count))
findings_single d text (cut ∷ cuts) [] gs one other = absurd (omega (arith, one.count))
findings_single d text (cut ∷ cuts) (f ∷ fs) [] one other = absurd (omega (arith, other.count))
findings_single d text (cut ∷ cuts) (f ∷ fs) (g ∷ gs) one other =
    let first = finding_single d (piece text cut) f g (one.each 0 cut f refl refl) (other.each 0 cut g refl refl) in
    let rest = findings_single d text cuts fs gs (later (IsJournalFinding d) text cut cuts f fs one) (later (IsJournalFinding d) text cut cuts g gs other) in
    (λ i. first i ∷ rest i)
