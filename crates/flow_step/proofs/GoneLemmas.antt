-- How far a history is followed.
use Rattle.std.proofs.Common.{◌≡◌, ℕ, ◌+◌, ◌-◌, ◌*◌, ◌/◌, ◌<◌, List, [], ◌∷◌, ◌++◌, length, refl, sym, ap, subst, ◌∙◌, arith, length-append}
use Rattle.std.proofs.lemmas.List.{append-nil, length_push}
use Rattle.flow_model.specs.declared.history.Entry.{Entry}
use Rattle.flow_model.specs.Lists.{Each}
use Rattle.flow_model.proofs.Lists.{each-append}
use Rattle.flow_record.specs.History.{IsSmall}
use Rattle.flow_step.specs.Records.{record_of, records_of}
use Rattle.flow_step.specs.Following.{Makes, IsFollowed, IsIllegalAt}
use Rattle.flow_step.proofs.RecordLemmas.{one_more, same_record}
use Rattle.flow_step.proofs.FollowLemmas.{makes_more}

module _ {S : Type 0} (may : S → Entry → Type 0) (grown : S → Entry → S) where
  -- the records in front of these bytes were followed
  pub record Gone (first : S) (history rest : List ℕ) (last : S) : Type 0 where
    pub entries : List Entry
    pub told : history ≡ records_of entries ++ rest
    pub counted : 16 * length entries + length rest ≡ length history
    pub small : Each IsSmall entries
    pub made : Makes may grown first entries last

  pub gone_first : (first : S) (history : List ℕ) → Gone first history history first
  gone_first first history = record { entries = []; told = refl; counted = omega arith; small = tt; made = refl }

  pub gone_more : (first last next : S) (history rest more : List ℕ) (entry : Entry) → Gone first history rest last → rest ≡ record_of entry ++ more →
      IsSmall entry → may last entry → next ≡ grown last entry → Gone first history more next
  gone_more first last next history rest more entry gone is small can next_is =
      let shorter = ap (λ (l : List ℕ). length l) is in
      let long = length-append (record_of entry) more in
      let longer = length_push gone.entries entry in
      let counted = gone.counted in
      record {
        entries = gone.entries ++ entry ∷ [];
        told = gone.told ∙ ap (λ (l : List ℕ). records_of gone.entries ++ l) is ∙ sym (one_more gone.entries entry more);
        counted = omega (arith, shorter, long, longer, counted);
        small = each-append IsSmall gone.entries (entry ∷ []) gone.small (small, tt);
        made = subst (λ (s : S). Makes may grown first (gone.entries ++ entry ∷ []) s) (sym next_is) (makes_more may grown gone.entries first last entry gone.made can);
      }

  pub gone_over : (first last : S) (history rest : List ℕ) → Gone first history rest last → rest ≡ [] → IsFollowed may grown first history last
  gone_over first last history rest gone over = record {
    entries = gone.entries;
    told = gone.told ∙ ap (λ (l : List ℕ). records_of gone.entries ++ l) over ∙ append-nil (records_of gone.entries);
    small = gone.small;
    made = gone.made;
  }

  pub gone_wrong : (first last : S) (history rest : List ℕ) (number : ℕ) → Gone first history rest last → number ≡ (length history - length rest) / 16 → 0 < length rest →
      ((entry : Entry) (more : List ℕ) → IsSmall entry → rest ≡ record_of entry ++ more → ¬ (may last entry)) → IsIllegalAt may grown first history number
  gone_wrong first last history rest number gone number_is some none = record {
    earlier = gone.entries;
    small = gone.small;
    last = last;
    made = gone.made;
    counted = let counted = gone.counted in omega (arith, counted, number_is);
    rest = rest;
    split = gone.told;
    some = some;
    none = none;
  }

  -- the record that follows tells an entry that may not be made, and no other
  pub gone_refused : (first last : S) (history rest more : List ℕ) (number : ℕ) (entry : Entry) → Gone first history rest last →
      number ≡ (length history - length rest) / 16 → rest ≡ record_of entry ++ more → IsSmall entry → ¬ (may last entry) → IsIllegalAt may grown first history number
  gone_refused first last history rest more number entry gone number_is is small cannot =
      let shorter = ap (λ (l : List ℕ). length l) is in
      let long = length-append (record_of entry) more in
      gone_wrong first last history rest number gone number_is (omega (arith, shorter, long))
      (λ other behind fits same can. cannot (subst (λ (e : Entry). may last e) (same_record other entry behind more fits small (sym same ∙ is)) can))
