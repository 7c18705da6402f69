-- The entry that gave a claim, looked for from the first on.
use Rattle.std.proofs.Common.{◌≡◌, ◌<◌, ◌≤◌, ◌+◌, ◌∙◌, ℕ, List, length, None, Some, Option, get_or, slice_get, MatchOption, Bor, inl, inr, sym, ap, subst, arith}
use Rattle.std.proofs.lemmas.Bool.{cases_order}
use Rattle.std.proofs.lemmas.Option.{slice_get_within, slice_get-get_or}
use Rattle.flow_model.specs.declared.history.Entry.{Entry}
use Rattle.flow_model.specs.declared.history.Step.{Step}
use Rattle.flow_model.specs.declared.history.Step.TheVariants.{Took}
use Rattle.flow_export.specs.declared.log_row.Teller.{Teller}
use Rattle.flow_list.specs.Out.{GaveAt}
use Rattle.flow_list.proofs.PlaceLemmas.{NoneBefore, none_at}

same_entry : (a b : Entry) → Some a ≡ Some b → a ≡ b
same_entry a b e = cc

pub gave_here : (history : List Entry) (claim place : ℕ) (entry : Entry) → slice_get history place ≡ Some entry → (leaf : ℕ) × (entry.step ≡ Took claim leaf) →
    GaveAt history claim place
gave_here history claim place entry there (leaf, is) = (leaf, entry.by, there ∙ ap (λ (s : Step). Some (record { by = entry.by; step = s })) is)

pub given_here : (history : List Entry) (claim place : ℕ) (entry : Entry) → slice_get history place ≡ Some entry → GaveAt history claim place →
    (leaf : ℕ) × (entry.step ≡ Took claim leaf)
given_here history claim place entry there (leaf, by, gave) =
    (leaf, ap (λ (e : Entry). e.step) (same_entry entry (record { by = by; step = Took claim leaf }) (sym there ∙ gave)))

-- the first that gave it is not told, so no later one is
pub none_told : (history : List Entry) (told : List Teller) (claim first : ℕ) → NoneBefore (GaveAt history claim) first → slice_get told first ≡ None →
    (place : ℕ) → GaveAt history claim place → slice_get told place ≡ None
none_told history told claim first none e place gave = elim (cases_order place first) [
  | inl same ↦ none_at told first place e (omega (arith, same))
  | inr (inl less) ↦ absurd (none place less gave)
  | inr (inr more) ↦ none_at told first place e (omega arith)
]

-- no entry gave it
pub none_gave : (history : List Entry) (claim bound : ℕ) → length history ≤ bound → NoneBefore (GaveAt history claim) bound → (place : ℕ) → ¬ (GaveAt history claim place)
none_gave history claim bound past none place (leaf, by, gave) =
    let within : place < length history = slice_get_within history place (record { by = by; step = Took claim leaf }) gave in
    none place (omega arith) (leaf, by, gave)

pub one_place_more : (P : ℕ → Type 0) (bound : ℕ) → NoneBefore P bound → ¬ (P bound) → NoneBefore P (bound + 1)
one_place_more P bound none last place within has = elim (cases_order place bound) [
  | inl same ↦ last (subst P same has)
  | inr (inl less) ↦ none place less has
  | inr (inr more) ↦ absurd (omega arith)
]

-- the next entry gave it not
pub not_gave : (history : List Entry) (claim k : ℕ) (d entry : Entry) → k < length history → entry ≡ get_or history k d → NoneBefore (GaveAt history claim) k →
    ¬ ((leaf : ℕ) × (entry.step ≡ Took claim leaf)) → NoneBefore (GaveAt history claim) (k + 1)
not_gave history claim k d entry within is none not =
    one_place_more (GaveAt history claim) k none (λ gave. not (given_here history claim k entry (slice_get-get_or history k d within ∙ ap Some (sym is)) gave))

-- the next entry gave it: what is told of that entry
pub told_first : (history : List Entry) (told : List Teller) (claim k : ℕ) (d entry : Entry) (result : Option (Bor Teller)) → k < length history → entry ≡ get_or history k d →
    NoneBefore (GaveAt history claim) k → (leaf : ℕ) × (entry.step ≡ Took claim leaf) →
    MatchOption result (slice_get told k ≡ None) (λ teller. slice_get told k ≡ Some teller.now) →
    MatchOption result ((place : ℕ) → GaveAt history claim place → slice_get told place ≡ None)
    (λ teller. (place : ℕ) × GaveAt history claim place × (slice_get told place ≡ Some teller.now))
told_first history told claim k d entry None within is none gave found = none_told history told claim k none found
told_first history told claim k d entry (Some teller) within is none gave found =
    (k, gave_here history claim k entry (slice_get-get_or history k d within ∙ ap Some (sym is)) gave, found)

-- no entry gave it, so nothing is told of one that did
pub none_told_at_all : (history : List Entry) (told : List Teller) (claim bound : ℕ) → length history ≤ bound → NoneBefore (GaveAt history claim) bound →
    (place : ℕ) → GaveAt history claim place → slice_get told place ≡ None
none_told_at_all history told claim bound past none place gave = absurd (none_gave history claim bound past none place gave)
