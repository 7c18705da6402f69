-- New names, looked for from the left.
use Rattle.std.proofs.Common.{◌≡◌, ◌<◌, ◌+◌, ℕ, Bool, true, false, if◌then◌else◌, List, ◌∷◌, length, drop, get_or, refl, sym, ap, ◌∙◌}
use Rattle.std.specs.Str.{bytes_eq}
use Rattle.std.proofs.lemmas.List.{drop_more}
use Rattle.std.proofs.lemmas.Slice.Eq.{bytes_eq-Decides}
use Rattle.flow_move.specs.declared.new_names.Rename.{Rename}
use Rattle.flow_move.specs.Labels.{renamed}

false_from : (b : Bool) → (b ≡ true → ⊥) → b ≡ false
false_from true not_so = absurd (not_so refl)
false_from false not_so = refl

first_is : (rs : List Rename) (k : ℕ) (r : Rename) (name : List ℕ) → k < length rs → r ≡ get_or rs k r →
    renamed (drop k rs) name ≡ renamed (r ∷ drop (k + 1) rs) name
first_is rs k r name within is =
    ap (λ (l : List Rename). renamed l name) (drop_more rs k r within) ∙ ap (λ (x : Rename). renamed (x ∷ drop (k + 1) rs) name) (sym is)

pub renamed_here : (rs : List Rename) (k : ℕ) (r : Rename) (name : List ℕ) → k < length rs → r ≡ get_or rs k r → r.from ≡ name →
    renamed (drop k rs) name ≡ r.to
renamed_here rs k r name within is same =
    first_is rs k r name within is
    ∙ ap (λ (b : Bool). if b then r.to else renamed (drop (k + 1) rs) name) ((bytes_eq-Decides r.from name).1 same)

pub renamed_next : (rs : List Rename) (k : ℕ) (r : Rename) (name : List ℕ) → k < length rs → r ≡ get_or rs k r → ¬ (r.from ≡ name) →
    renamed (drop k rs) name ≡ renamed (drop (k + 1) rs) name
renamed_next rs k r name within is other =
    first_is rs k r name within is
    ∙ ap (λ (b : Bool). if b then r.to else renamed (drop (k + 1) rs) name) (false_from (bytes_eq r.from name) (λ yes. other ((bytes_eq-Decides r.from name).0 yes)))
