-- A name is spelled byte by byte.
use Rattle.std.proofs.Common.{◌≡◌, ℕ, ◌+◌, ◌<◌, ◌≤◌, List, [], ◌∷◌, ◌++◌, length, take, get_or, sym, ap, ◌∙◌, append-nil}
use Rattle.std.specs.List.{flat_map}
use Rattle.std.proofs.lemmas.List.{take_more, take_all}
use Rattle.std.proofs.lemmas.List.Concat.{flat_map-append}
use Rattle.flow_event_log.specs.Spelling.{spelled_byte, spelling}

pub spelled_more : (name : List ℕ) (i d : ℕ) (old new : List ℕ) → i < length name → old ≡ spelling (take i name) → new ≡ old ++ spelled_byte (get_or name i d) →
    new ≡ spelling (take (i + 1) name)
spelled_more name i d old new inside before put =
    let piece = spelled_byte (get_or name i d) in
    put ∙ ap (λ (t : List ℕ). t ++ piece) before ∙ ap (λ (t : List ℕ). spelling (take i name) ++ t) (sym (append-nil piece))
    ∙ sym (flat_map-append spelled_byte (take i name) (get_or name i d ∷ [])) ∙ ap spelling (sym (take_more name i d inside))

pub spelled_all : (name : List ℕ) (i : ℕ) (old : List ℕ) → length name ≤ i → old ≡ spelling (take i name) → old ≡ spelling name
spelled_all name i old done before = before ∙ ap spelling (take_all i name done)
