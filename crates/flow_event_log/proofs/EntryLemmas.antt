-- What stands in an entry stands in the lists of texts and of links.
use Rattle.std.proofs.Common.{◌≡◌, ◌≤◌, ◌<◌, ◌+◌, ℕ, zero, suc, List, [], ◌∷◌, map, length, Some, slice_get, slice_index, sym, ap, arith, get_or}
use Rattle.flow_event_log.specs.declared.names.Entry.{Entry}
use Rattle.flow_event_log.specs.Buckets.{IsLinked, text_of, older_of}

pub older_at : (entries : List Entry) (i : ℕ) (e : Entry) → i < length entries → e ≡ get_or entries i e → slice_index (map older_of entries) i ≡ older_of e
older_at [] i e below is = absurd (omega (arith, below))
older_at (x ∷ xs) zero e below is = ap older_of (sym is)
older_at (x ∷ xs) (suc i) e below is = older_at xs i e (omega (arith, below)) is

pub text_at : (entries : List Entry) (i : ℕ) (e : Entry) → i < length entries → e ≡ get_or entries i e → get_or (map text_of entries) i [] ≡ text_of e
text_at [] i e below is = absurd (omega (arith, below))
text_at (x ∷ xs) zero e below is = ap text_of (sym is)
text_at (x ∷ xs) (suc i) e below is = text_at xs i e (omega (arith, below)) is

pub found_at : (entries : List Entry) (i : ℕ) (e : Entry) → i < length entries → e ≡ get_or entries i e → slice_get (map text_of entries) i ≡ Some (text_of e)
found_at [] i e below is = absurd (omega (arith, below))
found_at (x ∷ xs) zero e below is = ap (λ (y : Entry). Some (text_of y)) (sym is)
found_at (x ∷ xs) (suc i) e below is = found_at xs i e (omega (arith, below)) is

pub older_below : (in_bucket : ℕ → List ℕ → ℕ) (buckets : ℕ) (newest older : List ℕ) (names : List (List ℕ)) → IsLinked in_bucket buckets newest older names → (number link : ℕ) → number < length names →
    slice_index older number ≡ link → link ≤ number
older_below in_bucket buckets newest older names linked number zero there is = omega arith
older_below in_bucket buckets newest older names linked number (suc k) there is =
    let before = linked.older_in number k there (is_one_more) in omega (arith, before.0)
  where
    is_one_more : slice_index older number ≡ k + 1
    is_one_more = omega (arith, is)
