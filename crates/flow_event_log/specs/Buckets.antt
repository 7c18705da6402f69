-- How names are found: each is in a bucket, and leads to the next older one there. A link is a number plus one, or 0.
use Rattle.std.specs.Prelude.{◌≡◌, ◌+◌, ◌%◌, ◌<◌, ℕ, List, [], length, slice_index, slice_index_or}
use Rattle.std.specs.Hash.DefaultHasher.{finish, write}
use Rattle.flow_event_log.specs.declared.names.Entry.{Entry}
use Rattle.flow_event_log.specs.declared.names_key.NamesKey.{NamesKey}

abbrev pub text_of : Entry → List ℕ
text_of e = e.text.items

abbrev pub older_of : Entry → ℕ
older_of e = e.older

-- in which of so many buckets a text is, by a key
unfoldable pub bucket_of : NamesKey → ℕ → List ℕ → ℕ
bucket_of key buckets text = finish (write key.begun text) % buckets

abbrev pub name_at : List (List ℕ) → ℕ → List ℕ
name_at names number = slice_index_or names number []

-- in which of so many buckets the name of that number is
abbrev pub bucket_at : (ℕ → List ℕ → ℕ) → ℕ → List (List ℕ) → ℕ → ℕ
bucket_at in_bucket buckets names number = in_bucket buckets (name_at names number)

pub record IsLinked (in_bucket : ℕ → List ℕ → ℕ) (buckets : ℕ) (newest older : List ℕ) (names : List (List ℕ)) : Type 0 where
  pub some : 0 < buckets
  pub wide : length newest ≡ buckets
  pub one_each : length older ≡ length names
  -- no name is newer than the newest of its bucket
  pub newest_is_last : (k : ℕ) → k < length names → k < slice_index newest (bucket_at in_bucket buckets names k)
  pub newest_in : (b k : ℕ) → slice_index newest b ≡ k + 1 → (k < length names) × (bucket_at in_bucket buckets names k ≡ b)
  -- none is between a name and the next older of its bucket
  pub older_is_next : (i k : ℕ) → i < length names → k < i → bucket_at in_bucket buckets names k ≡ bucket_at in_bucket buckets names i → k < slice_index older i
  pub older_in : (i k : ℕ) → i < length names → slice_index older i ≡ k + 1 → (k < i) × (bucket_at in_bucket buckets names k ≡ bucket_at in_bucket buckets names i)
