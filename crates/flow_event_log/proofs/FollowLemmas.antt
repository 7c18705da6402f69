-- A reader of CSV goes from one record to the next.
use Rattle.std.proofs.Common.{◌≡◌, ◌++◌, ◌∷◌, [], ℕ, List, Option, Some, true, false, inl, sym, subst, ◌∙◌, append_assoc, append-nil}
use Rattle.csv.specs.Reading.{AreRecords, ReadRecord, Reached, Ready, default_config, reader_config, reader_state, reader_trim, source_of, took_first}
use Rattle.csv.specs.declared.parser.State.TheVariants as st
use Rattle.csv.specs.declared.reader.Reader.{Reader}
use Rattle.csv.specs.declared.reader.Trim.TheVariants as trim
use Rattle.csv.proofs.ReadFacts.{rows-end, rows-more}

-- since it was the old one, the reader gave these records
pub record Gave {R : Type 0} (rem : R → Option (List ℕ)) (old now : Reader R) (records : List (List (List ℕ))) : Type 0 where
  pub config : reader_config now ≡ default_config
  pub trim : reader_trim now ≡ trim.None
  pub ready : Ready now
  pub goes : (xs ys : List ℕ) (first : List (List (List ℕ))) → source_of rem old ≡ Some ys → Reached default_config st.StartRecord xs first (reader_state old) ys →
      (zs : List ℕ) × (source_of rem now ≡ Some zs) × Reached default_config st.StartRecord xs (first ++ records) (reader_state now) zs

module _ {R : Type 0} (rem : R → Option (List ℕ)) (old now next : Reader R) where
  pub gave_none : reader_config now ≡ default_config → reader_trim now ≡ trim.None → Ready now → Gave rem now now []
  gave_none config plain ready = record {
    config = config;
    trim = plain;
    ready = ready;
    goes = λ xs ys first source reached.
        (ys, source, subst (λ (rows : List (List (List ℕ))). Reached default_config st.StartRecord xs rows (reader_state now) ys) (sym (append-nil first)) reached);
  }

  pub gave_more : (records : List (List (List ℕ))) (fields : List (List ℕ)) → Gave rem old now records → ReadRecord rem now next true fields → took_first next ≡ true →
      Gave rem old next (records ++ fields ∷ [])
  gave_more records fields gave read began = record {
    config = read.2 ∙ gave.config;
    trim = read.3 ∙ gave.trim;
    ready = inl began;
    goes = λ xs ys first source reached.
        let there = gave.goes xs ys first source reached in
        let more = rows-more rem now next fields default_config st.StartRecord xs there.0 (first ++ records) gave.config there.1 there.2 read in
        (more.0, more.1, subst (λ (rows : List (List (List ℕ))). Reached default_config st.StartRecord xs rows (reader_state next) more.0) (append_assoc first records (fields ∷ [])) more.2);
  }

  pub gave_all : (records : List (List (List ℕ))) (fields : List (List ℕ)) → Gave rem old now records → ReadRecord rem now next false fields →
      (xs ys : List ℕ) (first : List (List (List ℕ))) → source_of rem old ≡ Some ys → Reached default_config st.StartRecord xs first (reader_state old) ys →
      AreRecords default_config st.StartRecord xs (first ++ records)
  gave_all records fields gave read xs ys first source reached =
      let there = gave.goes xs ys first source reached in
      (reader_state now, there.0, there.2, rows-end rem now next fields default_config there.0 gave.config there.1 read)
