pub mod CheckLemmas
