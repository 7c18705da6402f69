use Rattle.std.proofs.Common.{refl}
use Rattle.flow_record.proofs.WordLemmas.{split_word}
use Rattle.flow_record.proofs.words.split_word.Goals as goal

pub returns : goal.returns
returns c =
    split_word _ _ _ _ _ _ _ _ c.place_of_word.ensures c.unwrap_or.ensures refl c.place_of_blank.ensures c.unwrap_or-2.ensures
    c.split_at.ensures.front c.split_at.ensures.back
