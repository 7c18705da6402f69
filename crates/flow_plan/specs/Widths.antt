-- How wide the rows of plans are.
use Rattle.std.specs.Prelude.{ℕ}
use Rattle.leaf_rows.specs.declared.TheConstants.{LEAF_WORDS}
use Rattle.flow_plan.specs.declared.table.TheConstants.{NARROW_WORDS, MIDDLE_WORDS}
use Rattle.flow_plan.specs.declared.words.Words.{Words}
use Rattle.flow_plan.specs.declared.words.Words.TheVariants.{Narrow, Middle, Wide}

abbrev pub words_of : Words → ℕ
words_of Narrow = NARROW_WORDS
words_of Middle = MIDDLE_WORDS
words_of Wide = LEAF_WORDS
