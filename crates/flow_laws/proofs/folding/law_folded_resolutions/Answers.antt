use Rattle.flow_model.specs.Process.{Sequence, Parallel}
use Rattle.flow_laws.proofs.FoldingLemmas.{empty_blocks, seen_empty, folds_to, is_folded, mem-folded_leaves, length-folded, number_of_both_folded, number_of_left_folded, number_of_right_folded, number_of_choice}
use Rattle.flow_laws.proofs.folding.law_folded_resolutions.Goals as goal

pub returns-clause-emptiness : goal.returns-clause-emptiness
returns-clause-emptiness c = λ g. (empty_blocks g, seen_empty g)

pub returns-clause-counted : goal.returns-clause-counted
returns-clause-counted c = length-folded

pub returns-clause-numbered : goal.returns-clause-numbered
returns-clause-numbered c = λ apart. (
  λ a b x y i j e k. (number_of_both_folded apart Sequence a b x y i j e k, number_of_both_folded apart Parallel a b x y i j e k),
  λ a b x i goes e. number_of_left_folded apart a b x i goes e,
  λ a b x i goes e. number_of_right_folded apart a b x i goes e,
  λ a b stays. number_of_choice apart a b stays,
)

pub returns-clause-folded : goal.returns-clause-folded
returns-clause-folded c = λ apart g q m. let h = folds_to apart g q m in (is_folded apart g q h, mem-folded_leaves apart g q h)
