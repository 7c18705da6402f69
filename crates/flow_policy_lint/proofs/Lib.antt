mod HeadSteps
mod HeadLemmas
mod PairLemmas
mod TieLemmas
mod RoleLemmas
mod BoolLemmas
mod ToldLemmas
