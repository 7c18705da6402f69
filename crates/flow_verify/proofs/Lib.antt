mod Executions
mod Negations
mod Removals
mod Trials
