mod RoleSteps
mod RoleLemmas
pub mod NobodyLemmas
