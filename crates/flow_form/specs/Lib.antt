pub mod Form
pub mod RuleForm
pub mod Script
pub mod Names
