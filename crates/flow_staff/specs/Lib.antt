pub mod Desk
pub mod Roles
