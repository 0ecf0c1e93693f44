pub mod Choosing
pub mod Plans
pub mod Policies
