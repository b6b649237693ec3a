pub mod Chains
pub mod Settled
pub mod Turns
pub mod Visits
