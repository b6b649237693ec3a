pub mod Operations
pub mod Modulo
pub mod Bench
pub mod Cuts
pub mod Fits
pub mod Halves
pub mod Laws
pub mod Rewritings
