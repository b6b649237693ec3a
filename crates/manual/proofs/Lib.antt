pub mod Fits
pub mod Halves
pub mod Laws
