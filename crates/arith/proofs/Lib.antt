-- Laws on plain numbers that the proofs cite.
mod Shifts
mod Product
