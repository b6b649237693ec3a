-- Laws on plain numbers that the proofs cite.
mod Overflow
