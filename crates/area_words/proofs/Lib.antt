-- Numbers of 16 bits.
pub mod Bits
