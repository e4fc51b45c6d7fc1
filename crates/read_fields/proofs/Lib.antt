-- One byte of a line; the digits of a number; a field; where a line ends.
pub mod Bytes
pub mod Digits
pub mod Fields
pub mod Ends
