-- Laws for the proofs of this crate's functions and of those above it. Nothing here is part of any contract, and nothing is assumed.
--     Values     single values in 32 and 64 bits, and what a test says
--     Found      the library's search along a list as the definitions'
--     Refusals   a verdict tells one refusal
--     Verdicts   what an answer says of a verdict, and what holds once checks 1 to 5, and 6, are passed
--     Listing    the rows with a modulus, listed one modulus after the other
pub mod Values
pub mod Found
pub mod Refusals
pub mod Verdicts
pub mod Listing
