-- Laws for the proofs of the program's functions. Nothing here is part of any contract, and nothing is assumed.
--     ReadAnswers   what is held after a read's answer
pub mod ReadAnswers
