-- Laws for the proofs of this crate's functions. Nothing here is part of any contract, and nothing is assumed.
--     Digits          digits of a text, and the bytes that they write
--     Pairs           a list made from the pairs of another, pair by pair
--     Numbers         bytes as numbers, and pairs of digits as bytes
--     Lines           the first line of a text, as the code tests it and as the definitions have it
--     FirstBad        the search for the first line that is bad or missing, step by step
--     InputContents   the numbers of a line, and of several with one more
--     Progress        where the reading stands after some lines
--     Writes          a text that is printed part by part
--     Printed         the printed lines: what comes next of them, and how long they are
--     Prefix          the first 5,376 bytes of the input decide the program's answer
--     Broken          an input that ends with a blank is refused
--     Filled          how long the lines of a solution are
--     Fits            what was read has the lengths that the calls ask
--     Solved          what the two calls answer to what was read, and the lines that tell it
pub mod Digits
pub mod Pairs
pub mod Numbers
pub mod Lines
pub mod FirstBad
pub mod InputContents
pub mod Progress
pub mod Writes
pub mod Printed
pub mod Prefix
pub mod Broken
pub mod Filled
pub mod Fits
pub mod Solved
