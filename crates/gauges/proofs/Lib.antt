-- Lemmas for the code, from the top: each module stands on those above it only.
--     Comparisons   what a comparison with 0.0 and the test for a finite number tell of a number of binary64
--     Searched      what a search along a list found
--     Folded        what a fold along readings and exponents comes to
--     Units         the units of an exponent, as `values::power` counts
--     Checked       checks 11, 24, 12 and 13, one after the other
--     Called        the call by the build that it makes: its verdict, and the groups in V
pub mod Comparisons
pub mod Searched
pub mod Folded
pub mod Units
pub mod Checked
pub mod Called
