-- The proofs of the functions stand beside this file, in folders that mirror src/. The general modules, each standing on those above it:
--     Sums            sums of products, and that their beginnings fit
--     Written         lists made of a function of the index
--     Searches        the library's test of a list, as a search over indices
--     GridRows        grids, one row after the other
--     Weighing        a row times a monomial, and the weights
--     KThenV          k followed by v
--     WeighCall       the call that weighs, from its checks on
--     Translating     a row of W times k followed by v
--     Judging         checks 8 and 9
--     Built           what a build left: W, the rank, and that the problem is solved
--     TranslateCall   the call that translates, from its checks on
pub mod Sums
pub mod Written
pub mod Searches
pub mod GridRows
pub mod Weighing
pub mod KThenV
pub mod WeighCall
pub mod Translating
pub mod Judging
pub mod Built
pub mod TranslateCall
