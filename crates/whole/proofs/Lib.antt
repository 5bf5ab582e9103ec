-- Laws of whole numbers, for other crates to cite as Rattle.whole.proofs.NAME. Nothing here is part of any contract, and nothing is assumed.
-- From the top: each module stands on those above it only.
--     Tests        a test and what its answer says: lt?, le?, eq?, lt_z?; two answers joined by && or ||
--     Order        order, equality and magnitude by omega: `omega zarith`; what fits a signed number of the language
--     Signs        a signed number of 32 bits and its bits
--     Ring         ℤ is a commutative ring without zero divisors
--     Polynomial   what the solver computes; no other module names it
--     Solver       ring identities in one line: ring₁ .. ring₅
--     Division     quotient and remainder cut toward zero; the floored quotient
--     Sum          finite sums, and the identity matrix δ in them
--     Matrix       the product of matrices, inverses
--     Exchange     two indices change places
--     Columns      the three column steps keep T = C · V, V · W = I, W · V = I
--     Lists        lists made from a function of the index, lists that hold a table
pub mod Tests
pub mod Order
pub mod Signs
pub mod Ring
pub mod Polynomial
pub mod Solver
pub mod Division
pub mod Sum
pub mod Matrix
pub mod Exchange
pub mod Columns
pub mod Lists
