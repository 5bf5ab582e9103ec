-- The definitions on whole numbers that the other crates share. Laws of them: proofs/.
--     Lists      lists read at an index (`nth`, 0 past the end), made from a function (`tab`), joined (`join`): nearly every file of every crate
--     Division   the floored quotient `floor_z`: (B) and stage 3 of the steps, `numbers::floor` of `scaling`
--     Sum        finite sums: the product of matrices, weights, translated exponents
--     Matrix     matrices as functions of row and column, their product `mul`, the identity `δ`: what is right (rules/specs/Forms)
pub mod Lists
pub mod Division
pub mod Sum
pub mod Matrix
