-- Terms             a monomial, and sums of products
-- FormulaPromises   what `weigh` and `translate` answer, and what is known on the way
-- Term              what a term of the code stands for
-- Translation       what a translation of the code stands for
pub mod Terms
pub mod FormulaPromises
pub mod Term
pub mod Translation
