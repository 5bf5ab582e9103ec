-- Lent       a problem as it is lent, and its rows with a modulus: `Checked`
-- Moduli     those rows as the code lists them: `modulus_rows`
-- Refusals   the number and the place of each refusal, and what an answer says of a verdict
-- Checks     what checks 1 to 5, and to 6, answer: `problem`, `formula`
pub mod Lent
pub mod Moduli
pub mod Refusals
pub mod Checks
