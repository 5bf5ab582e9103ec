-- What the contracts of this crate's functions cite, beside the definitions of the crate rules.
--     Words          numbers read from bytes and written to them, and the room of a lent output: the functions of `words`
--     Readings       the set that is made of lent readings: `readings::gather`
--     GaugePromise   the answer of `glaukemis_gauge`, field by field; the other calls have the promises of those below them
pub mod Words
pub mod Readings
pub mod GaugePromise
