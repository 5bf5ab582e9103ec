-- Laws for the bench's proofs, from the top: each module stands on those above it only.
--     Bytes           a number in four bytes of a buffer, read there and written there
--     Verdicts        when two verdicts agree
--     Inputs          what the code makes of lent inputs, and which problem and formula come of it
--     Outputs         what the code hands on for lent outputs, and what is written of it
--     BuildCall       from the build of what was heard to the build of the bytes
--     TranslateCall   the same for the translation
--     GaugeCall       from the readings that the code gathers to those that were lent
pub mod Bytes
pub mod Verdicts
pub mod Inputs
pub mod Outputs
pub mod BuildCall
pub mod TranslateCall
pub mod GaugeCall
