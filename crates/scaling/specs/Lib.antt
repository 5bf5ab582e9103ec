-- Strided        the loops on a flat list, as functions of the turns done
-- Sound          what is true of every work state
-- WorkState      the code's work state as the definition's
-- Scan           the searches in a row
-- Rows           (A), (B), a row, all rows and stage 3 on the code's state
-- Problem        the matrix C as the code writes it, and what the run begins and ends with
-- Answers        what `build` answers, as C reads it
-- BuildPromise   what `build` answers and leaves in the lent outputs
pub mod Strided
pub mod Sound
pub mod WorkState
pub mod Scan
pub mod Rows
pub mod Problem
pub mod Answers
pub mod BuildPromise
