-- The rules of docs/RULES.md as definitions, in their order. Every definition carries the number of its rule.
-- Behind them the orders': Gauges is order 2.
--     Limits     the limits of every number, M, and the sizes of the outputs: the checks of every call
--     Search     the first, last and smallest index of a range, a sum over it, a loop over it: Stages, Calls
--     Problem    a problem, its moduli, the matrix C and its columns; when it is well formed
--     Forms      column Hermite form, the normal multiplier, what is right for a problem: the theorems of `theory` and demand 2
--     Steps      the work state and the three column steps, the reordering, the start: the methods of `Work` in `scaling`
--     Stages     (A), (B), a row, the three stages and the whole run, which `run::run` of `scaling` makes
--     Formulas   weights, free of dimension, groups, a formula and its translation: the crate `formulas`
--     Calls      the order of checks, and what `build`, `weigh` and `translate` answer and leave in the lent buffers
--     Bytes      numbers in one, two and four bytes: Bench and Frames
--     Bench      what `glaukemis_build` and `glaukemis_translate` answer and leave, over bytes
--     Frames     the lines that the program reads and prints, from input bytes to output bytes: `frames::answer`
--     Gauges     order 2: what `gauges::gauge` and `glaukemis_gauge` answer
pub mod Limits
pub mod Search
pub mod Problem
pub mod Forms
pub mod Steps
pub mod Stages
pub mod Formulas
pub mod Calls
pub mod Bytes
pub mod Bench
pub mod Frames
pub mod Gauges
