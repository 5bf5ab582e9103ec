-- The only theorems of this crate, all by computing. They serve no function: they hold the definitions, and what must-fail breaks shows in them.
--     Computing   lets every definition of the rules compute: named once, for the modules below
--     Starred     the starred problems of the rules with their whole example, as one proved list, and what an error that looks right would change, as
--                 another
--     Gauges      order 2: groups worked out from readings, and each refusal
pub mod Computing
pub mod Starred
pub mod Gauges
