-- What the contracts of this crate's functions cite, beside the definitions of the crate rules.
--     Line     the line that starts a text, and how the code tests it: the functions of `line`
--     Sized    the sizes that an Input keeps
--     Input    what an Input says, and whether the lines say the same: `read::read`, what `solve` is given
--     Output   what a Text holds, the lines by their numbers, a whole output: the functions of `print` and `solve`, `answer`
--     Fields   the fields of a Text, from what it says: that it may be copied
--     Broken   an input that broke off, and how it is refused: `input::read` of `glaukemis`
pub mod Line
pub mod Sized
pub mod Input
pub mod Output
pub mod Fields
pub mod Broken
