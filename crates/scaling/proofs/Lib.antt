-- The proofs of the functions stand beside this file, in folders that mirror src/. The general modules, each standing on those above it:
-- ---- the column steps
--     Values            single values: what is stored, a quotient that can be negated
--     Places            places in a flat list: which are apart, which are in it, where a turned entry stood
--     StridedContents   what the lists of specs/Strided hold after their turns
--     StridedLines      the lines of a flat list before and after a loop, and what an addition's flag says
--     State             the code's state read as the definition's: its lines, its entries and their sizes, the bounds of its places
--     Steps             the three steps and the reordering of the code are the definition's
pub mod Values
pub mod Places
pub mod StridedContents
pub mod StridedLines
pub mod State
pub mod Steps
-- ---- the stages
--     Finding           the searches of std as the code calls them, as the definition's; a row as a slice of the flat list
--     TableRow          a row of the table that a stage looks at: its entries, their size
--     Tracking          how an addition counts, and the ways in which a state tracks one
--     Searched          (A)'s two searches by the code, and what (A) does next
--     Repeating         repetitions of (A): what each asks, where they end, how they go on; the first one
--     Reducing          the parts of (B): the pivot's column to its place, its sign, one column into range
--     Settling          columns into range one after the other, those that are already passed over, and the whole of (B)
--     Rowing            one row
--     RowScan           the scan of a row for its smallest entry
--     AllRows           all rows of a stage
--     ThirdStage        stage 3
pub mod Finding
pub mod TableRow
pub mod Tracking
pub mod Searched
pub mod Repeating
pub mod Reducing
pub mod Settling
pub mod Rowing
pub mod RowScan
pub mod AllRows
pub mod ThirdStage
-- ---- lists that are filled
--     Filling           writing one entry after the other into a lent list
pub mod Filling
-- ---- the build
--     Diagonal          the identity, one entry of the diagonal after the other
--     MatrixC           the entries of C as the code finds them, and bounds of a well-formed problem
--     Starting          the start is the definition's
--     Running           the run is the definition's
--     Building          from the run to H, V and W as they are lent out
--     BuildCall         the call, from its checks on
--     Called            the call, as a later call makes it
pub mod Diagonal
pub mod MatrixC
pub mod Starting
pub mod Running
pub mod Building
pub mod BuildCall
pub mod Called
