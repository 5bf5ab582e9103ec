-- Theorems about `rules`, none about code. For every problem: any m, n, entries and moduli, unless a line says otherwise.
--
-- 1. Kept throughout: T = C·V, V·W = I, W·V = I and the shapes hold at the start, after every column step and after the reordering.
--      Start.start_holds, .start_shape, Equations.swap_holds, .negate-holds, .add_holds, .reorder-holds; of any sequence of steps Sequence.steps_hold, .steps_shape
-- 2. Every repetition ends: each time that (A) is done the sum of absolute values becomes smaller, and the definition's bound cuts no step off.
--      Eliminate.total_falls, .eliminate_ends
-- 3. The run of any problem comes to a right answer; and what each stage leaves.
--      Run.run_right; AfterStages.first_hermite, .second-hermite, .second_leaves_T, .second-rising, .third_is, .third_leaves_T
-- 4. There is one right answer: two that are right for one problem are equal, r, H, V and W.
--      Unique.normal_unique; of the lists that hold them RightLists.normal_lists_unique, .right_is_built
-- 5. The range flag never falls, and it is set exactly when some step of the run writes a value beyond M; the count is that of the steps taken.
--      Flag.rows_over and its like for every part of the run; Flag.over_exactly, .run_over, .run-counted
-- 6. The last d columns of V are a basis of the whole vectors that C kills; with one modulus for each row their pivots stand in quantity rows,
--    d ≤ n and s ≤ r.
--      Kernel.last_killed, .killed_is, .killed_only; Groups.pivots_in_quantities, .d-le-n, .s-le-rank, .groups-hermite
-- 7. Translation: the groups to the translated exponents give a free v back, no other whole exponents do, and a v that is not free has none at
--    all; a translated formula goes back term for term.
--      Translation.translated-back, .translated-only, .free-of_groups, .formula-translated-back, .formula-translated-only; the all-zero
--      exponents and d = 0: .zero_is-free, .free_without_groups
-- 8. Sizes within the limits of R2.1 to R2.6: every sum and product that code takes stays within 63 bits, the outputs have room, and an accepted run
--    takes few steps.
--      Sizes.add_size, .row-begun_size, .translated-begun-fits, .room_for_H and its like; RunRange.well_formed_moderate,
--      .run-entries, .run_entries_w; RunBound.run_bound
-- 9. (A) is repeated few times in one row. Say c of the active columns are not zero there, and μ is the smallest absolute value of these: then at
--    most c + e times if μ is below fib (e + 3), the Fibonacci numbers being 0, 1, 1, 2, .., or if all are at most 2·fib (e + 3). So at most 44 times
--    more than there are active columns if μ is within M, and 42 if all are: with 24 columns 68 and 66 times. Both are reached.
--      Depth.depth_by_smallest, .depth_by_entries, both by .depth_by_remainders; .depth_smallest-within, .depth_all-within, in the run .row_depth;
--      Reached.takes_68, .takes_66
-- 10. Order 2, of any exponents and readings: where the readings are powers of two and the running values stay in range, the value is exact;
--     a running value that is zero or not finite stays so, and the last value tells; of the readings the first n decide.
--       Powers.mul-two, .div-two, .two_fits, .fits-held; Operations.operations-sum; Exactness.group_exact, .between-held, .stays-in_range;
--       LastValue.last_tells; Gauges.gauge_alike, .gauge_not_0

-- ---- the tests of rules' Limits, grids and bytes of numbers, and the searches
--     Limits        the tests of rules/specs/Limits and what their answers say, for Accepted and the proofs of the checks
--     Grid          the grid of a matrix, row after row, and such a list read as a matrix: what a lent buffer holds
--     Bytes         numbers in bytes, one after the other, for `frames` and `bench`
--     Search        what each result of a search means, as a view, and the sum over columns
pub mod Limits
pub mod Grid
pub mod Bytes
pub mod Search
-- ---- 1: the state after each step and after the reordering, and sequences of steps
--     StepLines     which lines each of the three steps writes and which it leaves; the count and the flag
--     Entries       each entry of T, V and W after each step: the steps are those of whole/proofs/Columns
--     Lines         what holds of every line stays so; the shapes stay
--     Reorder       where each line comes from in the reordering, and that it keeps T = C·V and the inverses
--     Equations     the equations of theorem 1, after each step and after the reordering
--     Start         the start: its lines, its shape, and that theorem 1 holds of it
--     Moves         runs of steps whose sources are columns lo to a, and the frame law: a row that is zero there stays as it is
--     Sequence      a run as a list of steps: what it keeps, what it writes, how many they are; for Flag and demand 2
pub mod StepLines
pub mod Entries
pub mod Lines
pub mod Reorder
pub mod Equations
pub mod Start
pub mod Moves
pub mod Sequence
-- ---- 2
--     Eliminate     (A): the sum of absolute values falls, and one active column at most is left
pub mod Eliminate
-- ---- 3
--     Settle        (B): the pivot's column in its place, positive, and the finished columns reduced by it
--     Pivots        a finished column and its pivot, and how finished columns make a Hermite form
--     Stage         all rows of a stage, over the table looked at and the first active column
--     StageThree    stage 3: what it leaves alone, and what it brings into range
--     AfterStages   what stands after each of the three stages
--     Run           theorem 3, of the run of a problem
pub mod Settle
pub mod Pivots
pub mod Stage
pub mod StageThree
pub mod AfterStages
pub mod Run
-- ---- 4: the key lemma of Hermite forms, lattices, kernels
--     KeyLemma      the lowest non-zero entry of H·x; columns of a Hermite form are independent
--     Lattice       two Hermite forms of one column lattice are equal
--     Kernel        the last d columns of V are a basis of what C kills (theorem 6 too)
--     Unique        theorem 4, of matrices
--     SameEntries   what is right is so by its entries alone
--     RightLists    theorem 4, of the lists that hold them
pub mod KeyLemma
pub mod Lattice
pub mod Kernel
pub mod Unique
pub mod SameEntries
pub mod RightLists
-- ---- 5
--     Parts         what the three steps keep, every part of the run keeps
--     Flag          theorem 5; that the flag never falls is why `scaling` may stop at once
pub mod Parts
pub mod Flag
-- ---- 6: the matrix C of a problem, and the groups
--     ModulusRows   the rows with a modulus: which they are, and that they rise
--     Shape         the columns of C: s modulus columns, then the quantities
--     Product       C·x, row by row
--     Groups        theorem 6: the groups are in Hermite form, at most n of them
pub mod ModulusRows
pub mod Shape
pub mod Product
pub mod Groups
-- ---- 7
--     Weights       a weight in a row with a modulus and without, and what is_free says
--     Translation   theorem 7
pub mod Weights
pub mod Translation
-- ---- 8
--     Sizes         no sum or product of the code passes 64 bits, and the outputs have room: for the proofs of the code
--     Range         without the flag every entry is within M, step by step
--     RunRange      the same of the run of a problem, and the lengths of its lines
--     StepBound     how many steps each part of the run takes at most
--     RunBound      how many the run of an accepted problem takes at most
pub mod Sizes
pub mod Range
pub mod RunRange
pub mod StepBound
pub mod RunBound
-- ---- 9
--     Fibonacci     the Fibonacci numbers, which bound repeated divisions
--     Filled        how many of the active columns are not zero in a row
--     Pair          why few repetitions are left: two columns divide each other in turn, as in Euclid's algorithm
--     Depth         theorem 9, its bounds: how deep `Work::eliminate` calls itself
--     Reached       theorem 9, rows that reach them, by computing
pub mod Fibonacci
pub mod Filled
pub mod Pair
pub mod Depth
pub mod Reached
-- ---- what an accepted call knows of its input, and what a refusal says
--     Accepted      what has passed once a call is taken: the limits, each term free and translated within M
--     Refusals      a number that no check has is never given, so no refusal has the number 0
pub mod Accepted
pub mod Refusals
-- ---- for code: the recursions as loops meet them
--     Loops         the recursions of rules/specs before the first index, one index more, and on the way out: loop invariants
--     Repetition    one repetition of (A) as `Work::eliminate` meets it: the next p without a search
pub mod Loops
pub mod Repetition
-- ---- 10
--     Powers        products and quotients of powers of two in binary64
--     Operations    the operations of a group, one quantity after the other
--     LastValue     the last value tells whether a running value was zero or not finite: check 13 of `gauge`
--     Exactness     on powers of two the value is exact
--     Gauges        no refusal of `gauge` has the number 0, and the first n readings decide
pub mod Powers
pub mod Operations
pub mod LastValue
pub mod Exactness
pub mod Gauges
