-- Where `stages` unfolds, so does every definition up to the whole run, and where `computing` unfolds, every definition of the rules: a closed statement
-- about them is then proved by `refl`. A new definition is named here, once.
use Prim.Native.Nat.{ℕ}
use Rattle.whole.specs.Sum.{sum}
use Rattle.rules.specs.Search.{first, last, smallest, total, each}
use Rattle.rules.specs.Problem.{modulus_rows_from, columns}
use Rattle.rules.specs.Steps.{get, get_w, step, swap_step, negate_step, add_step, reorder, start_lines}
use Rattle.rules.specs.Stages.{size, next, repeat_a, eliminate, reduce, bring, make_positive, settle, row, rows, stage1, stage2, stage3, run_on, run}
use Rattle.rules.specs.Formulas.{row_times, remainder, weight, is_free, k_of, k_then_v, translated, group, passes}
use Rattle.rules.specs.Calls.{first_out, build_verdict, weigh_verdict, translate_verdict, contents_h, contents_v, contents_w, weights, translated_exponents, build_of, weigh_of, translate_of}
use Rattle.rules.specs.Bytes.{short, long, shorts, longs, bytes_of}
use Rattle.rules.specs.Bench.{bench_build_verdict, bench_build_of, bench_translate_verdict, bench_translate_of}
use Rattle.rules.specs.Frames.{lines_of, digit, unhex, frame_of, is_frame, row_modulus, row_entries, term_coefficient, term_exponents, first_bad, contents_of, sized, reading_of, digit_of, hex, frame, refusal_line, sizes_line, row_lines, term_lines, printed, program}

-- the number says nothing: what counts is the line above it
unfoldable pub stages : ℕ
unfolding first last smallest total each modulus_rows_from columns get get_w step swap_step negate_step add_step reorder start_lines size next repeat_a eliminate reduce bring make_positive settle row rows stage1 stage2 stage3 run_on run
stages = 0

unfoldable pub calls : ℕ
unfolding stages sum row_times remainder weight is_free k_of k_then_v translated group passes first_out build_verdict weigh_verdict translate_verdict contents_h contents_v contents_w weights translated_exponents build_of weigh_of translate_of
calls = 0

unfoldable pub computing : ℕ
unfolding calls short long shorts longs bytes_of bench_build_verdict bench_build_of bench_translate_verdict bench_translate_of lines_of digit unhex frame_of is_frame row_modulus row_entries term_coefficient term_exponents first_bad contents_of sized reading_of digit_of hex frame refusal_line sizes_line row_lines term_lines printed program
computing = 0
