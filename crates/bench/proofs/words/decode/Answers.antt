use Rattle.std.proofs.Common.{◌≡◌, arith, length}
use Rattle.std.proofs.lemmas.Bool.Decides.{nat_tests}
use Rattle.std.proofs.lemmas.Grind.{common_steps}
use Rattle.std.proofs.lemmas.List.{take_all}
use Rattle.bench.proofs.Bytes.{longs_by_chunks}
use Rattle.bench.proofs.words.decode.Goals as goal

pub returns : goal.returns
returns c =
    let all : c.loop-i.i ≡ length c.as_chunks.result.0.now = omega arith in
    record {
      numbers = λ f. grind (arith, common_steps, take_all, longs_by_chunks);
      wrong = λ f. grind (arith, common_steps, nat_tests);
    }
