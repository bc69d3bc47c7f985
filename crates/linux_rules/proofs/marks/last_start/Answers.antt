use Rattle.std.proofs.Common.{arith}
use Rattle.text_words.specs.Words.{lines_of}
use Rattle.linux_rules.proofs.LastMark.{kept_first, lost_first}
use Rattle.linux_rules.proofs.marks.last_start.Goals as goal

pub loop-text-init : goal.loop-text-init
loop-text-init c =
    record {
      lost = lost_first (lines_of c.args.bytes.now);
      kept = kept_first (lines_of c.args.bytes.now);
      within = omega arith;
    }
