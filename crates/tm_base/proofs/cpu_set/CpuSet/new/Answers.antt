use Rattle.tm_base.proofs.Marks.{no_words}
use Rattle.tm_base.proofs.cpu_set.CpuSet.new.Goals as goal

pub returns : goal.returns
returns c = no_words
