use Rattle.cpu_bases.proofs.Ends.{each_end_fits, one_end}
use Rattle.cpu_bases.proofs.laws.law_journals.Goals as goal

pub returns : goal.returns
returns c = record { one_end = one_end; each_end_fits = each_end_fits }
