use Rattle.core_facts.proofs.HoldersRead.{each_lock_is_held}
use Rattle.core_facts.proofs.law_lock.Goals as goal

pub returns : goal.returns
returns c = each_lock_is_held
