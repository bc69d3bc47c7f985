use Rattle.core_laws.proofs.Locks.Keeps.{locks_stay}
use Rattle.core_laws.proofs.lock_laws.law_locks.Goals as goal

pub returns : goal.returns
returns c = locks_stay
