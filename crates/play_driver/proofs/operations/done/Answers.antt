use Rattle.play_rules.proofs.FirstMoves.{either_none}
use Rattle.play_driver.proofs.operations.done.Goals as goal

pub arm-requires-clause-cpu : goal.arm-requires-clause-cpu
arm-requires-clause-cpu g c = c.requires.in_range.cpu

pub arm-requires-clause-timer : goal.arm-requires-clause-timer
arm-requires-clause-timer g c = rw c.in-Arm.is at c.requires.in_range.timer

pub arm-requires-clause-allowed : goal.arm-requires-clause-allowed
arm-requires-clause-allowed g c = (either_none _ _ (rw c.in-Arm.is at c.requires.allowed)).0

pub arm-requires-clause-fit : goal.arm-requires-clause-fit
arm-requires-clause-fit g c = c.requires.fit

pub cancel-requires-clause-cpu : goal.cancel-requires-clause-cpu
cancel-requires-clause-cpu g c = c.requires.in_range.cpu

pub cancel-requires-clause-timer : goal.cancel-requires-clause-timer
cancel-requires-clause-timer g c =
    rw c.in-Cancel.is at c.requires.in_range.timer

pub cancel-requires-clause-fit : goal.cancel-requires-clause-fit
cancel-requires-clause-fit g c = c.requires.fit

pub idle-requires-clause-cpu : goal.idle-requires-clause-cpu
idle-requires-clause-cpu g c = c.requires.in_range.cpu

pub idle-requires-clause-allowed : goal.idle-requires-clause-allowed
idle-requires-clause-allowed g c = rw c.in-Idle.is at c.requires.allowed

pub idle-requires-clause-fit : goal.idle-requires-clause-fit
idle-requires-clause-fit g c = c.requires.fit

pub wake-requires-clause-cpu : goal.wake-requires-clause-cpu
wake-requires-clause-cpu g c = c.requires.in_range.cpu

pub wake-requires-clause-allowed : goal.wake-requires-clause-allowed
wake-requires-clause-allowed g c = rw c.in-Wake.is at c.requires.allowed

pub wake-requires-clause-fit : goal.wake-requires-clause-fit
wake-requires-clause-fit g c = c.requires.fit

pub offline-requires-clause-cpu : goal.offline-requires-clause-cpu
offline-requires-clause-cpu g c = c.requires.in_range.cpu

pub offline-requires-clause-allowed : goal.offline-requires-clause-allowed
offline-requires-clause-allowed g c =
    (either_none _ _ (rw c.in-Offline.is at c.requires.allowed)).0

pub offline-requires-clause-missed : goal.offline-requires-clause-missed
offline-requires-clause-missed g c =
    (either_none _ _ (rw c.in-Offline.is at c.requires.allowed)).1

pub offline-requires-clause-fit : goal.offline-requires-clause-fit
offline-requires-clause-fit g c = c.requires.fit

pub online-requires-clause-cpu : goal.online-requires-clause-cpu
online-requires-clause-cpu g c = c.requires.in_range.cpu

pub online-requires-clause-fit : goal.online-requires-clause-fit
online-requires-clause-fit g c = c.requires.fit

pub returns-in-Arm : goal.returns-in-Arm
returns-in-Arm g c = rw c.in-Arm.is c.arm.ensures

pub returns-in-Cancel : goal.returns-in-Cancel
returns-in-Cancel g c = rw c.in-Cancel.is c.cancel.ensures

pub returns-in-Idle : goal.returns-in-Idle
returns-in-Idle g c = rw c.in-Idle.is c.idle.ensures

pub returns-in-Wake : goal.returns-in-Wake
returns-in-Wake g c = rw c.in-Wake.is c.wake.ensures

pub returns-in-Offline : goal.returns-in-Offline
returns-in-Offline g c = rw c.in-Offline.is c.offline.ensures

pub returns-in-Online : goal.returns-in-Online
returns-in-Online g c = rw c.in-Online.is c.online.ensures
