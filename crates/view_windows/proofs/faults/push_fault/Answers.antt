use Rattle.view_windows.proofs.faults.push_fault.Goals as goal

pub returns-in-CpusFall : goal.returns-in-CpusFall
returns-in-CpusFall c =
    rw c.in-CpusFall.is
    (rw c.from.ensures at
    (rw c.from-in-CpusFall.ensures at c.push_two-in-CpusFall.ensures))

pub returns-in-NoSuchCpu : goal.returns-in-NoSuchCpu
returns-in-NoSuchCpu c =
    rw c.in-NoSuchCpu.is
    (rw c.from-in-NoSuchCpu.ensures at
    (rw c.from-in-NoSuchCpu-2.ensures at c.push_two-in-NoSuchCpu.ensures))
