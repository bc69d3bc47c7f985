use Rattle.std.proofs.Common.{◌≡◌, ℕ, List, Result, Ok, refl, codes}
use Rattle.linux_lines.specs.declared.faults.LineFault.{LineFault}
use Rattle.linux_lines.specs.declared.events.Expiries.{Expiries}
use Rattle.linux_lines.specs.Parts.{parts_of}
use Rattle.linux_lines.specs.Fields.{expiry_at}
use Rattle.linux_lines.specs.Lines.{expiries_in}
use Rattle.linux_lines.proofs.happenings.read_expiries.Goals as goal

abbrev made : ℕ → ℕ → ℕ → Result Expiries LineFault
made a b c = Ok (record { stored = a; first = b; child_first = c })

read : (parts : List (List ℕ)) (a b c : ℕ) → Ok a ≡ expiry_at (codes "nextevt=") parts
    → Ok b ≡ expiry_at (codes "next_expiry=") parts
    → Ok c ≡ expiry_at (codes "child_evt_expiry=") parts → made a b c ≡ expiries_in parts
unfolding expiries_in
read parts a b c p q r = rw (← p, ← q, ← r) refl

pub returns : goal.returns
returns c =
    read (parts_of c.args.bytes.now) c.in_ok-stored.stored c.in_ok-first.first
    c.in_ok-child_first.child_first c.in_ok-stored.ensures c.in_ok-first.ensures
    c.in_ok-child_first.ensures
