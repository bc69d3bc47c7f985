use Rattle.cpu_bases.proofs.Legal.{legal_later}
use Rattle.base_calls.proofs.bases.make_call.Goals as goal

pub returns-in-Arm-clause-legal : goal.returns-in-Arm-clause-legal
returns-in-Arm-clause-legal g c =
    rw c.in-Arm.is
    (λ cpu time near right upto.
    c.arm.ensures.keeps.legal cpu (legal_later cpu time c.in-Arm.now _ near upto))

pub returns-in-Cancel-clause-legal : goal.returns-in-Cancel-clause-legal
returns-in-Cancel-clause-legal g c =
    rw c.in-Cancel.is
    (λ cpu time near right upto.
    c.cancel.ensures.keeps.legal cpu (legal_later cpu time c.in-Cancel.now _ near upto))

pub returns-in-MoveOut-clause-legal : goal.returns-in-MoveOut-clause-legal
returns-in-MoveOut-clause-legal g c =
    rw c.in-MoveOut.is
    (λ cpu time near right upto.
    c.move_out.ensures.keeps.legal cpu (legal_later cpu time c.in-MoveOut.now _ near upto))

pub returns-in-MoveIn-clause-legal : goal.returns-in-MoveIn-clause-legal
returns-in-MoveIn-clause-legal g c =
    rw c.in-MoveIn.is
    (λ cpu time near right upto.
    c.move_in.ensures.keeps.legal cpu (legal_later cpu time c.in-MoveIn.now _ near upto))
