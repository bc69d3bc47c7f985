use Rattle.orders_causes.proofs.looks.no_hand_on.Goals as goal

pub returns-in-Some-clause-named : goal.returns-in-Some-clause-named
returns-in-Some-clause-named c =
    let by = c.in-Some.ensures.named in
    record {
      so = by.so;
      forbids = λ v so may. by.forbids v so (may.made, may.walk, may.handing);
    }
