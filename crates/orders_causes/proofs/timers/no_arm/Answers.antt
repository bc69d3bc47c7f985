use Rattle.orders_causes.proofs.timers.no_arm.Goals as goal

pub returns-in-Some-no_arming-clause-named : goal.returns-in-Some-no_arming-clause-named
returns-in-Some-no_arming-clause-named c =
    let by = c.in-Some-no_arming.ensures.named in
    record {
      so = by.so;
      forbids = λ v so may. by.forbids v so (record {
        known = may.known;
        not_queued = may.not_queued;
        to_come = may.to_come;
        in_time = may.in_time;
      });
    }
