use Rattle.orders_causes.proofs.timers.no_hand.Goals as goal

pub returns-in-Some-no_next_out-clause-named : goal.returns-in-Some-no_next_out-clause-named
returns-in-Some-no_next_out-clause-named c =
    let by = c.in-Some-no_next_out.ensures.named in
    record {
      so = by.so;
      forbids = λ v so may. by.forbids v so (record {
        class = may.class;
        item = may.item;
        queued = may.queued;
        due = may.due;
        timers = may.timers;
      });
    }
