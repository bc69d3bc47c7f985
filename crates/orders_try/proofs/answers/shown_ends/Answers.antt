use Rattle.std.proofs.Common.{◌++◌, ◌∷◌, [], ◌∙◌, ap, map, sym}
use Rattle.std.proofs.lemmas.List.{map-append}
use Rattle.orders_ends.specs.Sights.{SeenEnd}
use Rattle.orders_search.specs.declared.found.End.{End}
use Rattle.orders_try.specs.Gathering.{seen_of}
use Rattle.orders_try.proofs.answers.shown_ends.Goals as goal

pub loop-end-preserved : goal.loop-end-preserved
loop-end-preserved c =
    let w = c.with_orders.ensures in
    ap (map seen_of) c.in_ok-push.ensures.items
    ∙ (map-append seen_of c.loop-end.list.items _
    ∙ ((λ i. c.loop-end.invariant i ++ (record {
      state = record {
        groups = w.groups i;
        sleepers = w.sleepers i;
        timers = w.timers i;
        waiting = w.waiting i;
      };
      orders = w.orders i;
    }) ∷ [])
    ∙ sym (map-append (λ (e : End SeenEnd). e.found) c.loop-end.yielded _)))
