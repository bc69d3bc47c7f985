use Rattle.std.proofs.Common.{Option, subst}
use Rattle.event_queue.specs.declared.event.Event.{Event}
use Rattle.event_queue.specs.EventMap.{ChangesOnly}
use Rattle.shared_looks.proofs.slots.see_event.Goals as goal

pub returns-in-Some : goal.returns-in-Some
returns-in-Some g c = record {
  found = c.see_slot-found.result;
  pass_is = c.see_slot-found.ensures.remembered;
  changes =
      subst (λ (m : Option Event). ChangesOnly c.args.events.now c.set.new.self c.args.child m)
      c.in-Some.ensures.exact c.set.ensures.changes;
  named = λ p e is at. c.see_slot-found.ensures.event p is e at;
}

pub returns-in-None : goal.returns-in-None
returns-in-None g c = record {
  found = c.see_slot-found.result;
  pass_is = c.see_slot-found.ensures.remembered;
  changes =
      subst (λ (m : Option Event). ChangesOnly c.args.events.now c.clear.new.self c.args.child m)
      c.in-None.ensures.exact c.clear.ensures.changes;
  named = λ p e is at. c.see_slot-found.ensures.event p is e at;
}
