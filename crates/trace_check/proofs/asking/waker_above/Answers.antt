use Rattle.std.proofs.Common.{inr, sym, subst}
use Rattle.trace_check.specs.declared.reach.End.TheVariants as ends
use Rattle.trace_check.specs.Told.{EndsAt, WakesIn}
use Rattle.trace_check.proofs.ToldLaws.{lowest_waker, not_woken, same_time}
use Rattle.trace_check.proofs.asking.waker_above.Goals as goal

pub returns-in-Some-clause-first : goal.returns-in-Some-clause-first
returns-in-Some-clause-first g c =
    let w = c.args.core.now in
    record {
      not_held = c.requires.not_held;
      woken =
          inr (lowest_waker w c.args.cpu.0 c.args.wheel c.args.reach.level c.requires.reach.below
          c.in-Top.time c.in-Some.waker.cpu.0 c.in-Some.waker.at
          (subst (EndsAt w c.args.cpu.0 c.args.wheel c.args.reach.level) c.in-Top.is
          c.requires.reach.end) c.in-Some.ensures.first c.requires.not_itself);
    }

pub returns-in-None-clause-none : goal.returns-in-None-clause-none
returns-in-None-clause-none g c =
    let w = c.args.core.now in
    not_woken w c.args.cpu.0 c.args.wheel c.args.reach.level c.requires.reach.below
    (ends.Top c.in-Top.time)
    (subst (EndsAt w c.args.cpu.0 c.args.wheel c.args.reach.level) c.in-Top.is
    c.requires.reach.end) c.requires.not_itself
    (λ time d same wakes.
    c.in-None.ensures.none d
    (subst (λ n. WakesIn w n d) (sym (same_time c.in-Top.time time same)) wakes))

pub returns-in-Active-clause-none : goal.returns-in-Active-clause-none
returns-in-Active-clause-none g c =
    let w = c.args.core.now in
    not_woken w c.args.cpu.0 c.args.wheel c.args.reach.level c.requires.reach.below
    (ends.Active c.in-Active.field-0)
    (subst (EndsAt w c.args.cpu.0 c.args.wheel c.args.reach.level) c.in-Active.is
    c.requires.reach.end) c.requires.not_itself (λ time d same wakes. cc same)

pub returns-in-Untold-clause-none : goal.returns-in-Untold-clause-none
returns-in-Untold-clause-none g c =
    let w = c.args.core.now in
    not_woken w c.args.cpu.0 c.args.wheel c.args.reach.level c.requires.reach.below ends.Untold
    (subst (EndsAt w c.args.cpu.0 c.args.wheel c.args.reach.level) c.in-Untold.is
    c.requires.reach.end) c.requires.not_itself (λ time d same wakes. cc same)
