use Rattle.std.proofs.Common.{arith, refl, sym, subst, ◌∙◌}
use Rattle.std.proofs.lemmas.Result.{err_from_is_err_and}
use Rattle.tm_base.specs.declared.names.Class.TheVariants.{Global}
use Rattle.play_rules.specs.Interrupts.{drain}
use Rattle.play_rules.specs.Parts.{Prints, silent}
use Rattle.play_rules.specs.Phases.{serving}
use Rattle.play_rules.proofs.Plays.{gains_none, prints_at, prints_silent, prints_then}
use Rattle.play_driver.proofs.Parts.{inside_none, inside_then}
use Rattle.play_driver.proofs.interrupts.try_one.Goals as goal

pub takes-requires-clause-cpu : goal.takes-requires-clause-cpu
takes-requires-clause-cpu g c = c.requires.cpu

pub takes-requires-clause-other : goal.takes-requires-clause-other
takes-requires-clause-other g c = c.requires.other

pub returns-then-not-takes : goal.returns-then-not-takes
returns-then-not-takes g c =
    record {
      prints = rw (sym c.takes.ensures ∙ c.if-not-takes.true) (prints_silent _ _);
      same = inside_none _ _;
      fit = c.requires.fit;
      gains = gains_none _;
    }

pub take-requires-clause-cpu : goal.take-requires-clause-cpu
take-requires-clause-cpu g c = c.requires.cpu

pub take-requires-clause-other : goal.take-requires-clause-other
take-requires-clause-other g c = c.requires.other

pub take-requires-clause-placed : goal.take-requires-clause-placed
take-requires-clause-placed g c = c.requires.placed

pub take-requires-clause-takes : goal.take-requires-clause-takes
take-requires-clause-takes g c = sym c.takes.ensures ∙ c.if-not-takes.false

pub take-requires-clause-fit : goal.take-requires-clause-fit
take-requires-clause-fit g c = c.requires.fit

pub drain-requires-clause-home : goal.drain-requires-clause-home
drain-requires-clause-home g c = omega (arith, c.requires.other, c.take.ensures.same.cpus)

pub drain-requires-clause-runner : goal.drain-requires-clause-runner
drain-requires-clause-runner g c = omega (arith, c.requires.cpu, c.take.ensures.same.cpus)

pub drain-requires-clause-fit : goal.drain-requires-clause-fit
drain-requires-clause-fit g c =
    record {
      phase = serving c.args.cpu.0 c.args.other.0;
      allowed = (refl, refl, refl);
      fit = c.take.ensures.fit;
    }

pub returns-in_err-drain : goal.returns-in_err-drain
returns-in_err-drain g c =
    let p = err_from_is_err_and c.from_residual.result c.from_residual.ensures.1 in
    rw p.1 (record {
      prints = tt;
      same = tt;
      fit = tt;
      gains = c.in_err-drain.ensures.gains;
    })

pub let_go-requires-clause-cpu : goal.let_go-requires-clause-cpu
let_go-requires-clause-cpu g c =
    omega (arith, c.requires.cpu, c.take.ensures.same.cpus, c.in_ok-drain.ensures.same.same.cpus)

pub let_go-requires-clause-other : goal.let_go-requires-clause-other
let_go-requires-clause-other g c =
    omega (arith, c.requires.other, c.take.ensures.same.cpus, c.in_ok-drain.ensures.same.same.cpus)

pub let_go-requires-clause-fit : goal.let_go-requires-clause-fit
let_go-requires-clause-fit g c =
    c.in_ok-drain.ensures.fit (serving c.args.cpu.0 c.args.other.0) (refl, refl, refl)
    c.take.ensures.fit

pub returns : goal.returns
returns g c =
    let r = g.M.PlayMachine.rules in
    let jobs = g.J.Jobs.replies c.args.jobs.now in
    let world = g.M.PlayMachine.world in
    let s = world c.args.machine.now in
    let cpu = c.args.cpu.0 in
    let other = c.args.other.0 in
    let taken = c.take.ensures in
    let done = c.in_ok-drain.ensures in
    let drains = subst (λ t. Prints (drain jobs r other Global cpu t) c.args.telling.now
    c.drain.new.telling (world c.drain.new.machine)) taken.state done.prints in
    record {
      prints = rw (sym c.takes.ensures ∙ c.if-not-takes.false)
          (prints_then (drain jobs r other Global cpu (r.taken s cpu other))
          (λ t. silent (r.let_go t cpu other)) _ _ _ _ _ drains
          (prints_at _ _ _ _ _ c.let_go.ensures.state (prints_silent _ _)));
      same = inside_then _ _ _ _ (record { same = taken.same; online = taken.online })
          (inside_then _ _ _ _ done.same
          (record { same = c.let_go.ensures.same; online = c.let_go.ensures.online }));
      fit = c.let_go.ensures.fit;
      gains = done.gains;
    }
