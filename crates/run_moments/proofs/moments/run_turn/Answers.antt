use Rattle.std.proofs.Common.{arith, ◌≡◌, ◌∙◌, List, false, length, subst, sym, true, ℕ}
use Rattle.std.proofs.lemmas.Result.{IfOk-weaker}
use Rattle.std.specs.List.{list_any}
use Rattle.std.specs.Option.{option_copied}
use Rattle.tm_script.specs.declared.syntax.Op.{Op}
use Rattle.core_world.specs.World.{World}
use Rattle.play_rules.specs.Machines.{SameBuild}
use Rattle.run_plain.specs.step_play.Rules.StepRules.{step_rules}
use Rattle.run_plain.specs.run_story.Stories.{is_hotplug, is_plain}
use Rattle.run_moments.specs.Runs.{IsRunMoment, TellsMoment}
use Rattle.play_driver.proofs.Scripts.{due_in_range}
use Rattle.run_moments.proofs.Plain.{stays_out}
use Rattle.run_moments.proofs.RoundTold.{told_by_threads, told_plainly}
use Rattle.run_moments.proofs.moments.run_turn.Goals as goal

pub plain_moment-requires-clause-in_range : goal.plain_moment-requires-clause-in_range
plain_moment-requires-clause-in_range g c =
    rw (c.come_to-due.ensures.cpus, c.come_to-due.ensures.timers)
    (λ m is.
    (due_in_range (IsRunMoment (length c.args.player.cpus) c.args.player.timers) _ _ _ c.moment_due-m.ensures c.requires.in_range m is).in_range)

pub threaded_moment-requires-clause-in_range : goal.threaded_moment-requires-clause-in_range
threaded_moment-requires-clause-in_range g c =
    rw (c.come_to-due.ensures.cpus, c.come_to-due.ensures.timers)
    (due_in_range (IsRunMoment (length c.args.player.cpus) c.args.player.timers) _ _ _ c.moment_due-m.ensures c.requires.in_range)

pub threaded_moment-requires-clause-in_time : goal.threaded_moment-requires-clause-in_time
threaded_moment-requires-clause-in_time g c =
    omega (arith, c.come_to-due.ensures.clock, c.requires.in_time)

pub threaded_moment-requires-clause-stay : goal.threaded_moment-requires-clause-stay
threaded_moment-requires-clause-stay g c =
    subst (λ (ops : List Op). list_any (λ o. is_hotplug o.what) ops ≡ false) c.ops_of.ensures
    (stays_out c.cpu_count.result c.come_to-due.result c.ops_of.result.now (sym c.is_plain.ensures ∙ c.if-is_plain.false))

pub returns-in-Ok-clause-tells : goal.returns-in-Ok-clause-tells
returns-in-Ok-clause-tells g c =
    let s = c.come_to-due.new.player in
    let due = c.come_to-due.result in
    let by_count : is_plain (length s.cpus) due c.ops_of.result.now ≡ true =
    subst (λ (n : ℕ). is_plain n due c.ops_of.result.now ≡ true) c.cpu_count.ensures.count (sym c.is_plain.ensures ∙ c.if-is_plain.true) in
    told_plainly (g.J.Jobs.replies c.args.jobs.now) c.args.left.now c.args.now c.args.player c.args.telling.now _ _ s due (option_copied c.moment_due-m.result)
    c.come_to-due.ensures.state c.come_to-due.ensures.set c.moment_due-m.ensures
    (subst (λ (ops : List Op). is_plain (length s.cpus) due ops ≡ true) c.ops_of.ensures by_count)
    c.in-Ok.ensures.prints

pub returns-clause-tells : goal.returns-clause-tells
returns-clause-tells g c =
    let jobs = g.J.Jobs.replies c.args.jobs.now in
    let s = c.come_to-due.new.player in
    let due = c.come_to-due.result in
    let by_count : is_plain (length s.cpus) due c.ops_of.result.now ≡ false =
    subst (λ (n : ℕ). is_plain n due c.ops_of.result.now ≡ false) c.cpu_count.ensures.count (sym c.is_plain.ensures ∙ c.if-is_plain.false) in
    IfOk-weaker c.threaded_moment.result _
    (λ (w : World). TellsMoment jobs c.args.left.now c.args.now c.args.player c.args.telling.now c.threaded_moment.new.telling w)
    (λ after.
    told_by_threads jobs c.args.left.now c.args.now c.args.player c.args.telling.now c.threaded_moment.new.telling after s due (option_copied c.moment_due-m.result)
    c.come_to-due.ensures.state c.come_to-due.ensures.set c.moment_due-m.ensures
    (subst (λ (ops : List Op). is_plain (length s.cpus) due ops ≡ false) c.ops_of.ensures by_count))
    c.threaded_moment.ensures.tells

pub come_to-due-requires-clause-fit : goal.come_to-due-requires-clause-fit
come_to-due-requires-clause-fit g c = c.requires.fit

pub plain_moment-requires-clause-online : goal.plain_moment-requires-clause-online
plain_moment-requires-clause-online g c = c.come_to-due.ensures.online

pub plain_moment-requires-clause-fit : goal.plain_moment-requires-clause-fit
plain_moment-requires-clause-fit g c = c.come_to-due.ensures.fit

pub threaded_moment-requires-clause-online : goal.threaded_moment-requires-clause-online
threaded_moment-requires-clause-online g c = c.come_to-due.ensures.online

pub threaded_moment-requires-clause-fit : goal.threaded_moment-requires-clause-fit
threaded_moment-requires-clause-fit g c = c.come_to-due.ensures.fit

pub returns-in-Ok-clause-fit : goal.returns-in-Ok-clause-fit
returns-in-Ok-clause-fit g c = c.in-Ok.ensures.fit

pub returns-in-Ok-clause-gains : goal.returns-in-Ok-clause-gains
returns-in-Ok-clause-gains g c = c.plain_moment.ensures.gains

pub returns-in-Err-clause-gains : goal.returns-in-Err-clause-gains
returns-in-Err-clause-gains g c = c.plain_moment.ensures.gains

pub returns-clause-clock : goal.returns-clause-clock
returns-clause-clock g c =
    IfOk-weaker c.threaded_moment.result _ (λ (w : World). w.clock ≡ c.args.now)
    (λ after same. same ∙ c.come_to-due.ensures.clock) c.threaded_moment.ensures.clock

pub returns-clause-same : goal.returns-clause-same
returns-clause-same g c =
    let at = c.come_to-due.ensures in
    IfOk-weaker c.threaded_moment.result _ (SameBuild step_rules c.args.player)
    (λ after same. record {
      timers = same.timers ∙ at.timers;
      cpus = same.cpus ∙ at.cpus;
    })
    c.threaded_moment.ensures.same

pub returns-clause-fit : goal.returns-clause-fit
returns-clause-fit g c = c.threaded_moment.ensures.fit

pub returns-clause-gains : goal.returns-clause-gains
returns-clause-gains g c = c.threaded_moment.ensures.gains
