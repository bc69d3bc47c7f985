use Rattle.std.proofs.Common.{◌≡◌, ◌∙◌, [], None, ap, refl, rules, sym}
use Rattle.wheel_core.specs.PlainBase.{next_out}
use Rattle.cpu_bases.specs.CpuBases.{base_of}
use Rattle.core_world.specs.Lists.{after_all}
use Rattle.core_world.specs.World.{cpu_of}
use Rattle.step_play.specs.Rules.StepRules.{hands}
use Rattle.core_machine.proofs.Draining.Sames.{online_self, same_self}
use Rattle.core_machine.proofs.Draining.Turns.{none_due}
use Rattle.core_machine.proofs.timers.draining.hand_due.Goals as goal

pub returns-then-not-has_due-clause-items : goal.returns-then-not-has_due-clause-items
returns-then-not-has_due-clause-items g c =
    let none : next_out c.args.core.now.clock
    (base_of c.args.class (cpu_of c.args.core.now c.args.home.0).bases) ≡ None =
    search rules in
    c.new.ensures.items
    ∙ sym (none_due c.law_step.ensures c.args.core.now c.args.home.0 c.args.class c.args.runner.0
    c.requires.drains c.tree.ensures.lawful none)

pub returns-then-not-has_due-clause-state : goal.returns-then-not-has_due-clause-state
returns-then-not-has_due-clause-state g c =
    let none : next_out c.args.core.now.clock
    (base_of c.args.class (cpu_of c.args.core.now c.args.home.0).bases) ≡ None =
    search rules in
    ap (λ xs. after_all c.args.core.now
    (hands c.args.home.0 c.args.class c.args.runner.0 xs))
    (sym (none_due c.law_step.ensures c.args.core.now c.args.home.0 c.args.class c.args.runner.0
    c.requires.drains c.tree.ensures.lawful none))

pub returns-then-not-has_due-clause-part : goal.returns-then-not-has_due-clause-part
returns-then-not-has_due-clause-part g c = record {
  out = [];
  left = refl;
  rest = refl;
  same = same_self c.args.core.now c.args.core.now refl;
  online = online_self c.args.core.now c.args.core.now refl;
}
