use Rattle.std.proofs.Common.{sym, subst}
use Rattle.wheel_core.specs.PlainBase.{sooner}
use Rattle.wheel_base.specs.Marks.{AreNear}
use Rattle.wheel_base.proofs.Timed.{near_forwarded}
use Rattle.wheel_base.proofs.wheel.WheelBaseTimerBase.forward.Goals as goal

pub invariant_of-self : goal.invariant_of-self
invariant_of-self c =
    let keeps = c.self.invariant in
    record {
      known = keeps.known;
      sound = keeps.sound;
      near = subst (λ clock. AreNear (sooner clock c.self.inside.first) c.self.inside.store.filed) (sym c.sooner_of-self-inside.ensures)
          (near_forwarded c.self.inside.clock c.args.now c.self.inside.first c.self.inside.store.filed c.if-self-now.true keeps.known keeps.near);
      few = keeps.few;
      room = keeps.room;
      fits = keeps.fits;
    }
