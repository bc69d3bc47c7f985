use Rattle.std.proofs.Common.{◌≡◌, ◌∙◌, Some, sym, subst}
use Rattle.wheel_core.specs.PlainBase.{sooner}
use Rattle.wheel_base.specs.Marks.{AreNear}
use Rattle.wheel_base.proofs.GoingOut.{near_least, next_out_of}
use Rattle.wheel_base.proofs.outs.next_entry.Goals as goal

pub out_of-requires : goal.out_of-requires
out_of-requires c =
    let first : c.args.first ≡ Some c.in_ok-wheel.wheel = c.in_ok-wheel.was in
    record {
      near = near_least c.args.clock c.in_ok-wheel.wheel c.args.store.now.filed (sym c.requires.first ∙ first)
          (subst (λ first. AreNear (sooner c.args.clock first) c.args.store.now.filed) first c.requires.near);
    }

pub returns : goal.returns
returns c =
    next_out_of c.args.now c.in_ok-wheel.wheel c.args.store.now.filed c.out_of.result (sym c.requires.first ∙ c.in_ok-wheel.was) c.if-now-wheel.false c.out_of.ensures
