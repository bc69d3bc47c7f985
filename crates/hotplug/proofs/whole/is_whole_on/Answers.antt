use Rattle.std.proofs.lemmas.Bool.{false≢true}
use Rattle.tm_base.specs.declared.names.Class.TheVariants.{Pinned, Global, Deferrable}
use Rattle.core_world.specs.World.{cpu_of}
use Rattle.hotplug.proofs.Bases.{whole_by}
use Rattle.hotplug.proofs.whole.is_whole_on.Goals as goal

pub returns-then-not-none_behind : goal.returns-then-not-none_behind
returns-then-not-none_behind g c = (
  λ yes. absurd (false≢true yes),
  λ whole. c.if-not-none_behind.ensures.1 (whole Pinned),
)

pub returns-then-not-none_behind-2 : goal.returns-then-not-none_behind-2
returns-then-not-none_behind-2 g c = (
  λ yes. absurd (false≢true yes),
  λ whole. c.if-not-none_behind-2.ensures.1 (whole Global),
)

pub returns : goal.returns
returns g c = (
  λ yes. whole_by (cpu_of c.args.core.now c.args.cpu.0).bases
      (c.none_behind.ensures.0 c.if-not-none_behind.false)
      (c.none_behind-2.ensures.0 c.if-not-none_behind-2.false) (c.none_behind-3.ensures.0 yes),
  λ whole. c.none_behind-3.ensures.1 (whole Deferrable),
)
