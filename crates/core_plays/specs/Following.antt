-- the moments of a script that come after a time, and what holds of the next moment of a core
use Rattle.std.specs.Prelude.{◌≡◌, ◌≢◌, ℕ, ◌+◌, ◌<◌, ◌≤◌, List, [], ◌∷◌, Some}
use Rattle.std.specs.Prelude.{Contains, if◌then◌else◌, nat_lt, slice_get, true}
use Rattle.tm_base.specs.declared.names.Class.{Class}
use Rattle.tm_base.specs.declared.names.Class.TheVariants.{Deferrable}
use Rattle.wheel_core.specs.declared.item.Item.{Item}
use Rattle.cpu_bases.specs.CpuBases.{base_of}
use Rattle.tm_script.specs.declared.syntax.Moment.{Moment}
use Rattle.tm_script.specs.declared.syntax.Script.{Script}
use Rattle.play_rules.specs.Interrupts.{Replies}
use Rattle.play_rules.specs.Moments.{Turn}
use Rattle.core_world.specs.World.{World, cpu_of}
use Rattle.core_machine.specs.step_play.SamePlay.{step_turns}

-- a script's moments ascend: without those at its front that don't come after the time
abbrev pub moments_past : (now : ℕ) → List Moment → List Moment
moments_past now [] = []
moments_past now (m ∷ ms) = if nat_lt now m.at then m ∷ ms else moments_past now ms

-- NONE IS PASSED OVER by a moment: it comes no later than the wheel expiry of any pinned or global
-- timer of an online CPU that is still to come
abbrev pub PassesNone : World → (next : ℕ) → Type 0
PassesNone w next = (c : ℕ) (class : Class) (item : Item) → (cpu_of w c).online ≡ true →
    class ≢ Deferrable → Contains (base_of class (cpu_of w c).bases).items item →
    w.clock < item.wheel → next ≤ item.wheel

-- THE ONE THAT THE PLAY MAKES: where a moment of the script's play by steps left this core,
-- whatever its jobs answer, and another moment follows, it is played at this time
abbrev pub IsNextOfPlay : World → Script → (next : ℕ) → Type 0
IsNextOfPlay w script next = (jobs : Replies) (n : ℕ) (here there : Turn World) →
    slice_get (step_turns jobs script) n ≡ Some here →
    slice_get (step_turns jobs script) (n + 1) ≡ Some there → here.played.state ≡ w →
    there.at ≡ next
