-- the bound on the work of a play
use Rattle.std.specs.Prelude.{◌≡◌, ℕ, ◌+◌, ◌*◌, ◌<◌, ◌≤◌, None}
use Rattle.tm_script.specs.declared.syntax.Script.{Script}
use Rattle.tm_script.specs.Texts.{cpu_count}
use Rattle.tm_script.specs.Grammar.{IsScript}
use Rattle.wheel_core.specs.WheelExpiry.{greatest_timeout}
use Rattle.play_rules.specs.Interrupts.{Replies}
use Rattle.play_rules.specs.Play.{play_spent}

-- WORK IS BOUNDED: a play whose moments can't make as much work as the limit isn't broken off. The
-- limits of both versions are below the greatest timeout. With an end past that a deferrable base
-- can lie so far behind that what is armed on it is due at once, and goes out twice in a moment
abbrev pub WorkIsBounded : Type 0
WorkIsBounded = (jobs : Replies) (script : Script) (limit : ℕ) → IsScript script
    → limit ≤ greatest_timeout
    → script.end * (1 + cpu_count script + script.timers) < limit
    → play_spent jobs limit script ≡ None
