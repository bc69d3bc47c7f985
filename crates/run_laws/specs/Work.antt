-- the bound on the work of a story
use Rattle.std.specs.Prelude.{◌≡◌, ℕ, ◌+◌, ◌*◌, ◌<◌, ◌≤◌, All, List, None}
use Rattle.std.specs.List.{sum_by}
use Rattle.tm_script.specs.declared.syntax.Script.{Script}
use Rattle.tm_script.specs.Texts.{cpu_count}
use Rattle.tm_script.specs.Grammar.{IsScript}
use Rattle.wheel_core.specs.WheelExpiry.{greatest_timeout}
use Rattle.play_rules.specs.Interrupts.{Replies}
use Rattle.play_rules.specs.Moments.{AfterEach, Turn, spent_at}
use Rattle.core_world.specs.World.{World}
use Rattle.step_play.specs.Rules.Seen.{InRun, resting}
use Rattle.run_story.specs.Stories.{IsBrokenOff, IsStory}

-- the most work that a moment may be: the moment itself, an interrupt of each CPU, and each timer
-- handed out once
abbrev pub most_work : Script → ℕ
most_work script = 1 + cpu_count script + script.timers

-- THE WORK OF A MOMENT is bounded: in no moment of a story that ends by the greatest timeout, and
-- whose core is at rest after each moment, is a timer handed out twice, or has a CPU two interrupts
abbrev pub MomentWorkIsBounded : Type 0
MomentWorkIsBounded = (jobs : Replies) (script : Script) (ts : List (Turn World))
    → IsScript script → script.end ≤ greatest_timeout → AfterEach (InRun resting) ts
    → IsStory jobs script ts → All (λ (t : Turn World). t.played.work ≤ most_work script) ts

-- THE WORK OF A STORY that is broken off before its end: its moments are at most as many as the
-- jiffies before the end
abbrev pub BrokenWorkIsBounded : Type 0
BrokenWorkIsBounded = (jobs : Replies) (script : Script) (ts : List (Turn World))
    → IsScript script → script.end ≤ greatest_timeout → AfterEach (InRun resting) ts
    → IsBrokenOff jobs script ts
    → sum_by (λ (t : Turn World). t.played.work) ts ≤ script.end * most_work script

-- A STORY GOES TO ITS END, whatever its jobs answer, where its moments can't make as much work as
-- the limit
abbrev pub StoryIsUnspent : Type 0
StoryIsUnspent = (jobs : Replies) (script : Script) (limit : ℕ) (ts : List (Turn World))
    → IsScript script → limit ≤ greatest_timeout → script.end * most_work script < limit
    → AfterEach (InRun resting) ts → IsStory jobs script ts → spent_at limit 0 ts ≡ None
