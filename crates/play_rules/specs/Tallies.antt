-- how many lines of each kind a report has
use Rattle.std.specs.Prelude.{ℕ, ◌+◌, ◌-◌, ◌^◌, List, Bool, true, false, min, not, ◌==◌}
use Rattle.std.specs.List.{fold}
use Rattle.tm_base.specs.declared.names.CpuId.{CpuId}
use Rattle.tm_report.specs.declared.lines.Line.{Line}
use Rattle.tm_report.specs.declared.lines.Line.TheVariants as lines
use Rattle.tm_report.specs.declared.lines.ShownReply.{ShownReply}
use Rattle.tm_report.specs.declared.lines.ShownReply.TheVariants as shown
use Rattle.play_rules.specs.declared.tally.Tally.{Tally}

-- nothing was told
abbrev pub no_lines : Tally
no_lines = record {
  runs = 0;
  remote = 0;
  armed = 0;
  cancels = 0;
  idles = 0;
  stays = 0;
  wakes = 0;
  refused = 0;
  left = 0;
}

-- one more, where 32 bits have room for it
abbrev pub one_more : ℕ → ℕ
one_more n = min (2 ^ 32 - 1) (n + 1)

-- one more where it is so
abbrev pub one_more_if : Bool → ℕ → ℕ
one_more_if true n = one_more n
one_more_if false n = n

-- whether a job armed its timer again
abbrev pub armed_again : ShownReply → Bool
armed_again (shown.Again class wheel) = true
armed_again reply = false

-- a run counts besides where it was on another CPU than the timer's home, and as an arming where
-- its job armed again
abbrev pub tallied_run : Tally → (runner home : CpuId) → ShownReply → Tally
tallied_run t runner home reply = record t {
  runs = one_more t.runs;
  remote = one_more_if (not (runner.0 == home.0)) t.remote;
  armed = one_more_if (armed_again reply) t.armed;
}

-- a line more
abbrev pub tallied : Tally → Line → Tally
tallied t (lines.Arm now cpu timer class wheel) = record t { armed = one_more t.armed }
tallied t (lines.Run now runner timer home wheel reply) = tallied_run t runner home reply
tallied t (lines.Cancel now cpu timer home) = record t { cancels = one_more t.cancels }
tallied t (lines.Idle now cpu until) = record t { idles = one_more t.idles }
tallied t (lines.Stay now cpu first) = record t { stays = one_more t.stays }
tallied t (lines.Wake now cpu) = record t { wakes = one_more t.wakes }
tallied t (lines.Refused now cpu line number) = record t { refused = one_more t.refused }
tallied t (lines.RefusedQueued now cpu line number holder) =
    record t { refused = one_more t.refused }
tallied t (lines.Left timer cpu class wheel) = record t { left = one_more t.left }
tallied t line = t

-- what is counted after these lines
abbrev pub tallied_all : Tally → List Line → Tally
tallied_all t ls = fold tallied t ls
