-- the times of a play's moments: from jiffy 0 to the script's end
use Rattle.std.specs.Prelude.{◌≡◌, ℕ, ◌<◌, All, Contains, List, [], ◌∷◌, map}
use Rattle.tm_script.specs.declared.syntax.Moment.{Moment}
use Rattle.tm_script.specs.declared.syntax.Script.{Script}
use Rattle.tm_script.specs.Grammar.{IsScript}
use Rattle.play_rules.specs.Interrupts.{Replies}
use Rattle.play_rules.specs.Moments.{Turn}
use Rattle.play_rules.specs.Play.{play_turns}

-- the times of these moments
abbrev pub times_of : {S : Type 0} → List (Turn S) → List ℕ
times_of ts = map (λ t. t.at) ts

-- behind a time each one is later than the one before, and the last is the end
abbrev pub GoOn : (end now : ℕ) → List ℕ → Type 0
GoOn end now [] = now ≡ end
GoOn end now (t ∷ ts) = (now < t) × GoOn end t ts

-- times that begin with this one, and go on to the end
abbrev pub GoFrom : (first end : ℕ) → List ℕ → Type 0
GoFrom first end [] = ⊥
GoFrom first end (t ∷ ts) = (t ≡ first) × GoOn end t ts

-- FROM JIFFY 0 TO THE END: these are the times of moments that come one after the other up to the
-- script's end, and each moment of the script is one of them
pub record ComesToItsEnd (script : Script) (times : List ℕ) : Type 0 where
  pub goes : GoFrom 0 script.end times
  pub has_all : All (λ (m : Moment). Contains times m.at) script.moments

-- the moments of every script's play, whatever its jobs answer, go from jiffy 0 to the script's
-- end, and each of the script's is one of them
abbrev pub EachComesToItsEnd : Type 0
EachComesToItsEnd = (jobs : Replies) (script : Script) → IsScript script
    → ComesToItsEnd script (times_of (play_turns jobs script))
