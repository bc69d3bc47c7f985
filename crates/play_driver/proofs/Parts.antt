-- for crates above: what stays as it was over the parts of a play, and what a part tells
use Rattle.std.proofs.Common.{◌≡◌, ℕ, List, ◌++◌, length, take, take_at, refl, sym, ap, ◌∙◌}
use Rattle.std.specs.Prelude.{Err, Ok, OnErr, OnOk, Result}
use Rattle.tm_report.specs.declared.lines.Line.{Line}
use Rattle.tm_report.specs.Lines.{line_text}
use Rattle.play_rules.specs.Machines.{Same}
use Rattle.play_rules.specs.Parts.{Gains, Prints, Progress, printing}
use Rattle.play_rules.specs.Rules.{Rules}
use Rattle.play_rules.specs.Tallies.{tallied}
use Rattle.play_rules.proofs.Plays.{gains_none, prints_line}
use Rattle.play_driver.specs.PartLeaves.{SameInside}

-- a text of which no more is left than it had before it gained is as it was
pub as_before : (old seen text new : List ℕ) → seen ≡ old → text ≡ old → Gains text new
    → take (length seen) new ≡ old
as_before old seen text new begun same gains =
    ap (λ (x : List ℕ). take (length seen) x) gains.1
    ∙ take_at text gains.0 (length seen) (ap (λ (x : List ℕ). length x) (same ∙ sym begun))
    ∙ same

-- what stays so where nothing was done
module _ {S : Type 0} (r : Rules S) (s : S) where
  pub same_none : Same r s s
  same_none = record {
    clock = refl;
    timers = refl;
    cpus = refl;
    levels = refl;
    placed = λ c. refl;
  }

  pub inside_none : SameInside r s s
  inside_none = record { same = same_none; online = record { online = λ c. refl } }

-- and what stays so in one part and in the next
module _ {S : Type 0} (r : Rules S) (old mid new : S) where
  pub same_then : Same r old mid → Same r mid new → Same r old new
  same_then first second = record {
    clock = second.clock ∙ first.clock;
    timers = second.timers ∙ first.timers;
    cpus = second.cpus ∙ first.cpus;
    levels = second.levels ∙ first.levels;
    placed = λ c. second.placed c ∙ first.placed c;
  }

  pub inside_then : SameInside r old mid → SameInside r mid new → SameInside r old new
  inside_then first second = record {
    same = same_then first.same second.same;
    online = record { online = λ c. second.online.online c ∙ first.online.online c };
  }

-- a line was told by a last call, or memory wanted
module _ {A E : Type 0} (line : Line) (old new : Progress) where
  pub told_line : {S : Type 0} (result : Result A E) (s : S)
      → OnOk result (new.text ≡ old.text ++ line_text line)
      → OnOk result (new.tally ≡ tallied old.tally line) → new.work ≡ old.work
      → OnOk result (Prints (printing line s) old new s)
  told_line (Ok x) s text tally work = prints_line line s old new text tally work
  told_line (Err e) s text tally work = tt

  pub told_gains : (result : Result A E) → OnOk result (new.text ≡ old.text ++ line_text line)
      → OnErr result (new ≡ old) → Gains old.text new.text
  told_gains (Ok x) text kept = (line_text line, text)
  told_gains (Err e) text kept = rw kept (gains_none old.text)
