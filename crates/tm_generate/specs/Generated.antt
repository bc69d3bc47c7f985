-- generated scripts
use Rattle.std.specs.Prelude.{ℕ, ◌+◌, ◌-◌, ◌*◌, ◌/◌, ◌%◌, ◌^◌, zero, suc, [], ◌∷◌, map, ◌==◌}
use Rattle.std.specs.Prelude.{nat_le, if◌then◌else◌}
use Rattle.std.specs.List.{range_with_len}
use Rattle.std.specs.FinSet.{empty}
use Rattle.tm_base.specs.declared.names.Class.TheVariants.{Pinned, Global}
use Rattle.tm_script.specs.declared.syntax.Script.{Script}
use Rattle.tm_script.specs.declared.syntax.Moment.{Moment}
use Rattle.tm_script.specs.declared.syntax.Op.{Op}
use Rattle.tm_script.specs.declared.syntax.What.{What}
use Rattle.tm_script.specs.declared.syntax.What.TheVariants.{Arm, Cancel, Idle, Wake}

-- what a draw makes of x
abbrev pub next : ℕ → ℕ
next x = (x * 6364136223846793005 + 1442695040888963407) % 2 ^ 64

-- x after k draws, where it starts as the number given
unfoldable pub x_after : ℕ → ℕ → ℕ
x_after number zero = number
x_after number (suc k) = next (x_after number k)

-- what a draw modulo n answers, where it leaves x
abbrev pub answer : ℕ → ℕ → ℕ
answer x n = x / 2 ^ 33 % n

-- the answer of draw k, counted from 0, modulo n
abbrev pub draw : ℕ → ℕ → ℕ → ℕ
draw number k n = answer (x_after number (suc k)) n

-- The arming of timer i: draws 3 * i to 3 * i + 2 are p, d and a. Its line is number 6 + i,
-- behind the four lines of the machine and `at 0`.
abbrev pub generated_arming : ℕ → ℕ → ℕ → ℕ → ℕ → Op
generated_arming cpus i p d a = record {
  line = 6 + i;
  cpu = record { 0 = i % cpus };
  what = Arm (record { 0 = i }) (if p == 0 then Pinned else Global) (20 + d)
      (if p == 0 then 2 else 1) (50 + a);
}

-- the arming of timer i in the script made from a number
unfoldable pub arming : ℕ → ℕ → ℕ → Op
arming number cpus i =
    let k = 3 * i in
    generated_arming cpus i (draw number k 8) (draw number (suc k) 480)
    (draw number (suc (suc k)) 950)

-- CPU c goes idle, behind the line `at 1`
abbrev pub idling : ℕ → ℕ → Op
idling timers c = record { line = 6 + timers + c; cpu = record { 0 = c }; what = Idle }

-- what is done, by the draws r, c and t
abbrev pub choice : ℕ → ℕ → ℕ → What
choice r c t = if r == 0 then Wake else if nat_le r 2 then Idle else Cancel (record { 0 = t })

-- The moment 5 * j of one operation; the draws are the three behind those of the armings and of the
-- moments before.
unfoldable pub later_moment : ℕ → ℕ → ℕ → ℕ → Moment
later_moment number cpus timers j =
    let k = 3 * timers + 3 * (j - 1) in
    record {
      at = 5 * j;
      ops = record {
        line = 5 + timers + cpus + 2 * j;
        cpu = record { 0 = draw number (suc k) cpus };
        what =
            choice (draw number k 4) (draw number (suc k) cpus) (draw number (suc (suc k)) timers);
      } ∷ [];
    }

-- the script of a number, for so many CPUs on one node, timers and moments of one operation
unfoldable pub generated : ℕ → ℕ → ℕ → ℕ → Script
generated number cpus timers moments = record {
  version = 1;
  nodes = 1;
  cpus = cpus;
  timers = timers;
  isolated = empty;
  moments =
      record { at = 0; ops = map (arming number cpus) (range_with_len 0 timers) }
      ∷ record { at = 1; ops = map (idling timers) (range_with_len 1 (cpus - 1)) }
      ∷ map (later_moment number cpus timers) (range_with_len 1 moments);
  end = 5 * (moments + 1);
}
