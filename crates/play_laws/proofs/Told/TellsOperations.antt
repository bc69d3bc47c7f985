-- for crates above: what the lines of each rule tell of its change, the lines of a play tell of all
-- changes: in operations and moves
use Rattle.std.proofs.Common.{◌≡◌, ℕ, zero, suc, ◌+◌, ◌<◌, List, [], ◌∷◌, Bool, true, false}
use Rattle.std.proofs.Common.{Option, Some, None, refl}
use Rattle.std.specs.Prelude.{All, if◌then◌else◌}
use Rattle.std.proofs.lemmas.List.Elements.{All-head, All-tail}
use Rattle.tm_base.specs.declared.names.CpuId.{CpuId}
use Rattle.tm_base.specs.declared.faults.OpFault.{OpFault}
use Rattle.tm_base.specs.declared.faults.OpFault.TheVariants as faults
use Rattle.tm_script.specs.declared.syntax.Op.{Op}
use Rattle.tm_script.specs.declared.syntax.What.{What}
use Rattle.tm_script.specs.declared.syntax.What.TheVariants as whats
use Rattle.tm_report.specs.declared.lines.Line.{Line}
use Rattle.tm_report.specs.declared.lines.Line.TheVariants as lines
use Rattle.play_rules.specs.declared.asks.Answerer.{Answerer}
use Rattle.play_rules.specs.declared.asks.Arming.{Arming}
use Rattle.play_rules.specs.declared.asks.Cancelling.{Cancelling}
use Rattle.play_rules.specs.declared.asks.Queued.{Queued}
use Rattle.play_rules.specs.Parts.{printing, silent}
use Rattle.play_rules.specs.Rules.{Moved, Rules}
use Rattle.play_rules.specs.Interrupts.{Replies, cpu_id}
use Rattle.play_rules.specs.Operations.{cancel_where, clear_after, clear_where, cover_lines}
use Rattle.play_rules.specs.Operations.{cover_or, done, done_unless, hand_on, hand_on_to}
use Rattle.play_rules.specs.Operations.{hand_on_where, held_by, idle_where, move_all, move_printed}
use Rattle.play_rules.specs.Operations.{moves, moves_to, not_active, operation, operations}
use Rattle.play_rules.specs.Operations.{refusal, refused_line}
use Rattle.play_laws.proofs.Shape.Shape.{KeptByRules, Stage, between, moving}
use Rattle.play_laws.proofs.Shape.ShapeOperations.{IsOpIn, IsTimerIn, held_none, operation_kept}
use Rattle.play_laws.proofs.Shape.ShapeOperations.{then_none}
use Rattle.play_laws.proofs.Told.Tells.{Tell, Tells, is_quiet, then_told}

module _ {S : Type 0} (jobs : Replies) (r : Rules S) (cpus timers levels end : ℕ)
    (P : (now : ℕ) → Stage → S → Type 0) (Fits : Arming → Type 0)
    (keeps : KeptByRules r cpus timers levels end Fits P) (R : S → List Line → S → Type 0)
    (tells : Tells jobs r cpus timers P R) (now : ℕ) where
  -- a line that tells of no timer, and a change
  quiet_then : (line : Line) (s t : S) → is_quiet line ≡ true → R s [] t → R s (line ∷ []) t
  quiet_then line s t is change = tells.both s s t (line ∷ []) [] (tells.quiet line s is) change

  refused_told : (fault : OpFault) (at line : ℕ) (cpu : CpuId) (s : S)
      → R s (refused_line fault at line cpu ∷ []) s
  refused_told (faults.Queued holder) at line cpu s = tells.quiet _ s refl
  refused_told faults.NotActive at line cpu s = tells.quiet _ s refl
  refused_told faults.NotIdle at line cpu s = tells.quiet _ s refl
  refused_told faults.Offline at line cpu s = tells.quiet _ s refl
  refused_told faults.AlreadyOnline at line cpu s = tells.quiet _ s refl
  refused_told faults.LastOnline at line cpu s = tells.quiet _ s refl
  refused_told (faults.Spent step) at line cpu s = tells.quiet _ s refl
  refused_told faults.NoMemory at line cpu s = tells.quiet _ s refl

  -- ONE OPERATION
  cancel_told : (o : Option Queued) (a : Cancelling) (s : S) → r.queued s a.timer.0 ≡ o
      → P now between s → Tell R s (cancel_where r o a s)
  cancel_told None a s is holds = tells.quiet _ s refl
  cancel_told (Some held) a s is holds = tells.cancelled now s held a is holds

  idle_told : (stays : Bool) (cpu : CpuId) (s : S) → Tell R s (idle_where r stays cpu s)
  idle_told true cpu s = tells.quiet _ s refl
  idle_told false cpu s = quiet_then _ s _ refl (tells.idled cpu.0 s)

  hand_on_told : (o : Option ℕ) (cpu : CpuId) (s : S) → Tell R s (hand_on_to r o cpu s)
  hand_on_told None cpu s = tells.none s
  hand_on_told (Some d) cpu s = quiet_then _ s _ refl (tells.handed_on cpu.0 d s)

  leave_told : (b : Bool) (cpu : CpuId) (s : S) → Tell R s (hand_on_where r b cpu s)
  leave_told false cpu s = tells.none s
  leave_told true cpu s = hand_on_told (r.successor s cpu.0) cpu s

  done_told : (what : What) (line : ℕ) (cpu : CpuId) (s : S) → cpu.0 < cpus
      → IsTimerIn timers what → refusal r what cpu.0 s ≡ None → P now between s
      → Tell R s (done r what line cpu s)
  done_told (whats.Arm timer class delay job arg) line cpu s low known none holds =
      tells.armed now cpu s
      (record {
        timer = timer;
        class = class;
        delay = delay;
        job = job;
        arg = arg;
        line = line;
      })
      low known.0 known.1
      (held_none r s cpu.0 (r.queued s timer.0)
      (then_none (not_active r s cpu.0) (held_by r (r.queued s timer.0)) none))
      holds
  done_told (whats.Cancel timer) line cpu s low known none holds =
      cancel_told (r.queued s timer.0) (record { timer = timer; by = cpu; line = line }) s refl
      holds
  done_told whats.Idle line cpu s low known none holds = idle_told _ cpu s
  done_told whats.Wake line cpu s low known none holds =
      quiet_then _ s _ refl (tells.woken cpu.0 s)
  done_told whats.Offline line cpu s low known none holds =
      then_told jobs r cpus timers levels end P Fits keeps R tells s
      (printing (lines.Offline (r.clock s) cpu) (r.gone_offline s cpu.0)) (hand_on r cpu)
      (quiet_then _ s _ refl (tells.gone_offline cpu.0 s))
      (leave_told (r.hands_on (r.gone_offline s cpu.0) cpu.0) cpu (r.gone_offline s cpu.0))
  done_told whats.Online line cpu s low known none holds =
      quiet_then _ s _ refl (tells.come_online cpu.0 s)

  unless_told : (fault : Option OpFault) (o : Op) (s : S) → IsOpIn cpus timers o
      → refusal r o.what o.cpu.0 s ≡ fault → P now between s → Tell R s (done_unless r fault o s)
  unless_told None o s in_range is holds =
      done_told o.what o.line o.cpu s in_range.cpu in_range.timer is holds
  unless_told (Some fault) o s in_range is holds =
      refused_told fault (r.clock s) o.line o.cpu s

  pub operations_told : (os : List Op) (s : S) → All (IsOpIn cpus timers) os → P now between s
      → Tell R s (operations r os s)
  unfolding operations
  operations_told [] s all holds = tells.none s
  operations_told (o ∷ os) s all holds =
      let known = All-head (IsOpIn cpus timers) o os all in
      then_told jobs r cpus timers levels end P Fits keeps R tells s (operation r o s)
      (operations r os) (unless_told (refusal r o.what o.cpu.0 s) o s known refl holds)
      (operations_told os _ (All-tail (IsOpIn cpus timers) o os all)
      (operation_kept r cpus timers levels end P Fits keeps now o s known holds))

  -- MOVING
  module _ (from : ℕ) (low : from < cpus) where
    move_told : (o : Option (Moved S)) (to n : ℕ) (s : S) → r.moved s from to ≡ o
        → P now (moving from to (suc n)) s
        → ((t : S) → P now (moving from to n) t → Tell R t (moves r n from to t))
        → Tell R s (move_printed r from to o (moves r n from to) s)
    move_told None to n s is holds rest = tells.none s
    move_told (Some m) to n s is holds rest =
        then_told jobs r cpus timers levels end P Fits keeps R tells s
        (printing
        (lines.Moved (r.clock s) m.mover.timer (cpu_id from) (cpu_id to) m.mover.wheel) m.state)
        (moves r n from to) (tells.moved now from to n s m low is holds)
        (rest m.state (keeps.moved now from to n s m low is holds))

    moves_told : (n to : ℕ) (s : S) → P now (moving from to n) s → Tell R s (moves r n from to s)
    unfolding moves
    moves_told zero to s holds = tells.none s
    moves_told (suc n) to s holds =
        move_told (r.moved s from to) to n s refl holds (λ t at. moves_told n to t at)

    control_told : (o : Option ℕ) (s : S) → r.is_online s from ≡ false → r.controller s ≡ o
        → P now between s → Tell R s (moves_to r o from s)
    control_told None s off is holds = tells.none s
    control_told (Some d) s off is holds =
        then_told jobs r cpus timers levels end P Fits keeps R tells s
        (printing (lines.Control (r.clock s) (cpu_id d)) (r.controlling s d)) (move_all r from d)
        (quiet_then _ s _ refl (tells.controlling d s))
        (moves_told (r.count_queued (r.controlling s d) from) d _
        (keeps.controlling now from d s low off is holds))

    cleared : (queued : ℕ) (s : S) → r.is_online s from ≡ false → P now between s
        → Tell R s (clear_where r queued from s)
    cleared zero s off holds = tells.none s
    cleared (suc n) s off holds = control_told (r.controller s) s off refl holds

    clear_by : (online : Bool) (s : S) → r.is_online s from ≡ online → P now between s
        → Tell R s (if online then silent s else clear_where r (r.count_queued s from) from s)
    clear_by true s is holds = tells.none s
    clear_by false s is holds = cleared (r.count_queued s from) s is holds

  pub clear_after_told : (o : Option ℕ) (s : S) → ((c : ℕ) → o ≡ Some c → c < cpus)
      → P now between s → Tell R s (clear_after r o s)
  clear_after_told None s known holds = tells.none s
  clear_after_told (Some c) s known holds = clear_by c (known c refl) (r.is_online s c) s refl holds

  -- COVERS
  cover_told : (o : Option Answerer) (c : ℕ) (s : S) (others : List Line) → R s others s
      → R s (cover_or r o c s others) s
  cover_told None c s others rest = rest
  cover_told (Some a) c s others rest =
      tells.both s s s (lines.Cover (r.clock s) (cpu_id c) a.wheel a.cover ∷ []) others
      (tells.quiet _ s refl) rest

  pub covers_told : (n c : ℕ) (s : S) → R s (cover_lines r n c s) s
  unfolding cover_lines
  covers_told zero c s = tells.none s
  covers_told (suc n) c s = cover_told (r.cover s c) c s _ (covers_told n (c + 1) s)
