-- for crates above: what the rules keep holds after each operation, and after what comes behind a
-- moment's operations
use Rattle.std.proofs.Common.{◌≡◌, ℕ, zero, suc, ◌+◌, ◌-◌, ◌<◌, List, [], ◌∷◌, Bool, true, false}
use Rattle.std.proofs.Common.{Option, Some, None, refl, sym, subst, length}
use Rattle.std.specs.Prelude.{All, ◌^◌, nat_le, slice_get, if◌then◌else◌}
use Rattle.std.specs.Option.{option_or}
use Rattle.std.proofs.lemmas.Option.{none-some, same_Some}
use Rattle.std.proofs.lemmas.List.Elements.{All-head, All-tail}
use Rattle.tm_base.specs.declared.names.CpuId.{CpuId}
use Rattle.tm_base.specs.declared.faults.OpFault.{OpFault}
use Rattle.tm_base.specs.declared.faults.OpFault.TheVariants as faults
use Rattle.tm_script.specs.declared.syntax.Op.{Op}
use Rattle.tm_script.specs.declared.syntax.What.{What}
use Rattle.tm_script.specs.declared.syntax.What.TheVariants as whats
use Rattle.play_rules.specs.declared.asks.Cancelling.{Cancelling}
use Rattle.play_rules.specs.declared.asks.Queued.{Queued}
use Rattle.play_rules.specs.Parts.{silent}
use Rattle.play_rules.specs.declared.asks.Arming.{Arming}
use Rattle.play_rules.specs.Rules.{Moved, Rules}
use Rattle.play_rules.specs.Operations.{cancel_where, clear, clear_after, clear_where, done}
use Rattle.play_rules.specs.Operations.{done_unless, hand_on_to, hand_on_where, held_by, idle_where}
use Rattle.play_rules.specs.Operations.{last_online, leaver, leaving, leaving_by, move_printed}
use Rattle.play_rules.specs.Operations.{moves, moves_to, not_active, not_idle, offline, operation}
use Rattle.play_rules.specs.Operations.{operations, refusal}
use Rattle.play_laws.proofs.Shape.Shape.{KeptByRules, Stage, between, leaving as left, moving}

abbrev pub IsTimerIn : (timers : ℕ) → What → Type 0
IsTimerIn timers (whats.Arm timer class delay job arg) = (timer.0 < timers) × (delay < 2 ^ 32)
IsTimerIn timers (whats.Cancel timer) = timer.0 < timers
IsTimerIn timers what = Unit {0}

-- an operation's numbers are in range
pub record IsOpIn (cpus timers : ℕ) (o : Op) : Type 0 where
  pub cpu : o.cpu.0 < cpus
  pub timer : IsTimerIn timers o.what

-- the first of two is none where either is, and so is the other
pub first_none : (a b : Option OpFault) → option_or a b ≡ None → a ≡ None
first_none None b none = refl
first_none (Some x) b none = none

pub then_none : (a b : Option OpFault) → option_or a b ≡ None → b ≡ None
then_none None b none = none
then_none (Some x) b none = absurd (none-some x (sym none))

-- WHO MAY: a CPU that isn't refused is online, and idle or not as is asked
pub record IsActive {S : Type 0} (r : Rules S) (s : S) (c : ℕ) : Type 0 where
  pub online : r.is_online s c ≡ true
  pub busy : r.is_idle s c ≡ false

module _ {S : Type 0} (r : Rules S) (s : S) (c : ℕ) where
  active_by : (online idle : Bool) → r.is_online s c ≡ online → r.is_idle s c ≡ idle
      → (if online then (if idle then Some faults.NotActive else None) else Some faults.Offline)
      ≡ None → IsActive r s c
  active_by false idle on off none = absurd (none-some faults.Offline (sym none))
  active_by true true on off none = absurd (none-some faults.NotActive (sym none))
  active_by true false on off none = record { online = on; busy = off }

  pub is_active : not_active r s c ≡ None → IsActive r s c
  is_active none = active_by (r.is_online s c) (r.is_idle s c) refl refl none

  idle_by : (online idle : Bool) → r.is_online s c ≡ online → r.is_idle s c ≡ idle
      → (if online then (if idle then None else Some faults.NotIdle) else Some faults.Offline)
      ≡ None
      → (r.is_online s c ≡ true) × (r.is_idle s c ≡ true)
  idle_by false idle on off none = absurd (none-some faults.Offline (sym none))
  idle_by true false on off none = absurd (none-some faults.NotIdle (sym none))
  idle_by true true on off none = (on, off)

  pub is_idle : not_idle r s c ≡ None → (r.is_online s c ≡ true) × (r.is_idle s c ≡ true)
  is_idle none = idle_by (r.is_online s c) (r.is_idle s c) refl refl none

  pub offline_by : (online : Bool) → r.is_online s c ≡ online
      → (if online then Some faults.AlreadyOnline else None) ≡ None
      → r.is_online s c ≡ false
  offline_by true on none = absurd (none-some faults.AlreadyOnline (sym none))
  offline_by false on none = on

  pub held_none : (o : Option Queued) → held_by r o ≡ None → o ≡ None
  held_none None none = refl
  held_none (Some held) none = absurd (none-some (faults.Queued held.cpu) (sym none))

module _ {S : Type 0} (r : Rules S) (cpus timers levels end : ℕ)
    (P : (now : ℕ) → Stage → S → Type 0)
    (Fits : Arming → Type 0) (keeps : KeptByRules r cpus timers levels end Fits P) (now : ℕ) where
  -- ONE OPERATION
  cancel_kept : (o : Option Queued) (c : ℕ) (a : Cancelling) (s : S) → c < cpus
      → (a.timer.0 < timers) × (a.by.0 < cpus) → IsActive r s c
      → r.queued s a.timer.0 ≡ o → P now between s → P now between (cancel_where r o a s).state
  cancel_kept None c a s low known active is holds = holds
  cancel_kept (Some held) c a s low known active is holds =
      keeps.cancelled now c s held a low known active.online active.busy is holds

  idle_kept : (stays : Bool) (cpu : CpuId) (s : S) → cpu.0 < cpus → IsActive r s cpu.0
      → nat_le (r.first_event s cpu.0) (r.clock s + 1) ≡ stays → P now between s
      → P now between (idle_where r stays cpu s).state
  idle_kept true cpu s low active is holds = holds
  idle_kept false cpu s low active is holds =
      keeps.idled now cpu.0 s low active.online active.busy is holds

  hand_on_kept : (o : Option ℕ) (cpu : CpuId) (s : S) → cpu.0 < cpus → r.hands_on s cpu.0 ≡ true
      → r.successor s cpu.0 ≡ o → P now (left cpu.0) s → P now between (hand_on_to r o cpu s).state
  hand_on_kept None cpu s low hands is holds = keeps.no_successor now cpu.0 s low hands is holds
  hand_on_kept (Some d) cpu s low hands is holds = keeps.handed_on now cpu.0 d s low hands is holds

  leave_kept : (b : Bool) (cpu : CpuId) (s : S) → cpu.0 < cpus → r.hands_on s cpu.0 ≡ b
      → P now (left cpu.0) s
      → P now between (hand_on_where r b cpu s).state
  leave_kept false cpu s low hands holds = keeps.keeps_on now cpu.0 s low hands holds
  leave_kept true cpu s low hands holds =
      hand_on_kept (r.successor s cpu.0) cpu s low hands refl holds

  offline_kept : (cpu : CpuId) (s : S) → cpu.0 < cpus → IsActive r s cpu.0
      → last_online r s cpu.0 ≡ None
      → P now between s → P now between (offline r cpu s).state
  offline_kept cpu s low active others holds =
      leave_kept (r.hands_on (r.gone_offline s cpu.0) cpu.0) cpu (r.gone_offline s cpu.0) low refl
      (keeps.gone_offline now cpu.0 s low active.online active.busy others holds)

  done_kept : (what : What) (line : ℕ) (cpu : CpuId) (s : S) → cpu.0 < cpus → IsTimerIn timers what
      → refusal r what cpu.0 s ≡ None → P now between s
      → P now between (done r what line cpu s).state
  done_kept (whats.Arm timer class delay job arg) line cpu s low known none holds =
      let active = is_active r s cpu.0
      (first_none (not_active r s cpu.0) (held_by r (r.queued s timer.0)) none) in
      let free = held_none r s cpu.0 (r.queued s timer.0)
      (then_none (not_active r s cpu.0) (held_by r (r.queued s timer.0)) none) in
      keeps.armed now cpu.0 s (record {
        timer = timer;
        class = class;
        delay = delay;
        job = job;
        arg = arg;
        line = line;
      })
      low known.0 known.1 active.online active.busy free holds
  done_kept (whats.Cancel timer) line cpu s low known none holds =
      cancel_kept (r.queued s timer.0) cpu.0 (record { timer = timer; by = cpu; line = line }) s low
      (known, low)
      (is_active r s cpu.0 none) refl holds
  done_kept whats.Idle line cpu s low known none holds =
      idle_kept (nat_le (r.first_event s cpu.0) (r.clock s + 1)) cpu s low
      (is_active r s cpu.0 none) refl holds
  done_kept whats.Wake line cpu s low known none holds =
      let idle = is_idle r s cpu.0 none in keeps.woken now cpu.0 s low idle.0 idle.1 holds
  done_kept whats.Offline line cpu s low known none holds =
      offline_kept cpu s low (is_active r s cpu.0
      (first_none (not_active r s cpu.0) (last_online r s cpu.0) none))
      (then_none (not_active r s cpu.0) (last_online r s cpu.0) none) holds
  done_kept whats.Online line cpu s low known none holds =
      keeps.come_online now cpu.0 s low (offline_by r s cpu.0 (r.is_online s cpu.0) refl none) holds

  unless_kept : (fault : Option OpFault) (o : Op) (s : S) → IsOpIn cpus timers o
      → refusal r o.what o.cpu.0 s ≡ fault
      → P now between s → P now between (done_unless r fault o s).state
  unless_kept None o s in_range is holds =
      done_kept o.what o.line o.cpu s in_range.cpu in_range.timer is holds
  unless_kept (Some fault) o s in_range is holds = holds

  pub operation_kept : (o : Op) (s : S) → IsOpIn cpus timers o → P now between s
      → P now between (operation r o s).state
  operation_kept o s in_range holds =
      unless_kept (refusal r o.what o.cpu.0 s) o s in_range refl holds

  pub operations_kept : (os : List Op) (s : S) → All (IsOpIn cpus timers) os → P now between s
      → P now between (operations r os s).state
  unfolding operations
  operations_kept [] s all holds = holds
  operations_kept (o ∷ os) s all holds =
      operations_kept os _ (All-tail (IsOpIn cpus timers) o os all)
      (operation_kept o s (All-head (IsOpIn cpus timers) o os all) holds)

  -- MOVING
  module _ (from : ℕ) (low : from < cpus) where
    move_kept : (o : Option (Moved S)) (to n : ℕ) (s : S) → r.moved s from to ≡ o
        → P now (moving from to (suc n)) s
        → ((t : S) → P now (moving from to n) t → P now between (moves r n from to t).state)
        → P now between (move_printed r from to o (moves r n from to) s).state
    move_kept None to n s is holds rest = keeps.moved_none now from to n s low is holds
    move_kept (Some m) to n s is holds rest =
        rest m.state (keeps.moved now from to n s m low is holds)

    moves_kept : (n to : ℕ) (s : S) → P now (moving from to n) s
        → P now between (moves r n from to s).state
    unfolding moves
    moves_kept zero to s holds = keeps.all_moved now from to s low holds
    moves_kept (suc n) to s holds =
        move_kept (r.moved s from to) to n s refl holds (λ t at. moves_kept n to t at)

    control_kept : (o : Option ℕ) (s : S) → r.is_online s from ≡ false → r.controller s ≡ o
        → P now between s
        → P now between (moves_to r o from s).state
    control_kept None s off is holds = holds
    control_kept (Some d) s off is holds =
        moves_kept _ d _ (keeps.controlling now from d s low off is holds)

    cleared : (queued : ℕ) (s : S) → r.is_online s from ≡ false → P now between s
        → P now between (clear_where r queued from s).state
    cleared zero s off holds = holds
    cleared (suc n) s off holds = control_kept (r.controller s) s off refl holds

    clear_by : (online : Bool) (s : S) → r.is_online s from ≡ online → P now between s
        → P now between (if online then silent s else clear_where r (r.count_queued s from) from
        s).state
    clear_by true s is holds = holds
    clear_by false s is holds = cleared (r.count_queued s from) s is holds

    clear_kept : (s : S) → P now between s → P now between (clear r from s).state
    clear_kept s holds = clear_by (r.is_online s from) s refl holds

  pub clear_after_kept : (o : Option ℕ) (s : S) → ((c : ℕ) → o ≡ Some c → c < cpus)
      → P now between s
      → P now between (clear_after r o s).state
  clear_after_kept None s known holds = holds
  clear_after_kept (Some c) s known holds = clear_kept c (known c refl) s holds

-- the CPU that leaves is in range
leaving_in : (cpus : ℕ) (what : What) (cpu : CpuId) (c : ℕ) → cpu.0 < cpus
    → leaving what cpu ≡ Some c → c < cpus
leaving_in cpus whats.Offline cpu c low is = subst (λ k. k < cpus) (same_Some cpu.0 c is) low
leaving_in cpus (whats.Arm timer class delay job arg) cpu c low is = absurd (none-some c is)
leaving_in cpus (whats.Cancel timer) cpu c low is = absurd (none-some c is)
leaving_in cpus whats.Idle cpu c low is = absurd (none-some c is)
leaving_in cpus whats.Wake cpu c low is = absurd (none-some c is)
leaving_in cpus whats.Online cpu c low is = absurd (none-some c is)

each_in : {X : Type 0} (Q : X → Type 0) (xs : List X) (i : ℕ) (x : X) → All Q xs
    → slice_get xs i ≡ Some x → Q x
each_in Q [] i x all is = absurd (none-some x is)
each_in Q (y ∷ ys) zero x all is = subst Q (same_Some y x is) (All-head Q y ys all)
each_in Q (y ∷ ys) (suc i) x all is = each_in Q ys i x (All-tail Q y ys all) is

leaver_by : (cpus timers : ℕ) (os : List Op) (o : Option Op) (c : ℕ) → All (IsOpIn cpus timers) os
    → slice_get os (length os - 1) ≡ o → leaving_by o ≡ Some c → c < cpus
leaver_by cpus timers os None c all at is = absurd (none-some c is)
leaver_by cpus timers os (Some o) c all at is =
    leaving_in cpus o.what o.cpu c (each_in (IsOpIn cpus timers) os (length os - 1) o all at).cpu is

pub leaver_in : (cpus timers : ℕ) (os : List Op) (c : ℕ) → All (IsOpIn cpus timers) os
    → leaver os ≡ Some c → c < cpus
leaver_in cpus timers os c all is =
    leaver_by cpus timers os (slice_get os (length os - 1)) c all refl is
