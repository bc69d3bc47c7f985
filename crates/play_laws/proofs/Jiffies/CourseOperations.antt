-- what is kept holds after the operations of a moment, and after what comes behind them
use Rattle.std.proofs.Common.{◌≡◌, ℕ, zero, suc, ◌+◌, ◌-◌, ◌^◌, ◌<◌, ◌≤◌, List, [], ◌∷◌, Bool, true}
use Rattle.std.proofs.Common.{false, Option, Some, None, refl, sym, ap, ◌∙◌, subst, length, ◌⊎◌}
use Rattle.std.proofs.Common.{inl, inr, arith}
use Rattle.std.specs.Prelude.{All, nat_le, slice_get, if◌then◌else◌}
use Rattle.std.specs.Option.{option_or}
use Rattle.std.proofs.lemmas.Bool.{false≢true}
use Rattle.std.proofs.lemmas.Option.{none-some}
use Rattle.std.proofs.lemmas.List.Elements.{All-head, All-tail}
use Rattle.tm_base.specs.declared.names.CpuId.{CpuId}
use Rattle.tm_base.specs.declared.faults.OpFault.{OpFault}
use Rattle.tm_base.specs.declared.faults.OpFault.TheVariants as faults
use Rattle.tm_script.specs.declared.syntax.Op.{Op}
use Rattle.tm_script.specs.declared.syntax.What.{What}
use Rattle.tm_script.specs.declared.syntax.What.TheVariants as whats
use Rattle.tm_script.specs.Grammar.{is_hotplug, IsHotplugLast, IsOp, IsWhat}
use Rattle.play_rules.specs.declared.asks.Cancelling.{Cancelling}
use Rattle.play_rules.specs.declared.asks.Queued.{Queued}
use Rattle.play_rules.specs.Parts.{silent}
use Rattle.play_rules.specs.Rules.{Moved}
use Rattle.play_rules.specs.State.{State, cpu_at}
use Rattle.play_rules.specs.Hierarchy.{first_event, gone_offline}
use Rattle.play_rules.specs.Timers.{controller, count_on, moved_first, where_queued}
use Rattle.play_rules.specs.Operations.{cancel_where, clear, clear_after, clear_where, done}
use Rattle.play_rules.specs.Operations.{done_unless, hand_on_to, hand_on_where, held_by, idle_where}
use Rattle.play_rules.specs.Operations.{last_online, leaver, leaving as leaving_cpu, leaving_by}
use Rattle.play_rules.specs.Operations.{move_printed, moves, moves_to, not_active, offline}
use Rattle.play_rules.specs.Operations.{operation, operations, refusal}
use Rattle.play_rules.specs.Play.{hands_on, plain_rules, successor}
use Rattle.play_laws.proofs.Shape.Shape.{Stage, between, leaving, moving}
use Rattle.play_laws.proofs.Jiffies.Course.{KeepsCourse}

-- the first of two is none where either is, and so is the other
first_none : (a b : Option OpFault) → option_or a b ≡ None → a ≡ None
first_none None b none = refl
first_none (Some x) b none = none

then_none : (a b : Option OpFault) → option_or a b ≡ None → b ≡ None
then_none None b none = none
then_none (Some x) b none = absurd (none-some x (sym none))

-- a moment's last operation is that behind its first
leaver_more : (o p : Op) (os : List Op) → leaver (o ∷ p ∷ os) ≡ leaver (p ∷ os)
leaver_more o p os =
    let n = length os in
    let long : suc (suc n) - 1 ≡ suc n = omega arith in
    let short : suc n - 1 ≡ n = omega arith in
    ap (λ k. leaving_by (slice_get (o ∷ p ∷ os) k)) long
    ∙ sym (ap (λ k. leaving_by (slice_get (p ∷ os) k)) short)

-- WHO MAY: a CPU that isn't refused is online, and idle or not as is asked
record IsBusy (s : State) (c : ℕ) : Type 0 where
  online : (cpu_at s c).online ≡ true
  busy : (cpu_at s c).idle ≡ false

module _ (s : State) (c : ℕ) where
  busy_by : (online idle : Bool) → (cpu_at s c).online ≡ online → (cpu_at s c).idle ≡ idle
      → (if online then (if idle then Some faults.NotActive else None) else Some faults.Offline) ≡
      None → IsBusy s c
  busy_by false idle on off none = absurd (none-some faults.Offline (sym none))
  busy_by true true on off none = absurd (none-some faults.NotActive (sym none))
  busy_by true false on off none = record { online = on; busy = off }

  is_busy : not_active plain_rules s c ≡ None → IsBusy s c
  is_busy none = busy_by (cpu_at s c).online (cpu_at s c).idle refl refl none

  idle_by : (online idle : Bool) → (cpu_at s c).online ≡ online → (cpu_at s c).idle ≡ idle
      → (if online then (if idle then None else Some faults.NotIdle) else Some faults.Offline) ≡
      None
      → ((cpu_at s c).online ≡ true) × ((cpu_at s c).idle ≡ true)
  idle_by false idle on off none = absurd (none-some faults.Offline (sym none))
  idle_by true false on off none = absurd (none-some faults.NotIdle (sym none))
  idle_by true true on off none = (on, off)

  offline_by : (online : Bool) → (cpu_at s c).online ≡ online
      → (if online then Some faults.AlreadyOnline else None) ≡ None → (cpu_at s c).online ≡ false
  offline_by true on none = absurd (none-some faults.AlreadyOnline (sym none))
  offline_by false on none = on

held_none : (o : Option Queued) → held_by plain_rules o ≡ None → o ≡ None
held_none None none = refl
held_none (Some held) none = absurd (none-some (faults.Queued held.cpu) (sym none))

module _ (cpus levels : ℕ) (P : (now : ℕ) → Stage → State → Type 0)
    (keeps : KeepsCourse cpus levels P) (now : ℕ) where
  -- MOVING
  module _ (from : ℕ) (low : from < cpus) where
    move_kept : (o : Option (Moved State)) (to n : ℕ) (s : State) → moved_first s from to ≡ o
        → P now (moving from to (suc n)) s
        → ((t : State) → P now (moving from to n) t
        → P now between (moves plain_rules n from to t).state)
        → P now between (move_printed plain_rules from to o (moves plain_rules n from to) s).state
    move_kept None to n s is holds rest = keeps.moved_none now from to n s low is holds
    move_kept (Some m) to n s is holds rest =
        rest m.state (keeps.moved now from to n s m low is holds)

    moves_kept : (n to : ℕ) (s : State) → P now (moving from to n) s
        → P now between (moves plain_rules n from to s).state
    unfolding moves
    moves_kept zero to s holds = keeps.all_moved now from to s low holds
    moves_kept (suc n) to s holds =
        move_kept (moved_first s from to) to n s refl holds (λ t at. moves_kept n to t at)

    control_kept : (o : Option ℕ) (s : State) → controller s ≡ o → P now (leaving from) s
        → P now between (moves_to plain_rules o from s).state
    control_kept None s is holds = keeps.no_controller now from s low is holds
    control_kept (Some d) s is holds =
        moves_kept _ d _ (keeps.controlling now from d s low is holds)

    cleared : (queued : ℕ) (s : State) → count_on s from ≡ queued → P now (leaving from) s
        → P now between (clear_where plain_rules queued from s).state
    cleared zero s none holds = keeps.none_queued now from s low none holds
    cleared (suc n) s some holds = control_kept (controller s) s refl holds

    clear_by : (online : Bool) (s : State) → (cpu_at s from).online ≡ online
        → P now between s ⊎ P now (leaving from) s
        → P now between
        (if online then silent s else clear_where plain_rules (count_on s from) from s).state
    clear_by true s is (inl holds) = holds
    clear_by true s is (inr holds) = keeps.still_online now from s is holds
    clear_by false s is (inl holds) =
        cleared (count_on s from) s refl (keeps.was_offline now from s low is holds)
    clear_by false s is (inr holds) = cleared (count_on s from) s refl holds

    clear_kept : (s : State) → P now between s ⊎ P now (leaving from) s
        → P now between (clear plain_rules from s).state
    clear_kept s holds = clear_by (cpu_at s from).online s refl holds

  -- ONE OPERATION: behind `offline` its CPU is leaving, unless that was refused
  abbrev After : What → CpuId → State → Type 0
  After whats.Offline cpu s = P now between s ⊎ P now (leaving cpu.0) s
  After what cpu s = P now between s

  refused_after : (what : What) (cpu : CpuId) (s : State) → P now between s → After what cpu s
  refused_after (whats.Arm timer class delay job arg) cpu s holds = holds
  refused_after (whats.Cancel timer) cpu s holds = holds
  refused_after whats.Idle cpu s holds = holds
  refused_after whats.Wake cpu s holds = holds
  refused_after whats.Offline cpu s holds = inl holds
  refused_after whats.Online cpu s holds = holds

  cancel_kept : (o : Option Queued) (a : Cancelling) (s : State) → where_queued s a.timer.0 ≡ o
      → P now between s
      → P now between (cancel_where plain_rules o a s).state
  cancel_kept None a s is holds = holds
  cancel_kept (Some held) a s is holds = keeps.cancelled now s held a is holds

  idle_kept : (stays : Bool) (cpu : CpuId) (s : State) → cpu.0 < cpus → IsBusy s cpu.0
      → P now between s
      → P now between (idle_where plain_rules stays cpu s).state
  idle_kept true cpu s low active holds = holds
  idle_kept false cpu s low active holds =
      keeps.idled now cpu.0 s low active.online active.busy holds

  hand_on_kept : (o : Option ℕ) (cpu : CpuId) (s : State) → cpu.0 < cpus → hands_on s cpu.0 ≡ true
      → successor s cpu.0 ≡ o → P now (leaving cpu.0) s
      → P now (leaving cpu.0) (hand_on_to plain_rules o cpu s).state
  hand_on_kept None cpu s low hands is holds = holds
  hand_on_kept (Some d) cpu s low hands is holds = keeps.handed_on now cpu.0 d s low hands is holds

  leave_kept : (b : Bool) (cpu : CpuId) (s : State) → cpu.0 < cpus → hands_on s cpu.0 ≡ b
      → P now (leaving cpu.0) s
      → P now (leaving cpu.0) (hand_on_where plain_rules b cpu s).state
  leave_kept false cpu s low hands holds = holds
  leave_kept true cpu s low hands holds =
      hand_on_kept (successor s cpu.0) cpu s low hands refl holds

  offline_kept : (cpu : CpuId) (s : State) → cpu.0 < cpus → IsBusy s cpu.0
      → last_online plain_rules s cpu.0 ≡ None
      → P now between s → P now (leaving cpu.0) (offline plain_rules cpu s).state
  offline_kept cpu s low active others holds =
      leave_kept (hands_on (gone_offline s cpu.0) cpu.0) cpu (gone_offline s cpu.0) low refl
      (keeps.gone_offline now cpu.0 s low active.online active.busy others holds)

  module _ (version timers : ℕ) (few : timers ≤ 2 ^ 16) where
    done_kept : (what : What) (line : ℕ) (cpu : CpuId) (s : State) → cpu.0 < cpus
        → IsWhat version timers what
        → refusal plain_rules what cpu.0 s ≡ None → P now between s
        → After what cpu (done plain_rules what line cpu s).state
    done_kept (whats.Arm timer class delay job arg) line cpu s low known none holds =
        let refused = not_active plain_rules s cpu.0 in
        let held = held_by plain_rules (where_queued s timer.0) in
        let active = is_busy s cpu.0 (first_none refused held none) in
        keeps.armed now cpu.0 s
        (record
        { timer = timer; class = class; delay = delay; job = job; arg = arg; line = line }) low
        (record {
          timer = omega (arith, known.timer_in_range, few);
          delay = known.delay_in_range;
        })
        active.online active.busy (held_none (where_queued s timer.0) (then_none refused held none))
        holds
    done_kept (whats.Cancel timer) line cpu s low known none holds =
        cancel_kept (where_queued s timer.0) (record { timer = timer; by = cpu; line = line }) s refl
        holds
    done_kept whats.Idle line cpu s low known none holds =
        idle_kept (nat_le (first_event s cpu.0) (s.clock + 1)) cpu s low
        (is_busy s cpu.0 none) holds
    done_kept whats.Wake line cpu s low known none holds =
        let idle = idle_by s cpu.0 (cpu_at s cpu.0).online (cpu_at s cpu.0).idle refl refl none in
        keeps.woken now cpu.0 s low idle.0 idle.1 holds
    done_kept whats.Offline line cpu s low known none holds =
        let refused = not_active plain_rules s cpu.0 in
        let last = last_online plain_rules s cpu.0 in
        inr (offline_kept cpu s low (is_busy s cpu.0 (first_none refused last none))
        (then_none refused last none) holds)
    done_kept whats.Online line cpu s low known none holds =
        keeps.come_online now cpu.0 s low (offline_by s cpu.0 (cpu_at s cpu.0).online refl none)
        holds

    unless_kept : (fault : Option OpFault) (o : Op) (s : State) → IsOp version cpus timers o
        → refusal plain_rules o.what o.cpu.0 s ≡ fault
        → P now between s → After o.what o.cpu (done_unless plain_rules fault o s).state
    unless_kept None o s known is holds =
        done_kept o.what o.line o.cpu s known.cpu_in_range known.what is holds
    unless_kept (Some fault) o s known is holds = refused_after o.what o.cpu s holds

    operation_kept : (o : Op) (s : State) → IsOp version cpus timers o → P now between s
        → After o.what o.cpu (operation plain_rules o s).state
    operation_kept o s known holds =
        unless_kept (refusal plain_rules o.what o.cpu.0 s) o s known refl holds

    -- behind a moment's last operation its CPU's timers move, if it is leaving
    not_leaving : (what : What) (cpu : CpuId) (s : State) → is_hotplug what ≡ false
        → After what cpu s → P now between s
    not_leaving (whats.Arm timer class delay job arg) cpu s stays after = after
    not_leaving (whats.Cancel timer) cpu s stays after = after
    not_leaving whats.Idle cpu s stays after = after
    not_leaving whats.Wake cpu s stays after = after
    not_leaving whats.Offline cpu s stays after = absurd (false≢true (sym stays))
    not_leaving whats.Online cpu s stays after = after

    last_kept : (what : What) (cpu : CpuId) (s : State) → cpu.0 < cpus → After what cpu s
        → P now between (clear_after plain_rules (leaving_cpu what cpu) s).state
    last_kept (whats.Arm timer class delay job arg) cpu s low after = after
    last_kept (whats.Cancel timer) cpu s low after = after
    last_kept whats.Idle cpu s low after = after
    last_kept whats.Wake cpu s low after = after
    last_kept whats.Offline cpu s low after = clear_kept cpu.0 low s after
    last_kept whats.Online cpu s low after = after

    pub operations_kept : (os : List Op) (s : State) → All (IsOp version cpus timers) os
        → IsHotplugLast os
        → P now between s
        → P now between
        (clear_after plain_rules (leaver os) (operations plain_rules os s).state).state
    unfolding operations
    operations_kept [] s all last holds = holds
    operations_kept (o ∷ []) s all last holds =
        let known = All-head (IsOp version cpus timers) o [] all in
        last_kept o.what o.cpu _ known.cpu_in_range (operation_kept o s known holds)
    operations_kept (o ∷ p ∷ os) s all last holds =
        subst
        (λ l. P now between
        (clear_after plain_rules l (operations plain_rules (o ∷ p ∷ os) s).state).state)
        (sym (leaver_more o p os))
        (operations_kept (p ∷ os) _ (All-tail (IsOp version cpus timers) o (p ∷ os) all) last.1
        (not_leaving o.what o.cpu _ last.0
        (operation_kept o s (All-head (IsOp version cpus timers) o (p ∷ os) all) holds)))
