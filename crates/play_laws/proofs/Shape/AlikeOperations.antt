-- for crates above: operations, moves and covers under rules that are alike
use Rattle.std.proofs.Common.{◌≡◌, ℕ, zero, suc, ◌+◌, ◌<◌, List, [], ◌∷◌, Bool, true, false, Option, Some, None, refl, sym, ap, ◌∙◌, arith, zero-add}
use Rattle.std.specs.Prelude.{All, is_none, nat_le, if◌then◌else◌, ◌&&◌}
use Rattle.std.specs.Option.{option_or}
use Rattle.std.proofs.lemmas.List.Elements.{All-head, All-tail}
use Rattle.tm_base.specs.declared.names.CpuId.{CpuId}
use Rattle.tm_base.specs.declared.faults.OpFault.{OpFault}
use Rattle.tm_base.specs.declared.faults.OpFault.TheVariants as faults
use Rattle.tm_report.specs.declared.lines.Line.{Line}
use Rattle.tm_report.specs.declared.lines.Line.TheVariants as lines
use Rattle.tm_script.specs.declared.syntax.Op.{Op}
use Rattle.tm_script.specs.declared.syntax.What.{What}
use Rattle.tm_script.specs.declared.syntax.What.TheVariants as whats
use Rattle.play_rules.specs.declared.asks.Answerer.{Answerer}
use Rattle.play_rules.specs.declared.asks.Arming.{Arming}
use Rattle.play_rules.specs.declared.asks.Cancelling.{Cancelling}
use Rattle.play_rules.specs.declared.asks.Queued.{Queued}
use Rattle.play_rules.specs.Parts.{lines_told, printing, silent}
use Rattle.play_rules.specs.Rules.{Moved, Rules}
use Rattle.play_rules.specs.Interrupts.{cpu_id}
use Rattle.play_rules.specs.Operations.{arm, arm_printed, cancel_where, clear, clear_after, clear_where, cover_lines, cover_or, covers, done, done_unless, hand_on, hand_on_to, hand_on_where, held_by, idle_where, last_online, move_all, move_printed, moves, moves_to, not_active, not_idle, offline, operation, operations, refusal, refused_line}
use Rattle.play_laws.proofs.Shape.Shape.{KeptByRules, Stage, between, leaving as left, moving}
use Rattle.play_laws.proofs.Shape.ShapeOperations.{IsActive, IsOpIn, IsTimerIn, is_active, is_idle, first_none, held_none, offline_by, operation_kept, then_none}
use Rattle.play_laws.proofs.Shape.Alike.{Alike, placed_seen, seen, then_seen}

module _ {S T : Type 0} (r : Rules S) (q : Rules T) (f : S → T) (cpus timers levels end : ℕ)
    (P : (now : ℕ) → Stage → S → Type 0) (Fits : Arming → Type 0) (keeps : KeptByRules r cpus timers levels end Fits P)
    (alike : Alike r q f cpus timers levels end Fits P) (now : ℕ) where
  -- WHAT IS PRINTED at the clock of one is printed at the clock of the other
  printed : (line : ℕ → Line) (s : S) (t : S) (t' : T) → f t ≡ t' → seen f (printing (line (r.clock s)) t) ≡ printing (line (q.clock (f s))) t'
  printed line s t t' e =
      ap (λ now. printing (line now) (f t)) (sym (alike.clock s)) ∙ ap (printing (line (q.clock (f s)))) e

  -- REFUSALS
  not_active_alike : (c : ℕ) (s : S) → c < cpus → P now between s → not_active q (f s) c ≡ not_active r s c
  not_active_alike c s low holds =
      ap (λ b. if b then (if q.is_idle (f s) c then Some faults.NotActive else None) else Some faults.Offline) (alike.is_online now between s c low holds)
      ∙ ap (λ b. if r.is_online s c then (if b then Some faults.NotActive else None) else Some faults.Offline) (alike.is_idle now between s c low holds)

  not_idle_alike : (c : ℕ) (s : S) → c < cpus → P now between s → not_idle q (f s) c ≡ not_idle r s c
  not_idle_alike c s low holds =
      ap (λ b. if b then (if q.is_idle (f s) c then None else Some faults.NotIdle) else Some faults.Offline) (alike.is_online now between s c low holds)
      ∙ ap (λ b. if r.is_online s c then (if b then None else Some faults.NotIdle) else Some faults.Offline) (alike.is_idle now between s c low holds)

  last_alike : (c : ℕ) (s : S) → last_online q (f s) c ≡ last_online r s c
  last_alike c s =
      ap (λ b. if b && is_none (q.successor (f s) c) then Some faults.LastOnline else None) (alike.is_placed s c)
      ∙ ap (λ o. if r.is_placed s c && is_none o then Some faults.LastOnline else None) (alike.successor s c)

  refusal_alike : (what : What) (c : ℕ) (s : S) → c < cpus → P now between s → refusal q what c (f s) ≡ refusal r what c s
  refusal_alike (whats.Arm timer class delay job arg) c s low holds =
      ap (λ x. option_or x (held_by q (q.queued (f s) timer.0))) (not_active_alike c s low holds)
      ∙ ap (λ o. option_or (not_active r s c) (held_by r o)) (alike.queued s timer.0)
  refusal_alike (whats.Cancel timer) c s low holds = not_active_alike c s low holds
  refusal_alike whats.Idle c s low holds = not_active_alike c s low holds
  refusal_alike whats.Wake c s low holds = not_idle_alike c s low holds
  refusal_alike whats.Offline c s low holds =
      ap (λ x. option_or x (last_online q (f s) c)) (not_active_alike c s low holds)
      ∙ ap (option_or (not_active r s c)) (last_alike c s)
  refusal_alike whats.Online c s low holds =
      ap (λ b. if b then Some faults.AlreadyOnline else None) (alike.is_online now between s c low holds)

  -- ONE OPERATION
  arm_alike : (cpu : CpuId) (a : Arming) (s : S) → placed_seen f (r.armed s cpu.0 a) ≡ q.armed (f s) cpu.0 a
      → seen f (arm r cpu a s) ≡ arm q cpu a (f s)
  arm_alike cpu a s e =
      ap (λ now. printing (lines.Arm now cpu a.timer a.class (r.armed s cpu.0 a).wheel) (f (r.armed s cpu.0 a).state)) (sym (alike.clock s))
      ∙ ap (arm_printed q (f s) cpu a.timer a.class) e

  cancel_alike : (o : Option Queued) (c : ℕ) (a : Cancelling) (s : S) → c < cpus → (a.timer.0 < timers) × (a.by.0 < cpus) → IsActive r s c
      → r.queued s a.timer.0 ≡ o → P now between s → seen f (cancel_where r o a s) ≡ cancel_where q o a (f s)
  cancel_alike None c a s low known active is holds = printed (λ n. lines.NotQueued n a.by a.timer) s s (f s) refl
  cancel_alike (Some held) c a s low known active is holds =
      printed (λ n. lines.Cancel n a.by a.timer held.cpu) s _ _ (alike.cancelled now c s held a low known active.online active.busy is holds)

  idle_alike : (stays : Bool) (cpu : CpuId) (s : S) → cpu.0 < cpus → IsActive r s cpu.0
      → nat_le (r.first_event s cpu.0) (r.clock s + 1) ≡ stays → P now between s
      → seen f (idle_where r stays cpu s) ≡ idle_where q stays cpu (f s)
  idle_alike true cpu s low active is holds =
      ap (λ n. printing (lines.Stay n cpu (r.first_event s cpu.0)) (f s)) (sym (alike.clock s))
      ∙ ap (λ time. printing (lines.Stay (q.clock (f s)) cpu time) (f s)) (sym (alike.first_event s cpu.0))
  idle_alike false cpu s low active is holds =
      let e = alike.idled now cpu.0 s low active.online active.busy is holds in
      let after = keeps.idled now cpu.0 s low active.online active.busy is holds in
      ap (λ n. printing (lines.Idle n cpu (r.wakeup (r.idled s cpu.0) cpu.0)) (f (r.idled s cpu.0))) (sym (alike.clock s))
      ∙ ap (λ time. printing (lines.Idle (q.clock (f s)) cpu time) (f (r.idled s cpu.0))) (sym (alike.wakeup now between (r.idled s cpu.0) cpu.0 low after))
      ∙ ap (λ t. printing (lines.Idle (q.clock (f s)) cpu (q.wakeup t cpu.0)) t) e

  hand_on_alike : (o : Option ℕ) (cpu : CpuId) (s : S) → cpu.0 < cpus → r.hands_on s cpu.0 ≡ true
      → r.successor s cpu.0 ≡ o → P now (left cpu.0) s → seen f (hand_on_to r o cpu s) ≡ hand_on_to q o cpu (f s)
  hand_on_alike None cpu s low hands is holds = refl
  hand_on_alike (Some d) cpu s low hands is holds =
      printed (λ n. lines.Handed n cpu (cpu_id d)) s _ _ (alike.handed_on now cpu.0 d s low hands is holds)

  leave_alike : (b : Bool) (cpu : CpuId) (s : S) → cpu.0 < cpus → r.hands_on s cpu.0 ≡ b → P now (left cpu.0) s
      → seen f (hand_on_where r b cpu s) ≡ hand_on_where q b cpu (f s)
  leave_alike false cpu s low hands holds = refl
  leave_alike true cpu s low hands holds =
      hand_on_alike (r.successor s cpu.0) cpu s low hands refl holds
      ∙ ap (λ o. hand_on_to q o cpu (f s)) (sym (alike.successor s cpu.0))

  offline_alike : (cpu : CpuId) (s : S) → cpu.0 < cpus → IsActive r s cpu.0 → last_online r s cpu.0 ≡ None
      → P now between s → seen f (offline r cpu s) ≡ offline q cpu (f s)
  offline_alike cpu s low active others holds =
      let e = alike.gone_offline now cpu.0 s low active.online active.busy others holds in
      let after = keeps.gone_offline now cpu.0 s low active.online active.busy others holds in
      then_seen f (printing (lines.Offline (r.clock s) cpu) (r.gone_offline s cpu.0)) (printing (lines.Offline (q.clock (f s)) cpu) (q.gone_offline (f s) cpu.0))
      (hand_on r cpu) (hand_on q cpu)
      (printed (λ n. lines.Offline n cpu) s _ _ e)
      (leave_alike (r.hands_on (r.gone_offline s cpu.0) cpu.0) cpu (r.gone_offline s cpu.0) low refl after
      ∙ ap (λ b. hand_on_where q b cpu (f (r.gone_offline s cpu.0))) (sym (alike.hands_on now cpu.0 (r.gone_offline s cpu.0) low after)))

  done_alike : (what : What) (line : ℕ) (cpu : CpuId) (s : S) → cpu.0 < cpus → IsTimerIn timers what
      → refusal r what cpu.0 s ≡ None → P now between s → seen f (done r what line cpu s) ≡ done q what line cpu (f s)
  done_alike (whats.Arm timer class delay job arg) line cpu s low known none holds =
      let active = is_active r s cpu.0 (first_none (not_active r s cpu.0) (held_by r (r.queued s timer.0)) none) in
      let free = held_none r s cpu.0 (r.queued s timer.0) (then_none (not_active r s cpu.0) (held_by r (r.queued s timer.0)) none) in
      arm_alike cpu (record { timer = timer; class = class; delay = delay; job = job; arg = arg; line = line }) s
      (alike.armed now cpu.0 s (record { timer = timer; class = class; delay = delay; job = job; arg = arg; line = line })
      low known.0 known.1 active.online active.busy free holds)
  done_alike (whats.Cancel timer) line cpu s low known none holds =
      cancel_alike (r.queued s timer.0) cpu.0 (record { timer = timer; by = cpu; line = line }) s low (known, low)
      (is_active r s cpu.0 none) refl holds
      ∙ ap (λ o. cancel_where q o (record { timer = timer; by = cpu; line = line }) (f s)) (sym (alike.queued s timer.0))
  done_alike whats.Idle line cpu s low known none holds =
      idle_alike (nat_le (r.first_event s cpu.0) (r.clock s + 1)) cpu s low (is_active r s cpu.0 none) refl holds
      ∙ ap (λ time. idle_where q (nat_le time (r.clock s + 1)) cpu (f s)) (sym (alike.first_event s cpu.0))
      ∙ ap (λ n. idle_where q (nat_le (q.first_event (f s) cpu.0) (n + 1)) cpu (f s)) (sym (alike.clock s))
  done_alike whats.Wake line cpu s low known none holds =
      let idle = is_idle r s cpu.0 none in
      printed (λ n. lines.Wake n cpu) s _ _ (alike.woken now cpu.0 s low idle.0 idle.1 holds)
  done_alike whats.Offline line cpu s low known none holds =
      offline_alike cpu s low (is_active r s cpu.0 (first_none (not_active r s cpu.0) (last_online r s cpu.0) none))
      (then_none (not_active r s cpu.0) (last_online r s cpu.0) none) holds
  done_alike whats.Online line cpu s low known none holds =
      printed (λ n. lines.Online n cpu) s _ _ (alike.come_online now cpu.0 s low (offline_by r s cpu.0 (r.is_online s cpu.0) refl none) holds)

  refused_alike : (fault : OpFault) (o : Op) (s : S)
      → seen f (printing (refused_line fault (r.clock s) o.line o.cpu) s) ≡ printing (refused_line fault (q.clock (f s)) o.line o.cpu) (f s)
  refused_alike fault o s = printed (λ n. refused_line fault n o.line o.cpu) s s (f s) refl

  unless_alike : (fault : Option OpFault) (o : Op) (s : S) → IsOpIn cpus timers o → refusal r o.what o.cpu.0 s ≡ fault
      → P now between s → seen f (done_unless r fault o s) ≡ done_unless q fault o (f s)
  unless_alike None o s in_range is holds = done_alike o.what o.line o.cpu s in_range.cpu in_range.timer is holds
  unless_alike (Some fault) o s in_range is holds = refused_alike fault o s

  operation_alike : (o : Op) (s : S) → IsOpIn cpus timers o → P now between s → seen f (operation r o s) ≡ operation q o (f s)
  operation_alike o s in_range holds =
      unless_alike (refusal r o.what o.cpu.0 s) o s in_range refl holds
      ∙ ap (λ x. done_unless q x o (f s)) (sym (refusal_alike o.what o.cpu.0 s in_range.cpu holds))

  pub operations_alike : (os : List Op) (s : S) → All (IsOpIn cpus timers) os → P now between s
      → seen f (operations r os s) ≡ operations q os (f s)
  unfolding operations
  operations_alike [] s all holds = refl
  operations_alike (o ∷ os) s all holds =
      let in_range = All-head (IsOpIn cpus timers) o os all in
      then_seen f (operation r o s) (operation q o (f s)) (operations r os) (operations q os)
      (operation_alike o s in_range holds)
      (operations_alike os _ (All-tail (IsOpIn cpus timers) o os all)
      (operation_kept r cpus timers levels end P Fits keeps now o s in_range holds))

  -- MOVING
  module _ (from : ℕ) (low : from < cpus) where
    move_alike : (o : Option (Moved S)) (to n : ℕ) (s : S) → r.moved s from to ≡ o → P now (moving from to (suc n)) s
        → ((t : S) → P now (moving from to n) t → seen f (moves r n from to t) ≡ moves q n from to (f t))
        → seen f (move_printed r from to o (moves r n from to) s) ≡ move_printed q from to (q.moved (f s) from to) (moves q n from to) (f s)
    move_alike None to n s is holds rest =
        ap (λ o. move_printed q from to o (moves q n from to) (f s)) (sym (alike.moved_none now from to n s low is holds))
    move_alike (Some m) to n s is holds rest =
        then_seen f (printing (lines.Moved (r.clock s) m.mover.timer (cpu_id from) (cpu_id to) m.mover.wheel) m.state)
        (printing (lines.Moved (q.clock (f s)) m.mover.timer (cpu_id from) (cpu_id to) m.mover.wheel) (f m.state))
        (moves r n from to) (moves q n from to)
        (printed (λ n. lines.Moved n m.mover.timer (cpu_id from) (cpu_id to) m.mover.wheel) s m.state (f m.state) refl)
        (rest m.state (keeps.moved now from to n s m low is holds))
        ∙ ap (λ o. move_printed q from to o (moves q n from to) (f s)) (sym (alike.moved now from to n s m low is holds))

    moves_alike : (n to : ℕ) (s : S) → P now (moving from to n) s → seen f (moves r n from to s) ≡ moves q n from to (f s)
    unfolding moves
    moves_alike zero to s holds = refl
    moves_alike (suc n) to s holds = move_alike (r.moved s from to) to n s refl holds (λ t at. moves_alike n to t at)

    control_alike : (o : Option ℕ) (s : S) → r.is_online s from ≡ false → r.controller s ≡ o → P now between s
        → seen f (moves_to r o from s) ≡ moves_to q o from (f s)
    control_alike None s off is holds = refl
    control_alike (Some d) s off is holds =
        let e = alike.controlling now from d s low off is holds in
        then_seen f (printing (lines.Control (r.clock s) (cpu_id d)) (r.controlling s d)) (printing (lines.Control (q.clock (f s)) (cpu_id d)) (q.controlling (f s) d))
        (move_all r from d) (move_all q from d)
        (printed (λ n. lines.Control n (cpu_id d)) s _ _ e)
        (moves_alike _ d _ (keeps.controlling now from d s low off is holds)
        ∙ ap (λ n. moves q n from d (f (r.controlling s d))) (sym (alike.count_queued (r.controlling s d) from)))

    cleared_alike : (queued : ℕ) (s : S) → r.is_online s from ≡ false → P now between s
        → seen f (clear_where r queued from s) ≡ clear_where q queued from (f s)
    cleared_alike zero s off holds = refl
    cleared_alike (suc n) s off holds =
        control_alike (r.controller s) s off refl holds ∙ ap (λ o. moves_to q o from (f s)) (sym (alike.controller s))

    clear_by : (online : Bool) (s : S) → r.is_online s from ≡ online → P now between s
        → seen f (if online then silent s else clear_where r (r.count_queued s from) from s)
        ≡ (if online then silent (f s) else clear_where q (q.count_queued (f s) from) from (f s))
    clear_by true s is holds = refl
    clear_by false s is holds =
        cleared_alike (r.count_queued s from) s is holds ∙ ap (λ n. clear_where q n from (f s)) (sym (alike.count_queued s from))

    clear_alike : (s : S) → P now between s → seen f (clear r from s) ≡ clear q from (f s)
    clear_alike s holds =
        clear_by (r.is_online s from) s refl holds
        ∙ ap (λ b. if b then silent (f s) else clear_where q (q.count_queued (f s) from) from (f s)) (sym (alike.is_online now between s from low holds))

  pub clear_after_alike : (o : Option ℕ) (s : S) → ((c : ℕ) → o ≡ Some c → c < cpus) → P now between s
      → seen f (clear_after r o s) ≡ clear_after q o (f s)
  clear_after_alike None s known holds = refl
  clear_after_alike (Some c) s known holds = clear_alike c (known c refl) s holds

  -- COVERS
  cover_or_alike : (o : Option Answerer) (c : ℕ) (s : S) (others : List Line) → cover_or r o c s others ≡ cover_or q o c (f s) others
  cover_or_alike None c s others = refl
  cover_or_alike (Some a) c s others = ap (λ n. lines.Cover n (cpu_id c) a.wheel a.cover ∷ others) (sym (alike.clock s))

  cover_lines_alike : (n c : ℕ) (s : S) → c + n ≡ cpus → P now between s → cover_lines r n c s ≡ cover_lines q n c (f s)
  unfolding cover_lines
  cover_lines_alike zero c s all holds = refl
  cover_lines_alike (suc n) c s all holds =
      let low : c < cpus = omega (arith, all) in
      ap (cover_or r (r.cover s c) c s) (cover_lines_alike n (c + 1) s (omega (arith, all)) holds)
      ∙ cover_or_alike (r.cover s c) c s (cover_lines q n (c + 1) (f s))
      ∙ ap (λ o. cover_or q o c (f s) (cover_lines q n (c + 1) (f s))) (sym (alike.cover now s c low holds))

  pub covers_alike : (s : S) → r.cpus s ≡ cpus → P now between s → seen f (covers r s) ≡ covers q (f s)
  covers_alike s count holds =
      ap (λ ls. lines_told ls (f s))
      (cover_lines_alike (r.cpus s) 0 s (zero-add (r.cpus s) ∙ count) holds
      ∙ ap (λ n. cover_lines q n 0 (f s)) (sym (alike.cpus_are s)))
