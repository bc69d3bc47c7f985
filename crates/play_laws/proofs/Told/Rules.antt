-- what the lines of Play's rules tell is what they write into the journals
use Rattle.std.proofs.Common.{◌≡◌, ℕ, ◌+◌, ◌<◌, List, [], ◌∷◌, ◌++◌, Bool, true, false}
use Rattle.std.proofs.Common.{arith}
use Rattle.std.proofs.Common.{Option, Some, None, refl, sym, ap, ◌∙◌, subst}
use Rattle.std.specs.Prelude.{◌==◌, filter, if◌then◌else◌, option_map}
use Rattle.std.proofs.lemmas.List.{append-nil, length-set}
use Rattle.std.proofs.lemmas.Grind.{flat_map-append}
use Rattle.std.proofs.lemmas.Option.{none-some, same_Some}
use Rattle.tm_base.specs.declared.limits.TheConstants.{SCRIPT_TIME_LIMIT}
use Rattle.tm_base.specs.declared.names.Class.{Class}
use Rattle.tm_base.specs.declared.names.Class.TheVariants.{Global}
use Rattle.tm_base.specs.declared.names.CpuId.{CpuId}
use Rattle.tm_report.specs.declared.lines.Line.{Line}
use Rattle.tm_report.specs.declared.lines.Line.TheVariants as lines
use Rattle.wheel_core.specs.declared.item.Item.{Item}
use Rattle.cpu_bases.specs.declared.entry.Act.TheVariants as acts
use Rattle.cpu_bases.specs.CpuBases.{CpuBases, after_cancel, after_move_out, base_of, cancelled}
use Rattle.cpu_bases.specs.CpuBases.{entry_of, item_queued, moved_in, moved_out, oldest_in}
use Rattle.cpu_bases.proofs.Keeping.{found_at}
use Rattle.play_rules.specs.declared.asks.Arming.{Arming}
use Rattle.play_rules.specs.declared.asks.Cancelling.{Cancelling}
use Rattle.play_rules.specs.declared.asks.Queued.{Queued}
use Rattle.play_rules.specs.Interrupts.{Replies, cpu_id}
use Rattle.play_rules.specs.Operations.{arm}
use Rattle.play_rules.specs.Rules.{Moved}
use Rattle.play_rules.specs.State.{cpu_count}
use Rattle.play_rules.specs.State.{State, cpu_at, with_bases}
use Rattle.play_rules.specs.Hierarchy.{come_online, gone_offline, idled, reevaluated, told_again}
use Rattle.play_rules.specs.Hierarchy.{woken}
use Rattle.play_rules.specs.Timers.{armed_item, bases_at, cancelled_on, controlling, first_to_move}
use Rattle.play_rules.specs.Timers.{moved_into, moved_one, moved_out_of}
use Rattle.play_rules.specs.Play.{at_clock, ended, plain_rules}
use Rattle.play_rules.proofs.FirstMoves.{first_is}
use Rattle.play_laws.specs.Told.Journals.{Deed, by_line, by_lines, cancels, moves_in}
use Rattle.play_laws.specs.Told.Journals.{moves_out, told_if}
use Rattle.play_laws.proofs.Shape.Shape.{nth_class}
use Rattle.play_laws.proofs.Work.Alikes.{controlling_alike, ended_alike, idled_alike, offline_alike}
use Rattle.play_laws.proofs.Work.Alikes.{online_alike, told_alike, woken_alike}
use Rattle.play_laws.proofs.Work.Homes.{Alike}
use Rattle.play_laws.proofs.Work.Whole.{Stands}
use Rattle.play_laws.proofs.Told.Drained.{Swaps}
use Rattle.play_laws.proofs.Told.Goes.{Goes, goes_alike, goes_both, goes_none, goes_same}
use Rattle.play_laws.proofs.Told.Goes.{goes_written, quiet_none}
use Rattle.play_laws.proofs.Told.Held.{held_is}
use Rattle.play_laws.proofs.Told.Jobs.{arms_go, drain_goes, told_other, told_own}
use Rattle.play_laws.proofs.Told.Tells.{Tell, Tells, is_quiet}

module _ (passes : Deed → Bool) where
  -- LINES tell what the journals grow by
  abbrev pub LinesGo : State → List Line → State → Type 0
  LinesGo s ls t = Goes passes s (λ c. by_lines c ls) t

  alike_goes : (s t : State) → t.timers ≡ s.timers → Alike s t → LinesGo s [] t
  alike_goes s t timers same = goes_alike passes s t same.2 timers same.3

  ended_timers : (s : State) (c : ℕ) (idle : Bool)
      → (if idle then reevaluated s c else s).timers ≡ s.timers
  ended_timers s c true = refl
  ended_timers s c false = refl

  controlling_timers : (s : State) (d : ℕ) (idle : Bool)
      → (if idle then woken s d else s).timers ≡ s.timers
  controlling_timers s d true = refl
  controlling_timers s d false = refl

  lines_both : (s t u : State) (ls ms : List Line) → LinesGo s ls t → LinesGo t ms u
      → LinesGo s (ls ++ ms) u
  lines_both s t u ls ms first rest =
      goes_same passes s u (λ c. by_lines c ls ++ by_lines c ms) (λ c. by_lines c (ls ++ ms))
      (λ c. ap (filter passes) (sym (flat_map-append (by_line c) ls ms)))
      (goes_both passes s t u (λ c. by_lines c ls) (λ c. by_lines c ms) first rest)

  quiet_goes : (line : Line) (s : State) → is_quiet line ≡ true → LinesGo s (line ∷ []) s
  quiet_goes line s is =
      goes_same passes s s (λ c. []) (λ c. by_lines c (line ∷ []))
      (λ c. ap (λ x. filter passes (x ++ [])) (sym (quiet_none c line is))) (goes_none passes s)

  -- one line, of which this is told
  line_goes : (line : Line) (s t : State) → Goes passes s (λ c. by_line c line) t
      → LinesGo s (line ∷ []) t
  line_goes line s t goes =
      goes_same passes s t (λ c. by_line c line) (λ c. by_lines c (line ∷ []))
      (λ c. ap (filter passes) (sym (append-nil (by_line c line)))) goes

  arm_goes : (cpu : CpuId) (s : State) (a : Arming) → cpu.0 < cpu_count s
      → Tell LinesGo s (arm plain_rules cpu a s)
  arm_goes cpu s a low = line_goes
      (lines.Arm s.clock cpu a.timer a.class (armed_item s cpu.0 a).wheel) s _
      (arms_go passes s cpu.0 a low)

  -- CANCELLING
  cancel_goes : (s : State) (held : Queued) (a : Cancelling) (item : Item)
      → item.id ≡ a.timer.0 → held.cpu.0 < cpu_count s
      → (b : CpuBases)
      → b ≡ after_cancel (Some (held.class, item)) s.clock a.line a.by (bases_at s held.cpu.0)
      → LinesGo s (lines.Cancel s.clock a.by a.timer held.cpu ∷ [])
      (with_bases s held.cpu.0 b)
  cancel_goes s held a item id low b is =
      let home = held.cpu.0 in
      let told = cancels s.clock a.timer.0 a.by.0 in
      line_goes (lines.Cancel s.clock a.by a.timer held.cpu) s (with_bases s home b)
      (goes_written passes s home low b
      (entry_of acts.Cancelled a.line s.clock held.class item a.by ∷ [])
      (ap (λ (x : CpuBases). x.journal) is) (λ c. told_if (c == home) told)
      (ap (λ t. filter passes (cancels s.clock t a.by.0 ∷ [])) id
      ∙ ap (filter passes) (sym (told_own home told)))
      (λ c other. told_other c home told other))

  cancels_go : (s : State) (held : Queued) (a : Cancelling)
      → plain_rules.queued s a.timer.0 ≡ Some held
      → LinesGo s (lines.Cancel s.clock a.by a.timer held.cpu ∷ [])
      (cancelled_on s held.cpu.0 a)
  cancels_go s held a is =
      let at = held_is s a.timer.0 held is in
      let home = held.cpu.0 in
      cancel_goes s held a at.item
      (found_at a.timer.0 held.class at.item (bases_at s home) at.found).same at.low
      (cancelled s.clock a.timer.0 a.line a.by (bases_at s home))
      (ap (λ o. after_cancel o s.clock a.line a.by (bases_at s home)) at.found)

  -- MOVING: out of one CPU's base, and into another's
  module _ (s : State) (from to : ℕ) (from_low : from < cpu_count s) (to_low : to < cpu_count s)
      (class : Class) (item : Item)
      (first : oldest_in (base_of class (bases_at s from)).items ≡ Some item) where
    abbrev by : CpuId
    by = record { 0 = to }

    abbrev mid : State
    mid = moved_out_of s from to class

    out_goes : Goes passes s (λ c. told_if (c == from) (moves_out s.clock item.id to)) mid
    out_goes =
        let told = moves_out s.clock item.id to in
        goes_written passes s from from_low (moved_out s.clock class by (bases_at s from))
        (entry_of acts.MovedOut 0 s.clock class item by ∷ [])
        (ap (λ (o : Option Item).
        (after_move_out o s.clock class by (bases_at s from)).journal) first)
        (λ c. told_if (c == from) told) (ap (filter passes) (sym (told_own from told)))
        (λ c other. told_other c from told other)

    abbrev placed : Item
    placed =
        item_queued (s.clock + 1) class item.id item.expires item.job item.arg (bases_at mid to)

    in_goes : Goes passes mid (λ c. told_if (c == to) (moves_in s.clock item.id placed.wheel))
        (moved_into mid to (class, item)).state
    in_goes =
        let many : cpu_count mid ≡ cpu_count s = length-set s.cpus from _ in
        let to_there : to < cpu_count mid = omega (arith, to_low, many) in
        let told = moves_in s.clock item.id placed.wheel in
        goes_written passes mid to to_there
        (moved_in s.clock class item.id item.expires item.job item.arg by (bases_at mid to))
        (entry_of acts.MovedIn 0 s.clock class placed by ∷ []) refl (λ c. told_if (c == to) told)
        (ap (filter passes) (sym (told_own to told))) (λ c other. told_other c to told other)

    one_goes : let m = moved_one s from to (class, item) in
        LinesGo s
        (lines.Moved s.clock m.mover.timer (cpu_id from) (cpu_id to) m.mover.wheel ∷ []) m.state
    one_goes =
        let m = moved_one s from to (class, item) in
        line_goes (lines.Moved s.clock m.mover.timer (cpu_id from) (cpu_id to) m.mover.wheel) s
        m.state
        (goes_both passes s mid m.state
        (λ c. told_if (c == from) (moves_out s.clock item.id to))
        (λ c. told_if (c == to) (moves_in s.clock item.id placed.wheel)) out_goes in_goes)

  move_goes : (s : State) (from to : ℕ) → from < cpu_count s → to < cpu_count s
      → (o : Option (Class × Item)) (m : Moved State)
      → first_to_move (bases_at s from) ≡ o → option_map (moved_one s from to) o ≡ Some m
      → LinesGo s
      (lines.Moved s.clock m.mover.timer (cpu_id from) (cpu_id to) m.mover.wheel ∷ []) m.state
  move_goes s from to from_low to_low None m first is = absurd (none-some m is)
  move_goes s from to from_low to_low (Some (class, item)) m first is =
      subst
      (λ (x : Moved State).
      LinesGo s
      (lines.Moved s.clock x.mover.timer (cpu_id from) (cpu_id to) x.mover.wheel ∷ []) x.state)
      (same_Some (moved_one s from to (class, item)) m is)
      (one_goes s from to from_low to_low class item (first_is (bases_at s from) (class, item) first))

  -- EACH RULE
  pub rules_tell : (swaps : Swaps passes) (jobs : Replies) (timers cpus levels end : ℕ)
      (in_time : end < SCRIPT_TIME_LIMIT)
      → Tells jobs plain_rules cpus timers (Stands timers cpus levels end in_time) LinesGo
  rules_tell swaps jobs timers cpus levels end in_time = record {
    none = goes_none passes;
    both = lines_both;
    quiet = quiet_goes;
    at_clock = λ next s. goes_alike passes s (at_clock next s) refl refl (λ d. refl);
    entered = λ c s. goes_none passes s;
    taken = λ c d s. goes_none passes s;
    let_go = λ c d s. alike_goes s (told_again s d) refl (told_alike s d);
    ended = λ c s.
        alike_goes s (ended s c) (ended_timers s c (cpu_at s c).idle) (ended_alike s c);
    idled = λ c s. alike_goes s (idled s c) refl (idled_alike s c);
    woken = λ c s. alike_goes s (woken s c) refl (woken_alike s c);
    come_online = λ c s. alike_goes s (come_online s c) refl (online_alike s c);
    gone_offline = λ c s. alike_goes s (gone_offline s c) refl (offline_alike s c);
    handed_on = λ c d s. alike_goes s (woken s d) refl (woken_alike s d);
    controlling = λ d s.
        alike_goes s (controlling s d) (controlling_timers s d (cpu_at s d).idle)
        (controlling_alike s d);
    drained = λ now due c k s low few was.
        let at : c < cpu_count s = in_machine c s low was.homes.count in
        drain_goes passes swaps jobs c c (nth_class k) s at at
        (was.homes.each c (nth_class k) low).sound;
    drained_for = λ now due c level n tried d s low was.
        drain_goes passes swaps jobs d c Global s (in_machine d s was.1 was.0.homes.count)
        (in_machine c s low was.0.homes.count) (was.0.homes.each d Global was.1).sound;
    armed = λ now cpu s a low known short none was.
        arm_goes cpu s a (in_machine cpu.0 s low was.homes.count);
    cancelled = λ now s held a is was. cancels_go s held a is;
    moved = λ now from to n s m low is was.
        move_goes s from to (in_machine from s low was.0.homes.count)
        (in_machine to s was.1 was.0.homes.count) (first_to_move (bases_at s from)) m refl is;
  }
    where
      in_machine : (c : ℕ) (s : State) → c < cpus → cpu_count s ≡ cpus → c < cpu_count s
      in_machine c s low count = omega (arith, low, count)
