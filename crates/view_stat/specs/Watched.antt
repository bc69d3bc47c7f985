-- A PLAY THAT IS WATCHED: the rules of a machine, with counts beside its state. Each rule does to
-- the machine what it does, and six of them count: as time goes by, as an interrupt begins, drains
-- and ends, and as a CPU is taken and let go
use Rattle.std.specs.Prelude.{ℕ, zero, suc, ◌+◌, ◌-◌, ◌==◌, ◌&&◌, not, Bool, true, false, List}
use Rattle.std.specs.Prelude.{◌++◌, [], ◌∷◌, Option, Some, None, if◌then◌else◌, option_map}
use Rattle.std.specs.FinSet as set
use Rattle.tm_base.specs.declared.names.Class.{Class}
use Rattle.tm_base.specs.declared.names.Class.TheVariants.{Pinned, Global, Deferrable}
use Rattle.wheel_core.specs.declared.item.Item.{Item}
use Rattle.play_rules.specs.Moments.{Turn}
use Rattle.play_rules.specs.Parts.{Played}
use Rattle.play_rules.specs.Rules.{Drained, Moved, Placed, Rules}
use Rattle.view_counts.specs.declared.counts.Cause.{Cause}
use Rattle.view_counts.specs.declared.counts.Cause.TheVariants as causes
use Rattle.view_counts.specs.declared.counts.CpuCounts.{CpuCounts}
use Rattle.view_counts.specs.declared.wakeups.Reason.{Reason}
use Rattle.view_counts.specs.declared.wakeups.Reason.TheVariants as reasons
use Rattle.view_counts.specs.declared.wakeups.Wakeup.{Wakeup}
use Rattle.view_counts.specs.Counts.{at_cpu, lived, ran_for, run_by, slept}
use Rattle.view_counts.specs.Wakeups.{last_for, wakeup_at, with_reason}
use Rattle.view_stat.specs.declared.interrupt.Interrupt.{Interrupt}

-- the machine's state, what was counted of each CPU, the interrupt that is under way, what stood
-- behind the wakeup of each CPU before the moment, and the wakeups so far
pub record Watched (S : Type 0) : Type 0 where
  pub world : S
  pub cpus : List CpuCounts
  pub interrupt : Interrupt
  pub reasons : List Reason
  pub wakeups : List Wakeup

-- whether the first timer of a class on a CPU is due
abbrev pub Dues : (S : Type 0) → Type 0
Dues S = S → (c : ℕ) → Class → Bool

-- what a hand-out is for: timers of other CPUs, or the CPU's own of a class
abbrev pub cause_of : (of_others : Bool) → Class → Cause
cause_of true class = causes.Others
cause_of false Pinned = causes.Pinned
cause_of false Global = causes.Global
cause_of false Deferrable = causes.Deferrable

-- a deferrable timer wakes nobody, so behind one those of other CPUs count
abbrev pub behind_deferrable : Cause → Cause
behind_deferrable causes.Others = causes.Others
behind_deferrable cause = causes.Deferrable

-- WHAT A WAKEUP IS FOR: the first hand-out in it counts. An interrupt hands out pinned timers of its
-- own CPU first, then global, then deferrable ones, then those of other CPUs
abbrev pub also_for : (more cause : Cause) → Cause
also_for more causes.Nothing = more
also_for more causes.Deferrable = behind_deferrable more
also_for more causes.Pinned = causes.Pinned
also_for more causes.Global = causes.Global
also_for more causes.Others = causes.Others

-- whether anything is handed out
abbrev pub hands_out : List Item → Bool
hands_out [] = false
hands_out (item ∷ items) = true

-- A HAND-OUT says what the interrupt is for, and none changes nothing: so an interrupt is for nothing
-- exactly where nothing is handed out in it
abbrev pub handed : (some of_others : Bool) → Class → Interrupt → Interrupt
handed false of_others class i = i
handed true of_others class i =
    record i { cause = also_for (cause_of of_others class) i.cause }

-- CPU d is let go, of which CPU c ran so many timers
abbrev pub ran_some : (c d count : ℕ) → List CpuCounts → List CpuCounts
ran_some c d count ks = at_cpu d (run_by count) (at_cpu c (ran_for count) ks)

-- with an interrupt that found its CPU idle its sleep is over
abbrev pub waking : (idle : Bool) → (c : ℕ) → List CpuCounts → List CpuCounts
waking false c ks = ks
waking true c ks = at_cpu c slept ks

-- .. and it counts as a wakeup for what it ran
abbrev pub woken_for_it : (idle : Bool) → Cause → List Wakeup → List Wakeup
woken_for_it false cause ws = ws
woken_for_it true cause ws = last_for cause ws

-- an interrupt drains its CPU's pinned timers first
abbrev pub is_pinned : Class → Bool
is_pinned Pinned = true
is_pinned Global = false
is_pinned Deferrable = false

-- A WAKEUP IS LISTED as an interrupt that found its CPU idle drains its first timers
abbrev pub listed : (idle : Bool) → Class → (at c : ℕ) → List Reason → List Wakeup → List Wakeup
listed idle class at c xs ws = if idle && is_pinned class then ws ++ wakeup_at at c xs ∷ [] else ws

module _ {S : Type 0} where
  -- the machine in another state, with the same counts
  abbrev pub put : Watched S → S → Watched S
  put s w = record {
    world = w;
    cpus = s.cpus;
    interrupt = s.interrupt;
    reasons = s.reasons;
    wakeups = s.wakeups;
  }

  -- a part of a play that was watched, without what was counted: its lines, its work, its state
  abbrev pub unwatched : Played (Watched S) → Played S
  unwatched p = record { lines = p.lines; work = p.work; state = p.state.world }

  -- .. and a moment
  abbrev pub unwatched_turn : Turn (Watched S) → Turn S
  unwatched_turn t = record { at = t.at; played = unwatched t.played }

  -- what was drained, with a wakeup that is listed, and what the interrupt is for
  abbrev pub put_drained : Watched S → (at home : ℕ) → Class → (runner : ℕ) → Drained S →
      Drained (Watched S)
  put_drained s at home class runner d = record {
    items = d.items;
    state = record {
      world = d.state;
      cpus = s.cpus;
      interrupt = handed (hands_out d.items) (not (home == runner)) class s.interrupt;
      reasons = s.reasons;
      wakeups = listed s.interrupt.idle class at home s.reasons s.wakeups;
    };
  }

  -- what was armed, with the same counts
  abbrev pub put_placed : Watched S → Placed S → Placed (Watched S)
  put_placed s p = record { wheel = p.wheel; state = put s p.state }

  -- what moved, with the same counts
  abbrev pub put_moved : Watched S → Moved S → Moved (Watched S)
  put_moved s m = record { mover = m.mover; state = put s m.state }

  -- what stands behind a wakeup for which no timer of the CPU's own is due, where the top group's
  -- first event is of this CPU
  abbrev pub event_reason : Dues S → S → Option ℕ → Reason
  event_reason due w None = reasons.Gone
  event_reason due w (Some d) =
      if due w d Global then reasons.TopEvent (record { 0 = d })
      else reasons.GoneTimer (record { 0 = d })

  module _ (r : Rules S) where
    -- WHAT STANDS BEHIND A WAKEUP of CPU c: a timer of its own that is due, or the first event that
    -- is due in the top group of its path
    abbrev pub waking_reason : Dues S → S → (c : ℕ) → Reason
    waking_reason due w c =
        if due w c Pinned then reasons.OwnPinned
        else (if due w c Global then reasons.OwnGlobal
        else event_reason due w (r.named w c (r.levels w - 1) set.empty))

    -- .. if it sleeps and has an interrupt now
    abbrev pub reason_of : Dues S → S → (c : ℕ) → Reason
    reason_of due w c =
        if r.is_idle w c && r.has_interrupt w c then waking_reason due w c else reasons.NoWakeup

    -- what stands behind the wakeups of n CPUs from CPU c on
    unfoldable pub all_reasons : Dues S → (n c : ℕ) → S → List Reason → List Reason
    all_reasons due zero c w xs = xs
    all_reasons due (suc n) c w xs =
        all_reasons due n (c + 1) w (with_reason c (reason_of due w c) xs)

    -- MIGRATOR: of how many groups a CPU is, from this level on upwards, n levels at most
    unfoldable pub led : (n c level : ℕ) → S → ℕ
    led zero c level w = 0
    led (suc n) c level w = if r.looks_after w c level then led n c (level + 1) w + 1 else 0

    -- MIGRATOR: of how many groups an awake CPU is, from its leaf on upwards
    abbrev pub groups_led : S → (c : ℕ) → ℕ
    groups_led w c =
        if r.is_online w c && not (r.is_idle w c) then led (r.levels w) c 0 w else 0

    -- TIME goes by for n CPUs from CPU c on, by what each is in this state
    unfoldable pub all_lived : (n c : ℕ) → S → (jiffies : ℕ) → List CpuCounts → List CpuCounts
    all_lived zero c w jiffies ks = ks
    all_lived (suc n) c w jiffies ks =
        all_lived n (c + 1) w jiffies
        (at_cpu c (lived (r.is_online w c) (r.is_idle w c) jiffies (groups_led w c)) ks)

    -- TIME: the clock comes to a moment, and each CPU was until then what it was after the last; and
    -- before anything happens in the moment there is something behind each wakeup
    abbrev pub passed : Dues S → (now : ℕ) → Watched S → Watched S
    passed due now s = record {
      world = r.at_clock now s.world;
      cpus = all_lived (r.cpus s.world) 0 s.world (now - r.clock s.world) s.cpus;
      interrupt = s.interrupt;
      reasons =
          all_reasons due (r.cpus (r.at_clock now s.world)) 0 (r.at_clock now s.world) s.reasons;
      wakeups = s.wakeups;
    }

    -- AN INTERRUPT BEGINS: whether it finds its CPU idle; it is for nothing yet
    abbrev pub begun : Watched S → (c : ℕ) → Watched S
    begun s c = record {
      world = r.entered s.world c;
      cpus = s.cpus;
      interrupt = record { idle = r.is_idle s.world c; cause = causes.Nothing; queued = 0 };
      reasons = s.reasons;
      wakeups = s.wakeups;
    }

    -- A CPU IS TAKEN: so many timers are queued on it
    abbrev pub took : Watched S → (c d : ℕ) → Watched S
    took s c d = record {
      world = r.taken s.world c d;
      cpus = s.cpus;
      interrupt = record s.interrupt { queued = r.count_queued s.world d };
      reasons = s.reasons;
      wakeups = s.wakeups;
    }

  module _ (r : Rules S) where
    -- A CPU IS LET GO: what was queued on it and isn't any more was run for it, since jobs arm on
    -- the CPU that runs them. A CPU that takes itself runs nothing for others
    abbrev pub let_go_where : (itself : Bool) → Watched S → (c d count : ℕ) → Watched S
    let_go_where true s c d count = put s (r.let_go s.world c d)
    let_go_where false s c d count = record {
      world = r.let_go s.world c d;
      cpus = ran_some c d count s.cpus;
      interrupt = s.interrupt;
      reasons = s.reasons;
      wakeups = s.wakeups;
    }

    -- A CPU IS LET GO
    abbrev pub let_it_go : Watched S → (c d : ℕ) → Watched S
    let_it_go s c d =
        let_go_where (d == c) s c d (s.interrupt.queued - r.count_queued s.world d)

    -- AN INTERRUPT ENDS: where it found its CPU idle it was a wakeup
    abbrev pub over : Watched S → (c : ℕ) → Watched S
    over s c = record {
      world = r.ended s.world c;
      cpus = waking s.interrupt.idle c s.cpus;
      interrupt = s.interrupt;
      reasons = s.reasons;
      wakeups = woken_for_it s.interrupt.idle s.interrupt.cause s.wakeups;
    }

-- THE RULES OF A MACHINE THAT IS WATCHED
abbrev pub watched_rules : {S : Type 0} → Rules S → Dues S → Rules (Watched S)
watched_rules r due = record {
  clock = λ s. r.clock s.world;
  timers = λ s. r.timers s.world;
  cpus = λ s. r.cpus s.world;
  levels = λ s. r.levels s.world;
  is_online = λ s c. r.is_online s.world c;
  is_idle = λ s c. r.is_idle s.world c;
  is_placed = λ s c. r.is_placed s.world c;
  wakeup = λ s c. r.wakeup s.world c;
  queued = λ s timer. r.queued s.world timer;
  at_clock = passed r due;
  has_interrupt = λ s c. r.has_interrupt s.world c;
  next_interrupt = λ s. r.next_interrupt s.world;
  drained = λ s home class runner.
      put_drained s (r.clock s.world) home class runner (r.drained s.world home class runner);
  armed = λ s c a. put_placed s (r.armed s.world c a);
  cancelled = λ s home a. put s (r.cancelled s.world home a);
  entered = begun r;
  looks_after = λ s c level. r.looks_after s.world c level;
  named = λ s c level tried. r.named s.world c level tried;
  takes = λ s c d. r.takes s.world c d;
  taken = took r;
  let_go = let_it_go r;
  ended = over r;
  first_event = λ s c. r.first_event s.world c;
  idled = λ s c. put s (r.idled s.world c);
  woken = λ s c. put s (r.woken s.world c);
  successor = λ s c. r.successor s.world c;
  gone_offline = λ s c. put s (r.gone_offline s.world c);
  hands_on = λ s c. r.hands_on s.world c;
  handed_on = λ s c d. put s (r.handed_on s.world c d);
  come_online = λ s c. put s (r.come_online s.world c);
  count_queued = λ s c. r.count_queued s.world c;
  controller = λ s. r.controller s.world;
  controlling = λ s d. put s (r.controlling s.world d);
  moved = λ s from to. option_map (put_moved s) (r.moved s.world from to);
  cover = λ s c. r.cover s.world c;
}
