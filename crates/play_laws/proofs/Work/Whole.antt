-- each timer has one home at most all through a play
use Rattle.std.proofs.Common.{◌≡◌, ℕ, zero, suc, ◌^◌, ◌<◌, ◌≤◌, Bool, true, Some, None, refl, sym}
use Rattle.std.proofs.Common.{◌∙◌, subst, arith, replicate}
use Rattle.std.specs.Prelude.{All, slice_index_or}
use Rattle.std.specs.FinSet as set
use Rattle.std.proofs.lemmas.List.{length-replicate}
use Rattle.std.proofs.lemmas.List.Elements.{All-nil, All-weaker}
use Rattle.tm_base.specs.declared.limits.TheConstants.{SCRIPT_TIME_LIMIT}
use Rattle.tm_base.specs.declared.names.Class.{Class}
use Rattle.tm_base.specs.declared.names.Class.TheVariants.{Pinned, Global, Deferrable}
use Rattle.tree_plan.specs.Shape.{Shape}
use Rattle.tree_plan.specs.Paths.{cpu_count_of, level_count_of}
use Rattle.wheel_core.specs.declared.item.Item.{Item}
use Rattle.wheel_core.specs.PlainBase.{FitsWheel}
use Rattle.cpu_bases.specs.CpuBases.{base_of, empty_bases}
use Rattle.play_rules.specs.declared.asks.Arming.{Arming}
use Rattle.play_rules.specs.Rules.{Moved}
use Rattle.play_rules.specs.State.{Cpu, State, new_cpu, start}
use Rattle.play_rules.specs.Hierarchy.{come_online, gone_offline, idled, told_again, woken}
use Rattle.play_rules.specs.Timers.{controlling, drained_on}
use Rattle.play_rules.specs.Play.{at_clock, ended as interrupt_ended, plain_rules}
use Rattle.play_laws.proofs.Answered.Timers.{moves_frame}
use Rattle.play_laws.proofs.Answered.Hotplug.{controller_is}
use Rattle.play_laws.proofs.Shape.Shape.{KeptByRules, MayRunAgain, Stage, moving, nth_class, taking}
use Rattle.play_laws.proofs.Jiffies.Sleepers.{named_is}
use Rattle.play_laws.proofs.Work.Alikes.{alike_homes, controlling_alike, ended_alike, idled_alike}
use Rattle.play_laws.proofs.Work.Alikes.{offline_alike, online_alike, timed_homes, told_alike}
use Rattle.play_laws.proofs.Work.Alikes.{woken_alike}
use Rattle.play_laws.proofs.Work.Comings.{arms_home, cancels_home}
use Rattle.play_laws.proofs.Work.Drains.{drain_paid, out_known}
use Rattle.play_laws.proofs.Work.Homes.{AreHomes, Alike, Home, IsAt, IsHome}
use Rattle.play_laws.proofs.Work.Movings.{moves_homes}

-- every timer may go out
abbrev pub all : ℕ → Bool
all id = true

-- AN ARMING of one of so many timers, with a delay of 32 bits
pub record Fits (timers : ℕ) (a : Arming) : Type 0 where
  pub known : a.timer.0 < timers
  pub short : a.delay < 2 ^ 32

pub again_fits : (timers : ℕ) (item : Item) → item.id < timers → MayRunAgain (Fits timers) item
again_fits timers item known class delay = record { known = known; short = omega arith }

module _ (timers cpus levels end : ℕ) (in_time : end < SCRIPT_TIME_LIMIT) where
  -- each timer has one home at most, at this time
  pub record AtTime (now : ℕ) (s : State) : Type 0 where
    pub at : s.clock ≡ now
    pub homes : AreHomes timers cpus levels all s

  -- AT EACH STAGE; a CPU that was taken, or that timers move to, is in the machine
  abbrev pub Stands : (now : ℕ) → Stage → State → Type 0
  Stands now (taking due c level n tried d) s = AtTime now s × (d < cpus)
  Stands now (moving from to n) s = AtTime now s × (to < cpus)
  Stands now stage s = AtTime now s

  alike : (now : ℕ) (s t : State) → Alike s t → AtTime now s → AtTime now t
  alike now s t same was = record {
    at = same.0 ∙ was.at;
    homes = alike_homes timers cpus levels all s was.homes t same;
  }

  comes : (now next : ℕ) (s : State) → next ≤ end → AtTime now s → AtTime next (at_clock next s)
  comes now next s by was = record {
    at = refl;
    homes = timed_homes timers cpus levels all s was.homes (λ id. refl) next
        (omega (arith, by, in_time));
  }

  -- whoever may go out once a drain is over, all may
  all_again : (may : ℕ → Bool) (s : State) → AreHomes timers cpus levels may s
      → AreHomes timers cpus levels all s
  all_again may s is = record {
    early = is.early;
    count = is.count;
    levels_are = is.levels_are;
    home = is.home;
    each = λ d k low.
        let at = is.each d k low in
        record {
          sound = at.sound;
          clock = at.clock;
          all = λ i e below.
              let item = at.all i e below in
              record { home_is = item.home_is; known = item.known; may_go = λ due. refl };
        };
  }

  drains : (now c : ℕ) (class : Class) (runner : ℕ) (s : State) → c < cpus → AtTime now s
      → AtTime now (drained_on s c class runner).state
  drains now c class runner s low was =
      let paid = drain_paid timers cpus levels all s was.homes c low class runner in
      record { at = was.at; homes = all_again paid.after _ paid.homes }

  known_out : (now c : ℕ) (class : Class) (runner : ℕ) (s : State) → c < cpus → AtTime now s
      → All (MayRunAgain (Fits timers)) (drained_on s c class runner).items
  known_out now c class runner s low was =
      All-weaker (λ (item : Item). item.id < timers) (MayRunAgain (Fits timers)) (again_fits timers)
      (drained_on s c class runner).items
      (out_known timers cpus levels all s was.homes c low class runner)

  arms : (now c : ℕ) (s : State) (a : Arming) → Fits timers a
      → plain_rules.queued s a.timer.0 ≡ None → AtTime now s
      → AtTime now (plain_rules.armed s c a).state
  arms now c s a fits none was = record {
    at = was.at;
    homes = arms_home timers cpus levels all s was.homes c a fits.known fits.short none
        (λ due. refl);
  }

  takes : (now c level d : ℕ) (s : State) → plain_rules.named s c level set.empty ≡ Some d
      → AtTime now s → d < cpus
  takes now c level d s is was =
      let low = (named_is s c level d is).low in
      let count = was.homes.count in
      omega (arith, low, count)

  controls : (now d : ℕ) (s : State) → plain_rules.controller s ≡ Some d → AtTime now s → d < cpus
  controls now d s is was =
      let low = (controller_is s d is).low in
      let count = was.homes.count in
      omega (arith, low, count)

  moves_at : (now from to : ℕ) (s : State) (m : Moved State) → from < cpus
      → plain_rules.moved s from to ≡ Some m → AtTime now s → AtTime now m.state
  moves_at now from to s m low is was = record {
    at = (moves_frame s from to m is).1 ∙ was.at;
    homes = moves_homes timers cpus levels all (λ id. refl) s was.homes from to low m is;
  }

  -- EACH RULE keeps it
  pub rules_keep : KeptByRules plain_rules cpus timers levels end (Fits timers) Stands
  rules_keep = record {
    clock = λ now s was. was.at;
    all_cpus = λ now due s was. was.homes.count;
    all_levels = λ now due c s low was. was.homes.levels_are;
    comes = λ now next s was later by no_later. comes now next s by was;
    passed = λ now due c s low is was. was;
    entered = λ now due c s low is was. was;
    drained = λ now due c k s low few was. drains now c (nth_class k) c s low was;
    known = λ now due c k s low few was. known_out now c (nth_class k) c s low was;
    ran = λ now due c k s a low few fits none was. arms now c s a fits none was;
    drained_all = λ now due c s low was. was;
    looks = λ now due c level s low below is was. was;
    looks_not = λ now due c level s low below is was. was;
    top_looked = λ now due c s low was. was;
    named_none = λ now due c level n tried s low is was. was;
    none_left = λ now due c level tried s low was. was;
    left_alone = λ now due c level n tried d s low is takes was. was;
    taken = λ now due c level n tried d s low is took was. (was, takes now c level d s is was);
    drained_for = λ now due c level n tried d s low was. drains now d Global c s was.1 was.0;
    known_for = λ now due c level n tried d s low was. known_out now d Global c s was.1 was.0;
    ran_for = λ now due c level n tried d s a low fits none was. arms now c s a fits none was;
    let_go = λ now due c level n tried d s low was.
        alike now s (told_again s d) (told_alike s d) was;
    ended = λ now due c s low is was. alike now s (interrupt_ended s c) (ended_alike s c) was;
    interrupted = λ now due s was. was;
    armed = λ now c s a low known short online active none was.
        arms now c s a (record { known = known; short = short }) none was;
    cancelled = λ now c s held a low known online active is was. record {
      at = was.at;
      homes = cancels_home timers cpus levels all s was.homes held.cpu.0 a;
    };
    idled = λ now c s low online active later was. alike now s (idled s c) (idled_alike s c) was;
    woken = λ now c s low online idle was. alike now s (woken s c) (woken_alike s c) was;
    come_online = λ now c s low offline was.
        alike now s (come_online s c) (online_alike s c) was;
    gone_offline = λ now c s low online active none was.
        alike now s (gone_offline s c) (offline_alike s c) was;
    keeps_on = λ now c s low none was. was;
    no_successor = λ now c s low hands none was. was;
    handed_on = λ now c d s low hands is was. alike now s (woken s d) (woken_alike s d) was;
    controlling = λ now from d s low offline is was. (
      alike now s (controlling s d) (controlling_alike s d) was,
      controls now d s is was,
    );
    moved = λ now from to n s m low is was. (moves_at now from to s m low is was.0, was.1);
    moved_none = λ now from to n s low none was. was.0;
    all_moved = λ now from to s low was. was.0;
  }

-- THE START: nothing is queued
empty_home : (timers : ℕ) (home : ℕ → Home) (may : ℕ → Bool) (here : Home) (k : Class)
    → IsHome timers 0 home may here (base_of k empty_bases)
empty_home timers home may here Pinned = record {
  sound = record { distinct = tt; in_wheel = All-nil FitsWheel };
  clock = omega arith;
  all = All-nil (IsAt timers 0 home may here);
}
empty_home timers home may here Global = record {
  sound = record { distinct = tt; in_wheel = All-nil FitsWheel };
  clock = omega arith;
  all = All-nil (IsAt timers 0 home may here);
}
empty_home timers home may here Deferrable = record {
  sound = record { distinct = tt; in_wheel = All-nil FitsWheel };
  clock = omega arith;
  all = All-nil (IsAt timers 0 home may here);
}

pub new_at : (n d : ℕ) → slice_index_or (replicate n new_cpu) d new_cpu ≡ new_cpu
new_at zero d = refl
new_at (suc n) zero = refl
new_at (suc n) (suc d) = new_at n d

pub start_homes : (tree : Shape) (timers : ℕ)
    → AreHomes timers (cpu_count_of tree) (level_count_of tree) all (at_clock 0 (start tree timers))
start_homes tree timers = record {
  early = omega arith;
  count = length-replicate (cpu_count_of tree) new_cpu;
  levels_are = refl;
  home = λ id. (0, Pinned);
  each = λ d k low.
      subst (λ (x : Cpu). IsHome timers 0 (λ id. (0, Pinned)) all (d, k) (base_of k x.bases))
      (sym (new_at (cpu_count_of tree) d))
      (empty_home timers (λ id. (0, Pinned)) all (d, k) k);
}
