-- what changes no base keeps each timer's home
use Rattle.std.proofs.Common.{◌≡◌, ℕ, ◌<◌, Bool, true, false, refl, sym, ap, ◌∙◌, subst, arith}
use Rattle.std.proofs.Common.{inl, inr}
use Rattle.std.specs.Prelude.{if◌then◌else◌, min}
use Rattle.std.proofs.lemmas.Bool.{cases_lt}
use Rattle.std.proofs.lemmas.List.{length-set, set_past}
use Rattle.tm_base.specs.declared.names.TheConstants.{NEVER}
use Rattle.tm_base.specs.declared.limits.TheConstants.{SCRIPT_TIME_LIMIT}
use Rattle.tree_plan.specs.Paths.{level_count_of}
use Rattle.cpu_bases.specs.CpuBases.{base_of}
use Rattle.play_rules.specs.State.{Cpu, State, cpu_at, cpu_count, has_group, with_cpu}
use Rattle.play_rules.specs.Hierarchy.{come_online, duty, gone_offline, idled, next_of, pin_of}
use Rattle.play_rules.specs.Hierarchy.{programmed, reevaluated, rested, told_again}
use Rattle.play_rules.specs.Hierarchy.{with_migrators, woken, woken_migrator}
use Rattle.play_rules.specs.Timers.{bases_at, controlling}
use Rattle.play_rules.specs.Play.{at_clock, ended as interrupt_ended}
use Rattle.play_laws.proofs.Answered.States.{written_alike}
use Rattle.play_laws.proofs.Work.Homes.{AreHomes, Alike, IsHome}

pub alike_then : (s t u : State) → Alike s t → Alike t u → Alike s u
alike_then s t u (clock, tree, count, bases) (clocks, trees, counts, more) =
    (clocks ∙ clock, trees ∙ tree, counts ∙ count, λ d. more d ∙ bases d)

-- a CPU is written that keeps its bases
pub one_alike : (s : State) (c : ℕ) (x : Cpu) → x.bases ≡ bases_at s c → Alike s (with_cpu s c x)
one_alike s c x same =
    elim (cases_lt c (cpu_count s)) [
      | inl low ↦ (
        refl,
        refl,
        length-set s.cpus c x,
        λ d. written_alike s c x low (λ (y : Cpu). y.bases) same d,
      )
      | inr beyond ↦ (
        refl,
        refl,
        length-set s.cpus c x,
        λ d. ap (λ cpus. bases_at (record s { cpus = cpus }) d) (set_past s.cpus c x beyond),
      )
    ]

-- REST AND WAKE
pub woken_alike : (s : State) (c : ℕ) → Alike s (woken s c)
woken_alike s c =
    one_alike (with_migrators s (woken_migrator s c)) c
    (record (cpu_at s c) { idle = false; wakeup = NEVER; told = NEVER }) refl

rested_alike : (s : State) (c n : ℕ) → Alike s (rested s c n)
rested_alike s c n =
    one_alike s c (record (cpu_at s c) { idle = true; told = if has_group s c then n else NEVER })
    refl

programmed_alike : (s : State) (c : ℕ) → Alike s (programmed s c)
programmed_alike s c =
    one_alike s c (record (cpu_at s c) { wakeup = min (pin_of s c) (duty s c) }) refl

pub told_alike : (s : State) (c : ℕ) → Alike s (told_again s c)
told_alike s c =
    one_alike s c (record (cpu_at s c) { told = if has_group s c then next_of s c else NEVER }) refl

pub idled_alike : (s : State) (c : ℕ) → Alike s (idled s c)
idled_alike s c =
    alike_then s (rested s c (next_of s c)) (idled s c) (rested_alike s c (next_of s c))
    (programmed_alike (rested s c (next_of s c)) c)

ended_by : (s : State) (c : ℕ) (idle : Bool) → Alike s (if idle then reevaluated s c else s)
ended_by s c true =
    alike_then s (told_again s c) (reevaluated s c) (told_alike s c)
    (programmed_alike (told_again s c) c)
ended_by s c false = (refl, refl, refl, λ d. refl)

pub ended_alike : (s : State) (c : ℕ) → Alike s (interrupt_ended s c)
ended_alike s c = ended_by s c (cpu_at s c).idle

controlling_by : (s : State) (c : ℕ) (idle : Bool) → Alike s (if idle then woken s c else s)
controlling_by s c true = woken_alike s c
controlling_by s c false = (refl, refl, refl, λ d. refl)

pub controlling_alike : (s : State) (c : ℕ) → Alike s (controlling s c)
controlling_alike s c = controlling_by s c (cpu_at s c).idle

-- HOTPLUG
pub offline_alike : (s : State) (c : ℕ) → Alike s (gone_offline s c)
offline_alike s c =
    let x : Cpu = record (cpu_at s c) { online = false; wakeup = NEVER } in
    alike_then s (with_cpu s c x) (gone_offline s c) (one_alike s c x refl)
    (rested_alike (with_cpu s c x) c NEVER)

pub online_alike : (s : State) (c : ℕ) → Alike s (come_online s c)
online_alike s c =
    let x : Cpu = record (cpu_at s c) { online = true } in
    alike_then s (with_cpu s c x) (come_online s c) (one_alike s c x refl)
    (woken_alike (with_cpu s c x) c)

-- each timer still has its home
module _ (timers cpus levels : ℕ) (may : ℕ → Bool) (s : State)
    (is : AreHomes timers cpus levels may s) where
  pub alike_homes : (t : State) → Alike s t → AreHomes timers cpus levels may t
  alike_homes t (clock, tree, count, bases) =
      let early = is.early in
      record {
        early = omega (arith, early, clock);
        count = count ∙ is.count;
        levels_are = subst (λ x. level_count_of x ≡ levels) (sym tree) is.levels_are;
        home = is.home;
        each = λ d k low.
            subst (λ n. IsHome timers n is.home may (d, k) (base_of k (bases_at t d))) (sym clock)
            (subst (λ b. IsHome timers s.clock is.home may (d, k) (base_of k b)) (sym (bases d))
            (is.each d k low));
      }

  -- at another time, where all timers may go out
  pub timed_homes : (always : (id : ℕ) → may id ≡ true) (next : ℕ) → next < SCRIPT_TIME_LIMIT
      → AreHomes timers cpus levels may (at_clock next s)
  timed_homes always next early = record {
    early = early;
    count = is.count;
    levels_are = is.levels_are;
    home = is.home;
    each = λ d k low.
        let at = is.each d k low in
        record {
          sound = at.sound;
          clock = at.clock;
          all = λ i e below.
              let item = at.all i e below in
              record { home_is = item.home_is; known = item.known; may_go = λ due. always _ };
        };
  }
