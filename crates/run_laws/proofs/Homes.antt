-- in a core in a run each timer has one home at most
use Rattle.std.proofs.Common.{◌≡◌, ℕ, ◌<◌, Option, Some, None, refl, sym, ap, ◌∙◌, subst}
use Rattle.std.proofs.Common.{arith, get_or, length}
use Rattle.std.specs.Prelude.{All, option_map}
use Rattle.std.proofs.lemmas.Option.{none-some, same_Some, slice_get-get_or}
use Rattle.tm_base.specs.declared.limits.TheConstants.{SCRIPT_TIME_LIMIT}
use Rattle.tm_base.specs.declared.names.Class.{Class}
use Rattle.tm_base.specs.declared.names.Class.TheVariants.{Pinned}
use Rattle.tree_plan.specs.Paths.{level_count_of}
use Rattle.wheel_core.specs.declared.item.Item.{Item}
use Rattle.wheel_core.specs.PlainBase.{item_of}
use Rattle.wheel_core.proofs.Ids.{item_there}
use Rattle.cpu_bases.specs.CpuBases.{IsConsistent, base_of, class_in}
use Rattle.cpu_bases.proofs.Queued.{queued_once}
use Rattle.play_rules.specs.declared.asks.Queued.{Queued}
use Rattle.play_rules.specs.Timers.{where_queued}
use Rattle.play_laws.proofs.Answered.Timers.{queued_low}
use Rattle.play_laws.proofs.Work.Homes.{AreHomes, Home, IsAt, IsHome}
use Rattle.play_laws.proofs.Work.Whole.{all}
use Rattle.core_world.specs.Lawful.{IsLawful}
use Rattle.core_world.specs.World.{World, cpu_of}
use Rattle.step_play.specs.Rules.Seen.{state_of}
use Rattle.step_play.specs.Rules.StepRules.{step_rules}
use Rattle.step_play.proofs.Held.{bases_seen, held_class, nowhere}
use Rattle.step_play.proofs.Queues.Sights.{count_seen}

-- TIMERS of a world: each is queued on one CPU at most, bases and journals agree, and each timer is
-- one that there is
pub record HasTimers (w : World) : Type 0 where
  pub one_cpu : (c d timer : ℕ) (class other : Class)
      → class_in timer (cpu_of w c).bases ≡ Some class
      → class_in timer (cpu_of w d).bases ≡ Some other → c ≡ d
  pub consistent : (c : ℕ) → IsConsistent (cpu_of w c).bases
  pub known : (c : ℕ) (class : Class)
      → All (λ item. item.id < w.timers) (base_of class (cpu_of w c).bases).items

pub lawful_timers : (w : World) → IsLawful w → HasTimers w
lawful_timers w lawful = record {
  one_cpu = lawful.timers.one_cpu;
  consistent = lawful.timers.consistent;
  known = lawful.times.known;
}

-- whatever the time is
pub timers_at : (next : ℕ) (w : World) → HasTimers w → HasTimers (step_rules.at_clock next w)
timers_at next w has = record {
  one_cpu = has.one_cpu;
  consistent = has.consistent;
  known = has.known;
}

-- the home of a timer that is queued
abbrev home_by : Option Queued → Home
home_by None = (0, Pinned)
home_by (Some held) = (held.cpu.0, held.class)

module _ (w : World) (has : HasTimers w) (early : w.clock < SCRIPT_TIME_LIMIT) where
  abbrev home : ℕ → Home
  home id = home_by (where_queued (state_of w) id)

  -- a timer that is queued has its home there
  home_as : (id d : ℕ) (k : Class) → class_in id (cpu_of w d).bases ≡ Some k → (o : Option Queued)
      → where_queued (state_of w) id ≡ o → home_by o ≡ (d, k)
  home_as id d k here None none = absurd (none-some k (sym (nowhere w id none d) ∙ here))
  home_as id d k here (Some held) is =
      let low = queued_low (state_of w) id held is in
      let count = count_seen w in
      let there = held_class w id held is (omega (arith, low, count)) in
      let cpu : held.cpu.0 ≡ d = has.one_cpu held.cpu.0 d id held.class k there here in
      let class : held.class ≡ k = same_Some held.class k
      (sym (subst (λ c. class_in id (cpu_of w c).bases ≡ Some held.class) cpu there) ∙ here) in
      λ i. (cpu i, class i)

  at_home : (d : ℕ) (k : Class) (i : ℕ) (e : Item) → i < length (base_of k (cpu_of w d).bases).items
      → IsAt w.timers w.clock home all (d, k) (get_or (base_of k (cpu_of w d).bases).items i e)
  at_home d k i e below =
      let items = (base_of k (cpu_of w d).bases).items in
      let item = get_or items i e in
      let consistent = has.consistent d in
      let there : item_of item.id items ≡ Some item =
      item_there items i item (consistent.fits k).sound.distinct
      (slice_get-get_or items i e below) in
      record {
        home_is =
            home_as item.id d k
            (ap (option_map (λ found. found.0))
            (queued_once (cpu_of w d).bases item.id k item consistent there))
            (where_queued (state_of w) item.id) refl;
        known = has.known d k i e below;
        may_go = λ due. refl;
      }

  base_home : (d : ℕ) (k : Class)
      → IsHome w.timers w.clock home all (d, k) (base_of k (cpu_of w d).bases)
  base_home d k =
      let fits = (has.consistent d).fits k in
      let soon = fits.clock in
      record {
        sound = fits.sound;
        clock = omega (arith, soon);
        all = at_home d k;
      }

  pub are_homes : AreHomes w.timers (length w.cpus) (level_count_of w.tree) all (state_of w)
  are_homes = record {
    early = early;
    count = count_seen w;
    levels_are = refl;
    home = home;
    each = λ d k low.
        subst (λ b. IsHome w.timers w.clock home all (d, k) (base_of k b))
        (sym (bases_seen w d low)) (base_home d k);
  }
