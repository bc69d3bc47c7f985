-- timers are armed, cancelled and moved, and each still has one home at most
use Rattle.std.proofs.Common.{◌≡◌, ℕ, ◌+◌, ◌^◌, ◌<◌, ◌≤◌, Bool, true, Option, Some, None}
use Rattle.std.proofs.Common.{◌-◌, arith, inl, inr}
use Rattle.std.proofs.lemmas.Bool.{cases_lt}
use Rattle.tm_base.specs.declared.names.Class.{Class}
use Rattle.tm_base.specs.declared.names.CpuId.{CpuId}
use Rattle.wheel_core.specs.declared.item.Item.{Item}
use Rattle.wheel_core.specs.WheelExpiry.{cutoff, greatest_timeout, wheel_expiry_of}
use Rattle.wheel_core.specs.PlainBase.{added, forwarded, item_of, removed}
use Rattle.wheel_core.proofs.Levels.{wheel_keeps_time}
use Rattle.wheel_core.proofs.Plain.{clock-forwarded_le}
use Rattle.cpu_bases.specs.declared.entry.Act.{Act}
use Rattle.cpu_bases.specs.declared.entry.Act.TheVariants as acts
use Rattle.cpu_bases.specs.CpuBases.{after_cancel, base_of}
use Rattle.cpu_bases.specs.CpuBases.{found_in, item_queued, queued}
use Rattle.cpu_bases.proofs.Classes.{each_with}
use Rattle.cpu_bases.proofs.Consistent.{base_none}
use Rattle.play_rules.specs.declared.asks.Arming.{Arming}
use Rattle.play_rules.specs.declared.asks.Cancelling.{Cancelling}
use Rattle.play_rules.specs.State.{State, with_bases}
use Rattle.play_rules.specs.Timers.{armed_on, bases_at, cancelled_on}
use Rattle.play_rules.specs.Timers.{where_queued}
use Rattle.play_laws.proofs.Answered.Bases.{changed_kept}
use Rattle.play_laws.proofs.Jiffies.Machines.{queued_nowhere}
use Rattle.play_laws.proofs.Work.Homes.{AreHomes, IsHome, beyond_homes, home_added}
use Rattle.play_laws.proofs.Work.Homes.{home_kept, home_removed, rehomed}
use Rattle.play_laws.proofs.Work.Homes.{rehomed_itself, same_homes, written_homes}

-- A TIMER COMES where it is queued nowhere
module _ (timers cpus levels : ℕ) (may : ℕ → Bool) (s : State)
    (is : AreHomes timers cpus levels may s) where
  abbrev pub IsNowhere : ℕ → Type 0
  IsNowhere id =
      (d : ℕ) (k : Class) → d < cpus → item_of id (base_of k (bases_at s d)).items ≡ None

  pub comes_home : (c : ℕ) (act : Act) (line time : ℕ) (class : Class)
      (id expires job arg : ℕ) (by : CpuId)
      → time ≤ s.clock + 1 → expires < 2 ^ 47 → id < timers → IsNowhere id
      → ((item_queued time class id expires job arg (bases_at s c)).wheel ≤ s.clock
      → may id ≡ true)
      → AreHomes timers cpus levels may
      (with_bases s c (queued act line s.clock time class id expires job arg by (bases_at s c)))
  comes_home c act line time class id expires job arg by soon fits known nowhere due =
      elim (cases_lt c cpus) [
        | inr beyond ↦
            beyond_homes timers cpus levels may s is c
            (queued act line s.clock time class id expires job arg by (bases_at s c)) beyond
        | inl low ↦
            let home = rehomed is.home id (c, class) in
            let still = λ (d : ℕ) (k : Class) (below : d < cpus)
            (at : IsHome timers s.clock is.home may (d, k) (base_of k (bases_at s d))).
            home_kept timers s.clock is.home may (d, k) (c, class) id (base_of k (bases_at s d))
            (nowhere d k below) at in
            written_homes timers cpus levels may s is c
            (queued act line s.clock time class id expires job arg by (bases_at s c)) low home may
            (each_with (λ k base. IsHome timers s.clock home may (c, k) base) class
            (added id expires job arg (forwarded time (base_of class (bases_at s c))))
            (bases_at s c).bases
            (home_added timers s.clock home may (c, class) time id expires job arg
            (base_of class (bases_at s c)) is.early soon fits (nowhere c class low)
            (record {
              home_is = rehomed_itself is.home id (c, class);
              known = known;
              may_go = due;
            })
            (still c class low (is.each c class low)))
            (λ k other. still c k low (is.each c k low)))
            (λ d k below other at. still d k below at)
      ]

  -- ARMED, where the timer may go out or the wheel expiry is past now
  nowhere_in : (id : ℕ) → where_queued s id ≡ None → IsNowhere id
  nowhere_in id none d k below =
      let count = is.count in
      base_none (bases_at s d) id (queued_nowhere s id none d (omega (arith, below, count))) k

  pub arms_home : (c : ℕ) (a : Arming) → a.timer.0 < timers → a.delay < 2 ^ 32
      → where_queued s a.timer.0 ≡ None
      → ((armed_on s c a).wheel ≤ s.clock → may a.timer.0 ≡ true)
      → AreHomes timers cpus levels may (armed_on s c a).state
  arms_home c a known short none due =
      let early = is.early in
      comes_home c acts.Armed a.line s.clock a.class a.timer.0 (s.clock + a.delay) a.job a.arg
      (record { 0 = c }) (omega arith) (omega (arith, short, early)) known
      (nowhere_in a.timer.0 none) due

  -- CANCELLED
  cancel_home : (c line : ℕ) (by : CpuId) (o : Option (Class × Item))
      → AreHomes timers cpus levels may
      (with_bases s c (after_cancel o s.clock line by (bases_at s c)))
  cancel_home c line by None =
      same_homes timers cpus levels may s is c (bases_at s c) (λ k home at. at)
  cancel_home c line by (Some (class, item)) =
      same_homes timers cpus levels may s is c
      (after_cancel (Some (class, item)) s.clock line by (bases_at s c))
      (λ k home at.
      changed_kept (IsHome timers s.clock home may (c, k)) k class
      (removed item.id (base_of class (bases_at s c))) (bases_at s c)
      (home_removed timers s.clock home may (c, k) item.id (base_of class (bases_at s c))) at)

  pub cancels_home : (c : ℕ) (a : Cancelling) → AreHomes timers cpus levels may (cancelled_on s c a)
  cancels_home c a = cancel_home c a.line a.by (found_in a.timer.0 (bases_at s c))

-- with an end that isn't past the greatest timeout what is armed comes past now
pub comes_later : (now expires clock : ℕ) → now ≤ greatest_timeout → now ≤ expires
    → expires < 2 ^ 47 → clock < 2 ^ 47 → now < wheel_expiry_of expires clock
comes_later now expires clock soon later fits clock_fits =
    let keeps = wheel_keeps_time expires clock fits clock_fits in
    elim (cases_lt expires clock) [
      | inl past ↦ let by = keeps.not_before_clock in omega (arith, by, past, later)
      | inr ahead ↦
          elim (cases_lt (expires - clock) cutoff) [
            | inl near ↦ let by = keeps.never_early ahead near in omega (arith, by, later)
            | inr far ↦
                let by = keeps.at_cutoff (omega (arith, far, ahead)) in omega (arith, by, soon)
          ]
    ]

pub armed_later : (timers cpus levels : ℕ) (may : ℕ → Bool) (s : State)
    (is : AreHomes timers cpus levels may s) (c : ℕ) (a : Arming) → c < cpus
    → s.clock ≤ greatest_timeout → a.delay < 2 ^ 32 → s.clock < (armed_on s c a).wheel
armed_later timers cpus levels may s is c a low soon short =
    let base = base_of a.class (bases_at s c) in
    let early = is.early in
    let before = (is.each c a.class low).clock in
    let after = clock-forwarded_le s.clock base in
    comes_later s.clock (s.clock + a.delay) (forwarded s.clock base).clock soon (omega arith)
    (omega (arith, short, early)) (omega (arith, before, after, early))
