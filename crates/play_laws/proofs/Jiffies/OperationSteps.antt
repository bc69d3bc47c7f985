-- each operation keeps what holds between the interrupts
use Rattle.std.proofs.Common.{◌≡◌, ℕ, ◌+◌, ◌<◌, List, Bool, true, false, Option, Some, None, refl}
use Rattle.std.proofs.Common.{sym, ap, ◌∙◌, subst, arith, inl, inr, min}
use Rattle.std.specs.Prelude.{◌&&◌, ◌==◌, is_none, not, if◌then◌else◌}
use Rattle.std.proofs.lemmas.Bool.{and_from, and_parts, both_ways, cases_Bool, cases_eq, eq-eqb}
use Rattle.std.proofs.lemmas.Bool.{false≢true}
use Rattle.std.proofs.lemmas.List.{length-set}
use Rattle.std.proofs.lemmas.Option.{none-some}
use Rattle.tm_base.specs.declared.names.TheConstants.{NEVER}
use Rattle.tm_base.specs.declared.names.Class.{Class}
use Rattle.tm_base.specs.declared.names.CpuId.{CpuId}
use Rattle.tm_base.specs.declared.faults.OpFault.TheVariants as faults
use Rattle.cpu_bases.specs.CpuBases.{CpuBases, NotAhead, base_of, cancelled}
use Rattle.play_rules.specs.declared.asks.Arming.{Arming}
use Rattle.play_rules.specs.declared.asks.Cancelling.{Cancelling}
use Rattle.play_rules.specs.declared.asks.Queued.{Queued}
use Rattle.play_rules.specs.State.{Cpu, State, cpu_at, cpu_count, has_group, with_bases, with_cpu}
use Rattle.play_rules.specs.Hierarchy.{come_online, duty, gone_offline, idled, is_placed, next_of}
use Rattle.play_rules.specs.Hierarchy.{pin_of, rested, rested_migrator, resting, with_migrators}
use Rattle.play_rules.specs.Hierarchy.{woken, woken_migrator}
use Rattle.play_rules.specs.Operations.{last_online}
use Rattle.play_rules.specs.Timers.{armed_bases, armed_on, bases_at, cancelled_on, where_queued}
use Rattle.play_rules.specs.Play.{plain_rules, successor}
use Rattle.play_laws.proofs.Answered.Bases.{cancelled_kept}
use Rattle.play_laws.proofs.Answered.Invariant.{put_other}
use Rattle.play_laws.proofs.Answered.Ranges.{found_there}
use Rattle.play_laws.proofs.Answered.States.{here_is, written}
use Rattle.play_laws.proofs.Answered.Timers.{queued_low}
use Rattle.play_laws.proofs.Jiffies.Course.{IsArmingIn}
use Rattle.play_laws.proofs.Jiffies.Inside.{IsEmpty, SomeOnline, empty_waking, some_online_with}
use Rattle.play_laws.proofs.Jiffies.InterruptSteps.{Between, Quiet, Rested}
use Rattle.play_laws.proofs.Jiffies.Machines.{Holds, arm_holds, cancel_holds, kept_bases, queued_nowhere}
use Rattle.play_laws.proofs.Jiffies.Waking.{From, Waking, armed_waking, cancelled_waking}

-- a fact of a CPU that is said of its bases, and of whether it is online
abbrev pub IsOfBases : ((now : ℕ) → ℕ → Cpu → Type 0) → Type 0
IsOfBases F =
    (now d : ℕ) (x y : Cpu) → y.online ≡ x.online → y.bases ≡ x.bases → F now d x → F now d y

-- a CPU went offline, and its timers haven't moved
pub record Leaves (c now d : ℕ) (x : Cpu) : Type 0 where
  pub waking : x.online ≡ true → Waking (now + 1) x.bases
  pub away : x.online ≡ false → (d ≡ c → ⊥) → IsEmpty x.bases

pub rested_of_bases : IsOfBases Rested
rested_of_bases now d x y online bases is = record {
  waking = λ on. subst (λ b. Waking (now + 1) b) (sym bases) (is.waking (sym online ∙ on));
  away = λ off. subst IsEmpty (sym bases) (is.away (sym online ∙ off));
}

pub leaves_of_bases : (c : ℕ) → IsOfBases (Leaves c)
leaves_of_bases c now d x y online bases is = record {
  waking = λ on. subst (λ b. Waking (now + 1) b) (sym bases) (is.waking (sym online ∙ on));
  away = λ off other. subst IsEmpty (sym bases) (is.away (sym online ∙ off) other);
}

module _ (cpus levels now : ℕ) where
  -- CPU c is offline, and timers may still be queued on it
  pub record Leaving (c : ℕ) (s : State) : Type 0 where
    pub quiet : Quiet cpus levels now (Leaves c) s
    pub gone : (cpu_at s c).online ≡ false

  -- WHAT READS NEITHER bases nor who is online may be written
  module _ (F : (now : ℕ) → ℕ → Cpu → Type 0) (of_bases : IsOfBases F) (s : State)
      (quiet : Quiet cpus levels now F s) where
    pub remigrates : (migrators : List (Option ℕ))
        → Quiet cpus levels now F (record s { migrators = migrators })
    remigrates migrators = record {
      at = quiet.at;
      levels_are = quiet.levels_are;
      some_online = record {
        number = quiet.some_online.number;
        low = quiet.some_online.low;
        placed = quiet.some_online.placed;
        online = quiet.some_online.online;
      };
      holds = record {
        owner = quiet.holds.owner;
        early = quiet.holds.early;
        count = quiet.holds.count;
        each = quiet.holds.each;
      };
    }

    module _ (c : ℕ) (low : c < cpus) where
      pub here : c < cpu_count s
      here = let count = quiet.holds.count in omega (arith, low, count)

      pub rewrites : (x : Cpu) → x.online ≡ (cpu_at s c).online → x.bases ≡ (cpu_at s c).bases
          → Quiet cpus levels now F (with_cpu s c x)
      rewrites x online bases = record {
        at = quiet.at;
        levels_are = quiet.levels_are;
        some_online = some_online_with cpus s c x here online quiet.some_online;
        holds =
            kept_bases cpus (F s.clock) (F s.clock) s quiet.holds c low x bases
            (of_bases s.clock c (cpu_at s c) x online bases (quiet.holds.each c low).is)
            (λ d below other was. was);
      }

  module _ (F : (now : ℕ) → ℕ → Cpu → Type 0) (of_bases : IsOfBases F) (c : ℕ)
      (low : c < cpus) where
    pub wakes : (s : State) → Quiet cpus levels now F s → Quiet cpus levels now F (woken s c)
    wakes s quiet =
        let t = with_migrators s (woken_migrator s c) in
        rewrites F of_bases t (remigrates F of_bases s quiet t.migrators) c low
        (record (cpu_at s c) { idle = false; wakeup = NEVER; told = NEVER }) refl refl

    rests : (s : State) (n : ℕ) → Quiet cpus levels now F s → Quiet cpus levels now F (rested s c n)
    rests s n quiet =
        let t = resting s c n in
        let u = with_migrators t (rested_migrator t c) in
        remigrates F of_bases t
        (rewrites F of_bases s quiet c low
        (record (cpu_at s c) { idle = true; told = if has_group s c then n else NEVER }) refl
        refl)
        u.migrators

    pub idles : (s : State) → Quiet cpus levels now F s → Quiet cpus levels now F (idled s c)
    idles s quiet =
        let t = rested s c (next_of s c) in
        rewrites F of_bases t (rests s (next_of s c) quiet) c low
        (record (cpu_at t c) { wakeup = min (pin_of t c) (duty t c) }) refl refl

  -- OPERATIONS of an active CPU
  module _ (s : State) (quiet : Between cpus levels now s) where
    near : (c : ℕ) → c < cpus → (k : Class) → NotAhead s.clock (base_of k (bases_at s c))
    near c low k = ((quiet.holds.each c low).cpu.items k).near

    based : (c : ℕ) (b : CpuBases) → c < cpus → Holds cpus (Rested s.clock) (with_bases s c b)
        → Between cpus levels now (with_bases s c b)
    based c b low holds = record {
      at = quiet.at;
      levels_are = quiet.levels_are;
      some_online = some_online_with cpus s c (record (cpu_at s c) { bases = b })
          (here Rested rested_of_bases s quiet c low) refl quiet.some_online;
      holds = holds;
    }

    -- from a jiffy on is from that before on
    sooner : (b : CpuBases) → Waking (s.clock + 1) b → Waking s.clock b
    sooner b waking = record {
      pinned = λ k d low. (let at = waking.pinned k d low in omega (arith, at));
      global = λ k d low. (let at = waking.global k d low in omega (arith, at));
    }

    pub arms : (c : ℕ) (a : Arming) → c < cpus → IsArmingIn a → (cpu_at s c).online ≡ true
        → where_queued s a.timer.0 ≡ None
        → Between cpus levels now (armed_on s c a).state
    arms c a low known online none =
        let is = (quiet.holds.each c low).is in
        let early = quiet.holds.early in
        let short = known.delay in
        let count = quiet.holds.count in
        let expires = s.clock + a.delay in
        let by : CpuId = record { 0 = c } in
        based c (armed_bases s c a) low
        (arm_holds cpus (Rested s.clock) (Rested s.clock) s quiet.holds c low a known
        (λ d below. queued_nowhere s a.timer.0 none d (omega (arith, below, count)))
        (record {
          waking =
              λ on. armed_waking s.clock early a.timer.0 expires a.job a.arg a.line (s.clock + 1) by
              (bases_at s c)
              (omega (arith, early, short)) (omega arith) (omega arith) (near c low)
              (sooner (bases_at s c) (is.waking online)) a.class (is.waking on);
          away = λ off. absurd (both_ways (cpu_at s c).online off online);
        })
        (λ d below other was. was))

    pub cancels : (held : Queued) (a : Cancelling) → where_queued s a.timer.0 ≡ Some held
        → Between cpus levels now (cancelled_on s held.cpu.0 a)
    cancels held a is_held =
        let c = held.cpu.0 in
        let count = quiet.holds.count in
        let in_machine = queued_low s a.timer.0 held is_held in
        let low : c < cpus = omega (arith, count, in_machine) in
        let is = (quiet.holds.each c low).is in
        let b = cancelled s.clock a.timer.0 a.line a.by (bases_at s c) in
        based c b low
        (cancel_holds cpus (Rested s.clock) (Rested s.clock) s quiet.holds c low a
        (record {
          waking =
              λ on. cancelled_waking (From (s.clock + 1)) s.clock (bases_at s c)
              (near c low) a.timer.0 a.line a.by (is.waking on);
          away = λ off k. (cancelled_kept (λ item. ⊥) s.clock k a.by a.timer.0 a.line (bases_at s c)
              (record { all = is.away off k; near = near c low k })).all;
        })
        (λ d below other was. was))

  -- ONLINE: nothing was queued on it
  pub comes_online : (c : ℕ) (s : State) → c < cpus → (cpu_at s c).online ≡ false
      → Between cpus levels now s
      → Between cpus levels now (come_online s c)
  comes_online c s low off quiet =
      let is = (quiet.holds.each c low).is in
      let x : Cpu = record (cpu_at s c) { online = true } in
      let at_home = here Rested rested_of_bases s quiet c low in
      wakes Rested rested_of_bases c low (with_cpu s c x)
      (record {
        at = quiet.at;
        levels_are = quiet.levels_are;
        some_online = record {
          number = quiet.some_online.number;
          low = quiet.some_online.low;
          placed = quiet.some_online.placed;
          online = (elim (cases_eq quiet.some_online.number c) [
            | inl same ↦
                ap (λ k. (cpu_at (with_cpu s c x) k).online) same
                ∙ ap (λ (y : Cpu). y.online) (here_is s c x at_home)
            | inr other ↦
                ap (λ f. (f quiet.some_online.number).online) (written s c x at_home)
                ∙ ap (λ (y : Cpu). y.online)
                (put_other (cpu_at s) c x quiet.some_online.number other)
                ∙ quiet.some_online.online
          ]);
        };
        holds =
            kept_bases cpus (Rested s.clock) (Rested s.clock) s quiet.holds c low x refl
            (record {
              waking = λ on. empty_waking (s.clock + 1) (bases_at s c) (is.away off);
              away = λ no. absurd (false≢true (sym no));
            })
            (λ d below other was. was);
      })

  -- OFFLINE: another placed CPU stays online
  none_some : {X : Type 0} (o : Option X) → is_none o ≡ false → (x : X) × (o ≡ Some x)
  none_some None is = absurd (false≢true (sym is))
  none_some (Some x) is = (x, refl)

  not_last : (b : Bool) → (if b then Some faults.LastOnline else None) ≡ None → b ≡ false
  not_last true none = absurd (none-some faults.LastOnline (sym none))
  not_last false none = refl

  module _ (s : State) (quiet : Between cpus levels now s) (c : ℕ) (low : c < cpus)
      (others : last_online plain_rules s c ≡ None) where
    abbrev gone_cpu : Cpu
    gone_cpu = record (cpu_at s c) { online = false; wakeup = NEVER }

    still : (d : ℕ) → (d ≡ c → ⊥) → (cpu_at s d).online ≡ true
        → (cpu_at (with_cpu s c gone_cpu) d).online ≡ true
    still d other on =
        ap (λ f. (f d).online) (written s c gone_cpu (here Rested rested_of_bases s quiet c low))
        ∙ ap (λ (y : Cpu). y.online) (put_other (cpu_at s) c gone_cpu d other) ∙ on

    other_online : is_placed s c ≡ true → SomeOnline cpus (with_cpu s c gone_cpu)
    other_online placed =
        let neither = not_last (is_placed s c && is_none (successor s c)) others in
        let there = none_some (successor s c)
        (elim (cases_Bool (is_none (successor s c))) [
          | inl none ↦
              absurd
              (both_ways (is_placed s c && is_none (successor s c)) neither
              (and_from (is_placed s c) (is_none (successor s c)) placed none))
          | inr some ↦ some
        ]) in
        let d = there.0 in
        let count = quiet.holds.count in
        let found =
        found_there (λ e. not (e == c) && (is_placed s e && (cpu_at s e).online)) 0
        (cpu_count s) d there.1 in
        let below = found.below in
        let both = and_parts (not (d == c)) (is_placed s d && (cpu_at s d).online) found.passes in
        let there_on = and_parts (is_placed s d) (cpu_at s d).online both.1 in
        record {
          number = d;
          low = omega (arith, below, count);
          placed = there_on.0;
          online =
              still d (λ same. both_ways (not (d == c)) (ap not (eq-eqb d c same)) both.0)
              there_on.1;
        }

    stays_online : SomeOnline cpus (with_cpu s c gone_cpu)
    stays_online =
        let some = quiet.some_online in
        elim (cases_eq some.number c) [
          | inl same ↦ other_online (ap (is_placed s) (sym same) ∙ some.placed)
          | inr other ↦
              record {
                number = some.number;
                low = some.low;
                placed = some.placed;
                online = still some.number other some.online;
              }
        ]

    leaves : Quiet cpus levels now (Leaves c) (with_cpu s c gone_cpu)
    leaves = record {
      at = quiet.at;
      levels_are = quiet.levels_are;
      some_online = stays_online;
      holds =
          kept_bases cpus (Rested s.clock) (Leaves c s.clock) s quiet.holds c low gone_cpu refl
          (record
          { waking = λ on. absurd (false≢true on); away = λ off other. absurd (other refl) })
          (λ d below other was. record { waking = was.waking; away = λ off apart. was.away off });
    }

    pub goes_offline : Leaving c (gone_offline s c)
    goes_offline =
        let t = with_cpu s c gone_cpu in
        let at_home = here Rested rested_of_bases s quiet c low in
        let in_t : c < cpu_count t =
        (let many = length-set s.cpus c gone_cpu in omega (arith, at_home, many)) in
        record {
          quiet = rests (Leaves c) (leaves_of_bases c) c low t NEVER leaves;
          gone =
              ap (λ (y : Cpu). y.online)
              (here_is t c
              (record (cpu_at t c)
              { idle = true; told = if has_group t c then NEVER else NEVER }) in_t)
              ∙ ap (λ (y : Cpu). y.online) (here_is s c gone_cpu at_home);
        }
