-- the timers of an offline CPU move to an online one
use Rattle.std.proofs.Common.{◌≡◌, ℕ, suc, ◌^◌, ◌<◌, ◌≤◌, Bool, true, false}
use Rattle.std.proofs.Common.{Option, Some, None, refl, sym, ap, ◌∙◌, subst, arith, inl, inr}
use Rattle.std.specs.Prelude.{◌&&◌, find, not, option_map, if◌then◌else◌}
use Rattle.std.proofs.lemmas.Bool.{and_from, and_parts, both_ways, cases_eq}
use Rattle.std.proofs.lemmas.List.{length-set}
use Rattle.std.proofs.lemmas.Option.{none-some, same_Some}
use Rattle.tm_base.specs.declared.names.Class.{Class}
use Rattle.wheel_core.specs.declared.item.Item.{Item}
use Rattle.tm_base.specs.declared.names.TheConstants.{NEVER}
use Rattle.wheel_core.specs.PlainBase.{FitsWheel, item_of}
use Rattle.wheel_core.proofs.Ids.{item_holds}
use Rattle.cpu_bases.specs.CpuBases.{CpuBases, base_of, class_in}
use Rattle.cpu_bases.specs.CpuBases.{moved_in, moved_out, oldest_in}
use Rattle.cpu_bases.proofs.Keeping.{oldest_found}
use Rattle.cpu_bases.proofs.Counts.{count_in, fewer_out}
use Rattle.play_rules.proofs.FirstMoves.{either_none, either_some, first_is}
use Rattle.play_rules.specs.Rules.{Moved}
use Rattle.play_rules.specs.State.{Cpu, State, all_cpus, cpu_at, cpu_count}
use Rattle.play_rules.specs.Hierarchy.{is_placed, with_migrators, woken, woken_migrator}
use Rattle.play_rules.specs.Timers.{bases_at, controller, controlling, count_on, first_to_move}
use Rattle.play_rules.specs.Timers.{moved_first, moved_one, moved_out_of}
use Rattle.play_laws.proofs.Answered.Invariant.{put_other}
use Rattle.play_laws.proofs.Answered.Ranges.{found_some, found_there}
use Rattle.play_laws.proofs.Answered.States.{here_is, written, written_alike}
use Rattle.play_laws.proofs.Jiffies.CpuKept.{IsItemOf}
use Rattle.play_laws.proofs.Jiffies.Inside.{IsEmpty, some_online_with}
use Rattle.play_laws.proofs.Jiffies.InterruptSteps.{Between, Quiet, Rested}
use Rattle.play_laws.proofs.Jiffies.Machines.{Holds, One, elsewhere, holds_as, move_in_holds}
use Rattle.play_laws.proofs.Jiffies.Machines.{move_out_holds, moved_out_gone}
use Rattle.play_laws.proofs.Jiffies.OperationSteps.{Leaves, Leaving, here, leaves_of_bases, wakes}
use Rattle.play_laws.proofs.Jiffies.Empty.{none_first}
use Rattle.play_laws.proofs.Jiffies.Waking.{moved_in_waking}

module _ (cpus levels now : ℕ) where
  -- the timers of CPU `from` move to CPU `to`
  pub record Moving (from to n : ℕ) (s : State) : Type 0 where
    pub leaving : Leaving cpus levels now from s
    pub low : to < cpus
    pub online : (cpu_at s to).online ≡ true
    pub few : count_on s from ≤ n

  -- where nothing is queued on the CPU that left, it has left
  pub left_empty : (c : ℕ) (s : State) → IsEmpty (bases_at s c) → Leaving cpus levels now c s
      → Between cpus levels now s
  left_empty c s none leaving =
      let quiet = leaving.quiet in
      record {
        at = quiet.at;
        levels_are = quiet.levels_are;
        some_online = quiet.some_online;
        holds =
            holds_as cpus (Leaves c s.clock) (Rested s.clock) s quiet.holds
            (λ d low is. record {
              waking = is.waking;
              away = λ off.
                  elim (cases_eq d c) [
                    | inl same ↦ subst (λ k. IsEmpty (bases_at s k)) (sym same) none
                    | inr other ↦ is.away off other
                  ];
            });
      }

  pub leaves_again : (c : ℕ) (s : State) → (cpu_at s c).online ≡ false → Between cpus levels now s
      → Leaving cpus levels now c s
  leaves_again c s off quiet = record {
    quiet = record {
      at = quiet.at;
      levels_are = quiet.levels_are;
      some_online = quiet.some_online;
      holds =
          holds_as cpus (Rested s.clock) (Leaves c s.clock) s quiet.holds
          (λ d low is. record { waking = is.waking; away = λ gone other. is.away gone });
    };
    gone = off;
  }

  -- THE CONTROLLING CPU is there
  abbrev is_active_placed : State → ℕ → Bool
  is_active_placed s d = is_placed s d && ((cpu_at s d).online && not (cpu_at s d).idle)

  abbrev is_online_placed : State → ℕ → Bool
  is_online_placed s d = is_placed s d && (cpu_at s d).online

  pub has_controller : (F : (now : ℕ) → ℕ → Cpu → Type 0) (s : State) → Quiet cpus levels now F s
      → controller s ≡ None → ⊥
  has_controller F s quiet none =
      let some = quiet.some_online in
      let count = quiet.holds.count in
      let low = some.low in
      let neither =
      either_none (find (is_active_placed s) (all_cpus s))
      (find (is_online_placed s) (all_cpus s)) none in
      found_some (is_online_placed s) 0 (cpu_count s) some.number (omega arith)
      (omega (arith, low, count))
      (and_from (is_placed s some.number) (cpu_at s some.number).online some.placed some.online)
      neither.1

  record IsController (s : State) (d : ℕ) : Type 0 where
    low : d < cpu_count s
    online : (cpu_at s d).online ≡ true

  controls : (s : State) (d : ℕ) → controller s ≡ Some d → IsController s d
  controls s d is =
      elim (either_some (find (is_active_placed s) (all_cpus s))
      (find (is_online_placed s) (all_cpus s)) d is) [
        | inl active ↦
            let found = found_there (is_active_placed s) 0 (cpu_count s) d active in
            let below = found.below in
            let on =
            (and_parts (is_placed s d) ((cpu_at s d).online && not (cpu_at s d).idle)
            found.passes).1 in
            record {
              low = omega (arith, below);
              online = (and_parts (cpu_at s d).online (not (cpu_at s d).idle) on).0;
            }
        | inr online ↦
            let found = found_there (is_online_placed s) 0 (cpu_count s) d online in
            let below = found.below in
            record {
              low = omega (arith, below);
              online = (and_parts (is_placed s d) (cpu_at s d).online found.passes).1;
            }
      ]

  pub wakes_leaving : (c d : ℕ) (s : State) → d < cpus → Leaving cpus levels now c s
      → Leaving cpus levels now c (woken s d)
  wakes_leaving c d s low leaving = record {
    quiet = wakes cpus levels now (Leaves c) (leaves_of_bases c) d low s leaving.quiet;
    gone =
        written_alike (with_migrators s (woken_migrator s d)) d
        (record (cpu_at s d) { idle = false; wakeup = NEVER; told = NEVER })
        (here cpus levels now (Leaves c) (leaves_of_bases c) s leaving.quiet d low)
        (λ (y : Cpu). y.online) refl c
        ∙ leaving.gone;
  }

  pub controls_leaving : (from d : ℕ) (s : State) → controller s ≡ Some d
      → Leaving cpus levels now from s
      → Moving from d (count_on (controlling s d) from) (controlling s d)
  controls_leaving from d s is leaving =
      let there = controls s d is in
      let count = leaving.quiet.holds.count in
      let in_machine = there.low in
      let low : d < cpus = omega (arith, count, in_machine) in
      by (cpu_at s d).idle low there.online
    where
      by : (b : Bool) → d < cpus → (cpu_at s d).online ≡ true
          → Moving from d (count_on (if b then woken s d else s) from) (if b then woken s d else s)
      by true low online = record {
        leaving = wakes_leaving from d s low leaving;
        low = low;
        online =
            written_alike (with_migrators s (woken_migrator s d)) d
            (record (cpu_at s d) { idle = false; wakeup = NEVER; told = NEVER })
            (here cpus levels now (Leaves from) (leaves_of_bases from) s leaving.quiet d low)
            (λ (y : Cpu). y.online) refl d
            ∙ online;
        few = omega arith;
      }
      by false low online =
          record { leaving = leaving; low = low; online = online; few = omega arith }

  -- ONE TIMER moves
  module _ (from to n : ℕ) (s : State) (from_low : from < cpus) (moving : Moving from to (suc n) s)
      (class : Class) (item : Item)
      (is : oldest_in (base_of class (bases_at s from)).items ≡ Some item) where
    quiet : Quiet cpus levels now (Leaves from) s
    quiet = moving.leaving.quiet

    apart : (from ≡ to → ⊥)
    apart same =
        both_ways (cpu_at s from).online moving.leaving.gone
        (ap (λ k. (cpu_at s k).online) same ∙ moving.online)

    abbrev b : CpuBases
    b = moved_out s.clock class (record { 0 = to }) (bases_at s from)

    abbrev t : State
    t = moved_out_of s from to class

    from_here : from < cpu_count s
    from_here = here cpus levels now (Leaves from) (leaves_of_bases from) s quiet from from_low

    out : Holds cpus (Leaves from s.clock) t
    out =
        move_out_holds cpus (Leaves from s.clock) (Leaves from s.clock) s quiet.holds from from_low
        to class
        (record {
          waking = λ on. absurd (both_ways (cpu_at s from).online moving.leaving.gone on);
          away = λ off other. absurd (other refl);
        })
        (λ d below other was. was)

    found : item_of item.id (base_of class (bases_at s from)).items ≡ Some item
    found = oldest_found (base_of class (bases_at s from)).items item is

    one : One s.clock quiet.holds.owner (Leaves from s.clock) from (cpu_at s from)
    one = quiet.holds.each from from_low

    bases_of : (d : ℕ) → (d ≡ from → ⊥) → bases_at t d ≡ bases_at s d
    bases_of d other =
        ap (λ f. (f d).bases) (written s from (record (cpu_at s from) { bases = b }) from_here)
        ∙ ap (λ (y : Cpu). y.bases)
        (put_other (cpu_at s) from (record (cpu_at s from) { bases = b }) d other)

    nowhere : (d : ℕ) → d < cpus → class_in item.id (bases_at t d) ≡ None
    nowhere d low =
        elim (cases_eq d from) [
          | inl same ↦
              subst (λ x. class_in item.id x ≡ None)
              (sym
              (ap (λ k. bases_at t k) same
              ∙ ap (λ (y : Cpu). y.bases)
              (here_is s from (record (cpu_at s from) { bases = b }) from_here)))
              (moved_out_gone s.clock class (record { 0 = to })
              (bases_at s from) item is one.cpu.told.consistent)
          | inr other ↦
              subst (λ x. class_in item.id x ≡ None) (sym (bases_of d other))
              (elsewhere item.id d s.clock quiet.holds.owner (bases_at s d)
              (quiet.holds.each d low).cpu
              (λ owned.
              let own =
              item_holds (IsItemOf quiet.holds.owner from) item.id
              (base_of class (bases_at s from)).items item (one.cpu.items class).all found in
              other (sym owned ∙ own)))
        ]

    to_in : (let x : CpuBases = bases_at t to in
        Leaves from s.clock to
        (record (cpu_at t to) {
          bases =
              moved_in s.clock class item.id item.expires item.job item.arg (record { 0 = to }) x;
        }))
    to_in =
        let has = out.each to moving.low in
        let fits = one.cpu.told.consistent.fits class in
        let placed =
        item_holds FitsWheel item.id (base_of class (bases_at s from)).items item
        fits.sound.in_wheel found in
        record {
          waking = λ on.
              moved_in_waking s.clock quiet.holds.early class item.id item.expires item.job item.arg
              (record { 0 = to }) (bases_at t to)
              placed.expires (λ k. (has.cpu.items k).near) (has.is.waking on);
          away = λ off other. absurd (both_ways (cpu_at t to).online off on_there);
        }
      where
        on_there : (cpu_at t to).online ≡ true
        on_there =
            written_alike s from (record (cpu_at s from) { bases = b }) from_here
            (λ (y : Cpu). y.online) refl to ∙ moving.online

    into : Holds cpus (Leaves from s.clock) (moved_one s from to (class, item)).state
    into =
        let fits = one.cpu.told.consistent.fits class in
        let items = (base_of class (bases_at s from)).items in
        let placed = item_holds FitsWheel item.id items item fits.sound.in_wheel found in
        let own =
        item_holds (IsItemOf quiet.holds.owner from) item.id items item
        (one.cpu.items class).all found in
        move_in_holds cpus (Leaves from s.clock) (Leaves from s.clock) t out to moving.low class
        item placed.expires
        (item_holds (λ i. i.id < 2 ^ 16) item.id items item fits.timers found) nowhere to_in
        (λ d below other was. was)

    to_there : to < cpu_count t
    to_there =
        let many = length-set s.cpus from (record (cpu_at s from) { bases = b }) in
        let count = quiet.holds.count in
        let low = moving.low in omega (arith, many, count, low)

    abbrev u : State
    u = (moved_one s from to (class, item)).state

    abbrev at_to : Cpu
    at_to =
        record (cpu_at t to) {
          bases =
              moved_in t.clock class item.id item.expires item.job item.arg (record { 0 = to })
              (bases_at t to);
        }

    online_of : (d : ℕ) → (cpu_at u d).online ≡ (cpu_at s d).online
    online_of d =
        written_alike t to at_to to_there (λ (y : Cpu). y.online) refl d
        ∙ written_alike s from (record (cpu_at s from) { bases = b }) from_here
        (λ (y : Cpu). y.online) refl d

    pub moves_item : Moving from to n u
    moves_item = record {
      leaving = record {
        quiet = record {
          at = quiet.at;
          levels_are = quiet.levels_are;
          some_online = some_online_with cpus t to at_to to_there refl
              (some_online_with cpus s from (record (cpu_at s from) { bases = b }) from_here refl
              quiet.some_online);
          holds = into;
        };
        gone = online_of from ∙ moving.leaving.gone;
      };
      low = moving.low;
      online = online_of to ∙ moving.online;
      few =
          let fewer = fewer_out s.clock class (record { 0 = to }) (bases_at s from) item is in
          let was = moving.few in
          let same : count_on u from ≡ count_in b =
          ap count_in (ap (λ f. (f from).bases) (written t to at_to to_there)
          ∙ ap (λ (y : Cpu). y.bases) (put_other (cpu_at t) to at_to from apart)
          ∙ ap (λ (y : Cpu). y.bases)
          (here_is s from (record (cpu_at s from) { bases = b }) from_here)) in
          omega (arith, fewer, was, same);
    }

  moves_by : (from to n : ℕ) (s : State) (o : Option (Class × Item)) (m : Moved State) → from < cpus
      → Moving from to (suc n) s
      → first_to_move (bases_at s from) ≡ o → option_map (moved_one s from to) o ≡ Some m
      → Moving from to n m.state
  moves_by from to n s None m low moving first is = absurd (none-some m is)
  moves_by from to n s (Some (class, item)) m low moving first is =
      subst (Moving from to n)
      (ap (λ (x : Moved State). x.state) (same_Some (moved_one s from to (class, item)) m is))
      (moves_item from to n s low moving class item (first_is (bases_at s from) (class, item) first))

  pub moves_one : (from to n : ℕ) (s : State) (m : Moved State) → from < cpus
      → moved_first s from to ≡ Some m → Moving from to (suc n) s
      → Moving from to n m.state
  moves_one from to n s m low is moving =
      moves_by from to n s (first_to_move (bases_at s from)) m low moving refl is

  none_by : (from to : ℕ) (s : State) (o : Option (Class × Item))
      → first_to_move (bases_at s from) ≡ o
      → option_map (moved_one s from to) o ≡ None → IsEmpty (bases_at s from)
  none_by from to s None first is = none_first (bases_at s from) first
  none_by from to s (Some found) first is = absurd (none-some (moved_one s from to found) (sym is))

  pub none_moves : (from to : ℕ) (s : State) → moved_first s from to ≡ None → IsEmpty (bases_at s from)
  none_moves from to s is = none_by from to s (first_to_move (bases_at s from)) refl is
