-- each timer has one home at most, a CPU and a class, and where it is due there
-- it is one of those that may still go out
use Rattle.std.proofs.Common.{◌≡◌, ℕ, ◌+◌, ◌^◌, ◌<◌, ◌≤◌, List, [], ◌∷◌, Bool, true, Option, Some}
use Rattle.std.proofs.Common.{None}
use Rattle.std.proofs.Common.{refl, sym, ap, ◌∙◌, subst, arith, inl, inr, get_or, length}
use Rattle.std.specs.Prelude.{All, filter, if◌then◌else◌, ◌==◌, slice_set}
use Rattle.std.specs.List.{range_with_len}
use Rattle.std.proofs.lemmas.Bool.{cases_lt, cond-false, cond-true, eq-eqb, ne_eqb}
use Rattle.std.proofs.lemmas.List.{length-set, set_past}
use Rattle.std.proofs.lemmas.List.Elements.{All-cons, All-nil, All-push}
use Rattle.std.proofs.lemmas.List.Elements.{All-weaker}
use Rattle.std.proofs.lemmas.Option.{none-some}
use Rattle.tm_base.specs.declared.limits.TheConstants.{SCRIPT_TIME_LIMIT}
use Rattle.tm_base.specs.declared.names.Class.{Class}
use Rattle.tree_plan.specs.Paths.{level_count_of}
use Rattle.wheel_core.specs.declared.item.Item.{Item}
use Rattle.wheel_core.specs.PlainBase.{IsSound, PlainBase, added, forwarded, item_of, next_out}
use Rattle.wheel_core.specs.PlainBase.{item_added, removed, taken}
use Rattle.wheel_core.proofs.Ids.{all_without, item_holds, item_of_rest}
use Rattle.wheel_core.proofs.Plain.{all_after_out, clock-forwarded_le, clock-taken_le, sound_added}
use Rattle.wheel_core.proofs.Plain.{sound_after_out, sound_removed}
use Rattle.cpu_bases.specs.CpuBases.{CpuBases, base_of}
use Rattle.cpu_bases.proofs.Keyed.{found_key}
use Rattle.play_rules.specs.State.{Cpu, State, cpu_at, cpu_count, with_bases}
use Rattle.play_rules.specs.Timers.{bases_at}
use Rattle.play_laws.proofs.Answered.Invariant.{each_put}
use Rattle.play_laws.proofs.Answered.States.{written}

-- where a timer is queued, if it is: on a CPU, in a class
abbrev pub Home : Type 0
Home = ℕ × Class

-- how many of so many timers may still go out
abbrev pub count_of : (timers : ℕ) → (ℕ → Bool) → ℕ
count_of timers may = length (filter may (range_with_len 0 timers))

-- AN ITEM at its home: it is one of so many timers, and where it is due it may go out
pub record IsAt (timers now : ℕ) (home : ℕ → Home) (may : ℕ → Bool) (here : Home)
    (item : Item) : Type 0 where
  pub home_is : home item.id ≡ here
  pub known : item.id < timers
  pub may_go : item.wheel ≤ now → may item.id ≡ true

-- A BASE of such items
pub record IsHome (timers now : ℕ) (home : ℕ → Home) (may : ℕ → Bool) (here : Home)
    (base : PlainBase) : Type 0 where
  pub sound : IsSound base.items
  pub clock : base.clock < 2 ^ 47
  pub all : All (IsAt timers now home may here) base.items

-- ALL BASES of a machine of so many timers, CPUs and levels
pub record AreHomes (timers cpus levels : ℕ) (may : ℕ → Bool) (s : State) : Type 0 where
  pub early : s.clock < SCRIPT_TIME_LIMIT
  pub count : cpu_count s ≡ cpus
  pub levels_are : level_count_of s.tree ≡ levels
  pub home : ℕ → Home
  pub each : (d : ℕ) (k : Class) → d < cpus
      → IsHome timers s.clock home may (d, k) (base_of k (bases_at s d))

-- an item whose home is elsewhere isn't there
pub not_there : (id : ℕ) (home : ℕ → Home) (here : Home) (items : List Item)
    → All (λ item. home item.id ≡ here) items → (home id ≡ here → ⊥) → item_of id items ≡ None
not_there id home here items all away = by (item_of id items) refl
  where
    by : (o : Option Item) → item_of id items ≡ o → o ≡ None
    by None is = refl
    by (Some item) is =
        let own = item_holds (λ i. home i.id ≡ here) id items item all is in
        let same = found_key (λ (i : Item). i.id) id items item is in
        absurd (away (ap home (sym same) ∙ own))

-- where an id isn't there, each item has another one
pub all_apart : (id : ℕ) (items : List Item) → item_of id items ≡ None
    → All (λ item. item.id ≡ id → ⊥) items
all_apart id [] none = All-nil (λ (item : Item). item.id ≡ id → ⊥)
all_apart id (item ∷ items) none =
    All-cons (λ (i : Item). i.id ≡ id → ⊥) item items
    (λ same. absurd
    (none-some item
    (sym none ∙ cond-true (item.id == id) (Some item) (item_of id items) (eq-eqb item.id id same))))
    (all_apart id items (item_of_rest id item items none))

module _ (timers now : ℕ) (home : ℕ → Home) (may : ℕ → Bool) (here : Home) where
  abbrev At : Item → Type 0
  At item = IsAt timers now home may here item

  abbrev Base : PlainBase → Type 0
  Base base = IsHome timers now home may here base

  pub homes_of : (items : List Item) → All At items → All (λ item. home item.id ≡ here) items
  homes_of items all = All-weaker At (λ item. home item.id ≡ here) (λ item at. at.home_is) items all

  -- WHAT GOES OUT leaves the others at home
  pub home_removed : (id : ℕ) (base : PlainBase) → Base base → Base (removed id base)
  home_removed id base is = record {
    sound = sound_removed id base is.sound;
    clock = is.clock;
    all = all_without At id base.items is.all;
  }

  pub home_taken : now < SCRIPT_TIME_LIMIT → (base : PlainBase) → Base base → Base (taken now base)
  home_taken early base is =
      let before = is.clock in
      let after = clock-taken_le now base is.sound in
      record {
        sound = sound_after_out base (next_out now base) is.sound;
        clock = omega (arith, before, after, early);
        all = all_after_out At base (next_out now base) is.all;
      }

  -- WHAT COMES, where it isn't there
  pub home_added : (time id expires job arg : ℕ) (base : PlainBase) → now < SCRIPT_TIME_LIMIT
      → time ≤ now + 1 → expires < 2 ^ 47 → item_of id base.items ≡ None
      → IsAt timers now home may here (item_added (forwarded time base).clock id expires job arg)
      → Base base → Base (added id expires job arg (forwarded time base))
  home_added time id expires job arg base early soon fits none at is =
      let before = is.clock in
      let after = clock-forwarded_le time base in
      let clock : (forwarded time base).clock < 2 ^ 47 =
      omega (arith, before, after, early, soon) in
      record {
        sound = sound_added id expires job arg (forwarded time base) fits clock none is.sound;
        clock = clock;
        all =
            All-push At base.items (item_added (forwarded time base).clock id expires job arg) is.all
            at;
      }

-- A TIMER comes to have its home elsewhere
abbrev pub rehomed : (ℕ → Home) → (id : ℕ) → Home → ℕ → Home
rehomed home id there i = if i == id then there else home i

pub rehomed_itself : (home : ℕ → Home) (id : ℕ) (there : Home) → rehomed home id there id ≡ there
rehomed_itself home id there = cond-true (id == id) there (home id) (eq-eqb id id refl)

-- a base in which it isn't stays as it is
pub home_kept : (timers now : ℕ) (home : ℕ → Home) (may : ℕ → Bool) (here there : Home) (id : ℕ)
    (base : PlainBase) → item_of id base.items ≡ None → IsHome timers now home may here base
    → IsHome timers now (rehomed home id there) may here base
home_kept timers now home may here there id base none is = record {
  sound = is.sound;
  clock = is.clock;
  all = λ i d low.
      let at = is.all i d low in
      let item = get_or base.items i d in
      record {
        home_is =
            cond-false (item.id == id) there (home item.id)
            (ne_eqb item.id id (all_apart id base.items none i d low))
            ∙ at.home_is;
        known = at.known;
        may_go = at.may_go;
      };
}

-- ONE CPU'S BASES are written
module _ (timers cpus levels : ℕ) (may : ℕ → Bool) (s : State)
    (is : AreHomes timers cpus levels may s) (c : ℕ) (b : CpuBases) where
  pub written_homes : (low : c < cpus) (home : ℕ → Home) (more : ℕ → Bool)
      → ((k : Class) → IsHome timers s.clock home more (c, k) (base_of k b))
      → ((d : ℕ) (k : Class) → d < cpus → (d ≡ c → ⊥)
      → IsHome timers s.clock is.home may (d, k) (base_of k (bases_at s d))
      → IsHome timers s.clock home more (d, k) (base_of k (bases_at s d)))
      → AreHomes timers cpus levels more (with_bases s c b)
  written_homes low home more own others =
      let x : Cpu = record (cpu_at s c) { bases = b } in
      let count = is.count in
      record {
        early = is.early;
        count = length-set s.cpus c x ∙ is.count;
        levels_are = is.levels_are;
        home = home;
        each = λ d k below.
            subst (λ f. IsHome timers s.clock home more (d, k) (base_of k (f d).bases))
            (sym (written s c x (omega (arith, low, count))))
            (each_put (cpu_at s) c x
            (λ e (y : Cpu). e < cpus → IsHome timers s.clock home more (e, k) (base_of k y.bases))
            (λ _. own k) (λ e other there. others e k there other (is.each e k there)) d below);
      }

  -- which change nothing where there is no such CPU
  pub beyond_homes : cpus ≤ c → AreHomes timers cpus levels may (with_bases s c b)
  beyond_homes beyond =
      let count = is.count in
      let x : Cpu = record (cpu_at s c) { bases = b } in
      let same : slice_set s.cpus c x ≡ s.cpus =
      set_past s.cpus c x (omega (arith, beyond, count)) in
      subst (λ list. AreHomes timers cpus levels may (record s { cpus = list })) (sym same) is

  -- each base keeps what it kept
  pub same_homes : ((k : Class) (home : ℕ → Home)
      → IsHome timers s.clock home may (c, k) (base_of k (bases_at s c))
      → IsHome timers s.clock home may (c, k) (base_of k b))
      → AreHomes timers cpus levels may (with_bases s c b)
  same_homes keeps =
      elim (cases_lt c cpus) [
        | inl low ↦
            written_homes low is.home may (λ k. keeps k is.home (is.each c k low))
            (λ d k below other was. was)
        | inr beyond ↦ beyond_homes beyond
      ]

-- WHAT A STATE HAS IN COMMON with another one
abbrev pub Alike : (s t : State) → Type 0
Alike s t =
    (t.clock ≡ s.clock) × (t.tree ≡ s.tree) × (cpu_count t ≡ cpu_count s)
    × ((d : ℕ) → bases_at t d ≡ bases_at s d)
