-- for crates above: what holds of each CPU of a state, as the bases of one of them change
use Rattle.std.proofs.Common.{◌≡◌, ℕ, ◌+◌, ◌^◌, ◌<◌, [], true, false, Option, Some, None, refl, sym}
use Rattle.std.proofs.Common.{ap, ◌∙◌, subst, arith, inl, inr, length}
use Rattle.std.specs.Prelude.{is_some, option_and_then, option_map}
use Rattle.std.proofs.lemmas.Bool.{both_ways, cases_Bool}
use Rattle.std.proofs.lemmas.List.{length-set}
use Rattle.std.proofs.lemmas.Option.{none-some, same_Some}
use Rattle.tm_base.specs.declared.names.TheConstants.{TIME_LIMIT}
use Rattle.tm_base.specs.declared.limits.TheConstants.{SCRIPT_TIME_LIMIT}
use Rattle.tm_base.specs.declared.names.Class.{Class}
use Rattle.tm_base.specs.declared.names.CpuId.{CpuId}
use Rattle.wheel_core.specs.declared.item.Item.{Item}
use Rattle.wheel_core.proofs.Ids.{item_holds}
use Rattle.cpu_bases.specs.declared.entry.Act.TheVariants as acts
use Rattle.cpu_bases.specs.CpuBases.{CpuBases, IsConsistent, after_move_out, base_of, cancelled}
use Rattle.cpu_bases.specs.CpuBases.{class_in, drained, entry_of, found_in, moved_in, moved_out}
use Rattle.cpu_bases.specs.CpuBases.{oldest_in}
use Rattle.cpu_bases.specs.Journals.{MayHandOut, arming_of, queued_by}
use Rattle.cpu_bases.proofs.Keeping.{found_at, moving_out_keeps, nowhere}
use Rattle.cpu_bases.proofs.Keyed.{none_dropped}
use Rattle.cpu_bases.proofs.Legal.{distinct_from, ended_is, queued_push}
use Rattle.play_rules.specs.declared.asks.Arming.{Arming}
use Rattle.play_rules.specs.declared.asks.Cancelling.{Cancelling}
use Rattle.play_rules.specs.State.{Cpu, State, cpu_at, cpu_count, with_bases, with_cpu}
use Rattle.play_rules.specs.Timers.{armed_bases, armed_on, bases_at, cancelled_on, drained_on}
use Rattle.play_rules.specs.Timers.{holder_of, moved_into, moved_out_of, queued_as, queued_at}
use Rattle.play_rules.specs.Timers.{where_queued}
use Rattle.play_laws.proofs.Answered.Invariant.{each_put}
use Rattle.play_laws.proofs.Answered.Ranges.{found_some, found_there}
use Rattle.play_laws.proofs.Answered.States.{written}
use Rattle.play_laws.proofs.Jiffies.Course.{IsArmingIn}
use Rattle.play_laws.proofs.Jiffies.CpuKept.{IsCpu, IsItemOf, armed_cpu, cancelled_cpu, cpu_owned}
use Rattle.play_laws.proofs.Jiffies.CpuKept.{moved_in_cpu, moved_out_cpu, owning}
use Rattle.play_laws.proofs.Jiffies.Waking.{IsDrained, Waking, drained_cpu}

-- one CPU: its bases, and what holds of it besides
pub record One (now : ℕ) (owner : ℕ → ℕ) (F : ℕ → Cpu → Type 0) (d : ℕ) (x : Cpu) : Type 0 where
  pub cpu : IsCpu now d owner x.bases
  pub is : F d x

-- all CPUs of a machine of so many
pub record Holds (cpus : ℕ) (F : ℕ → Cpu → Type 0) (s : State) : Type 0 where
  pub owner : ℕ → ℕ
  pub early : s.clock < SCRIPT_TIME_LIMIT
  pub count : cpu_count s ≡ cpus
  pub each : (d : ℕ) → d < cpus → One s.clock owner F d (cpu_at s d)

-- what else holds of each CPU becomes another fact
pub holds_as : (cpus : ℕ) (F G : ℕ → Cpu → Type 0) (s : State) → Holds cpus F s
    → ((d : ℕ) → d < cpus → F d (cpu_at s d) → G d (cpu_at s d)) → Holds cpus G s
holds_as cpus F G s holds more = record {
  owner = holds.owner;
  early = holds.early;
  count = holds.count;
  each = λ d low. record { cpu = (holds.each d low).cpu; is = more d low (holds.each d low).is };
}

module _ (cpus : ℕ) (F G : ℕ → Cpu → Type 0) (s : State) (holds : Holds cpus F s) (c : ℕ)
    (low : c < cpus) where
  low_here : c < cpu_count s
  low_here = let count = holds.count in omega (arith, low, count)

  -- one CPU is written
  pub written_holds : (owner : ℕ → ℕ) (x : Cpu) → One s.clock owner G c x
      → ((d : ℕ) → d < cpus → (d ≡ c → ⊥) → One s.clock holds.owner F d (cpu_at s d)
      → One s.clock owner G d (cpu_at s d))
      → Holds cpus G (with_cpu s c x)
  written_holds owner x here others = record {
    owner = owner;
    early = holds.early;
    count = length-set s.cpus c x ∙ holds.count;
    each = λ d below.
        subst (λ f. One s.clock owner G d (f d)) (sym (written s c x low_here))
        (each_put (cpu_at s) c x (λ k y. k < cpus → One s.clock owner G k y) (λ _. here)
        (λ k other there. others k there other (holds.each k there)) d below);
  }

  -- what else holds of the others
  abbrev pub Others : Type 0
  Others = (d : ℕ) → d < cpus → (d ≡ c → ⊥) → F d (cpu_at s d) → G d (cpu_at s d)

  -- it keeps its bases
  pub kept_bases : (x : Cpu) → x.bases ≡ (cpu_at s c).bases → G c x → Others
      → Holds cpus G (with_cpu s c x)
  kept_bases x same here others =
      written_holds holds.owner x
      (record {
        cpu = subst (IsCpu s.clock c holds.owner) (sym same) (holds.each c low).cpu;
        is = here;
      })
      (λ d below other one. record { cpu = one.cpu; is = others d below other one.is })

  -- its bases change
  pub new_bases : (b : CpuBases) → IsCpu s.clock c holds.owner b
      → G c (record (cpu_at s c) { bases = b }) → Others
      → Holds cpus G (with_bases s c b)
  new_bases b here is others =
      written_holds holds.owner (record (cpu_at s c) { bases = b }) (record { cpu = here; is = is })
      (λ d below other one. record { cpu = one.cpu; is = others d below other one.is })

  -- A DRAIN of one of its bases
  pub drain_holds : (class : Class) (runner : ℕ) → MayHandOut c class runner
      → Waking s.clock (bases_at s c)
      → (let b =
      drained (length (base_of class (bases_at s c)).items) s.clock class
      (record { 0 = runner }) (bases_at s c) in
      IsDrained s.clock c holds.owner class b → G c (record (cpu_at s c) { bases = b }))
      → Others → Holds cpus G (drained_on s c class runner).state
  drain_holds class runner may late here others =
      let out =
      drained_cpu s.clock c holds.owner class (record { 0 = runner })
      (bases_at s c) holds.early may late (holds.each c low).cpu in
      new_bases
      (drained (length (base_of class (bases_at s c)).items) s.clock class
      (record { 0 = runner }) (bases_at s c))
      out.cpu (here out) others

  pub cancel_holds : (a : Cancelling)
      → G c (record (cpu_at s c) { bases = cancelled s.clock a.timer.0 a.line a.by (bases_at s c) })
      → Others → Holds cpus G (cancelled_on s c a)
  cancel_holds a here others =
      new_bases (cancelled s.clock a.timer.0 a.line a.by (bases_at s c))
      (cancelled_cpu s.clock c holds.owner a.timer.0 a.line a.by (bases_at s c)
      (holds.each c low).cpu) here others

  -- WHERE A TIMER THAT IS QUEUED NOWHERE comes to be queued
  abbrev pub IsNowhere : ℕ → Type 0
  IsNowhere timer = (d : ℕ) → d < cpus → class_in timer (bases_at s d) ≡ None

  come_holds : (timer : ℕ) (b : CpuBases) → IsNowhere timer
      → IsCpu s.clock c (owning holds.owner timer c) b
      → G c (record (cpu_at s c) { bases = b }) → Others → Holds cpus G (with_bases s c b)
  come_holds timer b nowhere_queued here is others =
      written_holds (owning holds.owner timer c) (record (cpu_at s c) { bases = b })
      (record { cpu = here; is = is })
      (λ d below other one. record {
        cpu =
            cpu_owned s.clock d holds.owner timer c (bases_at s d) (nowhere_queued d below) one.cpu;
        is = others d below other one.is;
      })

  pub arm_holds : (a : Arming) → IsArmingIn a → IsNowhere a.timer.0
      → G c (record (cpu_at s c) { bases = armed_bases s c a }) → Others
      → Holds cpus G (armed_on s c a).state
  arm_holds a known nowhere_queued here others =
      let short = known.delay in
      let early = holds.early in
      come_holds a.timer.0 (armed_bases s c a) nowhere_queued
      (armed_cpu s.clock c holds.owner early a.class a.timer.0
      (s.clock + a.delay) a.job a.arg a.line (record { 0 = c })
      (bases_at s c) (omega (arith, short, early)) known.timer (nowhere_queued c low)
      (holds.each c low).cpu)
      here others

  pub move_in_holds : (class : Class) (item : Item) → item.expires < TIME_LIMIT → item.id < 2 ^ 16
      → IsNowhere item.id
      → G c
      (record (cpu_at s c) {
        bases =
            moved_in s.clock class item.id item.expires item.job item.arg (record { 0 = c })
            (bases_at s c);
      })
      → Others → Holds cpus G (moved_into s c (class, item)).state
  move_in_holds class item in_time fits nowhere_queued here others =
      come_holds item.id
      (moved_in s.clock class item.id item.expires item.job item.arg (record { 0 = c })
      (bases_at s c))
      nowhere_queued
      (moved_in_cpu s.clock c holds.owner holds.early class item.id item.expires item.job item.arg
      (record { 0 = c })
      (bases_at s c) in_time fits (nowhere_queued c low) (holds.each c low).cpu)
      here others

  pub move_out_holds : (to : ℕ) (class : Class)
      → G c
      (record (cpu_at s c)
      { bases = moved_out s.clock class (record { 0 = to }) (bases_at s c) })
      → Others → Holds cpus G (moved_out_of s c to class)
  move_out_holds to class here others =
      new_bases (moved_out s.clock class (record { 0 = to }) (bases_at s c))
      (moved_out_cpu s.clock c holds.owner class (record { 0 = to }) (bases_at s c)
      (holds.each c low).cpu) here others

-- A TIMER THAT ISN'T QUEUED is in the bases of no CPU
not_some : {X : Type 0} (o : Option X) → is_some o ≡ false → o ≡ None
not_some None is = refl
not_some (Some x) is = absurd (both_ways true is refl)

held_some : (o : Option (Class × Item)) (c : ℕ)
    → is_some (option_map (λ (found : Class × Item). found.0) o) ≡ true
    → option_map (queued_as c) o ≡ None → ⊥
held_some None c is none = both_ways false refl is
held_some (Some found) c is none = none-some (queued_as c found) (sym none)

nowhere_by : (s : State) (timer : ℕ) (o : Option ℕ) → holder_of s timer ≡ o
    → option_and_then (queued_at s timer) o ≡ None
    → (d : ℕ) → d < cpu_count s → class_in timer (bases_at s d) ≡ None
nowhere_by s timer None none gone d low =
    not_some (class_in timer (bases_at s d))
    (elim (cases_Bool (is_some (class_in timer (bases_at s d)))) [
      | inl is ↦
          absurd
          (found_some (λ c. is_some (class_in timer (bases_at s c))) 0 (cpu_count s) d (omega arith)
          (omega (arith, low)) is none)
      | inr out ↦ out
    ])
nowhere_by s timer (Some c) there gone d low =
    let found =
    found_there (λ k. is_some (class_in timer (bases_at s k))) 0 (cpu_count s) c there in
    absurd (held_some (found_in timer (bases_at s c)) c found.passes gone)

pub queued_nowhere : (s : State) (timer : ℕ) → where_queued s timer ≡ None → (d : ℕ) → d < cpu_count s
    → class_in timer (bases_at s d) ≡ None
queued_nowhere s timer none = nowhere_by s timer (holder_of s timer) refl none

-- WHAT MOVES OUT of a CPU is then in none of its bases, nor in those of another CPU
out_by : (now : ℕ) (class : Class) (by : CpuId) (b : CpuBases) (item : Item) (o : Option Item)
    → oldest_in (base_of class b).items ≡ o → o ≡ Some item → IsConsistent b
    → IsConsistent (after_move_out o now class by b)
    → class_in item.id (after_move_out o now class by b) ≡ None
out_by now class by b item None is some consistent kept = absurd (none-some item some)
out_by now class by b item (Some first) is some consistent kept =
    let entry = entry_of acts.MovedOut 0 now class first by in
    let before = queued_by b.journal in
    let same : first ≡ item = same_Some first item some in
    let distinct = distinct_from [] b.journal tt consistent.each_may_follow in
    subst (λ (i : Item). class_in i.id (after_move_out (Some first) now class by b) ≡ None) same
    (nowhere first.id (after_move_out (Some first) now class by b) kept
    (ap (arming_of first.id) (queued_push [] b.journal entry)
    ∙ ap (arming_of first.id) (ended_is first.id before)
    ∙ none_dropped (λ e. e.timer.0) first.id before distinct))

pub moved_out_gone : (now : ℕ) (class : Class) (by : CpuId) (b : CpuBases) (item : Item)
    → oldest_in (base_of class b).items ≡ Some item → IsConsistent b
    → class_in item.id (moved_out now class by b) ≡ None
moved_out_gone now class by b item is consistent =
    out_by now class by b item (oldest_in (base_of class b).items) refl is consistent
    (moving_out_keeps now class by b consistent).0

owner_by : (timer d now : ℕ) (owner : ℕ → ℕ) (b : CpuBases) (o : Option (Class × Item))
    → found_in timer b ≡ o
    → IsCpu now d owner b → (owner timer ≡ d → ⊥)
    → option_map (λ (found : Class × Item). found.0) o ≡ None
owner_by timer d now owner b None is cpu other = refl
owner_by timer d now owner b (Some (class, item)) is cpu other =
    let at = found_at timer class item b is in
    let own =
    item_holds (IsItemOf owner d) timer (base_of class b).items item
    (cpu.items class).all at.found in
    absurd (other (ap owner (sym at.same) ∙ own))

-- a timer isn't in the bases of a CPU that doesn't own it
pub elsewhere : (timer d now : ℕ) (owner : ℕ → ℕ) (b : CpuBases) → IsCpu now d owner b
    → (owner timer ≡ d → ⊥)
    → class_in timer b ≡ None
elsewhere timer d now owner b cpu other =
    owner_by timer d now owner b (found_in timer b) refl cpu other
