-- for crates above: timers are armed, cancelled, drained and moved, and what carries the law is
-- kept
use Rattle.std.proofs.Common.{◌≡◌, ℕ, ◌+◌, ◌<◌, true, Option, Some, None, refl, sym, ap, ◌∙◌, subst}
use Rattle.std.proofs.Common.{arith, length}
use Rattle.std.specs.Prelude.{is_some, option_and_then, option_map}
use Rattle.std.proofs.lemmas.List.{length-set}
use Rattle.std.proofs.lemmas.Option.{none-some, same_Some}
use Rattle.tm_base.specs.declared.names.Class.{Class}
use Rattle.tm_base.specs.declared.names.Class.TheVariants.{Pinned, Global}
use Rattle.wheel_core.specs.declared.item.Item.{Item}
use Rattle.cpu_bases.specs.CpuBases.{CpuBases, base_of, cancelled as cancelled_in, class_in}
use Rattle.cpu_bases.specs.CpuBases.{drained as drained_in, found_in, moved_in, moved_out}
use Rattle.play_rules.specs.declared.asks.Arming.{Arming}
use Rattle.play_rules.specs.declared.asks.Cancelling.{Cancelling}
use Rattle.play_rules.specs.declared.asks.Queued.{Queued}
use Rattle.play_rules.specs.Rules.{Moved}
use Rattle.play_rules.specs.State.{Cpu, State, cpu_at, cpu_count, with_bases}
use Rattle.play_rules.specs.Timers.{armed_bases, armed_on, bases_at, cancelled_on, drained_on}
use Rattle.play_rules.specs.Timers.{first_to_move, holder_of, moved_first, moved_into, moved_one}
use Rattle.play_rules.specs.Timers.{moved_out_of, queued_as, queued_at, where_queued}
use Rattle.play_laws.proofs.Answered.Bases.{armed_kept, cancelled_kept, drained_kept, moved_in_kept}
use Rattle.play_laws.proofs.Answered.Bases.{moved_out_kept}
use Rattle.play_laws.proofs.Answered.Invariant.{rests}
use Rattle.play_laws.proofs.Answered.Ranges.{found_there}
use Rattle.play_laws.proofs.Answered.States.{IsKept, bases_kept, fewer_kept, written_alike}

-- a CPU that holds a timer is in the machine
holder_in : (s : State) (timer : ℕ) (o : Option ℕ) (held : Queued) → holder_of s timer ≡ o
    → option_and_then (queued_at s timer) o ≡ Some held → held.cpu.0 < cpu_count s
holder_in s timer None held holder is = absurd (none-some held is)
holder_in s timer (Some c) held holder is =
    let low = (found_there (λ d. is_some (class_in timer (bases_at s d))) 0 (cpu_count s) c
    holder).below in
    on_it (found_in timer (bases_at s c)) is (omega (arith, low))
  where
    on_it : (o : Option (Class × Item)) → option_map (queued_as c) o ≡ Some held → c < cpu_count s
        → held.cpu.0 < cpu_count s
    on_it None none low = absurd (none-some held none)
    on_it (Some found) some low =
        let same : queued_as c found ≡ held = same_Some (queued_as c found) held some in
        subst (λ k. k < cpu_count s) (ap (λ (q : Queued). q.cpu.0) same) low

pub queued_low : (s : State) (timer : ℕ) (held : Queued) → where_queued s timer ≡ Some held
    → held.cpu.0 < cpu_count s
queued_low s timer held is = holder_in s timer (holder_of s timer) held refl is

-- whoever is active or owes what it answers by may arm
abbrev pub MayArm : (Owes : ℕ → Type 0) → State → (c : ℕ) → Type 0
MayArm Owes s c = (Owes c → ⊥) → rests (cpu_at s c) ≡ true → ⊥

module _ (Owes : ℕ → Type 0) (Topped : Type 0) (s : State) (kept : IsKept Owes Topped s) where
  pub arms_kept : (c : ℕ) (a : Arming) → c < cpu_count s → MayArm Owes s c
      → IsKept Owes Topped (armed_on s c a).state
  arms_kept c a low may =
      let old = kept.holds.each c in
      bases_kept Owes Topped s kept c low (armed_bases s c a)
      (armed_kept s.clock kept.in_time Pinned (record { 0 = c }) a.class a.timer.0
      (s.clock + a.delay) a.job a.arg a.line (bases_at s c) old.pinned)
      (armed_kept s.clock kept.in_time Global (record { 0 = c }) a.class a.timer.0
      (s.clock + a.delay) a.job a.arg a.line (bases_at s c) old.global)
      (λ free rest. absurd (may free rest))

  pub cancels_kept : (home : ℕ) (a : Cancelling) → home < cpu_count s
      → IsKept Owes Topped (cancelled_on s home a)
  cancels_kept home a low =
      fewer_kept Owes Topped s kept home low
      (cancelled_in s.clock a.timer.0 a.line a.by (bases_at s home))
      (λ Q k holds. cancelled_kept Q s.clock k a.by a.timer.0 a.line (bases_at s home) holds)

  pub drains_kept : (home : ℕ) (class : Class) (runner : ℕ) → home < cpu_count s
      → IsKept Owes Topped (drained_on s home class runner).state
  drains_kept home class runner low =
      fewer_kept Owes Topped s kept home low
      (drained_in (length (base_of class (bases_at s home)).items) s.clock class
      (record { 0 = runner }) (bases_at s home))
      (λ Q k holds.
      drained_kept Q s.clock k (record { 0 = runner })
      (length (base_of class (bases_at s home)).items) class (bases_at s home) holds)

  move_out_kept : (from to : ℕ) (class : Class) → from < cpu_count s
      → IsKept Owes Topped (moved_out_of s from to class)
  move_out_kept from to class low =
      fewer_kept Owes Topped s kept from low
      (moved_out s.clock class (record { 0 = to }) (bases_at s from))
      (λ Q k holds. moved_out_kept Q s.clock k (record { 0 = to }) class (bases_at s from) holds)

  move_in_kept : (to : ℕ) (found : Class × Item) → to < cpu_count s → MayArm Owes s to
      → IsKept Owes Topped (moved_into s to found).state
  move_in_kept to (class, item) low may =
      let old = kept.holds.each to in
      bases_kept Owes Topped s kept to low
      (moved_in s.clock class item.id item.expires item.job item.arg (record { 0 = to })
      (bases_at s to))
      (moved_in_kept s.clock kept.in_time Pinned (record { 0 = to }) class item.id item.expires
      item.job item.arg (bases_at s to) old.pinned)
      (moved_in_kept s.clock kept.in_time Global (record { 0 = to }) class item.id item.expires
      item.job item.arg (bases_at s to) old.global)
      (λ free rest. absurd (may free rest))

-- what a change of bases leaves of each CPU
pub bases_alike : {X : Type 0} (s : State) (c : ℕ) (b : CpuBases) → c < cpu_count s → (h : Cpu → X)
    → h (record (cpu_at s c) { bases = b }) ≡ h (cpu_at s c) → (d : ℕ)
    → h (cpu_at (with_bases s c b) d) ≡ h (cpu_at s d)
bases_alike {X} s c b low h same d =
    written_alike s c (record (cpu_at s c) { bases = b }) low h same d

-- MOVING a timer, to a CPU that may arm
module _ (Owes : ℕ → Type 0) (Topped : Type 0) (s : State) (kept : IsKept Owes Topped s)
    (from to : ℕ)
    (from_low : from < cpu_count s) (to_low : to < cpu_count s) (may : MayArm Owes s to) where
  one_kept : (found : Class × Item) → IsKept Owes Topped (moved_one s from to found).state
  one_kept (class, item) =
      let b = moved_out s.clock class (record { 0 = to }) (bases_at s from) in
      let many = length-set s.cpus from (record (cpu_at s from) { bases = b }) in
      move_in_kept Owes Topped (moved_out_of s from to class)
      (move_out_kept Owes Topped s kept from to class from_low)
      to (class, item) (omega (arith, to_low, many))
      (λ free rest. may free (sym (bases_alike s from b from_low rests refl to) ∙ rest))

  moves_by : (o : Option (Class × Item)) (m : Moved State) → option_map (moved_one s from to) o
      ≡ Some m
      → IsKept Owes Topped m.state
  moves_by None m none = absurd (none-some m none)
  moves_by (Some found) m is =
      let same : moved_one s from to found ≡ m = same_Some (moved_one s from to found) m is in
      subst (IsKept Owes Topped) (ap (λ (x : Moved State). x.state) same) (one_kept found)

  pub moves_kept : (m : Moved State) → moved_first s from to ≡ Some m → IsKept Owes Topped m.state
  moves_kept m is = moves_by (first_to_move (bases_at s from)) m is

  -- and what it leaves of each CPU
  one_alike : {X : Type 0} (h : Cpu → X)
      → ((x : Cpu) (b : CpuBases) → h (record x { bases = b }) ≡ h x)
      → (found : Class × Item) (d : ℕ) → h (cpu_at (moved_one s from to found).state d)
      ≡ h (cpu_at s d)
  one_alike {X} h same (class, item) d =
      let b = moved_out s.clock class (record { 0 = to }) (bases_at s from) in
      let t = moved_out_of s from to class in
      let many = length-set s.cpus from (record (cpu_at s from) { bases = b }) in
      let c = moved_in t.clock class item.id item.expires item.job item.arg (record { 0 = to })
      (bases_at t to) in
      bases_alike t to c (omega (arith, to_low, many)) h (same (cpu_at t to) c) d
      ∙ bases_alike s from b from_low h (same (cpu_at s from) b) d

  alike_by : {X : Type 0} (h : Cpu → X)
      → ((x : Cpu) (b : CpuBases) → h (record x { bases = b }) ≡ h x)
      → (o : Option (Class × Item)) (m : Moved State) → option_map (moved_one s from to) o ≡ Some m
      → (d : ℕ) → h (cpu_at m.state d) ≡ h (cpu_at s d)
  alike_by {X} h same None m none d = absurd (none-some m none)
  alike_by {X} h same (Some found) m is d =
      let one : moved_one s from to found ≡ m = same_Some (moved_one s from to found) m is in
      ap (λ (x : Moved State). h (cpu_at x.state d)) (sym one) ∙ one_alike h same found d

  pub moves_alike : {X : Type 0} (h : Cpu → X)
      → ((x : Cpu) (b : CpuBases) → h (record x { bases = b }) ≡ h x)
      → (m : Moved State) → moved_first s from to ≡ Some m → (d : ℕ)
      → h (cpu_at m.state d) ≡ h (cpu_at s d)
  moves_alike {X} h same m is d = alike_by h same (first_to_move (bases_at s from)) m is d

-- the tree and the time stay
frame_by : (s : State) (from to : ℕ) (o : Option (Class × Item)) (m : Moved State)
    → option_map (moved_one s from to) o ≡ Some m
    → (m.state.tree ≡ s.tree) × (m.state.clock ≡ s.clock)
frame_by s from to None m none = absurd (none-some m none)
frame_by s from to (Some (class, item)) m is =
    let same : moved_one s from to (class, item) ≡ m =
    same_Some (moved_one s from to (class, item)) m is in (
      ap (λ (x : Moved State). x.state.tree) (sym same),
      ap (λ (x : Moved State). x.state.clock) (sym same),
    )

pub moves_frame : (s : State) (from to : ℕ) (m : Moved State) → moved_first s from to ≡ Some m
    → (m.state.tree ≡ s.tree) × (m.state.clock ≡ s.clock)
moves_frame s from to m is = frame_by s from to (first_to_move (bases_at s from)) m is
