-- bases are what their journals make of them, step by step
use Rattle.std.proofs.Common.{◌≡◌, ℕ, ◌<◌, [], ◌∷◌, false, length, get_or}
use Rattle.std.proofs.Common.{Option, Some, None, refl, sym, subst, arith, inl, inr}
use Rattle.std.specs.Prelude.{slice_set}
use Rattle.std.proofs.lemmas.Bool.{cases_eq}
use Rattle.std.proofs.lemmas.List.{get_or-set_other, get_or-set_same}
use Rattle.std.proofs.Math.ListN.{length-set}
use Rattle.tm_base.specs.declared.names.Class.{Class}
use Rattle.tm_base.specs.declared.names.CpuId.{CpuId}
use Rattle.wheel_core.specs.declared.item.Item.{Item}
use Rattle.cpu_bases.specs.CpuBases.{CpuBases, armed, class_in, empty_bases}
use Rattle.cpu_bases.specs.Laws.{CancellingKeeps, HandingOutKeeps, MovingOutKeeps}
use Rattle.cpu_bases.specs.Laws.{ReplaysOn}
use Rattle.cpu_bases.specs.Replay.{AddsReplay}
use Rattle.cpu_bases.proofs.Replays.{adds_none}
use Rattle.core_world.specs.declared.step.Step.{Step}
use Rattle.core_world.specs.declared.step.Step.TheVariants as steps
use Rattle.core_world.specs.Enabled.{Enabled}
use Rattle.core_world.specs.Lawful.{IsLawful}
use Rattle.core_world.specs.Steps.{first_moved, giver, handed_of, moved_with, stepped, taker}
use Rattle.core_world.specs.Steps.{with_bases}
use Rattle.core_world.specs.World.{CpuRecord, World, cpu_of, group_of, no_cpu, own}
use Rattle.core_world.proofs.Moves.{cpu_else, cpu_same}
use Rattle.core_facts.specs.Played.{EachAddsReplay, StaysPlayed}
use Rattle.core_facts.specs.Reach.{CpuKeeps, EachKeeps, Reach, reach_of}

-- the calls that may take something out, as they keep the replay
record Calls : Type 0 where
  cancelling : CancellingKeeps
  handing_out : HandingOutKeeps
  moving_out : MovingOutKeeps

same_adds : (old new : CpuBases) → new ≡ old → AddsReplay old new
same_adds old new same = subst (AddsReplay old) (sym same) (adds_none old)

armed_adds : (now : ℕ) (class : Class) (timer expires job arg line : ℕ) (by : CpuId)
    (b : CpuBases) → AddsReplay b (armed now class timer expires job arg line by b)
armed_adds now class timer expires job arg line by b = record {
  more = _ ∷ [];
  grows = refl;
  bases = refl;
  says = (refl, tt);
}

-- a step that reaches neither queues nor journals
quiet_adds : (r : Reach) (d : ℕ) (old new : CpuRecord) → CpuKeeps r d old new → r.journals ≡ false
    → r.queues ≡ false → AddsReplay old.bases new.bases
quiet_adds r d old new keeps unwritten unqueued =
    let journal = keeps.unwritten unwritten in
    let bases = keeps.queues unqueued in
    same_adds old.bases new.bases (λ i. record { bases = bases i; journal = journal i })

-- one CPU's timers change
own_adds : (w : World) (c : ℕ) (y : CpuRecord) → c < length w.cpus
    → AddsReplay (cpu_of w c).bases y.bases → (d : ℕ)
    → AddsReplay (cpu_of w d).bases (cpu_of (own w c y) d).bases
own_adds w c y low adds d =
    let A : (n : ℕ) → CpuRecord → Type 0 = λ n z. AddsReplay (cpu_of w n).bases z.bases in
    elim (cases_eq d c) [
      | inl same ↦
          subst (λ n. A n (cpu_of (own w c y) n)) (sym same)
          (subst (A c) (sym (cpu_same w 0 (group_of w 0) c y false low)) adds)
      | inr apart ↦
          subst (A d) (sym (cpu_else w 0 (group_of w 0) c y false d apart))
          (adds_none (cpu_of w d).bases)
    ]

two_add : (w : World) (from to : ℕ) (a b : CpuRecord) → from < length w.cpus → to < length w.cpus
    → AddsReplay (cpu_of w from).bases a.bases → AddsReplay (cpu_of w to).bases b.bases → (d : ℕ)
    → AddsReplay (cpu_of w d).bases
    (get_or (slice_set (slice_set w.cpus from a) to b) d no_cpu).bases
two_add w from to a b low high gives takes d =
    let A : (n : ℕ) → CpuRecord → Type 0 = λ n z. AddsReplay (cpu_of w n).bases z.bases in
    let first = slice_set w.cpus from a in
    let new = slice_set first to b in
    elim (cases_eq d to) [
      | inl same ↦
          subst (λ n. A n (get_or new n no_cpu)) (sym same)
          (subst (A to)
          (sym (get_or-set_same first to b no_cpu (omega (arith, high, length-set w.cpus from a))))
          takes)
      | inr other ↦
          subst (A d) (sym (get_or-set_other first to d b no_cpu other))
          (elim (cases_eq d from) [
            | inl same ↦
                subst (λ n. A n (get_or first n no_cpu)) (sym same)
                (subst (A from) (sym (get_or-set_same w.cpus from a no_cpu low)) gives)
            | inr another ↦
                subst (A d) (sym (get_or-set_other w.cpus from d a no_cpu another))
                (adds_none (cpu_of w d).bases)
          ])
    ]

module _ (calls : Calls) (w : World) (l : IsLawful w) where
  handed_adds : (class : Option Class) (runner : CpuId) (c : ℕ)
      → AddsReplay (cpu_of w c).bases (handed_of w.clock class runner (cpu_of w c).bases)
  handed_adds None runner c = adds_none (cpu_of w c).bases
  handed_adds (Some class) runner c =
      let in_time = l.times.clock in
      (calls.handing_out w.clock class runner (cpu_of w c).bases (omega arith)
      (l.timers.consistent c)).1.replay

  move_adds : (from to : ℕ) (m : Option (Class × Item)) → from < length w.cpus
      → to < length w.cpus → (d : ℕ)
      → AddsReplay (cpu_of w d).bases (cpu_of (moved_with w from to m) d).bases
  move_adds from to None low high d = adds_none (cpu_of w d).bases
  move_adds from to (Some (class, item)) low high d =
      two_add w from to (giver w from to class) (taker w to class item) low high
      ((calls.moving_out w.clock class (record { 0 = to }) (cpu_of w from).bases
      (l.timers.consistent from)).1.replay)
      (record { more = _ ∷ []; grows = refl; bases = refl; says = (refl, tt) }) d

  stays_adds : EachKeeps → (step : Step) → Enabled w step → (d : ℕ)
      → (reach_of step).journals ≡ false → (reach_of step).queues ≡ false
      → AddsReplay (cpu_of w d).bases (cpu_of (stepped w step) d).bases
  stays_adds frame step e d =
      quiet_adds (reach_of step) d (cpu_of w d) (cpu_of (stepped w step) d)
      ((frame w step e).cpu d)

  step_adds : EachKeeps → (step : Step) → Enabled w step → (d : ℕ)
      → AddsReplay (cpu_of w d).bases (cpu_of (stepped w step) d).bases
  step_adds frame (steps.Clock now) e d =
      stays_adds frame (steps.Clock now) e d refl refl
  step_adds frame (steps.Enter cpu) e d =
      stays_adds frame (steps.Enter cpu) e d refl refl
  step_adds frame (steps.Leave cpu) e d =
      stays_adds frame (steps.Leave cpu) e d refl refl
  step_adds frame (steps.Arm cpu timer class expires job arg line) e d =
      own_adds w cpu.0
      (with_bases (cpu_of w cpu.0)
      (armed w.clock class timer.0 expires job arg line cpu (cpu_of w cpu.0).bases))
      e.is_free.in_range
      (armed_adds w.clock class timer.0 expires job arg line cpu (cpu_of w cpu.0).bases) d
  step_adds frame (steps.Cancel cpu timer by line) e d =
      own_adds w cpu.0 _ e.0.is_free.in_range
      (calls.cancelling w.clock timer.0 line by (cpu_of w cpu.0).bases
      (l.timers.consistent cpu.0)).1.replay d
  step_adds frame (steps.Hand cpu timer runner) e d =
      own_adds w cpu.0 _ e.is_free.in_range
      (handed_adds (class_in timer.0 (cpu_of w cpu.0).bases) runner cpu.0) d
  step_adds frame (steps.Ticked cpu class runner) e d =
      own_adds w cpu.0 _ e.is_free.in_range (handed_adds (Some class) runner cpu.0) d
  step_adds frame (steps.Move from to timer) e d =
      move_adds from.0 to.0 (first_moved (cpu_of w from.0).bases) e.from_free.in_range
      e.to_free.in_range d
  step_adds frame (steps.Idle cpu) e d =
      stays_adds frame (steps.Idle cpu) e d refl refl
  step_adds frame (steps.Wake cpu) e d =
      stays_adds frame (steps.Wake cpu) e d refl refl
  step_adds frame (steps.Offline cpu) e d =
      stays_adds frame (steps.Offline cpu) e d refl refl
  step_adds frame (steps.Online cpu) e d =
      stays_adds frame (steps.Online cpu) e d refl refl
  step_adds frame (steps.Reeval cpu) e d =
      stays_adds frame (steps.Reeval cpu) e d refl refl
  step_adds frame (steps.Take cpu by) e d =
      stays_adds frame (steps.Take cpu by) e d refl refl
  step_adds frame (steps.Carry cpu) e d =
      stays_adds frame (steps.Carry cpu) e d refl refl
  step_adds frame (steps.Release cpu) e d =
      stays_adds frame (steps.Release cpu) e d refl refl
  step_adds frame (steps.Walk cpu) e d =
      stays_adds frame (steps.Walk cpu) e d refl refl
  step_adds frame (steps.HandOn cpu to) e d =
      stays_adds frame (steps.HandOn cpu to) e d refl refl

pub each_adds : EachKeeps → CancellingKeeps → HandingOutKeeps → MovingOutKeeps → EachAddsReplay
each_adds frame cancelling handing moving w step l e d =
    let calls : Calls = record {
      cancelling = cancelling;
      handing_out = handing;
      moving_out = moving;
    } in
    step_adds calls w l frame step e d

pub stays_played : EachAddsReplay → ReplaysOn → StaysPlayed
stays_played adds replays w step l e played c =
    replays (cpu_of w c).bases (cpu_of (stepped w step) c).bases (adds w step l e c)
    empty_bases.bases (played c)
