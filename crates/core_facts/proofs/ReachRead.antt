-- what each step leaves as it was
use Rattle.std.proofs.Common.{◌≡◌, ◌≢◌, ℕ, ◌<◌, Bool, true, false, List}
use Rattle.std.proofs.Common.{length, get_or, Option, Some, None, refl, sym, ap, ◌∙◌, subst, arith}
use Rattle.std.proofs.Common.{inl, inr}
use Rattle.std.specs.Prelude.{◌==◌, ◌||◌, slice_set}
use Rattle.std.proofs.lemmas.Bool.{cases_eq}
use Rattle.std.proofs.lemmas.List.{get_or-set_other, get_or-set_same}
use Rattle.std.proofs.Math.ListN.{length-set}
use Rattle.tm_base.specs.declared.names.Class.{Class}
use Rattle.tm_base.specs.declared.names.CpuId.{CpuId}
use Rattle.wheel_core.specs.declared.item.Item.{Item}
use Rattle.wheel_core.specs.PlainBase.{next_out}
use Rattle.cpu_bases.specs.CpuBases.{CpuBases, base_of}
use Rattle.cpu_bases.specs.CpuBases.{class_in, found_in}
use Rattle.cpu_bases.specs.CpuBases.{oldest_in}
use Rattle.core_world.specs.declared.step.Step.TheVariants as steps
use Rattle.core_world.specs.Frames.{SameSize, SizesStay}
use Rattle.core_world.specs.Steps.{first_moved, giver, moved_with, stepped}
use Rattle.core_world.specs.Steps.{taker}
use Rattle.core_world.specs.World.{CpuRecord, World, cpu_of, no_cpu, own}
use Rattle.core_facts.specs.Reach.{CpuKeeps, EachKeeps, Grows, KeepsReach, Reach, only, reach_of}
use Rattle.core_facts.specs.Reach.{with_timers}
use Rattle.core_facts.proofs.Reaches.{Here, cancel_grows, drained_same, hand_grows, handed_grows}
use Rattle.core_facts.proofs.Reaches.{itself_reached, made_keeps, no_step, one_more, out_grows}
use Rattle.core_facts.proofs.Reaches.{own_keeps, quiet, reached, same_grows, still, timed}

-- two CPUs change, and no group
abbrev by_two : (from to : ℕ) → Reach
by_two from to = with_timers (record (only 0) { cpu = λ d. d == from || d == to })

or_right : (a b : Bool) → b ≡ true → (a || b) ≡ true
or_right true b e = refl
or_right false b e = e

or_left : (a b : Bool) → a ≡ true → (a || b) ≡ true
or_left true b e = refl
or_left false b e = cc

module _ (w : World) (from to : ℕ) (a b : CpuRecord) (low : from < length w.cpus)
    (high : to < length w.cpus) (gives : Here (by_two from to) (cpu_of w from) a)
    (takes : Here (by_two from to) (cpu_of w to) b) where
  abbrev new_cpus : List CpuRecord
  new_cpus = slice_set (slice_set w.cpus from a) to b

  at_to : get_or new_cpus to no_cpu ≡ b
  at_to =
      get_or-set_same (slice_set w.cpus from a) to b no_cpu
      (omega (arith, high, length-set w.cpus from a))

  at_from : from ≢ to → get_or new_cpus from no_cpu ≡ a
  at_from apart =
      get_or-set_other (slice_set w.cpus from a) to from b no_cpu apart
      ∙ get_or-set_same w.cpus from a no_cpu low

  at_else : (d : ℕ) → d ≢ to → d ≢ from → get_or new_cpus d no_cpu ≡ cpu_of w d
  at_else d other another =
      get_or-set_other (slice_set w.cpus from a) to d b no_cpu other
      ∙ get_or-set_other w.cpus from d a no_cpu another

  to_keeps : CpuKeeps (by_two from to) to (cpu_of w to) (get_or new_cpus to no_cpu)
  to_keeps =
      reached (by_two from to) to (cpu_of w to) (get_or new_cpus to no_cpu)
      (or_right (to == from) (to == to) (itself_reached to))
      (subst (Here (by_two from to) (cpu_of w to)) (sym at_to) takes)

  from_keeps : from ≢ to
      → CpuKeeps (by_two from to) from (cpu_of w from) (get_or new_cpus from no_cpu)
  from_keeps apart =
      reached (by_two from to) from (cpu_of w from) (get_or new_cpus from no_cpu)
      (or_left (from == from) (from == to) (itself_reached from))
      (subst (Here (by_two from to) (cpu_of w from)) (sym (at_from apart)) gives)

  two_keep : (d : ℕ) → CpuKeeps (by_two from to) d (cpu_of w d) (get_or new_cpus d no_cpu)
  two_keep d = elim (cases_eq d to) [
    | inl same ↦
        subst (λ n. CpuKeeps (by_two from to) n (cpu_of w n) (get_or new_cpus n no_cpu))
        (sym same) to_keeps
    | inr other ↦ elim (cases_eq d from) [
      | inl same ↦
          let apart : from ≢ to = λ e. other (same ∙ e) in
          subst (λ n. CpuKeeps (by_two from to) n (cpu_of w n) (get_or new_cpus n no_cpu))
          (sym same) (from_keeps apart)
      | inr another ↦
          subst (CpuKeeps (by_two from to) d (cpu_of w d)) (sym (at_else d other another))
          (still (by_two from to) d (cpu_of w d))
    ]
  ]

move_keeps : (w : World) (from to : ℕ) (m : Option (Class × Item))
    → SameSize w (moved_with w from to m) → from < length w.cpus → to < length w.cpus
    → KeepsReach (by_two from to) w (moved_with w from to m)
move_keeps w from to None size low high = no_step (by_two from to) w size
move_keeps w from to (Some (class, item)) size low high = record {
  size = size;
  clock = omega arith;
  time = λ _. refl;
  cpu =
      two_keep w from to (giver w from to class) (taker w to class item) low high
      (record {
        journal =
            out_grows (oldest_in (base_of class (cpu_of w from).bases).items) w.clock class
            (record { 0 = to }) (cpu_of w from).bases;
        unwritten = λ e. cc;
        queues = λ e. cc;
        online = λ _. refl;
      })
      (record {
        journal = one_more (cpu_of w to).bases.journal _;
        unwritten = λ e. cc;
        queues = λ e. cc;
        online = λ _. refl;
      });
  groups = λ _ g. refl;
  one_group = (0, λ g _. refl);
}

own_quiet : (w : World) (c : ℕ) (y : CpuRecord) → SameSize w (own w c y) → c < length w.cpus
    → y.bases ≡ (cpu_of w c).bases → y.online ≡ (cpu_of w c).online → KeepsReach (only c) w (own w c y)
own_quiet w c y size low same on =
    own_keeps (only c) w c y size low (itself_reached c) (quiet (only c) (cpu_of w c) y same on)

own_timed : (w : World) (c : ℕ) (y : CpuRecord) → SameSize w (own w c y) → c < length w.cpus
    → Grows (cpu_of w c).bases.journal y.bases.journal → y.online ≡ (cpu_of w c).online
    → KeepsReach (with_timers (only c)) w (own w c y)
own_timed w c y size low grows on =
    own_keeps (with_timers (only c)) w c y size low (itself_reached c)
    (timed c (cpu_of w c) y grows on)

own_plugged : (w : World) (c : ℕ) (y : CpuRecord) → SameSize w (own w c y) → c < length w.cpus
    → y.bases ≡ (cpu_of w c).bases → KeepsReach (record (only c) { online = true }) w (own w c y)
own_plugged w c y size low same =
    own_keeps (record (only c) { online = true }) w c y size low (itself_reached c) (record {
      journal = same_grows (cpu_of w c).bases y.bases same;
      unwritten = λ _. ap (λ (b : CpuBases). b.journal) same;
      queues = λ _. ap (λ (b : CpuBases). b.bases) same;
      online = λ e. cc;
    })

own_ticked : (w : World) (c : ℕ) (class : Class) (runner : CpuId)
    → SameSize w (stepped w (steps.Ticked (record { 0 = c }) class runner)) → c < length w.cpus
    → next_out w.clock (base_of class (cpu_of w c).bases) ≡ None
    → KeepsReach (record (only c) { journals = true }) w
    (stepped w (steps.Ticked (record { 0 = c }) class runner))
own_ticked w c class runner size low none =
    own_keeps (record (only c) { journals = true }) w c _ size low (itself_reached c) (record {
      journal =
          hand_grows (next_out w.clock (base_of class (cpu_of w c).bases)) w.clock class runner
          (cpu_of w c).bases;
      unwritten = λ e. cc;
      queues =
          λ _. drained_same (next_out w.clock (base_of class (cpu_of w c).bases)) w.clock class
          runner (cpu_of w c).bases none;
      online = λ _. refl;
    })

pub each_keeps : SizesStay → EachKeeps
each_keeps sizes w (steps.Clock now) e = record {
  size = sizes w (steps.Clock now);
  clock = e.not_back;
  time = λ e. cc;
  cpu = λ d. still (reach_of (steps.Clock now)) d (cpu_of w d);
  groups = λ _ g. refl;
  one_group = (0, λ g _. refl);
}
each_keeps sizes w (steps.Enter cpu) e =
    own_quiet w cpu.0 _ (sizes w (steps.Enter cpu)) e.is_free.in_range refl refl
each_keeps sizes w (steps.Leave cpu) e =
    own_quiet w cpu.0 _ (sizes w (steps.Leave cpu)) e.is_free.in_range refl refl
each_keeps sizes w (steps.Arm cpu timer class expires job arg line) e =
    own_timed w cpu.0 _ (sizes w (steps.Arm cpu timer class expires job arg line))
    e.is_free.in_range (one_more (cpu_of w cpu.0).bases.journal _) refl
each_keeps sizes w (steps.Cancel cpu timer by line) e =
    own_timed w cpu.0 _ (sizes w (steps.Cancel cpu timer by line)) e.0.is_free.in_range
    (cancel_grows (found_in timer.0 (cpu_of w cpu.0).bases) w.clock line by (cpu_of w cpu.0).bases)
    refl
each_keeps sizes w (steps.Hand cpu timer runner) e =
    own_timed w cpu.0 _ (sizes w (steps.Hand cpu timer runner)) e.is_free.in_range
    (handed_grows (class_in timer.0 (cpu_of w cpu.0).bases) w.clock runner (cpu_of w cpu.0).bases)
    refl
each_keeps sizes w (steps.Ticked cpu class runner) e =
    own_ticked w cpu.0 class runner (sizes w (steps.Ticked cpu class runner)) e.is_free.in_range
    e.none_due
each_keeps sizes w (steps.Move from to timer) e =
    move_keeps w from.0 to.0 (first_moved (cpu_of w from.0).bases)
    (sizes w (steps.Move from to timer)) e.from_free.in_range e.to_free.in_range
each_keeps sizes w (steps.Idle cpu) e =
    own_quiet w cpu.0 _ (sizes w (steps.Idle cpu)) e.is_free.in_range refl refl
each_keeps sizes w (steps.Wake cpu) e =
    own_quiet w cpu.0 _ (sizes w (steps.Wake cpu)) e.is_free.in_range refl refl
each_keeps sizes w (steps.Offline cpu) e =
    own_plugged w cpu.0 _ (sizes w (steps.Offline cpu)) e.is_free.in_range refl
each_keeps sizes w (steps.Online cpu) e =
    own_plugged w cpu.0 _ (sizes w (steps.Online cpu)) e.is_free.in_range refl
each_keeps sizes w (steps.Reeval cpu) e =
    own_quiet w cpu.0 _ (sizes w (steps.Reeval cpu)) e.is_free.in_range refl refl
each_keeps sizes w (steps.Take cpu by) e =
    own_quiet w cpu.0 _ (sizes w (steps.Take cpu by)) e.is_free.in_range refl refl
each_keeps sizes w (steps.Carry cpu) e =
    own_quiet w cpu.0 _ (sizes w (steps.Carry cpu)) e.is_free.in_range refl refl
each_keeps sizes w (steps.Release cpu) e =
    own_quiet w cpu.0 _ (sizes w (steps.Release cpu)) e.is_free.in_range refl refl
each_keeps sizes w (steps.Walk cpu) e =
    made_keeps w cpu.0 (cpu_of w cpu.0).walk (sizes w (steps.Walk cpu)) e.in_range
each_keeps sizes w (steps.HandOn cpu to) e =
    own_quiet w cpu.0 _ (sizes w (steps.HandOn cpu to)) e.in_range refl refl
