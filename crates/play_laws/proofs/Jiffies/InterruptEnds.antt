-- an interrupt ends, and then all interrupts of a moment
use Rattle.std.proofs.Common.{◌≡◌, ℕ, ◌+◌, ◌<◌, ◌≤◌, Bool, true, false, refl, sym, ◌∙◌, subst}
use Rattle.std.proofs.Common.{arith, inl, inr, min}
use Rattle.std.specs.Prelude.{All, if◌then◌else◌}
use Rattle.std.specs.Ordering.{nat_cmp}
use Rattle.std.specs.FinSet as set
use Rattle.std.proofs.lemmas.Bool.{both_ways, cases_Bool, cases_eq}
use Rattle.cpu_bases.specs.CpuBases.{base_of}
use Rattle.tm_base.specs.declared.names.TheConstants.{NEVER}
use Rattle.tm_base.specs.declared.names.Class.TheVariants.{Pinned, Global}
use Rattle.play_rules.specs.State.{Cpu, State, cpu_at, has_group, with_cpu}
use Rattle.play_rules.specs.Hierarchy.{duty, next_of, pin_of, reevaluated, told_again}
use Rattle.play_rules.specs.Play.{ended}
use Rattle.play_laws.proofs.Jiffies.Inside.{Awaits, InTurn, Inside, IsEmpty, written_inside, inside_as}
use Rattle.play_laws.proofs.Jiffies.InterruptSteps.{Begun, Between, HadBefore, HadOwn, Looked, Rested}
use Rattle.play_laws.proofs.Jiffies.InterruptSteps.{SeenBefore}
use Rattle.play_laws.proofs.Jiffies.Machines.{holds_as, kept_bases}
use Rattle.play_laws.proofs.Jiffies.Waking.{From, Waking}

module _ (cpus levels now : ℕ) (due : set.FinSet nat_cmp) where
  own_now : (c asked d : ℕ) → asked ≤ 3 → set.contains due c ≡ true → HadBefore due (c + 1) d
      → HadOwn due c 3 asked d
  own_now c asked d few is (is_due, low) =
      elim (cases_eq d c) [
        | inl same ↦ inr (same, few)
        | inr other ↦ inl (is_due, omega (arith, low, other))
      ]

  -- a CPU that is due an interrupt tells and wakes as it likes
  module _ (HadP HadG : ℕ → Type 0) (Seen : (c level : ℕ) → Type 0) (c : ℕ) (s : State)
      (inside : Inside cpus levels now due HadP HadG Seen s) (low : c < cpus)
      (is_due : set.contains due c ≡ true) where
    rewritten : (x : Cpu) → x.online ≡ (cpu_at s c).online → x.idle ≡ (cpu_at s c).idle
        → x.bases ≡ (cpu_at s c).bases
        → Inside cpus levels now due HadP HadG Seen (with_cpu s c x)
    rewritten x online idle bases =
        let is = (inside.holds.each c low).is in
        let Turn = InTurn s.clock due HadP HadG (Awaits cpus levels inside.from due Seen) in
        written_inside cpus levels now due HadP HadG Seen s inside c low HadP HadG x online idle
        (kept_bases cpus Turn Turn s inside.holds c low x bases
        (record {
          late = λ on. subst (λ b. Waking s.clock b) (sym bases) (is.late (sym online ∙ on));
          away = λ off. subst IsEmpty (sym bases) (is.away (sym online ∙ off));
          had_pinned =
              λ had. subst (λ b. All (From (s.clock + 1)) (base_of Pinned b).items) (sym bases)
              (is.had_pinned had);
          had_global =
              λ had. subst (λ b. All (From (s.clock + 1)) (base_of Global b).items) (sym bases)
              (is.had_global had);
          pinned = λ out. absurd (both_ways (set.contains due c) out is_due);
          global = λ out. absurd (both_ways (set.contains due c) out is_due);
          watched = λ out. absurd (both_ways (set.contains due c) out is_due);
        })
        (λ d below other was. was))

  evaluated : (c : ℕ) (s : State) → c < cpus → set.contains due c ≡ true
      → Looked cpus levels now due c s
      → Looked cpus levels now due c (reevaluated s c)
  evaluated c s low is inside =
      let P = HadOwn due c 3 1 in
      let G = HadOwn due c 3 2 in
      let told = rewritten P G (SeenBefore (c + 1)) c s inside low is
      (record (cpu_at s c) { told = if has_group s c then next_of s c else NEVER }) refl refl refl
      in
      let t = told_again s c in
      rewritten P G (SeenBefore (c + 1)) c t told low is
      (record (cpu_at t c) { wakeup = min (pin_of t c) (duty t c) }) refl refl refl

  ended_by : (b : Bool) (c : ℕ) (s : State) → c < cpus → set.contains due c ≡ true
      → Looked cpus levels now due c s
      → Looked cpus levels now due c (if b then reevaluated s c else s)
  ended_by true c s low is looked = evaluated c s low is looked
  ended_by false c s low is looked = looked

  pub ends_one : (c : ℕ) (s : State) → c < cpus → set.contains due c ≡ true
      → Looked cpus levels now due c s
      → Begun cpus levels now due (c + 1) (ended s c)
  ends_one c s low is looked =
      inside_as cpus levels now due (HadOwn due c 3 1) (HadOwn due c 3 2) (HadBefore due (c + 1))
      (HadBefore due (c + 1))
      (SeenBefore (c + 1)) (SeenBefore (c + 1)) (ended s c)
      (ended_by (cpu_at s c).idle c s low is looked)
      (λ d had. own_now c 1 d (omega arith) is had) (λ d had. own_now c 2 d (omega arith) is had)
      (λ d below awaits. inr awaits)

  -- ALL INTERRUPTS are over
  pub ends_all : (s : State) → Begun cpus levels now due cpus s → Between cpus levels now s
  ends_all s inside = record {
    at = inside.at;
    levels_are = inside.levels_are;
    some_online = inside.some_online;
    holds =
        holds_as cpus
        (InTurn s.clock due (HadBefore due cpus) (HadBefore due cpus)
        (Awaits cpus levels inside.from due (SeenBefore cpus)))
        (Rested s.clock) s inside.holds
        (λ d low is. record {
          waking = λ on. record {
            pinned = (elim (cases_Bool (set.contains due d)) [
              | inl in_due ↦ is.had_pinned (in_due, low)
              | inr out ↦ is.pinned out on
            ]);
            global = (elim (cases_Bool (set.contains due d)) [
              | inl in_due ↦ is.had_global (in_due, low)
              | inr out ↦
                  elim (is.watched out on) [
                    | inl told ↦ is.global out on told
                    | inr (c, level, covers, unseen) ↦ absurd (unseen covers.low)
                  ]
            ]);
          };
          away = is.away;
        });
  }
