-- a walk that is past its exchange at a level stays so, whatever step is made
use Rattle.std.proofs.Common.{◌≡◌, ◌⊎◌, ℕ, ◌<◌, ◌≤◌, Bool, true, false, true≢false, Some}
use Rattle.std.proofs.Common.{None, length, refl, sym, ap, ◌∙◌, subst, arith, inl, inr}
use Rattle.std.specs.Prelude.{◌==◌, ◌||◌, option_map}
use Rattle.std.proofs.lemmas.Bool.{cases_Bool, eqb-true}
use Rattle.std.proofs.lemmas.Option.{none-some, same_Some}
use Rattle.walk_rules.specs.declared.walk.Walk.{Walk}
use Rattle.walk_rules.specs.declared.walk.Stage.TheVariants as stages
use Rattle.walk_rules.specs.Stages.{forget}
use Rattle.core_world.specs.declared.step.Step.{Step}
use Rattle.core_world.specs.declared.step.Step.TheVariants as steps
use Rattle.core_world.specs.Enabled.{Enabled, IsFree, MayGoOn, MayWalk}
use Rattle.core_world.specs.Steps.{stepped, walk_made, with_walk}
use Rattle.core_world.specs.World.{CpuRecord, World, cpu_of, group_of, own}
use Rattle.core_world.proofs.Moves.{cpu_same}
use Rattle.core_facts.specs.Exchanges.{EachGoesOn, EachStaysPast, IsPast, NoneIsPast}
use Rattle.core_facts.specs.Exchanges.{past_exchange, stage_number}
use Rattle.core_facts.specs.Reach.{EachKeeps, reach_of}
use Rattle.core_facts.proofs.ExchangesRead.{Goes, stage_goes}

-- what the step of c's walk makes of it
goes : (w : World) (c : ℕ) (k j : Walk) → MayWalk w c → (cpu_of w c).walk ≡ Some k
    → (cpu_of (walk_made w c (cpu_of w c).walk) c).walk ≡ Some j → Goes k k.stage j
goes w c k j may is becomes =
    let same : may.made ≡ k = same_Some _ _ (sym may.walk ∙ is) in
    stage_goes w c k j may.in_range k.stage
    (subst (λ (m : Walk). MayGoOn w c m m.stage) same may.may_go_on)
    (subst (λ m. (cpu_of (walk_made w c m) c).walk ≡ Some j) is becomes)

pub each_goes_on : EachGoesOn
each_goes_on w cpu k j may is becomes =
    let it = goes w cpu.0 k j may is becomes in
    record { kind = it.kind; further = it.further; exchanged = it.exchanged }

past_swap : (k : Walk) → past_exchange ≤ stage_number k.stage → k.stage ≡ stages.Swap → ⊥
past_swap k past at = let place = ap stage_number at in omega arith

-- and being past it lasts
past_goes : (level : ℕ) (k j : Walk) → Goes k k.stage j → IsPast level k → IsPast level j
past_goes level k j it (inl above) = inl (omega (arith, above, it.not_lower))
past_goes level k j it (inr past) =
    elim (it.further (λ at. absurd (past_swap k past.1 at))) [
      | inl higher ↦ inl (omega (arith, past.0, higher))
      | inr further ↦ inr (further.0 ∙ past.0, omega (arith, past.1, further.1))
    ]

-- a walk that only its reading tells apart stands where it stood
same_place : (level : ℕ) (k j : Walk) → forget j ≡ forget k → IsPast level k → IsPast level j
same_place level k j same past = subst (IsPast level) (sym same) past

-- a free CPU has no walk
not_free : {A : Type 0} (w : World) (c d : ℕ) (k : Walk) → IsFree w d → (c == d) ≡ true
    → (cpu_of w c).walk ≡ Some k → A
not_free w c d k free here is =
    let same = eqb-true c d here in
    absurd (none-some k (sym free.free ∙ subst (λ n. (cpu_of w n).walk ≡ Some k) same is))

or_cases : (a b : Bool) → (a || b) ≡ true → (a ≡ true) ⊎ (b ≡ true)
or_cases true b e = inl refl
or_cases false b e = inr e

-- a walk that was handed on is over
handed_on : {A : Type 0} (w : World) (c : ℕ) (j : Walk) → c < length w.cpus
    → (cpu_of (own w c (with_walk (cpu_of w c) None)) c).walk ≡ Some j → A
handed_on w c j low is =
    let over = cpu_same w 0 (group_of w 0) c (with_walk (cpu_of w c) None) false low in
    absurd (none-some j (sym (ap (λ (y : CpuRecord). y.walk) over) ∙ is))

module _ (w : World) (c level : ℕ) (k j : Walk) (is : (cpu_of w c).walk ≡ Some k)
    (past : IsPast level k) where
  -- a step that reaches c is one of its walk, or hands it on
  reached : (step : Step) → Enabled w step → (reach_of step).cpu c ≡ true
      → (cpu_of (stepped w step) c).walk ≡ Some j → IsPast level j
  reached (steps.Clock now) e here becomes = absurd (true≢false (sym here))
  reached (steps.Enter cpu) e here becomes = not_free w c cpu.0 k e.is_free here is
  reached (steps.Leave cpu) e here becomes = not_free w c cpu.0 k e.is_free here is
  reached (steps.Arm cpu timer class expires job arg line) e here becomes =
      not_free w c cpu.0 k e.is_free here is
  reached (steps.Cancel cpu timer by line) e here becomes = not_free w c cpu.0 k e.0.is_free here is
  reached (steps.Hand cpu timer runner) e here becomes = not_free w c cpu.0 k e.is_free here is
  reached (steps.Ticked cpu class runner) e here becomes = not_free w c cpu.0 k e.is_free here is
  reached (steps.Move from to timer) e here becomes =
      elim (or_cases (c == from.0) (c == to.0) here) [
        | inl gives ↦ not_free w c from.0 k e.from_free gives is
        | inr takes ↦ not_free w c to.0 k e.to_free takes is
      ]
  reached (steps.Idle cpu) e here becomes = not_free w c cpu.0 k e.is_free here is
  reached (steps.Wake cpu) e here becomes = not_free w c cpu.0 k e.is_free here is
  reached (steps.Offline cpu) e here becomes = not_free w c cpu.0 k e.is_free here is
  reached (steps.Online cpu) e here becomes = not_free w c cpu.0 k e.is_free here is
  reached (steps.Reeval cpu) e here becomes = not_free w c cpu.0 k e.is_free here is
  reached (steps.Take cpu by) e here becomes = not_free w c cpu.0 k e.is_free here is
  reached (steps.Carry cpu) e here becomes = not_free w c cpu.0 k e.is_free here is
  reached (steps.Release cpu) e here becomes = not_free w c cpu.0 k e.is_free here is
  reached (steps.Walk cpu) e here becomes =
      let same = eqb-true c cpu.0 here in
      past_goes level k j
      (goes w cpu.0 k j e (subst (λ n. (cpu_of w n).walk ≡ Some k) same is)
      (subst (λ n. (cpu_of (stepped w (steps.Walk cpu)) n).walk ≡ Some j) same becomes))
      past
  reached (steps.HandOn cpu to) e here becomes =
      let same = eqb-true c cpu.0 here in
      handed_on w cpu.0 j e.in_range
      (subst (λ n. (cpu_of (stepped w (steps.HandOn cpu to)) n).walk ≡ Some j) same becomes)

  stays : EachKeeps → (step : Step) → Enabled w step
      → (cpu_of (stepped w step) c).walk ≡ Some j → IsPast level j
  stays frame step e becomes = elim (cases_Bool ((reach_of step).cpu c)) [
    | inl here ↦ reached step e here becomes
    | inr apart ↦
        let beside = (((frame w step e).cpu c).others apart).walk in
        let same : Some (forget j) ≡ Some (forget k) =
        sym (ap (option_map forget) becomes) ∙ (beside ∙ ap (option_map forget) is) in
        same_place level k j (same_Some _ _ same) past
  ]

pub each_stays_past : EachKeeps → EachStaysPast
each_stays_past frame w step c level k j e is becomes past =
    stays w c level k j is past frame step e becomes

pub none_is_past : NoneIsPast
none_is_past level k (inl above) exchange same = omega (arith, above, same)
none_is_past level k (inr past) (inl up) same = let place = ap stage_number up in omega (arith, past.1)
none_is_past level k (inr past) (inr swap) same = past_swap k past.1 swap.0
