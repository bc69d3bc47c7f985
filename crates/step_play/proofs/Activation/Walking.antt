-- for crates above: a walk that is made alone, one step more, and where it ends
use Rattle.std.proofs.Common.{◌≡◌, inl, inr, ℕ, zero, suc, ◌≤◌, cond, true, false}
use Rattle.std.proofs.Common.{refl, sym, ap, subst, arith}
use Rattle.std.proofs.lemmas.Bool.{cases_Bool}
use Rattle.core_world.specs.declared.step.Step.TheVariants as steps
use Rattle.core_world.specs.Steps.{stepped}
use Rattle.core_world.specs.World.{World, cpu_of}
use Rattle.step_play.specs.Rules.Alone.{goes_on, most_steps, walk_steps, walked_out}

-- CPU c's walk makes a step
abbrev pub onwards : (c : ℕ) → World → World
onwards c w = stepped w (steps.Walk (record { 0 = c }))

module _ (c : ℕ) where
  pub goes : (n : ℕ) (w : World) → goes_on (cpu_of w c).walk ≡ true →
      walk_steps (suc n) c w ≡ walk_steps n c (onwards c w)
  unfolding walk_steps
  goes n w e = ap (λ b. cond b (walk_steps n c (onwards c w)) w) e

  pub stays : (n : ℕ) (w : World) → goes_on (cpu_of w c).walk ≡ false → walk_steps n c w ≡ w
  unfolding walk_steps
  stays zero w e = refl
  stays (suc n) w e = ap (λ b. cond b (walk_steps n c (onwards c w)) w) e

  -- what holds of a world from which the walk makes at most so many steps
  module _ (I : ℕ → World → Type 0) where
    pub record IsEnd (w : World) : Type 0 where
      pub left : ℕ
      pub holds : I left w
      pub stands : goes_on (cpu_of w c).walk ≡ false

    module _ (steps_on : (n : ℕ) (w : World) → I (suc n) w → goes_on (cpu_of w c).walk ≡ true →
        I n (onwards c w)) (no_more : (w : World) → I 0 w → goes_on (cpu_of w c).walk ≡ false) where
      pub walks : (n m : ℕ) (w : World) → n ≤ m → I n w → IsEnd (walk_steps m c w)
      walks zero m w few h = subst IsEnd (sym (stays m w (no_more w h)))
          (record { left = 0; holds = h; stands = no_more w h })
      walks (suc n) zero w few h = absurd (omega arith)
      walks (suc n) (suc m) w few h = elim (cases_Bool (goes_on (cpu_of w c).walk)) [
        | inl on ↦ subst IsEnd (sym (goes m w on))
            (walks n m (onwards c w) (omega arith) (steps_on n w h on))
        | inr off ↦ subst IsEnd (sym (stays (suc m) w off))
            (record { left = suc n; holds = h; stands = off })
      ]

      -- THE WALK MADE TO ITS END
      pub walks_out : (n : ℕ) (w : World) → n ≤ most_steps w → I n w → IsEnd (walked_out c w)
      walks_out n w few h = walks n (most_steps w) w few h
