-- lists of steps, one step more
use Rattle.std.proofs.Common.{◌≡◌, ℕ, ◌+◌, ◌<◌, false, true≢false, List, [], ◌∷◌, ◌++◌, length}
use Rattle.std.proofs.Common.{take, refl, sym, ap, ◌∙◌, subst, get_or}
use Rattle.std.specs.Prelude.{OnOk, Result, Ok, Err, is_err}
use Rattle.std.proofs.lemmas.List.{take_more}
use Rattle.core_world.specs.declared.step.Step.{Step}
use Rattle.core_world.specs.Enabled.{Enabled}
use Rattle.core_world.specs.Steps.{stepped}
use Rattle.core_world.specs.World.{World}
use Rattle.core_world.specs.Lists.{EachEnabled, IsRun, after_all}

after_more : (w : World) (steps : List Step) (step : Step)
    → after_all w (steps ++ step ∷ []) ≡ stepped (after_all w steps) step
after_more w [] step = refl
after_more w (first ∷ steps) step = after_more (stepped w first) steps step

each_more : (w : World) (steps : List Step) (step : Step) → EachEnabled w steps
    → Enabled (after_all w steps) step → EachEnabled w (steps ++ step ∷ [])
each_more w [] step each enabled = (enabled, tt)
each_more w (first ∷ steps) step each enabled =
    (each.0, each_more (stepped w first) steps step each.1 enabled)

of_ok : {A E : Type 0} (r : Result A E) (P : Type 0) → is_err r ≡ false → OnOk r P → P
of_ok (Ok x) P is p = p
of_ok (Err e) P is p = absurd (true≢false is)

pub one_more : {A E : Type 0} (r : Result A E) (steps : List Step) (i : ℕ) (d : Step)
    (w v u : World)
    → i < length steps → IsRun (take i steps) w v → Enabled v (get_or steps i d)
    → is_err r ≡ false → OnOk r (u ≡ stepped v (get_or steps i d))
    → IsRun (take (i + 1) steps) w u
one_more r steps i d w v u low runs enabled fine made =
    subst (λ ss. IsRun ss w u) (sym (take_more steps i d low))
    (record {
      enabled =
          each_more w (take i steps) (get_or steps i d) runs.enabled
          (subst (λ x. Enabled x (get_or steps i d)) runs.done enabled);
      done =
          of_ok r _ fine made
          ∙ (ap (λ x. stepped x (get_or steps i d)) runs.done
          ∙ sym (after_more w (take i steps) (get_or steps i d)));
    })
