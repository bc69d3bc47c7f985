-- for crates above: a pass after loads
use Rattle.std.proofs.Common.{◌≡◌, ℕ, List, [], ◌∷◌, ◌++◌, Option, Some, None, refl, ap, ◌∙◌}
use Rattle.std.specs.Prelude.{option_map}
use Rattle.atomic_table.specs.Seated.{TableId}
use Rattle.core_world.specs.World.{World}
use Rattle.shared_cpus.specs.shared_rule.declared.parts.Look.{Look}
use Rattle.shared_cpus.specs.shared_rule.declared.parts.PassView.{PassView}
use Rattle.shared_cpus.specs.shared_rule.Plays.{seen_pass}
use Rattle.shared_cpus.specs.shared_rule.Rule.{Each}
use Rattle.shared_cpus.specs.shared_rule.Passes.{HeldPass, IsOfRun, Seated, with_pass}
use Rattle.shared_looks.specs.Looks.{IsPassBegunWith, seen_all}

-- a seat whose pass changes
abbrev changed : (PassView → PassView) → Option Seated → Option Seated
changed f m = option_map (λ (x : Seated). record x { pass = f x.pass }) m

both : (f h : PassView → PassView) (m : Option Seated)
    → changed f (changed h m) ≡ changed (λ p. f (h p)) m
both f h None = refl
both f h (Some x) = refl

none : (m : Option Seated) → changed (λ p. p) m ≡ m
none None = refl
none (Some x) = refl

-- no load leaves a pass as it was
pub no_loads : (held : HeldPass) → with_pass (seen_all []) held ≡ held
no_loads held = ap (λ m. record held { seated = m }) (none held.seated)

-- loads after a first one
pub loads_after : (x : Look) (xs : List Look) (held : HeldPass)
    → with_pass (seen_all xs) (with_pass (seen_pass x.word x.found) held)
    ≡ with_pass (seen_all (x ∷ xs)) held
loads_after x xs held =
    ap (λ m. record held { seated = m })
    (both (seen_all xs) (seen_pass x.word x.found) held.seated)

one_more : (xs : List Look) (x : Look) (p : PassView)
    → seen_pass x.word x.found (seen_all xs p) ≡ seen_all (xs ++ x ∷ []) p
one_more [] x p = refl
one_more (y ∷ ys) x p = one_more ys x (seen_pass y.word y.found p)

-- one load more
pub more_loads : (xs : List Look) (x : Look) (held : HeldPass)
    → with_pass (seen_pass x.word x.found) (with_pass (seen_all xs) held)
    ≡ with_pass (seen_all (xs ++ x ∷ [])) held
more_loads xs x held =
    ap (λ m. record held { seated = m })
    (both (seen_pass x.word x.found) (seen_all xs) held.seated
    ∙ (λ i. changed (λ p. one_more xs x p i) held.seated))

-- what holds of each load holds of one more
pub each_more : (P : Look → Type 0) (xs : List Look) (x : Look) → Each P xs → P x
    → Each P (xs ++ x ∷ [])
each_more P [] x all one = (one, tt)
each_more P (y ∷ ys) x all one = (all.0, each_more P ys x all.1 one)

-- it is the run's as before
pub still_of : (table : TableId) (o : World) (held after : HeldPass) (word found : ℕ)
    → IsPassBegunWith table o held → after ≡ with_pass (seen_pass word found) held
    → IsPassBegunWith table o after
still_of table o held after word found is same = record {
  pass = seen_pass word found is.pass;
  seated = ap (λ (z : HeldPass). z.seated) same ∙ ap (changed (seen_pass word found)) is.seated;
  opening = is.opening;
}

pub of_run : (table : TableId) (o : World) (held : HeldPass) → IsPassBegunWith table o held
    → IsOfRun table held
of_run table o held is = (is.pass, is.seated)
