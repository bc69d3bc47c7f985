-- for crates above: a core that steps lead to, and one step more
use Rattle.std.proofs.Common.{◌≡◌, ℕ, List, [], ◌∷◌, ◌++◌, Option, refl, sym, ap, ◌∙◌, subst}
use Rattle.core_world.specs.declared.step.Step.{Step}
use Rattle.core_world.specs.Enabled.{Enabled}
use Rattle.core_world.specs.Lists.{EachEnabled, after_all}
use Rattle.core_world.specs.Steps.{stepped}
use Rattle.core_world.specs.World.{World}
use Rattle.shared_words.specs.declared.layout.SharedWord.{SharedWord}
use Rattle.shared_rule.specs.declared.parts.BoxView.{BoxView}
use Rattle.shared_rule.specs.declared.parts.PassView.{PassView}
use Rattle.shared_rule.specs.Whole.{Whole, word_at}
use Rattle.shared_rule.specs.Shows.{CoreStep, StepMade, StepsLead}
use Rattle.shared_rule.specs.Rule.{Goes, Me}

after_one_more : (w : World) (steps : List Step) (step : Step)
    → after_all w (steps ++ step ∷ []) ≡ stepped (after_all w steps) step
after_one_more w [] step = refl
after_one_more w (first ∷ steps) step = after_one_more (stepped w first) steps step

each_one_more : (w : World) (steps : List Step) (step : Step) → EachEnabled w steps
    → Enabled (after_all w steps) step → EachEnabled w (steps ++ step ∷ [])
each_one_more w [] step each enabled = (enabled, tt)
each_one_more w (first ∷ steps) step each enabled =
    (each.0, each_one_more (stepped w first) steps step each.1 enabled)

pub reached_at_first : (o : World) → StepsLead o o
reached_at_first o = ([], record { enabled = tt; done = refl })

pub reached_on : (o w v : World) (step : Step) → StepsLead o w → Enabled w step
    → stepped w step ≡ v → StepsLead o v
reached_on o w v step before enabled is =
    let steps = before.0 in
    let run = before.1 in (
      steps ++ step ∷ [],
      record {
        enabled =
            each_one_more o steps step run.enabled
            (subst (λ x. Enabled x step) run.done enabled);
        done =
            sym is
            ∙ (ap (λ x. stepped x step) run.done ∙ sym (after_one_more o steps step));
      },
    )

-- a step of the whole, named otherwise for words that aren't found
pub under : (o : World) (s : Whole) (b : BoxView) (ps : List PassView) (p : SharedWord) (f : ℕ → ℕ)
    (was by : ℕ → Option CoreStep) (then : ℕ → Me → Type 0) → by (word_at s p) ≡ was (word_at s p)
    → Goes o s b ps p f was then → Goes o s b ps p f by then
under o s b ps p f was by then is g = record {
  next = g.next;
  box = g.box;
  passes = g.passes;
  shown = g.shown;
  makes = subst (λ m. StepMade m s.world g.next.world) (sym is) g.makes;
  word = g.word;
  words = g.words;
  own = g.own;
  boxes = g.boxes;
  same = g.same;
  brought = g.brought;
  others = g.others;
  told = g.told;
}
