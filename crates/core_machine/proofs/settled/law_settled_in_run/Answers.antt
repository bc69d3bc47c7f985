use Rattle.std.proofs.Common.{refl, subst, sym}
use Rattle.step_play.specs.Rules.Seen.{WalkFits, resting}
use Rattle.step_play.proofs.Worlds.{no_walk}
use Rattle.core_machine.proofs.settled.law_settled_in_run.Goals as goal

pub returns : goal.returns
returns c w lawful planned = (
  λ i. (record { free = λ d. no_walk resting w d i refl; outside = i.inside }, i.whole),
  λ (settled, whole). record {
    lawful = lawful;
    planned = planned;
    whole = whole;
    inside = settled.outside;
    marks = (c.law_rest.ensures w lawful settled).unmarked;
    walks = λ d. subst (WalkFits resting d) (sym (settled.free d)) refl;
  },
)
