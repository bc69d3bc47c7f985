use Rattle.step_causes.specs.CauseTexts.{cause_sentence}
use Rattle.step_causes.proofs.cause_texts.push_cause.Goals as goal

pub returns-in-BehindThere : goal.returns-in-BehindThere
unfolding cause_sentence
returns-in-BehindThere c = rw c.in-BehindThere.is
    (rw c.from-in-BehindThere.ensures at
    (rw c.from-in-BehindThere-2.ensures at
    c.push_around_two-in-BehindThere.ensures))

pub returns-in-NoneDue : goal.returns-in-NoneDue
unfolding cause_sentence
returns-in-NoneDue c = rw c.in-NoneDue.is
    (rw c.from-in-NoneDue.ensures at
    (rw c.from-in-NoneDue-2.ensures at
    c.push_around_two-in-NoneDue.ensures))

pub returns-in-NotNext : goal.returns-in-NotNext
unfolding cause_sentence
returns-in-NotNext c = rw c.in-NotNext.is
    (rw c.from-in-NotNext.ensures at
    (rw c.from-in-NotNext-2.ensures at
    (rw c.from-in-NotNext-3.ensures at
    c.push_three.ensures)))

pub returns-in-NotFirst : goal.returns-in-NotFirst
unfolding cause_sentence
returns-in-NotFirst c = rw c.in-NotFirst.is
    (rw c.from-in-NotFirst.ensures at
    (rw c.from-in-NotFirst-2.ensures at
    c.push_around_two-in-NotFirst.ensures))

pub returns-in-NoRunner : goal.returns-in-NoRunner
unfolding cause_sentence
returns-in-NoRunner c = rw c.in-NoRunner.is
    (rw c.from-in-NoRunner.ensures at
    (rw c.from-in-NoRunner-2.ensures at
    c.push_two_class-in-NoRunner.ensures))

pub returns-in-NoRunnerOf : goal.returns-in-NoRunnerOf
unfolding cause_sentence
returns-in-NoRunnerOf c = rw c.in-NoRunnerOf.is
    (rw c.from-in-NoRunnerOf.ensures at
    (rw c.from-in-NoRunnerOf-2.ensures at
    (rw c.from-in-NoRunnerOf-3.ensures at
    c.push_three-in-NoRunnerOf.ensures)))
