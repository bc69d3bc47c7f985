-- a trace told line by line
use Rattle.std.proofs.Common.{◌≡◌, ℕ, suc, ◌+◌, ◌*◌, ◌<◌, ◌≤◌, List, [], ◌∷◌, ◌++◌, length}
use Rattle.std.proofs.Common.{drop, map, take, refl, sym, ap, ◌∙◌, subst, arith, inl, inr, get_or}
use Rattle.std.proofs.Common.{Some, None, length-append}
use Rattle.std.specs.Prelude.{All, codes, slice_get}
use Rattle.std.proofs.lemmas.List.{append_assoc, drop_all, drop_more, length-map}
use Rattle.std.proofs.lemmas.List.{length-replicate}
use Rattle.std.proofs.lemmas.List.Elements.{All-weaker}
use Rattle.tm_base.specs.declared.limits.TheConstants.{MOST_LINES}
use Rattle.tm_base.specs.declared.names.CpuId.{CpuId}
use Rattle.tm_base.specs.declared.names.TimerId.{TimerId}
use Rattle.core_world.specs.declared.step.Step.{Step}
use Rattle.core_world.specs.Enabled.{Enabled}
use Rattle.core_world.specs.Lists.{EachEnabled, after_all}
use Rattle.core_world.specs.Start.{start_cpu}
use Rattle.core_world.specs.Steps.{stepped}
use Rattle.core_world.specs.World.{World}
use Rattle.step_causes.specs.declared.causes.Cause.{Cause}
use Rattle.trace_text.specs.declared.traces.Trace.{Trace}
use Rattle.trace_text.specs.declared.traces.TraceLine.{TraceLine}
use Rattle.trace_text.specs.declared.traces.TraceLine.TheVariants as lines
use Rattle.trace_text.specs.declared.words.Limits.{Limits}
use Rattle.trace_text.specs.Lines.{IsLine, trace_line_text as text_of}
use Rattle.trace_text.specs.Texts.{IsTrace, cpu_count, limits_of, machine_lines}
use Rattle.trace_check.specs.declared.verdict.Verdict.{Verdict}
use Rattle.trace_check.specs.declared.verdict.Verdict.TheVariants as verdicts
use Rattle.trace_check.specs.Answers.{IsVerdict, start_for, steps_of}
use Rattle.step_causes.specs.Causes.{IsCause}
use Rattle.trace_check.specs.Playing.{AsksOf}
use Rattle.trace_explain.specs.Answers.{AreAnswers}
use Rattle.trace_explain.specs.Explained.{IsExplained, made_text, refused_text, whole_text}
use Rattle.trace_explain.specs.Telling.{AddsAnswers, AddsTold, Tells}

-- ---- one line

pub refused_on : (w after : World) (made : ℕ) (step : Step) (cause : Cause) (old new : List ℕ) →
    new ≡ old ++ refused_text made cause → IsCause w (λ v. Enabled v step) cause →
    Tells w made (lines.Do step) old new after None
unfolding IsExplained
refused_on w after made step cause old new is is_cause = record {
  text = refused_text made cause;
  written = is;
  on = λ rest. inr (record {
    cause = cause;
    is_cause = is_cause;
    verdict_is = refl;
    text_is = refl;
  });
}

pub made_on : (w after : World) (made : ℕ) (step : Step) (old middle new : List ℕ) →
    Enabled w step → after ≡ stepped w step → middle ≡ old ++ made_text w made step →
    AddsAnswers after after.timers middle new →
    Tells w made (lines.Do step) old new after (Some (made + 1))
unfolding IsExplained
made_on w after made step old middle new enabled is begun adds =
    let front = made_text w made step in
    record {
      text = front ++ adds.answers;
      written =
          adds.written
          ∙ (ap (λ t. t ++ adds.answers) begun ∙ append_assoc old front adds.answers);
      on = λ rest verdict behind told. inl (record {
        enabled = enabled;
        answers = adds.answers;
        behind = behind;
        who = subst (λ (u : World). AreAnswers u u.timers adds.answers) is adds.who;
        begins = append_assoc front adds.answers behind;
        goes_on = subst (λ u. IsExplained u (made + 1) rest verdict behind) is told;
      });
    }

pub asked_on : (w : World) (made : ℕ) (cpu : CpuId) (timer : TimerId) (old new : List ℕ) →
    AddsTold w cpu.0 timer.0 old new → Tells w made (lines.Why cpu timer) old new w (Some made)
unfolding IsExplained
asked_on w made cpu timer old new adds = record {
  text = adds.told;
  written = adds.written;
  on = λ rest verdict behind told. record {
    told = adds.told;
    behind = behind;
    is_told = adds.is_told;
    begins = refl;
    goes_on = told;
  };
}

-- ---- line by line

-- so many lines were told: what is told of the others from here on is, with the text so far, what is
-- told of all
pub record IsUnderWay
    (start : World) (ls : List TraceLine) (index : ℕ) (w : World) (made : ℕ) (text : List ℕ) :
    Type 0 where
  pub few : made ≤ index
  pub cpus : length w.cpus ≡ length start.cpus
  pub on : (verdict : Verdict) (behind : List ℕ) →
      IsExplained w made (drop index ls) verdict behind →
      IsExplained start 0 ls verdict (text ++ behind)

pub begun : (start : World) (ls : List TraceLine) → IsUnderWay start ls 0 start 0 []
begun start ls = record {
  few = omega arith;
  cpus = refl;
  on = λ verdict behind told. told;
}

module _
    (start : World) (ls : List TraceLine) (index : ℕ) (w : World) (made : ℕ) (text : List ℕ)
    (u : IsUnderWay start ls index w made text)
  where
    module _
        (d : TraceLine) (low : index < length ls) (after : World) (later : List ℕ)
      where
        pub one_more : (more : ℕ) → Tells w made (get_or ls index d) text later after (Some more) →
            more ≤ made + 1 → length after.cpus ≡ length w.cpus →
            IsUnderWay start ls (index + 1) after more later
        one_more more p few same = record {
          few = let so_far = u.few in omega (arith, so_far, few);
          cpus = same ∙ u.cpus;
          on = λ verdict behind told.
              subst (IsExplained start 0 ls verdict)
              (sym (append_assoc text p.text behind) ∙ ap (λ t. t ++ behind) (sym p.written))
              (u.on verdict (p.text ++ behind)
              (subst (λ rest. IsExplained w made rest verdict (p.text ++ behind))
              (sym (drop_more ls index d low)) (p.on (drop (index + 1) ls) verdict behind told)));
        }

        pub stopped : Tells w made (get_or ls index d) text later after None →
            IsExplained start 0 ls (verdicts.No made) later
        stopped p =
            subst (IsExplained start 0 ls (verdicts.No made)) (sym p.written)
            (u.on (verdicts.No made) p.text
            (subst (λ rest. IsExplained w made rest (verdicts.No made) p.text)
            (sym (drop_more ls index d low)) (p.on (drop (index + 1) ls))))

    ended : IsExplained w made [] (verdicts.Yes made) (whole_text made)
    unfolding IsExplained
    ended = record { verdict_is = refl; text_is = refl }

    pub all_told : (later : List ℕ) → length ls ≤ index → later ≡ text ++ whole_text made →
        IsExplained start 0 ls (verdicts.Yes made) later
    all_told later high is =
        subst (IsExplained start 0 ls (verdicts.Yes made)) (sym is)
        (u.on (verdicts.Yes made) (whole_text made)
        (subst (λ rest. IsExplained w made rest (verdicts.Yes made) (whole_text made))
        (sym (drop_all index ls high)) ended))

-- ---- the verdict

-- the verdict on steps before which so many were made
abbrev pub VerdictFrom : World → (made : ℕ) → List Step → Verdict → Type 0
VerdictFrom w made steps (verdicts.Yes n) = EachEnabled w steps × (n ≡ made + length steps)
VerdictFrom w made steps (verdicts.No i) =
    (j : ℕ) × (step : Step) × (i ≡ made + j) × (slice_get steps j ≡ Some step)
    × EachEnabled w (take j steps) × (Enabled (after_all w (take j steps)) step → ⊥)

in_front : (w : World) (made : ℕ) (step : Step) (steps : List Step) (v : Verdict) →
    Enabled w step → VerdictFrom (stepped w step) (made + 1) steps v →
    VerdictFrom w made (step ∷ steps) v
in_front w made step steps (verdicts.Yes n) enabled (each, is) =
    ((enabled, each), omega (arith, is))
in_front w made step steps (verdicts.No i) enabled (j, at, is, there, each, refused) =
    (suc j, at, omega (arith, is), there, (enabled, each), refused)

verdict_from : (ls : List TraceLine) (w : World) (made : ℕ) (v : Verdict) (text : List ℕ) →
    IsExplained w made ls v text → VerdictFrom w made (steps_of ls) v
unfolding IsExplained
verdict_from [] w made v text told =
    subst (VerdictFrom w made []) (sym told.verdict_is) (tt, omega arith)
verdict_from (lines.Do step ∷ rest) w made v text (inl m) =
    in_front w made step (steps_of rest) v m.enabled
    (verdict_from rest (stepped w step) (made + 1) v m.behind m.goes_on)
verdict_from (lines.Do step ∷ rest) w made v text (inr r) =
    subst (VerdictFrom w made (step ∷ steps_of rest)) (sym r.verdict_is)
    (0, step, omega arith, refl, tt, λ may. r.is_cause.forbids w r.is_cause.so may)
verdict_from (lines.Why cpu timer ∷ rest) w made v text told =
    verdict_from rest w made v told.behind told.goes_on

whole_verdict : (w : World) (steps : List Step) (v : Verdict) → VerdictFrom w 0 steps v →
    IsVerdict w steps v
whole_verdict w steps (verdicts.Yes n) (each, is) = record {
  after = after_all w steps;
  made = record { enabled = each; done = refl };
  count_is = omega (arith, is);
}
whole_verdict w steps (verdicts.No i) (j, step, is, there, each, refused) =
    let same : j ≡ i = omega (arith, is) in
    subst (λ k. IsVerdict w steps (verdicts.No k)) same (record {
      step = step;
      there = there;
      before = after_all w (take j steps);
      made = record { enabled = each; done = refl };
      refused = refused;
    })

pub told_verdict : (w : World) (ls : List TraceLine) (v : Verdict) (text : List ℕ) →
    IsExplained w 0 ls v text → IsVerdict w (steps_of ls) v
told_verdict w ls v text told =
    whole_verdict w (steps_of ls) v (verdict_from ls w 0 v text told)

-- ---- what a trace gives

asks_of : (l : Limits) (line : TraceLine) → IsLine l line → AsksOf l.cpus line
asks_of l (lines.Do step) is = tt
asks_of l (lines.Why cpu timer) is = is.0

pub asks_in : (t : Trace) (w : World) → IsTrace t → w ≡ start_for t →
    All (AsksOf (length w.cpus)) t.lines
asks_in t w is start =
    let count : length w.cpus ≡ cpu_count t =
    ap (λ (u : World). length u.cpus) start ∙ length-replicate (t.nodes * t.cpus) start_cpu in
    subst (λ n. All (AsksOf n) t.lines) (sym count)
    (All-weaker (IsLine (limits_of t)) (AsksOf (cpu_count t)) (asks_of (limits_of t)) t.lines
    is.lines)

pub few_in : (t : Trace) → IsTrace t → length t.lines ≤ MOST_LINES
few_in t is =
    let few = is.few_lines in
    let body = length-append (map text_of t.lines) (codes "end" ∷ []) in
    let each = length-map t.lines text_of in
    let all = length-append (machine_lines t) (map text_of t.lines ++ codes "end" ∷ []) in
    omega (arith, few, body, each, all)
