-- a trace played line by line
use Rattle.std.proofs.Common.{◌≡◌, ℕ, zero, suc, ◌+◌, ◌*◌, ◌<◌, ◌≤◌, List, [], ◌∷◌, ◌++◌, length}
use Rattle.std.proofs.Common.{drop, map, take, refl, sym, ap, ◌∙◌, subst, arith, inl, inr, get_or}
use Rattle.std.proofs.Common.{Some, None, length-append}
use Rattle.std.specs.Prelude.{All, codes, slice_get}
use Rattle.std.proofs.lemmas.List.{append-nil, append_assoc, drop_all, drop_more, length-map}
use Rattle.std.proofs.lemmas.List.{length-replicate}
use Rattle.std.proofs.lemmas.List.Elements.{All-weaker}
use Rattle.std.proofs.lemmas.Option.{none-some, same_Some}
use Rattle.tm_base.specs.declared.limits.TheConstants.{MOST_LINES}
use Rattle.tm_base.specs.declared.names.CpuId.{CpuId}
use Rattle.tm_base.specs.declared.names.TimerId.{TimerId}
use Rattle.tm_report.specs.declared.lines.Line.TheVariants as report
use Rattle.tm_report.specs.Lines.{line_text}
use Rattle.tree_plan.proofs.Below.{paths}
use Rattle.core_world.specs.declared.step.Step.{Step}
use Rattle.core_world.specs.Enabled.{Enabled}
use Rattle.core_world.specs.Lists.{EachEnabled, IsRun, after_all}
use Rattle.core_world.specs.Start.{start_cpu}
use Rattle.core_world.specs.Steps.{stepped}
use Rattle.core_world.specs.World.{World}
use Rattle.step_core.specs.core_state.Kept.{WorldFits}
use Rattle.trace_text.specs.declared.traces.Trace.{Trace}
use Rattle.trace_text.specs.declared.traces.TraceLine.{TraceLine}
use Rattle.trace_text.specs.declared.traces.TraceLine.TheVariants as lines
use Rattle.trace_text.specs.declared.words.Limits.{Limits}
use Rattle.trace_text.specs.Lines.{IsLine, trace_line_text as text_of}
use Rattle.trace_text.specs.Texts.{IsTrace, cpu_count, limits_of, machine_lines}
use Rattle.trace_check.specs.declared.reason.Reason.{Reason}
use Rattle.trace_check.specs.declared.reason.Reason.TheVariants as reasons
use Rattle.trace_check.specs.declared.verdict.Verdict.{Verdict}
use Rattle.trace_check.specs.declared.verdict.Verdict.TheVariants as verdicts
use Rattle.trace_check.specs.Answers.{IsCheckText, AreLinesPlayed, IsVerdict, start_for, steps_of}
use Rattle.trace_check.specs.Playing.{Asks, AsksOf, IsReasonThere, PlaysLine, WritesPlayed}
use Rattle.trace_check.specs.Reasons.{IsReason}

-- so many lines were played: what is played of the others from here on is, with what stands in the
-- report, what is played of all
pub record IsUnderWay
    (start : World) (ls : List TraceLine) (old : List ℕ) (index : ℕ) (w : World) (made : ℕ)
    (new : List ℕ) :
    Type 0 where
  pub few : made ≤ index
  pub cpus : length w.cpus ≡ length start.cpus
  pub text : List ℕ
  pub written : new ≡ old ++ text
  pub on : (verdict : Verdict) (behind : List ℕ) → AreLinesPlayed w made (drop index ls) verdict behind →
      AreLinesPlayed start 0 ls verdict (text ++ behind)

-- ---- one question

-- the group that a reason names is there
pub is_there : (w : World) → WorldFits w → (c timer : ℕ) (reason : Reason) →
    IsReason w c timer reason → IsReasonThere w reason
is_there w fits c timer (reasons.Held group cpu) is =
    let held = is.first.held in
    let low = (paths w.tree fits.planned).group_within c held.level held.in_group held.on_path in
    let count = fits.lawful.sized.groups in
    let same = is.first.group in omega (arith, low, count, same)
is_there w fits c timer (reasons.Woken cpu at) is = tt
is_there w fits c timer (reasons.Carried case) is = tt

-- ---- one line

pub refused_on : (w after : World) (made : ℕ) (step : Step) (old new : List ℕ) →
    new ≡ old ++ line_text (report.No made) → (Enabled w step → ⊥) →
    PlaysLine w made (lines.Do step) old new after None
unfolding AreLinesPlayed
refused_on w after made step old new is refused = record {
  text = line_text (report.No made);
  written = is;
  on = λ rest. inr (record { refused = refused; verdict_is = refl; text_is = refl });
}

pub made_on : (w after : World) (made : ℕ) (step : Step) (old : List ℕ) → Enabled w step →
    after ≡ stepped w step → PlaysLine w made (lines.Do step) old old after (Some (made + 1))
unfolding AreLinesPlayed
made_on w after made step old enabled is = record {
  text = [];
  written = sym (append-nil old);
  on = λ rest verdict behind played. inl (record {
    enabled = enabled;
    goes_on = subst (λ u. AreLinesPlayed u (made + 1) rest verdict behind) is played;
  });
}

pub asked_on : (w : World) (made : ℕ) (cpu : CpuId) (timer : TimerId) (old new : List ℕ) →
    Asks w made cpu timer old new → PlaysLine w made (lines.Why cpu timer) old new w (Some made)
unfolding AreLinesPlayed
asked_on w made cpu timer old new asks = record {
  text = line_text (report.Why made cpu timer asks.shown);
  written = asks.written;
  on = λ rest verdict behind played. record {
    shown = asks.shown;
    behind = behind;
    is_shown = asks.is_shown;
    begins = refl;
    goes_on = played;
  };
}

-- ---- line by line

pub begun : (start : World) (ls : List TraceLine) (old : List ℕ) →
    IsUnderWay start ls old 0 start 0 old
begun start ls old = record {
  few = omega arith;
  cpus = refl;
  text = [];
  written = sym (append-nil old);
  on = λ verdict behind played. played;
}

module _
    (start : World) (ls : List TraceLine) (old : List ℕ) (index : ℕ) (w : World) (made : ℕ)
    (new : List ℕ) (u : IsUnderWay start ls old index w made new)
  where
    module _
        (d : TraceLine) (low : index < length ls) (after : World) (later : List ℕ)
      where
        pub one_more : (more : ℕ) → PlaysLine w made (get_or ls index d) new later after (Some more) →
            more ≤ made + 1 → length after.cpus ≡ length w.cpus →
            IsUnderWay start ls old (index + 1) after more later
        one_more more p few same = record {
          few = let so_far = u.few in omega (arith, so_far, few);
          cpus = same ∙ u.cpus;
          text = u.text ++ p.text;
          written =
              p.written ∙ (ap (λ t. t ++ p.text) u.written ∙ append_assoc old u.text p.text);
          on = λ verdict behind played.
              subst (AreLinesPlayed start 0 ls verdict) (sym (append_assoc u.text p.text behind))
              (u.on verdict (p.text ++ behind)
              (subst (λ rest. AreLinesPlayed w made rest verdict (p.text ++ behind))
              (sym (drop_more ls index d low)) (p.on (drop (index + 1) ls) verdict behind played)));
        }

        pub stopped : PlaysLine w made (get_or ls index d) new later after None →
            WritesPlayed start ls (verdicts.No made) old later
        stopped p = record {
          text = u.text ++ p.text;
          written =
              p.written ∙ (ap (λ t. t ++ p.text) u.written ∙ append_assoc old u.text p.text);
          played =
              u.on (verdicts.No made) p.text
              (subst (λ rest. AreLinesPlayed w made rest (verdicts.No made) p.text)
              (sym (drop_more ls index d low)) (p.on (drop (index + 1) ls)));
        }

    ended : (text : List ℕ) → text ≡ line_text (report.Yes made) →
        AreLinesPlayed w made [] (verdicts.Yes made) text
    unfolding AreLinesPlayed
    ended text is = record { verdict_is = refl; text_is = is }

    pub all_played : (later : List ℕ) → length ls ≤ index →
        later ≡ new ++ line_text (report.Yes made) → WritesPlayed start ls (verdicts.Yes made) old later
    all_played later high is =
        let last = line_text (report.Yes made) in
        record {
          text = u.text ++ last;
          written = is ∙ (ap (λ t. t ++ last) u.written ∙ append_assoc old u.text last);
          played =
              u.on (verdicts.Yes made) last
              (subst (λ rest. AreLinesPlayed w made rest (verdicts.Yes made) last)
              (sym (drop_all index ls high)) (ended last refl));
        }

-- ---- the verdict

-- the verdict on steps before which so many were made
abbrev pub VerdictFrom : World → (made : ℕ) → List Step → Verdict → Type 0
VerdictFrom w made steps (verdicts.Yes n) = EachEnabled w steps × (n ≡ made + length steps)
VerdictFrom w made steps (verdicts.No i) =
    (j : ℕ) × (step : Step) × (i ≡ made + j) × (slice_get steps j ≡ Some step)
    × EachEnabled w (take j steps) × (Enabled (after_all w (take j steps)) step → ⊥)

in_front : (w : World) (made : ℕ) (step : Step) (steps : List Step) (v : Verdict) →
    Enabled w step → VerdictFrom (stepped w step) (made + 1) steps v →
    VerdictFrom w made (step ∷ steps) v
in_front w made step steps (verdicts.Yes n) enabled (each, is) =
    ((enabled, each), omega (arith, is))
in_front w made step steps (verdicts.No i) enabled (j, at, is, there, each, refused) =
    (suc j, at, omega (arith, is), there, (enabled, each), refused)

pub verdict_from : (ls : List TraceLine) (w : World) (made : ℕ) (v : Verdict) (text : List ℕ) →
    AreLinesPlayed w made ls v text → VerdictFrom w made (steps_of ls) v
unfolding AreLinesPlayed
verdict_from [] w made v text played =
    subst (VerdictFrom w made []) (sym played.verdict_is) (tt, omega arith)
verdict_from (lines.Do step ∷ rest) w made v text (inl m) =
    in_front w made step (steps_of rest) v m.enabled
    (verdict_from rest (stepped w step) (made + 1) v text m.goes_on)
verdict_from (lines.Do step ∷ rest) w made v text (inr r) =
    subst (VerdictFrom w made (step ∷ steps_of rest)) (sym r.verdict_is)
    (0, step, omega arith, refl, tt, r.refused)
verdict_from (lines.Why cpu timer ∷ rest) w made v text played =
    verdict_from rest w made v played.behind played.goes_on

whole_verdict : (w : World) (steps : List Step) (v : Verdict) → VerdictFrom w 0 steps v →
    IsVerdict w steps v
whole_verdict w steps (verdicts.Yes n) (each, is) = record {
  after = after_all w steps;
  made = record { enabled = each; done = refl };
  count_is = omega (arith, is);
}
whole_verdict w steps (verdicts.No i) (j, step, is, there, each, refused) =
    let same : j ≡ i = omega (arith, is) in
    subst (λ k. IsVerdict w steps (verdicts.No k)) same (record {
      step = step;
      there = there;
      before = after_all w (take j steps);
      made = record { enabled = each; done = refl };
      refused = refused;
    })

-- each step of a run is enabled where it stands
enabled_at : (w : World) (steps : List Step) (j : ℕ) (step : Step) → EachEnabled w steps →
    slice_get steps j ≡ Some step → Enabled (after_all w (take j steps)) step
enabled_at w [] j step each there = absurd (none-some step there)
enabled_at w (first ∷ steps) zero step each there =
    subst (Enabled w) (same_Some first step there) each.0
enabled_at w (first ∷ steps) (suc j) step each there =
    enabled_at (stepped w first) steps j step each.1 there

yes_where_run : (w : World) (steps : List Step) (v : Verdict) → VerdictFrom w 0 steps v →
    EachEnabled w steps → v ≡ verdicts.Yes (length steps)
yes_where_run w steps (verdicts.Yes n) (each, is) all =
    let same : n ≡ length steps = omega (arith, is) in
    ap verdicts.Yes same
yes_where_run w steps (verdicts.No i) (j, step, is, there, each, refused) all =
    absurd (refused (enabled_at w steps j step all there))

module _ (t : Trace) (w : World) (start : w ≡ start_for t) (ls : List TraceLine)
    (same : ls ≡ t.lines) where
  here : (v : Verdict) (old new : List ℕ) → (p : WritesPlayed w ls v old new) →
      AreLinesPlayed (start_for t) 0 t.lines v p.text
  here v old new p =
      subst (λ u. AreLinesPlayed u 0 t.lines v p.text) start
      (subst (λ xs. AreLinesPlayed w 0 xs v p.text) same p.played)

  module _ (v : Verdict) (old new : List ℕ) (p : WritesPlayed w ls v old new) where
    pub is_verdict : IsVerdict (start_for t) (steps_of t.lines) v
    is_verdict =
        whole_verdict (start_for t) (steps_of t.lines) v
        (verdict_from t.lines (start_for t) 0 v p.text (here v old new p))

    pub is_yes : (after : World) → IsRun (steps_of t.lines) (start_for t) after →
        v ≡ verdicts.Yes (length (steps_of t.lines))
    is_yes after run =
        yes_where_run (start_for t) (steps_of t.lines) v
        (verdict_from t.lines (start_for t) 0 v p.text (here v old new p)) run.enabled

    -- it was told into a report of its own, which was put behind another one
    pub is_text : old ≡ [] → (before after : List ℕ) → after ≡ before ++ new →
        (text : List ℕ) × (after ≡ before ++ text) × IsCheckText t text
    is_text none before after put =
        let own = p.written ∙ ap (λ (xs : List ℕ). xs ++ p.text) none in
        (p.text, put ∙ ap (λ (xs : List ℕ). before ++ xs) own, (v, here v old new p))

-- ---- what a trace gives

asks_of : (l : Limits) (line : TraceLine) → IsLine l line → AsksOf l.cpus line
asks_of l (lines.Do step) is = tt
asks_of l (lines.Why cpu timer) is = is.0

pub asks_in : (t : Trace) (w : World) → IsTrace t → w ≡ start_for t →
    All (AsksOf (length w.cpus)) t.lines
asks_in t w is start =
    let count : length w.cpus ≡ cpu_count t =
    ap (λ (u : World). length u.cpus) start ∙ length-replicate (t.nodes * t.cpus) start_cpu in
    subst (λ n. All (AsksOf n) t.lines) (sym count)
    (All-weaker (IsLine (limits_of t)) (AsksOf (cpu_count t)) (asks_of (limits_of t)) t.lines
    is.lines)

pub few_in : (t : Trace) → IsTrace t → length t.lines ≤ MOST_LINES
few_in t is =
    let few = is.few_lines in
    let body = length-append (map text_of t.lines) (codes "end" ∷ []) in
    let each = length-map t.lines text_of in
    let all = length-append (machine_lines t) (map text_of t.lines ++ codes "end" ∷ []) in
    omega (arith, few, body, each, all)
