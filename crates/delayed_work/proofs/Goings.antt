-- how a play goes on, moment by moment
use Rattle.std.proofs.Common.{◌≡◌, ℕ, zero, suc, ◌+◌, ◌*◌, ◌<◌, ◌≤◌, true, false, leb, eqb, List, [], ◌∷◌, length, Option, Some, None, refl, sym, ap, subst, ◌∙◌, arith, inl, inr}
use Rattle.std.proofs.Math.Nat.{mul-le-mul_right}
use Rattle.std.proofs.lemmas.Bool.{cases_Bool, cond-true, cond-false, le-leb, leb-false, lt-leb}
use Rattle.std.proofs.lemmas.List.{length-replicate}
use Rattle.tm_base.specs.declared.limits.TheConstants.{WORK_LIMIT_V1}
use Rattle.work_script.specs.declared.syntax.WorkScript.{WorkScript}
use Rattle.work_script.specs.declared.syntax.WorkMoment.{WorkMoment}
use Rattle.work_script.specs.declared.syntax.WorkOp.{WorkOp}
use Rattle.work_script.specs.declared.syntax.WorkOp.TheVariants.{Queue, Cancel}
use Rattle.work_script.specs.Grammar.{AreWorkMoments, AreWorkOps, IsWorkScript, first_line}
use Rattle.delayed_work.specs.declared.faults.WorksFault.TheVariants.{WorkSpent}
use Rattle.delayed_work.specs.declared.standing.Standing.TheVariants.{Free}
use Rattle.delayed_work.specs.Calls.{WorkReplies}
use Rattle.delayed_work.specs.Play.{Finished, Outcome, Playing, PlaysEnd, Spent, Stand, Unfinished, count_after, works_moment, work_moments_after, next_works_moment, work_ops_at, works_play_start, played_from, playing_after, stand_after, moment_work, works_played}
use Rattle.delayed_work.specs.Playable.{AreAllInRange, AreInRange, BreaksOffPlay, StaysPlayable, StandsToPlay}

-- ---- no play is unfinished

plays_end : (replies : WorkReplies) (end n : ℕ) (s : Stand) → WORK_LIMIT_V1 ≤ n + s.count → s.count < WORK_LIMIT_V1 → played_from replies n end s ≡ Unfinished → ⊥
unfolding played_from
plays_end replies end zero s enough low e = absurd (omega (arith, enough, low))
plays_end replies end (suc n) s enough low e = elim (cases_Bool (leb end s.now)) [
  | inl over ↦ absurd (let no = sym (cond-true (leb end s.now) _ _ over) ∙ e in cc)
  | inr more ↦ elim (cases_Bool (leb WORK_LIMIT_V1 (count_after s))) [
    | inl spent ↦ absurd (let no = sym (cond-false (leb end s.now) _ _ more ∙ cond-true (leb WORK_LIMIT_V1 (count_after s)) _ _ spent) ∙ e in cc)
    | inr room ↦
        let below : count_after s < WORK_LIMIT_V1 = leb-false WORK_LIMIT_V1 (count_after s) room in
        plays_end replies end n (stand_after replies end s) (omega (arith, enough)) below
        (sym (cond-false (leb end s.now) _ _ more ∙ cond-false (leb WORK_LIMIT_V1 (count_after s)) _ _ room) ∙ e)
  ]
]

pub all_end : PlaysEnd
all_end replies script e = plays_end replies script.end WORK_LIMIT_V1 (works_play_start script) (omega arith) (omega arith) e

-- ---- the start

ops_in_range : (count line : ℕ) (os : List WorkOp) → AreWorkOps count line os → AreInRange count os
ops_in_range count line [] h = tt
ops_in_range count line (Queue own work delay job arg ∷ os) h = (h.0.1.work_in_range, ops_in_range count (line + 1) os h.1)
ops_in_range count line (Cancel own work ∷ os) h = (h.0.1, ops_in_range count (line + 1) os h.1)

moments_in_range : (count line : ℕ) (last : Option ℕ) (end : ℕ) (ms : List WorkMoment) → AreWorkMoments count line last end ms → AreAllInRange count ms
moments_in_range count line last end [] h = tt
moments_in_range count line last end (m ∷ ms) h =
    (ops_in_range count (line + 1) m.ops h.2, moments_in_range count (line + 1 + length m.ops) (Some m.at) end ms h.3)

pub stands_first : (replies : WorkReplies) (script : WorkScript) (p : Playing) → IsWorkScript script → p ≡ (works_play_start script).playing
    → StandsToPlay replies script.end script.count (record { now = 0; moments = script.moments; count = 0; playing = p }) (works_played replies script)
stands_first replies script p is same =
    subst (λ q. StandsToPlay replies script.end script.count (record { now = 0; moments = script.moments; count = 0; playing = q }) (works_played replies script)) (sym same)
    (record {
      going = λ low. record { moments = WORK_LIMIT_V1; enough = omega arith; same = refl };
      spent = λ high. absurd (omega (arith, high));
      work = omega arith;
      in_time = omega arith;
      time = omega arith;
      len = length-replicate script.count Free;
      ranges = moments_in_range script.count first_line None script.end script.moments is.moments;
    })

-- ---- one moment

ops_at_range : (count now : ℕ) (ms : List WorkMoment) → AreAllInRange count ms → AreInRange count (work_ops_at now ms) × AreAllInRange count (work_moments_after now ms)
ops_at_range count now [] h = (tt, tt)
ops_at_range count now (m ∷ ms) h = elim (cases_Bool (eqb m.at now)) [
  | inl here ↦ (
    subst (λ os. AreInRange count os) (sym (cond-true (eqb m.at now) m.ops [] here)) h.0,
    subst (λ ns. AreAllInRange count ns) (sym (cond-true (eqb m.at now) ms (m ∷ ms) here)) h.1,
  )
  | inr out ↦ (
    subst (λ os. AreInRange count os) (sym (cond-false (eqb m.at now) m.ops [] out)) tt,
    subst (λ ns. AreAllInRange count ns) (sym (cond-false (eqb m.at now) ms (m ∷ ms) out)) h,
  )
]

pub turn_range : (count n now : ℕ) (ms : List WorkMoment) (ops : List WorkOp) → AreAllInRange count ms → ops ≡ work_ops_at now ms → n ≡ count → AreInRange n ops
turn_range count n now ms ops h is len =
    let at : AreInRange count ops = subst (λ os. AreInRange count os) (sym is) (ops_at_range count now ms h).0 in
    subst (λ k. AreInRange k ops) (sym len) at

more_times : (now next b count work : ℕ) → count ≤ now * b → work ≤ b → now < next → count + work ≤ next * b
more_times now next b count work low few later =
    let grown : (now + 1) * b ≤ next * b = mul-le-mul_right b (omega (arith, later)) in
    let same : (now + 1) * b ≡ now * b + b = omega arith in
    omega (arith, low, few, grown, same)

module _ (replies : WorkReplies) (end count : ℕ) (s : Stand) (outcome : Outcome) (ops : List WorkOp) (after : Playing)
    (ops_is : ops ≡ work_ops_at s.now s.moments) (after_is : after ≡ works_moment replies s.now ops s.playing) where
  after_same : after ≡ playing_after replies s
  after_same = after_is ∙ ap (λ (os : List WorkOp). works_moment replies s.now os s.playing) ops_is

  record Step : Type 0 where
    behind : ℕ
    enough : WORK_LIMIT_V1 ≤ suc behind + s.count
    same : played_from replies (suc behind) end s ≡ outcome

  step : StandsToPlay replies end count s outcome → s.count < WORK_LIMIT_V1 → Step
  step st low = let g = st.going low in by g.moments g.enough g.same
    where
      by : (n : ℕ) → WORK_LIMIT_V1 ≤ n + s.count → played_from replies n end s ≡ outcome → Step
      by zero enough same = absurd (omega (arith, low, enough))
      by (suc m) enough same = record { behind = m; enough = enough; same = same }

  pub stands_end : StandsToPlay replies end count s outcome → s.count < WORK_LIMIT_V1 → end ≤ s.now → outcome ≡ Finished after
  unfolding played_from
  stands_end st low over =
      let g = step st low in
      sym g.same ∙ cond-true (leb end s.now) _ _ (le-leb end s.now over) ∙ ap (λ (p : Playing). Finished p) (sym after_same)

  module _ (behind : List WorkMoment) (work next : ℕ) (behind_is : behind ≡ work_moments_after s.now s.moments) (work_is : work ≡ moment_work s.now ops s.playing)
      (next_is : next ≡ next_works_moment s.now end behind after.works) where
    abbrev new : Stand
    new = record { now = next; moments = behind; count = s.count + work; playing = after }

    work_same : work ≡ moment_work s.now (work_ops_at s.now s.moments) s.playing
    work_same = work_is ∙ ap (λ (os : List WorkOp). moment_work s.now os s.playing) ops_is

    count_same : s.count + work ≡ count_after s
    count_same = ap (λ n. s.count + n) work_same

    next_same : next ≡ next_works_moment s.now end (work_moments_after s.now s.moments) (playing_after replies s).works
    next_same = next_is ∙ (λ i. next_works_moment s.now end (behind_is i) (after_same i).works)

    new_same : new ≡ stand_after replies end s
    new_same = λ i. record { now = next_same i; moments = behind_is i; count = count_same i; playing = after_same i }

    on : (m : ℕ) → s.now < end → s.count + work < WORK_LIMIT_V1 → played_from replies (suc m) end s ≡ played_from replies m end new
    unfolding played_from
    on m early low =
        let room : leb WORK_LIMIT_V1 (count_after s) ≡ false = ap (leb WORK_LIMIT_V1) (sym count_same) ∙ lt-leb WORK_LIMIT_V1 (s.count + work) low in
        cond-false (leb end s.now) _ _ (lt-leb end s.now early) ∙ cond-false (leb WORK_LIMIT_V1 (count_after s)) _ _ room
        ∙ ap (played_from replies m end) (sym new_same)

    out : (m : ℕ) → s.now < end → WORK_LIMIT_V1 ≤ s.count + work → played_from replies (suc m) end s ≡ Spent (s.count + work)
    unfolding played_from
    out m early high =
        let full : leb WORK_LIMIT_V1 (count_after s) ≡ true = ap (leb WORK_LIMIT_V1) (sym count_same) ∙ le-leb WORK_LIMIT_V1 (s.count + work) high in
        cond-false (leb end s.now) _ _ (lt-leb end s.now early) ∙ cond-true (leb WORK_LIMIT_V1 (count_after s)) _ _ full
        ∙ ap (λ n. Spent n) (sym count_same)

    pub stands_next : StandsToPlay replies end count s outcome → s.count < WORK_LIMIT_V1 → s.now < end → work ≤ 1 + count → StaysPlayable s.now s.playing after → s.now < next → next ≤ end
        → StandsToPlay replies end count new outcome
    stands_next st low early few keeps later last =
        let g = step st low in
        let some : 1 ≤ work = omega (arith, work_is) in
        record {
          going = λ low. record { moments = g.behind; enough = (let enough = g.enough in omega (arith, enough, some)); same = sym (on g.behind early low) ∙ g.same };
          spent = λ high. sym g.same ∙ out g.behind early high;
          work = more_times s.now next (1 + count) s.count work st.work few later;
          in_time = last;
          time = (let time = keeps.time in omega (arith, time, later));
          len = keeps.len ∙ st.len;
          ranges = subst (λ ms. AreAllInRange count ms) (sym behind_is) (ops_at_range count s.now s.moments st.ranges).1;
        }

pub stands_spent : (replies : WorkReplies) (end count : ℕ) (s : Stand) (outcome : Outcome) → StandsToPlay replies end count s outcome → WORK_LIMIT_V1 ≤ s.count → BreaksOffPlay end count outcome (WorkSpent s.count)
stands_spent replies end count s outcome st high =
    let grown : s.now * (1 + count) ≤ end * (1 + count) = mul-le-mul_right (1 + count) st.in_time in
    (st.spent high, (let work = st.work in omega (arith, high, work, grown)))
