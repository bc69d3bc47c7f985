-- each rest at which nobody is missing is answered
use Rattle.std.proofs.Common.{◌≡◌, ◌⊎◌, ℕ, ◌<◌, Bool, true, false, Option, Some, None}
use Rattle.std.proofs.Common.{refl, sym, ap, ◌∙◌, subst, inl, inr, true≢false, arith}
use Rattle.std.specs.Prelude.{◌==◌, ◌||◌, not, nat_le, if◌then◌else◌}
use Rattle.std.specs.List.{All, list_all, slice_index_or}
use Rattle.std.proofs.lemmas.Bool.{cond-false, leb-true, lt-leb}
use Rattle.std.proofs.lemmas.List.Sums.{AllPass-from_list_all}
use Rattle.coverage.specs.Coverage.{Machine, IsAnsweredFor}
use Rattle.linux_lines.specs.declared.events.TheConstants.{NO_EXPIRY}
use Rattle.linux_seen.specs.declared.seen.CpuSeen.{CpuSeen}
use Rattle.linux_told.specs.declared.told.TheConstants.{MOST_LEVELS}
use Rattle.linux_told.specs.declared.told.Answer.{Answer}
use Rattle.linux_told.specs.declared.told.Answer.TheVariants as who
use Rattle.linux_seen.specs.Seen.{Sight}
use Rattle.linux_seen.specs.Rests.{is_asleep}
use Rattle.linux_seen.specs.Rests.{at_rest}
use Rattle.linux_told.specs.Told.{answer_at, answer_by, answer_of, answer_told, climbed}
use Rattle.linux_told.specs.Told.{is_by, is_missing, or_itself, told_fits}
use Rattle.linux_told.specs.Agrees.{Agrees, CpuAgrees, IsAnswered, IsToCome}
use Rattle.linux_told.proofs.Answering.{Good, both, climb, not_true, there_is}

-- ---- one CPU

module _ (s : Sight) (c : CpuSeen) (told : ℕ)
    (seen : (m : Machine) → Agrees m s → CpuAgrees m s.clock c) where
  abbrev Everywhere : Type 0
  Everywhere = (m : Machine) → Agrees m s → IsAnsweredFor m c.cpu.0 told

  abbrev IsSaid : Answer → Type 0
  IsSaid answer = (answer ≡ who.Open) ⊎ Everywhere

  itself_if : (b : Bool) (answer : Answer) → (is_missing answer ≡ false → answer ≡ who.Open) →
      (b ≡ true → Everywhere) → is_missing (if b then who.Itself else answer) ≡ false →
      IsSaid (if b then who.Itself else answer)
  itself_if true answer opens wakes fits = inr (wakes refl)
  itself_if false answer opens wakes fits = inl (opens fits)

  wakes_itself : (w : ℕ) → c.wakeup ≡ Some w → is_by told (Some w) ≡ true → Everywhere
  wakes_itself w keeps in_time =
      let parts = both (nat_le w told) (not (w == NO_EXPIRY)) in_time in
      λ m agrees. inr (inl (record {
        at = w;
        keeps = (seen m agrees).wakeup w keeps ∙ there_is w (not_true (w == NO_EXPIRY) parts.1);
        in_time = leb-true w told parts.0;
      }))

  itself : (answer : Answer) (w : Option ℕ) → c.wakeup ≡ w →
      (is_missing answer ≡ false → answer ≡ who.Open) →
      is_missing (or_itself answer w told) ≡ false → IsSaid (or_itself answer w told)
  itself answer None keeps opens fits = inl refl
  itself answer (Some w) keeps opens fits =
      itself_if (is_by told (Some w)) answer opens (wakes_itself w keeps) fits

  module _ (now : ℕ) (clock : s.clock ≡ Some now) where
    from_leaf : (m : Machine) (agrees : Agrees m s) →
        Good m c.cpu.0 told (climbed s now told MOST_LEVELS c.event c.leaf)
    from_leaf m agrees =
        climb m s agrees c.cpu.0 told now clock MOST_LEVELS 0 c.event c.leaf (record {
          inactive = λ k g low path. absurd (omega (arith, low));
          events = λ k low. absurd (omega (arith, low));
        }) (λ p leaf some. (seen m agrees).path p leaf some)
        (λ p e leaf event later some. (seen m agrees).event p e leaf event
        (subst (λ (k : Option ℕ). IsToCome k e) (sym clock) later))

    by_answer : (answer : Answer) → climbed s now told MOST_LEVELS c.event c.leaf ≡ answer →
        is_missing (answer_by answer c.wakeup told) ≡ false →
        IsSaid (answer_by answer c.wakeup told)
    by_answer who.Held is fits =
        inr (λ m agrees. inl (subst (Good m c.cpu.0 told) is (from_leaf m agrees)))
    by_answer who.Woken is fits =
        inr (λ m agrees. inr (inr (subst (Good m c.cpu.0 told) is (from_leaf m agrees))))
    by_answer who.Missing is fits =
        itself who.Missing c.wakeup refl (λ missing. absurd (true≢false missing)) fits
    by_answer who.Open is fits = itself who.Open c.wakeup refl (λ opens. refl) fits
    by_answer who.Nothing is fits = inl refl
    by_answer who.Due is fits = inl refl
    by_answer who.Itself is fits = inl refl

    told_now : now < told → answer_at s c told s.clock
        ≡ answer_by (climbed s now told MOST_LEVELS c.event c.leaf) c.wakeup told
    told_now later =
        ap (answer_at s c told) clock
        ∙ cond-false (nat_le told now) who.Due
        (answer_by (climbed s now told MOST_LEVELS c.event c.leaf) c.wakeup told)
        (lt-leb told now later)

  told_at : (k : Option ℕ) → s.clock ≡ k → IsToCome k told →
      is_missing (answer_at s c told s.clock) ≡ false → IsSaid (answer_at s c told s.clock)
  told_at None is later fits = absurd later
  told_at (Some now) is later fits =
      subst IsSaid (sym (told_now now is later))
      (by_answer now is (climbed s now told MOST_LEVELS c.event c.leaf) refl
      (ap is_missing (sym (told_now now is later)) ∙ fits))

  asked : c.active ≡ Some false → c.timer ≡ Some told → (told == NO_EXPIRY) ≡ false →
      answer_of s c ≡ answer_at s c told s.clock
  unfolding answer_of
  asked idle timer some =
      ap (λ o. if is_asleep o then answer_told s c c.timer else who.Nothing) idle
      ∙ (ap (answer_told s c) timer
      ∙ cond-false (told == NO_EXPIRY) who.Nothing (answer_at s c told s.clock) some)

is_answered : (s : Sight) (c : CpuSeen) →
    ((m : Machine) → Agrees m s → CpuAgrees m s.clock c) → is_missing (answer_of s c) ≡ false →
    IsAnswered s c
is_answered s c seen fits told idle timer some later =
    let same = asked s c told seen idle timer some in
    subst (IsSaid s c told seen) (sym same)
    (told_at s c told seen s.clock refl later (ap is_missing (sym same) ∙ fits))

-- ---- each CPU at a rest

pub each_answered : (s : Sight) → told_fits s ≡ true → at_rest s ≡ true → All (IsAnswered s) s.cpus
each_answered s fits rest =
    let tested : list_all (λ c. not (is_missing (answer_of s c))) s.cpus ≡ true =
    sym (ap (λ b. not b || list_all (λ c. not (is_missing (answer_of s c))) s.cpus) rest)
    ∙ fits in
    λ k d low. is_answered s (slice_index_or s.cpus k d) (λ m agrees. agrees.cpus k d low)
    (not_true (is_missing (answer_of s (slice_index_or s.cpus k d)))
    (AllPass-from_list_all (λ c. not (is_missing (answer_of s c))) s.cpus tested k d low))
