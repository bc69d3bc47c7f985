-- one level more of a climb and of a way down
use Rattle.std.proofs.Common.{◌≡◌, ℕ, zero, suc, ◌-◌, ◌<◌, Option, Some, None}
use Rattle.std.proofs.Common.{sym, ap, ◌∙◌, arith}
use Rattle.std.specs.Prelude.{find}
use Rattle.linux_seen.specs.declared.seen.Word.{Word}
use Rattle.linux_seen.specs.declared.seen.GroupSeen.{GroupSeen}
use Rattle.linux_seen.specs.declared.seen.CpuSeen.{CpuSeen}
use Rattle.linux_seen.specs.Seen.{Sight, group_at, or_else}
use Rattle.linux_seen.specs.Rests.{known_word}
use Rattle.linux_seen.specs.Tree.{cpu_stands, group_stands}
use Rattle.linux_told.specs.declared.told.Answer.{Answer}
use Rattle.linux_told.specs.Told.{answer_here, climbed, group_of, leads, leads_by, leads_from}
use Rattle.linux_told.specs.Told.{migrator_in}

module _ (s : Sight) where
  pub led_is : (p k : ℕ) (group : GroupSeen) (word : Option Word) (migrator : Option ℕ) →
      group ≡ group_at s p → word ≡ known_word group → migrator ≡ migrator_in word →
      migrator ≡ Some k → migrator_in (known_word (group_at s p)) ≡ Some k
  led_is p k group word migrator at has names is =
      ap (λ g. migrator_in (known_word g)) (sym at)
      ∙ (ap migrator_in (sym has) ∙ (sym names ∙ is))

  leads_more : (n p : ℕ) → 0 < n → leads s n p
      ≡ leads_by s p (migrator_in (known_word (group_at s p))) (leads s (n - 1))
  leads_more zero p some = absurd (omega (arith, some))
  leads_more (suc n) p some =
      let same : n ≡ suc n - 1 = omega arith in
      ap (λ k. leads_by s p (migrator_in (known_word (group_at s p))) (leads s k)) same

  pub leads_found : (n p k : ℕ) (c : Option CpuSeen) (g : Option GroupSeen) → 0 < n →
      migrator_in (known_word (group_at s p)) ≡ Some k →
      c ≡ find (λ c. cpu_stands c p k) s.cpus → g ≡ find (λ g. group_stands g p k) s.groups →
      leads s n p ≡ leads_from c g (leads s (n - 1))
  leads_found n p k c g some led at below =
      leads_more n p some
      ∙ (ap (λ o. leads_by s p o (leads s (n - 1))) led
      ∙ (ap (λ o. leads_from o (find (λ g. group_stands g p k) s.groups) (leads s (n - 1))) (sym at)
      ∙ ap (λ o. leads_from c o (leads s (n - 1))) (sym below)))

  module _ (now told : ℕ) where
    climbed_more : (n : ℕ) (event pointer : Option ℕ) → 0 < n →
        climbed s now told n event pointer
        ≡ or_else (answer_here s now told event pointer)
        (climbed s now told (n - 1) (group_of s pointer).event (group_of s pointer).parent)
    climbed_more zero event pointer some = absurd (omega (arith, some))
    climbed_more (suc n) event pointer some =
        let same : n ≡ suc n - 1 = omega arith in
        ap (λ k. or_else (answer_here s now told event pointer)
        (climbed s now told k (group_of s pointer).event (group_of s pointer).parent)) same

    pub climbed_here : (n : ℕ) (event pointer : Option ℕ) (found : Option Answer)
        (answer : Answer) → 0 < n → found ≡ answer_here s now told event pointer →
        found ≡ Some answer → climbed s now told n event pointer ≡ answer
    climbed_here n event pointer found answer some at is =
        climbed_more n event pointer some
        ∙ ap (λ o. or_else o (climbed s now told (n - 1) (group_of s pointer).event
        (group_of s pointer).parent)) (sym at ∙ is)

    pub climbed_above : (n : ℕ) (event pointer : Option ℕ) (found : Option Answer)
        (above : GroupSeen) → 0 < n → found ≡ answer_here s now told event pointer →
        found ≡ None → above ≡ group_of s pointer →
        climbed s now told n event pointer
        ≡ climbed s now told (n - 1) above.event above.parent
    climbed_above n event pointer found above some at is same =
        climbed_more n event pointer some
        ∙ (ap (λ o. or_else o (climbed s now told (n - 1) (group_of s pointer).event
        (group_of s pointer).parent)) (sym at ∙ is)
        ∙ ap (λ g. climbed s now told (n - 1) g.event g.parent) (sym same))
