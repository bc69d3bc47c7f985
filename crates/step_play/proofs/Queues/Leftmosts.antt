-- for crates above: the leftmost of those that told the least: among more CPUs, and along the slots
-- of a queue
use Rattle.std.proofs.Common.{◌≡◌, ◌⊎◌, inl, inr, ℕ, suc, ◌+◌, ◌-◌, ◌<◌, ◌≤◌, cond}
use Rattle.std.proofs.Common.{[], ◌∷◌, Option, Some, None, sym, arith}
use Rattle.std.proofs.Common.{subst}
use Rattle.std.specs.Prelude.{nat_lt}
use Rattle.std.specs.List.{fold}
use Rattle.std.proofs.lemmas.Bool.{cases_Bool, cases_eq, cases_lt, ltb-false}
use Rattle.std.proofs.lemmas.Bool.{ltb-true}
use Rattle.tm_base.specs.declared.names.TheConstants.{NEVER}
use Rattle.event_queue.specs.declared.event.Event.{Event}
use Rattle.event_queue.specs.EventMap.{EventMap, event_at}
use Rattle.walk_rules.specs.Stages.{sooner_event}
use Rattle.step_play.specs.Rules.Live.{counting}
use Rattle.step_play.specs.Queues.Leftmost.{IsLeftmost, Leftmost}

module _ (told : ℕ → ℕ) where
  -- among those and others that told nothing
  pub widened : (A B : ℕ → Type 0) (o : Option Event) → ((d : ℕ) → A d → B d) →
      ((d : ℕ) → B d → A d ⊎ (told d ≡ NEVER)) → Leftmost told A o → Leftmost told B o
  widened A B None to from none = λ d b. elim (from d b) [
    | inl a ↦ none d a
    | inr never ↦ never
  ]
  widened A B (Some e) to from one =
      let comes : e.expiry < NEVER = one.comes in
      record {
        among = to e.cpu.0 one.among;
        expiry = one.expiry;
        comes = one.comes;
        counts = one.counts;
        least = λ d b. elim (from d b) [
          | inl a ↦ one.least d a
          | inr never ↦ omega arith
        ];
        leftmost = λ d b same. elim (from d b) [
          | inl a ↦ one.leftmost d a same
          | inr never ↦ absurd (omega arith)
        ];
      }

  -- one run of CPUs behind another
  module _ (A B : ℕ → Type 0) (behind : (c d : ℕ) → A c → B d → c < d) where
    abbrev Both : ℕ → Type 0
    Both d = A d ⊎ B d

    by_first : (o : Option Event) → ((d : ℕ) → B d → told d ≡ NEVER) → Leftmost told A o →
        Leftmost told Both o
    by_first o none one =
        widened A Both o (λ d a. inl a) (λ d b. elim b [ inl a ↦ inl a | inr y ↦ inr (none d y) ])
        one

    by_second : (o : Option Event) → ((d : ℕ) → A d → told d ≡ NEVER) → Leftmost told B o →
        Leftmost told Both o
    by_second o none one =
        widened B Both o (λ d a. inr a) (λ d b. elim b [ inl a ↦ inr (none d a) | inr y ↦ inl y ])
        one

    earlier : (b e : Event) → IsLeftmost told A b → IsLeftmost told B e → e.expiry < b.expiry →
        IsLeftmost told Both e
    earlier b e one two early = record {
      among = inr two.among;
      expiry = two.expiry;
      comes = two.comes;
      counts = two.counts;
      least = λ d both. elim both [
        | inl a ↦ let far = one.least d a in omega arith
        | inr y ↦ two.least d y
      ];
      leftmost = λ d both same. elim both [
        | inl a ↦ let far = one.least d a in absurd (omega arith)
        | inr y ↦ two.leftmost d y same
      ];
    }

    not_later : (b e : Event) → IsLeftmost told A b → IsLeftmost told B e → b.expiry ≤ e.expiry →
        IsLeftmost told Both b
    not_later b e one two early = record {
      among = inl one.among;
      expiry = one.expiry;
      comes = one.comes;
      counts = one.counts;
      least = λ d both. elim both [
        | inl a ↦ one.least d a
        | inr y ↦ let far = two.least d y in omega arith
      ];
      leftmost = λ d both same. elim both [
        | inl a ↦ one.leftmost d a same
        | inr y ↦ let far = behind b.cpu.0 d one.among y in omega arith
      ];
    }

    pub joined : (best slot : Option Event) → Leftmost told A best →
        Leftmost told B (counting slot) → Leftmost told Both (sooner_event best slot)
    joined None None one two = by_first None two one
    joined (Some b) None one two = by_first (Some b) two one
    joined None (Some e) one two = by_second (counting (Some e)) one two
    joined (Some b) (Some e) one two = elim (cases_Bool e.ignored) [
      | inl out ↦
          let none = subst (λ v. Leftmost told B (cond v None (Some e))) out two in
          subst (λ v. Leftmost told Both (cond v (Some b) (cond (nat_lt e.expiry b.expiry)
          (Some e) (Some b)))) (sym out) (by_first (Some b) none one)
      | inr counts ↦
          let other : IsLeftmost told B e =
          subst (λ v. Leftmost told B (cond v None (Some e))) counts two in
          subst (λ v. Leftmost told Both (cond v (Some b) (cond (nat_lt e.expiry b.expiry)
          (Some e) (Some b)))) (sym counts)
          (elim (cases_Bool (nat_lt e.expiry b.expiry)) [
            | inl less ↦
                subst (λ v. Leftmost told Both (cond v (Some e) (Some b))) (sym less)
                (earlier b e one other (ltb-true e.expiry b.expiry less))
            | inr more ↦
                subst (λ v. Leftmost told Both (cond v (Some e) (Some b))) (sym more)
                (not_later b e one other (ltb-false e.expiry b.expiry more))
          ])
    ]

  -- runs of CPUs that ascend, one for each slot
  module _ (In : ℕ → ℕ → Type 0)
      (ascending : (j k c d : ℕ) → j < k → In j c → In k d → c < d) where
    abbrev Before : ℕ → ℕ → Type 0
    Before i d = (k : ℕ) × (k < i) × In k d

    abbrev pub InSome : ℕ → Type 0
    InSome d = (k : ℕ) × In k d

    one_more : (i : ℕ) (best slot : Option Event) → Leftmost told (Before i) best →
        Leftmost told (In i) (counting slot) →
        Leftmost told (Before (suc i)) (sooner_event best slot)
    one_more i best slot one two =
        widened (λ d. Before i d ⊎ In i d) (Before (suc i)) (sooner_event best slot)
        (λ d both. elim both [
          | inl before ↦ (before.0, omega (arith, before.1), before.2)
          | inr here ↦ (i, omega arith, here)
        ])
        (λ d before. elim (cases_eq before.0 i) [
          | inl same ↦ inl (inr (subst (λ k. In k d) same before.2))
          | inr other ↦ inl (inl (before.0, omega (arith, before.1, other), before.2))
        ])
        (joined (Before i) (In i)
        (λ c d before here. ascending before.0 i c d before.1 before.2 here) best slot one two)

    all_slots : (i : ℕ) (best : Option Event) (events : EventMap) → Leftmost told (Before i) best →
        ((k : ℕ) → Leftmost told (In (i + k)) (counting (event_at events k))) →
        Leftmost told InSome (fold sooner_event best events)
    all_slots i best [] one each =
        widened (Before i) InSome best (λ d before. (before.0, before.2))
        (λ d some. elim (cases_lt some.0 i) [
          | inl low ↦ inl (some.0, low, some.1)
          | inr high ↦
              let past : (n : ℕ) × (i + n ≡ some.0) = (some.0 - i, omega arith) in
              inr (each past.0 d (subst (λ k. In k d) (sym past.1) some.1))
        ])
        one
    all_slots i best (slot ∷ events) one each =
        let zero_on : i + 0 ≡ i = omega arith in
        all_slots (suc i) (sooner_event best slot) events
        (one_more i best slot one
        (subst (λ n. Leftmost told (In n) (counting slot)) zero_on (each 0)))
        (λ k. let on : i + suc k ≡ suc i + k = omega arith in
        subst (λ n. Leftmost told (In n) (counting (event_at events k))) on (each (suc k)))

    pub of_slots : (events : EventMap) →
        ((k : ℕ) → Leftmost told (In k) (counting (event_at events k))) →
        Leftmost told InSome (fold sooner_event None events)
    of_slots events each =
        all_slots 0 None events (λ d before. absurd (omega (arith, before.1)))
        (λ k. let on : k ≡ 0 + k = omega arith in
        subst (λ n. Leftmost told (In n) (counting (event_at events k))) on (each k))
