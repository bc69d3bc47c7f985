-- for crates above: as long as an arming has no end, each drain of its base is before its wheel
-- expiry
use Rattle.std.proofs.Common.{◌≡◌, ℕ, zero, suc, ◌<◌, List, [], ◌∷◌, true, false, Some}
use Rattle.std.proofs.Common.{refl, sym, ap, ◌∙◌, subst, arith, inl, inr}
use Rattle.std.specs.Prelude.{◌⊎◌, ◌==◌, ◌≢◌, slice_get}
use Rattle.std.proofs.lemmas.Bool.{both_ways, cases_Bool, eqb-false, eqb-true}
use Rattle.std.proofs.lemmas.Option.{none-some, same_Some}
use Rattle.tm_base.specs.Classes.{same_class}
use Rattle.cpu_bases.specs.declared.entry.Act.TheVariants as acts
use Rattle.cpu_bases.specs.declared.entry.Entry.{Entry}
use Rattle.cpu_bases.specs.Journals.{EachMayFollow, MayFollow, arming_of, entries_of, queued_after}
use Rattle.cpu_bases.specs.Laws.{IsEndOf, is_arming, is_end}
use Rattle.cpu_bases.proofs.Classes.{class_itself}
use Rattle.cpu_bases.proofs.Ends.{NoArming}
use Rattle.cpu_bases.proofs.EntryKinds.{after_other, after_tick, arming_may, arming_queues, kind}
use Rattle.cpu_bases.proofs.Keyed.{found_all, found_part, push_own}
use Rattle.play_laws.specs.Jiffies.Jiffies.{InFirstDrain}

module _ (arming drain : Entry) (ticked : drain.act ≡ acts.Ticked)
    (class : drain.class ≡ arming.class) where
  abbrev timer : ℕ
  timer = arming.timer.0

  -- an end of the timer comes before a place, with no arming of it before
  record EndsBefore (journal : List Entry) (n : ℕ) : Type 0 where
    place : ℕ
    ending : Entry
    before : place < n
    there : slice_get journal place ≡ Some ending
    ends : is_end ending.act ≡ true
    own : ending.timer.0 ≡ timer
    no_arming : NoArming timer journal place

  drain_may : (queued : List Entry) → arming_of timer queued ≡ Some arming
      → MayFollow drain.act queued drain → drain.at < arming.wheel
  drain_may queued there may =
      let later = subst (λ act. MayFollow act queued drain) ticked may in
      let same : same_class arming.class drain.class ≡ true =
      subst (λ k. same_class arming.class k ≡ true) (sym class) (class_itself arming.class) in
      found_all (λ (e : Entry). e.timer.0) (λ a. drain.at < a.wheel) timer
      (entries_of drain.class queued) arming later
      (found_part (λ (e : Entry). e.timer.0) (λ e. same_class e.class drain.class) timer queued
      arming there same)

  no_arming_first : (first : Entry) (journal : List Entry) (n : ℕ)
      → (is_arming first.act ≡ true → first.timer.0 ≢ timer) → NoArming timer journal n
      → NoArming timer (first ∷ journal) (suc n)
  no_arming_first first journal n here later zero entry low is arms =
      subst (λ e. is_arming e.act ≡ true → e.timer.0 ≢ timer) (same_Some first entry is) here arms
  no_arming_first first journal n here later (suc k) entry low is arms =
      later k entry (omega (arith, low)) is arms

  one_later : (first : Entry) (journal : List Entry) (n : ℕ)
      → (is_arming first.act ≡ true → first.timer.0 ≢ timer)
      → (drain.at < arming.wheel) ⊎ EndsBefore journal n
      → (drain.at < arming.wheel) ⊎ EndsBefore (first ∷ journal) (suc n)
  one_later first journal n here (inl before) = inl before
  one_later first journal n here (inr end) = inr (record {
    place = suc end.place;
    ending = end.ending;
    before = (let low = end.before in omega (arith, low));
    there = end.there;
    ends = end.ends;
    own = end.own;
    no_arming = no_arming_first first journal end.place here end.no_arming;
  })

  -- where it is queued, the drain is before its wheel expiry, or comes behind an end of it
  from_queued : (queued journal : List Entry) (n : ℕ) → arming_of timer queued ≡ Some arming
      → EachMayFollow queued journal → slice_get journal n ≡ Some drain
      → (drain.at < arming.wheel) ⊎ EndsBefore journal n
  from_queued queued [] n there each is = absurd (none-some drain is)
  from_queued queued (first ∷ journal) zero there each is =
      inl (drain_may queued there
      (subst (λ e. MayFollow e.act queued e) (same_Some first drain is) each.0))
  from_queued queued (first ∷ journal) (suc n) there each is =
      let next = queued_after first.act queued first in
      let on = λ (still : arming_of timer next ≡ Some arming).
      from_queued next journal n still each.1 is in
      elim (cases_Bool (first.timer.0 == timer)) [
        | inr other ↦
            one_later first journal n (λ _. eqb-false first.timer.0 timer other)
            (on (after_other timer queued first other ∙ there))
        | inl here ↦
            let own = eqb-true first.timer.0 timer here in
            elim (kind first.act) [
              | inl arms ↦
                  absurd
                  (none-some arming
                  (sym (arming_may first.act queued first arms each.0)
                  ∙ (ap (λ t. arming_of t queued) own ∙ there)))
              | inr rest ↦
                  elim rest [
                    | inl ended ↦ inr (record {
                      place = 0;
                      ending = first;
                      before = omega arith;
                      there = refl;
                      ends = ended;
                      own = own;
                      no_arming = λ k entry low _ _ _. absurd (omega (arith, low));
                    })
                    | inr is_tick ↦
                        one_later first journal n
                        (λ arms. absurd (both_ways false refl (sym (ap is_arming is_tick) ∙ arms)))
                        (on (after_tick timer queued first is_tick ∙ there))
                  ]
            ]
      ]

  -- an end of the arming at a place comes before another place
  record HasEndBefore (journal : List Entry) (i n : ℕ) : Type 0 where
    place : ℕ
    ending : Entry
    before : place < n
    is_end_of : IsEndOf journal i place arming ending

  from_first : (first : Entry) (journal : List Entry) (n : ℕ) → first ≡ arming
      → is_arming arming.act ≡ true → EndsBefore journal n
      → HasEndBefore (first ∷ journal) 0 (suc n)
  from_first first journal n one arms end = record {
    place = suc end.place;
    ending = end.ending;
    before = (let low = end.before in omega (arith, low));
    is_end_of = record {
      later = omega arith;
      arming_there = ap Some one;
      ending_there = end.there;
      arms = arms;
      ends = end.ends;
      same_timer = end.own;
      none_between = none_between;
    };
  }
    where
      none_between : (k : ℕ) (entry : Entry) → 0 < k → k < suc end.place
          → slice_get (first ∷ journal) k ≡ Some entry → is_arming entry.act ≡ true
          → entry.timer.0 ≢ arming.timer.0
      none_between zero entry above low there armed = absurd (omega (arith, above))
      none_between (suc k) entry above low there armed =
          end.no_arming k entry (omega (arith, low)) there armed

  end_later : (first : Entry) (journal : List Entry) (i n : ℕ) → HasEndBefore journal i n
      → HasEndBefore (first ∷ journal) (suc i) (suc n)
  end_later first journal i n end = record {
    place = suc end.place;
    ending = end.ending;
    before = (let low = end.before in omega (arith, low));
    is_end_of = record {
      later = (let low = end.is_end_of.later in omega (arith, low));
      arming_there = end.is_end_of.arming_there;
      ending_there = end.is_end_of.ending_there;
      arms = end.is_end_of.arms;
      ends = end.is_end_of.ends;
      same_timer = end.is_end_of.same_timer;
      none_between = none_between;
    };
  }
    where
      none_between : (k : ℕ) (entry : Entry) → suc i < k → k < suc end.place
          → slice_get (first ∷ journal) k ≡ Some entry → is_arming entry.act ≡ true
          → entry.timer.0 ≢ arming.timer.0
      none_between zero entry above low there armed = absurd (omega (arith, above))
      none_between (suc k) entry above low there armed =
          end.is_end_of.none_between k entry (omega (arith, above)) (omega (arith, low)) there armed

  -- from the arming on
  from_arming : (queued journal : List Entry) (i n : ℕ) → EachMayFollow queued journal
      → slice_get journal i ≡ Some arming → is_arming arming.act ≡ true → i < n
      → slice_get journal n ≡ Some drain → (drain.at < arming.wheel) ⊎ HasEndBefore journal i n
  from_arming queued [] i n each at arms low is = absurd (none-some arming at)
  from_arming queued (first ∷ journal) i zero each at arms low is = absurd (omega (arith, low))
  from_arming queued (first ∷ journal) zero (suc n) each at arms low is =
      let one = same_Some first arming at in
      let may = subst (λ e. MayFollow e.act queued e) one each.0 in
      let pushed : arming_of timer (queued_after arming.act queued arming) ≡ Some arming =
      ap (arming_of timer) (arming_queues arming.act queued arming arms)
      ∙ push_own (λ (e : Entry). e.timer.0) queued arming
      (arming_may arming.act queued arming arms may) in
      elim (from_queued (queued_after first.act queued first) journal n
      (subst (λ e. arming_of timer (queued_after e.act queued e) ≡ Some arming) (sym one) pushed)
      each.1 is) [
        | inl before ↦ inl before
        | inr end ↦ inr (from_first first journal n one arms end)
      ]
  from_arming queued (first ∷ journal) (suc i) (suc n) each at arms low is =
      elim (from_arming (queued_after first.act queued first) journal i n each.1 at arms
      (omega (arith, low)) is) [
        | inl before ↦ inl before
        | inr end ↦ inr (end_later first journal i n end)
      ]

pub in_first_drain : InFirstDrain
in_first_drain cpu journal i k arming drain legal stands there ticked class =
    elim (from_arming arming drain ticked class [] journal i k legal.each_may_follow
    stands.arming_there stands.arms stands.later there) [
      | inl before ↦ before
      | inr end ↦
          let later = stands.no_end end.place end.ending end.is_end_of in
          let before = end.before in absurd (omega (arith, later, before))
    ]
