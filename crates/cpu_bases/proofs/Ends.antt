-- for crates above: in a legal journal each arming has at most one end, which fits it
use Rattle.std.proofs.Common.{◌≡◌, ℕ, zero, suc, ◌<◌, ◌≤◌, true, false, List, [], ◌∷◌}
use Rattle.std.proofs.Common.{Some, None, refl, ap, subst, sym, ◌∙◌, arith, ◌⊎◌, inl}
use Rattle.std.proofs.Common.{inr}
use Rattle.std.specs.Prelude.{◌==◌, ◌≢◌, IsSomeAnd, slice_get}
use Rattle.std.proofs.lemmas.Bool.{both_ways, cases_Bool, cases_lt, eqb-false, eqb-true, ne_eqb}
use Rattle.std.proofs.lemmas.Option.{get_or_from_slice_get, none-some, same_Some, slice_get_within}
use Rattle.cpu_bases.specs.declared.entry.Act.TheVariants.{Handed}
use Rattle.cpu_bases.specs.declared.entry.Entry.{Entry}
use Rattle.cpu_bases.specs.Journals.{EachMayFollow, HandedByRight, LegalJournal, MayFollow}
use Rattle.cpu_bases.specs.Journals.{arming_of, ended, queued_after}
use Rattle.cpu_bases.specs.Journals.{queued_from}
use Rattle.cpu_bases.specs.Laws.{EachEndFits, IsEndOf, OneEnd, is_arming}
use Rattle.cpu_bases.specs.Laws.{is_end}
use Rattle.cpu_bases.proofs.Keyed.{HasDistinctKeys, drop_key, none_drop}
use Rattle.cpu_bases.proofs.Keyed.{none_dropped}
use Rattle.cpu_bases.proofs.Keyed.{push_own}
use Rattle.cpu_bases.proofs.Legal.{distinct_after, ended_is}
use Rattle.cpu_bases.proofs.EntryKinds.{kind, arming_queues, arming_may, end_queues, end_may}
use Rattle.cpu_bases.proofs.EntryKinds.{after_arming, after_tick, after_other}

-- FROM A PLACE ON: no arming, and no end, of a timer stands before a place
module _ (timer : ℕ) where
  abbrev pub NoArming : List Entry → ℕ → Type 0
  NoArming journal n = (k : ℕ) (entry : Entry) → k < n → slice_get journal k ≡ Some entry
      → is_arming entry.act ≡ true → entry.timer.0 ≢ timer

  abbrev NoEnd : List Entry → ℕ → Type 0
  NoEnd journal n = (k : ℕ) (entry : Entry) → k < n → slice_get journal k ≡ Some entry
      → is_end entry.act ≡ true → entry.timer.0 ≢ timer

  arming_later : (first : Entry) (journal : List Entry) (n : ℕ) → NoArming (first ∷ journal) (suc n)
      → NoArming journal n
  arming_later first journal n none k entry low is arms = none (suc k) entry (omega arith) is arms

  end_here : (first : Entry) (journal : List Entry) (n : ℕ)
      → (is_end first.act ≡ true → first.timer.0 ≢ timer) → NoEnd journal n
      → NoEnd (first ∷ journal) (suc n)
  end_here first journal n here later zero entry low is ends =
      subst (λ e. is_end e.act ≡ true → e.timer.0 ≢ timer) (same_Some first entry is) here ends
  end_here first journal n here later (suc k) entry low is ends =
      later k entry (omega arith) is ends

  -- where the timer isn't queued, no end of it comes before an arming
  no_end_yet : (queued journal : List Entry) (n : ℕ) (ending : Entry)
      → arming_of timer queued ≡ None → EachMayFollow queued journal → NoArming journal n
      → slice_get journal n ≡ Some ending → is_end ending.act ≡ true → ending.timer.0 ≡ timer → ⊥
  no_end_yet queued [] n ending none each armings is ends same = none-some ending is
  no_end_yet queued (first ∷ journal) zero ending none each armings is ends same =
      let one = same_Some first ending is in
      let may = subst (λ e. MayFollow e.act queued e) one each.0 in
      let there = (end_may ending.act queued ending ends may).0 in
      subst (λ o. IsSomeAnd o (λ arming. (arming.class ≡ ending.class) × (arming.wheel
      ≡ ending.wheel)))
      (ap (λ t. arming_of t queued) same ∙ none) there
  no_end_yet queued (first ∷ journal) (suc n) ending none each armings is ends same =
      let still : arming_of timer (queued_after first.act queued first) ≡ None =
      elim (kind first.act) [
        | inl arms ↦
            after_arming timer queued first arms
            (ne_eqb first.timer.0 timer (armings 0 first (omega arith) refl arms))
            ∙ none
        | inr rest ↦
            elim rest [
              | inl ended ↦
                  ap (arming_of timer)
                  (end_queues first.act queued first ended ∙ ended_is first.timer.0 queued)
                  ∙ none_drop (λ e. e.timer.0) timer first.timer.0 queued none
              | inr ticked ↦ after_tick timer queued first ticked ∙ none
            ]
      ] in
      no_end_yet (queued_after first.act queued first) journal n ending still each.1
      (arming_later first journal n armings) is ends same

  -- where it is, the first end fits its arming
  record FirstEnd (arming ending : Entry) (journal : List Entry) (n : ℕ) : Type 0 where
    class : ending.class ≡ arming.class
    wheel : ending.wheel ≡ arming.wheel
    on_time : ending.act ≡ Handed → arming.wheel ≤ ending.at
    none_before : NoEnd journal n

  first_end : (queued journal : List Entry) (n : ℕ) (arming ending : Entry)
      → arming_of timer queued ≡ Some arming → HasDistinctKeys (λ (e : Entry). e.timer.0) queued
      → EachMayFollow queued journal → NoArming journal n → slice_get journal n ≡ Some ending
      → is_end ending.act ≡ true → ending.timer.0 ≡ timer → FirstEnd arming ending journal n
  first_end queued [] n arming ending there distinct each armings is ends same =
      absurd (none-some ending is)
  first_end queued (first ∷ journal) zero arming ending there distinct each armings is ends same =
      let one = same_Some first ending is in
      let may = subst (λ e. MayFollow e.act queued e) one each.0 in
      let fits = end_may ending.act queued ending ends may in
      let both : (arming.class ≡ ending.class) × (arming.wheel ≡ ending.wheel) =
      subst (λ o. IsSomeAnd o (λ a. (a.class ≡ ending.class) × (a.wheel ≡ ending.wheel)))
      (ap (λ t. arming_of t queued) same ∙ there) fits.0 in
      record {
        class = sym both.0;
        wheel = sym both.1;
        on_time = λ handed. subst (λ w. w ≤ ending.at) (sym both.1) (fits.1 handed);
        none_before = λ k entry low _ _ _. absurd (omega arith);
      }
  first_end queued (first ∷ journal) (suc n) arming ending there distinct each armings is ends
      same =
      let later = arming_later first journal n armings in
      let next = queued_after first.act queued first in
      let apart = distinct_after first.act queued first distinct each.0 in
      let on = λ (still : arming_of timer next ≡ Some arming).
      first_end next journal n arming ending still apart each.1 later is ends same in
      let passed = λ (rest : FirstEnd arming ending journal n)
      (here : is_end first.act ≡ true → first.timer.0 ≢ timer).
      let whole : FirstEnd arming ending (first ∷ journal) (suc n) = record {
        class = rest.class;
        wheel = rest.wheel;
        on_time = rest.on_time;
        none_before = end_here first journal n here rest.none_before;
      } in
      whole in
      elim (cases_Bool (first.timer.0 == timer)) [
        | inr other ↦
            passed (on (after_other timer queued first other ∙ there))
            (λ _. eqb-false first.timer.0 timer other)
        | inl here ↦
            let own = eqb-true first.timer.0 timer here in
            elim (kind first.act) [
              | inl arms ↦
                  absurd
                  (none-some arming
                  (sym (arming_may first.act queued first arms each.0)
                  ∙ (ap (λ t. arming_of t queued) own ∙ there)))
              | inr rest ↦
                  elim rest [
                    | inl ended ↦
                        let gone : arming_of timer next ≡ None =
                        ap (arming_of timer)
                        (end_queues first.act queued first ended ∙ ended_is first.timer.0 queued)
                        ∙ subst
                        (λ t. arming_of t (drop_key (λ (e : Entry). e.timer.0) first.timer.0 queued)
                        ≡ None)
                        own (none_dropped (λ e. e.timer.0) first.timer.0 queued distinct) in
                        absurd (no_end_yet next journal n ending gone each.1 later is ends same)
                    | inr ticked ↦
                        passed (on (after_tick timer queued first ticked ∙ there))
                        (λ ends. absurd (both_ways false refl (sym (ap is_end ticked) ∙ ends)))
                  ]
            ]
      ]

  -- it stays queued, or an end comes with no arming before
  abbrev pub EndIn : List Entry → Type 0
  EndIn journal = (n : ℕ) × (ending : Entry) × (slice_get journal n ≡ Some ending)
      × (is_end ending.act ≡ true) × (ending.timer.0 ≡ timer) × NoArming journal n

  no_arming_first : (first : Entry) (journal : List Entry) (n : ℕ)
      → (is_arming first.act ≡ true → first.timer.0 ≢ timer) → NoArming journal n
      → NoArming (first ∷ journal) (suc n)
  no_arming_first first journal n here later zero entry low is arms =
      subst (λ e. is_arming e.act ≡ true → e.timer.0 ≢ timer) (same_Some first entry is) here arms
  no_arming_first first journal n here later (suc k) entry low is arms =
      later k entry (omega arith) is arms

  pub stays_or_ends : (queued journal : List Entry) (arming : Entry)
      → arming_of timer queued ≡ Some arming → EachMayFollow queued journal
      → (arming_of timer (queued_from queued journal) ≡ Some arming) ⊎ EndIn journal
  stays_or_ends queued [] arming there each = inl there
  stays_or_ends queued (first ∷ journal) arming there each =
      let next = queued_after first.act queued first in
      let on = λ (still : arming_of timer next ≡ Some arming)
      (here : is_arming first.act ≡ true → first.timer.0 ≢ timer).
      let both : (arming_of timer (queued_from next journal) ≡ Some arming)
      ⊎ EndIn (first ∷ journal) =
      elim (stays_or_ends next journal arming still each.1) [
        | inl stays ↦ inl stays
        | inr ends ↦
            inr (
              suc ends.0,
              ends.1,
              ends.2,
              ends.3,
              ends.4,
              no_arming_first first journal ends.0 here ends.5,
            )
      ] in
      both in
      elim (cases_Bool (first.timer.0 == timer)) [
        | inr other ↦
            on (after_other timer queued first other ∙ there)
            (λ _. eqb-false first.timer.0 timer other)
        | inl here ↦
            let own = eqb-true first.timer.0 timer here in
            elim (kind first.act) [
              | inl arms ↦
                  absurd
                  (none-some arming
                  (sym (arming_may first.act queued first arms each.0)
                  ∙ (ap (λ t. arming_of t queued) own ∙ there)))
              | inr rest ↦
                  elim rest [
                    | inl ended ↦
                        inr (
                          0,
                          first,
                          refl,
                          ended,
                          own,
                          (λ k entry low _ _ _. absurd (omega arith)),
                        )
                    | inr ticked ↦
                        on (after_tick timer queued first ticked ∙ there)
                        (λ arms. absurd (both_ways false refl (sym (ap is_arming ticked) ∙ arms)))
                  ]
            ]
      ]

-- FROM AN ARMING ON
record EndsAt (journal : List Entry) (i j : ℕ) (arming ending : Entry) : Type 0 where
  class : ending.class ≡ arming.class
  wheel : ending.wheel ≡ arming.wheel
  on_time : ending.act ≡ Handed → arming.wheel ≤ ending.at
  none_before : (k : ℕ) (entry : Entry) → i < k → k < j → slice_get journal k ≡ Some entry
      → is_end entry.act ≡ true → entry.timer.0 ≢ arming.timer.0

after_first : (first : Entry) (journal : List Entry) (j : ℕ) (ending : Entry)
    → FirstEnd first.timer.0 first ending journal j → EndsAt (first ∷ journal) 0 (suc j) first
    ending
after_first first journal j ending rest = record {
  class = rest.class;
  wheel = rest.wheel;
  on_time = rest.on_time;
  none_before = later;
}
  where
    later : (k : ℕ) (entry : Entry) → 0 < k → k < suc j → slice_get (first ∷ journal) k ≡ Some entry
        → is_end entry.act ≡ true → entry.timer.0 ≢ first.timer.0
    later zero entry low high is ends = absurd (omega arith)
    later (suc k) entry low high is ends = rest.none_before k entry (omega arith) is ends

one_later : (first : Entry) (journal : List Entry) (i j : ℕ) (arming ending : Entry)
    → EndsAt journal i j arming ending → EndsAt (first ∷ journal) (suc i) (suc j) arming ending
one_later first journal i j arming ending rest = record {
  class = rest.class;
  wheel = rest.wheel;
  on_time = rest.on_time;
  none_before = later;
}
  where
    later : (k : ℕ) (entry : Entry) → suc i < k → k < suc j
        → slice_get (first ∷ journal) k ≡ Some entry → is_end entry.act ≡ true
        → entry.timer.0 ≢ arming.timer.0
    later zero entry low high is ends = absurd (omega arith)
    later (suc k) entry low high is ends =
        rest.none_before k entry (omega arith) (omega arith) is ends

abbrev NoneBetween : List Entry → ℕ → ℕ → ℕ → Type 0
NoneBetween journal timer i j = (k : ℕ) (entry : Entry) → i < k → k < j
    → slice_get journal k ≡ Some entry → is_arming entry.act ≡ true → entry.timer.0 ≢ timer

ends_at : (queued journal : List Entry) (i j : ℕ) (arming ending : Entry)
    → HasDistinctKeys (λ (e : Entry). e.timer.0) queued → EachMayFollow queued journal → i < j
    → slice_get journal i ≡ Some arming → slice_get journal j ≡ Some ending
    → is_arming arming.act ≡ true → is_end ending.act ≡ true → ending.timer.0 ≡ arming.timer.0
    → NoneBetween journal arming.timer.0 i j → EndsAt journal i j arming ending
ends_at queued [] i j arming ending distinct each low is end_is arms ends same between =
    absurd (none-some arming is)
ends_at queued (first ∷ journal) i zero arming ending distinct each low is end_is arms ends same
    between =
    absurd (omega arith)
ends_at queued (first ∷ journal) zero (suc j) arming ending distinct each low is end_is arms ends
    same between =
    let one = same_Some first arming is in
    let own = subst (λ e. is_arming e.act ≡ true) (sym one) arms in
    let pushed =
    ap (arming_of first.timer.0) (arming_queues first.act queued first own)
    ∙ push_own (λ e. e.timer.0) queued first (arming_may first.act queued first own each.0) in
    subst (λ a. EndsAt (first ∷ journal) 0 (suc j) a ending) one
    (after_first first journal j ending
    (first_end first.timer.0 (queued_after first.act queued first) journal j first ending pushed
    (distinct_after first.act queued first distinct each.0) each.1
    (λ k entry high there armed.
    subst (λ e. entry.timer.0 ≢ e.timer.0) (sym one)
    (between (suc k) entry (omega arith) (omega arith) there armed)) end_is ends
    (same ∙ ap (λ e. e.timer.0) (sym one))))
ends_at queued (first ∷ journal) (suc i) (suc j) arming ending distinct each low is end_is arms
    ends same between =
    one_later first journal i j arming ending
    (ends_at (queued_after first.act queued first) journal i j arming ending
    (distinct_after first.act queued first distinct each.0) each.1 (omega arith) is end_is arms
    ends same
    (λ k entry above high there armed.
    between (suc k) entry (omega arith) (omega arith) there armed))

end_of : (cpu : ℕ) (journal : List Entry) (i j : ℕ) (arming ending : Entry)
    → LegalJournal cpu journal → IsEndOf journal i j arming ending
    → EndsAt journal i j arming ending
end_of cpu journal i j arming ending legal of =
    ends_at [] journal i j arming ending tt legal.each_may_follow of.later of.arming_there
    of.ending_there of.arms of.ends of.same_timer of.none_between

pub each_end_fits : EachEndFits
each_end_fits cpu journal i j arming ending legal of =
    let at = end_of cpu journal i j arming ending legal of in
    let within = slice_get_within journal j ending of.ending_there in
    let here = get_or_from_slice_get journal j ending ending of.ending_there in
    record {
      class = at.class;
      wheel = at.wheel;
      on_time = at.on_time;
      by_right =
          subst (λ e. HandedByRight cpu e.act e) here (legal.handed_by_right j ending within);
    }

pub one_end : OneEnd
one_end cpu journal i j k arming one other legal first second =
    elim (cases_lt j k) [
      | inl below ↦
          let at = end_of cpu journal i k arming other legal second in
          absurd
          (at.none_before j one first.later below first.ending_there first.ends first.same_timer)
      | inr not_below ↦
          elim (cases_lt k j) [
            | inl above ↦
                let at = end_of cpu journal i j arming one legal first in
                absurd
                (at.none_before k other second.later above second.ending_there second.ends
                second.same_timer)
            | inr not_above ↦ omega arith
          ]
    ]
