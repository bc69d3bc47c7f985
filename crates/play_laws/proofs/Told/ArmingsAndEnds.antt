-- in a legal journal the entries of a timer are armings and their ends, which alternate
use Rattle.std.proofs.Common.{◌≡◌, ℕ, List, [], ◌∷◌, ◌++◌, Bool, true, false, Option, Some}
use Rattle.std.proofs.Common.{None, refl, sym, ap, ◌∙◌, subst, inl, inr}
use Rattle.std.specs.Prelude.{◌||◌, ◌==◌, ◌&&◌, All, IsSomeAnd, filter, if◌then◌else◌}
use Rattle.std.proofs.lemmas.Bool.{and_from, and_parts, both_ways, cases_Bool, cond-false}
use Rattle.std.proofs.lemmas.Bool.{cond-true, eqb-true, false_from_ne_true}
use Rattle.std.proofs.lemmas.List.Elements.{All-head, All-tail, filter-append}
use Rattle.std.proofs.lemmas.Option.{none-some}
use Rattle.cpu_bases.specs.declared.entry.Act.{Act}
use Rattle.cpu_bases.specs.declared.entry.Act.TheVariants as acts
use Rattle.cpu_bases.specs.declared.entry.Entry.{Entry}
use Rattle.cpu_bases.specs.Journals.{EachMayFollow, MayFollow, arming_of, queued_after}
use Rattle.cpu_bases.specs.Journals.{queued_from}
use Rattle.cpu_bases.specs.Laws.{is_arming, is_end}
use Rattle.cpu_bases.proofs.EntryKinds.{after_other, after_tick, arming_may, arming_queues, end_may}
use Rattle.cpu_bases.proofs.EntryKinds.{end_queues, kind}
use Rattle.cpu_bases.proofs.Keyed.{HasDistinctKeys, drop_key, none_dropped, push_own}
use Rattle.cpu_bases.proofs.Legal.{distinct_after, ended_is}
use Rattle.play_laws.specs.Jiffies.Jiffies.{HandedOnTime, IsOnTime}
use Rattle.play_laws.specs.Told.Journals.{by_entry, by_journal, is_of}
use Rattle.play_laws.specs.Told.Runs.{IsToCome, Alternate}

-- whether an act is one on a timer
abbrev pub is_deed : Act → Bool
is_deed act = is_arming act || is_end act

arming_deed : (act : Act) → is_arming act ≡ true → is_deed act ≡ true
arming_deed acts.Armed is = refl
arming_deed acts.MovedIn is = refl
arming_deed acts.Handed is = refl
arming_deed acts.Cancelled is = refl
arming_deed acts.MovedOut is = refl
arming_deed acts.Ticked is = absurd (both_ways false refl is)

end_deed : (act : Act) → is_end act ≡ true → is_deed act ≡ true
end_deed acts.Handed is = refl
end_deed acts.Cancelled is = refl
end_deed acts.MovedOut is = refl
end_deed acts.Armed is = refl
end_deed acts.MovedIn is = refl
end_deed acts.Ticked is = absurd (both_ways false refl is)

module _ (timer : ℕ) where
  -- whether an entry is of this timer
  abbrev pub is_its : Entry → Bool
  is_its entry = is_deed entry.act && (entry.timer.0 == timer)

  -- WHAT THEY TELL
  told_one : (act : Act) (entry : Entry)
      → filter (is_of timer) (by_entry act entry)
      ≡ (if is_deed act && (entry.timer.0 == timer) then by_entry act entry else [])
  told_one acts.Armed entry = refl
  told_one acts.Handed entry = refl
  told_one acts.Cancelled entry = refl
  told_one acts.MovedOut entry = refl
  told_one acts.MovedIn entry = refl
  told_one acts.Ticked entry = refl

  pub told_its : (journal : List Entry)
      → filter (is_of timer) (by_journal journal) ≡ by_journal (filter is_its journal)
  told_its [] = refl
  told_its (entry ∷ journal) =
      let here = by_entry entry.act entry in
      let rest = filter is_its journal in
      filter-append (is_of timer) here (by_journal journal)
      ∙ (ap (λ x. x ++ filter (is_of timer) (by_journal journal)) (told_one entry.act entry)
      ∙ (ap (λ x. (if is_its entry then here else []) ++ x) (told_its journal)
      ∙ by (is_its entry)))
    where
      by : (b : Bool)
          → (if b then by_entry entry.act entry else []) ++ by_journal (filter is_its journal)
          ≡ by_journal (if b then entry ∷ filter is_its journal else filter is_its journal)
      by true = refl
      by false = refl

  module _ (end : ℕ) where
    -- the entries behind those that leave these queued
    abbrev GoOn : List Entry → List Entry → Type 0
    GoOn queued journal =
        HasDistinctKeys (λ (e : Entry). e.timer.0) queued → EachMayFollow queued journal
        → All (λ entry. HandedOnTime entry.act entry) journal
        → ((a : Entry) → arming_of timer (queued_from queued journal) ≡ Some a → IsToCome end a)
        → (o : Option Entry) → arming_of timer queued ≡ o
        → Alternate end o (filter is_its journal)

    handed_then : (act : Act) (entry : Entry) → act ≡ acts.Handed → HandedOnTime act entry
        → IsOnTime entry.class entry.at entry.wheel
    handed_then act entry is time = subst (λ a. HandedOnTime a entry) is time

    module _ (queued journal : List Entry) (entry : Entry)
        (distinct : HasDistinctKeys (λ (e : Entry). e.timer.0) queued)
        (may : MayFollow entry.act queued entry) (time : HandedOnTime entry.act entry) where
      abbrev after : List Entry
      after = queued_after entry.act queued entry

      -- an entry of another timer, or of none
      stays : is_its entry ≡ false → arming_of timer after ≡ arming_of timer queued
      stays not =
          elim (kind entry.act) [
            | inl arms ↦ after_other timer queued entry (other (arming_deed entry.act arms))
            | inr rest ↦
                elim rest [
                  | inl ends ↦ after_other timer queued entry (other (end_deed entry.act ends))
                  | inr ticks ↦ after_tick timer queued entry ticks
                ]
          ]
        where
          other : is_deed entry.act ≡ true → (entry.timer.0 == timer) ≡ false
          other deed =
              false_from_ne_true (entry.timer.0 == timer)
              (λ same. both_ways (is_its entry) not
              (and_from (is_deed entry.act) (entry.timer.0 == timer) deed same))

      module _ (its : is_its entry ≡ true) where
        same : entry.timer.0 ≡ timer
        same =
            eqb-true entry.timer.0 timer
            (and_parts (is_deed entry.act) (entry.timer.0 == timer) its).1

        -- an arming comes where there is none
        arms : is_arming entry.act ≡ true → (o : Option Entry) → arming_of timer queued ≡ o
            → ((p : Option Entry) → arming_of timer after ≡ p
            → Alternate end p (filter is_its journal))
            → Alternate end o (entry ∷ filter is_its journal)
        arms is (Some a) queues rest =
            absurd
            (none-some a
            (sym (arming_may entry.act queued entry is may)
            ∙ (ap (λ t. arming_of t queued) same ∙ queues)))
        arms is None queues rest = (
          is,
          rest (Some entry)
              (ap (arming_of timer) (arming_queues entry.act queued entry is)
              ∙ (ap (λ t. arming_of t (queued ++ entry ∷ [])) (sym same)
              ∙ push_own (λ (e : Entry). e.timer.0) queued entry
              (arming_may entry.act queued entry is may))),
        )

        -- an end comes behind its arming
        ends : is_end entry.act ≡ true → (o : Option Entry) → arming_of timer queued ≡ o
            → ((p : Option Entry) → arming_of timer after ≡ p
            → Alternate end p (filter is_its journal))
            → Alternate end o (entry ∷ filter is_its journal)
        ends is o queues rest =
            by o
            (subst
            (λ x. IsSomeAnd x (λ (a : Entry). (a.class ≡ entry.class) × (a.wheel ≡ entry.wheel)))
            (ap (λ t. arming_of t queued) same ∙ queues)
            (end_may entry.act queued entry is may).0)
            (rest None
            (ap (arming_of timer) (end_queues entry.act queued entry is)
            ∙ (ap (arming_of timer) (ended_is entry.timer.0 queued)
            ∙ (ap (λ t. arming_of t (drop_key (λ (e : Entry). e.timer.0) entry.timer.0 queued))
            (sym same)
            ∙ none_dropped (λ (e : Entry). e.timer.0) entry.timer.0 queued distinct))))
          where
            by : (x : Option Entry)
                → IsSomeAnd x (λ (a : Entry). (a.class ≡ entry.class) × (a.wheel ≡ entry.wheel))
                → Alternate end None (filter is_its journal)
                → Alternate end x (entry ∷ filter is_its journal)
            by None one turns = absurd one
            by (Some a) one turns = (
              record {
                ends = is;
                class = sym one.0;
                wheel = sym one.1;
                on_time = λ handed.
                    subst (λ w. IsOnTime a.class entry.at w) (sym one.1)
                    (subst (λ k. IsOnTime k entry.at entry.wheel) (sym one.0)
                    (handed_then entry.act entry handed time));
              },
              turns,
            )

        its_turn : (o : Option Entry) → arming_of timer queued ≡ o
            → ((p : Option Entry) → arming_of timer after ≡ p
            → Alternate end p (filter is_its journal))
            → Alternate end o (entry ∷ filter is_its journal)
        its_turn o queues rest =
            elim (kind entry.act) [
              | inl is ↦ arms is o queues rest
              | inr others ↦
                  elim others [
                    | inl is ↦ ends is o queues rest
                    | inr ticks ↦
                        absurd
                        (both_ways (is_deed entry.act) (ap is_deed ticks)
                        (and_parts (is_deed entry.act) (entry.timer.0 == timer) its).0)
                  ]
            ]

      one_more : (o : Option Entry) → arming_of timer queued ≡ o
          → ((p : Option Entry) → arming_of timer after ≡ p
          → Alternate end p (filter is_its journal))
          → Alternate end o (filter is_its (entry ∷ journal))
      one_more o queues rest =
          elim (cases_Bool (is_its entry)) [
            | inl its ↦
                subst (Alternate end o)
                (sym (cond-true (is_its entry) (entry ∷ filter is_its journal)
                (filter is_its journal) its))
                (its_turn its o queues rest)
            | inr not ↦
                subst (Alternate end o)
                (sym (cond-false (is_its entry) (entry ∷ filter is_its journal)
                (filter is_its journal) not))
                (rest o (stays not ∙ queues))
          ]

    pub turns_from : (queued journal : List Entry) → GoOn queued journal
    turns_from queued [] distinct each times last None queues = tt
    turns_from queued [] distinct each times last (Some a) queues = last a queues
    turns_from queued (entry ∷ journal) distinct each times last o queues =
        let on_time = λ (e : Entry). HandedOnTime e.act e in
        one_more queued journal entry distinct each.0 (All-head on_time entry journal times) o
        queues
        (λ p is.
        turns_from (queued_after entry.act queued entry) journal
        (distinct_after entry.act queued entry distinct each.0) each.1
        (All-tail on_time entry journal times) last p is)
