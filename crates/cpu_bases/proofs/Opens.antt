-- for crates above: an arming of a CPU's journal is queued as it says, or has an end
use Rattle.std.proofs.Common.{◌≡◌, ℕ, zero, suc, ◌<◌, true, List, [], ◌∷◌}
use Rattle.std.proofs.Common.{Some, refl, ap, subst, sym, ◌∙◌, arith, ◌⊎◌, inl}
use Rattle.std.proofs.Common.{inr}
use Rattle.std.specs.Prelude.{◌≢◌, slice_get}
use Rattle.std.proofs.lemmas.Option.{none-some, same_Some}
use Rattle.cpu_bases.specs.declared.entry.Entry.{Entry}
use Rattle.cpu_bases.specs.Journals.{EachMayFollow}
use Rattle.cpu_bases.specs.Journals.{arming_of, entries_of, queued_after, queued_by}
use Rattle.cpu_bases.specs.Journals.{queued_from}
use Rattle.tm_base.specs.Classes.{same_class}
use Rattle.cpu_bases.specs.CpuBases.{base_of}
use Rattle.cpu_bases.specs.Laws.{HasEnd, IsEndOf, QueuedOrEnded, is_arming}
use Rattle.cpu_bases.specs.Laws.{is_end}
use Rattle.cpu_bases.proofs.Agreeing.{agreed_armed}
use Rattle.cpu_bases.proofs.Classes.{class_itself}
use Rattle.cpu_bases.proofs.Keyed.{found_part}
use Rattle.cpu_bases.proofs.Keyed.{push_own}
use Rattle.cpu_bases.proofs.EntryKinds.{arming_queues, arming_may}
use Rattle.cpu_bases.proofs.Ends.{NoArming, stays_or_ends}

-- QUEUED OR ENDED, from a place of the journal on
abbrev Open : List Entry → (i : ℕ) → Entry → List Entry → Type 0
Open journal i arming queued =
    (arming_of arming.timer.0 queued ≡ Some arming) ⊎ HasEnd journal i arming

end_after : (first : Entry) (journal : List Entry) (n : ℕ) (ending : Entry)
    → is_arming first.act ≡ true → slice_get journal n ≡ Some ending
    → is_end ending.act ≡ true → ending.timer.0 ≡ first.timer.0
    → NoArming first.timer.0 journal n → IsEndOf (first ∷ journal) 0 (suc n) first ending
end_after first journal n ending arms is ends same none = record {
  later = omega arith;
  arming_there = refl;
  ending_there = is;
  arms = arms;
  ends = ends;
  same_timer = same;
  none_between = between;
}
  where
    between : (k : ℕ) (entry : Entry) → 0 < k → k < suc n
        → slice_get (first ∷ journal) k ≡ Some entry → is_arming entry.act ≡ true
        → entry.timer.0 ≢ first.timer.0
    between zero entry low high is arms = absurd (omega arith)
    between (suc k) entry low high is arms = none k entry (omega arith) is arms

end_later : (first : Entry) (journal : List Entry) (i j : ℕ) (arming ending : Entry)
    → IsEndOf journal i j arming ending
    → IsEndOf (first ∷ journal) (suc i) (suc j) arming ending
end_later first journal i j arming ending of = record {
  later = let low = of.later in omega arith;
  arming_there = of.arming_there;
  ending_there = of.ending_there;
  arms = of.arms;
  ends = of.ends;
  same_timer = of.same_timer;
  none_between = between;
}
  where
    between : (k : ℕ) (entry : Entry) → suc i < k → k < suc j
        → slice_get (first ∷ journal) k ≡ Some entry → is_arming entry.act ≡ true
        → entry.timer.0 ≢ arming.timer.0
    between zero entry low high is arms = absurd (omega arith)
    between (suc k) entry low high is arms =
        of.none_between k entry (omega arith) (omega arith) is arms

open_from : (queued journal : List Entry) (i : ℕ) (arming : Entry) → EachMayFollow queued journal
    → slice_get journal i ≡ Some arming → is_arming arming.act ≡ true
    → Open journal i arming (queued_from queued journal)
open_from queued [] i arming each is arms = absurd (none-some arming is)
open_from queued (first ∷ journal) zero arming each is arms =
    let one = same_Some first arming is in
    let own = subst (λ e. is_arming e.act ≡ true) (sym one) arms in
    let next = queued_after first.act queued first in
    let pushed =
    ap (arming_of first.timer.0) (arming_queues first.act queued first own)
    ∙ push_own (λ e. e.timer.0) queued first (arming_may first.act queued first own each.0) in
    subst (λ a. Open (first ∷ journal) 0 a (queued_from next journal)) one
    (elim (stays_or_ends first.timer.0 next journal first pushed each.1) [
      | inl stays ↦ inl stays
      | inr ends ↦
          inr (
            suc ends.0,
            ends.1,
            end_after first journal ends.0 ends.1 own ends.2 ends.3 ends.4 ends.5,
          )
    ])
open_from queued (first ∷ journal) (suc i) arming each is arms =
    elim (open_from (queued_after first.act queued first) journal i arming each.1 is arms) [
      | inl stays ↦ inl stays
      | inr ends ↦
          inr (suc ends.0, ends.1, end_later first journal i ends.0 arming ends.1 ends.2)
    ]

pub queued_or_ended : QueuedOrEnded
queued_or_ended cpu i arming consistent is arms =
    let queued = queued_by cpu.journal in
    let class = arming.class in
    elim (open_from [] cpu.journal i arming consistent.each_may_follow is arms) [
      | inr ends ↦ inr ends
      | inl stays ↦
          inl
          (agreed_armed (base_of class cpu).items (entries_of class queued)
          (consistent.agrees class) arming.timer.0 arming
          (found_part (λ e. e.timer.0) (λ e. same_class e.class class) arming.timer.0 queued arming
          stays (class_itself class)))
    ]
