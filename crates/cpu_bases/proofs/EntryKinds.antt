-- for crates above: entries by their kind: what each leaves queued of a timer
use Rattle.std.proofs.Common.{◌≡◌, ℕ, ◌≤◌, true, false, List, [], ◌∷◌}
use Rattle.std.proofs.Common.{◌++◌, None, refl, ap, ◌∙◌, ◌⊎◌, inl}
use Rattle.std.proofs.Common.{inr}
use Rattle.std.specs.Prelude.{◌==◌}
use Rattle.std.proofs.lemmas.Bool.{both_ways}
use Rattle.cpu_bases.specs.declared.entry.Act.{Act}
use Rattle.cpu_bases.specs.declared.entry.Act.TheVariants.{Armed, Handed, Cancelled, MovedOut}
use Rattle.cpu_bases.specs.declared.entry.Act.TheVariants.{MovedIn, Ticked}
use Rattle.cpu_bases.specs.declared.entry.Entry.{Entry}
use Rattle.cpu_bases.specs.Journals.{EndsOne, MayFollow}
use Rattle.cpu_bases.specs.Journals.{arming_of, ended, queued_after}
use Rattle.cpu_bases.specs.Laws.{is_arming, is_end}
use Rattle.cpu_bases.proofs.Keyed.{drop_other}
use Rattle.cpu_bases.proofs.Keyed.{push_other}
use Rattle.cpu_bases.proofs.Legal.{ended_is}

-- KINDS OF ENTRY: an arming, an end, or neither
pub kind : (act : Act) → (is_arming act ≡ true) ⊎ ((is_end act ≡ true) ⊎ (act ≡ Ticked))
kind Armed = inl refl
kind MovedIn = inl refl
kind Handed = inr (inl refl)
kind Cancelled = inr (inl refl)
kind MovedOut = inr (inl refl)
kind Ticked = inr (inr refl)

pub arming_queues : (act : Act) (queued : List Entry) (entry : Entry) → is_arming act ≡ true
    → queued_after act queued entry ≡ queued ++ entry ∷ []
arming_queues Armed queued entry is = refl
arming_queues MovedIn queued entry is = refl
arming_queues Handed queued entry is = absurd (both_ways false refl is)
arming_queues Cancelled queued entry is = absurd (both_ways false refl is)
arming_queues MovedOut queued entry is = absurd (both_ways false refl is)
arming_queues Ticked queued entry is = absurd (both_ways false refl is)

pub arming_may : (act : Act) (queued : List Entry) (entry : Entry) → is_arming act ≡ true
    → MayFollow act queued entry → arming_of entry.timer.0 queued ≡ None
arming_may Armed queued entry is may = may
arming_may MovedIn queued entry is may = may
arming_may Handed queued entry is may = absurd (both_ways false refl is)
arming_may Cancelled queued entry is may = absurd (both_ways false refl is)
arming_may MovedOut queued entry is may = absurd (both_ways false refl is)
arming_may Ticked queued entry is may = absurd (both_ways false refl is)

pub end_queues : (act : Act) (queued : List Entry) (entry : Entry) → is_end act ≡ true
    → queued_after act queued entry ≡ ended entry.timer.0 queued
end_queues Handed queued entry is = refl
end_queues Cancelled queued entry is = refl
end_queues MovedOut queued entry is = refl
end_queues Armed queued entry is = absurd (both_ways false refl is)
end_queues MovedIn queued entry is = absurd (both_ways false refl is)
end_queues Ticked queued entry is = absurd (both_ways false refl is)

pub end_may : (act : Act) (queued : List Entry) (entry : Entry) → is_end act ≡ true
    → MayFollow act queued entry → EndsOne queued entry × (act ≡ Handed → entry.wheel ≤ entry.at)
end_may Handed queued entry is may = (may.0, λ _. may.1)
end_may Cancelled queued entry is may = (may, λ other. absurd (cc))
end_may MovedOut queued entry is may = (may, λ other. absurd (cc))
end_may Armed queued entry is may = absurd (both_ways false refl is)
end_may MovedIn queued entry is may = absurd (both_ways false refl is)
end_may Ticked queued entry is may = absurd (both_ways false refl is)

-- what is queued of a timer after an entry
pub after_arming : (timer : ℕ) (queued : List Entry) (entry : Entry) → is_arming entry.act ≡ true
    → (entry.timer.0 == timer) ≡ false
    → arming_of timer (queued_after entry.act queued entry) ≡ arming_of timer queued
after_arming timer queued entry is other =
    ap (arming_of timer) (arming_queues entry.act queued entry is)
    ∙ push_other (λ e. e.timer.0) timer queued entry other

pub after_end : (timer : ℕ) (queued : List Entry) (entry : Entry) → is_end entry.act ≡ true
    → (entry.timer.0 == timer) ≡ false
    → arming_of timer (queued_after entry.act queued entry) ≡ arming_of timer queued
after_end timer queued entry is other =
    ap (arming_of timer) (end_queues entry.act queued entry is ∙ ended_is entry.timer.0 queued)
    ∙ drop_other (λ e. e.timer.0) timer entry.timer.0 queued other

pub after_tick : (timer : ℕ) (queued : List Entry) (entry : Entry) → entry.act ≡ Ticked
    → arming_of timer (queued_after entry.act queued entry) ≡ arming_of timer queued
after_tick timer queued entry is =
    ap (λ act. arming_of timer (queued_after act queued entry)) is

pub after_other : (timer : ℕ) (queued : List Entry) (entry : Entry)
    → (entry.timer.0 == timer) ≡ false
    → arming_of timer (queued_after entry.act queued entry) ≡ arming_of timer queued
after_other timer queued entry other =
    elim (kind entry.act) [
      | inl is ↦ after_arming timer queued entry is other
      | inr rest ↦
          elim rest [
            | inl is ↦ after_end timer queued entry is other
            | inr is ↦ after_tick timer queued entry is
          ]
    ]
