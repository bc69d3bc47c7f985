-- for crates above: a journal that gains an entry, what is queued by it, and that it stays legal
use Rattle.std.proofs.Common.{◌≡◌, ℕ, ◌≤◌, List, [], ◌∷◌, ◌++◌, refl, arith}
use Rattle.std.proofs.lemmas.List.Elements.{All-push}
use Rattle.cpu_bases.specs.declared.entry.Entry.{Entry}
use Rattle.cpu_bases.specs.declared.entry.Act.{Act}
use Rattle.cpu_bases.specs.declared.entry.Act.TheVariants.{Armed, Handed, Cancelled, MovedOut}
use Rattle.cpu_bases.specs.declared.entry.Act.TheVariants.{MovedIn, Ticked}
use Rattle.cpu_bases.specs.Journals.{EachMayFollow, HandedByRight, LegalUpTo, MayFollow}
use Rattle.cpu_bases.specs.Journals.{TimesNeverFall, ended, last_time, queued_after, queued_from}
use Rattle.cpu_bases.proofs.Keyed.{HasDistinctKeys, distinct_drop, distinct_push, drop_key}

pub queued_push : (queued journal : List Entry) (entry : Entry)
    → queued_from queued (journal ++ entry ∷ []) ≡ queued_after entry.act
    (queued_from queued journal) entry
queued_push queued [] entry = refl
queued_push queued (first ∷ journal) entry = queued_push (queued_after first.act queued first)
    journal entry

pub follow_push : (queued journal : List Entry) (entry : Entry) → EachMayFollow queued journal
    → MayFollow entry.act (queued_from queued journal) entry
    → EachMayFollow queued (journal ++ entry ∷ [])
follow_push queued [] entry each may = (may, tt)
follow_push queued (first ∷ journal) entry each may = (
  each.0,
  follow_push
      (queued_after first.act queued first) journal entry each.1 may,
)

times_push : (time : ℕ) (journal : List Entry) (entry : Entry) → TimesNeverFall time journal
    → last_time time journal ≤ entry.at
    → TimesNeverFall time (journal ++ entry ∷ [])
times_push time [] entry times late = (late, tt)
times_push time (first ∷ journal) entry times late = (
  times.0,
  times_push first.at journal entry
      times.1 late,
)

last_push : (time : ℕ) (journal : List Entry) (entry : Entry)
    → last_time time (journal ++ entry ∷ []) ≡ entry.at
last_push time [] entry = refl
last_push time (first ∷ journal) entry = last_push first.at journal entry

-- an entry at a time that isn't before the last, by right
pub legal_push : (cpu now : ℕ) (journal : List Entry) (entry : Entry)
    → EachMayFollow [] (journal ++ entry ∷ []) → entry.at ≡ now
    → HandedByRight cpu entry.act entry → LegalUpTo cpu now journal
    → LegalUpTo cpu now (journal ++ entry ∷ [])
legal_push cpu now journal entry each at right upto =
    let last = last_push 0 journal entry in
    let late = upto.not_past in
    record {
      legal = record {
        each_may_follow = each;
        times_never_fall = times_push 0 journal entry upto.legal.times_never_fall (omega arith);
        handed_by_right =
            All-push (λ e. HandedByRight cpu e.act e) journal entry upto.legal.handed_by_right
            right;
      };
      not_past = omega arith;
    }

-- and later on
pub legal_later : (cpu time now : ℕ) (journal : List Entry) → time ≤ now
    → LegalUpTo cpu time journal → LegalUpTo cpu now journal
legal_later cpu time now journal near upto =
    let past = upto.not_past in record { legal = upto.legal; not_past = omega arith }

pub ended_is : (timer : ℕ) (queued : List Entry) → ended timer queued
    ≡ drop_key (λ entry. entry.timer.0) timer queued
ended_is timer [] = refl
ended_is timer (first ∷ queued) = rw (ended_is timer queued) refl

-- no two queued armings are of one timer
pub distinct_after : (act : Act) (queued : List Entry) (entry : Entry)
    → HasDistinctKeys (λ entry. entry.timer.0) queued → MayFollow act queued entry
    → HasDistinctKeys (λ entry. entry.timer.0) (queued_after act queued entry)
distinct_after Armed queued entry distinct may = distinct_push (λ entry. entry.timer.0) queued entry
    distinct may
distinct_after MovedIn queued entry distinct may = distinct_push (λ entry. entry.timer.0) queued
    entry distinct may
distinct_after Handed queued entry distinct may = rw (ended_is entry.timer.0 queued)
    (distinct_drop (λ entry. entry.timer.0) entry.timer.0 queued distinct)
distinct_after Cancelled queued entry distinct may = rw (ended_is entry.timer.0 queued)
    (distinct_drop (λ entry. entry.timer.0) entry.timer.0 queued distinct)
distinct_after MovedOut queued entry distinct may = rw (ended_is entry.timer.0 queued)
    (distinct_drop (λ entry. entry.timer.0) entry.timer.0 queued distinct)
distinct_after Ticked queued entry distinct may = distinct

pub distinct_from : (queued journal : List Entry) → HasDistinctKeys (λ entry. entry.timer.0) queued
    → EachMayFollow queued journal
    → HasDistinctKeys (λ entry. entry.timer.0) (queued_from queued journal)
distinct_from queued [] distinct each = distinct
distinct_from queued (first ∷ journal) distinct each =
    distinct_from (queued_after first.act queued first) journal
    (distinct_after first.act queued first distinct each.0) each.1
