-- journals: which timers are queued by the entries of a journal, when the journal of a CPU is
-- legal, and when a base agrees with one
use Rattle.std.specs.Prelude.{◌≡◌, ℕ, ◌<◌, ◌≤◌, ◌==◌, List, [], ◌∷◌, ◌++◌, Option, None, All}
use Rattle.std.specs.Prelude.{IsSomeAnd, filter, find, map, if◌then◌else◌}
use Rattle.tm_base.specs.declared.names.Class.{Class}
use Rattle.tm_base.specs.declared.names.Class.TheVariants.{Pinned, Global, Deferrable}
use Rattle.tm_base.specs.Classes.{same_class}
use Rattle.wheel_core.specs.declared.item.Item.{Item}
use Rattle.cpu_bases.specs.declared.entry.Entry.{Entry}
use Rattle.cpu_bases.specs.declared.entry.Act.{Act}
use Rattle.cpu_bases.specs.declared.entry.Act.TheVariants.{Armed, Handed, Cancelled}
use Rattle.cpu_bases.specs.declared.entry.Act.TheVariants.{MovedOut, MovedIn, Ticked}

-- a journal as its holder sees it: the entries, and how many there is memory for
pub record RoomyJournal : Type 0 where
  pub entries : List Entry
  pub capacity : ℕ

-- the arming of a timer among those that haven't ended
abbrev pub arming_of : (timer : ℕ) → List Entry → Option Entry
arming_of timer queued = find (λ entry. entry.timer.0 == timer) queued

-- the armings without that of a timer
abbrev pub ended : (timer : ℕ) → List Entry → List Entry
ended timer [] = []
ended timer (entry ∷ queued) =
    if entry.timer.0 == timer then queued else entry ∷ ended timer queued

-- the armings that haven't ended, in order, after one more entry: `Armed` and `MovedIn` are
-- armings, and `Handed`, `Cancelled` and `MovedOut` end the arming of their timer
abbrev pub queued_after : Act → List Entry → Entry → List Entry
queued_after Armed queued entry = queued ++ entry ∷ []
queued_after MovedIn queued entry = queued ++ entry ∷ []
queued_after Handed queued entry = ended entry.timer.0 queued
queued_after Cancelled queued entry = ended entry.timer.0 queued
queued_after MovedOut queued entry = ended entry.timer.0 queued
queued_after Ticked queued entry = queued

-- the armings that haven't ended, in order, after a journal that begins where some are queued
abbrev pub queued_from : List Entry → List Entry → List Entry
queued_from queued [] = queued
queued_from queued (entry ∷ journal) = queued_from (queued_after entry.act queued entry) journal

-- the armings of a journal that haven't ended, in order
abbrev pub queued_by : List Entry → List Entry
queued_by journal = queued_from [] journal

-- the entries of a class
abbrev pub entries_of : Class → List Entry → List Entry
entries_of class entries = filter (λ entry. same_class entry.class class) entries

-- the entry ends an arming of its timer, class and wheel expiry
abbrev pub EndsOne : List Entry → Entry → Type 0
EndsOne queued entry =
    IsSomeAnd (arming_of entry.timer.0 queued)
    (λ arming. (arming.class ≡ entry.class) × (arming.wheel ≡ entry.wheel))

-- the entry may come where these armings haven't ended: a timer is armed only where it isn't
-- queued, what ends is queued as the entry says, nothing is handed out before its wheel expiry,
-- and a base counts as drained only where nothing of its class is due
abbrev pub MayFollow : Act → List Entry → Entry → Type 0
MayFollow Armed queued entry = arming_of entry.timer.0 queued ≡ None
MayFollow MovedIn queued entry = arming_of entry.timer.0 queued ≡ None
MayFollow Handed queued entry = EndsOne queued entry × (entry.wheel ≤ entry.at)
MayFollow Cancelled queued entry = EndsOne queued entry
MayFollow MovedOut queued entry = EndsOne queued entry
MayFollow Ticked queued entry =
    All (λ arming. entry.at < arming.wheel) (entries_of entry.class queued)

-- each entry of a journal may come where it stands
abbrev pub EachMayFollow : List Entry → List Entry → Type 0
EachMayFollow queued [] = Unit {0}
EachMayFollow queued (entry ∷ journal) =
    MayFollow entry.act queued entry × EachMayFollow (queued_after entry.act queued entry) journal

-- the times of a journal never fall, from a time on
abbrev pub TimesNeverFall : ℕ → List Entry → Type 0
TimesNeverFall time [] = Unit {0}
TimesNeverFall time (entry ∷ journal) = (time ≤ entry.at) × TimesNeverFall entry.at journal

-- the time of the last entry, or the time before them
abbrev pub last_time : ℕ → List Entry → ℕ
last_time time [] = time
last_time time (entry ∷ journal) = last_time entry.at journal

-- a CPU's pinned and deferrable timers are handed out by itself alone
abbrev pub MayHandOut : (cpu : ℕ) → Class → (by : ℕ) → Type 0
MayHandOut cpu Pinned by = by ≡ cpu
MayHandOut cpu Global by = Unit {0}
MayHandOut cpu Deferrable by = by ≡ cpu

-- what was handed out, was so by a CPU that may
abbrev pub HandedByRight : (cpu : ℕ) → Act → Entry → Type 0
HandedByRight cpu Handed entry = MayHandOut cpu entry.class entry.by.0
HandedByRight cpu Armed entry = Unit {0}
HandedByRight cpu Cancelled entry = Unit {0}
HandedByRight cpu MovedOut entry = Unit {0}
HandedByRight cpu MovedIn entry = Unit {0}
HandedByRight cpu Ticked entry = Unit {0}

-- the journal of a CPU is legal
pub record LegalJournal (cpu : ℕ) (journal : List Entry) : Type 0 where
  pub each_may_follow : EachMayFollow [] journal
  pub times_never_fall : TimesNeverFall 0 journal
  pub handed_by_right : All (λ entry. HandedByRight cpu entry.act entry) journal

-- legal, and with no time past this one
pub record LegalUpTo (cpu time : ℕ) (journal : List Entry) : Type 0 where
  pub legal : LegalJournal cpu journal
  pub not_past : last_time 0 journal ≤ time

-- what an item of a base and its arming both say
pub record QueuedTimer : Type 0 where
  pub timer : ℕ
  pub expires : ℕ
  pub wheel : ℕ
  pub job : ℕ
  pub arg : ℕ

-- what an item and the arming of its timer both say, by the item
abbrev pub told_by_item : Item → QueuedTimer
told_by_item item = record {
  timer = item.id;
  expires = item.expires;
  wheel = item.wheel;
  job = item.job;
  arg = item.arg;
}

-- what an item and the arming of its timer both say, by the entry
abbrev pub told_by_entry : Entry → QueuedTimer
told_by_entry entry = record {
  timer = entry.timer.0;
  expires = entry.expires;
  wheel = entry.wheel;
  job = entry.job;
  arg = entry.arg;
}

-- a base agrees with a journal where its items, in order, are the armings of its class that
-- haven't ended
abbrev pub Agrees : Class → List Item → List Entry → Type 0
Agrees class items journal =
    map told_by_item items ≡ map told_by_entry (entries_of class (queued_by journal))
