-- for crates above: what a plain base keeps as it is forwarded, added to and handed out
use Rattle.std.proofs.Common.{◌≡◌, ℕ, ◌+◌, ◌^◌, ◌<◌, ◌≤◌, max, List, [], ◌∷◌, refl}
use Rattle.std.proofs.Common.{sym, subst, arith}
use Rattle.std.proofs.Common.{Option, Some, None}
use Rattle.std.specs.List.{All}
use Rattle.std.specs.Option.{IfSome}
use Rattle.std.proofs.lemmas.Bool.Decides.{nat_tests}
use Rattle.std.proofs.lemmas.List.Elements.{All-head, All-push, All-tail, All-weaker}
use Rattle.std.proofs.lemmas.Option.{none-some, same_Some}
use Rattle.wheel_core.specs.declared.item.Item.{Item}
use Rattle.wheel_core.specs.PlainBase.{FitsWheel, IsSound, NoneBehind, NoneDue, NoneSooner, OneFewer}
use Rattle.wheel_core.specs.PlainBase.{OutIsDue, PlainBase}
use Rattle.wheel_core.specs.PlainBase.{added, after_out, clock_forwarded, forwarded, item_of, least}
use Rattle.wheel_core.specs.PlainBase.{next_out, item_added, removed, sooner, taken}
use Rattle.wheel_core.proofs.HandOut.{out_is_due}
use Rattle.wheel_core.proofs.Ids.{all_without, gone_without, length-without, sound_push}
use Rattle.wheel_core.proofs.Ids.{item_holds, sound_without}
use Rattle.wheel_core.proofs.Leasts.{least_below, least_none}
use Rattle.wheel_core.proofs.Levels.{wheel_keeps_time}

-- NOTHING BEHIND: no queued wheel expiry is below the clock, said of the least and of each
sooner_above : (clock wheel : ℕ) (rest : Option ℕ) → clock ≤ wheel
    → ((other : ℕ) → rest ≡ Some other → clock ≤ other) → clock ≤ sooner wheel rest
sooner_above clock wheel None here later = here
sooner_above clock wheel (Some other) here later = let there = later other refl in omega arith

least_above : (clock : ℕ) (items : List Item) → NoneSooner clock items → (wheel : ℕ)
    → least items ≡ Some wheel → clock ≤ wheel
least_above clock [] ahead wheel is = absurd (none-some wheel is)
least_above clock (first ∷ items) ahead wheel is =
    let here = All-head (λ item. clock ≤ item.wheel) first items ahead in
    let rest = least_above clock items (All-tail (λ item. clock ≤ item.wheel) first items ahead) in
    let low = sooner_above clock first.wheel (least items) here rest in
    let same = same_Some _ _ is in
    omega (arith, low, same)

each_ahead : (clock : ℕ) (items : List Item) (first : Option ℕ) → least items ≡ first
    → ((wheel : ℕ) → first ≡ Some wheel → clock ≤ wheel) → NoneSooner clock items
each_ahead clock items None is ahead =
    subst (NoneSooner clock) (sym (least_none items is)) (λ k d low. absurd (omega arith))
each_ahead clock items (Some wheel) is ahead =
    let low = ahead wheel refl in
    All-weaker (λ item. wheel ≤ item.wheel) (λ item. clock ≤ item.wheel) (λ item h. omega arith)
    items (least_below items wheel is)

pub none_sooner : (base : PlainBase) → NoneBehind base → NoneSooner base.clock base.items
none_sooner base ahead = each_ahead base.clock base.items (least base.items) refl ahead

pub none_behind : (base : PlainBase) → NoneSooner base.clock base.items → NoneBehind base
none_behind base ahead = least_above base.clock base.items ahead

-- where nothing is due and the clock is at most a jiffy ahead, nothing is behind
pub none_behind_none_due : (now : ℕ) (base : PlainBase) → NoneDue now base.items
    → base.clock ≤ now + 1 → NoneBehind base
none_behind_none_due now base later near =
    none_behind base
    (All-weaker (λ item. now < item.wheel) (λ item. base.clock ≤ item.wheel)
    (λ item h. omega arith) base.items later)

-- FORWARDING
pub none_behind_forwarded : (now : ℕ) (base : PlainBase) → NoneBehind base
    → NoneBehind (forwarded now base)
none_behind_forwarded now base ahead wheel is =
    let here = ahead wheel is in rw is (grind (arith, nat_tests))

clock_near : (now clock : ℕ) (first : Option ℕ) → clock_forwarded now clock first ≤ max clock now
clock_near now clock None = grind (arith, nat_tests)
clock_near now clock (Some wheel) = grind (arith, nat_tests)

pub clock-forwarded_le : (now : ℕ) (base : PlainBase)
    → (forwarded now base).clock ≤ max base.clock now
clock-forwarded_le now base = clock_near now base.clock (least base.items)

-- ADDING
pub placed_in_range : (clock id expires job arg : ℕ) → expires < 2 ^ 47 → clock < 2 ^ 47
    → FitsWheel (item_added clock id expires job arg)
placed_in_range clock id expires job arg e k =
    let keeps = wheel_keeps_time expires clock e k in
    record { expires = e; wheel = keeps.in_time; level = keeps.level }

pub none_behind_added : (id expires job arg : ℕ) (base : PlainBase) → expires < 2 ^ 47
    → base.clock < 2 ^ 47 → NoneBehind base → NoneBehind (added id expires job arg base)
none_behind_added id expires job arg base e k ahead =
    none_behind (added id expires job arg base)
    (All-push (λ item. base.clock ≤ item.wheel) base.items (item_added base.clock id expires job arg)
    (none_sooner base ahead) (wheel_keeps_time expires base.clock e k).not_before_clock)

pub sound_added : (id expires job arg : ℕ) (base : PlainBase) → expires < 2 ^ 47
    → base.clock < 2 ^ 47 → item_of id base.items ≡ None → IsSound base.items
    → IsSound (added id expires job arg base).items
sound_added id expires job arg base e k none sound =
    sound_push base.items (item_added base.clock id expires job arg) sound none
    (placed_in_range base.clock id expires job arg e k)

-- REMOVING
pub none_behind_removed : (id : ℕ) (base : PlainBase) → NoneBehind base
    → NoneBehind (removed id base)
none_behind_removed id base ahead =
    none_behind (removed id base)
    (all_without (λ item. base.clock ≤ item.wheel) id base.items (none_sooner base ahead))

pub sound_removed : (id : ℕ) (base : PlainBase) → IsSound base.items
    → IsSound (removed id base).items
sound_removed id base sound = sound_without id base.items sound

-- HAND-OUT
pub due_out : (now : ℕ) (base : PlainBase) → IsSound base.items
    → OutIsDue now base.items (next_out now base)
due_out now base sound = out_is_due now base.items sound.distinct

pub none_behind_out : (now : ℕ) (base : PlainBase) → IsSound base.items
    → next_out now base ≡ None → base.clock ≤ now + 1 → NoneBehind base
none_behind_out now base sound none near =
    none_behind_none_due now base
    (subst (OutIsDue now base.items) none (due_out now base sound)) near

clock_after : (now : ℕ) (base : PlainBase) (out : Option Item) → OutIsDue now base.items out
    → (after_out base out).clock ≤ max base.clock (now + 1)
clock_after now base None due = omega arith
clock_after now base (Some item) due = let past = due.due in omega arith

pub clock-taken_le : (now : ℕ) (base : PlainBase) → IsSound base.items
    → (taken now base).clock ≤ max base.clock (now + 1)
clock-taken_le now base sound = clock_after now base (next_out now base) (due_out now base sound)

-- what holds of all items holds of what goes out
pub out_holds : (P : Item → Type 0) (now : ℕ) (items : List Item) (out : Option Item)
    → All P items → OutIsDue now items out → IfSome out P
out_holds P now items None all due = tt
out_holds P now items (Some item) all due = item_holds P item.id items item all due.queued

-- what holds of all items, and soundness, hold of those that are left
pub all_after_out : (P : Item → Type 0) (base : PlainBase) (out : Option Item)
    → All P base.items → All P (after_out base out).items
all_after_out P base None all = all
all_after_out P base (Some item) all = all_without P item.id base.items all

pub sound_after_out : (base : PlainBase) (out : Option Item) → IsSound base.items
    → IsSound (after_out base out).items
sound_after_out base None sound = sound
sound_after_out base (Some item) sound = sound_without item.id base.items sound

-- what went out is gone, and it was one
pub gone_after_out : (base : PlainBase) (item : Item) → IsSound base.items
    → item_of item.id (after_out base (Some item)).items ≡ None
gone_after_out base item sound = gone_without item.id base.items sound.distinct

pub one_fewer_after_out : (now : ℕ) (base : PlainBase) (item : Item)
    → OutIsDue now base.items (Some item) → OneFewer base (after_out base (Some item))
one_fewer_after_out now base item due = length-without item.id base.items item due.queued
