-- the order of a group's exchanges between CPUs, by their lines: an exchange is made between its
-- CPU's line before and its own
use Rattle.std.specs.Prelude.{◌≡◌, ℕ, ◌==◌, ◌&&◌, ◌||◌, not, nat_lt, nat_le, zero, suc, Bool, true, false}
use Rattle.std.specs.Prelude.{List, [], ◌∷◌, ◌++◌, length, find, Option, Some, None}
use Rattle.std.specs.Prelude.{count_by, if◌then◌else◌}
use Rattle.std.specs.List.{list_all, list_any}
use Rattle.std.specs.Set.{remove_key}
use Rattle.tm_base.specs.declared.names.CpuId.{CpuId}
use Rattle.linux_lines.specs.declared.events.Exchange.{Exchange}
use Rattle.linux_seen.specs.declared.rules.Rule.{Rule}
use Rattle.linux_seen.specs.declared.rules.Rule.TheVariants as rules
use Rattle.linux_seen.specs.declared.seen.Word.{Word}
use Rattle.linux_seen.specs.declared.seen.Late.{Late}
use Rattle.linux_seen.specs.declared.seen.CpuSeen.{CpuSeen}
use Rattle.linux_seen.specs.declared.seen.Walk.{Walk}
use Rattle.linux_seen.specs.declared.seen.Walk.TheVariants.{Unknown, Closed, Rising, Falling}
use Rattle.linux_seen.specs.declared.seen.Walk.TheVariants.{Ending, Hung}
use Rattle.linux_seen.specs.Words.{follows, word_after}
use Rattle.linux_seen.specs.Rests.{has_bit, is_asleep, same_truth}
use Rattle.linux_seen.specs.Tree.{parent_fits}
use Rattle.linux_seen.specs.Walks.{may_join, may_leave}
use Rattle.linux_rules.specs.declared.orders.TheConstants.{MOST_LATE}

-- the exchange is on this group
abbrev pub is_on : ℕ → Late → Bool
is_on group a = a.exchange.place.group == group

-- a may be made before b: its line stands above, or it is another CPU's, whose line before stands
-- above that of b
abbrev pub may_precede : Late → Late → Bool
may_precede a b =
    nat_le a.line b.line || (not (a.cpu.0 == b.cpu.0) && nat_lt a.before b.line)

-- .. before each of these that is on this group
abbrev pub comes_first : ℕ → List Late → Late → Bool
comes_first group ls a = list_all (λ b. not (is_on group b) || may_precede a b) ls

-- a walk of deactivation comes to this group
abbrev pub falls_to : ℕ → Walk → Bool
falls_to group (Falling next) = next.group == group
falls_to group Unknown = false
falls_to group Closed = false
falls_to group (Rising next) = false
falls_to group Ending = false
falls_to group (Hung next) = false

-- a CPU, neither this one nor that of the exchange, is on its way to that group, and may have been
-- there before the exchange
abbrev pub is_coming : CpuId → ℕ → Late → CpuSeen → Bool
is_coming own group a c =
    not (c.cpu.0 == own.0) && not (c.cpu.0 == a.cpu.0) && nat_lt c.last a.line
    && falls_to group c.walk

-- A CHILD THAT COMES BACK WAITS: where its bit still stands, a CPU that is on its way to the group
-- may have taken it out before, and its line is to come
abbrev pub is_held : List CpuSeen → CpuId → ℕ → Word → Late → Bool
is_held cs own group word a =
    a.exchange.joins && has_bit word.active a.exchange.bit && list_any (is_coming own group a) cs

-- an exchange that may be made next on this group, whose word is this, while these are late, at a
-- line of this CPU
abbrev pub is_next : List CpuSeen → CpuId → ℕ → Word → List Late → Late → Bool
is_next cs own group word ls a =
    is_on group a && follows word a.exchange && comes_first group ls a
    && not (is_held cs own group word a)

-- a group's word, and the exchanges that are late
pub record Waiting : Type 0 where
  pub word : Word
  pub late : List Late

-- with the late exchange that is next, if one is
abbrev pub taken_next : Option Late → (Late → Bool) → Word → List Late
    → (Word → List Late → Waiting) → Waiting
taken_next None is_it word ls go_on = record { word = word; late = ls }
taken_next (Some a) is_it word ls go_on =
    go_on (word_after a.exchange) (remove_key is_it ls)

-- the late exchanges on a group that may be made now are taken, one after another, at most so many
abbrev pub caught_up : List CpuSeen → CpuId → ℕ → ℕ → Word → List Late → Waiting
caught_up cs own zero group word ls = record { word = word; late = ls }
caught_up cs own (suc n) group word ls =
    taken_next (find (is_next cs own group word ls) ls) (is_next cs own group word ls) word ls
    (caught_up cs own n group)

-- none of these late exchanges may be made next on this group
abbrev pub IsCaughtUp : List CpuSeen → CpuId → ℕ → Waiting → Type 0
IsCaughtUp cs own group w = find (is_next cs own group w.word w.late) w.late ≡ None

-- IT IS ENOUGH to take as many of them as there are late ones
abbrev pub CatchesUp : Type 0
CatchesUp =
    (cs : List CpuSeen) (own : CpuId) (group : ℕ) (word : Word) (ls : List Late) →
    IsCaughtUp cs own group (caught_up cs own (length ls) group word ls)

-- on a word that is known: an exchange that may be made next is taken, and late ones behind it;
-- else it waits behind the late ones, of which some may be made now
abbrev pub taken_on : Word → List CpuSeen → CpuId → ℕ → List Late → Late → Waiting
taken_on word cs own group ls a =
    if is_next cs own group word ls a
    then caught_up cs own (length ls) group (word_after a.exchange) ls
    else caught_up cs own (length (ls ++ a ∷ [])) group word (ls ++ a ∷ [])

-- a group's word and the late exchanges after an exchange; where no word is known it is taken
abbrev pub taken : Option Word → List CpuSeen → CpuId → ℕ → List Late → Late → Waiting
taken None cs own group ls a = record { word = word_after a.exchange; late = ls }
taken (Some word) cs own group ls a = taken_on word cs own group ls a

-- ---- exchanges that stay late

-- a child's bit is changed from the word before to that of the late exchange, as far as it is known
abbrev pub is_changed : Option ℕ → Option Word → Exchange → Bool
is_changed None word e = true
is_changed (Some k) None e = true
is_changed (Some k) (Some word) e =
    not (same_truth (has_bit word.active k) (has_bit e.active k))

-- at a leaf only the group's own CPUs make exchanges, each of its own bit alone
abbrev pub could_change : CpuSeen → Option Word → Exchange → Bool
could_change c word e =
    not (e.place.level == 0)
    || (parent_fits c.leaf e.place.group && is_changed c.bit word e)

-- a CPU may have made an exchange before this one, and not written its line yet: it has written
-- none since, and its walk comes to that group, whose word before the late ones is this
abbrev pub may_come : Option Word → Late → CpuSeen → Bool
may_come word a c =
    nat_lt c.last a.line && not (is_asleep c.active)
    && (may_join c.walk a.exchange.place.group || may_leave c.walk c a.exchange)
    && could_change c word a.exchange

-- the rule that the first late exchange of a group breaks, while so many are late there: no CPU
-- that was seen can come before it any more, or too many are late to look on
abbrev pub stuck_by : ℕ → List CpuSeen → Option Word → Late → Option Rule
stuck_by count cs word a =
    if not (list_any (may_come word a) cs) then Some rules.Exchange
    else if nat_lt MOST_LATE count then Some rules.Order
    else None

-- .. once there was another exchange on the group since its line
abbrev pub stuck_rule : ℕ → ℕ → List CpuSeen → Option Word → Late → Option Rule
stuck_rule line count cs word a =
    if nat_lt a.line line then stuck_by count cs word a else None

-- the first late exchange on a group
abbrev pub first_late : ℕ → List Late → Option Late
first_late group ls = find (is_on group) ls

-- how many are late on a group
abbrev pub late_on : ℕ → List Late → ℕ
late_on group ls = count_by (is_on group) ls
