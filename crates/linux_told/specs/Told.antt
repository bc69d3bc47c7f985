-- told expiries at rest: who answers for them, by what was seen
use Rattle.std.specs.Prelude.{ℕ, ◌==◌, ◌&&◌, ◌||◌, not, nat_lt, nat_le, zero, suc, Bool, true}
use Rattle.std.specs.Prelude.{false}
use Rattle.std.specs.Prelude.{Option, Some, None, is_some, find, List, [], ◌∷◌, if◌then◌else◌}
use Rattle.std.specs.List.{list_all, list_any}
use Rattle.linux_lines.specs.declared.events.TheConstants.{NO_EXPIRY}
use Rattle.linux_seen.specs.declared.seen.Word.{Word}
use Rattle.linux_seen.specs.declared.seen.GroupSeen.{GroupSeen}
use Rattle.linux_seen.specs.declared.seen.CpuSeen.{CpuSeen}
use Rattle.linux_told.specs.declared.told.TheConstants.{MOST_LEVELS}
use Rattle.linux_told.specs.declared.told.Answer.{Answer}
use Rattle.linux_told.specs.declared.told.Answer.TheVariants.{Nothing, Due, Held, Woken, Itself}
use Rattle.linux_told.specs.declared.told.Answer.TheVariants.{Open, Missing}
use Rattle.linux_told.specs.declared.told.Answers.{Answers}
use Rattle.linux_seen.specs.Counts.{counted}
use Rattle.linux_seen.specs.Seen.{Sight, group_at, or_else}
use Rattle.linux_seen.specs.declared.whom.Whom.{Whom}
use Rattle.linux_seen.specs.Whom.{cpu_whom}
use Rattle.linux_seen.specs.Words.{named_by}
use Rattle.linux_seen.specs.Tree.{cpu_stands, group_stands}
use Rattle.linux_seen.specs.Rests.{is_asleep, is_awake}
use Rattle.linux_seen.specs.Rests.{at_rest, is_asleep, is_awake, known_word}

-- ---- from an active group down to an active CPU

-- from a child group on
abbrev pub leads_below : Option GroupSeen → (ℕ → Bool) → Bool
leads_below None below = false
leads_below (Some g) below = below g.pointer

-- from a child on: the CPU is awake, or the child group leads to one that is
abbrev pub leads_from : Option CpuSeen → Option GroupSeen → (ℕ → Bool) → Bool
leads_from (Some c) g below = is_awake c.active
leads_from None g below = leads_below g below

-- from the child of this number on
abbrev pub leads_by : Sight → ℕ → Option ℕ → (ℕ → Bool) → Bool
leads_by s p None below = false
leads_by s p (Some k) below =
    leads_from (find (λ c. cpu_stands c p k) s.cpus) (find (λ g. group_stands g p k) s.groups) below

-- the number of the migrator of a word, where it is known
abbrev pub migrator_in : Option Word → Option ℕ
migrator_in None = None
migrator_in (Some word) = named_by word.migrator

-- from a group down, migrator by migrator, one comes to a CPU that is awake, within so many levels
abbrev pub leads : Sight → ℕ → ℕ → Bool
leads s zero p = false
leads s (suc n) p = leads_by s p (migrator_in (known_word (group_at s p))) (leads s n)

-- ---- from a CPU up to a group that answers

-- a wakeup that is there by this time
abbrev pub is_by : ℕ → Option ℕ → Bool
is_by time None = false
is_by time (Some at) = nat_le at time && not (at == NO_EXPIRY)

-- a CPU of the tree that keeps a wakeup by this time
abbrev pub wakes : ℕ → CpuSeen → Bool
wakes time c = is_some c.leaf && is_by time c.wakeup

-- some CPU wakes by the event at a sleeping top
abbrev pub at_top : Sight → ℕ → Answer
at_top s event = if list_any (wakes event) s.cpus then Woken else Open

-- at a sleeping group: the top answers, or the group's parent has to
abbrev pub at_sleeping : Sight → ℕ → Option ℕ → Option Answer
at_sleeping s event None = Some Open
at_sleeping s event (Some parent) = if parent == 0 then Some (at_top s event) else None

-- at an active group: it holds the event where it leads to a CPU that is awake
abbrev pub at_active : Sight → ℕ → Answer
at_active s p = if leads s MOST_LEVELS p then Held else Open

-- at a group with an event in time: an answer, or None where its parent has to give it
abbrev pub at_group : Sight → ℕ → ℕ → GroupSeen → Option Word → Option Answer
at_group s event p g None = Some Open
at_group s event p g (Some word) =
    if word.migrator == 0 then at_sleeping s event g.parent else Some (at_active s p)

-- at a group p in which the child's event is this: where it is due it may have been taken out;
-- where it is later than what was told, or none, nobody answers
abbrev pub answer_here : Sight → ℕ → ℕ → Option ℕ → Option ℕ → Option Answer
answer_here s now told None pointer = Some Open
answer_here s now told (Some event) None = Some Open
answer_here s now told (Some event) (Some p) =
    if p == 0 || nat_le event now then Some Open
    else if nat_lt told event || event == NO_EXPIRY then Some Missing
    else at_group s event p (group_at s p) (known_word (group_at s p))

-- the group of a pointer
abbrev pub group_of : Sight → Option ℕ → GroupSeen
group_of s pointer = group_at s (or_else pointer 0)

-- who answers for what was told, from a group on in which the child's event is this, within so many
-- levels
abbrev pub climbed : Sight → ℕ → ℕ → ℕ → Option ℕ → Option ℕ → Answer
climbed s now told zero event pointer = Open
climbed s now told (suc n) event pointer =
    or_else (answer_here s now told event pointer)
    (climbed s now told n (group_of s pointer).event (group_of s pointer).parent)

-- ---- an idle CPU

-- where the hierarchy doesn't answer, the CPU's own wakeup may, where it is known
abbrev pub or_itself : Answer → Option ℕ → ℕ → Answer
or_itself answer None told = Open
or_itself answer (Some wakeup) told = if is_by told (Some wakeup) then Itself else answer

-- the answer of the hierarchy, or else of the CPU itself
abbrev pub answer_by : Answer → Option ℕ → ℕ → Answer
answer_by Held wakeup told = Held
answer_by Woken wakeup told = Woken
answer_by Missing wakeup told = or_itself Missing wakeup told
answer_by Open wakeup told = or_itself Open wakeup told
answer_by Nothing wakeup told = Open
answer_by Due wakeup told = Open
answer_by Itself wakeup told = Open

-- who answers for what a CPU has told, by the time
abbrev pub answer_at : Sight → CpuSeen → ℕ → Option ℕ → Answer
answer_at s c told None = Open
answer_at s c told (Some now) =
    if nat_le told now then Due
    else answer_by (climbed s now told MOST_LEVELS c.event c.leaf) c.wakeup told

-- .. where it has told something
abbrev pub answer_told : Sight → CpuSeen → Option ℕ → Answer
answer_told s c None = Nothing
answer_told s c (Some told) =
    if told == NO_EXPIRY then Nothing else answer_at s c told s.clock

-- WHO ANSWERS for what a CPU has told, by what was seen
unfoldable pub answer_of : Sight → CpuSeen → Answer
answer_of s c = if is_asleep c.active then answer_told s c c.timer else Nothing

-- nobody answers
abbrev pub is_missing : Answer → Bool
is_missing Missing = true
is_missing Nothing = false
is_missing Due = false
is_missing Held = false
is_missing Woken = false
is_missing Itself = false
is_missing Open = false

-- somebody may answer for what each CPU has told, if no walk is under way
abbrev pub told_fits : Sight → Bool
told_fits s = not (at_rest s) || list_all (λ c. not (is_missing (answer_of s c))) s.cpus

-- the first CPU for whose told expiry nobody answers, with its leaf
abbrev pub missing_whom : Sight → Whom
missing_whom s = cpu_whom (find (λ c. is_missing (answer_of s c)) s.cpus)

-- ---- counting

-- no answer is counted
abbrev pub no_answers : Answers
no_answers = record { held = 0; woken = 0; itself = 0; unsure = 0; due = 0 }

-- an answer is counted
abbrev pub counted_answer : Answers → Answer → Answers
counted_answer a Held = record a { held = counted a.held }
counted_answer a Woken = record a { woken = counted a.woken }
counted_answer a Itself = record a { itself = counted a.itself }
counted_answer a Open = record a { unsure = counted a.unsure }
counted_answer a Due = record a { due = counted a.due }
counted_answer a Nothing = a
counted_answer a Missing = a

-- the answers for these CPUs are counted
abbrev pub counted_answers : Sight → Answers → List CpuSeen → Answers
counted_answers s a [] = a
counted_answers s a (c ∷ cs) = counted_answers s (counted_answer a (answer_of s c)) cs

-- .. at a rest
abbrev pub answers_if : Bool → Answers → Sight → Answers
answers_if true a s = counted_answers s a s.cpus
answers_if false a s = a
