-- an order of the exchanges that a trace allows
use Rattle.std.specs.Prelude.{◌≡◌, ◌||◌, ◌++◌, not, Bool, true, ℕ, List, [], ◌∷◌, find}
use Rattle.std.specs.Prelude.{Option, Some, None, Result, Ok, Err}
use Rattle.std.specs.List.{AllPass}
use Rattle.std.specs.List.Sorted.{IsPermutation}
use Rattle.text_words.specs.Words.{lines_of}
use Rattle.linux_lines.specs.declared.events.Happening.TheVariants.{GroupMade, GroupJoined}
use Rattle.linux_lines.specs.declared.events.Happening.TheVariants.{CpuJoined, Exchanged, CpuTold}
use Rattle.linux_lines.specs.declared.events.Happening.TheVariants.{Updated, Handling}
use Rattle.linux_lines.specs.declared.events.Line.{Line}
use Rattle.linux_lines.specs.declared.events.Line.TheVariants.{Remark, Loss, Foreign, Told}
use Rattle.linux_lines.specs.declared.events.Line.TheVariants.{OfTimer}
use Rattle.linux_lines.specs.declared.faults.LineFault.{LineFault}
use Rattle.linux_lines.specs.Lines.{line_of}
use Rattle.linux_seen.specs.declared.seen.Late.{Late}
use Rattle.linux_seen.specs.Counts.{counted}
use Rattle.linux_seen.specs.Seen.{Sight, timed}
use Rattle.linux_seen.specs.Words.{follows, word_after}
use Rattle.linux_rules.specs.declared.judge.Course.{Course}
use Rattle.linux_rules.specs.Orders.{is_on, may_precede}
use Rattle.linux_rules.specs.Exchanges.{dated}
use Rattle.linux_rules.specs.Judge.{start, text_after}
use Rattle.linux_rules.specs.Marks.{kept_lines}

-- ---- an order

-- an exchange follows from the last one on its group, where there is one
abbrev pub follows_last : Option Late → Late → Bool
follows_last None a = true
follows_last (Some b) a = follows (word_after b.exchange) a.exchange

-- where both are on one group, b may be made before a
abbrev pub may_follow : Late → Late → Bool
may_follow a b = not (is_on b.exchange.place.group a) || may_precede b a

-- EXCHANGES IN AN ORDER, newest first: each follows from the last one before it on its group, and
-- may be made after each of them by its line and its CPU's line before
abbrev pub IsInOrder : List Late → Type 0
IsInOrder [] = Unit {0}
IsInOrder (a ∷ older) =
    (follows_last (find (is_on a.exchange.place.group) older) a ≡ true)
    × AllPass (may_follow a) older × IsInOrder older

-- ---- of a trace

-- the exchanges since lines were lost last, newest first, after a line
abbrev pub exchanges_by : List Late → Sight → ℕ → Line → List Late
exchanges_by all s line (Told cpu at (Exchanged e)) = dated (timed s at) line cpu e ∷ all
exchanges_by all s line (Told cpu at (GroupMade place)) = all
exchanges_by all s line (Told cpu at (GroupJoined child j)) = all
exchanges_by all s line (Told cpu at (CpuJoined joined j)) = all
exchanges_by all s line (Told cpu at (CpuTold t)) = all
exchanges_by all s line (Told cpu at (Updated u)) = all
exchanges_by all s line (Told cpu at (Handling group)) = all
exchanges_by all s line Remark = all
exchanges_by all s line Loss = []
exchanges_by all s line (Foreign cpu odd) = all
exchanges_by all s line (OfTimer cpu at e) = all

-- .. a text that is a line
abbrev pub exchanges_said : List Late → Course → Result Line LineFault → List Late
exchanges_said all k (Err fault) = all
exchanges_said all k (Ok said) = exchanges_by all k.seen (counted k.tally.lines) said

-- .. a text
abbrev pub exchanges_after : List Late → Course → List ℕ → List Late
exchanges_after all k text = exchanges_said all k (line_of text)

-- all of these but those that are late stand in an order
abbrev pub HasOrder : List Late → Sight → Type 0
HasOrder all s = (order : List Late) × IsInOrder order × IsPermutation all (order ++ s.late)

-- .. at each line from here on
abbrev pub OrdersHold : List Late → Course → List (List ℕ) → Type 0
OrdersHold all k [] = HasOrder all k.seen
OrdersHold all k (text ∷ texts) =
    HasOrder all k.seen × OrdersHold (exchanges_after all k text) (text_after k text) texts

-- AT EACH LINE of a trace its exchanges since lines were lost last, but those that are late, stand
-- in an order that the trace allows
abbrev pub HasOrders : List ℕ → Type 0
HasOrders bytes =
    OrdersHold [] (start (lines_of bytes)) (kept_lines (lines_of bytes))
