-- the words of a layout: which there are, and where each stands
use Rattle.std.specs.Prelude.{ℕ, ◌+◌, ◌*◌, ◌<◌}
use Rattle.shared_words.specs.declared.layout.Layout.{Layout}
use Rattle.shared_words.specs.declared.layout.SharedWord.{SharedWord}
use Rattle.shared_words.specs.declared.layout.SharedWord.TheVariants.{State, Lock, Slot, Cpu, Timer}
use Rattle.shared_words.specs.declared.layout.TheConstants.{WORDS_OF_GROUP, WORDS_OF_LINE}

-- the words of a layout
abbrev pub IsWordOf : Layout → SharedWord → Type 0
IsWordOf l (State g) = g.0 < l.groups
IsWordOf l (Lock g) = g.0 < l.groups
IsWordOf l (Slot g k) = (g.0 < l.groups) × (k < 8)
IsWordOf l (Cpu c) = c.0 < l.cpus
IsWordOf l (Timer t) = t.0 < l.timers

-- word 0, then the words of each group, then a line for each CPU, then the timers
abbrev pub index_of : Layout → SharedWord → ℕ
index_of l (State g) = WORDS_OF_GROUP * (1 + g.0)
index_of l (Lock g) = WORDS_OF_GROUP * (1 + g.0) + 1
index_of l (Slot g k) = WORDS_OF_GROUP * (1 + g.0) + 2 + k
index_of l (Cpu c) = WORDS_OF_GROUP * (1 + l.groups) + WORDS_OF_LINE * c.0
index_of l (Timer t) = WORDS_OF_GROUP * (1 + l.groups) + WORDS_OF_LINE * l.cpus + t.0

-- how many words there are, word 0 and those that say nothing among them
abbrev pub count_of : Layout → ℕ
count_of l = WORDS_OF_GROUP * (1 + l.groups) + WORDS_OF_LINE * l.cpus + l.timers
