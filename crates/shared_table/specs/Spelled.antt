-- the words of a core, as far as they are written (no public clause cites it)
use Rattle.std.specs.Prelude.{◌≡◌, ℕ, ◌<◌, ◌≤◌, List, length, slice_index}
use Rattle.core_world.specs.World.{World}
use Rattle.shared_words.specs.declared.layout.SharedWord.{SharedWord}
use Rattle.shared_words.specs.Layout.{IsWordOf, index_of}
use Rattle.shared_rule.specs.Starts.{first_whole}
use Rattle.shared_rule.specs.Whole.{layout_of, word_at}

-- the word that stands at a place as a run begins
abbrev pub first_word : World → SharedWord → ℕ
first_word o p = word_at (first_whole o 0) p

-- so many words there are, and those that the core has below are written
pub record SpelledTo (o : World) (n : ℕ) (words : List ℕ) : Type 0 where
  pub count : length words ≡ n
  pub each : (p : SharedWord) → IsWordOf (layout_of o) p → index_of (layout_of o) p < n
      → slice_index words (index_of (layout_of o) p) ≡ first_word o p

-- all words that the core has below an index are written, and there are no more words than that
pub record SpelledBelow (o : World) (index : ℕ) (words : List ℕ) : Type 0 where
  pub count : length words ≤ index
  pub each : (p : SharedWord) → IsWordOf (layout_of o) p → index_of (layout_of o) p < index
      → (index_of (layout_of o) p < length words)
      × (slice_index words (index_of (layout_of o) p) ≡ first_word o p)
