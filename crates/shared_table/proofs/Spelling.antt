-- words that are written one after another
use Rattle.std.proofs.Common.{◌≡◌, ℕ, ◌+◌, ◌<◌, ◌≤◌, List, [], ◌∷◌, ◌++◌, length, refl, sym, ap}
use Rattle.std.proofs.Common.{◌∙◌, subst, inl, inr, arith, length-append}
use Rattle.std.specs.Prelude.{slice_index}
use Rattle.std.proofs.lemmas.Bool.{cases_eq}
use Rattle.std.proofs.lemmas.List.{get_or_append_left}
use Rattle.std.proofs.Math.Seq.{get_or-append_seam}
use Rattle.core_world.specs.World.{World}
use Rattle.shared_words.specs.declared.layout.SharedWord.{SharedWord}
use Rattle.shared_words.specs.declared.layout.SharedWord.TheVariants.{State, Lock, Slot, Cpu, Timer}
use Rattle.shared_words.specs.declared.layout.TheConstants.{WORDS_OF_GROUP, WORDS_OF_LINE}
use Rattle.shared_words.specs.Laws.{WordsApart}
use Rattle.shared_words.specs.Layout.{IsWordOf, index_of}
use Rattle.shared_rule.specs.Starts.{first_whole}
use Rattle.shared_rule.specs.Whole.{Spell, cpu_at, layout_of, slot_at, state_at}
use Rattle.shared_rule.specs.Whole.{timer_at, word_at}
use Rattle.shared_table.specs.Spelled.{SpelledBelow, SpelledTo, first_word}

-- SPARE WORDS: they say nothing, up to an index below which all is written
pub filled : (o : World) (index : ℕ) (words new : List ℕ) → SpelledBelow o index words
    → length new ≡ index
    → ((k : ℕ) → k < index → k < length words → slice_index new k ≡ slice_index words k)
    → SpelledTo o index new
filled o index words new below count same = record {
  count = count;
  each = λ p there low.
      let e = below.each p there low in
      same (index_of (layout_of o) p) low e.0 ∙ e.1;
}

-- no word stands before the first group's
pub none_yet : (o : World) → SpelledBelow o WORDS_OF_GROUP []
none_yet o = record {
  count = omega arith;
  each = λ p there low. absurd (above p low);
}
  where
    above : (p : SharedWord) → index_of (layout_of o) p < WORDS_OF_GROUP → ⊥
    above (State g) low = omega (arith, low)
    above (Lock g) low = omega (arith, low)
    above (Slot g k) low = omega (arith, low)
    above (Cpu c) low = omega (arith, low)
    above (Timer t) low = omega (arith, low)

module _ (o : World) (words : List ℕ) where
  -- what is written up to here is all that stands below an index
  below_too : (here index : ℕ) → SpelledTo o here words → here ≤ index
      → ((p : SharedWord) → IsWordOf (layout_of o) p → index_of (layout_of o) p < index
      → index_of (layout_of o) p < here) → SpelledBelow o index words
  below_too here index before upwards none = record {
    count = omega (arith, before.count, upwards);
    each = λ p there low.
        let lower = none p there low in
        (omega (arith, lower, before.count), before.each p there lower);
  }

  -- no word stands between the last slot of a group and the next group
  pub group_done : (g : ℕ) → g < length o.groups
      → SpelledTo o (index_of (layout_of o) (slot_at g 8)) words
      → SpelledBelow o (index_of (layout_of o) (state_at g) + WORDS_OF_GROUP) words
  group_done g low before = below_too (index_of (layout_of o) (slot_at g 8))
      (index_of (layout_of o) (state_at g) + WORDS_OF_GROUP) before (omega arith) none
    where
      none : (p : SharedWord) → IsWordOf (layout_of o) p
          → index_of (layout_of o) p < index_of (layout_of o) (state_at g) + WORDS_OF_GROUP
          → index_of (layout_of o) p < index_of (layout_of o) (slot_at g 8)
      none (State h) there below = omega (arith, below)
      none (Lock h) there below = omega (arith, below)
      none (Slot h k) there below = omega (arith, below, there.1)
      none (Cpu c) there below = absurd (omega (arith, below, low))
      none (Timer t) there below = absurd (omega (arith, below, low))

  -- no word stands between that of a CPU and the next line
  pub cpu_done : (c : ℕ) → c < length o.cpus
      → SpelledTo o (1 + index_of (layout_of o) (cpu_at c)) words
      → SpelledBelow o (index_of (layout_of o) (cpu_at c) + WORDS_OF_LINE) words
  cpu_done c low before = below_too (1 + index_of (layout_of o) (cpu_at c))
      (index_of (layout_of o) (cpu_at c) + WORDS_OF_LINE) before (omega arith) none
    where
      none : (p : SharedWord) → IsWordOf (layout_of o) p
          → index_of (layout_of o) p < index_of (layout_of o) (cpu_at c) + WORDS_OF_LINE
          → index_of (layout_of o) p < 1 + index_of (layout_of o) (cpu_at c)
      none (State h) there below = omega (arith, there)
      none (Lock h) there below = omega (arith, there)
      none (Slot h k) there below = omega (arith, there.0, there.1)
      none (Cpu d) there below = omega (arith, below)
      none (Timer t) there below = absurd (omega (arith, below, low))

module _ (law : WordsApart) (o : World) (p : SharedWord) (words : List ℕ) (word : ℕ) where
  -- the next word, which is that of its place
  pub one_more : IsWordOf (layout_of o) p → SpelledTo o (index_of (layout_of o) p) words
      → word ≡ first_word o p → SpelledTo o (1 + index_of (layout_of o) p) (words ++ word ∷ [])
  one_more there before is = record { count = counted; each = each }
    where
      counted : length (words ++ word ∷ []) ≡ 1 + index_of (layout_of o) p
      counted = omega (arith, length-append words (word ∷ []), before.count)

      at_end : slice_index (words ++ word ∷ []) (index_of (layout_of o) p) ≡ first_word o p
      at_end = ap (slice_index (words ++ word ∷ [])) (sym before.count)
          ∙ (get_or-append_seam words word [] 0 ∙ is)

      each : (q : SharedWord) → IsWordOf (layout_of o) q
          → index_of (layout_of o) q < 1 + index_of (layout_of o) p
          → slice_index (words ++ word ∷ []) (index_of (layout_of o) q) ≡ first_word o q
      each q has low = elim (cases_eq (index_of (layout_of o) q) (index_of (layout_of o) p)) [
        | inl same ↦
            subst (λ z. slice_index (words ++ word ∷ []) (index_of (layout_of o) z)
            ≡ first_word o z) (sym (law.one (layout_of o) q p has there same)) at_end
        | inr ne ↦
            let low_too : index_of (layout_of o) q < index_of (layout_of o) p
            = omega (arith, low, ne) in
            get_or_append_left words (word ∷ []) 0 (index_of (layout_of o) q)
            (omega (arith, low_too, before.count)) ∙ before.each q has low_too
      ]

-- the word of a place doesn't depend on how many walks count as begun
pub any_made : (o : World) (made : ℕ) (p : SharedWord)
    → first_word o p ≡ word_at (first_whole o made) p
any_made o made (State g) = refl
any_made o made (Lock g) = refl
any_made o made (Slot g k) = refl
any_made o made (Cpu c) = refl
any_made o made (Timer t) = refl

-- when the last timer's word is written the words spell the core
pub spelled_all : (law : WordsApart) (o : World) (words : List ℕ)
    → SpelledTo o (index_of (layout_of o) (timer_at o.timers)) words
    → (made : ℕ) → Spell (layout_of o) words (first_whole o made)
spelled_all law o words all made = record {
  count = all.count;
  each = λ p there. all.each p there (law.below (layout_of o) p there) ∙ any_made o made p;
}
