-- what the words of a command choose, word by word
use Rattle.std.proofs.Common.{◌≡◌, ℕ, ◌+◌, ◌<◌, ◌≤◌, List, Some, None, refl, sym, ap, ◌∙◌, get_or}
use Rattle.std.specs.Prelude.{drop, length, String, string_bytes}
use Rattle.std.specs.declared.alloc.Global.{Global}
use Rattle.std.proofs.lemmas.List.{drop_all, drop_more}
use Rattle.orders_view.specs.declared.words.Options.{Options}
use Rattle.orders_view.specs.Words.{asked_of, first_options, options_behind}
use Rattle.orders_view.specs.Words.{options_from, take_word}

module _ (i : ℕ) (options : Options) (words : List (String Global)) (d : String Global) where
  word_at : i < length words → options_from options (drop i words)
      ≡ options_behind (take_word options (string_bytes (get_or words i d))) (drop (i + 1) words)
  unfolding options_behind
  word_at low = rw (drop_more words i d low) refl

  pub word_next : (more : Options) → i < length words
      → options_from options (drop i words) ≡ options_from first_options words
      → Some more ≡ take_word options (string_bytes (get_or words i d))
      → options_from more (drop (i + 1) words) ≡ options_from first_options words
  word_next more low far is =
      ap (λ o. options_behind o (drop (i + 1) words)) is ∙ (sym (word_at low) ∙ far)

  none_behind : (rest : List (String Global)) → None ≡ options_behind None rest
  unfolding options_behind
  none_behind rest = refl

  pub word_none : i < length words
      → options_from options (drop i words) ≡ options_from first_options words
      → None ≡ take_word options (string_bytes (get_or words i d))
      → None ≡ options_from first_options words
  word_none low far is =
      none_behind (drop (i + 1) words)
      ∙ (ap (λ o. options_behind o (drop (i + 1) words)) is ∙ (sym (word_at low) ∙ far))

pub words_end : (i : ℕ) (options : Options) (words : List (String Global)) → length words ≤ i
    → options_from options (drop i words) ≡ options_from first_options words
    → asked_of options ≡ options_from first_options words
unfolding options_behind
words_end i options words past far = rw (drop_all i words past) at far
