-- times, classes and groups: their texts are words, and are read back
use Rattle.std.proofs.Common.{◌≡◌, ℕ, Bool, true, false, cond, eqb, List, [], ◌∷◌, ◌++◌, refl, sym, ap, ◌∙◌, append_assoc, arith, inl, inr}
use Rattle.std.specs.Prelude.{codes}
use Rattle.std.specs.Fmt.{decimal}
use Rattle.std.specs.Char.{is_ascii_digit}
use Rattle.std.specs.List.{list_all}
use Rattle.std.specs.Str.{bytes_eq}
use Rattle.std.proofs.lemmas.Bool.{and_from, cases_Bool, eqb-true, cond-false, false≢true}
use Rattle.std.proofs.lemmas.Fmt.{digits_decimal}
use Rattle.std.proofs.lemmas.List.Folds.{list_all-append}
use Rattle.std.proofs.lemmas.Slice.Eq.{bytes_eq-Decides}
use Rattle.text_words.specs.Words.{split}
use Rattle.text_words.proofs.Cuts.{is_clear, split_clear, split_again}
use Rattle.text_words.proofs.Digits.{own, clear_decimal}
use Rattle.tm_base.specs.Classes.{class_text}
use Rattle.tm_base.specs.declared.names.Class.{Class}
use Rattle.tm_base.specs.declared.names.Class.TheVariants.{Pinned, Global, Deferrable}
use Rattle.tm_base.specs.declared.names.TheConstants.{NEVER}
use Rattle.tm_report.specs.Words.{time_word, group_text}
use Rattle.report_reader.specs.Candidates.{later_of, number_read, jiffy_read, class_read, level_for, place_for, byte_of, short_of}
use Rattle.report_reader.specs.Names.{head_word}
use Rattle.report_reader.specs.Widths.{FitsTime, FitsGroup}
use Rattle.report_reader.proofs.Numbers.{number_again, number_fits, byte_again, short_again}

-- no space and no line feed is in a word
abbrev pub IsWord : List ℕ → Type 0
IsWord w = (is_clear 32 w ≡ true) × (is_clear 10 w ≡ true)

pub number_word : (n : ℕ) → FitsTime n → IsWord (decimal n)
number_word n h = (clear_decimal 32 n refl h, clear_decimal 10 n refl h)

-- a time without the space before it
abbrev pub time_text : ℕ → List ℕ
time_text at = cond (eqb at NEVER) (codes "never") (decimal at)

time_apart : (t : Bool) (at : ℕ) → cond t (codes " never") (codes " " ++ decimal at) ≡ 32 ∷ cond t (codes "never") (decimal at)
time_apart true at = refl
time_apart false at = refl

pub time_spaced : (at : ℕ) → time_word at ≡ 32 ∷ time_text at
time_spaced at = time_apart (eqb at NEVER) at

time_clear : (t : Bool) (at : ℕ) → FitsTime at → IsWord (cond t (codes "never") (decimal at))
time_clear true at h = (refl, refl)
time_clear false at h = number_word at h

pub time_is_word : (at : ℕ) → FitsTime at → IsWord (time_text at)
time_is_word at h = time_clear (eqb at NEVER) at h

not_never : (n : ℕ) → FitsTime n → bytes_eq (decimal n) (codes "never") ≡ false
not_never n h =
    elim (cases_Bool (bytes_eq (decimal n) (codes "never"))) [
      | inl same ↦ absurd (false≢true (ap (list_all is_ascii_digit) (sym ((bytes_eq-Decides (decimal n) (codes "never")).0 same)) ∙ digits_decimal own n h))
      | inr other ↦ other
    ]

time_read : (t : Bool) (at : ℕ) → FitsTime at → eqb at NEVER ≡ t → jiffy_read (cond t (codes "never") (decimal at)) ≡ at
unfolding jiffy_read
time_read true at h e = sym (eqb-true at NEVER e)
time_read false at h e = cond-false (bytes_eq (decimal at) (codes "never")) NEVER (number_read (decimal at)) (not_never at h) ∙ number_again at h

pub time_again : (at : ℕ) → FitsTime at → jiffy_read (time_text at) ≡ at
time_again at h = time_read (eqb at NEVER) at h refl

time_within : (t : Bool) (word : List ℕ) → FitsTime (cond t NEVER (number_read word))
time_within true word = omega arith
time_within false word = number_fits word

pub time_fits : (word : List ℕ) → FitsTime (jiffy_read word)
unfolding jiffy_read
time_fits word = time_within (bytes_eq word (codes "never")) word

pub class_is_word : (class : Class) → IsWord (class_text class)
class_is_word Pinned = (refl, refl)
class_is_word Global = (refl, refl)
class_is_word Deferrable = (refl, refl)

pub class_again : (class : Class) → class_read (class_text class) ≡ class
unfolding class_read
class_again Pinned = refl
class_again Global = refl
class_again Deferrable = refl

-- ---- groups

group_clear : (c level place : ℕ) → is_ascii_digit c ≡ false → is_clear c (codes ":") ≡ true → FitsGroup level place → is_clear c (group_text level place) ≡ true
group_clear c level place other apart h =
    rw (list_all-append, list_all-append)
    (and_from _ _ (and_from _ _ (clear_decimal c level other (omega (arith, h.0))) apart) (clear_decimal c place other (omega (arith, h.1))))

pub group_is_word : (level place : ℕ) → FitsGroup level place → IsWord (group_text level place)
group_is_word level place h = (group_clear 32 level place refl refl h, group_clear 10 level place refl refl h)

group_split : (level place : ℕ) → FitsGroup level place → split 58 (group_text level place) ≡ decimal level ∷ decimal place ∷ []
group_split level place h =
    ap (split 58) (append_assoc (decimal level) (codes ":") (decimal place))
    ∙ split_again 58 (decimal level) (decimal place) (clear_decimal 58 level refl (omega (arith, h.0)))
    ∙ ap (λ (r : List (List ℕ)). decimal level ∷ r) (split_clear 58 (decimal place) (clear_decimal 58 place refl (omega (arith, h.1))))

pub level_again : (level place : ℕ) → FitsGroup level place → level_for (group_text level place) ≡ level
unfolding level_for
level_again level place h = ap (λ (ws : List (List ℕ)). byte_of (head_word ws)) (group_split level place h) ∙ byte_again level h.0

pub place_again : (level place : ℕ) → FitsGroup level place → place_for (group_text level place) ≡ place
unfolding place_for
place_again level place h = ap (λ (ws : List (List ℕ)). short_of (head_word (later_of ws))) (group_split level place h) ∙ short_again place h.1
