-- of the texts that `check` may write of a trace none is a front of another
use Rattle.std.proofs.Common.{◌≡◌, ℕ, zero, suc, ◌+◌, ◌/◌, ◌%◌, Bool, true, false, cond, eqb, ltb}
use Rattle.std.proofs.Common.{not, List, [], ◌∷◌, ◌++◌, length, refl, sym, ap, ◌∙◌, arith}
use Rattle.std.proofs.Common.{append_assoc, inl, inr, ◌<◌}
use Rattle.std.specs.Prelude.{codes, drop, take}
use Rattle.std.specs.Fmt.{decimal, digit_glyph, digits, digits_onto}
use Rattle.std.proofs.lemmas.Bool.{and_from, ne_eqb, not_from_false}
use Rattle.std.proofs.lemmas.List.{append_cancel_left, length-append, length-drop, take-append-drop}
use Rattle.std.proofs.lemmas.List.Folds.{list_all-append}
use Rattle.text_words.specs.Words.{lines_of}
use Rattle.text_words.proofs.Cuts.{is_clear, split_again}
use Rattle.tm_base.specs.declared.names.CpuId.{CpuId}
use Rattle.tm_base.specs.declared.names.TimerId.{TimerId}
use Rattle.tm_base.specs.declared.names.TheConstants.{NEVER}
use Rattle.tm_report.specs.Lines.{line_text, words_text}
use Rattle.tm_report.specs.Reasons.{reason_words}
use Rattle.tm_report.specs.Words.{group_text, number_word, time_word}
use Rattle.tm_report.specs.declared.lines.Line.TheVariants as report
use Rattle.tm_report.specs.declared.lines.ShownReason.{ShownReason}
use Rattle.tm_report.specs.declared.lines.ShownReason.TheVariants as shows
use Rattle.core_world.specs.Steps.{stepped}
use Rattle.core_world.specs.World.{World}
use Rattle.trace_check.specs.Answers.{IsCheckText, AreLinesPlayed, start_for}
use Rattle.trace_text.specs.declared.traces.Trace.{Trace}
use Rattle.trace_text.specs.declared.traces.TraceLine.{TraceLine}
use Rattle.trace_text.specs.declared.traces.TraceLine.TheVariants as lines
use Rattle.trace_check.specs.declared.verdict.Verdict.{Verdict}

-- a text is a front of another only where it is all of it
abbrev pub FrontIsWhole : List ℕ → List ℕ → Type 0
FrontIsWhole xs ys = (more : List ℕ) → xs ++ more ≡ ys → more ≡ []

none_left : (more : List ℕ) → length more ≡ 0 → more ≡ []
none_left [] e = refl
none_left (b ∷ bs) e = absurd (omega (arith, e))

pub same_is_whole : (xs ys : List ℕ) → xs ≡ ys → FrontIsWhole xs ys
same_is_whole xs ys same more is =
    let long = ap (λ (bs : List ℕ). length bs) (is ∙ sym same) in
    none_left more (omega (arith, long, length-append xs more))

-- a front that isn't all of a text is none that is a front of it only as a whole
pub front_apart : (xs ys : List ℕ) (count : ℕ) → count < length ys → FrontIsWhole xs ys
    → take count ys ≡ xs → ⊥
front_apart xs ys count less whole same =
    let none =
    whole (drop count ys)
    (ap (λ (bs : List ℕ). bs ++ drop count ys) (sym same) ∙ take-append-drop count ys) in
    let left = ap (λ (bs : List ℕ). length bs) none in
    absurd (omega (arith, less, left, length-drop count ys))

-- ---- a line's words hold no line feed

glyph_clear : (x : ℕ) (t : Bool)
    → not (eqb (cond t (48 + x) (cond false (55 + x) (87 + x))) 10) ≡ true
glyph_clear x true = not_from_false _ (ne_eqb (48 + x) 10 (λ e. absurd (omega (arith, e))))
glyph_clear x false = not_from_false _ (ne_eqb (87 + x) 10 (λ e. absurd (omega (arith, e))))

onto_clear : (k n : ℕ) (acc : List ℕ) → is_clear 10 acc ≡ true
    → is_clear 10 (digits_onto k 10 false n acc) ≡ true
onto_clear zero n acc h = h
onto_clear (suc k) n acc h =
    let more = and_from _ _ (glyph_clear (n % 10) (ltb (n % 10) 10)) h in
    elim (eqb (n / 10) 0) as (λ (t : Bool).
    is_clear 10 (cond t (digit_glyph false (n % 10) ∷ acc)
    (digits_onto k 10 false (n / 10) (digit_glyph false (n % 10) ∷ acc))) ≡ true) [
      | true ↦ more
      | false ↦ onto_clear k (n / 10) (digit_glyph false (n % 10) ∷ acc) more
    ]

decimal_clear : (n : ℕ) → is_clear 10 (decimal n) ≡ true
unfolding digits
decimal_clear n = onto_clear 64 n [] refl

both_clear : (xs ys : List ℕ) → is_clear 10 xs ≡ true → is_clear 10 ys ≡ true
    → is_clear 10 (xs ++ ys) ≡ true
both_clear xs ys h g = list_all-append (λ b. not (eqb b 10)) xs ys ∙ and_from _ _ h g

number_clear : (n : ℕ) → is_clear 10 (number_word n) ≡ true
number_clear n = decimal_clear n

time_clear : (at : ℕ) → is_clear 10 (time_word at) ≡ true
time_clear at =
    elim (eqb at NEVER) as (λ (t : Bool).
    is_clear 10 (cond t (32 ∷ 110 ∷ 101 ∷ 118 ∷ 101 ∷ 114 ∷ []) (number_word at)) ≡ true) [
      | true ↦ refl
      | false ↦ number_clear at
    ]

reason_clear : (shown : ShownReason) → is_clear 10 (reason_words shown) ≡ true
reason_clear (shows.Held level place cpu) =
    both_clear (group_text level place) (number_word cpu.0)
    (both_clear (decimal level ++ codes ":") (decimal place)
    (both_clear (decimal level) (codes ":") (decimal_clear level) refl) (decimal_clear place))
    (number_clear cpu.0)
reason_clear (shows.Woken cpu at) =
    both_clear (number_word cpu.0) (time_word at) (number_clear cpu.0) (time_clear at)
reason_clear (shows.Carried number) = number_clear number
reason_clear shows.Nothing = refl

abbrev why : (made : ℕ) → CpuId → TimerId → ShownReason → List ℕ
why made cpu timer shown = words_text (report.Why made cpu timer shown)

why_clear : (made : ℕ) (cpu : CpuId) (timer : TimerId) (shown : ShownReason)
    → is_clear 10 (why made cpu timer shown) ≡ true
unfolding words_text
why_clear made cpu timer shown =
    both_clear (number_word made ++ number_word cpu.0 ++ number_word timer.0) (reason_words shown)
    (both_clear (number_word made ++ number_word cpu.0) (number_word timer.0)
    (both_clear (number_word made) (number_word cpu.0) (number_clear made) (number_clear cpu.0))
    (number_clear timer.0))
    (reason_clear shown)

-- ---- so the answer that a text begins with ends where its first line does

abbrev first_part : List (List ℕ) → List ℕ
first_part [] = []
first_part (l ∷ ls) = l

module _ (made : ℕ) (cpu : CpuId) (timer : TimerId) where
  first_line : (shown : ShownReason) (behind : List ℕ)
      → first_part (lines_of (line_text (report.Why made cpu timer shown) ++ behind))
      ≡ why made cpu timer shown
  unfolding line_text
  first_line shown behind =
      ap (λ (bs : List ℕ). first_part (lines_of bs))
      (append_assoc (why made cpu timer shown) (10 ∷ []) behind)
      ∙ ap first_part
      (split_again 10 (why made cpu timer shown) behind (why_clear made cpu timer shown))

  same_behind : (s u : ShownReason) (xs ys : List ℕ)
      → line_text (report.Why made cpu timer s) ++ xs
      ≡ line_text (report.Why made cpu timer u) ++ ys
      → xs ≡ ys
  unfolding line_text
  same_behind s u xs ys is =
      let line : why made cpu timer s ≡ why made cpu timer u =
      sym (first_line s xs) ∙ ap (λ (bs : List ℕ). first_part (lines_of bs)) is
      ∙ first_line u ys in
      append_cancel_left (line_text (report.Why made cpu timer u)) xs ys
      (ap (λ (l : List ℕ). (l ++ 10 ∷ []) ++ xs) (sym line) ∙ is)

-- ---- and a text ends where another one does

whole : (w : World) (made : ℕ) (ls : List TraceLine) (v u : Verdict) (xs ys : List ℕ)
    → AreLinesPlayed w made ls v xs → AreLinesPlayed w made ls u ys → FrontIsWhole xs ys
unfolding AreLinesPlayed
whole w made [] v u xs ys x y = same_is_whole xs ys (x.text_is ∙ sym y.text_is)
whole w made (lines.Do step ∷ rest) v u xs ys (inl x) (inl y) =
    whole (stepped w step) (made + 1) rest v u xs ys x.goes_on y.goes_on
whole w made (lines.Do step ∷ rest) v u xs ys (inl x) (inr y) = absurd (y.refused x.enabled)
whole w made (lines.Do step ∷ rest) v u xs ys (inr x) (inl y) = absurd (x.refused y.enabled)
whole w made (lines.Do step ∷ rest) v u xs ys (inr x) (inr y) =
    same_is_whole xs ys (x.text_is ∙ sym y.text_is)
whole w made (lines.Why cpu timer ∷ rest) v u xs ys x y =
    λ more is. whole w made rest v u x.behind y.behind x.goes_on y.goes_on more
    (same_behind made cpu timer x.shown y.shown (x.behind ++ more) y.behind
    (sym (append_assoc (line_text (report.Why made cpu timer x.shown)) x.behind more)
    ∙ ap (λ (bs : List ℕ). bs ++ more) (sym x.begins) ∙ is ∙ y.begins))

pub check_whole : (t : Trace) (xs ys : List ℕ) → IsCheckText t xs → IsCheckText t ys
    → FrontIsWhole xs ys
check_whole t xs ys x y = whole (start_for t) 0 t.lines x.0 y.0 xs ys x.1 y.1
