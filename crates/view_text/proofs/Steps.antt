-- pieces, rows and jiffies of a page, one by one
use Rattle.std.proofs.Common.{◌≡◌, ℕ, ◌+◌, ◌-◌, ◌<◌, ◌≤◌, List, ◌∷◌, ◌++◌, Option, Some}
use Rattle.std.proofs.Common.{append_assoc, drop, length, replicate, sym, ap, ◌∙◌, get_or}
use Rattle.std.proofs.Common.{arith, true, false}
use Rattle.std.proofs.lemmas.Bool.Decides.{nat_tests}
use Rattle.std.specs.Prelude.{codes}
use Rattle.std.specs.Fmt.{decimal}
use Rattle.std.proofs.lemmas.Bool.{cond-false, cond-true}
use Rattle.std.proofs.lemmas.List.{drop_all, drop_more}
use Rattle.view_chart.specs.declared.model.Point.{Point}
use Rattle.view_chart.specs.declared.model.Span.{Span}
use Rattle.view_text.specs.declared.pages.TheConstants.{SPACE}
use Rattle.view_text.specs.Pages.{front_of, has_room, rows_from, ruler_from, signs_of}

-- ---- pieces pushed one behind the other

pub onto : {A : Type 0} → (front middle back : List A) →
    front ++ middle ++ back ≡ front ++ (middle ++ back)
onto front middle back = append_assoc front middle back

-- ---- rows

pub rows_next : (begin i : ℕ) (before : Option ℕ) (spans : List Span) (d s : Span)
    (text new all : List ℕ) → i < length spans → s ≡ get_or spans i d →
    text ++ rows_from begin before (drop i spans) ≡ all →
    new ≡ text ++ (front_of before s.cpu.0 ++ signs_of begin s) →
    new ++ rows_from begin (Some s.cpu.0) (drop (i + 1) spans) ≡ all
unfolding rows_from
rows_next begin i before spans d s text new all low is far written =
    let rest = drop (i + 1) spans in
    let front = front_of before s.cpu.0 in
    let signs = signs_of begin s in
    let rows = rows_from begin (Some s.cpu.0) rest in
    let step : drop i spans ≡ s ∷ rest =
    drop_more spans i d low ∙ ap (λ x. x ∷ rest) (sym is) in
    ap (λ t. t ++ rows) written
    ∙ (append_assoc text (front ++ signs) rows
    ∙ (ap (λ x. text ++ x) (append_assoc front signs rows)
    ∙ (ap (λ ls. text ++ rows_from begin before ls) (sym step) ∙ far)))

pub rows_end : (begin i : ℕ) (before : Option ℕ) (spans : List Span) (text new all : List ℕ) →
    length spans ≤ i → text ++ rows_from begin before (drop i spans) ≡ all →
    new ≡ text ++ codes "\n" → new ≡ all
unfolding rows_from
rows_end begin i before spans text new all high far written =
    written ∙ (ap (λ ls. text ++ rows_from begin before ls) (sym (drop_all i spans high)) ∙ far)

-- ---- jiffies

-- where there is no room for nothing there is none for a number
no_more_room : (begin at column count : ℕ) → has_room begin at column 0 ≡ false →
    has_room begin at column count ≡ false
no_more_room begin at column count none = grind (arith, nat_tests)

module _ (begin at : ℕ) (p : Point) where
  pub skipped : has_room begin at p.column (length (decimal p.at)) ≡ false →
      (old : List ℕ) (rest : List Point) →
      old ++ ruler_from begin at rest ≡ old ++ ruler_from begin at (p ∷ rest)
  unfolding ruler_from
  skipped none old rest =
      ap (λ x. old ++ x)
      (sym (cond-false (has_room begin at p.column (length (decimal p.at))) _ _ none))

  pub passed_over : has_room begin at p.column 0 ≡ false → (old : List ℕ) (rest : List Point) →
      old ++ ruler_from begin at rest ≡ old ++ ruler_from begin at (p ∷ rest)
  passed_over none =
      skipped (no_more_room begin at p.column (length (decimal p.at)) none)

  pub ticked : has_room begin at p.column (length (decimal p.at)) ≡ true → (old new : List ℕ) →
      new ≡ old ++ (replicate (p.column - begin - at) SPACE ++ (decimal p.at ++ codes " ")) →
      (rest : List Point) →
      new ++ ruler_from begin (p.column - begin + length (decimal p.at) + 1) rest
      ≡ old ++ ruler_from begin at (p ∷ rest)
  unfolding ruler_from
  ticked room old new written rest =
      let spaces = replicate (p.column - begin - at) SPACE in
      let number = decimal p.at in
      let ruler = ruler_from begin (p.column - begin + length number + 1) rest in
      ap (λ t. t ++ ruler) written
      ∙ (append_assoc old (spaces ++ (number ++ codes " ")) ruler
      ∙ ap (λ x. old ++ x)
      (append_assoc spaces (number ++ codes " ") ruler
      ∙ (ap (λ x. spaces ++ x) (append_assoc number (codes " ") ruler)
      ∙ sym (cond-true (has_room begin at p.column (length number)) _ _ room))))

pub ruler_end : (begin at i : ℕ) (points : List Point) (text new all : List ℕ) →
    length points ≤ i → text ++ ruler_from begin at (drop i points) ≡ all →
    new ≡ text ++ codes "\n" → new ≡ all
unfolding ruler_from
ruler_end begin at i points text new all high far written =
    written ∙ (ap (λ ls. text ++ ruler_from begin at ls) (sym (drop_all i points high)) ∙ far)
