-- words, names and lines one by one
use Rattle.std.proofs.Common.{◌≡◌, ℕ, ◌+◌, ◌-◌, ◌<◌, ◌≤◌, List, [], ◌∷◌, ◌++◌, append_assoc, ap}
use Rattle.std.proofs.Common.{◌∙◌, sym, length, drop, replicate, get_or}
use Rattle.std.specs.List.{flat_map}
use Rattle.std.proofs.lemmas.List.{append-nil, drop_all, drop_more}
use Rattle.text_words.specs.Words.{lines_of}
use Rattle.page_rows.specs.declared.rows.TheConstants.{SPACE}
use Rattle.page_rows.specs.declared.sheets.Sheet.{Sheet}
use Rattle.page_rows.specs.Rows.{filled, fresh_row, fresh_rows, gap_of, place_behind}
use Rattle.page_rows.specs.Sheets.{head_of, heads_from}

-- ---- words within a width

pub filled_next : (indent width at next : ℕ) (word : List ℕ) (rest : List (List ℕ))
    (old new : List ℕ) → new ≡ old ++ (gap_of indent width at (length word) ++ word) →
    next ≡ place_behind width at (length word) →
    new ++ filled indent width next rest ≡ old ++ filled indent width at (word ∷ rest)
unfolding filled
filled_next indent width at next word rest old new written is =
    let piece = gap_of indent width at (length word) ++ word in
    ap (λ t. t ++ filled indent width next rest) written
    ∙ (append_assoc old piece (filled indent width next rest)
    ∙ ap (λ (n : ℕ). old ++ (piece ++ filled indent width n rest)) is)

pub filled_done : (indent width at : ℕ) (word old new : List ℕ) →
    new ≡ old ++ (gap_of indent width at (length word) ++ word) →
    new ≡ old ++ filled indent width at (word ∷ [])
unfolding filled
filled_done indent width at word old new written =
    let piece = gap_of indent width at (length word) ++ word in
    written ∙ ap (λ (x : List ℕ). old ++ x) (sym (append-nil piece))

-- ---- names

pub heads_next : (width gap next i : ℕ) (cpus : List ℕ) (d c : ℕ) (old new all : List ℕ) →
    i < length cpus → c ≡ get_or cpus i d →
    old ++ heads_from width gap (drop i cpus) ≡ all →
    new ≡ old ++ (replicate gap SPACE ++ head_of c) → next ≡ width - length (head_of c) →
    new ++ heads_from width next (drop (i + 1) cpus) ≡ all
unfolding heads_from
heads_next width gap next i cpus d c old new all low is far written gives =
    let rest = drop (i + 1) cpus in
    let piece = replicate gap SPACE ++ head_of c in
    let step : drop i cpus ≡ c ∷ rest =
    drop_more cpus i d low ∙ ap (λ x. x ∷ rest) (sym is) in
    ap (λ t. t ++ heads_from width next rest) written
    ∙ (append_assoc old piece (heads_from width next rest)
    ∙ (ap (λ (n : ℕ). old ++ (piece ++ heads_from width n rest)) gives
    ∙ (ap (λ (ls : List ℕ). old ++ heads_from width gap ls) (sym step) ∙ far)))

pub heads_end : (width gap i : ℕ) (cpus text all : List ℕ) → length cpus ≤ i →
    text ++ heads_from width gap (drop i cpus) ≡ all → text ≡ all
unfolding heads_from
heads_end width gap i cpus text all high far =
    sym (append-nil text)
    ∙ (ap (λ (ls : List ℕ). text ++ heads_from width gap ls) (sym (drop_all i cpus high)) ∙ far)

-- ---- lines that are new

pub rows_done : (sheet : Sheet) (shown rest lines old new first : List ℕ) →
    lines_of rest ≡ rest ∷ [] →
    old ++ flat_map (fresh_row sheet shown) (lines_of rest)
    ≡ first ++ flat_map (fresh_row sheet shown) (lines_of lines) →
    new ≡ old ++ fresh_row sheet shown rest → new ≡ first ++ fresh_rows sheet shown lines
unfolding fresh_rows
rows_done sheet shown rest lines old new first none far written =
    written
    ∙ (ap (λ (x : List ℕ). old ++ x) (sym (append-nil (fresh_row sheet shown rest)))
    ∙ (ap (λ (ls : List (List ℕ)). old ++ flat_map (fresh_row sheet shown) ls) (sym none)
    ∙ far))
