-- jiffies within a window, and their columns
use Rattle.std.proofs.Common.{◌≡◌, ℕ, ◌-◌, ◌≤◌, ◌<◌, List, [], ◌∷◌, ◌∙◌, arith, inl, inr}
use Rattle.std.specs.Prelude.{Option, Some, None}
use Rattle.std.proofs.lemmas.Bool.{cases_lt}
use Rattle.std.proofs.lemmas.Bool.Decides.{nat_tests}
use Rattle.tm_report.specs.declared.lines.Line.{Line}
use Rattle.view_chart.specs.declared.model.Point.{Point}
use Rattle.view_chart.specs.declared.model.Window.{Window}
use Rattle.view_chart.specs.Said.{line_jiffy}
use Rattle.view_chart.specs.Model.{at_behind, point_behind, chart_first_point, later_jiffy, next_at, next_point, place, points_from, step_of}
use Rattle.view_chart.specs.Laws.{AreBehind, ColumnsRise, IsBehind, PointsRise}

-- ---- folding

pub step_some : (d : ℕ) → 0 < d → 0 < step_of d
step_some d some = grind (arith, nat_tests)

pub step_none : (d : ℕ) → d ≡ 0 → step_of d ≡ 0
step_none d none = grind (arith, nat_tests)

pub later_low : (before at : ℕ) → before ≤ later_jiffy before at
later_low before at = grind (arith, nat_tests)

pub later_is : (before at : ℕ) → before ≤ at → later_jiffy before at ≡ at
later_is before at low = grind (arith, nat_tests)

at_low : (w : Window) (before : ℕ) (at : Option ℕ) → before ≤ at_behind w before at
at_low w before None = omega arith
at_low w before (Some at) = later_low before (place w at)

pub next_low : (w : Window) (before : ℕ) (line : Line) → before ≤ next_at w before line
next_low w before line = at_low w before (line_jiffy line)

one_behind : (p : Point) (at : ℕ) → p.at ≤ at → IsBehind p (point_behind p at)
one_behind p at low = record {
  at = low;
  later = λ less.
      let some = step_some (at - p.at) (omega (arith, less)) in
      omega (arith, some);
  same = λ same.
      let none = step_none (at - p.at) (omega (arith, same)) in
      omega (arith, none);
}

then_behind : (p q r : Point) → IsBehind p q → IsBehind q r → IsBehind p r
then_behind p q r first next =
    let low = first.at in
    let high = next.at in
    record {
      at = omega (arith, low, high);
      later = λ less. elim (cases_lt p.at q.at) [
        | inl before ↦
            let one = first.later before in
            let two = column_low q r next in
            omega (arith, one, two)
        | inr not_before ↦
            let same = first.same (omega (arith, low, not_before)) in
            let two = next.later (omega (arith, less, not_before)) in
            omega (arith, same, two)
      ];
      same = λ same.
          let one = first.same (omega (arith, low, high, same)) in
          let two = next.same (omega (arith, low, high, same)) in
          one ∙ two;
    }
  where
    column_low : (q r : Point) → IsBehind q r → q.column ≤ r.column
    column_low q r b = elim (cases_lt q.at r.at) [
      | inl before ↦ let one = b.later before in omega (arith, one)
      | inr not_before ↦ let low = b.at in let one = b.same (omega (arith, low, not_before)) in omega (arith, one)
    ]

all_behind : (w : Window) (p q : Point) (ls : List Line) → IsBehind p q →
    AreBehind p (points_from w q ls)
all_behind w p q [] b = tt
all_behind w p q (line ∷ rest) b =
    let next = next_point w q line in
    let b' = then_behind p q next b (one_behind q (next_at w q.at line) (next_low w q.at line)) in
    (b', all_behind w p next rest b')

rises_from : (w : Window) (p : Point) (ls : List Line) → PointsRise (p ∷ points_from w p ls)
rises_from w p [] = (tt, tt)
rises_from w p (line ∷ rest) =
    let next = next_point w p line in
    let b = one_behind p (next_at w p.at line) (next_low w p.at line) in
    ((b, all_behind w p next rest b), rises_from w next rest)

pub columns_rise : ColumnsRise
columns_rise w ls = rises_from w (chart_first_point w) ls

-- ---- a window

module _ (w : Window) where
  pub place_first : w.from ≤ w.to → place w 0 ≡ w.from
  place_first fits = grind (arith, nat_tests)

  pub place_low : w.from ≤ w.to → (at : ℕ) → w.from ≤ place w at
  place_low fits at = grind (arith, nat_tests)

  pub place_high : w.from ≤ w.to → (at : ℕ) → place w at ≤ w.to
  place_high fits at = grind (arith, nat_tests)

  pub place_up : w.from ≤ w.to → (a b : ℕ) → a ≤ b → place w a ≤ place w b
  place_up fits a b up = grind (arith, nat_tests)

  pub place_by : (j at : ℕ) → w.from ≤ j → j < w.to → at ≤ j → place w at ≤ j
  place_by j at low high by = grind (arith, nat_tests)

  pub place_past : (j at : ℕ) → w.from ≤ j → j < w.to → j < at → j < place w at
  place_past j at low high past = grind (arith, nat_tests)

  pub place_same : (at : ℕ) → w.from ≤ at → at ≤ w.to → place w at ≡ at
  place_same at low high = grind (arith, nat_tests)
