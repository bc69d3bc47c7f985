-- what the news of a CPU say of a report
use Rattle.std.proofs.Common.{◌≡◌, ℕ, ◌≤◌, List, [], ◌∷◌, ◌++◌, refl, sym, ap, ◌∙◌, subst}
use Rattle.std.specs.Prelude.{◌&&◌, ◌==◌, Bool, map, nat_le, true, false, Option, Some, None}
use Rattle.std.specs.Prelude.{if◌then◌else◌}
use Rattle.std.proofs.lemmas.Bool.{and_parts}
use Rattle.std.proofs.lemmas.List.{map-append}
use Rattle.std.proofs.lemmas.Option.{none-some, same_Some}
use Rattle.tm_report.specs.declared.lines.Line.{Line}
use Rattle.view_chart.specs.declared.model.Point.{Point}
use Rattle.view_chart.specs.declared.model.Window.{Window}
use Rattle.view_chart.specs.declared.said.Answer.{Answer}
use Rattle.view_chart.specs.Said.{answer_in, line_jiffy}
use Rattle.view_chart.specs.Model.{chart_first_point, has_jiffy, next_at, next_point, place}
use Rattle.view_chart.specs.News.{is_known, known_by, new_of, news_from, news_of_cpu, note_at}
use Rattle.view_chart.specs.News.{told_of, told_where}
use Rattle.view_chart.specs.Laws.{Ascends, NewsRight, lines_go_on, answer_listed, news_in, noted_by}
use Rattle.view_chart.proofs.Places.{place_first, place_same}
use Rattle.view_chart.proofs.NoteLaws.{answer_at}
use Rattle.view_chart.proofs.States.{le_of, next_place, point_at}

-- an answer that is told is of the point's jiffy
one_new : (q : Point) (known told : Option Answer) →
    ((a : Answer) → told ≡ Some a → q.at ≡ a.at) →
    map noted_by (note_at q (new_of known told)) ≡ answer_listed (new_of known told)
one_new q known None at = refl
one_new q known (Some a) at = by_case (is_known known a)
  where
    by_case : (b : Bool) →
        map noted_by (note_at q (if b then None else Some a))
        ≡ answer_listed (if b then None else Some a)
    by_case true = refl
    by_case false =
        ap (λ (t : ℕ). record { at = t; cpu = a.cpu; wheel = a.wheel; cover = a.cover } ∷ [])
        (at a refl)

module _ (w : Window) (c : ℕ) (fits : w.from ≤ w.to) where
  -- what is told is what the line answers, at a jiffy of the window
  told_is : (answer : Option Answer) (a : Answer) → told_where w c answer ≡ Some a →
      (answer ≡ Some a) × (has_jiffy w a.at ≡ true)
  told_is None a e = absurd (none-some a e)
  told_is (Some b) a e = by_case (has_jiffy w b.at && (b.cpu.0 == c)) refl e
    where
      by_case : (t : Bool) → (has_jiffy w b.at && (b.cpu.0 == c)) ≡ t →
          (if t then Some b else None) ≡ Some a →
          (Some b ≡ Some a) × (has_jiffy w a.at ≡ true)
      by_case false is e = absurd (none-some a e)
      by_case true is e =
          let same = same_Some b a e in (
            e,
            subst (λ (x : Answer). has_jiffy w x.at ≡ true) same
                (and_parts (has_jiffy w b.at) (b.cpu.0 == c) is).0,
          )

  all_news : (ls : List Line) (p : Point) (before : ℕ) (known : Option Answer) →
      Ascends before ls → p.at ≡ place w before →
      map noted_by (news_from w c p known ls) ≡ news_in w c known ls
  all_news [] p before known ascends here = refl
  all_news (line ∷ rest) p before known ascends here =
      let q = next_point w p line in
      let next = next_place w before p line rest fits here ascends in
      map-append noted_by (note_at q (new_of known (told_of w c line)))
      (news_from w c q (known_by w c known line) rest)
      ∙ (λ i. one_new q known (told_of w c line) at_told i
      ++ all_news rest q next.0 (known_by w c known line) next.2 next.1 i)
    where
      at_told : (a : Answer) → told_of w c line ≡ Some a → next_at w p.at line ≡ a.at
      at_told a is =
          let told = told_is (answer_in line) a is in
          let time = answer_at line a told.0 in
          let parts : (before ≤ a.at) × Ascends a.at rest =
          subst (λ t. lines_go_on before t (λ b. Ascends b rest)) time ascends in
          let both = and_parts (nat_le w.from a.at) (nat_le a.at w.to) told.1 in
          let first : w.from ≤ a.at = le_of w.from a.at both.0 in
          let last : a.at ≤ w.to = le_of a.at w.to both.1 in
          point_at w before p (line_jiffy line) a.at fits here parts.0 time
          ∙ place_same w a.at first last

pub news_right : NewsRight
unfolding news_of_cpu
news_right w c ls ascends fits =
    all_news w c fits ls (chart_first_point w) 0 None ascends (sym (place_first w fits))
