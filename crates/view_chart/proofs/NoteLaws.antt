-- what notes say of a report
use Rattle.std.proofs.Common.{◌≡◌, ℕ, ◌≤◌, List, [], ◌∷◌, ◌++◌, refl, sym, ap, ◌∙◌, subst}
use Rattle.std.specs.Prelude.{Bool, map, nat_le, true, false, Option, Some, None, if◌then◌else◌}
use Rattle.std.proofs.lemmas.Bool.{and_parts}
use Rattle.std.proofs.lemmas.List.{map-append}
use Rattle.std.proofs.lemmas.Option.{none-some, same_Some}
use Rattle.tm_report.specs.declared.lines.Line.{Line}
use Rattle.tm_report.specs.declared.lines.Line.TheVariants as lines
use Rattle.view_chart.specs.declared.model.Point.{Point}
use Rattle.view_chart.specs.declared.model.Window.{Window}
use Rattle.view_chart.specs.declared.said.Answer.{Answer}
use Rattle.view_chart.specs.Said.{answer_in, line_jiffy}
use Rattle.view_chart.specs.Model.{chart_first_point, has_answer, has_cpu, has_jiffy, next_at}
use Rattle.view_chart.specs.Model.{next_point, note_by, note_for, notes_from, place}
use Rattle.view_chart.specs.Laws.{Ascends, NotesRight, answer_for, answers_in, lines_go_on, noted_by}
use Rattle.view_chart.proofs.Places.{place_first, place_same}
use Rattle.view_chart.proofs.States.{le_of, next_place, point_at}

-- a line that tells who answers is of that jiffy
pub answer_at : (line : Line) (a : Answer) → answer_in line ≡ Some a → line_jiffy line ≡ Some a.at
unfolding answer_in line_jiffy
answer_at (lines.Arm now cpu timer class wheel) a e = absurd (none-some a e)
answer_at (lines.Run now runner timer home wheel reply) a e = absurd (none-some a e)
answer_at (lines.Cancel now cpu timer home) a e = absurd (none-some a e)
answer_at (lines.NotQueued now cpu timer) a e = absurd (none-some a e)
answer_at (lines.Idle now cpu until) a e = absurd (none-some a e)
answer_at (lines.Stay now cpu first) a e = absurd (none-some a e)
answer_at (lines.Wake now cpu) a e = absurd (none-some a e)
answer_at (lines.Offline now cpu) a e = absurd (none-some a e)
answer_at (lines.Handed now cpu to) a e = absurd (none-some a e)
answer_at (lines.Online now cpu) a e = absurd (none-some a e)
answer_at (lines.Control now cpu) a e = absurd (none-some a e)
answer_at (lines.Moved now timer from to wheel) a e = absurd (none-some a e)
answer_at (lines.Cover now cpu wheel cover) a e =
    ap (λ (x : Answer). Some x.at)
    (same_Some (record { at = now; cpu = cpu; wheel = wheel; cover = cover }) a e)
answer_at (lines.Refused now cpu line number) a e = absurd (none-some a e)
answer_at (lines.RefusedQueued now cpu line number holder) a e = absurd (none-some a e)
answer_at (lines.Left timer cpu class wheel) a e = absurd (none-some a e)
answer_at (lines.End now) a e = absurd (none-some a e)
answer_at (lines.Why steps cpu timer shown) a e = absurd (none-some a e)
answer_at (lines.Yes steps) a e = absurd (none-some a e)
answer_at (lines.No index) a e = absurd (none-some a e)
answer_at (lines.Device now until) a e = absurd (none-some a e)

module _ (w : Window) (fits : w.from ≤ w.to) where
  one_note : (q : Point) (answer : Option Answer) →
      ((a : Answer) → answer ≡ Some a → q.at ≡ place w a.at) →
      map noted_by (note_for w q answer) ≡ answer_for w answer
  one_note q None at = refl
  one_note q (Some a) at = by_case (has_answer w a) refl
    where
      by_case : (b : Bool) → has_answer w a ≡ b →
          map noted_by
          (if b then (record { point = q; cpu = a.cpu; wheel = a.wheel; cover = a.cover } ∷ [])
          else [])
          ≡ (if b then (a ∷ []) else [])
      by_case false is = refl
      by_case true is =
          let in_it = and_parts (has_jiffy w a.at) (has_cpu w a.cpu.0) is in
          let both = and_parts (nat_le w.from a.at) (nat_le a.at w.to) in_it.0 in
          let first : w.from ≤ a.at = le_of w.from a.at both.0 in
          let last : a.at ≤ w.to = le_of a.at w.to both.1 in
          ap (λ (t : ℕ). record { at = t; cpu = a.cpu; wheel = a.wheel; cover = a.cover } ∷ [])
          (at a refl ∙ place_same w a.at first last)

  all_notes : (ls : List Line) (p : Point) (before : ℕ) → Ascends before ls →
      p.at ≡ place w before → map noted_by (notes_from w p ls) ≡ answers_in w ls
  all_notes [] p before ascends here = refl
  all_notes (line ∷ rest) p before ascends here =
      let q = next_point w p line in
      let next = next_place w before p line rest fits here ascends in
      map-append noted_by (note_by w q line) (notes_from w q rest)
      ∙ (λ i. one_note q (answer_in line) at_answer i
      ++ all_notes rest q next.0 next.2 next.1 i)
    where
      at_answer : (a : Answer) → answer_in line ≡ Some a → next_at w p.at line ≡ place w a.at
      at_answer a is =
          let time = answer_at line a is in
          let parts : (before ≤ a.at) × Ascends a.at rest =
          subst (λ t. lines_go_on before t (λ b. Ascends b rest)) time ascends in
          point_at w before p (line_jiffy line) a.at fits here parts.0 time

pub notes_right : NotesRight
notes_right w ls ascends fits =
    all_notes w fits ls (chart_first_point w) 0 ascends (sym (place_first w fits))
