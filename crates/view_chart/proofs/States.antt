-- what spans and arrows say of a report
use Rattle.std.proofs.Common.{◌≡◌, ℕ, ◌≤◌, ◌<◌, List, [], ◌∷◌, ◌++◌, refl, sym, ap, ◌∙◌, subst, arith, inl, inr}
use Rattle.std.specs.Prelude.{◌&&◌, Bool, map, nat_le, nat_lt, true, false, Option, Some, None, if◌then◌else◌}
use Rattle.std.proofs.lemmas.Bool.{and_parts, cases_lt}
use Rattle.std.proofs.lemmas.Bool.Decides.{nat_tests}
use Rattle.std.proofs.lemmas.List.{map-append}
use Rattle.std.proofs.lemmas.Option.{none-some, same_Some}
use Rattle.tm_report.specs.declared.lines.Line.{Line}
use Rattle.tm_report.specs.declared.lines.Line.TheVariants as lines
use Rattle.view_chart.specs.declared.model.Course.{Course}
use Rattle.view_chart.specs.declared.model.Point.{Point}
use Rattle.view_chart.specs.declared.model.Span.{Span}
use Rattle.view_chart.specs.declared.model.Window.{Window}
use Rattle.view_chart.specs.declared.said.Change.{Change}
use Rattle.view_chart.specs.declared.said.Run.{Run}
use Rattle.view_chart.specs.declared.said.State.{State}
use Rattle.view_chart.specs.Said.{change_in, run_in, line_jiffy}
use Rattle.view_chart.specs.Model.{arrow_by, arrow_for, arrows_from, at_behind, course_begun, point_behind, course_where, ended_where, chart_first_point, has_cpu, has_jiffy, has_run, last_point, new_state, next_at, next_point, place, spans_from, spans_of_cpu, state_for}
use Rattle.view_chart.specs.Laws.{ArrowsRight, Ascends, HasJiffy, IsCpuDrawn, IsSpanAmong, StatesRight, lines_go_on, is_line_by, state_left_by, left_where, run_for, runs_in, shown_by}
use Rattle.view_chart.proofs.Places.{later_is, next_low, place_by, place_first, place_high, place_past, place_same, place_up}

-- a line that says what a CPU becomes has a jiffy
change_at : (line : Line) (change : Change) → change_in line ≡ Some change →
    (t : ℕ) × (line_jiffy line ≡ Some t)
unfolding change_in line_jiffy
change_at (lines.Arm now cpu timer class wheel) change e = (now, refl)
change_at (lines.Run now runner timer home wheel reply) change e = (now, refl)
change_at (lines.Cancel now cpu timer home) change e = (now, refl)
change_at (lines.NotQueued now cpu timer) change e = (now, refl)
change_at (lines.Idle now cpu until) change e = (now, refl)
change_at (lines.Stay now cpu first) change e = (now, refl)
change_at (lines.Wake now cpu) change e = (now, refl)
change_at (lines.Offline now cpu) change e = (now, refl)
change_at (lines.Handed now cpu to) change e = (now, refl)
change_at (lines.Online now cpu) change e = (now, refl)
change_at (lines.Control now cpu) change e = (now, refl)
change_at (lines.Moved now timer from to wheel) change e = (now, refl)
change_at (lines.Cover now cpu wheel cover) change e = (now, refl)
change_at (lines.Refused now cpu line number) change e = (now, refl)
change_at (lines.RefusedQueued now cpu line number holder) change e = (now, refl)
change_at (lines.Left timer cpu class wheel) change e = absurd (none-some change e)
change_at (lines.End now) change e = (now, refl)
change_at (lines.Why steps cpu timer shown) change e = absurd (none-some change e)
change_at (lines.Yes steps) change e = absurd (none-some change e)
change_at (lines.No index) change e = absurd (none-some change e)
change_at (lines.Device now until) change e = (now, refl)

-- a line that says that a timer was run is of that jiffy
run_at : (line : Line) (r : Run) → run_in line ≡ Some r → line_jiffy line ≡ Some r.at
unfolding run_in line_jiffy
run_at (lines.Arm now cpu timer class wheel) r e = absurd (none-some r e)
run_at (lines.Run now runner timer home wheel reply) r e = ap (λ (x : Run). Some x.at) (same_Some (record { at = now; home = home; runner = runner; timer = timer }) r e)
run_at (lines.Cancel now cpu timer home) r e = absurd (none-some r e)
run_at (lines.NotQueued now cpu timer) r e = absurd (none-some r e)
run_at (lines.Idle now cpu until) r e = absurd (none-some r e)
run_at (lines.Stay now cpu first) r e = absurd (none-some r e)
run_at (lines.Wake now cpu) r e = absurd (none-some r e)
run_at (lines.Offline now cpu) r e = absurd (none-some r e)
run_at (lines.Handed now cpu to) r e = absurd (none-some r e)
run_at (lines.Online now cpu) r e = absurd (none-some r e)
run_at (lines.Control now cpu) r e = absurd (none-some r e)
run_at (lines.Moved now timer from to wheel) r e = absurd (none-some r e)
run_at (lines.Cover now cpu wheel cover) r e = absurd (none-some r e)
run_at (lines.Refused now cpu line number) r e = absurd (none-some r e)
run_at (lines.RefusedQueued now cpu line number holder) r e = absurd (none-some r e)
run_at (lines.Left timer cpu class wheel) r e = absurd (none-some r e)
run_at (lines.End now) r e = absurd (none-some r e)
run_at (lines.Why steps cpu timer shown) r e = absurd (none-some r e)
run_at (lines.Yes steps) r e = absurd (none-some r e)
run_at (lines.No index) r e = absurd (none-some r e)
run_at (lines.Device now until) r e = absurd (none-some r e)

-- a CPU becomes something only by a line that has a jiffy
state_at : (c : ℕ) (line : Line) (s : State) → new_state c line ≡ Some s →
    (t : ℕ) × (line_jiffy line ≡ Some t)
state_at c line s e = by_change (change_in line) refl e
  where
    by_change : (change : Option Change) → change_in line ≡ change → state_for c change ≡ Some s →
        (t : ℕ) × (line_jiffy line ≡ Some t)
    by_change None is e = absurd (none-some s e)
    by_change (Some change) is e = change_at line change is

-- where a line stands behind the one before it
pub point_at : (w : Window) (before : ℕ) (p : Point) (at : Option ℕ) (t : ℕ) → w.from ≤ w.to →
    p.at ≡ place w before → before ≤ t → at ≡ Some t → at_behind w p.at at ≡ place w t
point_at w before p at t fits here up is =
    ap (at_behind w p.at) is
    ∙ later_is p.at (place w t) (let grows = place_up w fits before t up in omega (arith, here, grows))

-- a line's point, and the lines behind it
pub next_place : (w : Window) (before : ℕ) (p : Point) (line : Line) (rest : List Line) →
    w.from ≤ w.to → p.at ≡ place w before → Ascends before (line ∷ rest) →
    (b : ℕ) × (next_at w p.at line ≡ place w b) × Ascends b rest
next_place w before p line rest fits here ascends = by_time (line_jiffy line) refl ascends
  where
    by_time : (at : Option ℕ) → line_jiffy line ≡ at → lines_go_on before at (λ t. Ascends t rest) →
        (b : ℕ) × (at_behind w p.at at ≡ place w b) × Ascends b rest
    by_time None is up = (before, here, up)
    by_time (Some t) is up = (t, point_at w before p (Some t) t fits here up.0 refl, up.1)

-- ---- after its jiffy a line changes nothing

not_by : (j t : ℕ) → j < t → nat_le t j ≡ false
not_by j t late = grind (arith, nat_tests)

is_in_time : (j t : ℕ) → t ≤ j → nat_le t j ≡ true
is_in_time j t by = grind (arith, nat_tests)

none_by : (c j : ℕ) (state : State) (ls : List Line) (before : ℕ) → Ascends before ls → j < before →
    state_left_by c j state ls ≡ state
none_by c j state [] before ascends late = refl
none_by c j state (line ∷ rest) before ascends late =
    by_time (line_jiffy line) ascends (none_by c j state rest)
  where
    by_time : (at : Option ℕ) → lines_go_on before at (λ t. Ascends t rest) →
        ((b : ℕ) → Ascends b rest → j < b → state_left_by c j state rest ≡ state) →
        state_left_by c j (left_where state (is_line_by j at) (new_state c line)) rest ≡ state
    by_time None up rec = rec before up late
    by_time (Some t) up rec =
        let low = up.0 in
        let past : j < t = omega (arith, late, low) in
        ap (λ b. state_left_by c j (left_where state b (new_state c line)) rest) (not_by j t past)
        ∙ rec t up.1 past

-- ---- spans begin in order

later_spans : (w : Window) (c : ℕ) (s : Span) (ls : List Line) (course : Course) →
    course.since.at ≤ course.point.at → IsSpanAmong s (spans_from w c course ls) →
    course.since.at ≤ s.from.at
later_spans w c s [] course low (inl e) = let same = ap (λ (x : Span). x.from.at) e in omega (arith, same)
later_spans w c s [] course low (inr none) = absurd none
later_spans w c s (line ∷ rest) course low there =
    by_state (new_state c line) there (later_spans w c s rest)
  where
    q : Point
    q = next_point w course.point line

    by_state : (ns : Option State) →
        IsSpanAmong s (ended_where c course q ns ++ spans_from w c (course_where course q ns) rest) →
        ((k : Course) → k.since.at ≤ k.point.at → IsSpanAmong s (spans_from w c k rest) →
        k.since.at ≤ s.from.at) → course.since.at ≤ s.from.at
    by_state None there rec =
        let up = next_low w course.point.at line in
        rec (course_where course q None) (omega (arith, low, up)) there
    by_state (Some state) (inl e) rec =
        let same = ap (λ (x : Span). x.from.at) e in omega (arith, same)
    by_state (Some state) (inr there) rec =
        let up = next_low w course.point.at line in
        let more = rec (course_where course q (Some state)) (omega arith) there in
        omega (arith, low, up, more)

-- ---- what is drawn

end_at : (w : Window) (p : Point) → p.at ≤ w.to → (last_point w p).at ≡ w.to
end_at w p low = by_case (nat_lt w.to p.at) refl
  where
    by_case : (b : Bool) → nat_lt w.to p.at ≡ b → (if b then p else point_behind p w.to).at ≡ w.to
    by_case true is = let less : w.to < p.at = grind (arith, nat_tests) in absurd (omega (arith, low, less))
    by_case false is = refl

left_none : (state : State) (b : Bool) → left_where state b None ≡ state
left_none state true = refl
left_none state false = refl

module _ (w : Window) (c j : ℕ) (low : w.from ≤ j) (high : j < w.to) where
  fits : w.from ≤ w.to
  fits = omega (arith, low, high)

  -- a span in front that has not this jiffy
  in_front : (s : Span) (spans : List Span) (state : State) → s.to.at ≤ j → IsCpuDrawn spans j state →
      IsCpuDrawn (s ∷ spans) j state
  in_front s spans state over d = record {
    covered = record { span = d.covered.span; there = inr d.covered.there; has = d.covered.has };
    each = λ x there has. by_place x there has;
  }
    where
      by_place : (x : Span) → IsSpanAmong x (s ∷ spans) → HasJiffy x j → x.state ≡ state
      by_place x (inl e) has =
          let same = ap (λ (y : Span). y.to.at) e in
          let before = has.not_ended in
          absurd (omega (arith, same, before, over))
      by_place x (inr there) has = d.each x there has

  -- a span in front that has it, where those behind begin later
  is_first : (s : Span) (spans : List Span) → HasJiffy s j →
      ((x : Span) → IsSpanAmong x spans → s.to.at ≤ x.from.at) → IsCpuDrawn (s ∷ spans) j s.state
  is_first s spans has behind_it = record {
    covered = record { span = s; there = inl refl; has = has };
    each = λ x there is. by_place x there is;
  }
    where
      by_place : (x : Span) → IsSpanAmong x (s ∷ spans) → HasJiffy x j → x.state ≡ s.state
      by_place x (inl e) is = ap (λ (y : Span). y.state) e
      by_place x (inr there) is =
          let later = behind_it x there in
          let begun_by = is.begun in
          let before = has.not_ended in
          absurd (omega (arith, later, begun_by, before))

  drawn : (ls : List Line) (course : Course) (before : ℕ) → Ascends before ls →
      course.point.at ≡ place w before → course.since.at ≤ course.point.at → course.since.at ≤ j →
      IsCpuDrawn (spans_from w c course ls) j (state_left_by c j course.state ls)
  drawn [] course before ascends here since by =
      let top = place_high w fits before in
      let end = end_at w course.point (omega (arith, here, top)) in
      is_first
      (record {
        cpu = record { 0 = c };
        state = course.state;
        from = course.since;
        to = last_point w course.point;
      })
      [] (record { begun = by; not_ended = omega (arith, end, high) }) (λ x none. absurd none)
  drawn (line ∷ rest) course before ascends here since by =
      by_state (new_state c line) refl (drawn rest)
    where
      q : Point
      q = next_point w course.point line

      up : course.point.at ≤ next_at w course.point.at line
      up = next_low w course.point.at line

      next : (b : ℕ) × (next_at w course.point.at line ≡ place w b) × Ascends b rest
      next = next_place w before course.point line rest fits here ascends

      by_state : (ns : Option State) → new_state c line ≡ ns →
          ((k : Course) (b : ℕ) → Ascends b rest → k.point.at ≡ place w b →
          k.since.at ≤ k.point.at → k.since.at ≤ j →
          IsCpuDrawn (spans_from w c k rest) j (state_left_by c j k.state rest)) →
          IsCpuDrawn (ended_where c course q ns ++ spans_from w c (course_where course q ns) rest) j
          (state_left_by c j (left_where course.state (is_line_by j (line_jiffy line)) ns) rest)
      by_state None is rec =
          subst (λ s. IsCpuDrawn (spans_from w c (course_where course q None) rest) j (state_left_by c j s rest))
          (sym (left_none course.state (is_line_by j (line_jiffy line))))
          (rec (course_where course q None) next.0 next.2 next.1 (omega (arith, since, up)) by)
      by_state (Some state) is rec =
          let at = state_at c line state is in
          by_time at.0 at.1
        where
          head : Span
          head = record {
            cpu = record { 0 = c };
            state = course.state;
            from = course.since;
            to = q;
          }

          behind_it : List Span
          behind_it = spans_from w c (course_where course q (Some state)) rest

          by_time : (t : ℕ) → line_jiffy line ≡ Some t →
              IsCpuDrawn (head ∷ behind_it) j
              (state_left_by c j (left_where course.state (is_line_by j (line_jiffy line)) (Some state)) rest)
          by_time t time =
              let parts : (before ≤ t) × Ascends t rest =
              subst (λ a. lines_go_on before a (λ b. Ascends b rest)) time ascends in
              let here_too : next_at w course.point.at line ≡ place w t =
              point_at w before course.point (line_jiffy line) t fits here parts.0 time in
              elim (cases_lt j t) [
                | inl past ↦
                    let drop_it = place_past w j t low high past in
                    let one = is_first head behind_it
                    (record { begun = by; not_ended = omega (arith, here_too, drop_it) })
                    (λ x there. later_spans w c x rest (course_where course q (Some state)) (omega arith) there) in
                    subst (IsCpuDrawn (head ∷ behind_it) j)
                    (sym (ap (λ a. state_left_by c j (left_where course.state (is_line_by j a) (Some state)) rest) time
                    ∙ (ap (λ b. state_left_by c j (left_where course.state b (Some state)) rest) (not_by j t past)
                    ∙ none_by c j course.state rest t parts.1 past)))
                    one
                | inr in_time ↦
                    let over = place_by w j t low high in_time in
                    let ended : next_at w course.point.at line ≤ j = omega (arith, here_too, over) in
                    subst (IsCpuDrawn (head ∷ behind_it) j)
                    (sym (ap (λ a. state_left_by c j (left_where course.state (is_line_by j a) (Some state)) rest) time
                    ∙ ap (λ b. state_left_by c j (left_where course.state b (Some state)) rest) (is_in_time j t in_time)))
                    (in_front head behind_it (state_left_by c j state rest) ended
                    (rec (course_where course q (Some state)) t parts.1 here_too (omega arith) ended))
              ]

pub states_right : StatesRight
unfolding spans_of_cpu
states_right w c ls j ascends low high =
    drawn w c j low high ls (course_begun w) 0 ascends (sym (place_first w (omega (arith, low, high))))
    (omega arith) low

-- ---- arrows

pub le_of : (m n : ℕ) → nat_le m n ≡ true → m ≤ n
le_of m n e = grind (arith, nat_tests)

module _ (w : Window) (fits : w.from ≤ w.to) where
  one_arrow : (q : Point) (run : Option Run) → ((r : Run) → run ≡ Some r → q.at ≡ place w r.at) →
      map shown_by (arrow_for w q run) ≡ run_for w run
  one_arrow q None at = refl
  one_arrow q (Some r) at = by_case (has_run w r) refl
    where
      by_case : (b : Bool) → has_run w r ≡ b →
          map shown_by (if b then (record { point = q; home = r.home; runner = r.runner; timer = r.timer } ∷ []) else [])
          ≡ (if b then (r ∷ []) else [])
      by_case false is = refl
      by_case true is =
          let in_it = and_parts (has_jiffy w r.at) (has_cpu w r.home.0 && has_cpu w r.runner.0) is in
          let both = and_parts (nat_le w.from r.at) (nat_le r.at w.to) in_it.0 in
          let first : w.from ≤ r.at = le_of w.from r.at both.0 in
          let last : r.at ≤ w.to = le_of r.at w.to both.1 in
          ap (λ (t : ℕ). record { at = t; home = r.home; runner = r.runner; timer = r.timer } ∷ [])
          (at r refl ∙ place_same w r.at first last)

  all_arrows : (ls : List Line) (p : Point) (before : ℕ) → Ascends before ls →
      p.at ≡ place w before → map shown_by (arrows_from w p ls) ≡ runs_in w ls
  all_arrows [] p before ascends here = refl
  all_arrows (line ∷ rest) p before ascends here =
      let q = next_point w p line in
      let next = next_place w before p line rest fits here ascends in
      map-append shown_by (arrow_by w q line) (arrows_from w q rest)
      ∙ (λ i. one_arrow q (run_in line) (at_run q) i ++ all_arrows rest q next.0 next.2 next.1 i)
    where
      at_run : (q : Point) → (r : Run) → run_in line ≡ Some r → next_at w p.at line ≡ place w r.at
      at_run q r is =
          let time = run_at line r is in
          let parts : (before ≤ r.at) × Ascends r.at rest =
          subst (λ a. lines_go_on before a (λ b. Ascends b rest)) time ascends in
          point_at w before p (line_jiffy line) r.at fits here parts.0 time

pub arrows_right : ArrowsRight
arrows_right w ls ascends fits =
    all_arrows w fits ls (chart_first_point w) 0 ascends (sym (place_first w fits))
