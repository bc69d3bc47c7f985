-- for crates above: parts of a play, one after the other, and a report that only gains text
use Rattle.std.proofs.Common.{◌≡◌, ℕ, ◌+◌, List, [], ◌++◌, refl, sym, ap, ◌∙◌, append_assoc, append-nil, arith}
use Rattle.std.proofs.lemmas.List.Concat.{flat_map-append}
use Rattle.std.proofs.lemmas.List.Sums.{fold-append}
use Rattle.tm_report.specs.declared.lines.Line.{Line}
use Rattle.tm_report.specs.Lines.{line_text, report_text}
use Rattle.play_rules.specs.Tallies.{tallied, tallied_all}
use Rattle.play_rules.specs.Parts.{Gains, Played, Prints, Progress, and_then, counted, counting, printing, silent}

-- one more piece of work on the same count
counted_more : (a b c : ℕ) → counted a ≡ counted b → counted (a + c) ≡ counted (b + c)
counted_more a b c same = omega (arith, same)

-- what is told, with what is still to be told, is the whole; and so are the states
pub record Continues {S : Type 0} (rest : Played S) (now : Progress) (whole : Played S) (old : Progress) : Type 0 where
  pub text : now.text ++ report_text rest.lines ≡ old.text ++ report_text whole.lines
  pub tally : tallied_all now.tally rest.lines ≡ tallied_all old.tally whole.lines
  pub work : counted (now.work + rest.work) ≡ counted (old.work + whole.work)
  pub state : rest.state ≡ whole.state

module _ {S : Type 0} where
  pub continues_first : (p : Played S) (old : Progress) → Continues p old p old
  continues_first p old = record { text = refl; tally = refl; work = refl; state = refl }

  pub continues_then : (p : Played S) (f : S → Played S) (whole : Played S) (old mid new : Progress) (s : S)
      → Continues (and_then p f) mid whole old → Prints p mid new s → Continues (f s) new whole old
  continues_then p f whole old mid new s c done =
      let same : f s ≡ f p.state = ap f done.state in
      let lines : report_text (f s).lines ≡ report_text (f p.state).lines = ap (λ (q : Played S). report_text q.lines) same in
      let works : (f s).work ≡ (f p.state).work = ap (λ (q : Played S). q.work) same in
      record {
        text =
            (λ i. done.text i ++ lines i)
            ∙ append_assoc mid.text (report_text p.lines) (report_text (f p.state).lines)
            ∙ ap (λ t. mid.text ++ t) (sym (flat_map-append line_text p.lines (f p.state).lines))
            ∙ c.text;
        tally =
            (λ i. tallied_all (done.tally i) (same i).lines)
            ∙ sym (fold-append tallied mid.tally p.lines (f p.state).lines)
            ∙ c.tally;
        work =
            ap (λ n. counted (new.work + n)) works
            ∙ counted_more new.work (mid.work + p.work) (f p.state).work done.work
            ∙ (let assoc : (mid.work + p.work) + (f p.state).work ≡ mid.work + (p.work + (f p.state).work) = omega arith in ap counted assoc)
            ∙ c.work;
        state = ap (λ (q : Played S). q.state) same ∙ c.state;
      }

  pub continues_end : (s : S) (whole : Played S) (old new : Progress) → Continues (silent s) new whole old → Prints whole old new s
  continues_end s whole old new c = record {
    text = sym (append-nil new.text) ∙ c.text;
    tally = c.tally;
    work = (let none : new.work ≡ new.work + 0 = omega arith in ap counted none) ∙ c.work;
    state = c.state;
  }

  -- nothing was told
  pub prints_silent : (s : S) (old : Progress) → Prints (silent s) old old s
  prints_silent s old = continues_end s (silent s) old old (continues_first (silent s) old)

  pub prints_counting : (s : S) (old new : Progress) → new.text ≡ old.text → new.tally ≡ old.tally → new.work ≡ counted (old.work + 1)
      → Prints (counting s) old new s
  prints_counting s old new text tally work = record {
    text = text ∙ sym (append-nil old.text);
    tally = tally;
    work = omega (arith, work);
    state = refl;
  }

  -- a line was told
  pub prints_line : (line : Line) (s : S) (old new : Progress) → new.text ≡ old.text ++ line_text line
      → new.tally ≡ tallied old.tally line → new.work ≡ old.work → Prints (printing line s) old new s
  prints_line line s old new text tally work = record {
    text = text ∙ ap (λ t. old.text ++ t) (sym (append-nil (line_text line)));
    tally = tally;
    work = omega (arith, work);
    state = refl;
  }

  -- two parts, one after the other
  pub prints_then : (p : Played S) (f : S → Played S) (old mid new : Progress) (s t : S)
      → Prints p old mid s → Prints (f s) mid new t → Prints (and_then p f) old new t
  prints_then p f old mid new s t first second =
      let whole = and_then p f in
      let rest = continues_then p f whole old old mid s (continues_first whole old) first in
      record {
        text = second.text ∙ rest.text;
        tally = second.tally ∙ rest.tally;
        work = second.work ∙ rest.work;
        state = second.state ∙ rest.state;
      }

  -- the state is known by another name
  pub prints_at : (p : Played S) (old new : Progress) (s t : S) → t ≡ s → Prints p old new s → Prints p old new t
  prints_at p old new s t same done =
      record { text = done.text; tally = done.tally; work = done.work; state = same ∙ done.state }

-- GAINS
pub gains_none : (old : List ℕ) → Gains old old
gains_none old = ([], sym (append-nil old))

pub gains_then : (old mid new : List ℕ) → Gains old mid → Gains mid new → Gains old new
gains_then old mid new (xs, first) (ys, second) =
    (xs ++ ys, second ∙ ap (λ t. t ++ ys) first ∙ append_assoc old xs ys)
