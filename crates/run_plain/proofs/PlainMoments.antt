-- a plain moment by ascending CPU, from its parts
use Rattle.std.proofs.Common.{◌≡◌, ℕ, ◌+◌, List, [], ◌++◌, Some, None, append_assoc, arith}
use Rattle.std.proofs.Common.{sym, ap, ◌∙◌, subst}
use Rattle.std.specs.Prelude.{filter}
use Rattle.std.specs.FinSet as set
use Rattle.std.specs.Ordering.{nat_cmp}
use Rattle.tm_report.specs.declared.lines.Line.{Line}
use Rattle.tm_report.specs.Lines.{report_text}
use Rattle.tm_report.proofs.ReportText.{report_text-append}
use Rattle.tm_script.specs.declared.syntax.Moment.{Moment}
use Rattle.play_rules.specs.Interrupts.{Replies, interrupts}
use Rattle.play_rules.specs.Moments.{moment}
use Rattle.play_rules.specs.Operations.{clear_after, covers, leaver, operations}
use Rattle.play_rules.specs.Parts.{Prints, Progress, and_then, counted}
use Rattle.play_rules.specs.Rules.{Rules}
use Rattle.run_story.specs.Stories.{by_cpu, is_told_by_none}
use Rattle.run_plain.specs.Plain.{by_cpus}
use Rattle.play_driver.specs.PartLeaves.{Tells}
use Rattle.run_plain.proofs.Gathered.{sorted_both, sorted_told}
use Rattle.run_plain.proofs.Tellers.{ToldByNone, both_none, clear_after_by, covers_by}
use Rattle.run_plain.proofs.Tellers.{interrupts_none, none_both, operations_none}

counts : (new mid old work : ℕ) → mid ≡ counted (old + 1) → counted new ≡ counted (mid + (work + 0))
    → counted new ≡ counted (old + ((1 + work) + 0))
counts new mid old work first told = omega (arith, first, told)

all_counts : (t0 t1 t2 t3 old i o m c : ℕ) → t0 ≡ counted (old + 1)
    → counted t1 ≡ counted (t0 + (i + o)) → counted t2 ≡ counted (t1 + m)
    → counted t3 ≡ counted (t2 + c)
    → counted t3 ≡ counted (old + ((1 + i) + ((o + m) + c)))
all_counts t0 t1 t2 t3 old i o m c first second third fourth =
    omega (arith, first, second, third, fourth)

module _ {S : Type 0} (jobs : Replies) (r : Rules S) (n : ℕ) (due : set.FinSet nat_cmp) (s : S) where
  -- the script has nothing for the moment
  pub none_moment : (old mid new : Progress) (after : S) → mid.text ≡ old.text
      → mid.work ≡ counted (old.work + 1)
      → Tells (by_cpus n (and_then (interrupts jobs r (r.cpus s) 0 due s) (operations r [])))
      mid new after
      → Tells (by_cpus n (moment jobs r due None s)) old new after
  unfolding operations
  none_moment old mid new after text work told = record {
    text = told.text
        ∙ (λ i. text i
        ++ report_text (by_cpu n ((interrupts jobs r (r.cpus s) 0 due s).lines ++ [])));
    work = counts new.work mid.work old.work (interrupts jobs r (r.cpus s) 0 due s).work work
        told.work;
    state = told.state;
  }

  -- three parts, of which no CPU tells the last two
  sorted_parts : (i o m c : List Line) → filter is_told_by_none (i ++ o) ≡ []
      → ToldByNone m → ToldByNone c
      → by_cpu n (i ++ ((o ++ m) ++ c)) ≡ by_cpu n (i ++ o) ++ (m ++ c)
  sorted_parts i o m c none a b =
      ap (by_cpu n)
      (ap (λ xs. i ++ xs) (append_assoc o m c) ∙ sym (append_assoc i o (m ++ c)))
      ∙ sorted_both n (i ++ o) (m ++ c) none (none_both m c a b)
      ∙ ap (λ xs. xs ++ (m ++ c)) (sym (sorted_told n (i ++ o) none))

  texts : (old : List ℕ) (t1 t2 t3 : List ℕ) (p m c : List Line)
      → t1 ≡ old ++ report_text p → t2 ≡ t1 ++ report_text m → t3 ≡ t2 ++ report_text c
      → t3 ≡ old ++ report_text (p ++ (m ++ c))
  texts old t1 t2 t3 p m c first second third =
      third
      ∙ (λ i. (second ∙ (λ j. first j ++ report_text m)) i ++ report_text c)
      ∙ append_assoc (old ++ report_text p) (report_text m) (report_text c)
      ∙ append_assoc old (report_text p) (report_text m ++ report_text c)
      ∙ ap (λ xs. old ++ xs)
      ((λ i. report_text p ++ sym (report_text-append m c) i)
      ∙ sym (report_text-append p (m ++ c)))

  -- the script has operations for the moment
  pub some_moment : (m : Moment) (old t0 t1 t2 t3 : Progress) (w1 w2 : S)
      → t0.text ≡ old.text → t0.work ≡ counted (old.work + 1)
      → Tells (by_cpus n (and_then (interrupts jobs r (r.cpus s) 0 due s) (operations r m.ops)))
      t0 t1 w1
      → Prints (clear_after r (leaver m.ops) w1) t1 t2 w2 → Prints (covers r w2) t2 t3 w2
      → Tells (by_cpus n (moment jobs r due (Some m) s)) old t3 w2
  some_moment m old t0 t1 t2 t3 w1 w2 text work told cleared covered =
      let i = interrupts jobs r (r.cpus s) 0 due s in
      let o = operations r m.ops i.state in
      let is1 : w1 ≡ o.state = told.state in
      let moved = clear_after r (leaver m.ops) o.state in
      let cleared' = subst (λ w. Prints (clear_after r (leaver m.ops) w) t1 t2 w2) is1 cleared in
      let is2 : w2 ≡ moved.state = cleared'.state in
      let shown = covers r moved.state in
      let covered' = subst (λ w. Prints (covers r w) t2 t3 w2) is2 covered in
      let none = both_none i.lines o.lines (interrupts_none jobs r (r.cpus s) 0 due s)
      (operations_none r m.ops i.state) in
      record {
        text =
            texts old.text t1.text t2.text t3.text (by_cpu n (i.lines ++ o.lines)) moved.lines
            shown.lines
            (told.text ∙ (λ k. text k ++ report_text (by_cpu n (i.lines ++ o.lines))))
            cleared'.text covered'.text
            ∙ ap (λ xs. old.text ++ report_text xs)
            (sym (sorted_parts i.lines o.lines moved.lines shown.lines none
            (clear_after_by r (leaver m.ops) o.state) (covers_by r (r.cpus moved.state) 0 moved.state)));
        work = all_counts t0.work t1.work t2.work t3.work old.work i.work o.work moved.work shown.work
            work told.work cleared'.work covered'.work;
        state = covered'.state;
      }
