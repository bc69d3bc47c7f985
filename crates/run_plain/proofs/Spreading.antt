-- a part of a plain moment is told by one CPU, in its own report
use Rattle.std.proofs.Common.{◌≡◌, ◌≢◌, inl, inr, ℕ, zero, suc, ◌+◌, ◌-◌, ◌<◌, ◌≤◌, List, [], ◌∷◌, ◌++◌}
use Rattle.std.proofs.Common.{append-nil, arith, append_assoc, get_or, length, refl, set, sym, ap, ◌∙◌}
use Rattle.std.proofs.Common.{subst}
use Rattle.std.specs.Prelude.{drop, filter, OnOk, Result, Ok, Err}
use Rattle.std.specs.List.{sum_by}
use Rattle.std.specs.FinSet as fins
use Rattle.std.specs.Ordering.{nat_cmp}
use Rattle.std.proofs.lemmas.Bool.{cases_eq}
use Rattle.std.proofs.lemmas.List.{drop_all, drop_more, get_or-set_other, get_or-set_same}
use Rattle.std.proofs.Math.ListN.{length-set}
use Rattle.std.proofs.Math.Seq.{get_or-append_seam}
use Rattle.std.proofs.lemmas.List.{get_or_append_left, length-append}
use Rattle.std.proofs.lemmas.List.Elements.{filter-append}
use Rattle.std.proofs.lemmas.List.Sums.{sum_by-append, sum_by-set}
use Rattle.tm_report.specs.declared.lines.Line.{Line}
use Rattle.tm_report.specs.Lines.{report_text}
use Rattle.tm_report.proofs.ReportText.{report_text-append}
use Rattle.tm_script.specs.declared.syntax.Op.{Op}
use Rattle.play_rules.specs.Interrupts.{Replies, interrupt_where, interrupts}
use Rattle.play_rules.specs.Operations.{operation, operations}
use Rattle.play_rules.specs.Parts.{Played, Prints, Progress, and_then, counted, silent}
use Rattle.play_rules.specs.Rules.{Rules}
use Rattle.run_story.specs.Stories.{is_told_by}
use Rattle.run_plain.specs.Apart.{GoesOnApart, Spreads, ToldApart}
use Rattle.run_plain.proofs.Tellers.{ToldBy}

-- the work of one report more
works_one : (sum new_sum before after work more : ℕ) → counted sum ≡ counted work
    → new_sum + before ≡ sum + after → counted after ≡ counted (before + more)
    → before ≤ sum → counted new_sum ≡ counted (work + more)
works_one sum new_sum before after work more was changed done low =
    omega (arith, was, changed, done, low)

-- one of some numbers is at most their sum
one_at_most : (own : List Progress) (c : ℕ) (d : Progress) → c < length own
    → (get_or own c d).work ≤ sum_by (λ (t : Progress). t.work) own
one_at_most own c d low =
    let changed = sum_by-set (λ (t : Progress). t.work) own c (record d { work = 0 }) d low in
    omega (arith, changed)

module _ {S : Type 0} (cpus c : ℕ) (p : Played S) (own : List Progress) (d t : Progress) (after : S)
    (low : c < cpus) (by : ToldBy c p.lines) (done : Prints p (get_or own c d) t after) where
  mine : (ls : List Line) → (get_or own c d).text ≡ report_text (filter (is_told_by c) ls)
      → t.text ≡ report_text (filter (is_told_by c) (ls ++ p.lines))
  mine ls was =
      done.text
      ∙ (let back = sym by.own in λ i. was i ++ report_text (back i))
      ∙ sym (report_text-append (filter (is_told_by c) ls) (filter (is_told_by c) p.lines))
      ∙ ap report_text (sym (filter-append (is_told_by c) ls p.lines))

  others : (ls : List Line) (e : ℕ) → e ≢ c
      → filter (is_told_by e) ls ≡ filter (is_told_by e) (ls ++ p.lines)
  others ls e ne =
      sym (append-nil (filter (is_told_by e) ls))
      ∙ ap (λ xs. filter (is_told_by e) ls ++ xs) (sym (by.others e ne))
      ∙ sym (filter-append (is_told_by e) ls p.lines)

  -- ONE PART: that of a CPU, in its own report
  pub spread_one : length own ≡ cpus → Spreads cpus p own (set own c t) after
  spread_one count = record {
    apart = λ ls work was. record {
      count = length-set own c t ∙ was.count;
      each = λ e none in_range. elim (cases_eq e c) [
        | inl is ↦
            subst (λ k. (get_or (set own c t) k none).text
            ≡ report_text (filter (is_told_by k) (ls ++ p.lines))) (sym is)
            (ap (λ (u : Progress). u.text)
            (get_or-set_same own c t none (omega (arith, low, count)))
            ∙ mine ls (was.each c d low))
        | inr ne ↦
            ap (λ (u : Progress). u.text) (get_or-set_other own c e t none ne)
            ∙ was.each e none in_range
            ∙ ap report_text (others ls e ne)
      ];
      work_is =
          let changed = sum_by-set (λ (u : Progress). u.work) own c t d
          (omega (arith, low, count)) in
          works_one (sum_by (λ (u : Progress). u.work) own)
          (sum_by (λ (u : Progress). u.work) (set own c t)) (get_or own c d).work t.work work
          p.work was.work_is changed done.work
          (one_at_most own c d (omega (arith, low, count)));
    };
    state = done.state;
  }

module _ {S : Type 0} (cpus : ℕ) where
  -- nothing
  pub spread_none : (s : S) (own : List Progress) → Spreads cpus (silent s) own own s
  spread_none s own = record {
    apart = λ ls work was. record {
      count = was.count;
      each = λ c none low.
          was.each c none low ∙ ap (λ xs. report_text (filter (is_told_by c) xs)) (sym (append-nil ls));
      work_is = was.work_is ∙ (let same : work ≡ work + 0 = omega arith in ap counted same);
    };
    state = refl;
  }

  -- one part and then another
  pub spread_then : (p : Played S) (f : S → Played S) (old mid new : List Progress) (s after : S)
      → Spreads cpus p old mid s → Spreads cpus (f s) mid new after
      → Spreads cpus (and_then p f) old new after
  spread_then p f old mid new s after first second =
      let same : f s ≡ f p.state = ap f first.state in
      let later : Spreads cpus (f p.state) mid new after
      = subst (λ (q : Played S). Spreads cpus q mid new after) same second in
      record {
        apart = λ ls work was.
            let both = later.apart (ls ++ p.lines) (work + p.work) (first.apart ls work was) in
            record {
              count = both.count;
              each = λ c none low.
                  both.each c none low
                  ∙ ap (λ xs. report_text (filter (is_told_by c) xs))
                  (append_assoc ls p.lines (f p.state).lines);
              work_is = both.work_is
                  ∙ (let assoc : (work + p.work) + (f p.state).work
                  ≡ work + (p.work + (f p.state).work) = omega arith in ap counted assoc);
            };
        state = later.state;
      }

below : (n i : ℕ) → i < n → n - i ≡ suc (n - (i + 1))
below n i low = omega arith

past : (n i : ℕ) → n ≤ i → n - i ≡ zero
past n i high = omega arith

module _ {S : Type 0} (cpus : ℕ) (jobs : Replies) (r : Rules S) where
  -- THE INTERRUPTS, CPU by CPU
  pub interrupted_apart : (n i : ℕ) (due : fins.FinSet nat_cmp) (whole : Played S)
      (first own mid : List Progress) (s next : S)
      → GoesOnApart cpus (interrupts jobs r (n - i) i due s) own whole first → i < n
      → Spreads cpus (interrupt_where jobs r (fins.contains due i) i s) own mid next
      → GoesOnApart cpus (interrupts jobs r (n - (i + 1)) (i + 1) due next) mid whole first
  unfolding interrupts
  interrupted_apart n i due whole first own mid s next rest low done =
      let there = rw (below n i low) at rest in
      λ new after more. there new after
      (spread_then cpus (interrupt_where jobs r (fins.contains due i) i s)
      (interrupts jobs r (n - (i + 1)) (i + 1) due) own mid new next after done more)

  pub interrupted_last : (n i : ℕ) (due : fins.FinSet nat_cmp) (whole : Played S)
      (first own : List Progress) (s : S)
      → GoesOnApart cpus (interrupts jobs r (n - i) i due s) own whole first → n ≤ i
      → Spreads cpus whole first own s
  unfolding interrupts
  interrupted_last n i due whole first own s rest high =
      let there = rw (past n i high) at rest in there own s (spread_none cpus s own)

module _ {S : Type 0} (cpus : ℕ) (r : Rules S) where
  -- THE OPERATIONS, line by line
  pub operated_apart : (i : ℕ) (op : Op) (ops : List Op) (whole : Played S)
      (first own mid : List Progress) (s next : S)
      → GoesOnApart cpus (operations r (drop i ops) s) own whole first → i < length ops
      → Spreads cpus (operation r (get_or ops i op) s) own mid next
      → GoesOnApart cpus (operations r (drop (i + 1) ops) next) mid whole first
  unfolding operations
  operated_apart i op ops whole first own mid s next rest low done =
      let there = rw (drop_more ops i op low) at rest in
      λ new after more. there new after
      (spread_then cpus (operation r (get_or ops i op) s)
      (operations r (drop (i + 1) ops)) own mid new next after done more)

  pub operated_last : (i : ℕ) (ops : List Op) (whole : Played S) (first own : List Progress) (s : S)
      → GoesOnApart cpus (operations r (drop i ops) s) own whole first → length ops ≤ i
      → Spreads cpus whole first own s
  unfolding operations
  operated_last i ops whole first own s rest high =
      let there = rw (drop_all i ops high) at rest in there own s (spread_none cpus s own)

-- where a call succeeded
pub where_ok : {A E : Type 0} (r : Result A E) (P Q : Type 0) → (P → Q) → OnOk r P → OnOk r Q
where_ok (Ok a) P Q f p = f p
where_ok (Err e) P Q f p = tt

-- for as many CPUs
pub on_cpus : {S : Type 0} (m n : ℕ) (p : Played S) (old new : List Progress) (after : S)
    → m ≡ n → Spreads m p old new after → Spreads n p old new after
on_cpus m n p old new after is spreads =
    subst (λ k. Spreads k p old new after) is spreads

nothing_more : (sum more : ℕ) → counted sum ≡ counted 0 → more ≡ 0
    → counted (sum + more) ≡ counted 0
nothing_more sum more was none = omega (arith, was, none)

-- a CPU more that has told nothing
pub one_nobody : (n : ℕ) (own : List Progress) (t : Progress) → ToldApart n own [] 0
    → t.text ≡ [] → t.work ≡ 0 → ToldApart (n + 1) (own ++ t ∷ []) [] 0
one_nobody n own t was text work = record {
  count = length-append own (t ∷ []) ∙ (let one = was.count in omega (arith, one));
  each = λ c none low. elim (cases_eq c n) [
    | inl last ↦
        subst (λ k. (get_or (own ++ t ∷ []) k none).text ≡ []) (was.count ∙ sym last)
        (ap (λ (u : Progress). u.text) (get_or-append_seam own t [] none) ∙ text)
    | inr ne ↦
        ap (λ (u : Progress). u.text)
        (get_or_append_left own (t ∷ []) none c (omega (arith, low, ne, was.count)))
        ∙ was.each c none (omega (arith, low, ne))
  ];
  work_is =
      ap counted (sum_by-append (λ (u : Progress). u.work) own (t ∷ []))
      ∙ nothing_more (sum_by (λ (u : Progress). u.work) own)
      (sum_by (λ (u : Progress). u.work) (t ∷ [])) was.work_is
      ((let one : sum_by (λ (u : Progress). u.work) (t ∷ []) ≡ t.work = omega arith in one) ∙ work);
}

-- where a call succeeded, by two of its clauses
pub where_both : {A E : Type 0} (r : Result A E) (P Q R : Type 0) → (P → Q → R) → OnOk r P
    → OnOk r Q → OnOk r R
where_both (Ok a) P Q R f p q = f p q
where_both (Err e) P Q R f p q = tt
