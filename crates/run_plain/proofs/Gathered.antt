-- what all CPUs have told apart, one CPU behind the other, is what was told by ascending CPU
use Rattle.std.proofs.Common.{◌≡◌, ℕ, zero, suc, ◌+◌, ◌<◌, List, [], ◌∷◌, ◌++◌, append-nil, arith}
use Rattle.std.proofs.Common.{append_assoc, get_or, length, refl, sym, ap, ◌∙◌}
use Rattle.std.specs.Prelude.{filter, take}
use Rattle.std.specs.List.{flat_map, range_with_len, sum_by}
use Rattle.std.proofs.lemmas.Grind.{flat_map-append}
use Rattle.std.proofs.lemmas.List.{take_more}
use Rattle.std.proofs.lemmas.List.Elements.{filter-append}
use Rattle.std.proofs.lemmas.List.Sums.{sum_by-append}
use Rattle.tm_report.specs.declared.lines.Line.{Line}
use Rattle.tm_report.specs.Lines.{report_text}
use Rattle.tm_report.proofs.ReportText.{report_text-append}
use Rattle.play_rules.specs.Parts.{Played, Progress, counted}
use Rattle.run_story.specs.Stories.{by_cpu, is_told_by, is_told_by_none}
use Rattle.run_plain.specs.Apart.{Spreads, ToldApart}
use Rattle.run_plain.specs.Plain.{by_cpus}
use Rattle.play_driver.specs.PartLeaves.{Tells}
use Rattle.run_plain.proofs.Tellers.{ToldByNone}

-- the lines of so many CPUs from one on
abbrev pub told_from : (c n : ℕ) → List Line → List Line
told_from c n ls = flat_map (λ d. filter (is_told_by d) ls) (range_with_len c n)

-- the texts of the reports of CPUs from one on
texts_from : (ls : List Line) (own : List Progress) (c : ℕ)
    → ((i : ℕ) (none : Progress) → i < length own
    → (get_or own i none).text ≡ report_text (filter (is_told_by (c + i)) ls))
    → flat_map (λ (t : Progress). t.text) own ≡ report_text (told_from c (length own) ls)
texts_from ls [] c each = refl
texts_from ls (t ∷ own) c each =
    let here : t.text ≡ report_text (filter (is_told_by c) ls)
    = each 0 t (omega arith) ∙ (let same : c + 0 ≡ c = omega arith in
    ap (λ k. report_text (filter (is_told_by k) ls)) same) in
    let later = texts_from ls own (c + 1) (λ i none low.
    each (suc i) none (omega (arith, low))
    ∙ (let same : c + suc i ≡ (c + 1) + i = omega arith in
    ap (λ k. report_text (filter (is_told_by k) ls)) same)) in
    (λ i. here i ++ later i)
    ∙ sym (report_text-append (filter (is_told_by c) ls) (told_from (c + 1) (length own) ls))

pub texts_of_all : (ls : List Line) (own : List Progress)
    → ((i : ℕ) (none : Progress) → i < length own
    → (get_or own i none).text ≡ report_text (filter (is_told_by i) ls))
    → flat_map (λ (t : Progress). t.text) own ≡ report_text (told_from 0 (length own) ls)
texts_of_all ls own each =
    texts_from ls own 0 (λ i none low.
    each i none low
    ∙ (let same : i ≡ 0 + i = omega arith in
    ap (λ k. report_text (filter (is_told_by k) ls)) same))

-- lines of no CPU add nothing to those of CPUs
none_from : (c n : ℕ) (xs ys : List Line) → ToldByNone ys
    → told_from c n (xs ++ ys) ≡ told_from c n xs
none_from c zero xs ys none = refl
none_from c (suc n) xs ys none =
    (λ i.
    (filter-append (is_told_by c) xs ys
    ∙ ap (λ zs. filter (is_told_by c) xs ++ zs) (none.each c)
    ∙ append-nil (filter (is_told_by c) xs)) i
    ++ none_from (c + 1) n xs ys none i)

-- BY ASCENDING CPU: lines that CPUs told, and then lines that none told
pub sorted_both : (cpus : ℕ) (xs ys : List Line) → filter is_told_by_none xs ≡ []
    → ToldByNone ys → by_cpu cpus (xs ++ ys) ≡ told_from 0 cpus xs ++ ys
sorted_both cpus xs ys own none =
    λ i. none_from 0 cpus xs ys none i
    ++ (filter-append is_told_by_none xs ys
    ∙ (λ j. own j ++ none.own j)) i

pub sorted_told : (cpus : ℕ) (xs : List Line) → filter is_told_by_none xs ≡ []
    → by_cpu cpus xs ≡ told_from 0 cpus xs
sorted_told cpus xs own =
    ap (λ ys. told_from 0 cpus xs ++ ys) own ∙ append-nil (told_from 0 cpus xs)

-- ONE REPORT MORE is told behind the others
pub text_more : (old mid new : Progress) (own : List Progress) (i : ℕ) (d : Progress)
    → i < length own
    → mid.text ≡ old.text ++ flat_map (λ (t : Progress). t.text) (take i own)
    → new.text ≡ mid.text ++ (get_or own i d).text
    → new.text ≡ old.text ++ flat_map (λ (t : Progress). t.text) (take (i + 1) own)
text_more old mid new own i d low was done =
    done
    ∙ (λ k. was k ++ (get_or own i d).text)
    ∙ append_assoc old.text (flat_map (λ (t : Progress). t.text) (take i own))
    (get_or own i d).text
    ∙ ap (λ xs. old.text ++ xs)
    ((let one = append-nil (get_or own i d).text in
    λ k. flat_map (λ (t : Progress). t.text) (take i own) ++ sym one k)
    ∙ sym (flat_map-append (λ (t : Progress). t.text) (take i own) (get_or own i d ∷ []))
    ∙ ap (flat_map (λ (t : Progress). t.text)) (sym (take_more own i d low)))

counted_sum : (new mid old sum more : ℕ) → counted mid ≡ counted (old + sum)
    → new ≡ counted (mid + more) → counted new ≡ counted (old + (sum + more))
counted_sum new mid old sum more was done = omega (arith, was, done)

pub work_more : (old mid new : Progress) (own : List Progress) (i : ℕ) (d : Progress)
    → i < length own
    → counted mid.work
    ≡ counted (old.work + sum_by (λ (t : Progress). t.work) (take i own))
    → new.work ≡ counted (mid.work + (get_or own i d).work)
    → counted new.work
    ≡ counted (old.work + sum_by (λ (t : Progress). t.work) (take (i + 1) own))
work_more old mid new own i d low was done =
    counted_sum new.work mid.work old.work (sum_by (λ (t : Progress). t.work) (take i own))
    (get_or own i d).work was done
    ∙ ap (λ n. counted (old.work + n))
    ((let one : (get_or own i d).work ≡ sum_by (λ (t : Progress). t.work) (get_or own i d ∷ [])
    = omega arith in
    ap (λ n. sum_by (λ (t : Progress). t.work) (take i own) + n) one)
    ∙ sym (sum_by-append (λ (t : Progress). t.work) (take i own) (get_or own i d ∷ []))
    ∙ ap (sum_by (λ (t : Progress). t.work)) (sym (take_more own i d low)))

counted_both : (old a b : ℕ) → counted a ≡ counted b → counted (old + a) ≡ counted (old + b)
counted_both old a b same = omega (arith, same)

-- ALL REPORTS together tell the part by ascending CPU
pub told_all : {S : Type 0} (n : ℕ) (p : Played S) (first own : List Progress) (after : S)
    (old new : Progress) → ToldApart n first [] 0 → Spreads n p first own after
    → filter is_told_by_none p.lines ≡ []
    → new.text ≡ old.text ++ flat_map (λ (t : Progress). t.text) own
    → counted new.work ≡ counted (old.work + sum_by (λ (t : Progress). t.work) own)
    → Tells (by_cpus n p) old new after
told_all n p first own after old new nobody spreads none text work =
    let told = spreads.apart [] 0 nobody in
    record {
      text = text
          ∙ ap (λ xs. old.text ++ xs)
          (texts_of_all p.lines own
          (λ i d low. told.each i d (omega (arith, low, told.count)))
          ∙ ap (λ k. report_text (told_from 0 k p.lines)) told.count
          ∙ ap report_text (sym (sorted_told n p.lines none)));
      work = work
          ∙ counted_both old.work (sum_by (λ (t : Progress). t.work) own) p.work
          (told.work_is ∙ (let same : 0 + p.work ≡ p.work = omega arith in ap counted same));
      state = spreads.state;
    }
