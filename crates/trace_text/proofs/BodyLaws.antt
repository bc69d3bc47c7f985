-- the lines behind those of the machine, read and spelled
use Rattle.std.proofs.Common.{◌≡◌, ℕ, ◌+◌, ◌≤◌, List, [], ◌∷◌, ◌++◌, map, length, Option, Some, None, Result, Ok, Err, refl, sym, ap, subst, ◌∙◌, arith, append_assoc}
use Rattle.std.specs.Prelude.{codes}
use Rattle.std.specs.List.{AllByRecursion}
use Rattle.text_words.specs.Words.{lines_of, words_of, spaced}
use Rattle.text_words.proofs.Cuts.{AreClear, split_some, words_joined}
use Rattle.tm_base.specs.declared.limits.TheConstants.{MOST_LINES}
use Rattle.tm_script.specs.declared.faults.Kind.{Kind}
use Rattle.tm_script.specs.declared.faults.ScriptFault.{ScriptFault}
use Rattle.trace_text.specs.declared.traces.TraceLine.{TraceLine}
use Rattle.trace_text.specs.declared.words.Limits.{Limits}
use Rattle.trace_text.specs.Lines.{IsLine, trace_line_text}
use Rattle.trace_text.specs.Reading.{trace_closing, trace_fault_at, trace_read_on, line_heard, lines_from, unended_trace, with_line}
use Rattle.trace_text.specs.Steps.{body_parts, with_front}
use Rattle.trace_text.proofs.FieldLaws.{AreSmall}
use Rattle.trace_text.proofs.LineLaws.{line_back, line_clear, line_found, last_back, last_found}

pub record IsBody (l : Limits) (n : ℕ) (parts : List (List ℕ)) (ls : List TraceLine) : Type 0 where
  pub spelled : parts ≡ body_parts ls
  pub lines : AllByRecursion (IsLine l) ls
  pub room : n + length ls ≤ MOST_LINES

closed : (n : ℕ) (parts : List (List ℕ)) (ls : List TraceLine) → trace_closing n parts ≡ Ok ls → (parts ≡ [] ∷ []) × (ls ≡ [])
closed n [] ls e = absurd cc
closed n ([] ∷ []) ls e = (refl, let same : [] ≡ ls = cc in sym same)
closed n ([] ∷ p ∷ ps) ls e = absurd cc
closed n ((b ∷ bs) ∷ ps) ls e = absurd cc

record HasLine (line : TraceLine) (r : Result (List TraceLine) ScriptFault) (ls : List TraceLine) : Type 0 where
  behind : List TraceLine
  behind_is : r ≡ Ok behind
  whole : line ∷ behind ≡ ls

has_line : (line : TraceLine) (r : Result (List TraceLine) ScriptFault) (ls : List TraceLine) → with_line line r ≡ Ok ls → HasLine line r ls
has_line line (Ok ks) ls e = record { behind = ks; behind_is = refl; whole = (let same : line ∷ ks ≡ ls = cc in same) }
has_line line (Err fault) ls e = absurd cc

line_of : (words : List ℕ) (text : List ℕ) → spaced (words_of words) ≡ text → words ≡ text
line_of words text e = sym (words_joined words) ∙ e

module _ (l : Limits) where
  pub body_found : (parts : List (List ℕ)) (n : ℕ) (ls : List TraceLine) → lines_from l n parts ≡ Ok ls → IsBody l n parts ls
  unfolding lines_from
  body_found [] n ls e = absurd cc
  body_found (rest ∷ []) n ls e = absurd (unended_ok rest e)
    where
      unended_ok : (rest : List ℕ) → Err (unended_trace n rest) ≡ Ok ls → ⊥
      unended_ok rest e = absurd cc
  body_found (words ∷ next ∷ more) n ls e = by (line_heard l n (words_of words)) refl (body_found (next ∷ more) (n + 1)) e
    where
      by : (r : Result (Option TraceLine) Kind) → line_heard l n (words_of words) ≡ r → ((ks : List TraceLine) → lines_from l (n + 1) (next ∷ more) ≡ Ok ks → IsBody l (n + 1) (next ∷ more) ks)
          → trace_read_on n r (trace_closing (n + 1) (next ∷ more)) (lines_from l (n + 1) (next ∷ more)) ≡ Ok ls → IsBody l n (words ∷ next ∷ more) ls
      by (Err kind) is rec e = absurd cc
      by (Ok None) is rec e =
          let c = closed (n + 1) (next ∷ more) ls e in
          let h = last_found l n (words_of words) is in
          subst (IsBody l n (words ∷ next ∷ more)) (sym c.1) (record {
            spelled = (λ i. line_of words (codes "end") h.0 i ∷ c.0 i);
            lines = tt;
            room = omega (arith, h.1);
          })
      by (Ok (Some line)) is rec e =
          let c = has_line line (lines_from l (n + 1) (next ∷ more)) ls e in
          let h = line_found l n (words_of words) line is in
          let b = rec c.behind c.behind_is in
          subst (IsBody l n (words ∷ next ∷ more)) c.whole (record {
            spelled = (λ i. line_of words (trace_line_text line) h.0 i ∷ b.spelled i);
            lines = (h.1, b.lines);
            room = omega (arith, b.room);
          })

  -- a part and one behind it
  pub step_from : (n : ℕ) (words : List ℕ) (rest : List (List ℕ)) (first : List ℕ) (more : List (List ℕ)) → rest ≡ first ∷ more
      → lines_from l n (words ∷ rest) ≡ trace_read_on n (line_heard l n (words_of words)) (trace_closing (n + 1) rest) (lines_from l (n + 1) rest)
  unfolding lines_from
  step_from n words rest first more e =
      ap (λ (r : List (List ℕ)). lines_from l n (words ∷ r)) e
      ∙ ap (λ (r : List (List ℕ)). trace_read_on n (line_heard l n (words_of words)) (trace_closing (n + 1) r) (lines_from l (n + 1) r)) (sym e)

  pub some_body : (ls : List TraceLine) → (first : List ℕ) × (more : List (List ℕ)) × (body_parts ls ≡ first ∷ more)
  some_body [] = (codes "end", [] ∷ [], refl)
  some_body (k ∷ ks) = (trace_line_text k, body_parts ks, refl)

  pub body_back : AreSmall l → (ls : List TraceLine) (n : ℕ) → AllByRecursion (IsLine l) ls → n + length ls ≤ MOST_LINES → lines_from l n (body_parts ls) ≡ Ok ls
  body_back small [] n h room =
      step_from n (codes "end") ([] ∷ []) [] [] refl
      ∙ ap (λ (r : Result (Option TraceLine) Kind). trace_read_on n r (Ok []) (lines_from l (n + 1) ([] ∷ []))) (last_back l n (omega (arith, room)))
  body_back small (line ∷ ls) n h room =
      let some = some_body ls in
      step_from n (trace_line_text line) (body_parts ls) some.0 some.1 some.2
      ∙ ap (λ (r : Result (Option TraceLine) Kind). trace_read_on n r (trace_closing (n + 1) (body_parts ls)) (lines_from l (n + 1) (body_parts ls))) (line_back l small n line (omega (arith, room)) h.0)
      ∙ ap (with_line line) (body_back small ls (n + 1) h.1 (omega (arith, room)))

  pub body_clear : AreSmall l → (ls : List TraceLine) → AllByRecursion (IsLine l) ls → AreClear 10 (map trace_line_text ls)
  body_clear small [] h = tt
  body_clear small (line ∷ ls) h = (line_clear l small line h.0, body_clear small ls h.1)

  -- ---- what the loop keeps

  front_line : (front : List TraceLine) (line : TraceLine) (r : Result (List TraceLine) ScriptFault) → with_front front (with_line line r) ≡ with_front (front ++ line ∷ []) r
  front_line front line (Ok ks) = ap (λ (x : List TraceLine). Ok x) (sym (append_assoc front (line ∷ []) ks))
  front_line front line (Err fault) = refl

  module _ (n : ℕ) (rest words after : List ℕ) (front : List TraceLine) (total : Result (List TraceLine) ScriptFault)
      (cut : lines_of rest ≡ words ∷ lines_of after) (same : with_front front (lines_from l n (lines_of rest)) ≡ total) where
    here : with_front front (trace_read_on n (line_heard l n (words_of words)) (trace_closing (n + 1) (lines_of after)) (lines_from l (n + 1) (lines_of after))) ≡ total
    here =
        let some = split_some 10 after in
        ap (with_front front) (sym (step_from n words (lines_of after) some.0 some.1 some.2))
        ∙ ap (λ (ps : List (List ℕ)). with_front front (lines_from l n ps)) (sym cut) ∙ same

    pub line_read : (line : TraceLine) → Ok (Some line) ≡ line_heard l n (words_of words) → with_front (front ++ line ∷ []) (lines_from l (n + 1) (lines_of after)) ≡ total
    line_read line e =
        sym (front_line front line (lines_from l (n + 1) (lines_of after)))
        ∙ ap (λ (r : Result (Option TraceLine) Kind). with_front front (trace_read_on n r (trace_closing (n + 1) (lines_of after)) (lines_from l (n + 1) (lines_of after)))) e ∙ here

    pub last_read : Ok None ≡ line_heard l n (words_of words) → with_front front (trace_closing (n + 1) (lines_of after)) ≡ total
    last_read e =
        ap (λ (r : Result (Option TraceLine) Kind). with_front front (trace_read_on n r (trace_closing (n + 1) (lines_of after)) (lines_from l (n + 1) (lines_of after)))) e ∙ here

    pub line_refused : (kind : Kind) → Err kind ≡ line_heard l n (words_of words) → total ≡ Err (trace_fault_at n kind)
    line_refused kind e =
        sym here ∙ ap (λ (r : Result (Option TraceLine) Kind). with_front front (trace_read_on n r (trace_closing (n + 1) (lines_of after)) (lines_from l (n + 1) (lines_of after)))) (sym e)

  pub lines_end : (n : ℕ) (rest : List ℕ) (front : List TraceLine) (total : Result (List TraceLine) ScriptFault) → lines_of rest ≡ rest ∷ []
      → with_front front (lines_from l n (lines_of rest)) ≡ total → total ≡ Err (unended_trace n rest)
  unfolding lines_from
  lines_end n rest front total cut same = sym same ∙ ap (λ (ps : List (List ℕ)). with_front front (lines_from l n ps)) cut
