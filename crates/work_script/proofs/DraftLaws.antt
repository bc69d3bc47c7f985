-- what reading has kept so far, and what is still to be read
use Rattle.std.proofs.Common.{◌≡◌, ℕ, ◌+◌, ◌≤◌, true, false, cond, eqb, List, [], ◌∷◌, ◌++◌, length, Option, Some, None, Result, Ok, Err, refl, sym, ap, ◌∙◌, append_assoc, arith}
use Rattle.std.specs.List.{onto_first}
use Rattle.std.proofs.lemmas.Bool.{and_parts, leb-true, ltb-true, true≢false}
use Rattle.std.proofs.lemmas.List.{append-nil}
use Rattle.text_words.specs.Words.{lines_of, words_of}
use Rattle.text_words.proofs.Cuts.{split_some}
use Rattle.tm_base.specs.declared.limits.TheConstants.{MOST_LINES, MOST_OPS}
use Rattle.tm_script.specs.declared.faults.Kind.{Kind}
use Rattle.tm_script.specs.declared.faults.Kind.TheVariants.{BadLine}
use Rattle.tm_script.specs.declared.faults.ScriptFault.{ScriptFault}
use Rattle.work_script.specs.declared.syntax.WorkScript.{WorkScript}
use Rattle.work_script.specs.declared.syntax.WorkMoment.{WorkMoment}
use Rattle.work_script.specs.declared.syntax.WorkOp.{WorkOp}
use Rattle.work_script.specs.declared.words.WorkKnown.{WorkKnown}
use Rattle.work_script.specs.declared.words.WorkSaid.{WorkSaid}
use Rattle.work_script.specs.declared.words.WorkSaid.TheVariants.{Opening, Operation, Ending}
use Rattle.work_script.specs.declared.draft.Draft.{Draft}
use Rattle.work_script.specs.Reading.{WorkBody, body_from, work_closing, work_fault_at, work_read_on, work_line_heard, work_known_after, unended, with_moment, with_op}
use Rattle.work_script.specs.Steps.{work_closed_with, work_draft_after, joined_moments, with_draft}
use Rattle.work_script.proofs.BodyLaws.{step_from}
use Rattle.work_script.proofs.LineLaws.{heard_found}

-- what is always known behind a line
pub record IsKnown (k : WorkKnown) : Type 0 where
  pub lines : k.line ≤ MOST_LINES + 1
  pub ops : k.ops ≤ MOST_OPS

pub known_opening : (k : WorkKnown) (words : List (List ℕ)) (at : ℕ) → work_line_heard k words ≡ Ok (Opening at) → IsKnown (work_known_after k (Opening at))
known_opening k words at e =
    let h = heard_found k words (Opening at) e in
    let room = leb-true k.line MOST_LINES h.fits.room in
    record { lines = omega (arith, room); ops = omega arith }

pub known_operation : (k : WorkKnown) (words : List (List ℕ)) (op : WorkOp) → work_line_heard k words ≡ Ok (Operation op) → IsKnown (work_known_after k (Operation op))
known_operation k words op e =
    let h = heard_found k words (Operation op) e in
    let fits = and_parts _ _ h.fits.room in
    let room = leb-true k.line MOST_LINES fits.0 in
    let few = ltb-true k.ops MOST_OPS fits.1 in
    record { lines = omega (arith, room); ops = omega (arith, few) }

joined_moment : (moments : List WorkMoment) (ops : List WorkOp) (at : ℕ) (b : WorkBody) (last : Option ℕ)
    → joined_moments (work_closed_with moments last ops) (Some at) [] b ≡ joined_moments moments last ops (record { ops = []; moments = record { at = at; ops = b.ops } ∷ b.moments; end = b.end })
joined_moment moments ops at b None = refl
joined_moment moments ops at b (Some before) =
    append_assoc moments _ _ ∙ ap (λ (os : List WorkOp). moments ++ (record { at = before; ops = os } ∷ record { at = at; ops = b.ops } ∷ b.moments)) (sym (append-nil ops))

joined_op : (moments : List WorkMoment) (ops : List WorkOp) (op : WorkOp) (b : WorkBody) (last : Option ℕ)
    → joined_moments moments last (ops ++ op ∷ []) b ≡ joined_moments moments last ops (record { ops = op ∷ b.ops; moments = b.moments; end = b.end })
joined_op moments ops op b None = refl
joined_op moments ops op b (Some at) = ap (λ (os : List WorkOp). moments ++ record { at = at; ops = os } ∷ b.moments) (append_assoc ops (op ∷ []) b.ops)

joined_end : (moments : List WorkMoment) (ops : List WorkOp) (end : ℕ) (last : Option ℕ) → work_closed_with moments last ops ≡ joined_moments moments last ops (record { ops = []; moments = []; end = end })
joined_end moments ops end None = sym (append-nil moments)
joined_end moments ops end (Some at) = ap (λ (os : List WorkOp). moments ++ record { at = at; ops = os } ∷ []) (sym (append-nil ops))

moment_moves : (d : Draft) (at : ℕ) (r : Result WorkBody ScriptFault) → with_draft (work_draft_after d (Opening at)) r ≡ with_draft d (with_moment at r)
moment_moves d at (Err fault) = refl
moment_moves d at (Ok b) = ap (λ (ms : List WorkMoment). Ok (record { count = d.known.count; moments = ms; end = b.end })) (joined_moment d.moments d.ops at b d.known.last)

op_moves : (d : Draft) (op : WorkOp) (r : Result WorkBody ScriptFault) → with_draft (work_draft_after d (Operation op)) r ≡ with_draft d (with_op op r)
op_moves d op (Err fault) = refl
op_moves d op (Ok b) = ap (λ (ms : List WorkMoment). Ok (record { count = d.known.count; moments = ms; end = b.end })) (joined_op d.moments d.ops op b d.known.last)

module _ (rest line after : List ℕ) (d : Draft) (total : Result WorkScript ScriptFault)
    (cut : lines_of rest ≡ line ∷ lines_of after) (same : with_draft d (body_from (lines_of rest) d.known) ≡ total) where
  here : with_draft d (work_read_on d.known (work_line_heard d.known (words_of line)) (lines_of after) (body_from (lines_of after))) ≡ total
  here =
      ap (with_draft d) (sym (step_from line (lines_of after) d.known (split_some 10 after)))
      ∙ ap (λ (ps : List (List ℕ)). with_draft d (body_from ps d.known)) (sym cut) ∙ same

  said_here : (r : Result WorkSaid Kind) → r ≡ work_line_heard d.known (words_of line) → with_draft d (work_read_on d.known r (lines_of after) (body_from (lines_of after))) ≡ total
  said_here r e = ap (λ (r : Result WorkSaid Kind). with_draft d (work_read_on d.known r (lines_of after) (body_from (lines_of after)))) e ∙ here

  pub opening_read : (at : ℕ) (e : Draft) → e ≡ work_draft_after d (Opening at) → Ok (Opening at) ≡ work_line_heard d.known (words_of line) → with_draft e (body_from (lines_of after) e.known) ≡ total
  opening_read at e is h =
      ap (λ (x : Draft). with_draft x (body_from (lines_of after) x.known)) is
      ∙ moment_moves d at (body_from (lines_of after) (work_known_after d.known (Opening at)))
      ∙ said_here (Ok (Opening at)) h

  pub operation_read : (op : WorkOp) (e : Draft) → e ≡ work_draft_after d (Operation op) → Ok (Operation op) ≡ work_line_heard d.known (words_of line) → with_draft e (body_from (lines_of after) e.known) ≡ total
  operation_read op e is h =
      ap (λ (x : Draft). with_draft x (body_from (lines_of after) x.known)) is
      ∙ op_moves d op (body_from (lines_of after) (work_known_after d.known (Operation op)))
      ∙ said_here (Ok (Operation op)) h

  pub ending_read : (end : ℕ) → Ok (Ending end) ≡ work_line_heard d.known (words_of line) → with_draft d (work_closing (d.known.line + 1) end (lines_of after)) ≡ total
  ending_read end h = said_here (Ok (Ending end)) h

  pub line_refused : (kind : Kind) → Err kind ≡ work_line_heard d.known (words_of line) → total ≡ Err (work_fault_at d.known.line kind)
  line_refused kind h = sym (said_here (Err kind) h)

pub lines_end : (rest : List ℕ) (d : Draft) (total : Result WorkScript ScriptFault) → lines_of rest ≡ rest ∷ [] → with_draft d (body_from (lines_of rest) d.known) ≡ total → total ≡ Err (unended d.known.line rest)
unfolding body_from
lines_end rest d total cut same = sym same ∙ ap (λ (ps : List (List ℕ)). with_draft d (body_from ps d.known)) cut

-- something behind the end
closing_more : (n end b : ℕ) (bs : List ℕ) → work_closing n end (lines_of (b ∷ bs)) ≡ Err (work_fault_at n BadLine)
closing_more n end b bs =
    let some = split_some 10 bs in
    elim (eqb b 10) as (λ t. work_closing n end (cond t ([] ∷ lines_of bs) (onto_first b (lines_of bs))) ≡ Err (work_fault_at n BadLine)) [
      | true ↦ ap (λ (ps : List (List ℕ)). work_closing n end ([] ∷ ps)) some.2
      | false ↦ ap (λ (ps : List (List ℕ)). work_closing n end (onto_first b ps)) some.2
    ]

pub closing_some : (d : Draft) (n end : ℕ) (rest : List ℕ) → false ≡ eqb (length rest) 0 → with_draft d (work_closing n end (lines_of rest)) ≡ Err (work_fault_at n BadLine)
closing_some d n end [] e = absurd (true≢false (sym e))
closing_some d n end (b ∷ bs) e = ap (with_draft d) (closing_more n end b bs)

-- nothing behind the end
pub closing_none : (d : Draft) (n end : ℕ) → with_draft d (work_closing n end (lines_of [])) ≡ Ok (record { count = d.known.count; moments = work_closed_with d.moments d.known.last d.ops; end = end })
closing_none d n end = ap (λ (ms : List WorkMoment). Ok (record { count = d.known.count; moments = ms; end = end })) (sym (joined_end d.moments d.ops end d.known.last))
