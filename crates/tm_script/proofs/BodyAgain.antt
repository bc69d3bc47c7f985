-- the lines of moments and of the end: those that are spelled so are read
use Rattle.std.proofs.Common.{◌≡◌, ℕ, suc, ◌+◌, ◌^◌, ◌<◌, ◌≤◌, Bool, true, false, List, [], ◌∷◌, ◌++◌, length, map, Option, Some, Ok, refl, sym, ap, ◌∙◌, append_assoc, length-append, arith}
use Rattle.std.specs.Prelude.{codes}
use Rattle.std.specs.List.{flat_map, AllByRecursion}
use Rattle.std.proofs.lemmas.Bool.{ltb-true, leb-true, false_from_ne_true}
use Rattle.std.proofs.lemmas.List.{append-nil, length-map}
use Rattle.std.proofs.lemmas.List.Elements.{recursion_from_All}
use Rattle.tm_base.specs.declared.limits.TheConstants.{MOST_OPS, MOST_LINES, SCRIPT_TIME_LIMIT}
use Rattle.tm_script.specs.declared.syntax.Script.{Script}
use Rattle.tm_script.specs.declared.syntax.Moment.{Moment}
use Rattle.tm_script.specs.declared.syntax.Op.{Op}
use Rattle.tm_script.specs.declared.known.Said.TheVariants.{Opening, Operation, Ending}
use Rattle.tm_script.specs.Texts.{cpu_count, number_line, op_line, moment_lines}
use Rattle.tm_script.specs.Grammar.{is_hotplug, IsOp, IsMoment, IsHotplugLast, AreOpsNumbered, AreMomentsNumbered}
use Rattle.tm_script.specs.Judge.{is_after, is_reached}
use Rattle.tm_script.specs.Reading.{closed_with, read_from, finished}
use Rattle.tm_script.proofs.ReadLaws.{HasFirst, has_first, step_again}
use Rattle.tm_script.proofs.BodyLaws.{body_draft, end_lines, whole, InOrder}

-- the end is at or after each time
pub reached_end : (at : ℕ) (ms : List Moment) (end : ℕ) → InOrder (Some at) ms end → at ≤ end
reached_end at [] end h = leb-true at end h
reached_end at (m ∷ ms) end h = omega (arith, ltb-true at m.at h.0, reached_end m.at ms end h.1)

-- whether a moment is closed behind further operations
abbrev closed_by : Bool → List Op → Bool
closed_by closed [] = closed
closed_by closed (o ∷ os) = closed_by (is_hotplug o.what) os

-- an operation that closes its moment is the last
closes : (o : Op) (os : List Op) → IsHotplugLast (o ∷ os) → is_hotplug o.what ≡ true → os ≡ []
closes o [] h e = refl
closes o (p ∷ os) h e = let both = sym h.0 ∙ e in absurd cc

rest_hotplug : (o : Op) (os : List Op) → IsHotplugLast (o ∷ os) → IsHotplugLast os
rest_hotplug o [] h = tt
rest_hotplug o (p ∷ os) h = h.1

module _ (h : Script) (few_cpus : cpu_count h < 10 ^ 13) (few_timers : h.timers < 10 ^ 13) where
  op_step : (o : Op) (rest : List (List ℕ)) (line : ℕ) (moments : List Moment) (at n : ℕ) (ops : List Op) (closed : Bool) → HasFirst rest → line ≤ MOST_LINES → n < MOST_OPS → closed ≡ false
      → IsOp h.version (cpu_count h) h.timers o → o.line ≡ line
      → read_from (op_line o ∷ rest) (body_draft h line moments (Some at) n ops closed) ≡ read_from rest (body_draft h (line + 1) moments (Some at) (n + 1) (ops ++ o ∷ []) (is_hotplug o.what))
  op_step o rest line moments at n ops closed more room few going form number =
      let same : ◌≡◌ {A = Op} (record { line = line; cpu = o.cpu; what = o.what }) o = λ i. record { line = sym number i; cpu = o.cpu; what = o.what } in
      step_again rest (body_draft h line moments (Some at) n ops closed) (Operation o.cpu o.what) more room (refl, refl, form.cpu_in_range, form.what, going, few, few_cpus, few_timers)
      ∙ ap (λ (x : Op). read_from rest (body_draft h (line + 1) moments (Some at) (n + 1) (ops ++ x ∷ []) (is_hotplug o.what))) same

  ops_again : (os : List Op) (rest : List (List ℕ)) (line : ℕ) (moments : List Moment) (at n : ℕ) (ops : List Op) (closed : Bool) → HasFirst rest → line + length os ≤ MOST_LINES → n + length os ≤ MOST_OPS → (closed ≡ true → os ≡ [])
      → AllByRecursion (IsOp h.version (cpu_count h) h.timers) os → IsHotplugLast os → AreOpsNumbered line os
      → read_from (map op_line os ++ rest) (body_draft h line moments (Some at) n ops closed) ≡ read_from rest (body_draft h (line + length os) moments (Some at) (n + length os) (ops ++ os) (closed_by closed os))
  ops_again [] rest line moments at n ops closed more room few going forms last numbers =
      let line_same : line ≡ line + 0 = omega arith in
      let count_same : n ≡ n + 0 = omega arith in
      λ i. read_from rest (body_draft h (line_same i) moments (Some at) (count_same i) (sym (append-nil ops) i) closed)
  ops_again (o ∷ os) rest line moments at n ops closed more room few going forms last numbers =
      let line_same : line + 1 + length os ≡ line + suc (length os) = omega arith in
      let count_same : n + 1 + length os ≡ n + suc (length os) = omega arith in
      let still : closed ≡ false = false_from_ne_true closed (λ e. let none = going e in absurd cc) in
      op_step o (map op_line os ++ rest) line moments at n ops closed (has_first (map op_line os) rest more) (omega arith) (omega arith) still forms.0 numbers.0
      ∙ ops_again os rest (line + 1) moments at (n + 1) (ops ++ o ∷ []) (is_hotplug o.what) more (omega arith) (omega arith) (closes o os last) forms.1 (rest_hotplug o os last) numbers.1
      ∙ (λ i. read_from rest (body_draft h (line_same i) moments (Some at) (count_same i) (append_assoc ops (o ∷ []) os i) (closed_by (is_hotplug o.what) os)))

  moment_step : (next : ℕ) (rest : List (List ℕ)) (line : ℕ) (moments : List Moment) (at : Option ℕ) (n : ℕ) (ops : List Op) (closed : Bool) → HasFirst rest → line ≤ MOST_LINES → next < SCRIPT_TIME_LIMIT → is_after at next ≡ true
      → read_from (number_line (codes "at") next ∷ rest) (body_draft h line moments at n ops closed) ≡ read_from rest (body_draft h (line + 1) (closed_with moments at ops) (Some next) 0 [] false)
  moment_step next rest line moments at n ops closed more room early after =
      step_again rest (body_draft h line moments at n ops closed) (Opening next) more room (refl, early, after)

  end_step : (end line : ℕ) (moments : List Moment) (at : Option ℕ) (n : ℕ) (ops : List Op) (closed : Bool) → line ≤ MOST_LINES → end < SCRIPT_TIME_LIMIT → is_reached at end ≡ true
      → read_from (end_lines end) (body_draft h line moments at n ops closed) ≡ Ok (whole h (closed_with moments at ops) end)
  unfolding read_from finished
  end_step end line moments at n ops closed room early reached =
      step_again ([] ∷ []) (body_draft h line moments at n ops closed) (Ending end) ([], [], refl) room (refl, early, reached)

  -- what is spelled as moments and an end is read
  pub body_again : (ms : List Moment) (end line : ℕ) (moments : List Moment) (at : Option ℕ) (n : ℕ) (ops : List Op) (closed : Bool) → AllByRecursion (IsMoment h.version (cpu_count h) h.timers) ms → AreMomentsNumbered line ms → InOrder at ms end → end < SCRIPT_TIME_LIMIT
      → line + length (flat_map moment_lines ms) ≤ MOST_LINES
      → read_from (flat_map moment_lines ms ++ end_lines end) (body_draft h line moments at n ops closed) ≡ Ok (whole h (closed_with moments at ops ++ ms) end)
  body_again [] end line moments at n ops closed forms numbers order early room =
      end_step end line moments at n ops closed (omega arith) early order ∙ ap (λ (xs : List Moment). Ok (whole h xs end)) (sym (append-nil (closed_with moments at ops)))
  body_again (mo ∷ ms) end line moments at n ops closed forms numbers order early room =
      let tail = flat_map moment_lines ms ++ end_lines end in
      let more : HasFirst tail = has_first (flat_map moment_lines ms) (end_lines end) (number_line (codes "end") end, [] ∷ [], refl) in
      let count = count_lines mo ms in
      let by_the_end : mo.at < SCRIPT_TIME_LIMIT = omega (arith, early, reached_end mo.at ms end order.1) in
      ap (λ (r : List (List ℕ)). read_from (number_line (codes "at") mo.at ∷ r) (body_draft h line moments at n ops closed)) (append_assoc (map op_line mo.ops) (flat_map moment_lines ms) (end_lines end))
      ∙ moment_step mo.at (map op_line mo.ops ++ tail) line moments at n ops closed (has_first (map op_line mo.ops) tail more) (omega arith) by_the_end order.0
      ∙ ops_again mo.ops tail (line + 1) (closed_with moments at ops) mo.at 0 [] false more (omega (arith, count)) (omega (arith, forms.0.few_ops)) (λ e. absurd cc) (recursion_from_All (IsOp h.version (cpu_count h) h.timers) mo.ops forms.0.ops) forms.0.hotplug_last numbers.0
      ∙ body_again ms end (line + 1 + length mo.ops) (closed_with moments at ops) (Some mo.at) (0 + length mo.ops) mo.ops (closed_by false mo.ops) forms.1 numbers.1 order.1 early (omega (arith, count))
      ∙ ap (λ (xs : List Moment). Ok (whole h xs end)) (append_assoc (closed_with moments at ops) (mo ∷ []) ms)
    where
      count_lines : (mo : Moment) (ms : List Moment) → length (flat_map moment_lines (mo ∷ ms)) ≡ suc (length mo.ops) + length (flat_map moment_lines ms)
      count_lines mo ms = length-append (moment_lines mo) (flat_map moment_lines ms) ∙ ap (λ (k : ℕ). suc k + length (flat_map moment_lines ms)) (length-map mo.ops op_line)
