-- the lines of moments and of the end: those that are read are spelled so
use Rattle.std.proofs.Common.{◌≡◌, ℕ, zero, suc, ◌+◌, ◌^◌, ◌<◌, ◌≤◌, Bool, true, false, List, [], ◌∷◌, ◌++◌, length, map, Option, Some, None, is_some, Ok, refl, sym, ap, subst, ◌∙◌, append_assoc, arith}
use Rattle.std.specs.Prelude.{codes}
use Rattle.std.specs.List.{flat_map, AllByRecursion}
use Rattle.std.proofs.lemmas.List.{append-nil}
use Rattle.std.proofs.lemmas.List.Elements.{All-from_recursion}
use Rattle.tm_base.specs.declared.names.CpuId.{CpuId}
use Rattle.tm_base.specs.declared.limits.TheConstants.{MOST_OPS, MOST_LINES, SCRIPT_TIME_LIMIT}
use Rattle.tm_script.specs.declared.syntax.Script.{Script}
use Rattle.tm_script.specs.declared.syntax.Moment.{Moment}
use Rattle.tm_script.specs.declared.syntax.Op.{Op}
use Rattle.tm_script.specs.declared.syntax.What.{What}
use Rattle.tm_script.specs.declared.known.Place.TheVariants.{Body}
use Rattle.tm_script.specs.declared.known.Known.{Known}
use Rattle.tm_script.specs.declared.known.Said.{Said}
use Rattle.tm_script.specs.declared.known.Said.TheVariants.{Version, NodeCount, CpuCount, TimerCount, IsolatedCpus, Opening, Operation, Ending}
use Rattle.tm_script.specs.declared.draft.Draft.{Draft}
use Rattle.tm_script.specs.Texts.{cpu_count, number_line, what_line, op_line, moment_lines}
use Rattle.tm_script.specs.Grammar.{is_hotplug, IsOp, IsMoment, IsHotplugLast, AreOpsNumbered, AreMomentsNumbered}
use Rattle.tm_script.specs.Judge.{is_after, is_reached}
use Rattle.tm_script.specs.Reading.{closed_with, draft_after, read_from}
use Rattle.tm_script.proofs.SaidLines.{IsSmall, Fits, said_line}
use Rattle.tm_script.proofs.ReadLaws.{step_found, over_found}

-- a draft among the moments of a script, where n operations stand in the open moment
abbrev pub body_known : Script → ℕ → Option ℕ → ℕ → Bool → Known
body_known h line last n closed = record {
  line = line;
  place = Body;
  version = h.version;
  nodes = h.nodes;
  cpus = h.cpus;
  timers = h.timers;
  last = last;
  ops = n;
  closed = closed;
}

abbrev pub body_draft : Script → ℕ → List Moment → Option ℕ → ℕ → List Op → Bool → Draft
body_draft h line moments last n ops closed = record { known = body_known h line last n closed; isolated = h.isolated; moments = moments; ops = ops; end = 0 }

-- what is still to be read: operations of the open moment, further moments, and the end
pub record ToRead : Type 0 where
  pub ops : List Op
  pub moments : List Moment
  pub end : ℕ

abbrev pub end_lines : ℕ → List (List ℕ)
end_lines end = number_line (codes "end") end ∷ [] ∷ []

abbrev pub body_lines : ToRead → List (List ℕ)
body_lines b = map op_line b.ops ++ (flat_map moment_lines b.moments ++ end_lines b.end)

-- the moments of a draft and what is still to be read
abbrev pub joined : List Moment → Option ℕ → List Op → ToRead → List Moment
joined moments None ops b = moments ++ b.moments
joined moments (Some at) ops b = moments ++ record { at = at; ops = ops ++ b.ops } ∷ b.moments

abbrev pub whole : Script → List Moment → ℕ → Script
whole h moments end = record h { moments = moments; end = end }

-- times ascend up to the end
abbrev pub InOrder : Option ℕ → List Moment → ℕ → Type 0
InOrder last [] end = is_reached last end ≡ true
InOrder last (m ∷ ms) end = (is_after last m.at ≡ true) × InOrder (Some m.at) ms end

-- what may follow on this line, after this time and n operations, the last of them perhaps one that closes its moment
pub record Follows (h : Script) (line : ℕ) (last : Option ℕ) (n : ℕ) (closed : Bool) (b : ToRead) : Type 0 where
  pub placed : last ≡ None → b.ops ≡ []
  pub few : n + length b.ops ≤ MOST_OPS
  pub unclosed : closed ≡ true → b.ops ≡ []
  pub ops : AllByRecursion (IsOp h.version (cpu_count h) h.timers) b.ops
  pub hotplug : IsHotplugLast b.ops
  pub ops_numbered : AreOpsNumbered line b.ops
  pub moments : AllByRecursion (IsMoment h.version (cpu_count h) h.timers) b.moments
  pub numbered : AreMomentsNumbered (line + length b.ops) b.moments
  pub order : InOrder last b.moments b.end
  pub early : b.end < SCRIPT_TIME_LIMIT
  pub room : line + length (map op_line b.ops ++ flat_map moment_lines b.moments) ≤ MOST_LINES

pub record Found (h : Script) (parts : List (List ℕ)) (line : ℕ) (moments : List Moment) (last : Option ℕ) (n : ℕ) (ops : List Op) (closed : Bool) (s : Script) : Type 0 where
  pub body : ToRead
  pub follows : Follows h line last n closed body
  pub spelled : parts ≡ body_lines body
  pub script : s ≡ whole h (joined moments last ops body) body.end

hotplug_cons : (o : Op) (os : List Op) → (is_hotplug o.what ≡ true → os ≡ []) → IsHotplugLast os → IsHotplugLast (o ∷ os)
hotplug_cons o [] closes h = tt
hotplug_cons o (p ∷ os) closes h = (by_test (is_hotplug o.what) refl, h)
  where
    by_test : (t : Bool) → is_hotplug o.what ≡ t → t ≡ false
    by_test true e = let none = closes e in absurd cc
    by_test false e = refl

module _ (h : Script) (l : List ℕ) (ls : List (List ℕ)) (line : ℕ) (moments : List Moment) (last : Option ℕ) (n : ℕ) (ops : List Op) (closed : Bool) (s : Script) where
  joined_moment : (at : ℕ) (b : ToRead) (last : Option ℕ) → joined (closed_with moments last ops) (Some at) [] b ≡ joined moments last ops (record { ops = []; moments = record { at = at; ops = b.ops } ∷ b.moments; end = b.end })
  joined_moment at b None = refl
  joined_moment at b (Some before) =
      append_assoc moments _ _ ∙ ap (λ (os : List Op). moments ++ (record { at = before; ops = os } ∷ record { at = at; ops = b.ops } ∷ b.moments)) (sym (append-nil ops))

  found_moment : (at : ℕ) → n ≤ MOST_OPS → is_after last at ≡ true → l ≡ number_line (codes "at") at → Found h ls (line + 1) (closed_with moments last ops) (Some at) 0 [] false s → Found h (l ∷ ls) line moments last n ops closed s
  found_moment at few after is f =
      let b = f.body in
      let same : line ≡ line + 0 = omega arith in
      record {
        body = record { ops = []; moments = record { at = at; ops = b.ops } ∷ b.moments; end = b.end };
        follows = record {
          placed = λ _. refl;
          few = omega arith;
          unclosed = λ _. refl;
          ops = tt;
          hotplug = tt;
          ops_numbered = tt;
          moments = (record { few_ops = omega (arith, f.follows.few); ops = All-from_recursion (IsOp h.version (cpu_count h) h.timers) b.ops f.follows.ops; hotplug_last = f.follows.hotplug }, f.follows.moments);
          numbered = subst (λ (n : ℕ). AreOpsNumbered (n + 1) b.ops × AreMomentsNumbered (n + 1 + length b.ops) b.moments) same (f.follows.ops_numbered, f.follows.numbered);
          order = (after, f.follows.order);
          early = f.follows.early;
          room = omega (arith, f.follows.room);
        };
        spelled = λ i. is i ∷ (f.spelled ∙ sym (append_assoc (map op_line b.ops) (flat_map moment_lines b.moments) (end_lines b.end))) i;
        script = f.script ∙ ap (λ (ms : List Moment). whole h ms b.end) (joined_moment at b last);
      }

  joined_op : (op : Op) (b : ToRead) (last : Option ℕ) → joined moments last (ops ++ op ∷ []) b ≡ joined moments last ops (record { ops = op ∷ b.ops; moments = b.moments; end = b.end })
  joined_op op b None = refl
  joined_op op b (Some at) = ap (λ (os : List Op). moments ++ record { at = at; ops = os } ∷ b.moments) (append_assoc ops (op ∷ []) b.ops)

  some_none : (o : Option ℕ) → is_some o ≡ true → o ≡ None → ⊥
  some_none None t e = absurd cc
  some_none (Some x) t e = absurd cc

  found_op : (cpu : CpuId) (what : What) → is_some last ≡ true → IsOp h.version (cpu_count h) h.timers (record { line = line; cpu = cpu; what = what }) → closed ≡ false → l ≡ what_line cpu.0 what
      → Found h ls (line + 1) moments last (n + 1) (ops ++ record { line = line; cpu = cpu; what = what } ∷ []) (is_hotplug what) s → Found h (l ∷ ls) line moments last n ops closed s
  found_op cpu what inside form still is f =
      let b = f.body in
      let op : Op = record { line = line; cpu = cpu; what = what } in
      let same : line + 1 + length b.ops ≡ line + suc (length b.ops) = omega arith in
      record {
        body = record { ops = op ∷ b.ops; moments = b.moments; end = b.end };
        follows = record {
          placed = λ e. absurd (some_none last inside e);
          few = omega (arith, f.follows.few);
          unclosed = λ e. let both = sym still ∙ e in absurd cc;
          ops = (form, f.follows.ops);
          hotplug = hotplug_cons op b.ops f.follows.unclosed f.follows.hotplug;
          ops_numbered = (refl, f.follows.ops_numbered);
          moments = f.follows.moments;
          numbered = subst (λ (n : ℕ). AreMomentsNumbered n b.moments) same f.follows.numbered;
          order = f.follows.order;
          early = f.follows.early;
          room = omega (arith, f.follows.room);
        };
        spelled = λ i. is i ∷ f.spelled i;
        script = f.script ∙ ap (λ (ms : List Moment). whole h ms b.end) (joined_op op b last);
      }

  joined_end : (end : ℕ) (last : Option ℕ) → closed_with moments last ops ≡ joined moments last ops (record { ops = []; moments = []; end = end })
  joined_end end None = sym (append-nil moments)
  joined_end end (Some at) = ap (λ (os : List Op). moments ++ record { at = at; ops = os } ∷ []) (sym (append-nil ops))

  found_end : (end : ℕ) → n ≤ MOST_OPS → line ≤ MOST_LINES → is_reached last end ≡ true → ls ≡ [] ∷ [] → end < SCRIPT_TIME_LIMIT → l ≡ number_line (codes "end") end → s ≡ whole h (closed_with moments last ops) end → Found h (l ∷ ls) line moments last n ops closed s
  found_end end few room reached last_line early is same =
      record {
        body = record { ops = []; moments = []; end = end };
        follows = record {
          placed = λ _. refl;
          few = omega arith;
          unclosed = λ _. refl;
          ops = tt;
          hotplug = tt;
          ops_numbered = tt;
          moments = tt;
          numbered = tt;
          order = reached;
          early = early;
          room = omega arith;
        };
        spelled = λ i. is i ∷ last_line i;
        script = same ∙ ap (λ (ms : List Moment). whole h ms end) (joined_end end last);
      }

module _ (h : Script) (few_cpus : cpu_count h < 10 ^ 13) (few_timers : h.timers < 10 ^ 13) where
  step_body : (parts : List (List ℕ)) (line : ℕ) (moments : List Moment) (last : Option ℕ) (n : ℕ) (ops : List Op) (closed : Bool) (s : Script) (l : List ℕ) (ls : List (List ℕ)) (said : Said)
      → parts ≡ l ∷ ls → l ≡ said_line (body_known h line last n closed) said → line ≤ MOST_LINES → Fits (body_known h line last n closed) said
      → read_from ls (draft_after (body_draft h line moments last n ops closed) said) ≡ Ok s → n ≤ MOST_OPS
      → ((line : ℕ) (moments : List Moment) (last : Option ℕ) (n : ℕ) (ops : List Op) (closed : Bool) → n ≤ MOST_OPS → read_from ls (body_draft h line moments last n ops closed) ≡ Ok s → Found h ls line moments last n ops closed s)
      → Found h parts line moments last n ops closed s
  step_body parts line moments last n ops closed s l ls (Version v) cut is room fits later few rec = let e = fits.0 in absurd cc
  step_body parts line moments last n ops closed s l ls (NodeCount v) cut is room fits later few rec = let e = fits.0 in absurd cc
  step_body parts line moments last n ops closed s l ls (CpuCount v) cut is room fits later few rec = let e = fits.0 in absurd cc
  step_body parts line moments last n ops closed s l ls (TimerCount v) cut is room fits later few rec = let e = fits.0 in absurd cc
  step_body parts line moments last n ops closed s l ls (IsolatedCpus v) cut is room fits later few rec = let e = fits.0 in absurd cc
  step_body parts line moments last n ops closed s l ls (Opening at) cut is room fits later few rec =
      let f = rec (line + 1) (closed_with moments last ops) (Some at) 0 [] false (omega arith) later in
      subst (λ (ps : List (List ℕ)). Found h ps line moments last n ops closed s) (sym cut) (found_moment h l ls line moments last n ops closed s at few fits.2 is f)
  step_body parts line moments last n ops closed s l ls (Operation cpu done) cut is room fits later few rec =
      let f = rec (line + 1) moments last (n + 1) (ops ++ record { line = line; cpu = cpu; what = done } ∷ []) (is_hotplug done) (omega (arith, fits.5)) later in
      subst (λ (ps : List (List ℕ)). Found h ps line moments last n ops closed s) (sym cut) (found_op h l ls line moments last n ops closed s cpu done fits.1 (record { cpu_in_range = fits.2; what = fits.3 }) fits.4 is f)
  step_body parts line moments last n ops closed s l ls (Ending end) cut is room fits later few rec =
      let small : IsSmall (body_known h line last n closed) = record { few_cpus = few_cpus; few_timers = few_timers } in
      let over = over_found ls (draft_after (body_draft h line moments last n ops closed) (Ending end)) s (record { few_cpus = few_cpus; few_timers = few_timers }) refl later in
      subst (λ (ps : List (List ℕ)). Found h ps line moments last n ops closed s) (sym cut) (found_end h l ls line moments last n ops closed s end few room fits.2 over.0 fits.1 is over.1)

  -- what is read after a draft is spelled so
  pub body_found : (fuel : ℕ) (parts : List (List ℕ)) → length parts ≤ fuel → (line : ℕ) (moments : List Moment) (last : Option ℕ) (n : ℕ) (ops : List Op) (closed : Bool) (s : Script) → n ≤ MOST_OPS
      → read_from parts (body_draft h line moments last n ops closed) ≡ Ok s → Found h parts line moments last n ops closed s
  body_found zero parts short line moments last n ops closed s few e =
      let st = step_found parts (body_draft h line moments last n ops closed) s (record { few_cpus = few_cpus; few_timers = few_timers }) refl e in
      absurd (omega (arith, ap length st.cut))
  body_found (suc fuel) parts short line moments last n ops closed s few e =
      let st = step_found parts (body_draft h line moments last n ops closed) s (record { few_cpus = few_cpus; few_timers = few_timers }) refl e in
      step_body parts line moments last n ops closed s st.line st.rest st.said st.cut st.spelled st.room st.fits st.later few
      (λ line moments last n ops closed few e. body_found fuel st.rest (omega (arith, ap length st.cut)) line moments last n ops closed s few e)
