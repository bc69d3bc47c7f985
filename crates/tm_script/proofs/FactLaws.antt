-- what holds of every script of the grammar
use Rattle.std.proofs.Common.{◌≡◌, ℕ, zero, suc, ◌+◌, ◌<◌, ◌≤◌, false, List, [], ◌∷◌, ◌++◌, length, Option, Some, None, sym, ap, subst, ◌∙◌, length-append, arith}
use Rattle.std.specs.Prelude.{codes, slice_get}
use Rattle.std.specs.List.{flat_map, AllByRecursion}
use Rattle.std.proofs.lemmas.Bool.{ltb-true}
use Rattle.std.proofs.lemmas.List.{length-map}
use Rattle.std.proofs.lemmas.List.Elements.{recursion_from_All}
use Rattle.tm_script.specs.declared.syntax.Script.{Script}
use Rattle.tm_script.specs.declared.syntax.Moment.{Moment}
use Rattle.tm_script.specs.declared.syntax.Op.{Op}
use Rattle.tm_script.specs.Texts.{cpu_count, op_line, moment_lines, number_line, head_lines}
use Rattle.tm_script.specs.Grammar.{is_hotplug, IsOp, IsMoment, IsHotplugLast, AreOpsNumbered, AreMomentsNumbered, IsScript}
use Rattle.tm_script.specs.Facts.{MomentFacts, ScriptsHaveFacts}
use Rattle.tm_script.proofs.BodyLaws.{InOrder}
use Rattle.tm_script.proofs.HeadLaws.{few_of_most, some_product}
use Rattle.tm_script.proofs.ScriptLaws.{order_of}

get_all : {X : Type 0} (P : X → Type 0) (xs : List X) (k : ℕ) (x : X) → AllByRecursion P xs → slice_get xs k ≡ Some x → P x
get_all P [] k x h e = absurd cc
get_all P (y ∷ ys) zero x h e = let same : y ≡ x = cc in subst P same h.0
get_all P (y ∷ ys) (suc k) x h e = get_all P ys k x h.1 e

order_next : (last : Option ℕ) (ms : List Moment) (end k : ℕ) (m n : Moment) → InOrder last ms end → slice_get ms k ≡ Some m → slice_get ms (k + 1) ≡ Some n → m.at < n.at
order_next last [] end k m n h e f = absurd cc
order_next last (a ∷ []) end zero m n h e f = absurd cc
order_next last (a ∷ b ∷ ms) end zero m n h e f =
    let first : a ≡ m = cc in
    let second : b ≡ n = cc in
    subst (λ (x : Moment). x.at < n.at) first (subst (λ (y : Moment). a.at < y.at) second (ltb-true a.at b.at h.1.0))
order_next last (a ∷ ms) end (suc k) m n h e f =
    let more : suc k + 1 ≡ suc (k + 1) = omega arith in
    order_next (Some a.at) ms end k m n h.1 e (ap (slice_get (a ∷ ms)) (sym more) ∙ f)

moment_count : (m : Moment) (ms : List Moment) → length (flat_map moment_lines (m ∷ ms)) ≡ suc (length m.ops) + length (flat_map moment_lines ms)
moment_count m ms = length-append (moment_lines m) (flat_map moment_lines ms) ∙ ap (λ (k : ℕ). suc k + length (flat_map moment_lines ms)) (length-map m.ops op_line)

few_moments : (ms : List Moment) → length ms ≤ length (flat_map moment_lines ms)
few_moments [] = omega arith
few_moments (m ∷ ms) = omega (arith, moment_count m ms, few_moments ms)

op_line_at : (line : ℕ) (os : List Op) (i : ℕ) (o : Op) → AreOpsNumbered line os → slice_get os i ≡ Some o → o.line < line + length os
op_line_at line [] i o h e = absurd cc
op_line_at line (a ∷ os) zero o h e =
    let same : a ≡ o = cc in
    subst (λ (x : Op). x.line < line + suc (length os)) same (omega (arith, h.0))
op_line_at line (a ∷ os) (suc i) o h e = omega (arith, op_line_at (line + 1) os i o h.1 e)

line_at : (line : ℕ) (ms : List Moment) (k i : ℕ) (m : Moment) (o : Op) → AreMomentsNumbered line ms → slice_get ms k ≡ Some m → slice_get m.ops i ≡ Some o → o.line < line + length (flat_map moment_lines ms)
line_at line [] k i m o h e f = absurd cc
line_at line (a ∷ ms) zero i m o h e f =
    let same : a ≡ m = cc in
    omega (arith, moment_count a ms, op_line_at (line + 1) a.ops i o h.0 (ap (λ (x : Moment). slice_get x.ops i) same ∙ f))
line_at line (a ∷ ms) (suc k) i m o h e f = omega (arith, moment_count a ms, line_at (line + 1 + length a.ops) ms k i m o h.1 e f)

hotplug_at : (os : List Op) (i : ℕ) (o : Op) → IsHotplugLast os → slice_get os i ≡ Some o → i + 1 < length os → is_hotplug o.what ≡ false
hotplug_at [] i o h e more = absurd cc
hotplug_at (a ∷ []) i o h e more = absurd (omega arith)
hotplug_at (a ∷ b ∷ os) zero o h e more = let same : a ≡ o = cc in subst (λ (x : Op). is_hotplug x.what ≡ false) same h.0
hotplug_at (a ∷ b ∷ os) (suc i) o h e more = hotplug_at (b ∷ os) i o h.1 e (omega arith)

moment_facts : (s : Script) → IsScript s → (k : ℕ) (m : Moment) → slice_get s.moments k ≡ Some m → MomentFacts s k m
moment_facts s is k m e =
    let moments = recursion_from_All (IsMoment s.version (cpu_count s) s.timers) s.moments is.moments in
    let is_moment = get_all (IsMoment s.version (cpu_count s) s.timers) s.moments k m moments e in
    let by_the_end = get_all (λ (x : Moment). x.at ≤ s.end) s.moments k m (recursion_from_All (λ (x : Moment). x.at ≤ s.end) s.moments is.by_the_end) e in
    let ops = recursion_from_All (IsOp s.version (cpu_count s) s.timers) m.ops is_moment.ops in
    let count = length-append (head_lines s) (flat_map moment_lines s.moments ++ number_line (codes "end") s.end ∷ []) in
    let more = length-append (flat_map moment_lines s.moments) (number_line (codes "end") s.end ∷ []) in
    record {
      in_time = omega (arith, by_the_end, is.early_end);
      by_the_end = by_the_end;
      later = λ n f. order_next None s.moments s.end k m n (order_of s is) e f;
      few_ops = is_moment.few_ops;
      op = λ i o f. get_all (IsOp s.version (cpu_count s) s.timers) m.ops i o ops f;
      line = λ i o f. omega (arith, line_at (length (head_lines s) + 1) s.moments k i m o is.numbered e f, count, more, is.few_lines);
      hotplug_last = λ i o f g. hotplug_at m.ops i o is_moment.hotplug_last f g;
    }

pub scripts_have_facts : ScriptsHaveFacts
scripts_have_facts s is =
    let count = length-append (head_lines s) (flat_map moment_lines s.moments ++ number_line (codes "end") s.end ∷ []) in
    let more = length-append (flat_map moment_lines s.moments) (number_line (codes "end") s.end ∷ []) in
    record {
      some_cpus = some_product s.nodes s.cpus is.some_nodes is.some_cpus;
      few_cpus = few_of_most s.version (cpu_count s) is.few_cpus;
      few_moments = omega (arith, few_moments s.moments, count, more, is.few_lines);
      moment = moment_facts s is;
    }
