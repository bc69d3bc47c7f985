-- no line of a script has a line feed in it
use Rattle.std.proofs.Common.{◌≡◌, ℕ, ◌^◌, ◌<◌, ◌≤◌, Bool, true, false, cond, eqb, List, [], ◌∷◌, ◌++◌, map, refl, arith}
use Rattle.std.specs.Prelude.{codes, nat_lt}
use Rattle.std.specs.Fmt.{decimal}
use Rattle.std.specs.List.{flat_map, list_all, AllByRecursion}
use Rattle.std.proofs.lemmas.Bool.{and_parts, and_from, ltb-true}
use Rattle.std.proofs.lemmas.List.Folds.{list_all-append}
use Rattle.std.proofs.lemmas.List.Elements.{recursion_from_All}
use Rattle.text_words.specs.Words.{spaced}
use Rattle.text_words.proofs.Cuts.{is_clear, AreClear, AreClear-append}
use Rattle.text_words.proofs.Digits.{clear_decimal}
use Rattle.tm_base.specs.CpuSet.{Cpus}
use Rattle.tm_base.specs.Classes.{class_text}
use Rattle.tm_base.specs.declared.names.Class.{Class}
use Rattle.tm_base.specs.declared.names.Class.TheVariants.{Pinned, Global, Deferrable}
use Rattle.tm_script.specs.declared.syntax.Script.{Script}
use Rattle.tm_script.specs.declared.syntax.Moment.{Moment}
use Rattle.tm_script.specs.declared.syntax.Op.{Op}
use Rattle.tm_script.specs.declared.syntax.What.{What}
use Rattle.tm_script.specs.declared.syntax.What.TheVariants.{Arm, Cancel, Idle, Wake, Offline, Online}
use Rattle.tm_script.specs.Texts.{cpu_count, members, what_line, op_line, moment_lines, number_line, isolated_line, head_lines, script_lines}
use Rattle.tm_script.specs.Grammar.{IsWhat, IsOp, IsMoment, IsScript}
use Rattle.tm_script.proofs.HeadLaws.{few_of_most}
use Rattle.tm_script.proofs.Members.{members_below}

clear_spaced : (first : List ℕ) (ws : List (List ℕ)) → AreClear 10 (first ∷ ws) → is_clear 10 (spaced (first ∷ ws)) ≡ true
clear_spaced first [] h = h.0
clear_spaced first (w ∷ ws) h = rw list_all-append (and_from _ _ h.0 (clear_spaced w ws h.1))

number_clear : (n : ℕ) → n < 10 ^ 13 → is_clear 10 (decimal n) ≡ true
number_clear n wide = clear_decimal 10 n refl (omega arith)

line_clear : (name : List ℕ) (n : ℕ) → is_clear 10 name ≡ true → n < 10 ^ 13 → is_clear 10 (number_line name n) ≡ true
line_clear name n clear wide = clear_spaced name (decimal n ∷ []) (clear, (number_clear n wide, tt))

class_clear : (class : Class) → is_clear 10 (class_text class) ≡ true
class_clear Pinned = refl
class_clear Global = refl
class_clear Deferrable = refl

what_clear : (version timers cpu : ℕ) (what : What) → timers < 10 ^ 13 → cpu < 10 ^ 13 → IsWhat version timers what → is_clear 10 (what_line cpu what) ≡ true
what_clear version timers cpu (Arm timer class delay job arg) few wide form =
    let b2 : timer.0 < 10 ^ 13 = omega (arith, form.timer_in_range) in
    let b3 : delay < 10 ^ 13 = omega (arith, form.delay_in_range) in
    let b4 : job < 10 ^ 13 = omega (arith, form.job_in_range) in
    let b5 : arg < 10 ^ 13 = omega (arith, form.arg_in_range) in
    clear_spaced (codes "arm") (decimal cpu ∷ decimal timer.0 ∷ class_text class ∷ decimal delay ∷ decimal job ∷ decimal arg ∷ [])
    (refl, (number_clear cpu wide, (number_clear timer.0 b2, (class_clear class, (number_clear delay b3, (number_clear job b4, (number_clear arg b5, tt)))))))
what_clear version timers cpu (Cancel timer) few wide form =
    let b2 : timer.0 < 10 ^ 13 = omega (arith, form) in
    clear_spaced (codes "cancel") (decimal cpu ∷ decimal timer.0 ∷ []) (refl, (number_clear cpu wide, (number_clear timer.0 b2, tt)))
what_clear version timers cpu Idle few wide form = line_clear (codes "idle") cpu refl wide
what_clear version timers cpu Wake few wide form = line_clear (codes "wake") cpu refl wide
what_clear version timers cpu Offline few wide form = line_clear (codes "offline") cpu refl wide
what_clear version timers cpu Online few wide form = line_clear (codes "online") cpu refl wide

module _ (version cpus timers : ℕ) (few_cpus : cpus < 10 ^ 13) (few_timers : timers < 10 ^ 13) where
  ops_clear : (os : List Op) → AllByRecursion (IsOp version cpus timers) os → AreClear 10 (map op_line os)
  ops_clear [] h = tt
  ops_clear (o ∷ os) h =
      let wide : o.cpu.0 < 10 ^ 13 = omega (arith, h.0.cpu_in_range) in
      (what_clear version timers o.cpu.0 o.what few_timers wide h.0.what, ops_clear os h.1)

  moments_clear : (ms : List Moment) (end : ℕ) → AllByRecursion (IsMoment version cpus timers) ms → AllByRecursion (λ (x : Moment). x.at ≤ end) ms → end < 10 ^ 13 → AreClear 10 (flat_map moment_lines ms)
  moments_clear [] end h g early = tt
  moments_clear (x ∷ ms) end h g early =
      let wide : x.at < 10 ^ 13 = omega (arith, g.0) in (
        line_clear (codes "at") x.at refl wide,
        AreClear-append 10 (map op_line x.ops) (flat_map moment_lines ms) (ops_clear x.ops (recursion_from_All (IsOp version cpus timers) x.ops h.0.ops)) (moments_clear ms end h.1 g.1 early),
      )

numbers_clear : (bound : ℕ) (ns : List ℕ) → bound < 10 ^ 13 → list_all (λ m. nat_lt m bound) ns ≡ true → AreClear 10 (map decimal ns)
numbers_clear bound [] few e = tt
numbers_clear bound (n ∷ ns) few e =
    let both = and_parts _ _ e in
    (number_clear n (omega (arith, ltb-true n bound both.0)), numbers_clear bound ns few both.1)

isolated_clear : (count : ℕ) (cpus : Cpus) (one : Bool) → count < 10 ^ 13 → AreClear 10 (cond one [] (isolated_line count cpus ∷ []))
isolated_clear count cpus true few = tt
isolated_clear count cpus false few = (clear_spaced (codes "isolated") (map decimal (members count cpus)) (refl, numbers_clear count (members count cpus) few (members_below count cpus)), tt)

-- no line has one
pub script_clear : (s : Script) → IsScript s → AreClear 10 (script_lines s)
script_clear s is =
    let count : cpu_count s < 10 ^ 13 = omega (arith, few_of_most s.version (cpu_count s) is.few_cpus) in
    let timers : s.timers < 10 ^ 13 = omega (arith, is.few_timers) in
    let end : s.end < 10 ^ 13 = omega (arith, is.early_end) in
    AreClear-append 10 (head_lines s) (flat_map moment_lines s.moments ++ number_line (codes "end") s.end ∷ []) (
      line_clear (codes "tmig") s.version refl (omega (arith, is.few_versions)),
      (
        line_clear (codes "nodes") s.nodes refl (omega (arith, is.few_nodes)),
        (line_clear (codes "cpus") s.cpus refl (omega (arith, is.few_node_cpus)), (line_clear (codes "timers") s.timers refl timers, isolated_clear (cpu_count s) s.isolated (eqb s.version 1) count)),
      ),
    )
    (AreClear-append 10 (flat_map moment_lines s.moments) (number_line (codes "end") s.end ∷ [])
    (moments_clear s.version (cpu_count s) s.timers count timers s.moments s.end (recursion_from_All (IsMoment s.version (cpu_count s) s.timers) s.moments is.moments) (recursion_from_All (λ (x : Moment). x.at ≤ s.end) s.moments is.by_the_end) end)
    (line_clear (codes "end") s.end refl end, tt))
