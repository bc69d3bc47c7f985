-- for crates above: the lines of a machine, read as a script's
use Rattle.std.proofs.Common.{◌≡◌, ℕ, zero, suc, ◌+◌, ◌*◌, ◌^◌, ◌<◌, ◌≤◌, Bool, true, false, cond, eqb, List, [], ◌∷◌, ◌++◌, drop, map, filter, length, Err, refl, sym, ap, subst, ◌∙◌, arith, inl, inr, append_assoc}
use Rattle.std.specs.Prelude.{codes, slice_index_or}
use Rattle.std.specs.Fmt.{decimal}
use Rattle.std.specs.FinSet.{contains}
use Rattle.std.specs.List.{flat_map, join_with_byte, onto_first, range_with_len}
use Rattle.std.proofs.lemmas.Bool.{and_from, cases_Bool, cond-true, cond-false, eqb-true, not_from_false, true≢false}
use Rattle.std.proofs.lemmas.Fmt.{decimal_digit}
use Rattle.std.proofs.lemmas.List.Folds.{list_all-append}
use Rattle.std.proofs.lemmas.List.Splits.{join_with_byte-slice_split}
use Rattle.std.proofs.lemmas.Option.{same_Some}
use Rattle.text_words.specs.Numbers.{number_of, value_of}
use Rattle.text_words.specs.Words.{ended, lines_of, spaced, split}
use Rattle.text_words.proofs.Cuts.{AreClear, is_clear, lines_again, split_again, split_some, words_again}
use Rattle.text_words.proofs.Digits.{clear_decimal, number_again, word_again}
use Rattle.tm_base.specs.CpuSet.{Cpus}
use Rattle.tm_base.specs.declared.limits.TheConstants.{MOST_CPUS_V2}
use Rattle.tm_script.specs.declared.faults.Kind.TheVariants.{BadLine}
use Rattle.tm_script.specs.declared.syntax.Script.{Script}
use Rattle.tm_script.specs.Faults.{fault_of}
use Rattle.tm_script.specs.Grammar.{IsScript, Spells as SpellsScript, most_cpus}
use Rattle.tm_script.specs.Texts.{cpu_count as script_cpus, isolated_line, members, moment_lines, number_line, script_text}
use Rattle.trace_text.specs.declared.answers.ReadTrace.{ReadTrace}
use Rattle.trace_text.specs.declared.answers.ReadTrace.TheVariants.{Refused, NoMemory}
use Rattle.trace_text.specs.declared.traces.Trace.{Trace}
use Rattle.trace_text.specs.declared.traces.TraceLine.{TraceLine}
use Rattle.trace_text.specs.Texts.{as_script, machine_lines}
use Rattle.trace_text.specs.Reading.{trace_closing, trace_fault_at}
use Rattle.trace_text.specs.Faults.{fault_behind, limits_by, machine_front, machine_text, number_behind}
use Rattle.trace_text.specs.Steps.{FailsAsScript, FailsBehind, with_front}

-- ---- behind the end

closing_onto : (n b : ℕ) (ps : List (List ℕ)) → trace_closing n (onto_first b ps) ≡ Err (trace_fault_at n BadLine)
closing_onto n b [] = refl
closing_onto n b (p ∷ ps) = refl

closing_more : (n b : ℕ) (bs : List ℕ) → trace_closing n (lines_of (b ∷ bs)) ≡ Err (trace_fault_at n BadLine)
closing_more n b bs =
    let some = split_some 10 bs in
    elim (cases_Bool (eqb b 10)) [
      | inl feed ↦ ap (trace_closing n) (cond-true (eqb b 10) _ _ feed) ∙ ap (λ (ps : List (List ℕ)). trace_closing n ([] ∷ ps)) some.2
      | inr other ↦ ap (trace_closing n) (cond-false (eqb b 10) _ _ other) ∙ closing_onto n b (lines_of bs)
    ]

pub closing_some : (front : List TraceLine) (n : ℕ) (rest : List ℕ) → false ≡ eqb (length rest) 0
    → with_front front (trace_closing n (lines_of rest)) ≡ Err (trace_fault_at n BadLine)
closing_some front n [] e = absurd (true≢false (sym e))
closing_some front n (b ∷ bs) e = ap (with_front front) (closing_more n b bs)

-- ---- a text that ends before there are four lines

front_is : (bytes : List ℕ) → machine_front (lines_of bytes) ≡ codes "tmig 2" ++ 10 ∷ bytes
front_is bytes =
    let some = split_some 10 bytes in
    ap (λ (ps : List (List ℕ)). join_with_byte 10 (codes "tmig 2" ∷ ps)) some.2
    ∙ ap (λ (r : List ℕ). codes "tmig 2" ++ 10 ∷ r) (ap (join_with_byte 10) (sym some.2) ∙ join_with_byte-slice_split 10 bytes)

few_fault : (parts : List (List ℕ)) → length parts ≤ 4 → fault_behind parts ≡ fault_of (machine_front parts)
few_fault [] h = refl
few_fault (a ∷ []) h = refl
few_fault (a ∷ b ∷ []) h = refl
few_fault (a ∷ b ∷ c ∷ []) h = refl
few_fault (a ∷ b ∷ c ∷ d ∷ []) h = refl
few_fault (a ∷ b ∷ c ∷ d ∷ e ∷ ps) h = absurd (omega (arith, h))

pub refused_front : (bytes text : List ℕ) (fault : ReadTrace) → length (lines_of bytes) ≤ 4 → text ≡ codes "tmig 2" ++ 10 ∷ bytes
    → FailsAsScript text fault → FailsBehind (lines_of bytes) fault
refused_front bytes text NoMemory few is h = tt
refused_front bytes text (Refused fault) few is h =
    few_fault (lines_of bytes) few ∙ ap fault_of (front_is bytes ∙ sym is) ∙ h

-- ---- lines without line feeds

onto_clear : (c b : ℕ) (ps : List (List ℕ)) → eqb b c ≡ false → AreClear c ps → AreClear c (onto_first b ps)
onto_clear c b [] other h = (and_from _ _ (not_from_false _ other) refl, tt)
onto_clear c b (p ∷ ps) other h = (and_from _ _ (not_from_false _ other) h.0, h.1)

pub parts_clear : (c : ℕ) (bytes : List ℕ) → AreClear c (split c bytes)
parts_clear c [] = (refl, tt)
parts_clear c (b ∷ bs) =
    elim (cases_Bool (eqb b c)) [
      | inl here ↦ subst (AreClear c) (sym (cond-true (eqb b c) ([] ∷ split c bs) (onto_first b (split c bs)) here)) (refl, parts_clear c bs)
      | inr other ↦ subst (AreClear c) (sym (cond-false (eqb b c) ([] ∷ split c bs) (onto_first b (split c bs)) other)) (onto_clear c b (split c bs) other (parts_clear c bs))
    ]

clear_spaced : (first : List ℕ) (ws : List (List ℕ)) → AreClear 10 (first ∷ ws) → is_clear 10 (spaced (first ∷ ws)) ≡ true
clear_spaced first [] h = h.0
clear_spaced first (w ∷ ws) h = rw list_all-append (and_from _ _ h.0 (clear_spaced w ws h.1))

pub number_clear : (name : List ℕ) (n : ℕ) → is_clear 10 name ≡ true → n < 10 ^ 13 → is_clear 10 (number_line name n) ≡ true
number_clear name n clear wide = clear_spaced name (decimal n ∷ []) (clear, (clear_decimal 10 n refl (omega (arith, wide)), tt))

below_clear : (p : ℕ → Bool) (first n : ℕ) → first + n < 10 ^ 13 → AreClear 10 (map decimal (filter p (range_with_len first n)))
below_clear p first zero wide = tt
below_clear p first (suc n) wide =
    let rest = below_clear p (first + 1) n (omega (arith, wide)) in
    elim (cases_Bool (p first)) [
      | inl here ↦ subst (λ (ns : List ℕ). AreClear 10 (map decimal ns)) (sym (cond-true (p first) _ _ here)) (clear_decimal 10 first refl (omega (arith, wide)), rest)
      | inr out ↦ subst (λ (ns : List ℕ). AreClear 10 (map decimal ns)) (sym (cond-false (p first) _ _ out)) rest
    ]

pub isolated_clear : (count : ℕ) (cpus : Cpus) → count < 10 ^ 13 → is_clear 10 (isolated_line count cpus) ≡ true
unfolding members
isolated_clear count cpus wide =
    clear_spaced (codes "isolated") (map decimal (members count cpus)) (refl, below_clear (contains cpus) 0 count (omega (arith, wide)))

-- ---- the machine of a script

pub few_of_most : (version count : ℕ) → count ≤ most_cpus version → count ≤ MOST_CPUS_V2
few_of_most version count h = by (eqb version 1) refl
  where
    by : (t : Bool) → eqb version 1 ≡ t → count ≤ MOST_CPUS_V2
    by true is = let same : most_cpus version ≡ most_cpus 1 = ap most_cpus (eqb-true version 1 is) in omega (arith, h, same)
    by false is = let same : most_cpus version ≡ MOST_CPUS_V2 = cond-false (eqb version 1) _ _ is in omega (arith, h, same)

pub record IsShort (s : Script) : Type 0 where
  pub version : s.version < 10 ^ 13
  pub nodes : s.nodes < 10 ^ 13
  pub cpus : s.cpus < 10 ^ 13
  pub count : script_cpus s < 10 ^ 13
  pub timers : s.timers < 10 ^ 13

pub short_of : (s : Script) → IsScript s → IsShort s
short_of s is = record {
  version = omega (arith, is.few_versions);
  nodes = omega (arith, is.few_nodes);
  cpus = omega (arith, is.few_node_cpus);
  count = (let few = few_of_most s.version (script_cpus s) is.few_cpus in omega (arith, few));
  timers = omega (arith, is.few_timers);
}

pub two : number_line (codes "tmig") 2 ≡ codes "tmig 2"
two = ap (λ (d : List ℕ). spaced (codes "tmig" ∷ d ∷ [])) (decimal_digit 2 (omega arith))

pub none : number_line (codes "end") 0 ≡ codes "end 0"
none = ap (λ (d : List ℕ). spaced (codes "end" ∷ d ∷ [])) (decimal_digit 0 (omega arith))

-- the script of a trace's machine is spelled by its lines
pub machine_spelled : (t : Trace) → IsScript (as_script t) → SpellsScript (machine_text (machine_lines t)) (as_script t)
machine_spelled t is = (is, λ i. flat_map ended (two i ∷ (machine_lines t ++ none i ∷ [])))

-- a line without line feeds is the first of a text
peeled : (line : List ℕ) (ls : List (List ℕ)) → is_clear 10 line ≡ true → lines_of (flat_map ended (line ∷ ls)) ≡ line ∷ lines_of (flat_map ended ls)
peeled line ls clear = ap lines_of (append_assoc line (10 ∷ []) (flat_map ended ls)) ∙ split_again 10 line (flat_map ended ls) clear

pub both : {x y : List ℕ} {xs ys : List (List ℕ)} → x ∷ xs ≡ y ∷ ys → (x ≡ y) × (xs ≡ ys)
both e = (ap first e, ap rest e)
  where
    first : List (List ℕ) → List ℕ
    first [] = []
    first (z ∷ zs) = z

    rest : List (List ℕ) → List (List ℕ)
    rest [] = []
    rest (z ∷ zs) = zs

behind_machine : Script → List (List ℕ)
behind_machine s = flat_map moment_lines s.moments ++ number_line (codes "end") s.end ∷ []

-- the lines of a script's text begin with those of its machine
record HasMachine (s : Script) (parts : List (List ℕ)) : Type 0 where
  pub version : s.version ≡ 2
  pub rest : List (List ℕ)
  pub parts_are : parts ≡ number_line (codes "nodes") s.nodes ∷ number_line (codes "cpus") s.cpus ∷ number_line (codes "timers") s.timers
      ∷ isolated_line (script_cpus s) s.isolated ∷ rest

module _ (s : Script) (is : IsScript s) where
  short : IsShort s
  short = short_of s is

  tail : Bool → List (List ℕ)
  tail one = cond one [] (isolated_line (script_cpus s) s.isolated ∷ []) ++ behind_machine s

  lines_are : lines_of (script_text s) ≡ number_line (codes "tmig") s.version ∷ number_line (codes "nodes") s.nodes ∷ number_line (codes "cpus") s.cpus
      ∷ number_line (codes "timers") s.timers ∷ lines_of (flat_map ended (tail (eqb s.version 1)))
  unfolding tail behind_machine
  lines_are =
      let v = number_line (codes "tmig") s.version in
      let n = number_line (codes "nodes") s.nodes in
      let c = number_line (codes "cpus") s.cpus in
      let t = number_line (codes "timers") s.timers in
      let r = tail (eqb s.version 1) in
      peeled v (n ∷ c ∷ t ∷ r) (number_clear (codes "tmig") s.version refl short.version)
      ∙ ap (λ (ps : List (List ℕ)). v ∷ ps) (peeled n (c ∷ t ∷ r) (number_clear (codes "nodes") s.nodes refl short.nodes)
      ∙ ap (λ (ps : List (List ℕ)). n ∷ ps) (peeled c (t ∷ r) (number_clear (codes "cpus") s.cpus refl short.cpus)
      ∙ ap (λ (ps : List (List ℕ)). c ∷ ps) (peeled t r (number_clear (codes "timers") s.timers refl short.timers))))

  version_is : number_line (codes "tmig") s.version ≡ codes "tmig 2" → s.version ≡ 2
  version_is e =
      let digits : decimal s.version ≡ decimal 2 = ap (drop 5) e ∙ sym (decimal_digit 2 (omega arith)) in
      same_Some s.version 2 (sym (number_again s.version short.version) ∙ (ap number_of digits ∙ number_again 2 (omega arith)))

  tail_is : s.version ≡ 2 → lines_of (flat_map ended (tail (eqb s.version 1))) ≡ isolated_line (script_cpus s) s.isolated ∷ lines_of (flat_map ended (behind_machine s))
  unfolding tail
  tail_is e =
      ap (λ (v : ℕ). lines_of (flat_map ended (tail (eqb v 1)))) e
      ∙ peeled (isolated_line (script_cpus s) s.isolated) (behind_machine s) (isolated_clear (script_cpus s) s.isolated short.count)

  machine_of : (parts : List (List ℕ)) → lines_of (script_text s) ≡ codes "tmig 2" ∷ parts → HasMachine s parts
  machine_of parts e =
      let b = both (sym lines_are ∙ e) in
      let v = version_is b.0 in
      record {
        version = v;
        rest = lines_of (flat_map ended (behind_machine s));
        parts_are = sym b.1 ∙ (λ i. number_line (codes "nodes") s.nodes ∷ number_line (codes "cpus") s.cpus ∷ number_line (codes "timers") s.timers ∷ tail_is v i);
      }

-- what the lines of a machine say
pub record IsMachine (a b c d : List ℕ) (s : Script) : Type 0 where
  pub version : s.version ≡ 2
  pub nodes : a ≡ number_line (codes "nodes") s.nodes
  pub cpus : b ≡ number_line (codes "cpus") s.cpus
  pub timers : c ≡ number_line (codes "timers") s.timers
  pub isolated : d ≡ isolated_line (script_cpus s) s.isolated

pub machine_found : (a b c d : List ℕ) (s : Script) → AreClear 10 (a ∷ b ∷ c ∷ d ∷ []) → SpellsScript (machine_text (a ∷ b ∷ c ∷ d ∷ [])) s → IsMachine a b c d s
machine_found a b c d s clear spells =
    let h = machine_of s spells.0 (a ∷ b ∷ c ∷ d ∷ codes "end 0" ∷ [] ∷ [])
    (ap lines_of spells.1 ∙ lines_again (codes "tmig 2" ∷ a ∷ b ∷ c ∷ d ∷ codes "end 0" ∷ []) (refl, (clear.0, (clear.1.0, (clear.1.1.0, (clear.1.1.1.0, (refl, tt))))))) in
    let n = both h.parts_are in
    let p = both n.1 in
    let t = both p.1 in
    let i = both t.1 in
    record { version = h.version; nodes = n.0; cpus = p.0; timers = t.0; isolated = i.0 }

-- ---- the numbers of a machine

number_is : (name : List ℕ) (n : ℕ) → is_clear 32 name ≡ true → n < 10 ^ 13 → number_behind (number_line name n) ≡ n
number_is name n clear wide =
    ap (λ (ws : List (List ℕ)). value_of (slice_index_or ws 1 [])) (words_again name (decimal n ∷ []) (clear, (clear_decimal 32 n refl (omega (arith, wide)), tt)))
    ∙ (word_again n wide).1

pub limits_are : (a b c d : List ℕ) (s : Script) → IsScript s → IsMachine a b c d s → limits_by a b c ≡ record { cpus = script_cpus s; timers = s.timers }
limits_are a b c d s is m =
    let short = short_of s is in
    let n = ap number_behind m.nodes ∙ number_is (codes "nodes") s.nodes refl short.nodes in
    let p = ap number_behind m.cpus ∙ number_is (codes "cpus") s.cpus refl short.cpus in
    let t = ap number_behind m.timers ∙ number_is (codes "timers") s.timers refl short.timers in
    λ i. record { cpus = n i * p i; timers = t i }
