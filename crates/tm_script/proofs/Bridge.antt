-- what the code reads in a line is what the line is judged to say
use Rattle.std.proofs.Common.{◌≡◌, ℕ, ◌+◌, ◌*◌, ◌^◌, Bool, true, false, cond, not, ◌&&◌, ◌||◌, eqb, ltb, leb, List, [], ◌∷◌, map, Option, Some, None, is_some, Result, Ok, Err, refl, sym, ap, ◌∙◌, arith}
use Rattle.std.specs.Prelude.{codes}
use Rattle.std.specs.List.{list_any, list_all}
use Rattle.std.specs.Str.{bytes_eq}
use Rattle.std.specs.FinSet.{from_list}
use Rattle.std.proofs.lemmas.Bool.{le-leb}
use Rattle.std.proofs.lemmas.Slice.Eq.{bytes_eq-Decides}
use Rattle.text_words.specs.Numbers.{is_number, value_of}
use Rattle.tm_base.specs.CpuSet.{Cpus as CpuNumbers}
use Rattle.tm_base.specs.declared.names.Class.{Class}
use Rattle.tm_base.specs.declared.names.Class.TheVariants.{Pinned, Global, Deferrable}
use Rattle.tm_base.specs.declared.limits.TheConstants.{MOST_NODES, MOST_NODE_CPUS, MOST_TIMERS, SCRIPT_TIME_LIMIT}
use Rattle.tm_script.specs.declared.faults.Kind.{Kind}
use Rattle.tm_script.specs.declared.faults.Kind.TheVariants.{BadLine, BadNumber, OutOfRange, OutOfOrder, TooManyLines}
use Rattle.tm_script.specs.declared.syntax.What.TheVariants as what
use Rattle.tm_script.specs.declared.known.Command.{Command}
use Rattle.tm_script.specs.declared.known.Command.TheVariants.{Tmig, Nodes, Cpus, Timers, Isolated, At, End, Arm, Cancel, Idle, Wake, Offline, Online}
use Rattle.tm_script.specs.declared.known.Known.{Known}
use Rattle.tm_script.specs.declared.known.Said.{Said}
use Rattle.tm_script.specs.declared.known.Said.TheVariants.{Version, NodeCount, CpuCount, TimerCount, IsolatedCpus, Opening, Operation, Ending}
use Rattle.tm_script.specs.Grammar.{most_cpus}
use Rattle.tm_script.specs.Judge.{may_stand, cpu, rise, leaves_some, slots, class_words, all_pass, is_choice, is_spelled, is_within, is_machine, is_in_order, is_in_room, kind_behind}
use Rattle.tm_script.specs.Faults.{command_of, class_named, said_behind, said_or, heard_behind, heard}
use Rattle.tm_script.proofs.Rows.{bind_cond, bind_row, cond_and, number_step, within_step}
use Rattle.tm_script.proofs.IsolatedLaws.{isolated_tests}
use Rattle.tm_script.specs.Reading.{◌>>=◌, number_in, version_in, class_in, within, arm_parts, count_in, arm_in, cancel_in, field_in, cpus_in, cpu_in, words_in, admitted, line_behind, line_in}

-- ---- tests in a row

abbrev pub Heard : Type 0
Heard = Result Said Kind

-- the tests of a judgement, one behind the other
abbrev pub tested : Bool → Bool → Bool → Heard → Heard
tested a b c then_said = cond a (cond b (cond c then_said (Err OutOfRange)) (Err BadNumber)) (Err BadLine)

abbrev pub settled : Bool → Bool → Said → Heard
settled d e said = cond (not d) (Err OutOfOrder) (cond (not e) (Err TooManyLines) (Ok said))

pub in_a_row : (a b c d e : Bool) (s : Said)
    → said_or (cond (not a) (Some BadLine) (cond (not b) (Some BadNumber) (cond (not c) (Some OutOfRange) (cond (not d) (Some OutOfOrder) (cond (not e) (Some TooManyLines) None))))) s
    ≡ tested a b c (settled d e s)
in_a_row false b c d e s = refl
in_a_row true false c d e s = refl
in_a_row true true false d e s = refl
in_a_row true true true false e s = refl
in_a_row true true true true false s = refl
in_a_row true true true true true s = refl

-- how a line is judged whose first word may stand there
abbrev judged : Known → Command → List (List ℕ) → Heard
judged k c ws =
    tested (all_pass is_choice (slots k c ws) ws) (all_pass is_spelled (slots k c ws) ws) (all_pass is_within (slots k c ws) ws && is_machine k c (map value_of ws))
    (settled (is_in_order k c (map value_of ws)) (is_in_room k c) (said_behind c ws))

judged-behind : (k : Known) (c : Command) (ws : List (List ℕ)) → may_stand k.place (is_some k.last) c ≡ true → heard_behind k (Some c) ws ≡ judged k c ws
unfolding kind_behind
judged-behind k c ws stands =
    in_a_row (may_stand k.place (is_some k.last) c && all_pass is_choice (slots k c ws) ws) _ _ _ _ (said_behind c ws)
    ∙ ap (λ (t : Bool). tested (t && all_pass is_choice (slots k c ws) ws) (all_pass is_spelled (slots k c ws) ws) (all_pass is_within (slots k c ws) ws && is_machine k c (map value_of ws)) (settled (is_in_order k c (map value_of ws)) (is_in_room k c) (said_behind c ws))) stands

misplaced : (k : Known) (c : Command) (ws : List (List ℕ)) → may_stand k.place (is_some k.last) c ≡ false → heard_behind k (Some c) ws ≡ Err BadLine
unfolding kind_behind
misplaced k c ws out =
    in_a_row (may_stand k.place (is_some k.last) c && all_pass is_choice (slots k c ws) ws) _ _ _ _ (said_behind c ws)
    ∙ ap (λ (t : Bool). tested (t && all_pass is_choice (slots k c ws) ws) (all_pass is_spelled (slots k c ws) ws) (all_pass is_within (slots k c ws) ws && is_machine k c (map value_of ws)) (settled (is_in_order k c (map value_of ws)) (is_in_room k c) (said_behind c ws))) out

-- ---- one number

-- a number alone, within its limits
field_step : (least bound : ℕ) (w : List ℕ) (f : ℕ → Heard) → field_in least bound (w ∷ []) >>= f ≡ cond (is_number w) (cond (leb least (value_of w) && ltb (value_of w) bound) (f (value_of w)) (Err OutOfRange)) (Err BadNumber)
unfolding field_in
field_step least bound w f =
    ap (λ (r : Result ℕ Kind). r >>= f) (number_step w (within least bound))
    ∙ bind_row (is_number w) (within least bound (value_of w)) BadNumber f
    ∙ ap (λ (r : Heard). cond (is_number w) r (Err BadNumber)) (within_step least bound (value_of w) f)

and_true : (b : Bool) → (b && true) ≡ b
and_true true = refl
and_true false = refl

-- the same as it is judged
field_judged : (n l h m : Bool) (said : Heard) → cond n (cond (l && h) (cond m said (Err OutOfRange)) (Err OutOfRange)) (Err BadNumber) ≡ tested true (n && true) (((l && h) && true) && m) said
field_judged n l h m said =
    (λ i. cond (sym (and_true n) i) (sym (cond_and ((l && h)) m said (Err OutOfRange)) i) (Err BadNumber))
    ∙ (λ i. cond (n && true) (cond (sym (and_true (l && h)) i && m) said (Err OutOfRange)) (Err BadNumber))

module _ (k : Known) where
  one_number : (least bound : ℕ) (f : ℕ → Said) (w : List ℕ) (said : Heard) → said ≡ admitted k (f (value_of w))
      → field_in least bound (w ∷ []) >>= (λ n. Ok (f n)) >>= admitted k ≡ tested true (is_number w && true) (((leb least (value_of w) && ltb (value_of w) bound) && true) && true) said
  one_number least bound f w said is =
      ap (λ (r : Heard). r >>= admitted k) (field_step least bound w (λ n. Ok (f n)))
      ∙ bind_row (is_number w) _ BadNumber (admitted k)
      ∙ ap (λ (r : Heard). cond (is_number w) r (Err BadNumber)) (bind_cond (leb least (value_of w) && ltb (value_of w) bound) (f (value_of w)) OutOfRange (admitted k))
      ∙ (λ i. cond (is_number w) (cond (leb least (value_of w) && ltb (value_of w) bound) (sym is i) (Err OutOfRange)) (Err BadNumber))
      ∙ field_judged (is_number w) (leb least (value_of w)) (ltb (value_of w) bound) true said

  -- ---- several numbers

  one_more : (w : List ℕ) (f : ℕ → Heard) (then_said : Heard) → f (value_of w) >>= admitted k ≡ then_said → number_in w >>= f >>= admitted k ≡ cond (is_number w) then_said (Err BadNumber)
  one_more w f then_said e =
      ap (λ (r : Heard). r >>= admitted k) (number_step w f) ∙ bind_row (is_number w) (f (value_of w)) BadNumber (admitted k)
      ∙ ap (λ (r : Heard). cond (is_number w) r (Err BadNumber)) e

  -- a number needs no test that it is 0 or more
  from_zero : (n bound : ℕ) → ltb n bound ≡ (leb 0 n && ltb n bound)
  from_zero n bound = ap (λ (t : Bool). t && ltb n bound) (sym (le-leb 0 n (omega arith)))

  two_numbers : (a b p q : Bool) (said : Heard) → cond a (cond b (cond (p && q) said (Err OutOfRange)) (Err BadNumber)) (Err BadNumber) ≡ tested true (a && (b && true)) ((p && (q && true)) && true) said
  two_numbers false b p q said = refl
  two_numbers true false p q said = refl
  two_numbers true true false q said = refl
  two_numbers true true true false said = refl
  two_numbers true true true true said = refl

  cancel_told : (v w : List ℕ) → cancel_in k (v ∷ w ∷ []) >>= admitted k ≡ judged k Cancel (v ∷ w ∷ [])
  unfolding cancel_in said_behind
  cancel_told v w =
      let said : Said = Operation (record { 0 = value_of v }) (what.Cancel (record { 0 = value_of w })) in
      one_more v _ _ (one_more w _ _ (bind_cond (ltb (value_of v) (count_in k) && ltb (value_of w) k.timers) said OutOfRange (admitted k)))
      ∙ two_numbers (is_number v) (is_number w) (ltb (value_of v) (count_in k)) (ltb (value_of w) k.timers) (admitted k said)
      ∙ (λ i. tested true (is_number v && (is_number w && true)) ((from_zero (value_of v) (count_in k) i && (from_zero (value_of w) k.timers i && true)) && true) (admitted k said))

  five_numbers : (a b c d e p q r s t : Bool) (said : Heard)
      → cond a (cond b (cond c (cond d (cond e (cond (p && q && r && s && t) said (Err OutOfRange)) (Err BadNumber)) (Err BadNumber)) (Err BadNumber)) (Err BadNumber)) (Err BadNumber)
      ≡ cond (a && (b && (c && (d && (e && true))))) (cond ((p && (q && (r && (s && (t && true))))) && true) said (Err OutOfRange)) (Err BadNumber)
  five_numbers false b c d e p q r s t said = refl
  five_numbers true false c d e p q r s t said = refl
  five_numbers true true false d e p q r s t said = refl
  five_numbers true true true false e p q r s t said = refl
  five_numbers true true true true false p q r s t said = refl
  five_numbers true true true true true false q r s t said = refl
  five_numbers true true true true true true false r s t said = refl
  five_numbers true true true true true true true false s t said = refl
  five_numbers true true true true true true true true false t said = refl
  five_numbers true true true true true true true true true false said = refl
  five_numbers true true true true true true true true true true said = refl

  class_row : (p g d one : Bool) (f : Class → Heard) → cond p (Ok Pinned) (cond g (Ok Global) (cond (not one && d) (Ok Deferrable) (Err BadLine))) >>= f
      ≡ cond (p || (g || list_any (λ x. d) (cond one [] (codes "deferrable" ∷ [])))) (f (cond p Pinned (cond g Global Deferrable))) (Err BadLine)
  class_row true g d one f = refl
  class_row false true d one f = refl
  class_row false false d true f = refl
  class_row false false true false f = refl
  class_row false false false false f = refl

  any_deferrable : (word : List ℕ) (one : Bool) → list_any (λ x. bytes_eq word (codes "deferrable")) (cond one [] (codes "deferrable" ∷ [])) ≡ list_any (bytes_eq word) (cond one [] (codes "deferrable" ∷ []))
  any_deferrable word true = refl
  any_deferrable word false = refl

  class_step : (version : ℕ) (word : List ℕ) (f : Class → Heard) → class_in version word >>= f ≡ cond (list_any (bytes_eq word) (class_words version)) (f (class_named word)) (Err BadLine)
  unfolding class_in class_named
  class_step version word f =
      class_row (bytes_eq word (codes "pinned")) (bytes_eq word (codes "global")) (bytes_eq word (codes "deferrable")) (eqb version 1) f
      ∙ (λ i. cond (bytes_eq word (codes "pinned") || (bytes_eq word (codes "global") || any_deferrable word (eqb version 1) i)) (f (cond (bytes_eq word (codes "pinned")) Pinned (cond (bytes_eq word (codes "global")) Global Deferrable))) (Err BadLine))

  arm_numbers : Class → List ℕ → List ℕ → List ℕ → List ℕ → List ℕ → Heard
  arm_numbers class c t d j a =
      number_in c >>= λ cpu. number_in t >>= λ timer. number_in d >>= λ delay. number_in j >>= λ job. number_in a >>= λ arg.
      cond (ltb cpu (count_in k) && ltb timer k.timers && ltb delay (2 ^ 32) && ltb job 256 && ltb arg (2 ^ 32))
      (Ok (Operation (record { 0 = cpu }) (what.Arm (record { 0 = timer }) class delay job arg))) (Err OutOfRange)

  arm_told : (c t class d j a : List ℕ) → arm_in k (c ∷ t ∷ class ∷ d ∷ j ∷ a ∷ []) >>= admitted k ≡ judged k Arm (c ∷ t ∷ class ∷ d ∷ j ∷ a ∷ [])
  unfolding arm_in arm_parts said_behind arm_numbers
  arm_told c t class d j a =
      let said : Said = Operation (record { 0 = value_of c }) (what.Arm (record { 0 = value_of t }) (class_named class) (value_of d) (value_of j) (value_of a)) in
      let choice = list_any (bytes_eq class) (class_words k.version) in
      ap (λ (r : Heard). r >>= admitted k) (class_step k.version class (λ x. arm_numbers x c t d j a))
      ∙ bind_row choice (arm_numbers (class_named class) c t d j a) BadLine (admitted k)
      ∙ ap (λ (r : Heard). cond choice r (Err BadLine))
      (one_more c _ _ (one_more t _ _ (one_more d _ _ (one_more j _ _ (one_more a _ _
      (bind_cond (ltb (value_of c) (count_in k) && ltb (value_of t) k.timers && ltb (value_of d) (2 ^ 32) && ltb (value_of j) 256 && ltb (value_of a) (2 ^ 32)) said OutOfRange (admitted k))))))
      ∙ five_numbers (is_number c) (is_number t) (is_number d) (is_number j) (is_number a) (ltb (value_of c) (count_in k)) (ltb (value_of t) k.timers) (ltb (value_of d) (2 ^ 32)) (ltb (value_of j) 256) (ltb (value_of a) (2 ^ 32)) (admitted k said))
      ∙ (λ i. tested (sym (and_true choice) i) (is_number c && (is_number t && (is_number d && (is_number j && (is_number a && true)))))
      ((from_zero (value_of c) (count_in k) i && (from_zero (value_of t) k.timers i && (from_zero (value_of d) (2 ^ 32) i && (from_zero (value_of j) 256 i && (from_zero (value_of a) (2 ^ 32) i && true))))) && true) (admitted k said))

  -- ---- the version

  version_row : (word : List ℕ) (one two : Bool) → bytes_eq word (codes "1") ≡ one → bytes_eq word (codes "2") ≡ two
      → cond one (Ok 1) (cond two (Ok 2) (Err BadLine)) >>= (λ n. Ok (Version n)) >>= admitted k ≡ tested ((one || (two || false)) && true) true true (admitted k (Version (value_of word)))
  unfolding value_of
  version_row word true two e f = ap (λ (w : List ℕ). admitted k (Version (value_of w))) (sym ((bytes_eq-Decides word (codes "1")).0 e))
  version_row word false true e f = ap (λ (w : List ℕ). admitted k (Version (value_of w))) (sym ((bytes_eq-Decides word (codes "2")).0 f))
  version_row word false false e f = refl

  -- ---- the isolated CPUs

  pub choices_pass : (ws : List (List ℕ)) → all_pass is_choice (map (λ word. cpu k) ws) ws ≡ true
  choices_pass [] = refl
  choices_pass (w ∷ ws) = choices_pass ws

  pub numbers_pass : (ws : List (List ℕ)) → all_pass is_spelled (map (λ word. cpu k) ws) ws ≡ list_all is_number ws
  numbers_pass [] = refl
  numbers_pass (w ∷ ws) = ap (λ (t : Bool). is_number w && t) (numbers_pass ws)

  pub cpus_pass : (ws : List (List ℕ)) → all_pass is_within (map (λ word. cpu k) ws) ws ≡ list_all (λ n. ltb n (count_in k)) (map value_of ws)
  cpus_pass [] = refl
  cpus_pass (w ∷ ws) = (λ i. sym (from_zero (value_of w) (count_in k)) i && cpus_pass ws i)

  isolated_row : (n r o : Bool) (cpus : CpuNumbers) → cond n (cond r (cond o (Ok cpus) (Err OutOfOrder)) (Err OutOfRange)) (Err BadNumber) >>= (λ x. Ok (IsolatedCpus x)) >>= admitted k
      ≡ tested true n r (settled o (is_in_room k Isolated) (IsolatedCpus cpus))
  isolated_row false r o cpus = refl
  isolated_row true false o cpus = refl
  isolated_row true true false cpus = refl
  isolated_row true true true cpus = refl

  isolated_told : (ws : List (List ℕ)) → words_in k Isolated ws >>= admitted k ≡ judged k Isolated ws
  unfolding words_in said_behind
  isolated_told ws =
      let numbers = map value_of ws in
      let inside = list_all (λ n. ltb n (count_in k)) numbers && leaves_some (count_in k) numbers in
      let said : Said = IsolatedCpus (from_list numbers) in
      ap (λ (r : Result CpuNumbers Kind). r >>= (λ cpus. Ok (IsolatedCpus cpus)) >>= admitted k) (isolated_tests (count_in k) ws)
      ∙ isolated_row (list_all is_number ws) inside (rise None numbers) (from_list numbers)
      ∙ (λ i. tested (sym (choices_pass ws) i) (sym (numbers_pass ws) i) (sym (cpus_pass ws) i && leaves_some (count_in k) numbers) (settled (rise None numbers) (is_in_room k Isolated) said))

  and-false : (b : Bool) → (b && false) ≡ false
  and-false true = refl
  and-false false = refl

  wrong_count : (c : Command) (ws : List (List ℕ)) → all_pass is_choice (slots k c ws) ws ≡ false → Err BadLine ≡ judged k c ws
  wrong_count c ws e =
      sym (ap (λ (t : Bool). tested t (all_pass is_spelled (slots k c ws) ws) (all_pass is_within (slots k c ws) ws && is_machine k c (map value_of ws)) (settled (is_in_order k c (map value_of ws)) (is_in_room k c) (said_behind c ws))) e)

  cpus_told : (w : List ℕ) → cpus_in k (w ∷ []) >>= admitted k ≡ judged k Cpus (w ∷ [])
  unfolding cpus_in said_behind
  cpus_told w =
      let few = leb (k.nodes * value_of w) (most_cpus k.version) in
      let within_limits = leb 1 (value_of w) && ltb (value_of w) (MOST_NODE_CPUS + 1) in
      ap (λ (r : Heard). r >>= admitted k) (field_step 1 (MOST_NODE_CPUS + 1) w (λ n. cond (leb (k.nodes * n) (most_cpus k.version)) (Ok (CpuCount n)) (Err OutOfRange)))
      ∙ bind_row (is_number w) _ BadNumber (admitted k)
      ∙ ap (λ (r : Heard). cond (is_number w) r (Err BadNumber))
      (bind_row within_limits (cond few (Ok (CpuCount (value_of w))) (Err OutOfRange)) OutOfRange (admitted k)
      ∙ ap (λ (r : Heard). cond within_limits r (Err OutOfRange)) (bind_cond few (CpuCount (value_of w)) OutOfRange (admitted k)))
      ∙ field_judged (is_number w) (leb 1 (value_of w)) (ltb (value_of w) (MOST_NODE_CPUS + 1)) few (admitted k (CpuCount (value_of w)))

  -- ---- each command

  told : (c : Command) (ws : List (List ℕ)) → words_in k c ws >>= admitted k ≡ judged k c ws
  unfolding words_in version_in said_behind field_in cpus_in cpu_in cancel_in arm_in arm_parts
  told Tmig [] = refl
  told Tmig (w ∷ []) = version_row w (bytes_eq w (codes "1")) (bytes_eq w (codes "2")) refl refl
  told Tmig (v ∷ w ∷ ws) = wrong_count Tmig (v ∷ w ∷ ws) (and-false (list_any (bytes_eq v) (codes "1" ∷ codes "2" ∷ [])))
  told Nodes [] = refl
  told Nodes (w ∷ []) = one_number 1 (MOST_NODES + 1) NodeCount w _ refl
  told Nodes (v ∷ w ∷ ws) = refl
  told Cpus [] = refl
  told Cpus (w ∷ []) = cpus_told w
  told Cpus (v ∷ w ∷ ws) = refl
  told Timers [] = refl
  told Timers (w ∷ []) = one_number 1 (MOST_TIMERS + 1) TimerCount w _ refl
  told Timers (v ∷ w ∷ ws) = refl
  told Isolated ws = isolated_told ws
  told At [] = refl
  told At (w ∷ []) = one_number 0 SCRIPT_TIME_LIMIT Opening w _ refl
  told At (v ∷ w ∷ ws) = refl
  told End [] = refl
  told End (w ∷ []) = one_number 0 SCRIPT_TIME_LIMIT Ending w _ refl
  told End (v ∷ w ∷ ws) = refl
  told Arm [] = refl
  told Arm (c ∷ []) = refl
  told Arm (c ∷ t ∷ []) = refl
  told Arm (c ∷ t ∷ class ∷ []) = wrong_count Arm (c ∷ t ∷ class ∷ []) (and-false (list_any (bytes_eq class) (class_words k.version)))
  told Arm (c ∷ t ∷ class ∷ d ∷ []) = wrong_count Arm (c ∷ t ∷ class ∷ d ∷ []) (and-false (list_any (bytes_eq class) (class_words k.version)))
  told Arm (c ∷ t ∷ class ∷ d ∷ j ∷ []) = wrong_count Arm (c ∷ t ∷ class ∷ d ∷ j ∷ []) (and-false (list_any (bytes_eq class) (class_words k.version)))
  told Arm (c ∷ t ∷ class ∷ d ∷ j ∷ a ∷ []) = arm_told c t class d j a
  told Arm (c ∷ t ∷ class ∷ d ∷ j ∷ a ∷ b ∷ ws) = wrong_count Arm (c ∷ t ∷ class ∷ d ∷ j ∷ a ∷ b ∷ ws) (and-false (list_any (bytes_eq class) (class_words k.version)))
  told Cancel [] = refl
  told Cancel (v ∷ []) = refl
  told Cancel (v ∷ w ∷ []) = cancel_told v w
  told Cancel (u ∷ v ∷ w ∷ ws) = refl
  told Idle [] = refl
  told Idle (w ∷ []) = one_number 0 (count_in k) (λ n. Operation (record { 0 = n }) what.Idle) w _ refl
  told Idle (v ∷ w ∷ ws) = refl
  told Wake [] = refl
  told Wake (w ∷ []) = one_number 0 (count_in k) (λ n. Operation (record { 0 = n }) what.Wake) w _ refl
  told Wake (v ∷ w ∷ ws) = refl
  told Offline [] = refl
  told Offline (w ∷ []) = one_number 0 (count_in k) (λ n. Operation (record { 0 = n }) what.Offline) w _ refl
  told Offline (v ∷ w ∷ ws) = refl
  told Online [] = refl
  told Online (w ∷ []) = one_number 0 (count_in k) (λ n. Operation (record { 0 = n }) what.Online) w _ refl
  told Online (v ∷ w ∷ ws) = refl

pub line_in-heard : (k : Known) (ws : List (List ℕ)) → line_in k ws ≡ heard k ws
unfolding line_in heard
line_in-heard k [] = refl
line_in-heard k (first ∷ behind) = by_command k (command_of first) behind
  where
    by_stand : (k : Known) (c : Command) (ws : List (List ℕ)) (t : Bool) → may_stand k.place (is_some k.last) c ≡ t → cond t (words_in k c ws >>= admitted k) (Err BadLine) ≡ heard_behind k (Some c) ws
    by_stand k c ws true e = told k c ws ∙ sym (judged-behind k c ws e)
    by_stand k c ws false e = sym (misplaced k c ws e)

    by_command : (k : Known) (o : Option Command) (ws : List (List ℕ)) → line_behind k o ws ≡ heard_behind k o ws
    by_command k None ws = refl
    by_command k (Some c) ws = by_stand k c ws (may_stand k.place (is_some k.last) c) refl
