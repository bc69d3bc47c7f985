-- what may be said is read from its line
use Rattle.std.proofs.Common.{◌≡◌, ℕ, ◌+◌, ◌*◌, ◌^◌, ◌<◌, ◌≤◌, true, not, ◌&&◌, eqb, ltb, leb, List, [], ◌∷◌, map, Option, None, is_some, Ok, refl, ap, ◌∙◌, arith, inl, inr}
use Rattle.std.specs.Prelude.{codes, nat_lt}
use Rattle.std.specs.Fmt.{decimal}
use Rattle.std.specs.List.{list_any, list_all}
use Rattle.std.specs.Str.{bytes_eq}
use Rattle.std.specs.FinSet.{from_list}
use Rattle.std.specs.Ordering.{nat_cmp}
use Rattle.std.proofs.lemmas.Bool.{and_parts, and_from, ltb-true, le-leb, lt-leb, not_from_false, cases_eq}
use Rattle.std.proofs.lemmas.Fmt.{decimal_digit}
use Rattle.text_words.specs.Numbers.{is_number, value_of}
use Rattle.text_words.specs.Words.{words_of, spaced}
use Rattle.text_words.proofs.Cuts.{is_clear, AreClear, words_again}
use Rattle.text_words.proofs.Digits.{word_again}
use Rattle.tm_base.specs.CpuSet.{Cpus as CpuNumbers}
use Rattle.tm_base.specs.Classes.{class_text}
use Rattle.tm_base.specs.declared.names.Class.{Class}
use Rattle.tm_base.specs.declared.limits.TheConstants.{MOST_NODES, MOST_NODE_CPUS, MOST_TIMERS, MOST_OPS, MOST_LINES, SCRIPT_TIME_LIMIT}
use Rattle.tm_script.specs.declared.syntax.What.TheVariants as what
use Rattle.tm_script.specs.declared.known.Place.{Place}
use Rattle.tm_script.specs.declared.known.Command.{Command}
use Rattle.tm_script.specs.declared.known.Command.TheVariants.{Tmig, Nodes, Cpus, Timers, Isolated, At, End, Arm, Cancel, Idle, Wake, Offline, Online}
use Rattle.tm_script.specs.declared.known.Known.{Known}
use Rattle.tm_script.specs.declared.known.Said.{Said}
use Rattle.tm_script.specs.declared.known.Said.TheVariants.{Version, NodeCount, CpuCount, TimerCount, IsolatedCpus, Opening, Operation, Ending}
use Rattle.tm_script.specs.Texts.{what_line, members}
use Rattle.tm_script.specs.Grammar.{most_cpus}
use Rattle.tm_script.specs.Judge.{word_of, may_stand, rise, leaves_some, is_after, is_reached}
use Rattle.tm_script.specs.Faults.{said_behind, heard_behind, heard}
use Rattle.tm_script.specs.Reading.{count_in}
use Rattle.tm_script.proofs.Bridge.{choices_pass, numbers_pass, cpus_pass}
use Rattle.tm_script.proofs.Ranges.{any_range}
use Rattle.tm_script.proofs.Members.{members_rise, members_below, members_again, members_set}
use Rattle.tm_script.proofs.SaidLines.{said_line, Fits}
use Rattle.tm_script.proofs.Passes.{Passes, passes_again}
use Rattle.tm_script.proofs.LineWords.{command_again, number_inside, clear_number, class_again, class_choice, class_clear}

module _ (k : Known) (room : k.line ≤ MOST_LINES) where
  by_passes : (c : Command) (ws : List (List ℕ)) (said : Said) → AreClear 32 (word_of c ∷ ws) → Passes k c ws → said_behind c ws ≡ said → heard k (words_of (spaced (word_of c ∷ ws))) ≡ Ok said
  unfolding heard
  by_passes c ws said clear p is =
      ap (heard k) (words_again (word_of c) ws clear)
      ∙ ap (λ (o : Option Command). heard_behind k o ws) (command_again c)
      ∙ passes_again k c ws p ∙ ap (λ (s : Said). Ok s) is

  line_fits : (leb k.line MOST_LINES && true) ≡ true
  line_fits = and_from _ _ (le-leb _ _ room) refl

  op_fits : k.ops < MOST_OPS → (leb k.line MOST_LINES && not (leb MOST_OPS k.ops)) ≡ true
  op_fits few = and_from _ _ (le-leb _ _ room) (not_from_false _ (lt-leb _ _ few))

  one_clear : (name : List ℕ) (n : ℕ) → is_clear 32 name ≡ true → n < 10 ^ 13 → AreClear 32 (name ∷ decimal n ∷ [])
  one_clear name n clear wide = (clear, (clear_number n wide, tt))

  one_spelled : (n : ℕ) → n < 10 ^ 13 → (is_number (decimal n) && true) ≡ true
  one_spelled n wide = and_from _ _ (word_again n wide).0 refl

  one_inside : (least bound n : ℕ) → n < 10 ^ 13 → least ≤ n → n < bound → ((leb least (value_of (decimal n)) && ltb (value_of (decimal n)) bound) && true) ≡ true
  one_inside least bound n wide low high = and_from _ _ (number_inside least bound n wide low high) refl

  version_choice : (n : ℕ) → 1 ≤ n → n ≤ 2 → list_any (bytes_eq (decimal n)) (codes "1" ∷ codes "2" ∷ []) ≡ true
  version_choice n low high =
      elim (cases_eq n 1) [
        | inl one ↦ ap (λ (d : List ℕ). list_any (bytes_eq d) (codes "1" ∷ codes "2" ∷ [])) (ap decimal one ∙ decimal_digit 1 (omega arith))
        | inr other ↦
            let two : n ≡ 2 = omega (arith, other) in
            ap (λ (d : List ℕ). list_any (bytes_eq d) (codes "1" ∷ codes "2" ∷ [])) (ap decimal two ∙ decimal_digit 2 (omega arith))
      ]

  all_again : (bound : ℕ) (ns : List ℕ) → bound ≤ 10 ^ 13 → list_all (λ n. nat_lt n bound) ns ≡ true → (list_all is_number (map decimal ns) ≡ true) × (map value_of (map decimal ns) ≡ ns) × AreClear 32 (map decimal ns)
  all_again bound [] few e = (refl, refl, tt)
  all_again bound (n ∷ ns) few e =
      let both = and_parts _ _ e in
      let wide : n < 10 ^ 13 = omega (arith, ltb-true n bound both.0) in
      let rest = all_again bound ns few both.1 in
      (and_from _ _ (word_again n wide).0 rest.0, (λ i. (word_again n wide).1 i ∷ rest.1 i), (clear_number n wide, rest.2))

  isolated_again : (cpus : CpuNumbers) → Fits k (IsolatedCpus cpus) → heard k (words_of (said_line k (IsolatedCpus cpus))) ≡ Ok (IsolatedCpus cpus)
  unfolding said_behind
  isolated_again cpus h =
      let count = count_in k in
      let ns = members count cpus in
      let below = members_below count cpus in
      let all = all_again count ns (omega (arith, h.3)) below in
      let among = members_again count cpus h.1 in
      let numbers = all.1 in
      by_passes Isolated (map decimal ns) (IsolatedCpus cpus) (refl, all.2)
      (record {
        stands = ap (λ (p : Place). may_stand p (is_some k.last) Isolated) h.0;
        choice = choices_pass k (map decimal ns);
        spelled = numbers_pass k (map decimal ns) ∙ all.0;
        inside = cpus_pass k (map decimal ns) ∙ ap (list_all (λ n. nat_lt n count)) numbers ∙ below;
        machine = ap (leaves_some count) numbers ∙ any_range (λ c. not (list_any (λ n. eqb n c) ns)) 0 count h.2.0 (omega arith) (omega (arith, h.2.1)) (not_from_false _ (among h.2.0 ∙ h.2.2));
        order = ap (rise None) numbers ∙ members_rise count cpus;
        room = line_fits;
      })
      (ap (λ (xs : List ℕ). IsolatedCpus (from_list {R = nat_cmp} xs)) numbers ∙ ap (λ (x : CpuNumbers). IsolatedCpus x) (members_set count cpus h.1))

  arm_again : (cpu timer : ℕ) (class : Class) (delay job arg : ℕ) → Fits k (Operation (record { 0 = cpu }) (what.Arm (record { 0 = timer }) class delay job arg))
      → heard k (words_of (what_line cpu (what.Arm (record { 0 = timer }) class delay job arg))) ≡ Ok (Operation (record { 0 = cpu }) (what.Arm (record { 0 = timer }) class delay job arg))
  unfolding said_behind
  arm_again cpu timer class delay job arg h =
      let form = h.3 in
      let b1 : cpu < 10 ^ 13 = omega (arith, h.2, h.6) in
      let b2 : timer < 10 ^ 13 = omega (arith, form.timer_in_range, h.7) in
      let b3 : delay < 10 ^ 13 = omega (arith, form.delay_in_range) in
      let b4 : job < 10 ^ 13 = omega (arith, form.job_in_range) in
      let b5 : arg < 10 ^ 13 = omega (arith, form.arg_in_range) in
      let zero_least : (n : ℕ) → 0 ≤ n = λ n. omega arith in
      by_passes Arm (decimal cpu ∷ decimal timer ∷ class_text class ∷ decimal delay ∷ decimal job ∷ decimal arg ∷ []) (Operation (record { 0 = cpu }) (what.Arm (record { 0 = timer }) class delay job arg))
      (refl, (clear_number cpu b1, (clear_number timer b2, (class_clear class, (clear_number delay b3, (clear_number job b4, (clear_number arg b5, tt)))))))
      (record {
        stands = ap (λ (p : Place). may_stand p (is_some k.last) Arm) h.0 ∙ h.1;
        choice = and_from _ _ (class_choice k.version class form.class_of_version) refl;
        spelled = and_from _ _ (word_again cpu b1).0 (and_from _ _ (word_again timer b2).0 (and_from _ _ (word_again delay b3).0 (and_from _ _ (word_again job b4).0 (one_spelled arg b5))));
        inside = and_from _ _ (number_inside 0 (count_in k) cpu b1 (zero_least cpu) h.2) (and_from _ _ (number_inside 0 k.timers timer b2 (zero_least timer) form.timer_in_range)
            (and_from _ _ (number_inside 0 (2 ^ 32) delay b3 (zero_least delay) form.delay_in_range) (and_from _ _ (number_inside 0 256 job b4 (zero_least job) form.job_in_range)
            (one_inside 0 (2 ^ 32) arg b5 (zero_least arg) form.arg_in_range))));
        machine = refl;
        order = not_from_false _ h.4;
        room = op_fits h.5;
      })
      (λ i. Operation (record { 0 = (word_again cpu b1).1 i }) (what.Arm (record { 0 = (word_again timer b2).1 i }) (class_again class i) ((word_again delay b3).1 i) ((word_again job b4).1 i) ((word_again arg b5).1 i)))

  cancel_again : (cpu timer : ℕ) → Fits k (Operation (record { 0 = cpu }) (what.Cancel (record { 0 = timer })))
      → heard k (words_of (what_line cpu (what.Cancel (record { 0 = timer })))) ≡ Ok (Operation (record { 0 = cpu }) (what.Cancel (record { 0 = timer })))
  unfolding said_behind
  cancel_again cpu timer h =
      let b1 : cpu < 10 ^ 13 = omega (arith, h.2, h.6) in
      let b2 : timer < 10 ^ 13 = omega (arith, h.3, h.7) in
      let zero_least : (n : ℕ) → 0 ≤ n = λ n. omega arith in
      by_passes Cancel (decimal cpu ∷ decimal timer ∷ []) (Operation (record { 0 = cpu }) (what.Cancel (record { 0 = timer })))
      (refl, (clear_number cpu b1, (clear_number timer b2, tt)))
      (record {
        stands = ap (λ (p : Place). may_stand p (is_some k.last) Cancel) h.0 ∙ h.1;
        choice = refl;
        spelled = and_from _ _ (word_again cpu b1).0 (one_spelled timer b2);
        inside = and_from _ _ (number_inside 0 (count_in k) cpu b1 (zero_least cpu) h.2) (one_inside 0 k.timers timer b2 (zero_least timer) h.3);
        machine = refl;
        order = not_from_false _ h.4;
        room = op_fits h.5;
      })
      (λ i. Operation (record { 0 = (word_again cpu b1).1 i }) (what.Cancel (record { 0 = (word_again timer b2).1 i })))

  -- what may be said is read from its line
  pub heard_again : (said : Said) → Fits k said → heard k (words_of (said_line k said)) ≡ Ok said
  unfolding said_behind
  heard_again (Version n) h =
      let wide : n < 10 ^ 13 = omega (arith, h.2) in
      by_passes Tmig (decimal n ∷ []) (Version n) (one_clear (codes "tmig") n refl wide)
      (record {
        stands = ap (λ (p : Place). may_stand p (is_some k.last) Tmig) h.0;
        choice = and_from _ _ (version_choice n h.1 h.2) refl;
        spelled = refl;
        inside = refl;
        machine = refl;
        order = refl;
        room = line_fits;
      })
      (λ i. Version ((word_again n wide).1 i))
  heard_again (IsolatedCpus cpus) h = isolated_again cpus h
  heard_again (Operation cpu (what.Arm timer class delay job arg)) h = arm_again cpu.0 timer.0 class delay job arg h
  heard_again (Operation cpu (what.Cancel timer)) h = cancel_again cpu.0 timer.0 h
  heard_again (NodeCount n) h =
      let wide : n < 10 ^ 13 = omega (arith, h.2) in
      let below : n < (MOST_NODES + 1) = omega (arith, h.2) in
      by_passes Nodes (decimal n ∷ []) (NodeCount n) (one_clear (word_of Nodes) n refl wide)
      (record {
        stands = ap (λ (p : Place). may_stand p (is_some k.last) Nodes) h.0;
        choice = refl;
        spelled = one_spelled n wide;
        inside = one_inside 1 (MOST_NODES + 1) n wide h.1 below;
        machine = refl;
        order = refl;
        room = line_fits;
      })
      (λ i. NodeCount ((word_again n wide).1 i))
  heard_again (CpuCount n) h =
      let wide : n < 10 ^ 13 = omega (arith, h.2) in
      let below : n < (MOST_NODE_CPUS + 1) = omega (arith, h.2) in
      by_passes Cpus (decimal n ∷ []) (CpuCount n) (one_clear (word_of Cpus) n refl wide)
      (record {
        stands = ap (λ (p : Place). may_stand p (is_some k.last) Cpus) h.0;
        choice = refl;
        spelled = one_spelled n wide;
        inside = one_inside 1 (MOST_NODE_CPUS + 1) n wide h.1 below;
        machine = ap (λ (v : ℕ). leb (k.nodes * v) (most_cpus k.version)) (word_again n wide).1 ∙ le-leb _ _ h.3;
        order = refl;
        room = line_fits;
      })
      (λ i. CpuCount ((word_again n wide).1 i))
  heard_again (TimerCount n) h =
      let wide : n < 10 ^ 13 = omega (arith, h.2) in
      let below : n < (MOST_TIMERS + 1) = omega (arith, h.2) in
      by_passes Timers (decimal n ∷ []) (TimerCount n) (one_clear (word_of Timers) n refl wide)
      (record {
        stands = ap (λ (p : Place). may_stand p (is_some k.last) Timers) h.0;
        choice = refl;
        spelled = one_spelled n wide;
        inside = one_inside 1 (MOST_TIMERS + 1) n wide h.1 below;
        machine = refl;
        order = refl;
        room = line_fits;
      })
      (λ i. TimerCount ((word_again n wide).1 i))
  heard_again (Opening n) h =
      let wide : n < 10 ^ 13 = omega (arith, h.1) in
      let below : n < SCRIPT_TIME_LIMIT = omega (arith, h.1) in
      by_passes At (decimal n ∷ []) (Opening n) (one_clear (word_of At) n refl wide)
      (record {
        stands = ap (λ (p : Place). may_stand p (is_some k.last) At) h.0;
        choice = refl;
        spelled = one_spelled n wide;
        inside = one_inside 0 SCRIPT_TIME_LIMIT n wide (omega arith) below;
        machine = refl;
        order = ap (is_after k.last) (word_again n wide).1 ∙ h.2;
        room = line_fits;
      })
      (λ i. Opening ((word_again n wide).1 i))
  heard_again (Ending n) h =
      let wide : n < 10 ^ 13 = omega (arith, h.1) in
      let below : n < SCRIPT_TIME_LIMIT = omega (arith, h.1) in
      by_passes End (decimal n ∷ []) (Ending n) (one_clear (word_of End) n refl wide)
      (record {
        stands = ap (λ (p : Place). may_stand p (is_some k.last) End) h.0;
        choice = refl;
        spelled = one_spelled n wide;
        inside = one_inside 0 SCRIPT_TIME_LIMIT n wide (omega arith) below;
        machine = refl;
        order = ap (is_reached k.last) (word_again n wide).1 ∙ h.2;
        room = line_fits;
      })
      (λ i. Ending ((word_again n wide).1 i))
  heard_again (Operation cpu what.Idle) h =
      let wide : cpu.0 < 10 ^ 13 = omega (arith, h.2, h.6) in
      by_passes Idle (decimal cpu.0 ∷ []) (Operation cpu what.Idle) (one_clear (word_of Idle) cpu.0 refl wide)
      (record {
        stands = ap (λ (p : Place). may_stand p (is_some k.last) Idle) h.0 ∙ h.1;
        choice = refl;
        spelled = one_spelled cpu.0 wide;
        inside = one_inside 0 (count_in k) cpu.0 wide (omega arith) h.2;
        machine = refl;
        order = not_from_false _ h.4;
        room = op_fits h.5;
      })
      (λ i. Operation (record { 0 = (word_again cpu.0 wide).1 i }) what.Idle)
  heard_again (Operation cpu what.Wake) h =
      let wide : cpu.0 < 10 ^ 13 = omega (arith, h.2, h.6) in
      by_passes Wake (decimal cpu.0 ∷ []) (Operation cpu what.Wake) (one_clear (word_of Wake) cpu.0 refl wide)
      (record {
        stands = ap (λ (p : Place). may_stand p (is_some k.last) Wake) h.0 ∙ h.1;
        choice = refl;
        spelled = one_spelled cpu.0 wide;
        inside = one_inside 0 (count_in k) cpu.0 wide (omega arith) h.2;
        machine = refl;
        order = not_from_false _ h.4;
        room = op_fits h.5;
      })
      (λ i. Operation (record { 0 = (word_again cpu.0 wide).1 i }) what.Wake)
  heard_again (Operation cpu what.Offline) h =
      let wide : cpu.0 < 10 ^ 13 = omega (arith, h.2, h.6) in
      by_passes Offline (decimal cpu.0 ∷ []) (Operation cpu what.Offline) (one_clear (word_of Offline) cpu.0 refl wide)
      (record {
        stands = ap (λ (p : Place). may_stand p (is_some k.last) Offline) h.0 ∙ h.1;
        choice = refl;
        spelled = one_spelled cpu.0 wide;
        inside = one_inside 0 (count_in k) cpu.0 wide (omega arith) h.2;
        machine = refl;
        order = not_from_false _ h.4;
        room = op_fits h.5;
      })
      (λ i. Operation (record { 0 = (word_again cpu.0 wide).1 i }) what.Offline)
  heard_again (Operation cpu what.Online) h =
      let wide : cpu.0 < 10 ^ 13 = omega (arith, h.2, h.6) in
      by_passes Online (decimal cpu.0 ∷ []) (Operation cpu what.Online) (one_clear (word_of Online) cpu.0 refl wide)
      (record {
        stands = ap (λ (p : Place). may_stand p (is_some k.last) Online) h.0 ∙ h.1;
        choice = refl;
        spelled = one_spelled cpu.0 wide;
        inside = one_inside 0 (count_in k) cpu.0 wide (omega arith) h.2;
        machine = refl;
        order = not_from_false _ h.4;
        room = op_fits h.5;
      })
      (λ i. Operation (record { 0 = (word_again cpu.0 wide).1 i }) what.Online)
