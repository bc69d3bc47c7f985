-- a line without fault is spelled as what it says, and that may be said
use Rattle.std.proofs.Common.{◌≡◌, ℕ, ◌+◌, ◌^◌, ◌<◌, ◌≤◌, true, not, ◌&&◌, eqb, ltb, leb, List, [], ◌∷◌, map, Option, Some, None, is_some, Ok, refl, sym, ap, subst, ◌∙◌, arith, inl, inr}
use Rattle.std.specs.Prelude.{codes}
use Rattle.std.specs.Fmt.{decimal}
use Rattle.std.specs.List.{list_any, list_all}
use Rattle.std.specs.FinSet.{from_list, contains-from_list_nat}
use Rattle.std.specs.Ordering.{nat_cmp}
use Rattle.std.proofs.lemmas.Bool.{and_parts, or_cases, leb-true, leb-false, not-true, false≢true}
use Rattle.std.proofs.lemmas.Fmt.{decimal_digit}
use Rattle.std.proofs.lemmas.Slice.Eq.{bytes_eq-Decides}
use Rattle.text_words.specs.Numbers.{is_number, value_of}
use Rattle.text_words.specs.Words.{spaced}
use Rattle.text_words.proofs.Digits.{word_found}
use Rattle.tm_base.specs.declared.limits.TheConstants.{MOST_NODES, MOST_NODE_CPUS, MOST_TIMERS, MOST_OPS, MOST_LINES, SCRIPT_TIME_LIMIT}
use Rattle.tm_script.specs.declared.syntax.What.{What}
use Rattle.tm_script.specs.declared.syntax.What.TheVariants as what
use Rattle.tm_script.specs.declared.known.Place.TheVariants.{Body}
use Rattle.tm_script.specs.declared.known.Command.{Command}
use Rattle.tm_script.specs.declared.known.Command.TheVariants.{Tmig, Nodes, Cpus, Timers, Isolated, At, End, Arm, Cancel, Idle, Wake, Offline, Online}
use Rattle.tm_script.specs.declared.known.Known.{Known}
use Rattle.tm_script.specs.declared.known.Said.{Said}
use Rattle.tm_script.specs.declared.known.Said.TheVariants.{Version, IsolatedCpus, Operation}
use Rattle.tm_script.specs.Texts.{number_line, what_line}
use Rattle.tm_script.specs.Grammar.{IsArm, IsWhat}
use Rattle.tm_script.specs.Judge.{word_of, slots, all_pass, is_spelled, is_within, is_operation, is_in_order, is_in_room}
use Rattle.tm_script.specs.Faults.{command_of, class_named, said_behind, heard_behind, heard}
use Rattle.tm_script.specs.Reading.{count_in}
use Rattle.tm_script.proofs.Bridge.{numbers_pass, cpus_pass}
use Rattle.tm_script.proofs.Ranges.{range_some}
use Rattle.tm_script.proofs.Members.{among_below, members_found}
use Rattle.tm_script.proofs.SaidLines.{said_line, Fits, IsSmall}
use Rattle.tm_script.proofs.Passes.{Passes, passes_found}
use Rattle.tm_script.proofs.LineWords.{command_found, line_place, stands_at, stands_inside, IsNumber, number_facts, class_found}

abbrev IsSaid : Known → List (List ℕ) → Said → Type 0
IsSaid k words said = (spaced words ≡ said_line k said) × (k.line ≤ MOST_LINES) × Fits k said

one_facts : (least bound : ℕ) (w : List ℕ) → (is_number w && true) ≡ true → ((leb least (value_of w) && ltb (value_of w) bound) && true) ≡ true → IsNumber least bound w
one_facts least bound w spelled limits = number_facts least bound w (and_parts _ _ spelled).0 (and_parts _ _ limits).0

number_spelled : (name w : List ℕ) (n : ℕ) → decimal n ≡ w → spaced (name ∷ w ∷ []) ≡ number_line name n
number_spelled name w n e = ap (λ (x : List ℕ). spaced (name ∷ x ∷ [])) (sym e)

module _ (k : Known) (small : IsSmall k) where
  line_room : (c : Command) → is_in_room k c ≡ true → k.line ≤ MOST_LINES
  line_room c e = leb-true _ _ (and_parts _ _ e).0

  found_operation : (c : Command) (first : List ℕ) (ws : List (List ℕ)) (done : What) → Passes k c (first ∷ ws) → is_operation c ≡ true → line_place c ≡ Body
      → is_in_order k c (map value_of (first ∷ ws)) ≡ not k.closed → is_in_room k c ≡ (leb k.line MOST_LINES && not (leb MOST_OPS k.ops))
      → IsNumber 0 (count_in k) first → IsWhat k.version k.timers done → spaced (word_of c ∷ first ∷ ws) ≡ what_line (value_of first) done
      → IsSaid k (word_of c ∷ first ∷ ws) (Operation (record { 0 = value_of first }) done)
  found_operation c first ws done p op body order room cpu form line = (
    line,
    line_room c p.room,
    (
      stands_at k.place (is_some k.last) c p.stands ∙ body,
      stands_inside k.place (is_some k.last) c op p.stands,
      cpu.high,
      form,
      not-true _ (sym order ∙ p.order),
      lt_from_room (and_parts _ _ (sym room ∙ p.room)).1,
      small.few_cpus,
      small.few_timers,
    ),
  )
    where
      lt_from_room : {a b : ℕ} → not (leb a b) ≡ true → b < a
      lt_from_room {a} {b} e = leb-false a b (not-true _ e)

  found_cpu : (c : Command) (w : List ℕ) (done : What) → Passes k c (w ∷ []) → is_operation c ≡ true → line_place c ≡ Body
      → is_in_order k c (map value_of (w ∷ [])) ≡ not k.closed → is_in_room k c ≡ (leb k.line MOST_LINES && not (leb MOST_OPS k.ops))
      → all_pass is_spelled (slots k c (w ∷ [])) (w ∷ []) ≡ (is_number w && true) → all_pass is_within (slots k c (w ∷ [])) (w ∷ []) ≡ ((leb 0 (value_of w) && ltb (value_of w) (count_in k)) && true)
      → IsWhat k.version k.timers done → ((n : ℕ) → number_line (word_of c) n ≡ what_line n done)
      → IsSaid k (word_of c ∷ w ∷ []) (Operation (record { 0 = value_of w }) done)
  found_cpu c w done p op body order room spelled inside form line =
      let number = one_facts 0 (count_in k) w (sym spelled ∙ p.spelled) (sym inside ∙ p.inside) in
      found_operation c w [] done p op body order room number form (number_spelled (word_of c) w (value_of w) number.spelled ∙ line (value_of w))

  found_isolated : (ws : List (List ℕ)) → Passes k Isolated ws → IsSaid k (codes "isolated" ∷ ws) (IsolatedCpus (from_list {R = nat_cmp} (map value_of ws)))
  found_isolated ws p =
      let numbers = map value_of ws in
      let below = sym (cpus_pass k ws) ∙ p.inside in
      let spelled = all_spelled ws (sym (numbers_pass k ws) ∙ p.spelled) in
      let members_are = members_found (count_in k) numbers p.order below in
      let placed = range_some (λ c. not (list_any (λ n. eqb n c) numbers)) 0 (count_in k) p.machine in (
        ap (λ (xs : List (List ℕ)). spaced (codes "isolated" ∷ xs)) (sym (ap (map decimal) members_are ∙ spelled)),
        line_room Isolated p.room,
        (
          stands_at k.place (is_some k.last) Isolated p.stands,
          λ c here. among_below (count_in k) c numbers below (sym (contains-from_list_nat numbers c) ∙ here),
          (placed.0, omega (arith, placed.1), contains-from_list_nat numbers placed.0 ∙ not-true _ placed.2),
          small.few_cpus,
        ),
      )
    where
      all_spelled : (ws : List (List ℕ)) → list_all is_number ws ≡ true → map decimal (map value_of ws) ≡ ws
      all_spelled [] e = refl
      all_spelled (w ∷ ws) e =
          let both = and_parts _ _ e in
          λ i. (word_found w both.0).0 i ∷ all_spelled ws both.1 i

  found_arm : (c t class d j a : List ℕ) → Passes k Arm (c ∷ t ∷ class ∷ d ∷ j ∷ a ∷ []) → IsSaid k (word_of Arm ∷ c ∷ t ∷ class ∷ d ∷ j ∷ a ∷ [])
      (Operation (record { 0 = value_of c }) (what.Arm (record { 0 = value_of t }) (class_named class) (value_of d) (value_of j) (value_of a)))
  found_arm c t class d j a p =
      let s1 = and_parts _ _ p.spelled in
      let s2 = and_parts _ _ s1.1 in
      let s3 = and_parts _ _ s2.1 in
      let s4 = and_parts _ _ s3.1 in
      let s5 = and_parts _ _ s4.1 in
      let i1 = and_parts _ _ p.inside in
      let i2 = and_parts _ _ i1.1 in
      let i3 = and_parts _ _ i2.1 in
      let i4 = and_parts _ _ i3.1 in
      let i5 = and_parts _ _ i4.1 in
      let cpu = number_facts 0 (count_in k) c s1.0 i1.0 in
      let timer = number_facts 0 k.timers t s2.0 i2.0 in
      let delay = number_facts 0 (2 ^ 32) d s3.0 i3.0 in
      let job = number_facts 0 256 j s4.0 i4.0 in
      let arg = number_facts 0 (2 ^ 32) a s5.0 i5.0 in
      let named = class_found k.version class (and_parts _ _ p.choice).0 in
      let form : IsArm k.version k.timers (value_of t) (class_named class) (value_of d) (value_of j) (value_of a) = record {
        timer_in_range = timer.high;
        class_of_version = named.1;
        delay_in_range = delay.high;
        job_in_range = job.high;
        arg_in_range = arg.high;
      } in
      found_operation Arm c (t ∷ class ∷ d ∷ j ∷ a ∷ []) (what.Arm (record { 0 = value_of t }) (class_named class) (value_of d) (value_of j) (value_of a)) p refl refl refl refl cpu form
      (λ i. spaced (codes "arm" ∷ sym cpu.spelled i ∷ sym timer.spelled i ∷ named.0 i ∷ sym delay.spelled i ∷ sym job.spelled i ∷ sym arg.spelled i ∷ []))

  found_cancel : (c t : List ℕ) → Passes k Cancel (c ∷ t ∷ []) → IsSaid k (word_of Cancel ∷ c ∷ t ∷ []) (Operation (record { 0 = value_of c }) (what.Cancel (record { 0 = value_of t })))
  found_cancel c t p =
      let s1 = and_parts _ _ p.spelled in
      let s2 = and_parts _ _ s1.1 in
      let i1 = and_parts _ _ p.inside in
      let i2 = and_parts _ _ i1.1 in
      let cpu = number_facts 0 (count_in k) c s1.0 i1.0 in
      let timer = number_facts 0 k.timers t s2.0 i2.0 in
      found_operation Cancel c (t ∷ []) (what.Cancel (record { 0 = value_of t })) p refl refl refl refl cpu timer.high
      (λ i. spaced (codes "cancel" ∷ sym cpu.spelled i ∷ sym timer.spelled i ∷ []))

  version_found : (w : List ℕ) → Passes k Tmig (w ∷ []) → IsSaid k (codes "tmig" ∷ w ∷ []) (Version (value_of w))
  unfolding value_of
  version_found w p =
      let place = stands_at k.place (is_some k.last) Tmig p.stands in
      let room = line_room Tmig p.room in
      elim (or_cases _ _ (and_parts _ _ p.choice).0) [
        | inl one ↦
            let is : w ≡ codes "1" = (bytes_eq-Decides w (codes "1")).0 one in
            subst (λ (x : List ℕ). IsSaid k (codes "tmig" ∷ x ∷ []) (Version (value_of x))) (sym is) (ap (λ (d : List ℕ). spaced (codes "tmig" ∷ d ∷ [])) (sym one_digit), room, (place, omega arith, omega arith))
        | inr other ↦ elim (or_cases _ _ other) [
          | inl two ↦
              let is : w ≡ codes "2" = (bytes_eq-Decides w (codes "2")).0 two in
              subst (λ (x : List ℕ). IsSaid k (codes "tmig" ∷ x ∷ []) (Version (value_of x))) (sym is) (ap (λ (d : List ℕ). spaced (codes "tmig" ∷ d ∷ [])) (sym two_digit), room, (place, omega arith, omega arith))
          | inr none ↦ absurd (false≢true none)
        ]
      ]
    where
      one_digit : decimal 1 ≡ codes "1"
      one_digit = decimal_digit 1 (omega arith)

      two_digit : decimal 2 ≡ codes "2"
      two_digit = decimal_digit 2 (omega arith)

  pub found : (c : Command) (ws : List (List ℕ)) → Passes k c ws → (spaced (word_of c ∷ ws) ≡ said_line k (said_behind c ws)) × (k.line ≤ MOST_LINES) × Fits k (said_behind c ws)
  unfolding said_behind
  found Tmig [] p = absurd (false≢true p.choice)
  found Tmig (w ∷ []) p = version_found w p
  found Tmig (v ∷ w ∷ ws) p = absurd (false≢true (and_parts _ _ p.choice).1)
  found Nodes [] p = absurd (false≢true p.choice)
  found Nodes (w ∷ []) p =
      let n = one_facts 1 (MOST_NODES + 1) w p.spelled p.inside in
      (number_spelled (codes "nodes") w (value_of w) n.spelled, line_room Nodes p.room, (stands_at k.place (is_some k.last) Nodes p.stands, n.low, omega (arith, n.high)))
  found Nodes (v ∷ w ∷ ws) p = absurd (false≢true p.choice)
  found Cpus [] p = absurd (false≢true p.choice)
  found Cpus (w ∷ []) p =
      let n = one_facts 1 (MOST_NODE_CPUS + 1) w p.spelled p.inside in
      (number_spelled (codes "cpus") w (value_of w) n.spelled, line_room Cpus p.room, (stands_at k.place (is_some k.last) Cpus p.stands, n.low, omega (arith, n.high), leb-true _ _ p.machine))
  found Cpus (v ∷ w ∷ ws) p = absurd (false≢true p.choice)
  found Timers [] p = absurd (false≢true p.choice)
  found Timers (w ∷ []) p =
      let n = one_facts 1 (MOST_TIMERS + 1) w p.spelled p.inside in
      (number_spelled (codes "timers") w (value_of w) n.spelled, line_room Timers p.room, (stands_at k.place (is_some k.last) Timers p.stands, n.low, omega (arith, n.high)))
  found Timers (v ∷ w ∷ ws) p = absurd (false≢true p.choice)
  found Isolated ws p = found_isolated ws p
  found At [] p = absurd (false≢true p.choice)
  found At (w ∷ []) p =
      let n = one_facts 0 SCRIPT_TIME_LIMIT w p.spelled p.inside in
      (number_spelled (codes "at") w (value_of w) n.spelled, line_room At p.room, (stands_at k.place (is_some k.last) At p.stands, n.high, p.order))
  found At (v ∷ w ∷ ws) p = absurd (false≢true p.choice)
  found End [] p = absurd (false≢true p.choice)
  found End (w ∷ []) p =
      let n = one_facts 0 SCRIPT_TIME_LIMIT w p.spelled p.inside in
      (number_spelled (codes "end") w (value_of w) n.spelled, line_room End p.room, (stands_at k.place (is_some k.last) End p.stands, n.high, p.order))
  found End (v ∷ w ∷ ws) p = absurd (false≢true p.choice)
  found Arm [] p = absurd (false≢true p.choice)
  found Arm (c ∷ []) p = absurd (false≢true p.choice)
  found Arm (c ∷ t ∷ []) p = absurd (false≢true p.choice)
  found Arm (c ∷ t ∷ class ∷ []) p = absurd (false≢true (and_parts _ _ p.choice).1)
  found Arm (c ∷ t ∷ class ∷ d ∷ []) p = absurd (false≢true (and_parts _ _ p.choice).1)
  found Arm (c ∷ t ∷ class ∷ d ∷ j ∷ []) p = absurd (false≢true (and_parts _ _ p.choice).1)
  found Arm (c ∷ t ∷ class ∷ d ∷ j ∷ a ∷ []) p = found_arm c t class d j a p
  found Arm (c ∷ t ∷ class ∷ d ∷ j ∷ a ∷ b ∷ ws) p = absurd (false≢true (and_parts _ _ p.choice).1)
  found Cancel [] p = absurd (false≢true p.choice)
  found Cancel (v ∷ []) p = absurd (false≢true p.choice)
  found Cancel (v ∷ w ∷ []) p = found_cancel v w p
  found Cancel (u ∷ v ∷ w ∷ ws) p = absurd (false≢true p.choice)
  found Idle [] p = absurd (false≢true p.choice)
  found Idle (w ∷ []) p = found_cpu Idle w what.Idle p refl refl refl refl refl refl tt (λ n. refl)
  found Idle (v ∷ w ∷ ws) p = absurd (false≢true p.choice)
  found Wake [] p = absurd (false≢true p.choice)
  found Wake (w ∷ []) p = found_cpu Wake w what.Wake p refl refl refl refl refl refl tt (λ n. refl)
  found Wake (v ∷ w ∷ ws) p = absurd (false≢true p.choice)
  found Offline [] p = absurd (false≢true p.choice)
  found Offline (w ∷ []) p = found_cpu Offline w what.Offline p refl refl refl refl refl refl tt (λ n. refl)
  found Offline (v ∷ w ∷ ws) p = absurd (false≢true p.choice)
  found Online [] p = absurd (false≢true p.choice)
  found Online (w ∷ []) p = found_cpu Online w what.Online p refl refl refl refl refl refl tt (λ n. refl)
  found Online (v ∷ w ∷ ws) p = absurd (false≢true p.choice)

-- a line without fault is spelled as what it says, and that may be said
pub heard_found : (k : Known) (ws : List (List ℕ)) (said : Said) → IsSmall k → heard k ws ≡ Ok said → (spaced ws ≡ said_line k said) × (k.line ≤ MOST_LINES) × Fits k said
unfolding heard
heard_found k [] said small e = absurd cc
heard_found k (first ∷ behind) said small e = by_command (command_of first) refl e
  where
    by_command : (o : Option Command) → command_of first ≡ o → heard_behind k o behind ≡ Ok said → IsSaid k (first ∷ behind) said
    by_command None named e = absurd cc
    by_command (Some c) named e =
        let p = passes_found k c behind said e in
        subst (λ (w : List ℕ). IsSaid k (w ∷ behind) said) (sym (command_found first c named)) (subst (λ (s : Said). IsSaid k (word_of c ∷ behind) s) p.1 (found k small c behind p.0))
