-- for crates above: moments and whole plays under rules that are alike
use Rattle.std.proofs.Common.{◌≡◌, ℕ, zero, suc, ◌+◌, ◌≤◌, ◌++◌, List, [], ◌∷◌, Bool, true, false, Option, Some, None, refl, sym, ap, ◌∙◌, arith, map}
use Rattle.std.specs.Prelude.{All, ◌≢◌, ◌==◌, if◌then◌else◌, filter, max, min, nat_le}
use Rattle.std.specs.List.{range_with_len}
use Rattle.std.specs.Option.{ForSome}
use Rattle.std.specs.FinSet as set
use Rattle.std.proofs.lemmas.Bool.{eqb-false}
use Rattle.std.proofs.lemmas.List.Elements.{All-cons, All-head, All-nil, All-tail}
use Rattle.tm_report.specs.declared.lines.Line.TheVariants as lines
use Rattle.tm_script.specs.declared.syntax.Moment.{Moment}
use Rattle.play_rules.specs.Parts.{Played, and_then, counting}
use Rattle.play_rules.specs.declared.asks.Arming.{Arming}
use Rattle.play_rules.specs.Rules.{Rules}
use Rattle.play_rules.specs.Interrupts.{Replies, having_interrupt, interrupts}
use Rattle.play_rules.specs.Operations.{clear_after, covers, leaver, operations}
use Rattle.play_rules.specs.Moments.{AfterEach, Turn, closing, last_state, left, left_or, moment, moment_at, moment_now, moments_after, next_moment, next_said, scripted, spent_at, turn, turn_lines, turn_then, turns, whole_lines}
use Rattle.play_laws.proofs.Shape.Shape.{KeptByRules, Stage, begun, between}
use Rattle.play_laws.proofs.Shape.ShapeInterrupts.{interrupts_kept}
use Rattle.play_laws.proofs.Shape.ShapeOperations.{clear_after_kept, leaver_in, operations_kept}
use Rattle.play_laws.proofs.Shape.ShapeTurns.{IsMomentIn, Rise, after_in, after_rise, moment_in, moment_kept, next_is}
use Rattle.play_laws.proofs.Shape.Alike.{Alike, seen, then_seen}
use Rattle.play_laws.proofs.Shape.AlikeInterrupts.{interrupts_alike}
use Rattle.play_laws.proofs.Shape.AlikeOperations.{clear_after_alike, covers_alike, operations_alike}

-- what is seen of a moment
abbrev pub turn_seen : {S T : Type 0} → (S → T) → Turn S → Turn T
turn_seen f t = record { at = t.at; played = seen f t.played }

module _ {S T : Type 0} (jobs : Replies) (r : Rules S) (q : Rules T) (f : S → T) (cpus timers levels end : ℕ)
    (P : (now : ℕ) → Stage → S → Type 0) (Fits : Arming → Type 0) (keeps : KeptByRules r cpus timers levels end Fits P)
    (alike : Alike r q f cpus timers levels end Fits P)
    (counted : (now : ℕ) (s : S) → P now between s → r.cpus s ≡ cpus) where
  abbrev Due : ℕ → S → Type 0
  Due now s = P now (begun (having_interrupt r s) 0) s

  filter_same : (p p' : ℕ → Bool) → ((c : ℕ) → p c ≡ p' c) → (xs : List ℕ) → filter p xs ≡ filter p' xs
  filter_same p p' same xs = ap (λ (g : ℕ → Bool). filter g xs) (λ i c. same c i)

  due_alike : (s : S) → having_interrupt r s ≡ having_interrupt q (f s)
  due_alike s =
      ap set.from_list
      (filter_same (r.has_interrupt s) (q.has_interrupt (f s)) (λ c. sym (alike.has_interrupt s c)) (range_with_len 0 (r.cpus s))
      ∙ ap (λ n. filter (q.has_interrupt (f s)) (range_with_len 0 n)) (sym (alike.cpus_are s)))

  scripted_alike : (now : ℕ) (o : Option Moment) (s : S) → ForSome o (IsMomentIn cpus timers) → P now between s
      → seen f (scripted r o s) ≡ scripted q o (f s)
  scripted_alike now None s known holds = refl
  scripted_alike now (Some m) s known holds =
      let ops = operations_kept r cpus timers levels end P Fits keeps now m.ops s (known m refl) holds in
      let cleared = clear_after_kept r cpus timers levels end P Fits keeps now (leaver m.ops) _
      (λ c is. leaver_in cpus timers m.ops c (known m refl) is) ops in
      then_seen f (and_then (operations r m.ops s) (clear_after r (leaver m.ops))) (and_then (operations q m.ops (f s)) (clear_after q (leaver m.ops)))
      (covers r) (covers q)
      (then_seen f (operations r m.ops s) (operations q m.ops (f s)) (clear_after r (leaver m.ops)) (clear_after q (leaver m.ops))
      (operations_alike r q f cpus timers levels end P Fits keeps alike now m.ops s (known m refl) holds)
      (clear_after_alike r q f cpus timers levels end P Fits keeps alike now (leaver m.ops) _
      (λ c is. leaver_in cpus timers m.ops c (known m refl) is) ops))
      (covers_alike r q f cpus timers levels end P Fits keeps alike now _ (counted now _ cleared) cleared)

  moment_alike : (now : ℕ) (ms : List Moment) (s : S) → All (IsMomentIn cpus timers) ms → Due now s
      → seen f (moment_now jobs r ms now s) ≡ moment_now jobs q ms now (f s)
  moment_alike now ms s known holds =
      let due = having_interrupt r s in
      let m = moment_at now ms in
      let after = interrupts_kept jobs r cpus timers levels end P Fits keeps now due s holds in
      then_seen f (and_then (counting s) (interrupts jobs r (r.cpus s) 0 due)) (and_then (counting (f s)) (interrupts jobs q (q.cpus (f s)) 0 due))
      (scripted r m) (scripted q m)
      (then_seen f (counting s) (counting (f s)) (interrupts jobs r (r.cpus s) 0 due) (interrupts jobs q (q.cpus (f s)) 0 due) refl
      (interrupts_alike jobs r q f cpus timers levels end P Fits keeps alike now due s holds))
      (scripted_alike now m _ (moment_in (IsMomentIn cpus timers) now ms known) after)
      ∙ ap (λ d. moment jobs q d m (f s)) (due_alike s)

  turn_alike : (now : ℕ) (ms : List Moment) (s : S) → All (IsMomentIn cpus timers) ms → Due now (r.at_clock now s)
      → turn_seen f (turn jobs r ms now s) ≡ turn jobs q ms now (f s)
  turn_alike now ms s known holds =
      ap (λ (p : Played T). record { at = now; played = p })
      (moment_alike now ms (r.at_clock now s) known holds ∙ ap (moment_now jobs q ms now) (alike.at_clock now s))

  next_alike : (ms : List Moment) (s : S) → next_moment q end ms (f s) ≡ next_moment r end ms s
  next_alike ms s =
      ap (λ n. max (n + 1) (min (q.next_interrupt (f s)) (next_said ms end))) (alike.clock s)
      ∙ ap (λ n. max (r.clock s + 1) (min n (next_said ms end))) (alike.next_interrupt s)

  then_alike : (is_last : Bool) (rest : S → List (Turn S)) (rest' : T → List (Turn T)) (t : Turn S) (t' : Turn T) → turn_seen f t ≡ t'
      → (is_last ≡ false → map (turn_seen f) (rest t.played.state) ≡ rest' (f t.played.state))
      → map (turn_seen f) (turn_then is_last rest t) ≡ turn_then is_last rest' t'
  then_alike true rest rest' t t' here there = ap (λ x. x ∷ []) here
  then_alike false rest rest' t t' here there =
      ap (λ xs. turn_seen f t ∷ xs) (there refl) ∙ ap (λ (x : Turn T). x ∷ rest' x.played.state) here

  turns_from : (n now : ℕ) (ms : List Moment) (s : S) → All (IsMomentIn cpus timers) ms → Rise now end ms → now ≤ end
      → Due now (r.at_clock now s) → map (turn_seen f) (turns jobs r n end now ms s) ≡ turns jobs q n end now ms (f s)
  unfolding turns
  turns_from zero now ms s known up low holds = refl
  turns_from (suc n) now ms s known up low holds =
      let here = turn jobs r ms now s in
      let after = moment_kept jobs r cpus timers levels end P Fits keeps now ms (r.at_clock now s) known holds in
      let later = moments_after now ms in
      then_alike (now == end) (λ t. turns jobs r n end (next_moment r end later t) later t) (λ t. turns jobs q n end (next_moment q end later t) later t)
      here (turn jobs q ms now (f s)) (turn_alike now ms s known holds)
      (λ more.
      let apart : now ≢ end = eqb-false now end more in
      let next = next_is jobs r cpus timers levels end P Fits keeps now later here.played.state (after_rise now end ms up) (omega (arith, low, apart))
      (keeps.clock now here.played.state after) in
      turns_from n (next_moment r end later here.played.state) later here.played.state
      (after_in (IsMomentIn cpus timers) now ms known) next.rise next.by_the_end
      (keeps.comes now (next_moment r end later here.played.state) here.played.state after next.later next.by_the_end next.no_later)
      ∙ ap (λ time. turns jobs q n end time later (f here.played.state)) (sym (next_alike later here.played.state)))

  -- TURN BY TURN the plays are alike
  pub turns_alike : (n now : ℕ) (ms : List Moment) (s : S) → All (IsMomentIn cpus timers) ms → Rise now end ms → now ≤ end
      → P now (begun (having_interrupt r (r.at_clock now s)) 0) (r.at_clock now s)
      → map (turn_seen f) (turns jobs r n end now ms s) ≡ turns jobs q n end now ms (f s)
  turns_alike n now ms s known up low holds = turns_from n now ms s known up low holds

-- what is read off the moments of both
module _ {S T : Type 0} (f : S → T) where
  pub lines_seen : (ts : List (Turn S)) → turn_lines (map (turn_seen f) ts) ≡ turn_lines ts
  lines_seen [] = refl
  lines_seen (t ∷ ts) = ap (λ ls. t.played.lines ++ ls) (lines_seen ts)

  pub last_seen : (s : S) (ts : List (Turn S)) → last_state (f s) (map (turn_seen f) ts) ≡ f (last_state s ts)
  last_seen s [] = refl
  last_seen s (t ∷ ts) = last_seen t.played.state ts

  pub spent_seen : (limit work : ℕ) (ts : List (Turn S)) → spent_at limit work (map (turn_seen f) ts) ≡ spent_at limit work ts
  spent_seen limit work [] = refl
  spent_seen limit work (t ∷ []) = refl
  spent_seen limit work (t ∷ u ∷ ts) =
      ap (λ o. if nat_le limit (work + t.played.work) then Some (work + t.played.work) else o) (spent_seen limit (work + t.played.work) (u ∷ ts))

  pub each_seen : (Q : T → Type 0) (ts : List (Turn S)) → AfterEach Q (map (turn_seen f) ts) → AfterEach (λ s. Q (f s)) ts
  each_seen Q [] all = All-nil (λ (t : Turn S). Q (f t.played.state))
  each_seen Q (t ∷ ts) all =
      All-cons (λ (x : Turn S). Q (f x.played.state)) t ts (All-head (λ (x : Turn T). Q x.played.state) (turn_seen f t) (map (turn_seen f) ts) all)
      (each_seen Q ts (All-tail (λ (x : Turn T). Q x.played.state) (turn_seen f t) (map (turn_seen f) ts) all))

-- what is left at the end
module _ {S T : Type 0} (r : Rules S) (q : Rules T) (f : S → T)
    (queued : (s : S) (timer : ℕ) → q.queued (f s) timer ≡ r.queued s timer) (timers_are : (s : S) → q.timers (f s) ≡ r.timers s) where
  left_alike : (n t : ℕ) (s : S) → left r n t s ≡ left q n t (f s)
  unfolding left
  left_alike zero t s = refl
  left_alike (suc n) t s =
      ap (left_or t (r.queued s t)) (left_alike n (t + 1) s) ∙ ap (λ o. left_or t o (left q n (t + 1) (f s))) (sym (queued s t))

  pub closing_alike : (end : ℕ) (s : S) → closing r end s ≡ closing q end (f s)
  closing_alike end s =
      ap (λ ls. ls ++ lines.End end ∷ []) (left_alike (r.timers s) 0 s)
      ∙ ap (λ n. left q n 0 (f s) ++ lines.End end ∷ []) (sym (timers_are s))

  pub whole_alike : (end : ℕ) (s : S) (ts : List (Turn S)) (us : List (Turn T)) → map (turn_seen f) ts ≡ us
      → whole_lines r end s ts ≡ whole_lines q end (f s) us
  whole_alike end s ts us is =
      ap (λ ls. ls ++ closing r end (last_state s ts)) (sym (lines_seen f ts))
      ∙ ap (λ ls. turn_lines (map (turn_seen f) ts) ++ ls)
      (closing_alike end (last_state s ts) ∙ ap (closing q end) (sym (last_seen f s ts)))
      ∙ ap (λ (xs : List (Turn T)). turn_lines xs ++ closing q end (last_state (f s) xs)) is
