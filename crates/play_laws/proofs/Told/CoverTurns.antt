-- for crates above: the moments of the script have their `cover` lines, and no other moment has any
use Rattle.std.proofs.Common.{◌≡◌, ℕ, zero, suc, ◌+◌, ◌<◌, ◌≤◌, List, [], ◌∷◌, ◌++◌, Bool, true}
use Rattle.std.proofs.Common.{false, Option, Some, None, refl, sym, ap, ◌∙◌, subst, arith, inl, inr}
use Rattle.std.proofs.Common.{get_or}
use Rattle.std.specs.Prelude.{◌≢◌, ◌==◌, ◌||◌, All, filter, if◌then◌else◌, is_some}
use Rattle.std.proofs.lemmas.Bool.{cases_eq, eq-eqb, eqb-false, false≢true, ne_eqb}
use Rattle.std.proofs.lemmas.List.{append-nil}
use Rattle.std.proofs.lemmas.List.Elements.{All-append, All-cons, All-nil, filter-append}
use Rattle.tm_report.specs.declared.lines.Line.{Line}
use Rattle.tm_report.specs.declared.lines.Line.TheVariants as lines
use Rattle.tm_script.specs.declared.syntax.Moment.{Moment}
use Rattle.tm_script.specs.declared.syntax.Script.{Script}
use Rattle.tm_script.specs.Grammar.{IsScript}
use Rattle.tree_plan.specs.Paths.{cpu_count_of, level_count_of}
use Rattle.play_rules.specs.declared.asks.Arming.{Arming}
use Rattle.play_rules.specs.Parts.{and_then}
use Rattle.play_rules.specs.Rules.{Rules}
use Rattle.play_rules.specs.Interrupts.{Replies, having_interrupt, interrupts}
use Rattle.play_rules.specs.Operations.{clear_after, cover_lines, leaver, operations}
use Rattle.play_rules.specs.Moments.{Turn, moment_at, moment_now, moments_after, next_moment}
use Rattle.play_rules.specs.Moments.{scripted, turn, turn_then, turns}
use Rattle.play_rules.specs.State.{State, start}
use Rattle.play_rules.specs.Play.{plain_rules, play_turns}
use Rattle.play_laws.specs.Told.Covers.{CoversAreTrue, CoversIn, has_at}
use Rattle.play_laws.specs.Told.Kinds.{is_cover}
use Rattle.play_laws.proofs.Answered.Plays.{kept_after_each}
use Rattle.play_laws.proofs.Answered.Scripts.{moments_in, moments_rise, tree_for}
use Rattle.play_laws.proofs.Answered.Settles.{Whole}
use Rattle.play_laws.proofs.Shape.Shape.{KeptByRules, Stage}
use Rattle.play_laws.proofs.Shape.ShapeTurns.{IsMomentIn, Playing, Rise, after_in, after_rise}
use Rattle.play_laws.proofs.Shape.ShapeTurns.{moment_kept, next_is}
use Rattle.play_laws.proofs.Work.Whole.{Fits, Stands, rules_keep, start_homes}
use Rattle.play_laws.proofs.Told.Covers.{covers_are_told}
use Rattle.play_laws.proofs.Told.Filters.{all_pass, none_pass}
use Rattle.play_laws.proofs.Told.Printed.{after_prints, interrupts_print, is_of_operation}
use Rattle.play_laws.proofs.Told.Printed.{operations_print}
use Rattle.play_laws.proofs.Told.PrintedTurns.{covers_print}

not_cover : (line : Line) → is_of_operation line ≡ true → is_cover line ≡ false
not_cover (lines.Cover now cpu wheel cover) is = absurd (false≢true is)
not_cover (lines.Arm now cpu timer class wheel) is = refl
not_cover (lines.Run now runner timer home wheel reply) is = refl
not_cover (lines.Cancel now cpu timer home) is = refl
not_cover (lines.NotQueued now cpu timer) is = refl
not_cover (lines.Idle now cpu until) is = refl
not_cover (lines.Stay now cpu first) is = refl
not_cover (lines.Wake now cpu) is = refl
not_cover (lines.Offline now cpu) is = refl
not_cover (lines.Handed now cpu to) is = refl
not_cover (lines.Online now cpu) is = refl
not_cover (lines.Control now cpu) is = refl
not_cover (lines.Moved now timer from to wheel) is = refl
not_cover (lines.Refused now cpu line number) is = refl
not_cover (lines.RefusedQueued now cpu line number holder) is = refl
not_cover (lines.Left timer cpu class wheel) is = refl
not_cover (lines.End now) is = refl
not_cover (lines.Why steps cpu timer shown) is = refl
not_cover (lines.Yes steps) is = refl
not_cover (lines.No index) is = refl
not_cover (lines.Device now until) is = refl

-- THE SCRIPT'S MOMENTS that are still to come
none_before : (from end time : ℕ) (ms : List Moment) → Rise from end ms → time < from
    → has_at ms time ≡ false
none_before from end time [] up low = refl
none_before from end time (m ∷ ms) (above, (by, up)) low =
    ap (λ b. b || has_at ms time)
    (ne_eqb m.at time (λ same. omega (arith, above, low, same)))
    ∙ none_before (m.at + 1) end time ms up (omega (arith, above, low))

at_now : (now end : ℕ) (ms : List Moment) → Rise now end ms
    → is_some (moment_at now ms) ≡ has_at ms now
at_now now end [] up = refl
at_now now end (m ∷ ms) (above, (by, up)) =
    elim (cases_eq m.at now) [
      | inl same ↦ rw (eq-eqb m.at now same) refl
      | inr other ↦
          rw (ne_eqb m.at now other)
          (sym (none_before (m.at + 1) end now ms up (omega (arith, above))))
    ]

at_later : (now time : ℕ) (ms : List Moment) → now < time
    → has_at (moments_after now ms) time ≡ has_at ms time
at_later now time [] later = refl
at_later now time (m ∷ ms) later =
    elim (cases_eq m.at now) [
      | inl same ↦
          ap (λ b. has_at (if b then ms else m ∷ ms) time) (eq-eqb m.at now same)
          ∙ ap (λ b. b || has_at ms time)
          (sym (ne_eqb m.at time (λ too. omega (arith, later, same, too))))
      | inr other ↦
          ap (λ b. has_at (if b then ms else m ∷ ms) time) (ne_eqb m.at now other)
    ]

module _ {S : Type 0} (jobs : Replies) (r : Rules S) where
  abbrev Not : Line → Type 0
  Not line = is_cover line ≡ false

  abbrev Is : Line → Type 0
  Is line = is_cover line ≡ true

  -- the `cover` lines of a moment
  abbrev pub covers_if : Bool → S → List Line
  covers_if true s = cover_lines r (r.cpus s) 0 s
  covers_if false s = []

  behind : (before all covers : List Line) → All Not before → All Not all → All Is covers
      → filter is_cover (before ++ (all ++ covers)) ≡ covers
  behind before all covers none others is =
      filter-append is_cover before (all ++ covers)
      ∙ (ap (λ x. x ++ filter is_cover (all ++ covers)) (none_pass is_cover before none)
      ∙ (filter-append is_cover all covers
      ∙ (ap (λ x. x ++ filter is_cover covers) (none_pass is_cover all others)
      ∙ all_pass is_cover covers is)))

  -- those that a moment of the script prints behind its interrupts
  scripted_covers : (o : Option Moment) (before : List Line) (s : S) → All Not before
      → let all = scripted r o s in
      filter is_cover (before ++ all.lines) ≡ covers_if (is_some o) all.state
  scripted_covers None before s none =
      ap (filter is_cover) (append-nil before) ∙ none_pass is_cover before none
  scripted_covers (Some m) before s none =
      let ops = operations r m.ops s in
      let all = and_then ops (clear_after r (leaver m.ops)) in
      behind before all.lines (cover_lines r (r.cpus all.state) 0 all.state) none
      (All-append Not ops.lines (clear_after r (leaver m.ops) ops.state).lines
      (operations_print r Not not_cover m.ops s)
      (after_prints r Not not_cover (leaver m.ops) ops.state))
      (covers_print r Is (λ now cpu wheel cover. refl) (r.cpus all.state) 0 all.state)

  moment_covers : (ms : List Moment) (now : ℕ) (s : S)
      → let all = moment_now jobs r ms now s in
      filter is_cover all.lines ≡ covers_if (is_some (moment_at now ms)) all.state
  moment_covers ms now s =
      let due = having_interrupt r s in
      let all = interrupts jobs r (r.cpus s) 0 due s in
      scripted_covers (moment_at now ms) all.lines all.state
      (interrupts_print jobs r Not due (λ c at timer home wheel reply is. refl) (r.cpus s) 0 s)

module _ {S : Type 0} (jobs : Replies) (r : Rules S) (cpus timers levels end : ℕ)
    (P : (now : ℕ) → Stage → S → Type 0) (Fits : Arming → Type 0)
    (keeps : KeptByRules r cpus timers levels end Fits P) (said : List Moment) where
  -- a moment has its `cover` lines where it is one of the script
  abbrev pub HasCovers : Turn S → Type 0
  HasCovers t =
      filter is_cover t.played.lines ≡ covers_if jobs r (has_at said t.at) t.played.state

  -- from a time on these are the moments of the script
  abbrev pub AreLeft : (now : ℕ) → List Moment → Type 0
  AreLeft now ms = (time : ℕ) → now ≤ time → has_at ms time ≡ has_at said time

  then_have : (is_last : Bool) (rest : S → List (Turn S)) (t : Turn S) → HasCovers t
      → (is_last ≡ false → All HasCovers (rest t.played.state))
      → All HasCovers (turn_then is_last rest t)
  then_have true rest t here there = All-cons HasCovers t [] here (All-nil HasCovers)
  then_have false rest t here there = All-cons HasCovers t (rest t.played.state) here (there refl)

  pub turns_have : (n now : ℕ) (ms : List Moment) (s : S)
      → Playing jobs r cpus timers levels end P Fits keeps now ms s → AreLeft now ms
      → All HasCovers (turns jobs r n end now ms s)
  unfolding turns
  turns_have zero now ms s playing are = All-nil HasCovers
  turns_have (suc n) now ms s (known, up, low, holds) are =
      let here = turn jobs r ms now s in
      let after = moment_kept jobs r cpus timers levels end P Fits keeps now ms (r.at_clock now s)
      known holds in
      let left = moments_after now ms in
      then_have (now == end) (λ t. turns jobs r n end (next_moment r end left t) left t) here
      (moment_covers jobs r ms now (r.at_clock now s)
      ∙ ap (λ b. covers_if jobs r b here.played.state)
      (at_now now end ms up ∙ are now (omega arith)))
      (λ more.
      let apart : now ≢ end = eqb-false now end more in
      let next = next_is jobs r cpus timers levels end P Fits keeps now left here.played.state
      (after_rise now end ms up) (omega (arith, low, apart))
      (keeps.clock now here.played.state after) in
      let later = next.later in
      turns_have n (next_moment r end left here.played.state) left here.played.state (
        after_in (IsMomentIn cpus timers) now ms known,
        next.rise,
        next.by_the_end,
        keeps.comes now (next_moment r end left here.played.state) here.played.state after
            next.later next.by_the_end next.no_later,
      )
      (λ time from.
      at_later now time ms (omega (arith, from, later))
      ∙ are time (omega (arith, from, later))))

-- THE LAW
module _ (jobs : Replies) (script : Script) (is : IsScript script) where
  abbrev cpus : ℕ
  cpus = cpu_count_of (tree_for script)

  abbrev levels : ℕ
  levels = level_count_of (tree_for script)

  have_covers : All
      (λ (t : Turn State).
      filter is_cover t.played.lines
      ≡ covers_if jobs plain_rules (has_at script.moments t.at) t.played.state)
      (play_turns jobs script)
  have_covers =
      turns_have jobs plain_rules cpus script.timers levels script.end
      (Stands script.timers cpus levels script.end is.early_end) (Fits script.timers)
      (rules_keep script.timers cpus levels script.end is.early_end) script.moments
      (script.end + 1) 0 script.moments (start (tree_for script) script.timers) (
        moments_in script is,
        moments_rise script is,
        omega arith,
        record { at = refl; homes = start_homes (tree_for script) script.timers },
      )
      (λ time low. refl)

  in_one : (b : Bool) (now : ℕ) (s : State) → Whole (tree_for script) now s
      → CoversIn b s (covers_if jobs plain_rules b s)
  in_one true now s whole = covers_are_told s whole.kept
  in_one false now s whole = refl

  law : All
      (λ (t : Turn State).
      CoversIn (has_at script.moments t.at) t.played.state (filter is_cover t.played.lines))
      (play_turns jobs script)
  law i t low =
      let u = get_or (play_turns jobs script) i t in
      let whole = kept_after_each jobs script is i t low in
      subst (CoversIn (has_at script.moments u.at) u.played.state)
      (sym (have_covers i t low))
      (in_one (has_at script.moments u.at) whole.0 u.played.state whole.1)

pub covers_are_true : CoversAreTrue
covers_are_true jobs script is = law jobs script is
