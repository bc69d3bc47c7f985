-- in a round each timer is handed out once at most, whichever CPU's thread hands it out
use Rattle.std.proofs.Common.{◌≡◌, ℕ, zero, suc, ◌+◌, ◌-◌, ◌<◌, ◌≤◌, List, [], ◌∷◌, ◌++◌}
use Rattle.std.proofs.Common.{Bool, true, false, Some, refl, sym, ap, ◌∙◌, subst, arith}
use Rattle.std.proofs.Common.{inl, inr, length}
use Rattle.std.specs.Prelude.{All, ◌&&◌, ◌==◌, filter, not, slice_get, if◌then◌else◌}
use Rattle.std.specs.List.{flat_map, range_with_len}
use Rattle.std.specs.Ordering.{nat_cmp}
use Rattle.std.specs.FinSet as set
use Rattle.std.proofs.lemmas.Bool.{and_from, and_parts, cases_Bool, cases_lt, eq-eqb, ne_eqb}
use Rattle.std.proofs.lemmas.Bool.{not_from_false, not_from_true}
use Rattle.std.proofs.lemmas.Option.{get_or_from_slice_get, slice_get_within}
use Rattle.std.proofs.lemmas.List.FromFn.{length-range_with_len}
use Rattle.wheel_core.specs.WheelExpiry.{greatest_timeout}
use Rattle.wheel_core.specs.PlainBase.{PlainBase, forwarded}
use Rattle.cpu_bases.specs.declared.entry.Act.{Act}
use Rattle.cpu_bases.specs.declared.entry.Act.TheVariants.{Armed, Cancelled, Handed, MovedIn}
use Rattle.cpu_bases.specs.declared.entry.Act.TheVariants.{MovedOut, Ticked}
use Rattle.cpu_bases.specs.declared.entry.Entry.{Entry}
use Rattle.cpu_bases.specs.CpuBases.{class_in}
use Rattle.cpu_bases.specs.Journals.{EachMayFollow, queued_by}
use Rattle.cpu_bases.specs.Laws.{is_arming}
use Rattle.cpu_bases.specs.Replay.{Says}
use Rattle.cpu_bases.proofs.Keyed.{HasDistinctKeys}
use Rattle.cpu_bases.proofs.Legal.{distinct_from}
use Rattle.tm_script.specs.declared.syntax.Op.{Op}
use Rattle.tm_report.specs.declared.lines.Line.{Line}
use Rattle.play_rules.specs.Interrupts.{Replies}
use Rattle.play_laws.proofs.Jiffies.Sleepers.{one_fewer}
use Rattle.play_laws.proofs.Work.Homes.{count_of}
use Rattle.core_world.specs.Lawful.{IsLawful}
use Rattle.core_world.specs.World.{World, cpu_of}
use Rattle.run_story.specs.Rounds.{IsRound, by_journals, standing_at}
use Rattle.run_story.specs.Shares.{own_ops}
use Rattle.run_story.specs.Stories.{runs_told}
use Rattle.run_story.specs.Written.{WrittenEntry, world_journal_of}
use Rattle.run_laws.proofs.HandOuts.{EachComesLate, IsQueuedOn, follow_behind, out_once, queued_on}
use Rattle.run_laws.proofs.HandOuts.{says_at, was_queued, wheel_past}
use Rattle.run_laws.proofs.Homes.{HasTimers}
use Rattle.run_laws.proofs.Told.{TellsFit, WritesFit, handed_act, handed_count, is_handed}
use Rattle.run_laws.proofs.Told.{share_fits}
use Rattle.run_laws.proofs.Told.{told_append}

-- ---- lists

at_behind : {X : Type 0} (xs ys : List X) (p : ℕ)
    → slice_get (xs ++ ys) (length xs + p) ≡ slice_get ys p
at_behind [] ys p = let e : 0 + p ≡ p = omega arith in ap (slice_get ys) e
at_behind (x ∷ xs) ys p =
    let e : suc (length xs) + p ≡ suc (length xs + p) = omega arith in
    ap (slice_get (x ∷ (xs ++ ys))) e ∙ at_behind xs ys p

all_at : {X : Type 0} (P : X → Type 0) (xs : List X) → All P xs → (i : ℕ) (x : X)
    → slice_get xs i ≡ Some x → P x
all_at P xs all i x is =
    subst P (get_or_from_slice_get xs i x x is) (all i x (slice_get_within xs i x is))

filter_least : (p : ℕ → Bool) (xs : List ℕ) → length (filter p xs) ≤ length xs
filter_least p [] = omega arith
filter_least p (x ∷ xs) =
    let rest = filter_least p xs in
    elim (p x) as (λ b. length (if b then x ∷ filter p xs else filter p xs) ≤ suc (length xs))
    [ true ↦ omega (arith, rest) | false ↦ omega (arith, rest) ]

-- of so many numbers at most all pass
pub count_low : (n : ℕ) (p : ℕ → Bool) → length (filter p (range_with_len 0 n)) ≤ n
count_low n p =
    let low = filter_least p (range_with_len 0 n) in
    let all_of = length-range_with_len 0 n in omega (arith, low, all_of)

-- ---- entries each of which hands out another timer pay for as many timers

-- all but one
abbrev but : (ℕ → Bool) → (id : ℕ) → ℕ → Bool
but may id t = may t && not (t == id)

but_other : (may : ℕ → Bool) (id t : ℕ) → may t ≡ true → (t ≡ id → ⊥) → but may id t ≡ true
but_other may id t is other =
    and_from (may t) (not (t == id)) is (not_from_false (t == id) (ne_eqb t id other))

but_itself : (may : ℕ → Bool) (id : ℕ) → but may id id ≡ false
but_itself may id =
    elim (may id) as (λ b. (b && not (id == id)) ≡ false)
    [ true ↦ not_from_true (id == id) (eq-eqb id id refl) | false ↦ refl ]

module _ (timers : ℕ) where
  -- each one hands out a timer that may go out, ..
  abbrev MayAll : (ℕ → Bool) → List WrittenEntry → Type 0
  MayAll may xs =
      (i : ℕ) (x : WrittenEntry) → slice_get xs i ≡ Some x → is_handed x ≡ true
      → (may x.entry.timer.0 ≡ true) × (x.entry.timer.0 < timers)

  -- .. and another one
  abbrev Apart : List WrittenEntry → Type 0
  Apart xs =
      (i j : ℕ) (x y : WrittenEntry) → slice_get xs i ≡ Some x → slice_get xs j ≡ Some y
      → is_handed x ≡ true → is_handed y ≡ true → x.entry.timer.0 ≡ y.entry.timer.0 → i ≡ j

  abbrev NoneOf : (t : ℕ) → List WrittenEntry → Type 0
  NoneOf t xs =
      (i : ℕ) (x : WrittenEntry) → slice_get xs i ≡ Some x → is_handed x ≡ true
      → x.entry.timer.0 ≡ t → ⊥

  record PaysFor (may : ℕ → Bool) (xs : List WrittenEntry) : Type 0 where
    after : ℕ → Bool
    paid : handed_count xs + count_of timers after ≤ count_of timers may
    stays : (t : ℕ) → may t ≡ true → NoneOf t xs → after t ≡ true

  pays_for : (xs : List WrittenEntry) (may : ℕ → Bool) → MayAll may xs → Apart xs
      → PaysFor may xs
  pays_for [] may each apart =
      record { after = may; paid = omega arith; stays = λ t on none. on }
  pays_for (x ∷ xs) may each apart =
      let later : Apart xs = λ i j y z is there a b same.
      (let e : suc i ≡ suc j = apart (suc i) (suc j) y z is there a b same in omega (arith, e)) in
      elim (cases_Bool (is_handed x)) [
        | inr kept ↦
            let rest = pays_for xs may (λ i y is. each (suc i) y is) later in
            let paid = rest.paid in
            record {
              after = rest.after;
              paid = rw kept paid;
              stays = λ t on none. rest.stays t on (λ i y is. none (suc i) y is);
            }
        | inl it ↦
            let id = x.entry.timer.0 in
            let own = each 0 x refl it in
            let other = λ (i : ℕ) (y : WrittenEntry) (is : slice_get xs i ≡ Some y)
            (handed : is_handed y ≡ true) (same : y.entry.timer.0 ≡ id).
            (let e : 0 ≡ suc i = apart 0 (suc i) x y refl is it handed (sym same) in
            absurd (omega (arith, e))) in
            let rest =
            pays_for xs (but may id)
            (λ i y is handed.
            let was = each (suc i) y is handed in
            (but_other may id y.entry.timer.0 was.0 (other i y is handed), was.1)) later in
            let paid = rest.paid in
            let one = one_fewer may (but may id) timers id
            (λ t on. (and_parts (may t) (not (t == id)) on).0) own.1 own.0 (but_itself may id) in
            record {
              after = rest.after;
              paid = rw it (omega (arith, paid, one));
              stays = λ t on none.
                  rest.stays t (but_other may id t on (λ same. none 0 x refl it (sym same)))
                  (λ i y is. none (suc i) y is);
            }
      ]

-- ---- a round

module _ (jobs : Replies) (o : World) (due : set.FinSet nat_cmp) (ops : List Op) (w : World)
    (told : List Line) (r : IsRound jobs o due ops w told) (has : HasTimers o) (lawful : IsLawful w)
    (soon : o.clock ≤ greatest_timeout) where
  share : (c : ℕ) → c < length o.cpus → TellsFit o.clock (r.wrote c) (r.lines_of c)
  share c low =
      let h = r.shares c low in
      subst (λ xs. TellsFit o.clock xs (r.lines_of c)) h.wrote_is
      (share_fits (by_journals o w) o.clock c jobs (set.contains due c) (cpu_of o c).online
      (own_ops c ops) (standing_at o c) h.last (r.lines_of c) refl h.tells)

  abbrev old : ℕ → List Entry
  old d = world_journal_of o d

  abbrev more : ℕ → List Entry
  more d = (r.replays d).more

  grows : (d : ℕ) → world_journal_of w d ≡ old d ++ more d
  grows d = (r.replays d).grows

  -- what is armed comes past now
  module _ (d p : ℕ) (e : Entry) (is : slice_get (more d) p ≡ Some e) where
    place : slice_get (world_journal_of w d) (length (old d) + p) ≡ Some e
    place = ap (λ xs. slice_get xs (length (old d) + p)) (grows d)
        ∙ (at_behind (old d) (more d) p ∙ is)

    fit : WritesFit o.clock (record { home = d; place = length (old d) + p; entry = e })
    fit =
        let at = r.written.writer d (length (old d) + p) in
        let was = r.written.all d (length (old d) + p) e place (omega arith) in
        all_at (WritesFit o.clock) (r.wrote at.0) (share at.0 was.in_range).fits at.1 _ was.among

    by_base : (act : Act) → e.act ≡ act → (base : PlainBase) → Says act e base
        → is_arming act ≡ true → o.clock < e.wheel
    by_base Armed act base says arms =
        let later = fit.later act in
        let past = wheel_past o.clock e.expires (forwarded e.at base).clock soon later in
        omega (arith, says, past)
    by_base MovedIn act base says arms = absurd (fit.stays act)
    by_base Handed act base says arms = absurd (let no : false ≡ true = arms in cc)
    by_base Cancelled act base says arms = absurd (let no : false ≡ true = arms in cc)
    by_base MovedOut act base says arms = absurd (let no : false ≡ true = arms in cc)
    by_base Ticked act base says arms = absurd (let no : false ≡ true = arms in cc)

    comes_late : is_arming e.act ≡ true → o.clock < e.wheel
    comes_late arms =
        let says = says_at (more d) (cpu_of o d).bases.bases (r.replays d).says p e is in
        by_base e.act refl says.0 says.1 arms

  each_late : (d : ℕ) → EachComesLate o.clock (more d)
  each_late d p e is arms = comes_late d p e is arms

  distinct : (d : ℕ) → HasDistinctKeys (λ (e : Entry). e.timer.0) (queued_by (old d))
  distinct d = distinct_from [] (old d) tt (has.consistent d).each_may_follow

  follows : (d : ℕ) → EachMayFollow (queued_by (old d)) (more d)
  follows d =
      follow_behind [] (old d) (more d)
      (subst (EachMayFollow []) (grows d) (lawful.timers.consistent d).each_may_follow)

  -- A HAND-OUT of the round
  record IsHandOut (c i : ℕ) (x : WrittenEntry) : Type 0 where
    among : slice_get (r.wrote c) i ≡ Some x
    handed : is_handed x ≡ true

  abbrev offset : WrittenEntry → ℕ
  offset x = x.place - length (old x.home)

  module _ (c i : ℕ) (x : WrittenEntry) (out : IsHandOut c i x) where
    at_place : slice_get (more x.home) (offset x) ≡ Some x.entry
    at_place =
        let stands = r.written.stand c i x out.among in
        let later = stands.later in
        let sum : length (old x.home) + offset x ≡ x.place = omega (arith, later) in
        sym (at_behind (old x.home) (more x.home) (offset x))
        ∙ (ap (slice_get (old x.home ++ more x.home)) sum
        ∙ (ap (λ xs. slice_get xs x.place) (sym (grows x.home)) ∙ stands.stands))

    at_now : x.entry.at ≡ o.clock
    at_now = (r.written.stand c i x out.among).at

    was_there : IsQueuedOn o x.home x.entry.timer.0
    was_there =
        queued_on o has o.clock x.home x.entry.timer.0
        (was_queued o.clock (queued_by (old x.home)) (more x.home) (distinct x.home)
        (follows x.home) (each_late x.home) (offset x) x.entry at_place
        (handed_act x.entry.act out.handed) at_now)

  -- two of one timer are one
  module _ (c i d j : ℕ) (x y : WrittenEntry) (a : IsHandOut c i x) (b : IsHandOut d j y)
      (same : x.entry.timer.0 ≡ y.entry.timer.0) where
    one_home : x.home ≡ y.home
    one_home =
        let first = was_there c i x a in
        let second = was_there d j y b in
        has.one_cpu x.home y.home x.entry.timer.0 first.class second.class first.queued
        (subst (λ t. class_in t (cpu_of o y.home).bases ≡ Some second.class) (sym same)
        second.queued)

    other_place : (h : ℕ) → y.home ≡ h
        → slice_get (more h) (y.place - length (old h)) ≡ Some y.entry
    other_place h is =
        subst (λ n. slice_get (more n) (y.place - length (old n)) ≡ Some y.entry) is
        (at_place d j y b)

    one_offset : offset x ≡ y.place - length (old x.home)
    one_offset =
        let h = x.home in
        let q = y.place - length (old h) in
        let there = other_place h (sym one_home) in
        let out = handed_act x.entry.act a.handed in
        let again = handed_act y.entry.act b.handed in
        elim (cases_lt (offset x) q) [
          | inl less ↦
              absurd (out_once o.clock (queued_by (old h)) (more h) (distinct h) (follows h)
              (each_late h) (offset x) q x.entry y.entry less (at_place c i x a) there out again
              (at_now d j y b) same)
          | inr not_less ↦ elim (cases_lt q (offset x)) [
            | inl less ↦
                absurd (out_once o.clock (queued_by (old h)) (more h) (distinct h) (follows h)
                (each_late h) q (offset x) y.entry x.entry less there (at_place c i x a) again out
                (at_now c i x a) (sym same))
            | inr not_more ↦ omega (arith, not_less, not_more)
          ]
        ]

    one_place : x.place ≡ y.place
    one_place =
        let first = (r.written.stand c i x a.among).later in
        let second : length (old x.home) ≤ y.place =
        subst (λ n. length (old n) ≤ y.place) (sym one_home)
        (r.written.stand d j y b.among).later in
        let offsets = one_offset in
        omega (arith, first, second, offsets)

    one_writer : ◌≡◌ {A = ℕ × ℕ} (c, i) (d, j)
    one_writer =
        sym (r.written.stand c i x a.among).once
        ∙ ((λ k. r.written.writer (one_home k) (one_place k))
        ∙ (r.written.stand d j y b.among).once)

  -- CPU by CPU
  all_pay : (n c : ℕ) (may : ℕ → Bool) → c + n ≤ length o.cpus
      → ((d i : ℕ) (x : WrittenEntry) → c ≤ d → IsHandOut d i x → may x.entry.timer.0 ≡ true)
      → runs_told (flat_map r.lines_of (range_with_len c n)) ≤ count_of o.timers may
  all_pay zero c may low each = omega arith
  all_pay (suc n) c may low each =
      let one = pays_for o.timers (r.wrote c) may
      (λ i x is handed.
      let out : IsHandOut c i x = record { among = is; handed = handed } in
      (each c i x (omega arith) out, (was_there c i x out).known))
      (λ i j x y is there a b same.
      ap (λ (p : ℕ × ℕ). p.1)
      (one_writer c i c j x y (record { among = is; handed = a })
      (record { among = there; handed = b }) same)) in
      let rest = all_pay n (c + 1) one.after (omega (arith, low))
      (λ d i x above out.
      one.stays x.entry.timer.0 (each d i x (omega (arith, above)) out)
      (λ j y is handed same.
      let e : c ≡ d =
      ap (λ (p : ℕ × ℕ). p.0)
      (one_writer c j d i y x (record { among = is; handed = handed }) out same) in
      absurd (omega (arith, e, above)))) in
      let paid = one.paid in
      let count = (share c (omega (arith, low))).count in
      let sum = told_append (r.lines_of c) (flat_map r.lines_of (range_with_len (c + 1) n)) in
      omega (arith, sum, count, paid, rest)

  -- A ROUND tells as many runs at most as there are timers
  pub round_runs : runs_told told ≤ o.timers
  round_runs =
      let lines : runs_told told
      ≡ runs_told (flat_map r.lines_of (range_with_len 0 (length o.cpus))) =
      ap runs_told r.told_are in
      let paid = all_pay (length o.cpus) 0 (λ t. true) (omega arith) (λ d i x above out. refl) in
      let low = count_low o.timers (λ t. true) in
      omega (arith, lines, paid, low)
