-- what is noted of all CPUs, as their marks and their being online change
use Rattle.std.proofs.Common.{◌≡◌, ◌≢◌, ℕ, ◌+◌, ◌-◌, ◌^◌, ◌<◌, Bool, true, false, true≢false, List}
use Rattle.std.proofs.Common.{Option, Some, None, length, refl, sym, ap, ◌∙◌, arith, inl, inr}
use Rattle.std.proofs.Common.{get_or}
use Rattle.std.proofs.Common.{get_or-set_other, get_or-set_same, length-set}
use Rattle.std.specs.Prelude.{◌==◌, ◌&&◌, ◌↔◌, not, replicate, slice_set}
use Rattle.std.proofs.lemmas.Bool.{and_parts, cases_eq, cases_lt, eq-eqb, eqb-true}
use Rattle.std.proofs.lemmas.List.{get_or-replicate, get_or_past, length-replicate}
use Rattle.std.proofs.lemmas.Option.{none-some}
use Rattle.tree_plan.specs.Shape.{Shape}
use Rattle.tree_plan.specs.Paths.{is_placed_in}
use Rattle.core_parts.specs.core_world.Enabled.{MarksNobody}
use Rattle.core_parts.specs.core_world.World.{CpuRecord, World, cpu_of, no_cpu}
use Rattle.core_parts.specs.declared.status.CpuStatus.{CpuStatus}
use Rattle.core_parts.specs.Status.{status_of}
use Rattle.core_state.specs.Tally.{CpuTally, IsTallied, MayCountIn, MayCountOut, TalliesFirst}
use Rattle.core_state.specs.Tally.{TalliesOneMore}
use Rattle.core_state.specs.Tally.{OthersOnline, count_first, is_marked_by, is_placed_online, names}
use Rattle.core_state.specs.Tally.{one_if}
use Rattle.core_state.proofs.Changes.{cpu_read}
use Rattle.core_state.proofs.Counting.{count_rest, few, last_counted, one_there, room_for}
use Rattle.core_state.proofs.Counting.{same_rest, some_counted, without, without_there}

-- the status that the code reads of a CPU
pub read_status : (cpus : List CpuRecord) (c i : ℕ) (x : CpuRecord) (status : CpuStatus) → i ≡ c
    → c < length cpus → x ≡ get_or cpus i x → status ≡ status_of x
    → status ≡ status_of (get_or cpus c no_cpu)
read_status cpus c i x status same low read is =
    is ∙ ap status_of (sym (cpu_read cpus c i x same low read))

one_at_most : (b : Bool) → one_if b < 2
one_at_most true = omega arith
one_at_most false = omega arith

-- CPUs that agree in their marks and in being online count alike
pub counts_alike : (t : Shape) (xs ys : List CpuRecord) (tally : CpuTally) → length ys ≡ length xs
    → ((d : ℕ) → (get_or ys d no_cpu).mark ≡ (get_or xs d no_cpu).mark)
    → ((d : ℕ) → (get_or ys d no_cpu).online ≡ (get_or xs d no_cpu).online)
    → IsTallied t xs tally → IsTallied t ys tally
counts_alike t xs ys tally len marks online noted = record {
  each = noted.each ∙ sym len;
  marks = λ c low.
      noted.marks c (omega (arith, low, len))
      ∙ (λ i. count_first (λ d. names (sym (marks d) i) c) (sym len i));
  online =
      noted.online ∙ (λ i. count_first (λ d. is_placed_in t d && sym (online d) i) (sym len i));
}

-- also where one of them is another CPU in both
pub set_alike : (t : Shape) (xs ys : List CpuRecord) (c : ℕ) (z : CpuRecord) (tally : CpuTally)
    → length ys ≡ length xs → c < length xs
    → ((d : ℕ) → (get_or ys d no_cpu).mark ≡ (get_or xs d no_cpu).mark)
    → ((d : ℕ) → (get_or ys d no_cpu).online ≡ (get_or xs d no_cpu).online)
    → IsTallied t (slice_set xs c z) tally → IsTallied t (slice_set ys c z) tally
set_alike t xs ys c z tally len low marks online =
    counts_alike t (slice_set xs c z) (slice_set ys c z) tally
    (length-set ys c z ∙ (len ∙ sym (length-set xs c z)))
    (part (λ (y : CpuRecord). y.mark) marks) (part (λ (y : CpuRecord). y.online) online) where
      part : {A : Type 0} (f : CpuRecord → A)
          → ((d : ℕ) → f (get_or ys d no_cpu) ≡ f (get_or xs d no_cpu)) → (d : ℕ)
          → f (get_or (slice_set ys c z) d no_cpu) ≡ f (get_or (slice_set xs c z) d no_cpu)
      part f same d = elim (cases_eq d c) [
        | inl is ↦
            ap (λ k. f (get_or (slice_set ys c z) k no_cpu)) is
            ∙ (ap f (get_or-set_same ys c z no_cpu (omega (arith, low, len)))
            ∙ (ap f (sym (get_or-set_same xs c z no_cpu low))
            ∙ ap (λ k. f (get_or (slice_set xs c z) k no_cpu)) (sym is)))
        | inr apart ↦
            ap f (get_or-set_other ys c d z no_cpu apart)
            ∙ (same d ∙ sym (ap f (get_or-set_other xs c d z no_cpu apart)))
      ]

-- as they do where one CPU changes in neither
pub one_alike : (t : Shape) (xs : List CpuRecord) (c : ℕ) (y : CpuRecord) (tally : CpuTally)
    → c < length xs → y.mark ≡ (get_or xs c no_cpu).mark → y.online ≡ (get_or xs c no_cpu).online
    → IsTallied t xs tally → IsTallied t (slice_set xs c y) tally
one_alike t xs c y tally low mark online =
    counts_alike t xs (slice_set xs c y) tally (length-set xs c y)
    (part (λ (z : CpuRecord). z.mark) mark) (part (λ (z : CpuRecord). z.online) online) where
      part : {A : Type 0} (f : CpuRecord → A) → f y ≡ f (get_or xs c no_cpu) → (d : ℕ)
          → f (get_or (slice_set xs c y) d no_cpu) ≡ f (get_or xs d no_cpu)
      part f same d = elim (cases_eq d c) [
        | inl is ↦
            ap (λ k. f (get_or (slice_set xs c y) k no_cpu)) is
            ∙ (ap f (get_or-set_same xs c y no_cpu low)
            ∙ (same ∙ ap (λ k. f (get_or xs k no_cpu)) (sym is)))
        | inr apart ↦ ap f (get_or-set_other xs c d y no_cpu apart)
      ]

-- ONE CPU is counted out, and in with another mark
module _ (t : Shape) (cpus : List CpuRecord) (c : ℕ) (low : c < length cpus) where
  abbrev here : CpuRecord
  here = get_or cpus c no_cpu

  abbrev rest_marks : (by : ℕ) → ℕ
  rest_marks by = count_first (without (is_marked_by cpus by) c) (length cpus)

  abbrev rest_online : ℕ
  rest_online = count_first (without (is_placed_online t cpus) c) (length cpus)

  module _ (tally : CpuTally) (noted : IsTallied t cpus tally) (mark : Option ℕ)
      (placed_online : Bool) (mark_is : mark ≡ here.mark)
      (online_is_so : placed_online ≡ (is_placed_in t c && here.online)) where
    each_is : (by : ℕ) → by < length tally.marks
        → get_or tally.marks by 0 ≡ one_if (names mark by) + rest_marks by
    each_is by within =
        let each = noted.each in
        noted.marks by (omega (arith, within, each))
        ∙ (count_rest (is_marked_by cpus by) c 0 (length cpus) (omega arith) (omega (arith, low))
        ∙ ap (λ m. one_if (names m by) + rest_marks by) (sym mark_is))

    pub online_is : tally.online ≡ one_if placed_online + rest_online
    online_is =
        noted.online
        ∙ (count_rest (is_placed_online t cpus) c 0 (length cpus) (omega arith) (omega (arith, low))
        ∙ ap (λ b. one_if b + rest_online) (sym online_is_so))

    pub may_count_out : MayCountOut tally mark placed_online
    may_count_out = record {
      marks = λ by within. (let are = each_is by within in omega (arith, are));
      online = omega (arith, online_is);
    }

    module _ (mid : CpuTally) (out : TalliesOneMore mid tally mark placed_online) where
      left_marks : (by : ℕ) → by < length mid.marks → get_or mid.marks by 0 ≡ rest_marks by
      left_marks by within =
          let each = out.each in
          let are = each_is by (omega (arith, within, each)) in
          let gone = out.marks by within in
          omega (arith, are, gone)

      left_online : mid.online ≡ rest_online
      left_online = let gone = out.online in omega (arith, online_is, gone)

      pub may_count_in : (later : Option ℕ) (later_online : Bool) → length cpus < 2 ^ 16
          → MayCountIn mid later later_online
      may_count_in later later_online small = record {
        marks = λ by within. (
            let are = left_marks by within in
            let room = room_for (is_marked_by cpus by) c 0 (length cpus) (omega arith)
            (omega (arith, low)) in
            let one = one_at_most (names later by) in
            omega (arith, are, room, one, small));
        online =
            let room = room_for (is_placed_online t cpus) c 0 (length cpus) (omega arith)
            (omega (arith, low)) in
            let one = one_at_most later_online in
            omega (arith, left_online, room, one, small);
      }

      module _ (y : CpuRecord) (now : CpuTally) (later : Option ℕ) (later_online : Bool)
          (later_is : later ≡ y.mark)
          (later_online_is : later_online ≡ (is_placed_in t c && y.online))
          (came : TalliesOneMore mid now later later_online) where
        abbrev after : List CpuRecord
        after = slice_set cpus c y

        counted_after : (p q : ℕ → Bool) (b : Bool) → b ≡ q c → ((d : ℕ) → d ≢ c → q d ≡ p d)
            → count_first (without p c) (length cpus) + one_if b ≡ count_first q (length after)
        counted_after p q b is same =
            let parts = count_rest q c 0 (length cpus) (omega arith) (omega (arith, low)) in
            let rest = same_rest p q c 0 (length cpus) same in
            let at = ap one_if is in
            let whole : count_first (without p c) (length cpus) + one_if b
            ≡ count_first q (length cpus) = omega (arith, parts, rest, at) in
            whole ∙ ap (count_first q) (sym (length-set cpus c y))

        pub again : IsTallied t after now
        again = record {
          each =
              let noted_each = noted.each in
              let gone = out.each in
              let more = came.each in
              let len = length-set cpus c y in
              omega (arith, noted_each, gone, more, len);
          marks = λ by within. (
              let noted_each = noted.each in
              let gone = out.each in
              let len = length-set cpus c y in
              let inside : by < length mid.marks = omega (arith, within, noted_each, gone, len) in
              came.marks by inside
              ∙ (ap (λ n. n + one_if (names later by)) (left_marks by inside)
              ∙ counted_after (is_marked_by cpus by) (is_marked_by after by) (names later by)
              (ap (λ m. names m by)
              (later_is
              ∙ ap (λ (z : CpuRecord). z.mark) (sym (get_or-set_same cpus c y no_cpu low))))
              (λ d apart.
              ap (λ (z : CpuRecord). names z.mark by) (get_or-set_other cpus c d y no_cpu apart))));
          online =
              came.online
              ∙ (ap (λ n. n + one_if later_online) left_online
              ∙ counted_after (is_placed_online t cpus) (is_placed_online t after) later_online
              (later_online_is
              ∙ ap (λ (z : CpuRecord). is_placed_in t c && z.online)
              (sym (get_or-set_same cpus c y no_cpu low)))
              (λ d apart.
              ap (λ (z : CpuRecord). is_placed_in t d && z.online)
              (get_or-set_other cpus c d y no_cpu apart)));
        }

-- ALL CPUs, one after the other
pub none_counted : (t : Shape) (cpus : List CpuRecord) (n : ℕ) (tally : CpuTally)
    → tally.marks ≡ replicate n 0 → tally.online ≡ 0 → n ≡ length cpus → TalliesFirst t cpus 0 tally
none_counted t cpus n tally marks online len = record {
  each = ap length marks ∙ (length-replicate n 0 ∙ len);
  marks = λ c low.
      ap (λ xs. get_or xs c 0) marks ∙ get_or-replicate n c 0 0 (omega (arith, low, len));
  online = online;
}

module _ (t : Shape) (cpus : List CpuRecord) (n : ℕ) (tally : CpuTally)
    (noted : TalliesFirst t cpus n tally) (mark : Option ℕ) (placed_online : Bool) where
  pub room_at : n < 2 ^ 16 - 1 → MayCountIn tally mark placed_online
  room_at small = record {
    marks = λ by within. (
        let each = noted.each in
        let are = noted.marks by (omega (arith, within, each)) in
        let most = few (is_marked_by cpus by) 0 n in
        let one = one_at_most (names mark by) in
        omega (arith, are, most, one, small));
    online =
        let are = noted.online in
        let most = few (is_placed_online t cpus) 0 n in
        let one = one_at_most placed_online in
        omega (arith, are, most, one, small);
  }

  pub one_counted : (now : CpuTally) → mark ≡ (get_or cpus n no_cpu).mark
      → placed_online ≡ (is_placed_in t n && (get_or cpus n no_cpu).online)
      → TalliesOneMore tally now mark placed_online → TalliesFirst t cpus (n + 1) now
  one_counted now mark_is online_is_so more = record {
    each = more.each ∙ noted.each;
    marks = λ by low. (
        let each = noted.each in
        let last = last_counted (is_marked_by cpus by) n in
        let was = noted.marks by low in
        let is = more.marks by (omega (arith, low, each)) in
        let at = ap (λ m. one_if (names m by)) mark_is in
        omega (arith, last, was, is, at));
    online =
        let last = last_counted (is_placed_online t cpus) n in
        let was = noted.online in
        let is = more.online in
        let at = ap one_if online_is_so in
        omega (arith, last, was, is, at);
  }

-- a CPU that isn't said to have marked another one has a count of none
pub count_is_none : (b : Bool) (n : ℕ) → (b ≡ true) ↔ (0 < n) → b ≡ false → n ≡ 0
count_is_none b n is unsaid = elim (cases_lt 0 n) [
  | inl some ↦ absurd (true≢false (sym (is.1 some) ∙ unsaid))
  | inr none ↦ omega (arith, none)
]

-- WHAT IS READ FROM IT
names_it : (o : Option ℕ) (c : ℕ) → names o c ≡ true → o ≡ Some c
names_it None c is = absurd (true≢false (sym is))
names_it (Some d) c is = ap Some (eqb-true d c is)

module _ (w : World) (tally : CpuTally) (noted : IsTallied w.tree w.cpus tally) (c : ℕ)
    (low : c < length w.cpus) where
  pub marks_none : get_or tally.marks c 0 ≡ 0 → MarksNobody w c
  marks_none zero d is = elim (cases_lt d (length w.cpus)) [
    | inl within ↦
        let some = some_counted (is_marked_by w.cpus c) (length w.cpus) d within
        (ap (λ o. names o c) is ∙ eq-eqb c c refl) in
        let are = noted.marks c low in
        absurd (omega (arith, some, are, zero))
    | inr past ↦
        none-some c (sym (ap (λ (y : CpuRecord). y.mark) (get_or_past w.cpus d no_cpu past)) ∙ is)
  ]

  pub marks_some : 0 < get_or tally.marks c 0 → MarksNobody w c → ⊥
  marks_some some none =
      let are = noted.marks c low in
      let (d, within, is) =
      one_there (is_marked_by w.cpus c) 0 (length w.cpus) (omega (arith, some, are)) in
      none d (names_it (cpu_of w d).mark c is)

  module _ (placed_online : Bool)
      (online_is_so : placed_online ≡ (is_placed_in w.tree c && (cpu_of w c).online)) where
    abbrev others : ℕ → Bool
    others = without (is_placed_online w.tree w.cpus) c

    pub others_some : one_if placed_online < tally.online → OthersOnline w c
    others_some more =
        let all = online_is w.tree w.cpus c low tally noted (cpu_of w c).mark placed_online refl
        online_is_so in
        let (d, within, is) = one_there others 0 (length w.cpus) (omega (arith, more, all)) in
        let (both, away) = and_parts (is_placed_online w.tree w.cpus d) (not (d == c)) is in
        let (placed, online) = and_parts (is_placed_in w.tree d) (cpu_of w d).online both in
        (d, (λ same. true≢false (sym away ∙ ap not (eq-eqb d c same))), placed, online)

    pub others_none : OthersOnline w c → one_if placed_online < tally.online
    others_none (d, apart, placed, online) = elim (cases_lt d (length w.cpus)) [
      | inl within ↦
          let all = online_is w.tree w.cpus c low tally noted (cpu_of w c).mark placed_online refl
          online_is_so in
          let some = some_counted others (length w.cpus) d within
          (without_there (is_placed_online w.tree w.cpus) c d apart
          ∙ (λ i. placed i && online i)) in
          omega (arith, all, some)
      | inr past ↦
          absurd
          (true≢false
          (sym online ∙ ap (λ (y : CpuRecord). y.online) (get_or_past w.cpus d no_cpu past)))
    ]
