-- which clocks give a bucket
use Rattle.std.proofs.Common.{◌≡◌, ℕ, zero, suc, ◌+◌, ◌*◌, ◌/◌, ◌%◌, ◌^◌, ◌<◌, ◌≤◌, ◌-◌, inl, inr}
use Rattle.std.proofs.Common.{true, ◌==◌, ◌||◌, ◌∙◌, ap, min, arith, refl, subst, sym, nat_le, nat_lt}
use Rattle.std.proofs.Math.Nat.{le-min, le_trans, min-le_left, min-le_right}
use Rattle.std.proofs.lemmas.Bool.{and_from, and_parts, cases_lt, eq-eqb, eqb-true, le-leb, leb-true, lt-ltb, or_cases}
use Rattle.std.proofs.lemmas.Bool.{or_left, or_right}
use Rattle.std.proofs.lemmas.Bool.Decides.{nat_tests}
use Rattle.wheel_core.specs.WheelExpiry.{cutoff, granularity, granule_end, greatest_timeout}
use Rattle.wheel_core.specs.WheelExpiry.{level_of_delay, level_start, wheel_expiry_of, wheel_level_of}
use Rattle.linux_timers.specs.Wheel.{FindsClocks, Gives, bucket_fits, gives, gives_past, latest_cut, latest_of}
use Rattle.linux_timers.specs.Wheel.{wheel_index_of}

-- shifting down by three bits a level divides by the granularity
pub by_shift : (level time : ℕ) → level < 9 → time / 2 ^ (3 * level) ≡ time / granularity level
by_shift zero time l = refl
by_shift (suc zero) time l = refl
by_shift (suc (suc zero)) time l = refl
by_shift (suc (suc (suc zero))) time l = refl
by_shift (suc (suc (suc (suc zero)))) time l = refl
by_shift (suc (suc (suc (suc (suc zero))))) time l = refl
by_shift (suc (suc (suc (suc (suc (suc zero)))))) time l = refl
by_shift (suc (suc (suc (suc (suc (suc (suc zero))))))) time l = refl
by_shift (suc (suc (suc (suc (suc (suc (suc (suc zero)))))))) time l = refl
by_shift (suc (suc (suc (suc (suc (suc (suc (suc (suc more))))))))) time l = absurd (omega arith)

-- ---- the levels of delays

small_delay : (delta : ℕ) → level_of_delay delta < 9
unfolding level_of_delay
small_delay delta = grind (arith, nat_tests)

first_level : (delta : ℕ) → delta < 63 → level_of_delay delta ≡ 0
unfolding level_of_delay
first_level delta l = grind (arith, nat_tests)

-- below the cutoff the wheel expiry is the end of the granule at every level, also at level 0
row : (expires clock : ℕ) → clock ≤ expires → expires - clock < cutoff
    → wheel_expiry_of expires clock ≡ granule_end (level_of_delay (expires - clock)) expires
unfolding wheel_expiry_of
row expires clock l n =
    elim (cases_lt (expires - clock) 63) [
      | inl h ↦ let first = first_level (expires - clock) h in rw first (grind (arith, nat_tests))
      | inr h ↦ grind (arith, nat_tests)
    ]

row_level : (expires clock : ℕ) → clock ≤ expires
    → wheel_level_of expires clock ≡ level_of_delay (expires - clock)
unfolding wheel_level_of
row_level expires clock l = grind (arith, nat_tests)

-- ---- one clock gives what another one gives

-- two clocks from which an expiry has one wheel expiry and one level
record Same (expires clock other : ℕ) : Type 0 where
  pub wheel : wheel_expiry_of expires other ≡ wheel_expiry_of expires clock
  pub level : wheel_level_of expires other ≡ wheel_level_of expires clock

same_gives : (expires clock other bucket index : ℕ) → Same expires clock other
    → gives expires clock bucket index ≡ true → gives expires other bucket index ≡ true
unfolding gives
same_gives expires clock other bucket index same is = rw (same.wheel, same.level) is

-- a delay between the least of a level and one of the level is of the level
between : (level delta nearer : ℕ) → level_of_delay delta ≡ suc level → level_start (suc level) ≤ nearer
    → nearer ≤ delta → level_of_delay nearer ≡ suc level
unfolding level_of_delay
between zero delta nearer is least less = grind (arith, nat_tests)
between (suc zero) delta nearer is least less = grind (arith, nat_tests)
between (suc (suc zero)) delta nearer is least less = grind (arith, nat_tests)
between (suc (suc (suc zero))) delta nearer is least less = grind (arith, nat_tests)
between (suc (suc (suc (suc zero)))) delta nearer is least less = grind (arith, nat_tests)
between (suc (suc (suc (suc (suc zero))))) delta nearer is least less = grind (arith, nat_tests)
between (suc (suc (suc (suc (suc (suc zero)))))) delta nearer is least less = grind (arith, nat_tests)
between (suc (suc (suc (suc (suc (suc (suc zero))))))) delta nearer is least less = grind (arith, nat_tests)
between (suc (suc (suc (suc (suc (suc (suc (suc more)))))))) delta nearer is least less =
    absurd (grind (arith, nat_tests))

-- a delay of a level is at least the least
at_least : (level delta : ℕ) → level_of_delay delta ≡ suc level → level_start (suc level) ≤ delta
unfolding level_of_delay
at_least zero delta is = grind (arith, nat_tests)
at_least (suc zero) delta is = grind (arith, nat_tests)
at_least (suc (suc zero)) delta is = grind (arith, nat_tests)
at_least (suc (suc (suc zero))) delta is = grind (arith, nat_tests)
at_least (suc (suc (suc (suc zero)))) delta is = grind (arith, nat_tests)
at_least (suc (suc (suc (suc (suc zero))))) delta is = grind (arith, nat_tests)
at_least (suc (suc (suc (suc (suc (suc zero)))))) delta is = grind (arith, nat_tests)
at_least (suc (suc (suc (suc (suc (suc (suc zero))))))) delta is = grind (arith, nat_tests)
at_least (suc (suc (suc (suc (suc (suc (suc (suc more)))))))) delta is =
    absurd (grind (arith, nat_tests))

-- from a clock at level 0 up to the bucket's expiry, which is past the asked one or the clock itself
zero_delay : (delta : ℕ) → level_of_delay delta ≡ 0 → delta < 63
unfolding level_of_delay
zero_delay delta is = grind (arith, nat_tests)

past_row : (expires clock : ℕ) → expires < clock
    → (wheel_expiry_of expires clock ≡ clock) × (wheel_level_of expires clock ≡ 0)
unfolding wheel_expiry_of wheel_level_of
past_row expires clock past = (grind (arith, nat_tests), grind (arith, nat_tests))

next_row : (expires clock : ℕ) → clock ≤ expires → expires - clock < 63
    → (wheel_expiry_of expires clock ≡ expires + 1) × (wheel_level_of expires clock ≡ 0)
next_row expires clock l near =
    let first = first_level (expires - clock) near in
    let wheel = row expires clock l (omega arith) in
    (rw (wheel, first) (omega arith), rw (row_level expires clock l) first)

zero_same : (expires clock other : ℕ) → wheel_level_of expires clock ≡ 0 → clock ≤ other
    → other ≤ wheel_expiry_of expires clock → Same expires clock other
zero_same expires clock other level from to =
    elim (cases_lt expires clock) [
      | inl past ↦
          let one = past_row expires clock past in
          let two = past_row expires other (omega arith) in
          record { wheel = omega arith; level = omega arith }
      | inr here ↦
          let near = zero_delay (expires - clock) (sym (row_level expires clock here) ∙ level) in
          let one = next_row expires clock here near in
          elim (cases_lt expires other) [
            | inl past ↦
                let two = past_row expires other past in
                record { wheel = omega arith; level = omega arith }
            | inr still ↦
                let two = next_row expires other still (omega arith) in
                record { wheel = omega arith; level = omega arith }
          ]
    ]

-- from a clock at a level up to the one from which the delay is the least of the level
suc_same : (level expires clock other : ℕ) → wheel_level_of expires clock ≡ suc level
    → expires - clock < cutoff → clock ≤ other → other ≤ expires - level_start (suc level)
    → Same expires clock other
suc_same level expires clock other is near from to =
    elim (cases_lt expires clock) [
      | inl past ↦ let one = past_row expires clock past in absurd (omega arith)
      | inr here ↦
          let one = sym (row_level expires clock here) ∙ is in
          let least = at_least level (expires - clock) one in
          let within : other ≤ expires = omega arith in
          let two = between level (expires - clock) (expires - other) one (omega arith) (omega arith) in
          let wheel = row expires clock here near in
          let moved = row expires other within (omega arith) in
          record {
            wheel = moved ∙ ap (λ (l : ℕ). granule_end l expires) (two ∙ sym one) ∙ sym wheel;
            level = row_level expires other within ∙ two ∙ sym is;
          }
    ]

-- from the cutoff on, up to the last clock of its granule
far_row : (expires clock : ℕ) → clock + cutoff ≤ expires
    → (wheel_expiry_of expires clock ≡ granule_end 8 (clock + greatest_timeout))
    × (wheel_level_of expires clock ≡ 8)
unfolding wheel_expiry_of wheel_level_of level_of_delay
far_row expires clock far = (grind (arith, nat_tests), grind (arith, nat_tests))

far_same : (expires clock other : ℕ) → clock + cutoff ≤ expires → clock ≤ other
    → other ≤ expires - cutoff
    → other ≤ wheel_expiry_of expires clock - 1 - greatest_timeout → Same expires clock other
far_same expires clock other far from to within =
    let one = far_row expires clock far in
    let two = far_row expires other (omega arith) in
    record { wheel = omega arith; level = omega arith }

-- ---- the latest clock that gives a bucket

small_level : (expires clock : ℕ) → wheel_level_of expires clock < 9
small_level expires clock =
    elim (cases_lt expires clock) [
      | inl past ↦ let one = past_row expires clock past in omega arith
      | inr here ↦
          let one = row_level expires clock here in
          let fits = small_delay (expires - clock) in
          omega arith
    ]

-- what a bucket's number says of its level
place_level : (level place : ℕ) → level < 9
    → ((64 * level + place % 64) / 64 ≡ level) × (64 * level + place % 64 < 576)
place_level level place l = (omega arith, omega arith)

-- a clock that is tried is no sooner than one that gives the bucket, and gives it too
record Tried (expires clock other : ℕ) : Type 0 where
  pub later : clock ≤ other
  pub same : Same expires clock other

module _ (now expires clock : ℕ) (l : clock ≤ now + 1) where
  abbrev wheel : ℕ
  wheel = wheel_expiry_of expires clock

  -- the two clocks that are tried
  abbrev NearFits : ℕ → Type 0
  NearFits level = Tried expires clock (min (now + 1) (latest_of level expires wheel))

  abbrev FarFits : Type 0
  FarFits = Tried expires clock (min (now + 1) (latest_cut expires wheel))

  near_zero : wheel_level_of expires clock ≡ 0 → NearFits 0
  near_zero is =
      let upto : clock ≤ wheel = elim (cases_lt expires clock) [
        | inl past ↦ let one = past_row expires clock past in omega arith
        | inr here ↦
            let near = zero_delay (expires - clock) (sym (row_level expires clock here) ∙ is) in
            let one = next_row expires clock here near in
            omega arith
      ] in
      record {
        later = le-min l upto;
        same = zero_same expires clock (min (now + 1) wheel) is (le-min l upto) (min-le_right (now + 1) wheel);
      }

  near_suc : (level : ℕ) → wheel_level_of expires clock ≡ suc level → expires - clock < cutoff
      → NearFits (suc level)
  near_suc level is near =
      let upto : clock ≤ expires - level_start (suc level) = elim (cases_lt expires clock) [
        | inl past ↦ let one = past_row expires clock past in absurd (omega arith)
        | inr here ↦
            let least = at_least level (expires - clock) (sym (row_level expires clock here) ∙ is) in
            omega arith
      ] in
      record {
        later = le-min l upto;
        same = suc_same level expires clock (min (now + 1) (expires - level_start (suc level))) is near
            (le-min l upto) (min-le_right (now + 1) (expires - level_start (suc level)));
      }

  near_fits : (level : ℕ) → wheel_level_of expires clock ≡ level → expires - clock < cutoff
      → NearFits level
  near_fits zero is near = near_zero is
  near_fits (suc level) is near = near_suc level is near

  far_fits : clock + cutoff ≤ expires → FarFits
  far_fits far =
      let one = far_row expires clock far in
      let cut = min (expires - cutoff) (wheel - 1 - greatest_timeout) in
      let upto : clock ≤ cut = le-min (omega arith) (omega arith) in
      record {
        later = le-min l upto;
        same = far_same expires clock (min (now + 1) cut) far (le-min l upto)
            (le_trans (min-le_right (now + 1) cut) (min-le_left (expires - cutoff) (wheel - 1 - greatest_timeout)))
            (le_trans (min-le_right (now + 1) cut) (min-le_right (expires - cutoff) (wheel - 1 - greatest_timeout)));
      }

-- ---- some clock gives the bucket exactly where one of the two that are tried does

gives_parts : (expires clock bucket index : ℕ) → gives expires clock bucket index ≡ true
    → (wheel_expiry_of expires clock ≡ bucket) × (wheel_index_of expires clock ≡ index)
unfolding gives
gives_parts expires clock bucket index is =
    let both = and_parts (wheel_expiry_of expires clock == bucket)
    (wheel_index_of expires clock == index) is in (
      eqb-true (wheel_expiry_of expires clock) bucket both.0,
      eqb-true (wheel_index_of expires clock) index both.1,
    )

gives_own : (expires clock : ℕ)
    → gives expires clock (wheel_expiry_of expires clock) (wheel_index_of expires clock) ≡ true
unfolding gives
gives_own expires clock =
    and_from (wheel_expiry_of expires clock == wheel_expiry_of expires clock)
    (wheel_index_of expires clock == wheel_index_of expires clock)
    (eq-eqb (wheel_expiry_of expires clock) (wheel_expiry_of expires clock) refl)
    (eq-eqb (wheel_index_of expires clock) (wheel_index_of expires clock) refl)

-- the bucket of a clock is that of a clock which is tried for it
tried_gives : (least expires clock other : ℕ) → least ≤ clock → Tried expires clock other
    → gives_past least expires other (wheel_expiry_of expires clock) (wheel_index_of expires clock) ≡ true
unfolding gives_past
tried_gives least expires clock other from tried =
    let wheel = wheel_expiry_of expires clock in
    let index = wheel_index_of expires clock in
    and_from (nat_le least other) (gives expires other wheel index)
    (le-leb least other (le_trans from tried.later))
    (same_gives expires clock other wheel index tried.same (gives_own expires clock))

-- the bucket that a clock gives is found
found : (least now expires clock : ℕ) → least ≤ clock → clock ≤ now + 1
    → bucket_fits least now expires (wheel_expiry_of expires clock) (wheel_index_of expires clock) ≡ true
unfolding bucket_fits
found least now expires clock from l =
    let wheel = wheel_expiry_of expires clock in
    let level = wheel_level_of expires clock in
    let index = wheel_index_of expires clock in
    let place = place_level level (wheel / granularity level) (small_level expires clock) in
    let near = gives_past least expires (min (now + 1) (latest_of (index / 64) expires wheel)) wheel index in
    let far = gives_past least expires (min (now + 1) (latest_cut expires wheel)) wheel index in
    let some : (near || far) ≡ true = elim (cases_lt (expires - clock) cutoff) [
      | inl h ↦
          or_left near far
          (subst (λ (k : ℕ). gives_past least expires (min (now + 1) (latest_of k expires wheel)) wheel index ≡ true)
          (sym place.0)
          (tried_gives least expires clock (min (now + 1) (latest_of level expires wheel)) from
          (near_fits now expires clock l level refl h)))
      | inr h ↦
          or_right near far
          (tried_gives least expires clock (min (now + 1) (latest_cut expires wheel)) from
          (far_fits now expires clock l (omega arith)))
    ] in
    and_from (nat_lt index 576) (near || far) (lt-ltb index 576 place.1) some

-- .. and each bucket that fits is given by a clock that was tried
past_gives : (least now expires clock bucket index : ℕ) → clock ≤ now + 1
    → gives_past least expires clock bucket index ≡ true
    → (clock : ℕ) × Gives least now expires bucket index clock
unfolding gives_past
past_gives least now expires clock bucket index to is =
    let both = and_parts (nat_le least clock) (gives expires clock bucket index) is in
    (clock, record { from = leb-true least clock both.0; to = to; gives = both.1 })

given : (least now expires bucket index : ℕ) → bucket_fits least now expires bucket index ≡ true
    → (clock : ℕ) × Gives least now expires bucket index clock
unfolding bucket_fits
given least now expires bucket index is =
    let one = min (now + 1) (latest_of (index / 64) expires bucket) in
    let two = min (now + 1) (latest_cut expires bucket) in
    let some = (and_parts (nat_lt index 576)
    (gives_past least expires one bucket index || gives_past least expires two bucket index) is).1 in
    elim (or_cases (gives_past least expires one bucket index)
    (gives_past least expires two bucket index) some) [
      | inl h ↦
          past_gives least now expires one bucket index
          (min-le_left (now + 1) (latest_of (index / 64) expires bucket)) h
      | inr h ↦
          past_gives least now expires two bucket index
          (min-le_left (now + 1) (latest_cut expires bucket)) h
    ]

pub finds_clocks : FindsClocks
finds_clocks least now expires bucket index = (
  given least now expires bucket index,
  λ h. let parts = gives_parts expires h.0 bucket index h.1.gives in
      subst (λ (b : ℕ). bucket_fits least now expires b index ≡ true) parts.0
      (subst (λ (i : ℕ). bucket_fits least now expires (wheel_expiry_of expires h.0) i ≡ true) parts.1
      (found least now expires h.0 h.1.from h.1.to)),
)
