-- for crates above: the word of a state, put together and taken apart
use Rattle.std.proofs.Common.{◌≡◌, ◌==◌, ℕ, ◌^◌, ◌+◌, ◌*◌, ◌/◌, ◌%◌, ◌<◌, inl, inr, Option, Some, None, false, subst, ap, ◌∙◌, refl, arith, bit_or, bit_and}
use Rattle.std.specs.Int.{trailing_zeros, w8}
use Rattle.std.proofs.lemmas.Bool.{cases_eq, cases_lt, ne_eqb}
use Rattle.std.proofs.lemmas.Nat.{or_shifted, and_mask, pow_below, pow_pos}
use Rattle.std.proofs.lemmas.Nat.Bits.{bit_at_above, bit_at-trailing_zeros, bit_at-pow_other}
use Rattle.group_word.specs.declared.state.GroupState.{GroupState}
use Rattle.group_word.specs.Group.{IsActive, GroupLaw}
use Rattle.group_word.specs.State.{IsLawfulState, IsStateOf, lowest_child, migrator_bits, state_word}

-- an active child is below 8
is_child : (active m : ℕ) → active < 2 ^ 8 → IsActive active m → m < 8
is_child active m eight is = elim (cases_lt m 8) [
  | inl low ↦ low
  | inr high ↦ absurd (omega (arith, bit_at_above active 8 m eight high))
]

-- so is a migrator
pub migrator_child : (s : GroupState) → IsLawfulState s → (m : ℕ) → s.migrator ≡ Some m → m < 8
migrator_child s law m e =
    is_child s.active m law.eight_children (subst (λ o. GroupLaw s.active o) e law.group)

-- a migrator as one bit has eight bits
mark_fits : (migrator : Option ℕ) → ((m : ℕ) → migrator ≡ Some m → m < 8) → migrator_bits migrator < 2 ^ 8
mark_fits None child = omega arith
mark_fits (Some m) child = pow_below m 8 (child m refl)

-- the three fields, side by side
fields : (active mark seq : ℕ) → active < 2 ^ 8 → mark < 2 ^ 8 → seq < 2 ^ 48 → bit_or (bit_or (seq * 65536 % 18446744073709551616) (mark * 256 % 18446744073709551616)) active ≡ active + 2 ^ 8 * mark + 2 ^ 16 * seq
fields active mark seq a m s =
    let high : seq * 65536 % 18446744073709551616 ≡ seq * 2 ^ 16 = omega arith in
    let middle : mark * 256 % 18446744073709551616 ≡ mark * 256 = omega arith in
    let two = or_shifted seq 16 (mark * 256) (omega arith) in
    let together : seq * 2 ^ 16 + mark * 256 ≡ (seq * 256 + mark) * 2 ^ 8 = omega arith in
    rw (high, middle, two, together) (omega (arith, or_shifted (seq * 256 + mark) 8 active a))

-- a lawful state's word
pub packed : (s : GroupState) → IsLawfulState s → bit_or (bit_or (s.seq * 65536 % 18446744073709551616) (migrator_bits s.migrator * 256 % 18446744073709551616)) s.active ≡ state_word s
packed s law =
    fields s.active (migrator_bits s.migrator) s.seq law.eight_children (mark_fits s.migrator (migrator_child s law)) law.sequence

-- what a word holds where a lawful state has it
pub parts : (word : ℕ) (s : GroupState) → IsStateOf word s → (bit_and word 255 ≡ s.active) × (bit_and (word / 256) 255 ≡ migrator_bits s.migrator) × (word / 65536 ≡ s.seq)
parts word s is =
    let eight = is.lawful.eight_children in
    let mark = mark_fits s.migrator (migrator_child s is.lawful) in
    let spelled = is.spelled in
    (and_mask word 8 ∙ omega arith, and_mask (word / 256) 8 ∙ omega arith, omega arith)

-- the lowest child of one bit is that child
lowest_of_mark : (migrator : Option ℕ) → ((m : ℕ) → migrator ≡ Some m → m < 8) → lowest_child (migrator_bits migrator) ≡ migrator
lowest_of_mark None child = refl
lowest_of_mark (Some m) child =
    let at = bit_at-trailing_zeros w8 (2 ^ m) (pow_pos m) (pow_below m 8 (child m refl)) in
    let there : (2 ^ m == 0) ≡ false = ne_eqb (2 ^ m) 0 (λ e. omega (arith, pow_pos m)) in
    rw there (elim (cases_eq (trailing_zeros w8 (2 ^ m)) m) [
      | inl same ↦ ap Some same
      | inr other ↦ absurd (omega (arith, at.1, bit_at-pow_other m (trailing_zeros w8 (2 ^ m)) other))
    ])

-- the migrator of a lawful state is the lowest child of the bit that its word has for it
pub migrator_back : (word : ℕ) (s : GroupState) (migrator : Option ℕ) → migrator ≡ lowest_child (bit_and (word / 256) 255) → IsStateOf word s → migrator ≡ s.migrator
migrator_back word s migrator e is =
    e ∙ (ap lowest_child (parts word s is).1 ∙ lowest_of_mark s.migrator (migrator_child s is.lawful))

-- the state that was read is the one that has this word
pub state_back : (word : ℕ) (s : GroupState) (migrator : Option ℕ) → migrator ≡ lowest_child (bit_and (word / 256) 255) → IsStateOf word s → ◌≡◌ {A = GroupState} (record { active = bit_and word 255; migrator = migrator; seq = word / 65536 }) s
state_back word s migrator e is =
    let p = parts word s is in
    let m = migrator_back word s migrator e is in
    λ i. record { active = p.0 i; migrator = m i; seq = p.2 i }
