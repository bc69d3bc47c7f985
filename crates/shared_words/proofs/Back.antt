-- for crates above: what a word was made of, read off the word
use Rattle.std.proofs.Common.{◌≡◌, ◌==◌, ◌+◌, ◌-◌, ◌*◌, ◌/◌, ◌%◌, ◌^◌, ◌<◌, ℕ, Bool, true, false}
use Rattle.std.proofs.Common.{Option, Some, None, arith, bit_or, max, refl, sym, ap, ◌∙◌}
use Rattle.std.specs.Prelude.{not, is_some, option_map}
use Rattle.std.specs.Int.{bit_at, from_bool}
use Rattle.std.specs.Option.{ForSome}
use Rattle.std.proofs.lemmas.Bool.{eq-eqb, ne_eqb}
use Rattle.std.proofs.lemmas.Nat.{or_shifted, pow_below, pow_pos}
use Rattle.std.proofs.lemmas.Nat.Bits.{bit_at_or, same_from_bits}
use Rattle.tm_base.specs.declared.names.Class.{Class}
use Rattle.tm_base.specs.declared.names.Class.TheVariants.{Pinned, Global, Deferrable}
use Rattle.tm_base.specs.declared.names.CpuId.{CpuId}
use Rattle.event_queue.specs.declared.event.Event.{Event}
use Rattle.event_queue.specs.EventMap as events
use Rattle.event_queue.specs.Word.{event_of, slot_of, slot_word}
use Rattle.group_word.specs.declared.state.GroupState.{GroupState}
use Rattle.group_word.specs.State.{IsLawfulState, IsStateOf, migrator_bits, state_word}
use Rattle.group_word.proofs.Words.{migrator_child, parts, state_back}
use Rattle.cpu_word.specs.declared.state.CpuState.{CpuState}
use Rattle.cpu_word.specs.Word as cpus
use Rattle.cpu_word.proofs.Fields.{bit_low, mark_low}
use Rattle.shared_words.specs.declared.spot.Spot.{Spot}
use Rattle.shared_words.specs.declared.spot.TheConstants.{CLASSES}
use Rattle.shared_words.specs.Exchanges.{shows_migrator}
use Rattle.shared_words.specs.Words.{FitsSpot, class_number, holder_of, lock_word}
use Rattle.shared_words.specs.Words.{spot_of, spot_word, word_of_slot}

-- STATES
-- a word is that of one lawful state
pub state_injective : (word : ℕ) (s t : GroupState) → IsStateOf word s → IsStateOf word t → s ≡ t
state_injective word s t is it = sym (state_back word s _ refl is) ∙ state_back word t _ refl it

-- the sequence stands above the other fields
pub seq_of : (word : ℕ) (s : GroupState) → IsStateOf word s → word / 2 ^ 16 ≡ s.seq
seq_of word s is = (parts word s is).2

mark_fits : (m : Option ℕ) → ((k : ℕ) → m ≡ Some k → k < 8) → migrator_bits m < 2 ^ 8
mark_fits None child = omega arith
mark_fits (Some k) child = pow_below k 8 (child k refl)

none_mark : (m : Option ℕ) → (migrator_bits m == 0) ≡ not (is_some m)
none_mark None = refl
none_mark (Some k) = ne_eqb (2 ^ k) 0 (λ e. omega (arith, pow_pos k))

-- a state has a migrator where its word shows one
pub migrator_shown : (word : ℕ) (s : GroupState) → IsStateOf word s
    → shows_migrator word ≡ is_some s.migrator
migrator_shown word s is = ap (λ m. not (m == 0)) (parts word s is).1 ∙ back s.migrator
  where
    back : (m : Option ℕ) → not (migrator_bits m == 0) ≡ is_some m
    back None = refl
    back (Some k) = ap not (none_mark (Some k))

-- LOCKS
pub lock_back : (h : Option ℕ) → ForSome h (λ c. c < 2 ^ 16) → holder_of (lock_word h) ≡ h
lock_back None fits = refl
lock_back (Some c) fits =
    let low = fits c refl in
    let e : (1 + c - 1) % 2 ^ 16 ≡ c = omega arith in
    rw (ne_eqb (1 + c) 0 (λ z. omega arith)) (ap Some e)

-- TIMERS
spot_at : (c : ℕ) (class : Class) → c < 2 ^ 16
    → spot_of (1 + CLASSES * c + class_number class)
    ≡ Some (record { cpu = record { 0 = c }; class = class })
spot_at c Pinned low =
    let a : (1 + 3 * c + 0 - 1) / 3 % 2 ^ 16 ≡ c = omega arith in
    let b : (1 + 3 * c + 0 - 1) % 3 ≡ 0 = omega arith in
    rw (ne_eqb (1 + 3 * c + 0) 0 (λ z. omega arith), a, b) refl
spot_at c Global low =
    let a : (1 + 3 * c + 1 - 1) / 3 % 2 ^ 16 ≡ c = omega arith in
    let b : (1 + 3 * c + 1 - 1) % 3 ≡ 1 = omega arith in
    rw (ne_eqb (1 + 3 * c + 1) 0 (λ z. omega arith), a, b) refl
spot_at c Deferrable low =
    let a : (1 + 3 * c + 2 - 1) / 3 % 2 ^ 16 ≡ c = omega arith in
    let b : (1 + 3 * c + 2 - 1) % 3 ≡ 2 = omega arith in
    rw (ne_eqb (1 + 3 * c + 2) 0 (λ z. omega arith), a, b) refl

pub spot_back : (s : Option Spot) → ForSome s FitsSpot → spot_of (spot_word s) ≡ s
spot_back None fits = refl
spot_back (Some s) fits = spot_at s.cpu.0 s.class (fits s refl)

-- SLOTS
abbrev low_of : Event → ℕ
low_of e = e.expiry + 2 ^ 48 * e.cpu.0

low_fits : (e : Event) → events.FitsWord e → low_of e < 2 ^ 58
low_fits e fits = omega (arith, fits.expiry, fits.cpu)

marked_at : (low : ℕ) (ignored : Bool) → low < 2 ^ 58
    → bit_at (low + 2 ^ 58 * from_bool ignored + 2 ^ 59) 58 ≡ from_bool ignored
marked_at low true l = omega arith
marked_at low false l = omega arith

is_one : (b : Bool) → (from_bool b == 1) ≡ b
is_one true = refl
is_one false = refl

event_back : (e : Event) → events.FitsWord e → event_of (slot_word (Some e)) ≡ e
event_back e fits =
    let m = bit_low e.ignored in
    let expiry : slot_word (Some e) % 2 ^ 48 ≡ e.expiry = omega (arith, fits.expiry) in
    let cpu : slot_word (Some e) / 2 ^ 48 % 2 ^ 10 ≡ e.cpu.0 =
    omega (arith, fits.expiry, fits.cpu, m) in
    let mark = ap (λ n. n == 1) (marked_at (low_of e) e.ignored (low_fits e fits))
    ∙ is_one e.ignored in
    λ i. record { expiry = expiry i; cpu = record { 0 = cpu i }; ignored = mark i }

there : (e : Event) → events.FitsWord e → slot_of (slot_word (Some e)) ≡ Some e
there e fits =
    let m = bit_low e.ignored in
    let present : bit_at (slot_word (Some e)) 59 ≡ 1 = omega (arith, fits.expiry, fits.cpu, m) in
    rw (eq-eqb (bit_at (slot_word (Some e)) 59) 1 present) (ap Some (event_back e fits))

-- an empty slot says so, whichever of its bits is left
pub slot_back : (stray : Bool) (e : Option Event) → ForSome e events.FitsWord
    → slot_of (word_of_slot stray e) ≡ e
slot_back true None fits = refl
slot_back false None fits = refl
slot_back true (Some e) fits = there e (fits e refl)
slot_back false (Some e) fits = there e (fits e refl)

three : (x y z : ℕ) → max (max x y) z ≡ max (max x z) y
three x y z = omega arith

or_swap : (h l b : ℕ) → bit_or (bit_or h l) b ≡ bit_or (bit_or h b) l
or_swap h l b = same_from_bits _ _ (λ i.
    bit_at_or (bit_or h l) b i
    ∙ (ap (λ n. max n (bit_at b i)) (bit_at_or h l i)
    ∙ (three (bit_at h i) (bit_at l i) (bit_at b i)
    ∙ (ap (λ n. max n (bit_at l i)) (sym (bit_at_or h b i)) ∙ sym (bit_at_or (bit_or h b) l i)))))

with_mark : (high low : ℕ) → low < 2 ^ 58 → bit_or (high * 2 ^ 58) (2 ^ 58) ≡ 3 * 2 ^ 58
    → bit_or (high * 2 ^ 58 + low) (2 ^ 58) ≡ 3 * 2 ^ 58 + low
with_mark high low l three =
    ap (λ n. bit_or n (2 ^ 58)) (sym (or_shifted high 58 low l))
    ∙ (or_swap (high * 2 ^ 58) low (2 ^ 58)
    ∙ (ap (λ n. bit_or n low) three ∙ or_shifted 3 58 low l))

set_mark : (low : ℕ) (ignored : Bool) → low < 2 ^ 58
    → bit_or (low + 2 ^ 58 * from_bool ignored + 2 ^ 59) (2 ^ 58) ≡ low + 2 ^ 58 * 1 + 2 ^ 59
set_mark low true l =
    let a : low + 2 ^ 58 * 1 + 2 ^ 59 ≡ 3 * 2 ^ 58 + low = omega arith in
    ap (λ n. bit_or n (2 ^ 58)) a ∙ (with_mark 3 low l refl ∙ sym a)
set_mark low false l =
    let a : low + 2 ^ 58 * 0 + 2 ^ 59 ≡ 2 * 2 ^ 58 + low = omega arith in
    let b : 3 * 2 ^ 58 + low ≡ low + 2 ^ 58 * 1 + 2 ^ 59 = omega arith in
    ap (λ n. bit_or n (2 ^ 58)) a ∙ (with_mark 2 low l refl ∙ b)

-- a slot's word with its mark set: the event is ignored, and an empty slot keeps the bit
pub mark_slot : (stray : Bool) (e : Option Event) → ForSome e events.FitsWord
    → bit_or (word_of_slot stray e) (2 ^ 58)
    ≡ word_of_slot true (option_map events.as_ignored e)
mark_slot true None fits = refl
mark_slot false None fits = refl
mark_slot true (Some e) fits = set_mark (low_of e) e.ignored (low_fits e (fits e refl))
mark_slot false (Some e) fits = set_mark (low_of e) e.ignored (low_fits e (fits e refl))

-- CPUS
same_bit : (a b : Bool) → from_bool a ≡ from_bool b → a ≡ b
same_bit true true e = refl
same_bit true false e = absurd (omega arith)
same_bit false true e = absurd (omega arith)
same_bit false false e = refl

same_mark : (a b : Option CpuId) → cpus.mark_of a ≡ cpus.mark_of b → a ≡ b
same_mark None None e = refl
same_mark None (Some c) e = absurd (omega arith)
same_mark (Some c) None e = absurd (omega arith)
same_mark (Some c) (Some d) e =
    let n : c.0 ≡ d.0 = omega arith in λ i. Some (record { 0 = n i })

-- a word is that of one CPU's state
pub cpu_back : (word : ℕ) (s t : CpuState) → cpus.IsStateOf word s → cpus.IsStateOf word t → s ≡ t
cpu_back word s t is it =
    let a = bit_low s.online in
    let b = bit_low s.idle in
    let c = bit_low s.inside in
    let d = mark_low s.remote is.fits.marker in
    let a' = bit_low t.online in
    let b' = bit_low t.idle in
    let c' = bit_low t.inside in
    let d' = mark_low t.remote it.fits.marker in
    let e : cpus.cpu_word s ≡ cpus.cpu_word t = is.spelled ∙ sym it.spelled in
    let wakeup : s.wakeup ≡ t.wakeup = omega (arith, is.fits.wakeup, it.fits.wakeup) in
    let online : from_bool s.online ≡ from_bool t.online =
    omega (arith, is.fits.wakeup, it.fits.wakeup) in
    let idle : from_bool s.idle ≡ from_bool t.idle =
    omega (arith, is.fits.wakeup, it.fits.wakeup) in
    let inside : from_bool s.inside ≡ from_bool t.inside =
    omega (arith, is.fits.wakeup, it.fits.wakeup) in
    let remote : cpus.mark_of s.remote ≡ cpus.mark_of t.remote =
    omega (arith, is.fits.wakeup, it.fits.wakeup) in
    λ i. record {
      online = same_bit s.online t.online online i;
      idle = same_bit s.idle t.idle idle i;
      inside = same_bit s.inside t.inside inside i;
      remote = same_mark s.remote t.remote remote i;
      wakeup = wakeup i;
    }

-- WORDS HAVE 64 BITS
pub state_fits : (s : GroupState) → IsLawfulState s → state_word s < 2 ^ 64
state_fits s law =
    let eight = law.eight_children in
    let mark = mark_fits s.migrator (migrator_child s law) in
    omega (arith, law.sequence)

slot_low : (e : Event) → events.FitsWord e → slot_word (Some e) < 2 ^ 64
slot_low e fits = let m = bit_low e.ignored in omega (arith, fits.expiry, fits.cpu)

pub slot_fits : (stray : Bool) (e : Option Event) → ForSome e events.FitsWord
    → word_of_slot stray e < 2 ^ 64
slot_fits true None fits = omega arith
slot_fits false None fits = omega arith
slot_fits true (Some e) fits = slot_low e (fits e refl)
slot_fits false (Some e) fits = slot_low e (fits e refl)

pub cpu_fits : (s : CpuState) → cpus.FitsWord s → cpus.cpu_word s < 2 ^ 64
cpu_fits s fits =
    let a = bit_low s.online in
    let b = bit_low s.idle in
    let c = bit_low s.inside in
    let d = mark_low s.remote fits.marker in
    omega (arith, fits.wakeup)
