-- for crates above: no two words of a layout stand at one index
use Rattle.std.proofs.Common.{◌≡◌, ◌<◌, ℕ, arith, ap}
use Rattle.tm_base.specs.declared.names.CpuId.{CpuId}
use Rattle.tm_base.specs.declared.names.GroupId.{GroupId}
use Rattle.tm_base.specs.declared.names.TimerId.{TimerId}
use Rattle.shared_words.specs.declared.layout.Layout.{Layout}
use Rattle.shared_words.specs.declared.layout.SharedWord.{SharedWord}
use Rattle.shared_words.specs.declared.layout.SharedWord.TheVariants.{State, Lock, Slot, Cpu, Timer}
use Rattle.shared_words.specs.Layout.{IsWordOf, count_of, index_of}

abbrev group : ℕ → GroupId
group g = record { 0 = g }

abbrev cpu : ℕ → CpuId
cpu c = record { 0 = c }

abbrev timer : ℕ → TimerId
timer t = record { 0 = t }

pub same_word : (l : Layout) (v w : SharedWord) → IsWordOf l v → IsWordOf l w
    → index_of l v ≡ index_of l w → v ≡ w
same_word l (State g) (State h) a b e = ap (λ n. State (group n)) {x = g.0} {y = h.0} (omega arith)
same_word l (State g) (Lock h) a b e = absurd (omega arith)
same_word l (State g) (Slot h k) a b e = absurd (omega (arith, b.1))
same_word l (State g) (Cpu c) a b e = absurd (omega arith)
same_word l (State g) (Timer t) a b e = absurd (omega arith)
same_word l (Lock g) (State h) a b e = absurd (omega arith)
same_word l (Lock g) (Lock h) a b e = ap (λ n. Lock (group n)) {x = g.0} {y = h.0} (omega arith)
same_word l (Lock g) (Slot h k) a b e = absurd (omega (arith, b.1))
same_word l (Lock g) (Cpu c) a b e = absurd (omega arith)
same_word l (Lock g) (Timer t) a b e = absurd (omega arith)
same_word l (Slot g k) (State h) a b e = absurd (omega (arith, a.1))
same_word l (Slot g k) (Lock h) a b e = absurd (omega (arith, a.1))
same_word l (Slot g k) (Slot h j) a b e =
    let x : g.0 ≡ h.0 = omega (arith, a.1, b.1) in
    let y : k ≡ j = omega (arith, a.1, b.1) in
    λ i. Slot (group (x i)) (y i)
same_word l (Slot g k) (Cpu c) a b e = absurd (omega (arith, a.0, a.1))
same_word l (Slot g k) (Timer t) a b e = absurd (omega (arith, a.0, a.1))
same_word l (Cpu c) (State h) a b e = absurd (omega arith)
same_word l (Cpu c) (Lock h) a b e = absurd (omega arith)
same_word l (Cpu c) (Slot h k) a b e = absurd (omega (arith, b.0, b.1))
same_word l (Cpu c) (Cpu d) a b e = ap (λ n. Cpu (cpu n)) {x = c.0} {y = d.0} (omega arith)
same_word l (Cpu c) (Timer t) a b e = absurd (omega arith)
same_word l (Timer t) (State h) a b e = absurd (omega arith)
same_word l (Timer t) (Lock h) a b e = absurd (omega arith)
same_word l (Timer t) (Slot h k) a b e = absurd (omega (arith, b.0, b.1))
same_word l (Timer t) (Cpu d) a b e = absurd (omega arith)
same_word l (Timer t) (Timer u) a b e = ap (λ n. Timer (timer n)) {x = t.0} {y = u.0} (omega arith)

-- no word but word 0 stands at 0
pub index_above : (l : Layout) (w : SharedWord) → 0 < index_of l w
index_above l (State g) = omega arith
index_above l (Lock g) = omega arith
index_above l (Slot g k) = omega arith
index_above l (Cpu c) = omega arith
index_above l (Timer t) = omega arith

pub index_below : (l : Layout) (w : SharedWord) → IsWordOf l w → index_of l w < count_of l
index_below l (State g) a = omega arith
index_below l (Lock g) a = omega arith
index_below l (Slot g k) a = omega (arith, a.0, a.1)
index_below l (Cpu c) a = omega arith
index_below l (Timer t) a = omega arith
