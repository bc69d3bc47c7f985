-- as many boxes as there are CPUs, apart and in order, are one for each CPU
use Rattle.std.proofs.Common.{◌≡◌, ◌≢◌, ℕ, zero, suc, ◌+◌, ◌<◌, ◌≤◌, List, [], ◌∷◌, length}
use Rattle.std.proofs.Common.{Some, refl, sym, ap, ◌∙◌, subst, arith}
use Rattle.std.specs.Prelude.{slice_get}
use Rattle.std.specs.List.Sorted.{IsNonDecreasingBy}
use Rattle.std.proofs.lemmas.Option.{none-some, same_Some}
use Rattle.core_world.specs.World.{World}
use Rattle.shared_rule.specs.Rule.{Apart, Each, box_cpu}
use Rattle.shared_rule.specs.Starts.{IsFull}
use Rattle.shared_rule.specs.Parts.{HeldPart}
use Rattle.shared_table.specs.Ended.{AreApart, BeganWith, number_of}
use Rattle.shared_table.specs.Joined.{boxes_of}

module _ {X : Type 0} (cpu : X → ℕ) where
  -- the CPUs of a list are those from k on, one after another
  abbrev pub FromOn : ℕ → List X → Type 0
  FromOn k [] = Unit {0}
  FromOn k (x ∷ xs) = (cpu x ≡ k) × FromOn (suc k) xs

  at_place : (k : ℕ) (xs : List X) → FromOn k xs → (i : ℕ) (x : X) → slice_get xs i ≡ Some x
      → cpu x ≡ k + i
  at_place k [] h i x e = absurd (none-some x e)
  at_place k (y ∷ ys) h zero x e =
      let a : cpu x ≡ cpu y = ap cpu (sym (same_Some _ _ e)) in
      let b = h.0 in omega (arith, a, b)
  at_place k (y ∷ ys) h (suc i) x e =
      let a = at_place (suc k) ys h.1 i x e in omega (arith, a)

  -- so a list of n from 0 on has one for each CPU
  pub full : (n : ℕ) (xs : List X) → length xs ≡ n → FromOn 0 xs → IsFull n cpu xs
  full n xs count h = record {
    count = count;
    order = λ i x e. let a = at_place 0 xs h i x e in omega (arith, a);
  }

  -- the CPUs of a list rise, and the first is at least k
  abbrev Rises : ℕ → List X → Type 0
  Rises k [] = Unit {0}
  Rises k (x ∷ xs) = (k ≤ cpu x) × Rises (suc (cpu x)) xs

  -- there are no more of them than numbers from k up to n
  few : (k n : ℕ) (xs : List X) → k ≤ n → Rises k xs → Each (λ x. cpu x < n) xs
      → k + length xs ≤ n
  few k n [] at r low = omega (arith, at)
  few k n (x ∷ xs) at r low =
      let a = low.0 in
      let b = r.0 in
      let c = few (suc (cpu x)) n xs (omega (arith, a)) r.1 low.1 in
      omega (arith, b, c)

  -- where there are as many, none is left out
  all_there : (k n : ℕ) (xs : List X) → n ≡ k + length xs → Rises k xs
      → Each (λ x. cpu x < n) xs → FromOn k xs
  all_there k n [] count r low = tt
  all_there k n (x ∷ xs) count r low =
      let a = low.0 in
      let b = r.0 in
      let c = few (suc (cpu x)) n xs (omega (arith, a)) r.1 low.1 in
      let is : cpu x ≡ k = omega (arith, b, c, count) in (
        is,
        all_there (suc k) n xs (omega (arith, count)) (subst (λ j. Rises (suc j) xs) is r.1) low.1,
      )

-- the boxes of parts in the order of their CPUs rise, where they are apart
rising : (k : ℕ) (ps : List HeldPart)
    → ((p : HeldPart) (later : List HeldPart) → ps ≡ p ∷ later → k ≤ number_of p)
    → IsNonDecreasingBy number_of ps → Apart box_cpu (boxes_of ps) → Rises box_cpu k (boxes_of ps)
rising k [] first up h = tt
rising k (p ∷ ps) first up h = (
  first p ps refl,
  rising (suc (number_of p)) ps (next ps up h.0)
      (λ i j d at within. up (suc i) (suc j) d (omega (arith, at)) (omega (arith, within))) h.1,
)
  where
    next : (qs : List HeldPart) → IsNonDecreasingBy number_of (p ∷ qs)
        → Each (λ b. box_cpu b ≢ box_cpu p.box) (boxes_of qs) → (q : HeldPart)
        (later : List HeldPart) → qs ≡ q ∷ later → suc (number_of p) ≤ number_of q
    next [] up ne q later e = absurd (cc)
    next (r ∷ rs) up ne q later e =
        let a : number_of p ≤ number_of r = up 0 1 p (omega arith) (omega arith) in
        let b = ne.0 in
        let is : r ≡ q = cc in
        let c : number_of r ≡ number_of q = ap number_of is in
        omega (arith, a, b, c)

-- boxes of CPUs of their opening are of CPUs of the run's
low_all : (o : World) (ps : List HeldPart) → Each (BeganWith o) ps
    → Each (λ b. b.cpu < length b.opening.cpus) (boxes_of ps)
    → Each (λ b. box_cpu b < length o.cpus) (boxes_of ps)
low_all o [] began low = tt
low_all o (p ∷ ps) began low = (
  subst (λ (w : World). p.box.cpu < length w.cpus) began.0 low.0,
  low_all o ps began.1 low.1,
)

count_boxes : (ps : List HeldPart) → length (boxes_of ps) ≡ length ps
count_boxes [] = refl
count_boxes (p ∷ ps) = ap suc (count_boxes ps)

-- boxes of a run, as many as CPUs, apart and in order, are those of all CPUs
pub all_boxes_there : (o : World) (ps : List HeldPart) → length ps ≡ length o.cpus
    → IsNonDecreasingBy number_of ps → Each (BeganWith o) ps → AreApart (boxes_of ps)
    → IsFull (length o.cpus) box_cpu (boxes_of ps)
all_boxes_there o ps count up began a =
    let n = length o.cpus in
    let many : length (boxes_of ps) ≡ n = count_boxes ps ∙ count in
    full box_cpu n (boxes_of ps) many
    (all_there box_cpu 0 n (boxes_of ps) (omega (arith, many))
    (rising 0 ps (λ p later e. omega arith) up a.apart) (low_all o ps began a.low))
