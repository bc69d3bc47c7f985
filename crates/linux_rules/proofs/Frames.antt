-- the words of groups, and the late exchanges, where something else is learned
use Rattle.std.proofs.Common.{◌≡◌, ℕ, zero, suc, ◌<◌, Bool, true, false, List, [], ◌∷◌, ◌++◌}
use Rattle.std.proofs.Common.{Option, Some, None, refl, sym, ◌∙◌, ap, subst, arith, inl, inr}
use Rattle.std.specs.Prelude.{◌==◌, length, find, position, get_or, slice_set, cond}
use Rattle.std.proofs.lemmas.Bool.{cases_Bool, cond-true, cond-false, eq-eqb, eqb-true}
use Rattle.std.proofs.lemmas.List.Quantifiers.{position-Some}
use Rattle.linux_seen.specs.declared.seen.Word.{Word}
use Rattle.linux_seen.specs.declared.seen.GroupSeen.{GroupSeen}
use Rattle.linux_seen.specs.declared.seen.CpuSeen.{CpuSeen}
use Rattle.linux_seen.specs.Seen.{Sight, group_at, or_else, put_at, put_group, unknown_group}
use Rattle.linux_rules.specs.Exchanges.{with_cpu, with_group}
use Rattle.linux_rules.proofs.Places.{not_first}

-- ---- a group in the place of the one of its pointer

abbrev is_at : ℕ → GroupSeen → Bool
is_at p g = g.pointer == p

module _ (g : GroupSeen) where
  -- the groups with this one, one by one
  abbrev put : List GroupSeen → List GroupSeen
  put [] = g ∷ []
  put (h ∷ hs) = cond (is_at g.pointer h) (g ∷ hs) (h ∷ put hs)

  put_some : (gs : List GroupSeen) (i : ℕ) → i < length gs →
      is_at g.pointer (get_or gs i g) ≡ true →
      ((k : ℕ) → k < i → is_at g.pointer (get_or gs k g) ≡ false) → slice_set gs i g ≡ put gs
  put_some [] i within passes before = absurd (omega (arith, within))
  put_some (h ∷ hs) zero within passes before = sym (cond-true _ (g ∷ hs) (h ∷ put hs) passes)
  put_some (h ∷ hs) (suc i) within passes before =
      ap (λ ys. h ∷ ys) (put_some hs i (omega (arith, within)) passes
      (λ k below. before (suc k) (omega (arith, below))))
      ∙ sym (cond-false _ (g ∷ hs) (h ∷ put hs) (before 0 (omega arith)))

  put_none : (gs : List GroupSeen) → ((k : ℕ) → k < length gs → is_at g.pointer (get_or gs k g) ≡ false) →
      gs ++ g ∷ [] ≡ put gs
  put_none [] none = refl
  put_none (h ∷ hs) none =
      ap (λ ys. h ∷ ys) (put_none hs (λ k below. none (suc k) (omega (arith, below))))
      ∙ sym (cond-false _ (g ∷ hs) (h ∷ put hs) (none 0 (omega arith)))

  put_by : (gs : List GroupSeen) (o : Option ℕ) → position (is_at g.pointer) gs ≡ o →
      put_at o gs g ≡ put gs
  put_by gs None is = put_none gs (not_first (is_at g.pointer) gs g is)
  put_by gs (Some i) is =
      let at = position-Some (is_at g.pointer) gs i g is in put_some gs i at.0 at.1 at.2

  put_is : (gs : List GroupSeen) → put_group gs g ≡ put gs
  put_is gs = put_by gs (position (is_at g.pointer) gs) refl

  find_own : (gs : List GroupSeen) → find (is_at g.pointer) (put gs) ≡ Some g
  find_own [] = cond-true _ (Some g) None (eq-eqb g.pointer g.pointer refl)
  find_own (h ∷ hs) = elim (cases_Bool (is_at g.pointer h)) [
    | inl here ↦
        ap (find (is_at g.pointer)) (cond-true _ (g ∷ hs) (h ∷ put hs) here)
        ∙ cond-true _ (Some g) (find (is_at g.pointer) hs) (eq-eqb g.pointer g.pointer refl)
    | inr other ↦
        ap (find (is_at g.pointer)) (cond-false _ (g ∷ hs) (h ∷ put hs) other)
        ∙ cond-false _ (Some h) (find (is_at g.pointer) (put hs)) other ∙ find_own hs
  ]

  find_other : (p : ℕ) → (g.pointer == p) ≡ false → (gs : List GroupSeen) →
      find (is_at p) (put gs) ≡ find (is_at p) gs
  find_other p differ [] = cond-false _ (Some g) None differ
  find_other p differ (h ∷ hs) = elim (cases_Bool (is_at g.pointer h)) [
    | inl here ↦
        ap (find (is_at p)) (cond-true _ (g ∷ hs) (h ∷ put hs) here)
        ∙ cond-false _ (Some g) (find (is_at p) hs) differ
        ∙ sym (cond-false _ (Some h) (find (is_at p) hs)
        (ap (λ n. n == p) (eqb-true h.pointer g.pointer here) ∙ differ))
    | inr other ↦
        ap (find (is_at p)) (cond-false _ (g ∷ hs) (h ∷ put hs) other)
        ∙ ap (λ o. cond (is_at p h) (Some h) o) (find_other p differ hs)
  ]

-- ---- words

abbrev pub word_of : Sight → ℕ → Option Word
word_of s p = (group_at s p).word

abbrev found_word : ℕ → Option GroupSeen → Option Word
found_word p o = (or_else o (unknown_group p)).word

pub own_word : (s : Sight) (g : GroupSeen) → word_of (with_group s g) g.pointer ≡ g.word
own_word s g =
    ap (λ gs. found_word g.pointer (find (is_at g.pointer) gs)) (put_is g s.groups)
    ∙ ap (found_word g.pointer) (find_own g s.groups)

pub other_word : (s : Sight) (g : GroupSeen) (p : ℕ) → (g.pointer == p) ≡ false →
    word_of (with_group s g) p ≡ word_of s p
other_word s g p differ =
    ap (λ gs. found_word p (find (is_at p) gs)) (put_is g s.groups)
    ∙ ap (found_word p) (find_other g p differ s.groups)

pointer_of : (p : ℕ) (gs : List GroupSeen) →
    (or_else (find (is_at p) gs) (unknown_group p)).pointer ≡ p
pointer_of p [] = refl
pointer_of p (h ∷ hs) = elim (cases_Bool (is_at p h)) [
  | inl here ↦
      ap (λ o. (or_else o (unknown_group p)).pointer)
      (cond-true _ (Some h) (find (is_at p) hs) here) ∙ eqb-true h.pointer p here
  | inr other ↦
      ap (λ o. (or_else o (unknown_group p)).pointer)
      (cond-false _ (Some h) (find (is_at p) hs) other) ∙ pointer_of p hs
]

pub pointer_at : (s : Sight) (p : ℕ) → (group_at s p).pointer ≡ p
pointer_at s p = pointer_of p s.groups

-- ---- what keeps the words and the late exchanges

pub record Alike (s t : Sight) : Type 0 where
  pub words : (p : ℕ) → word_of t p ≡ word_of s p
  pub late : t.late ≡ s.late

pub alike_same : (s : Sight) → Alike s s
alike_same s = record { words = λ p. refl; late = refl }

pub alike_then : (s t u : Sight) → Alike s t → Alike t u → Alike s u
alike_then s t u a b = record { words = λ p. b.words p ∙ a.words p; late = b.late ∙ a.late }

pub alike_cpu : (s : Sight) (c : CpuSeen) → Alike s (with_cpu s c)
alike_cpu s c = record { words = λ p. refl; late = refl }

kept_word : (s : Sight) (g : GroupSeen) → word_of s g.pointer ≡ g.word → (p : ℕ) →
    word_of (with_group s g) p ≡ word_of s p
kept_word s g kept p = elim (cases_Bool (g.pointer == p)) [
  | inl same ↦
      subst (λ n. word_of (with_group s g) n ≡ word_of s n) (eqb-true g.pointer p same)
      (own_word s g ∙ sym kept)
  | inr differ ↦ other_word s g p differ
]

pub alike_group : (s : Sight) (p : ℕ) (g : GroupSeen) → g.pointer ≡ (group_at s p).pointer →
    g.word ≡ (group_at s p).word → Alike s (with_group s g)
alike_group s p g pointer word = record {
  words = kept_word s g (ap (word_of s) (pointer ∙ pointer_at s p) ∙ sym word);
  late = refl;
}
