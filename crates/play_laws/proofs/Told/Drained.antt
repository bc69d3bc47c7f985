-- what a drain's lines tell is what it writes into the journals
use Rattle.std.proofs.Common.{◌≡◌, ℕ, zero, suc, ◌+◌, ◌≤◌, List, [], ◌∷◌, ◌++◌, Bool, true}
use Rattle.std.proofs.Common.{false, Option, Some, None, refl, sym, ap, ◌∙◌, subst, arith}
use Rattle.std.proofs.Common.{length, map}
use Rattle.std.specs.Prelude.{All, ◌==◌, filter, flat_map, if◌then◌else◌, is_some}
use Rattle.std.proofs.lemmas.Bool.{eq-eqb, ne_eqb}
use Rattle.std.proofs.lemmas.List.{append_assoc}
use Rattle.std.proofs.lemmas.List.Elements.{All-cons, All-head, All-nil, All-tail, filter-append}
use Rattle.tm_base.specs.declared.names.Class.{Class}
use Rattle.tm_base.specs.declared.names.CpuId.{CpuId}
use Rattle.wheel_core.specs.declared.item.Item.{Item}
use Rattle.wheel_core.specs.PlainBase.{IsSound, OutIsDue, PlainBase, after_out, item_of, next_out}
use Rattle.wheel_core.specs.PlainBase.{taken}
use Rattle.wheel_core.proofs.Plain.{all_after_out, due_out, gone_after_out, one_fewer_after_out}
use Rattle.wheel_core.proofs.Plain.{out_holds, sound_after_out}
use Rattle.cpu_bases.specs.declared.entry.Act.TheVariants as acts
use Rattle.cpu_bases.specs.declared.entry.Entry.{Entry}
use Rattle.cpu_bases.specs.CpuBases.{CpuBases, after_hand_out, base_of, drained, entry_of}
use Rattle.cpu_bases.specs.CpuBases.{handed_out, ticked_entry}
use Rattle.play_rules.specs.Timers.{due_items, item_then}
use Rattle.play_laws.specs.Told.Journals.{Deed, arms, by_journal}
use Rattle.play_laws.specs.Told.Journals.{hands_out, told_if}
use Rattle.play_laws.proofs.Work.Drains.{handed_is}
use Rattle.play_laws.proofs.Work.Homes.{all_apart}

-- WHAT GOES OUT of a base, one item after the other
module _ (now : ℕ) (class : Class) (by : CpuId) where
  abbrev pub handed_entry : Item → Entry
  handed_entry item = entry_of acts.Handed 0 now class item by

  abbrev pub all_handed : List Item → List Entry
  all_handed items = map handed_entry items ++ ticked_entry now class by ∷ []

  -- the journal of a drain of at least as many items as there are
  abbrev Writes : (most : ℕ) → Type 0
  Writes most = (b : CpuBases) → IsSound (base_of class b).items
      → length (base_of class b).items ≤ most
      → (drained most now class by b).journal
      ≡ b.journal ++ all_handed (due_items most now (base_of class b))

  none_left : (b : CpuBases) (item : Item) → IsSound (base_of class b).items
      → length (base_of class b).items ≤ 0 → next_out now (base_of class b) ≡ Some item → ⊥
  none_left b item sound few is =
      let base = base_of class b in
      let fewer = one_fewer_after_out now base item
      (subst (OutIsDue now base.items) is (due_out now base sound)) in
      omega (arith, few, fewer)

  stops : (b : CpuBases) → next_out now (base_of class b) ≡ None
      → (handed_out now class by b).journal ≡ b.journal ++ all_handed []
  stops b none =
      ap (λ (o : Option Item). (after_hand_out o now class by b).journal) none

  writes_zero : (b : CpuBases) (o : Option Item) → next_out now (base_of class b) ≡ o
      → IsSound (base_of class b).items → length (base_of class b).items ≤ 0
      → (handed_out now class by b).journal ≡ b.journal ++ all_handed []
  writes_zero b None is sound few = stops b is
  writes_zero b (Some item) is sound few = absurd (none_left b item sound few is)

  module _ (most : ℕ) (rest : Writes most) (b : CpuBases) (sound : IsSound (base_of class b).items)
      (few : length (base_of class b).items ≤ suc most) where
    one_out : (item : Item) → next_out now (base_of class b) ≡ Some item
        → (drained most now class by (handed_out now class by b)).journal
        ≡ b.journal ++ all_handed (item ∷ due_items most now (taken now (base_of class b)))
    one_out item is =
        let base = base_of class b in
        let after = handed_out now class by b in
        let same = handed_is now class by b in
        let taken_is : taken now base ≡ after_out base (Some item) = ap (after_out base) is in
        let fewer = one_fewer_after_out now base item
        (subst (OutIsDue now base.items) is (due_out now base sound)) in
        let left : length (taken now base).items + 1 ≡ length base.items =
        ap (λ (x : PlainBase). length x.items + 1) taken_is ∙ fewer in
        let left_is : length (base_of class after).items ≡ length (taken now base).items =
        ap (λ (x : PlainBase). length x.items) same in
        rest after
        (subst (λ (x : PlainBase). IsSound x.items) (sym same)
        (sound_after_out base (next_out now base) sound))
        (omega (arith, few, left, left_is))
        ∙ (ap (λ x. after.journal ++ all_handed (due_items most now x)) same
        ∙ (ap (λ (o : Option Item). (after_hand_out o now class by b).journal
        ++ all_handed (due_items most now (taken now base))) is
        ∙ append_assoc b.journal (handed_entry item ∷ [])
        (all_handed (due_items most now (taken now base)))))

    writes_one : (o : Option Item) → next_out now (base_of class b) ≡ o
        → (if is_some o then drained most now class by (handed_out now class by b)
        else handed_out now class by b).journal
        ≡ b.journal ++ all_handed (item_then o (due_items most now (taken now (base_of class b))))
    writes_one None is = stops b is
    writes_one (Some item) is = one_out item is

  pub drain_writes : (most : ℕ) → Writes most
  unfolding due_items
  drain_writes zero b sound few =
      writes_zero b (next_out now (base_of class b)) refl sound few
  drain_writes (suc most) b sound few =
      writes_one most (drain_writes most) b sound few (next_out now (base_of class b)) refl

-- what is true of all items of a base is so of what goes out
due_each : (Q : Item → Type 0) (n now : ℕ) (base : PlainBase) → IsSound base.items
    → All Q base.items → All Q (due_items n now base)
unfolding due_items
due_each Q zero now base sound all = All-nil Q
due_each Q (suc n) now base sound all =
    by (next_out now base) refl
    (due_each Q n now (taken now base) (sound_after_out base (next_out now base) sound)
    (all_after_out Q base (next_out now base) all))
  where
    by : (o : Option Item) → next_out now base ≡ o → All Q (due_items n now (taken now base))
        → All Q (item_then o (due_items n now (taken now base)))
    by None is rest = All-nil Q
    by (Some item) is rest =
        All-cons Q item (due_items n now (taken now base))
        (out_holds Q now base.items (Some item) all
        (subst (OutIsDue now base.items) is (due_out now base sound))) rest

-- no timer goes out twice
abbrev pub AreApart : List Item → Type 0
AreApart [] = Unit {0}
AreApart (item ∷ items) = All (λ other. other.id ≡ item.id → ⊥) items × AreApart items

pub due_apart : (n now : ℕ) (base : PlainBase) → IsSound base.items
    → AreApart (due_items n now base)
unfolding due_items
due_apart zero now base sound = tt
due_apart (suc n) now base sound =
    by (next_out now base) refl
    (due_apart n now (taken now base) (sound_after_out base (next_out now base) sound))
  where
    by : (o : Option Item) → next_out now base ≡ o → AreApart (due_items n now (taken now base))
        → AreApart (item_then o (due_items n now (taken now base)))
    by None is rest = tt
    by (Some item) is rest =
        let gone : item_of item.id (taken now base).items ≡ None =
        subst (λ (x : PlainBase). item_of item.id x.items ≡ None)
        (sym (ap (after_out base) is)) (gone_after_out base item sound) in (
          due_each (λ other. other.id ≡ item.id → ⊥) n now (taken now base)
              (sound_after_out base (next_out now base) sound)
              (all_apart item.id (taken now base).items gone),
          rest,
        )

-- no arming of a timer passes beside a hand-out of another one
abbrev pub Swaps : (Deed → Bool) → Type 0
Swaps passes = (now timer : ℕ) (class : Class) (wheel at other due by : ℕ)
    → (other ≡ timer → ⊥) → passes (arms now timer class wheel) ≡ true
    → passes (hands_out at other due by) ≡ false

module _ (now home runner : ℕ) where
  -- what the drained items tell of CPU c
  abbrev pub outs : (c : ℕ) → List Item → List Deed
  outs c items =
      flat_map (λ (item : Item). told_if (c == home) (hands_out now item.id item.wheel runner))
      items

  pub outs_home : (class : Class) (items : List Item)
      → by_journal (all_handed now class (record { 0 = runner }) items) ≡ outs home items
  outs_home class [] = refl
  outs_home class (item ∷ items) =
      ap (λ x. hands_out now item.id item.wheel runner ∷ x) (outs_home class items)
      ∙ ap (λ b. told_if b (hands_out now item.id item.wheel runner) ++ outs home items)
      (sym (eq-eqb home home refl))

  pub outs_other : (c : ℕ) → (c ≡ home → ⊥) → (items : List Item) → outs c items ≡ []
  outs_other c other [] = refl
  outs_other c other (item ∷ items) =
      ap (λ b. told_if b (hands_out now item.id item.wheel runner) ++ outs c items)
      (ne_eqb c home other)
      ∙ outs_other c other items

-- none of them passes
module _ (passes : Deed → Bool) (now home runner : ℕ) where
  pub if_none : (b : Bool) (told : Deed) → passes told ≡ false
      → filter passes (told_if b told) ≡ []
  if_none false told not = refl
  if_none true told not = ap (λ p. if p then told ∷ [] else []) not

  pub outs_none : (c : ℕ) (items : List Item)
      → All (λ item. passes (hands_out now item.id item.wheel runner) ≡ false) items
      → filter passes (outs now home runner c items) ≡ []
  outs_none c [] all = refl
  outs_none c (item ∷ items) all =
      let told = hands_out now item.id item.wheel runner in
      let Q = λ (i : Item). passes (hands_out now i.id i.wheel runner) ≡ false in
      filter-append passes (told_if (c == home) told) (outs now home runner c items)
      ∙ (ap (λ x. x ++ filter passes (outs now home runner c items))
      (if_none (c == home) told (All-head Q item items all))
      ∙ outs_none c items (All-tail Q item items all))
