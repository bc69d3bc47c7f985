-- what is taken stands in an order
use Rattle.std.proofs.Common.{◌≡◌, ℕ, zero, suc, ◌≤◌, Bool, true, false, List, [], ◌∷◌, ◌++◌}
use Rattle.std.proofs.Common.{Option, Some, None, refl, sym, ◌∙◌, ap, subst, arith, inl, inr, true≢false}
use Rattle.std.specs.Prelude.{◌==◌, ◌&&◌, ◌||◌, not, find, length, slice_index_or}
use Rattle.std.specs.List.{All, AllPass}
use Rattle.std.specs.List.Sorted.{IsPermutation}
use Rattle.std.specs.Set.{remove_key}
use Rattle.std.proofs.lemmas.Option.{none-some, same_Some}
use Rattle.std.proofs.lemmas.Bool.{cases_Bool, cond-true, cond-false, eq-eqb, eqb-true}
use Rattle.std.proofs.lemmas.List.Elements.{All-cons, All-head, All-tail}
use Rattle.std.proofs.lemmas.List.Sums.{AllPass-from_list_all}
use Rattle.std.proofs.lemmas.List.Sorted.{IsPermutation-append_right, IsPermutation-cons}
use Rattle.std.proofs.lemmas.List.Sorted.{IsPermutation-middle, IsPermutation-refl}
use Rattle.std.proofs.lemmas.List.Sorted.{IsPermutation-trans, length_permutation}
use Rattle.std.proofs.lemmas.Map.Views.{All-remove_key}
use Rattle.tm_base.specs.declared.names.CpuId.{CpuId}
use Rattle.linux_seen.specs.declared.seen.CpuSeen.{CpuSeen}
use Rattle.linux_seen.specs.declared.seen.Late.{Late}
use Rattle.linux_seen.specs.declared.seen.Word.{Word}
use Rattle.linux_seen.specs.Words.{follows, word_after}
use Rattle.linux_rules.specs.Orders.{IsCaughtUp, Waiting, caught_up, comes_first, is_held, is_next, is_on, may_precede}
use Rattle.linux_rules.specs.Orders.{taken_next}
use Rattle.linux_rules.specs.Witness.{IsInOrder, follows_last, may_follow}

-- ---- lists

module _ {X : Type 0} (p : X → Bool) where
  passes : (xs : List X) (x : X) → find p xs ≡ Some x → p x ≡ true
  passes [] x is = absurd (none-some x is)
  passes (y ∷ ys) x is = elim (cases_Bool (p y)) [
    | inl here ↦
        subst (λ z. p z ≡ true) (same_Some y x (sym (cond-true (p y) (Some y) (find p ys) here) ∙ is))
        here
    | inr other ↦ passes ys x (sym (cond-false (p y) (Some y) (find p ys) other) ∙ is)
  ]

  all_found : (P : X → Type 0) (xs : List X) (x : X) → All P xs → find p xs ≡ Some x → P x
  all_found P [] x all is = absurd (none-some x is)
  all_found P (y ∷ ys) x all is = elim (cases_Bool (p y)) [
    | inl here ↦
        subst P (same_Some y x (sym (cond-true (p y) (Some y) (find p ys) here) ∙ is))
        (All-head P y ys all)
    | inr other ↦
        all_found P ys x (All-tail P y ys all)
        (sym (cond-false (p y) (Some y) (find p ys) other) ∙ is)
  ]

  without : (xs : List X) (x : X) → find p xs ≡ Some x → IsPermutation xs (x ∷ remove_key p xs)
  without [] x is = absurd (none-some x is)
  without (y ∷ ys) x is = elim (cases_Bool (p y)) [
    | inl here ↦
        subst (λ zs. IsPermutation (y ∷ ys) (x ∷ zs))
        (sym (cond-true (p y) ys (y ∷ remove_key p ys) here))
        (subst (λ z. IsPermutation (y ∷ ys) (z ∷ ys))
        (same_Some y x (sym (cond-true (p y) (Some y) (find p ys) here) ∙ is))
        (IsPermutation-refl (y ∷ ys)))
    | inr other ↦
        subst (λ zs. IsPermutation (y ∷ ys) (x ∷ zs))
        (sym (cond-false (p y) ys (y ∷ remove_key p ys) other))
        (IsPermutation-trans (y ∷ ys) (y ∷ x ∷ remove_key p ys) (x ∷ y ∷ remove_key p ys)
        (IsPermutation-cons y ys (x ∷ remove_key p ys)
        (without ys x (sym (cond-false (p y) (Some y) (find p ys) other) ∙ is)))
        (IsPermutation-middle (y ∷ []) x (remove_key p ys)))
  ]

pub first_part : (a b : Bool) → (a && b) ≡ true → a ≡ true
first_part true b is = refl
first_part false b is = absurd (true≢false (sym is))

pub last_part : (a b : Bool) → (a && b) ≡ true → b ≡ true
last_part true b is = is
last_part false b is = absurd (true≢false (sym is))

-- ---- while exchanges are taken on a group

pub record Catch (all before : List Late) (group : ℕ) (w : Waiting) (order : List Late) : Type 0 where
  pub ordered : IsInOrder order
  pub each : IsPermutation all (order ++ w.late)
  pub waits : All (λ a. AllPass (may_follow a) order) w.late
  pub last : (b : Late) → find (is_on group) order ≡ Some b → w.word ≡ word_after b.exchange
  pub others : (p : ℕ) → (group == p) ≡ false → find (is_on p) order ≡ find (is_on p) before

abbrev waiting : Word → List Late → Waiting
waiting word ls = record { word = word; late = ls }

module _ (all before : List Late) (group : ℕ) where
  -- one more is taken
  pub pushed : (x : Late) (ls order : List Late) → x.exchange.place.group ≡ group →
      follows_last (find (is_on x.exchange.place.group) order) x ≡ true →
      AllPass (may_follow x) order → All (λ a. may_follow a x ≡ true) ls →
      All (λ a. AllPass (may_follow a) order) ls → IsInOrder order →
      IsPermutation all (x ∷ (order ++ ls)) →
      ((p : ℕ) → (group == p) ≡ false → find (is_on p) order ≡ find (is_on p) before) →
      Catch all before group (waiting (word_after x.exchange) ls) (x ∷ order)
  pushed x ls order on last follow first waits ordered each others = record {
    ordered = (last, follow, ordered);
    each = each;
    waits = λ k d low.
        All-cons (λ b. may_follow (slice_index_or ls k d) b ≡ true) x order (first k d low) (waits k d low);
    last = λ b is.
        ap (λ (y : Late). word_after y.exchange)
        (same_Some x b (sym (cond-true (is_on group x) (Some x) (find (is_on group) order)
        (eq-eqb x.exchange.place.group group on))
        ∙ is));
    others = λ p differ.
        cond-false (is_on p x) (Some x) (find (is_on p) order)
        (ap (λ n. n == p) on ∙ differ) ∙ others p differ;
  }

  -- what follows from the group's word follows from the last exchange there
  from_word : (word : Word) (x : Late) (o : Option Late) →
      ((b : Late) → o ≡ Some b → word ≡ word_after b.exchange) →
      follows word x.exchange ≡ true → follows_last o x ≡ true
  from_word word x None last is = refl
  from_word word x (Some b) last is =
      subst (λ w. follows w x.exchange ≡ true) (last b refl) is

  -- an exchange that is next follows from the last one on its group
  pub next_last : (word : Word) (x : Late) (order : List Late) → x.exchange.place.group ≡ group →
      ((b : Late) → find (is_on group) order ≡ Some b → word ≡ word_after b.exchange) →
      follows word x.exchange ≡ true →
      follows_last (find (is_on x.exchange.place.group) order) x ≡ true
  next_last word x order on last is =
      subst (λ g. follows_last (find (is_on g) order) x ≡ true) (sym on)
      (from_word word x (find (is_on group) order) last is)

  -- .. and each late one may be made after it
  pub next_first : (x : Late) (ls : List Late) → x.exchange.place.group ≡ group →
      comes_first group ls x ≡ true → All (λ a. may_follow a x ≡ true) ls
  next_first x ls on first =
      subst (λ g. AllPass (λ a. not (is_on g a) || may_precede x a) ls) (sym on)
      (AllPass-from_list_all (λ a. not (is_on group a) || may_precede x a) ls first)

module _ (all before : List Late) (cs : List CpuSeen) (own : CpuId) (group : ℕ) where
  caught_one : (word : Word) (ls order : List Late) (x : Late) →
      Catch all before group (waiting word ls) order →
      find (is_next cs own group word ls) ls ≡ Some x →
      Catch all before group
      (waiting (word_after x.exchange) (remove_key (is_next cs own group word ls) ls)) (x ∷ order)
  caught_one word ls order x c is =
      let next = passes (is_next cs own group word ls) ls x is in
      let free = first_part (is_on group x && follows word x.exchange && comes_first group ls x)
      (not (is_held cs own group word x)) next in
      let on_follows = first_part (is_on group x && follows word x.exchange)
      (comes_first group ls x) free in
      let first = last_part (is_on group x && follows word x.exchange)
      (comes_first group ls x) free in
      let on = eqb-true x.exchange.place.group group
      (first_part (is_on group x) (follows word x.exchange) on_follows) in
      let follow = last_part (is_on group x) (follows word x.exchange) on_follows in
      let rest = remove_key (is_next cs own group word ls) ls in
      pushed all before group x rest order on (next_last all before group word x order on c.last follow)
      (all_found (is_next cs own group word ls) (λ a. AllPass (may_follow a) order) ls x c.waits is)
      (All-remove_key (is_next cs own group word ls) (λ a. may_follow a x ≡ true) ls
      (next_first all before group x ls on first))
      (All-remove_key (is_next cs own group word ls) (λ a. AllPass (may_follow a) order) ls c.waits)
      c.ordered
      (IsPermutation-trans all (order ++ ls) (x ∷ (order ++ rest)) c.each
      (IsPermutation-trans (order ++ ls) (order ++ x ∷ rest) (x ∷ (order ++ rest))
      (IsPermutation-append_right order ls (x ∷ rest)
      (without (is_next cs own group word ls) ls x is))
      (IsPermutation-middle order x rest)))
      c.others

  abbrev pub Caught : Waiting → Type 0
  Caught w = (order : List Late) × Catch all before group w order

  caught_by : (word : Word) (ls order : List Late) → Catch all before group (waiting word ls) order →
      (go_on : Word → List Late → Waiting) →
      ((w : Word) (rest later : List Late) → Catch all before group (waiting w rest) later →
      Caught (go_on w rest)) →
      (o : Option Late) → find (is_next cs own group word ls) ls ≡ o →
      Caught (taken_next o (is_next cs own group word ls) word ls go_on)
  caught_by word ls order c go_on goes None is = (order, c)
  caught_by word ls order c go_on goes (Some x) is =
      goes (word_after x.exchange) (remove_key (is_next cs own group word ls) ls) (x ∷ order)
      (caught_one word ls order x c is)

  pub caught : (n : ℕ) (word : Word) (ls order : List Late) →
      Catch all before group (waiting word ls) order → Caught (caught_up cs own n group word ls)
  caught zero word ls order c = (order, c)
  caught (suc n) word ls order c =
      caught_by word ls order c (caught_up cs own n group) (caught n)
      (find (is_next cs own group word ls) ls) refl

-- ---- the bound is enough

module _ (cs : List CpuSeen) (own : CpuId) (group : ℕ) where
  enough_by : (n : ℕ) (word : Word) (ls : List Late) → length ls ≤ suc n →
      ((w : Word) (rest : List Late) → length rest ≤ n →
      IsCaughtUp cs own group (caught_up cs own n group w rest)) →
      (o : Option Late) → find (is_next cs own group word ls) ls ≡ o →
      IsCaughtUp cs own group (taken_next o (is_next cs own group word ls) word ls (caught_up cs own n group))
  enough_by n word ls most rest None is = is
  enough_by n word ls most rest (Some x) is =
      let left = remove_key (is_next cs own group word ls) ls in
      let fewer = length_permutation ls (x ∷ left) (without (is_next cs own group word ls) ls x is) in
      rest (word_after x.exchange) left (omega (arith, fewer, most))

  pub enough : (n : ℕ) (word : Word) (ls : List Late) → length ls ≤ n →
      IsCaughtUp cs own group (caught_up cs own n group word ls)
  enough zero word [] most = refl
  enough zero word (x ∷ xs) most = absurd (omega (arith, most))
  enough (suc n) word ls most =
      enough_by n word ls most (enough n) (find (is_next cs own group word ls) ls) refl
