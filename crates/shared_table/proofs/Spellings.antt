-- what the words of a world at rest are
use Rattle.std.proofs.Common.{◌≡◌, ℕ, zero, suc, ◌+◌, ◌<◌, List, [], ◌∷◌, length, None}
use Rattle.std.proofs.Common.{sym, ap, ◌∙◌, subst, inl, inr, arith}
use Rattle.std.specs.Prelude.{slice_index, slice_index_or, slice_set}
use Rattle.std.proofs.lemmas.Bool.{cases_eq}
use Rattle.std.proofs.lemmas.List.{ext_get_or, get_or-set_other, get_or-set_same}
use mathlib.Core.Option.{some, some-injective, some-ne-none}
use lib.ListN.{get_elem?}
use Rattle.event_queue.specs.EventMap.{EventMap, event_at}
use Rattle.event_queue.specs.Word.{slot_of}
use Rattle.group_word.specs.declared.state.GroupState.{GroupState}
use Rattle.group_word.specs.State.{IsStateOf}
use Rattle.walk_rules.specs.Scene.{Group, no_group}
use Rattle.core_world.specs.World.{World, group_of}
use Rattle.shared_words.specs.Laws.{WaysBack}
use Rattle.shared_rule.specs.CoreLaws.{CoreLaws}
use Rattle.shared_rule.specs.Whole.{group_state, slot_at, state_at}
use Rattle.shared_rule.proofs.Fits.{event_fits, good_state}
use Rattle.shared_table.specs.Endings.{HeldWords, SpellsAtRest, word_in}

-- an element that is there is what is read at its place
pub got : (l : List ℕ) (i a : ℕ) → get_elem? l i ≡ some a → a ≡ slice_index l i
got [] i a e = absurd (some-ne-none a (sym e))
got (x ∷ xs) zero a e = sym (some-injective x a e)
got (x ∷ xs) (suc i) a e = got xs i a e

-- a list that is right up to a place is right up to the next one, when that is written
pub one_more : {X : Type 0} (d : X) (xs : List X) (n : ℕ) (f : ℕ → X) (y : X) → n < length xs
    → y ≡ f n → ((k : ℕ) → k < n → slice_index_or xs k d ≡ f k)
    → (k : ℕ) → k < n + 1 → slice_index_or (slice_set xs n y) k d ≡ f k
one_more d xs n f y low is before k below = elim (cases_eq k n) [
  | inl same ↦
      subst (λ j. slice_index_or (slice_set xs n y) j d ≡ f j) (sym same)
      (get_or-set_same xs n y d low ∙ is)
  | inr ne ↦
      get_or-set_other xs n k y d ne ∙ before k (omega (arith, below, ne))
]

module _ (h : HeldWords) (w : World) (r : SpellsAtRest h w) where
  -- the groups are as many as the layout says
  pub groups_are : length w.groups ≡ h.layout.groups
  groups_are =
      ap (λ (x : World). length x.groups) (sym r.is)
      ∙ (r.shown.same.groups ∙ sym (ap (λ l. l.groups) r.layout))

  -- groups that are right one by one are those of the world
  pub all_groups : (groups : List Group) → length groups ≡ h.layout.groups
      → ((g : ℕ) → g < h.layout.groups → slice_index_or groups g no_group ≡ group_of w g)
      → groups ≡ w.groups
  all_groups groups count each =
      ext_get_or no_group groups w.groups (count ∙ sym groups_are)
      (λ g low. each g (omega (arith, low, count)))

module _ (law : CoreLaws) (ways : WaysBack) (h : HeldWords) (w : World) (r : SpellsAtRest h w) where
  -- the word of a group's state spells one
  pub state_is : (g : ℕ) → g < h.layout.groups
      → (q : ℕ) × IsStateOf (word_in h (state_at g)) (group_state (group_of w g) q)
  state_is g low =
      let q = r.whole.seq g in (
        q,
        subst (λ (x : World). IsStateOf (word_in h (state_at g)) (group_state (group_of x g) q))
            r.is
            (subst (λ n. IsStateOf n (group_state (group_of r.whole.world g) q))
            (sym (r.spelled.each (state_at g) low)) (good_state law r.opening r.whole r.shown g)),
      )

  -- the word of a slot spells the event that stands there
  slot_is : (g k : ℕ) → g < h.layout.groups → k < 8
      → slot_of (word_in h (slot_at g k)) ≡ event_at (group_of w g).events k
  slot_is g k low a =
      ap slot_of (r.spelled.each (slot_at g k) (low, a))
      ∙ (ways.slot (r.whole.stray g k) (event_at (group_of r.whole.world g).events k)
      (event_fits law r.opening r.whole r.shown g k)
      ∙ ap (λ (x : World). event_at (group_of x g).events k) r.is)

  lock_is : (g : ℕ) → (group_of w g).lock ≡ None
  lock_is g =
      subst (λ (x : World). (group_of x g).lock ≡ None) r.is
      ((law.rests r.whole.world r.shown.fits.lawful r.settled).free g)

  eight_are : (g : ℕ) → g < h.layout.groups → length (group_of w g).events ≡ 8
  eight_are g low =
      subst (λ (x : World). length (group_of x g).events ≡ 8) r.is
      (r.shown.fits.lawful.sized.slots g
      (subst (λ n. g < n) (sym (ap (λ (x : World). length x.groups) r.is ∙ groups_are h w r)) low))

  -- a group that is read off its words is the world's
  pub group_is : (g : ℕ) → g < h.layout.groups → (st : GroupState) (events : EventMap)
      → IsStateOf (word_in h (state_at g)) st → length events ≡ 8
      → ((k : ℕ) → k < 8 → event_at events k ≡ slot_of (word_in h (slot_at g k)))
      → record { active = st.active; migrator = st.migrator; lock = None; events = events }
      ≡ group_of w g
  group_is g low st events is eight each =
      let t = state_is g low in
      let e : st ≡ group_state (group_of w g) t.0 = ways.state _ st _ is t.1 in
      let ev : events ≡ (group_of w g).events
      = ext_get_or None events (group_of w g).events (eight ∙ sym (eight_are g low))
      (λ k a. each k (omega (arith, a, eight)) ∙ slot_is g k low (omega (arith, a, eight))) in
      λ i. record {
        active = (e i).active;
        migrator = (e i).migrator;
        lock = sym (lock_is g) i;
        events = ev i;
      }
