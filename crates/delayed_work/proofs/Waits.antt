-- timers are queued exactly for the works that wait, as one work changes
use Rattle.std.proofs.Common.{◌≡◌, ◌≢◌, ℕ, ◌<◌, true, false, List, [], ◌∷◌, ◌++◌}
use Rattle.std.proofs.Common.{Option, Some, None, length, refl, sym, ap, ◌∙◌, inl, inr}
use Rattle.std.specs.Prelude.{◌==◌, is_some, slice_set}
use Rattle.std.proofs.lemmas.Bool.{cases_Bool, cases_lt, eqb-true, eqb-false}
use Rattle.wheel_core.specs.declared.item.Item.{Item}
use Rattle.wheel_core.specs.PlainBase.{HasDistinctIds, item_of, without}
use Rattle.wheel_core.proofs.Ids.{gone_without, item_of-push, item_of-pushed, item_of-without}
use Rattle.delayed_work.specs.declared.standing.Standing.{Standing}
use Rattle.delayed_work.specs.declared.standing.Standing.TheVariants.{Free, Waiting, Ready}
use Rattle.delayed_work.specs.Ledger.{LedgerState, WorkTold, is_work_waiting, standing_of}
use Rattle.delayed_work.proofs.Sound.{other, own, past_free}

-- an item is queued exactly for each work that waits
abbrev pub Waits : List Item → LedgerState → Type 0
Waits items ledger =
    (work : ℕ) → is_some (item_of work items) ≡ is_work_waiting (standing_of work ledger)

-- a work's change
pub record Changes (old new : LedgerState) (work : ℕ) (standing : Standing) : Type 0 where
  pub own_is : standing_of work new ≡ standing
  pub others : (k : ℕ) → k ≢ work → standing_of k new ≡ standing_of k old

pub none_of : (o : Option Item) → is_some o ≡ false → o ≡ None
none_of None is = refl
none_of (Some item) is = absurd cc

pub some_of : (o : Option Item) → is_some o ≡ true → (item : Item) × (o ≡ Some item)
some_of None is = absurd cc
some_of (Some item) is = (item, refl)

pub waiting_is : (standing : Standing) → is_work_waiting standing ≡ true
    → (number : ℕ) × (standing ≡ Waiting number)
waiting_is Free is = absurd cc
waiting_is (Waiting number) is = (number, refl)
waiting_is (Ready number job arg) is = absurd cc

-- a work that waits is one of the works
pub waits_within : (ledger : LedgerState) (work : ℕ)
    → is_work_waiting (standing_of work ledger) ≡ true → work < length ledger.standings
waits_within ledger work is = elim (cases_lt work (length ledger.standings)) [
  | inl low ↦ low
  | inr past ↦ absurd (let free = ap is_work_waiting (past_free ledger work past) in cc)
]

pub waits_pushed : (items : List Item) (old new : LedgerState) (item : Item) (number : ℕ)
    → Waits items old → is_work_waiting (standing_of item.id old) ≡ false
    → Changes old new item.id (Waiting number)
    → Waits (items ++ item ∷ []) new
waits_pushed items old new item number waits idle changes k = elim (cases_Bool (k == item.id)) [
  | inl here ↦
      let same = eqb-true k item.id here in
      let none = none_of (item_of item.id items) (waits item.id ∙ idle) in
      ap (λ w. is_some (item_of w (items ++ item ∷ []))) same
      ∙ ap is_some (item_of-pushed items item none)
      ∙ ap is_work_waiting (sym changes.own_is) ∙ ap (λ w. is_work_waiting (standing_of w new)) (sym same)
  | inr there ↦
      let apart = eqb-false k item.id there in
      ap is_some (item_of-push k items item apart) ∙ waits k
      ∙ ap is_work_waiting (sym (changes.others k apart))
]

pub waits_taken : (items : List Item) (old new : LedgerState) (work : ℕ) (standing : Standing)
    → HasDistinctIds items → Waits items old → is_work_waiting standing ≡ false
    → Changes old new work standing → Waits (without work items) new
waits_taken items old new work standing distinct waits idle changes k =
    elim (cases_Bool (k == work)) [
      | inl here ↦
          let same = eqb-true k work here in
          ap (λ w. is_some (item_of w (without work items))) same
          ∙ ap is_some (gone_without work items distinct)
          ∙ sym idle ∙ ap is_work_waiting (sym changes.own_is)
          ∙ ap (λ w. is_work_waiting (standing_of w new)) (sym same)
      | inr there ↦
          let apart = eqb-false k work there in
          ap is_some (item_of-without k work items apart) ∙ waits k
          ∙ ap is_work_waiting (sym (changes.others k apart))
    ]

pub waits_kept : (items : List Item) (old new : LedgerState) (work : ℕ) (standing : Standing)
    → Waits items old → is_work_waiting (standing_of work old) ≡ is_work_waiting standing
    → Changes old new work standing → Waits items new
waits_kept items old new work standing waits same_still changes k =
    elim (cases_Bool (k == work)) [
      | inl here ↦
          let same = eqb-true k work here in
          waits k ∙ ap (λ w. is_work_waiting (standing_of w old)) same ∙ same_still
          ∙ ap is_work_waiting (sym changes.own_is)
          ∙ ap (λ w. is_work_waiting (standing_of w new)) (sym same)
      | inr there ↦
          let apart = eqb-false k work there in
          waits k ∙ ap is_work_waiting (sym (changes.others k apart))
    ]

pub changes_at : (ledger : LedgerState) (work : ℕ) (standing : Standing) (ready : List ℕ)
    (story : List WorkTold) → work < length ledger.standings
    → Changes ledger (record { standings = slice_set ledger.standings work standing; ready = ready; story = story })
    work standing
changes_at ledger work standing ready story within = record {
  own_is = own ledger work standing ready story within;
  others = other ledger work standing ready story;
}
