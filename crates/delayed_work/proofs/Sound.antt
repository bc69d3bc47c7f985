-- a ledger stays sound as one work changes
use Rattle.std.proofs.Common.{◌≡◌, ◌≢◌, ℕ, ◌<◌, ◌≤◌, true, false, List, [], ◌∷◌, ◌++◌}
use Rattle.std.proofs.Common.{Some, length, refl, sym, ap, ◌∙◌, subst, ◌⊎◌, inl, inr}
use Rattle.std.specs.Prelude.{◌==◌, slice_set}
use Rattle.std.specs.List.{slice_get}
use Rattle.std.proofs.lemmas.Bool.{cases_Bool, cases_lt, eqb-true, eqb-false}
use Rattle.std.proofs.lemmas.List.{get_or-set_same, get_or-set_other, get_or_past}
use Rattle.std.proofs.lemmas.Option.{none-some, same_Some}
use Rattle.key_lists.specs.Tables.{Holds, Lacks, without}
use Rattle.delayed_work.specs.declared.standing.Standing.{Standing}
use Rattle.delayed_work.specs.declared.standing.Standing.TheVariants.{Free, Waiting, Ready}
use Rattle.delayed_work.specs.declared.standing.End.{End}
use Rattle.delayed_work.specs.declared.standing.End.TheVariants.{Pending}
use Rattle.delayed_work.specs.Ledger.{AreDistinct, IsLedgerSound, LedgerState, WorkTold, is_ready}
use Rattle.delayed_work.specs.Ledger.{accepted_ready, accepted_waiting}
use Rattle.delayed_work.specs.Ledger.{ended_from, work_number_in, ready_from, standing_of}
use Rattle.delayed_work.proofs.Places.{get_push_is, get_push_old, get_push_same}
use Rattle.delayed_work.proofs.Places.{get_set_is, get_set_other}
use Rattle.delayed_work.proofs.Lists.{distinct_more, distinct_without, few, gone, holds_more}
use Rattle.delayed_work.proofs.Lists.{holds_push, holds_without, lacks_more, lacks_without}
use Rattle.delayed_work.proofs.Lists.{not_both}

-- what an entry of the story after a change of a work says: it is an old one, which is right of
-- that work still, or a new one of that work
abbrev pub IsOldOrNew : LedgerState → (work : ℕ) → Standing → (number : ℕ) → WorkTold → Type 0
IsOldOrNew ledger work standing number told =
    ((slice_get ledger.story number ≡ Some told)
    × (told.1 ≡ work → told.2 ≡ Pending → work_number_in standing ≡ Some number))
    ⊎ ((told.0 ≡ number) × (told.2 ≡ Pending → (told.1 ≡ work) × (work_number_in standing ≡ Some number)))

-- a change of one work that keeps a ledger sound: its new standing, the ready list and the story
pub record KeepsSound (ledger : LedgerState) (work : ℕ) (standing : Standing) (ready : List ℕ)
    (story : List WorkTold) : Type 0 where
  pub in_list : is_ready standing ≡ true → Holds work ready
  pub not_in_list : is_ready standing ≡ false → Lacks work ready
  pub others_in : (k : ℕ) → k ≢ work → Holds k ledger.ready → Holds k ready
  pub others_not_in : (k : ℕ) → k ≢ work → Lacks k ledger.ready → Lacks k ready
  pub distinct : AreDistinct ready
  pub numbered : (n : ℕ) → work_number_in standing ≡ Some n → slice_get story n ≡ Some (n, work, Pending)
  pub others_numbered : (k n : ℕ) → k ≢ work → slice_get ledger.story n ≡ Some (n, k, Pending)
      → slice_get story n ≡ Some (n, k, Pending)
  pub told : (n : ℕ) (told : WorkTold) → slice_get story n ≡ Some told
      → IsOldOrNew ledger work standing n told

abbrev changed : LedgerState → (work : ℕ) → Standing → List ℕ → List WorkTold → LedgerState
changed ledger work standing ready story =
    record { standings = slice_set ledger.standings work standing; ready = ready; story = story }

pub own : (ledger : LedgerState) (work : ℕ) (standing : Standing) (ready : List ℕ) (story : List WorkTold)
    → work < length ledger.standings
    → standing_of work (changed ledger work standing ready story) ≡ standing
own ledger work standing ready story within = get_or-set_same ledger.standings work standing Free within

pub other : (ledger : LedgerState) (work : ℕ) (standing : Standing) (ready : List ℕ) (story : List WorkTold)
    (k : ℕ) → k ≢ work
    → standing_of k (changed ledger work standing ready story) ≡ standing_of k ledger
other ledger work standing ready story k apart =
    get_or-set_other ledger.standings work k standing Free apart

pub changed_sound : (ledger : LedgerState) (work : ℕ) (standing : Standing) (ready : List ℕ)
    (story : List WorkTold) → work < length ledger.standings → IsLedgerSound ledger
    → KeepsSound ledger work standing ready story
    → IsLedgerSound (changed ledger work standing ready story)
changed_sound ledger work standing ready story within sound keeps =
    let own_is = own ledger work standing ready story within in
    let other_is = other ledger work standing ready story in
    record {
      in_list = λ k is. elim (cases_Bool (k == work)) [
        | inl here ↦
            let same = eqb-true k work here in
            subst (λ w. Holds w ready) (sym same) (keeps.in_list (ap is_ready (sym own_is)
            ∙ ap (λ w. is_ready (standing_of w (changed ledger work standing ready story))) (sym same) ∙ is))
        | inr there ↦
            let apart = eqb-false k work there in
            keeps.others_in k apart (sound.in_list k (ap is_ready (sym (other_is k apart)) ∙ is))
      ];
      not_in_list = λ k is. elim (cases_Bool (k == work)) [
        | inl here ↦
            let same = eqb-true k work here in
            subst (λ w. Lacks w ready) (sym same) (keeps.not_in_list (ap is_ready (sym own_is)
            ∙ ap (λ w. is_ready (standing_of w (changed ledger work standing ready story))) (sym same) ∙ is))
        | inr there ↦
            let apart = eqb-false k work there in
            keeps.others_not_in k apart (sound.not_in_list k (ap is_ready (sym (other_is k apart)) ∙ is))
      ];
      distinct = keeps.distinct;
      numbered = λ k n is. elim (cases_Bool (k == work)) [
        | inl here ↦
            let same = eqb-true k work here in
            subst (λ w. slice_get story n ≡ Some (n, w, Pending)) (sym same)
            (keeps.numbered n (ap work_number_in (sym own_is)
            ∙ ap (λ w. work_number_in (standing_of w (changed ledger work standing ready story))) (sym same) ∙ is))
        | inr there ↦
            let apart = eqb-false k work there in
            keeps.others_numbered k n apart (sound.numbered k n (ap work_number_in (sym (other_is k apart)) ∙ is))
      ];
      told = λ n told there. elim (keeps.told n told there) [
        | inl old ↦ record {
          number_is = (sound.told n told old.0).number_is;
          pending = λ p. elim (cases_Bool (told.1 == work)) [
            | inl here ↦
                let same = eqb-true told.1 work here in
                ap (λ w. work_number_in (standing_of w (changed ledger work standing ready story))) same
                ∙ ap work_number_in own_is ∙ old.1 same p
            | inr away ↦
                let apart = eqb-false told.1 work away in
                ap work_number_in (other_is told.1 apart) ∙ (sound.told n told old.0).pending p
          ];
        }
        | inr new ↦ record {
          number_is = new.0;
          pending = λ p.
              ap (λ w. work_number_in (standing_of w (changed ledger work standing ready story))) (new.1 p).0
              ∙ ap work_number_in own_is ∙ (new.1 p).1;
        }
      ];
    }

-- the story with one queueing more
new_told : (ledger : LedgerState) (work : ℕ) (standing : Standing) → IsLedgerSound ledger
    → standing_of work ledger ≡ Free → work_number_in standing ≡ Some (length ledger.story)
    → (n : ℕ) (told : WorkTold)
    → slice_get (ledger.story ++ (length ledger.story, work, Pending) ∷ []) n ≡ Some told
    → IsOldOrNew ledger work standing n told
new_told ledger work standing sound free number n told there =
    elim (get_push_is ledger.story n (length ledger.story, work, Pending) told there) [
      | inl old ↦ inl (
        old,
        λ same p.
            let is = (sound.told n told old).pending p in
            absurd (none-some n (ap work_number_in (sym free) ∙ ap (λ w. work_number_in (standing_of w ledger)) (sym same) ∙ is)),
      )
      | inr new ↦ inr (ap (λ (t : WorkTold). t.0) new.1 ∙ sym new.0, λ p. (ap (λ (t : WorkTold). t.1) new.1, number ∙ ap Some (sym new.0)))
    ]

new_numbered : (ledger : LedgerState) (work n : ℕ) → Some (length ledger.story) ≡ Some n
    → slice_get (ledger.story ++ (length ledger.story, work, Pending) ∷ []) n ≡ Some (n, work, Pending)
new_numbered ledger work n is =
    subst (λ m. slice_get (ledger.story ++ (length ledger.story, work, Pending) ∷ []) m ≡ Some (m, work, Pending))
    (same_Some _ n is) (get_push_same ledger.story (length ledger.story, work, Pending))

pub accepted_waiting_sound : (ledger : LedgerState) (work : ℕ) → work < length ledger.standings
    → standing_of work ledger ≡ Free → IsLedgerSound ledger → IsLedgerSound (accepted_waiting work ledger)
accepted_waiting_sound ledger work within free sound =
    changed_sound ledger work (Waiting (length ledger.story)) ledger.ready
    (ledger.story ++ (length ledger.story, work, Pending) ∷ []) within sound (record {
      in_list = λ is. absurd cc;
      not_in_list = λ _. sound.not_in_list work (ap is_ready free);
      others_in = λ k _ holds. holds;
      others_not_in = λ k _ lacks. lacks;
      distinct = sound.distinct;
      numbered = new_numbered ledger work;
      others_numbered = λ k n _ is. get_push_old ledger.story n _ _ is;
      told = new_told ledger work (Waiting (length ledger.story)) sound free refl;
    })

pub accepted_ready_sound : (ledger : LedgerState) (work job arg : ℕ) → work < length ledger.standings
    → standing_of work ledger ≡ Free → IsLedgerSound ledger → IsLedgerSound (accepted_ready work job arg ledger)
accepted_ready_sound ledger work job arg within free sound =
    let lacks = sound.not_in_list work (ap is_ready free) in
    changed_sound ledger work (Ready (length ledger.story) job arg) (ledger.ready ++ work ∷ [])
    (ledger.story ++ (length ledger.story, work, Pending) ∷ []) within sound (record {
      in_list = λ _. holds_push work ledger.ready;
      not_in_list = λ is. absurd cc;
      others_in = λ k _ holds. holds_more k work ledger.ready holds;
      others_not_in = λ k apart. lacks_more k work ledger.ready apart;
      distinct = distinct_more work ledger.ready lacks sound.distinct;
      numbered = new_numbered ledger work;
      others_numbered = λ k n _ is. get_push_old ledger.story n _ _ is;
      told = new_told ledger work (Ready (length ledger.story) job arg) sound free refl;
    })

pub ready_sound : (ledger : LedgerState) (work number job arg : ℕ) → work < length ledger.standings
    → standing_of work ledger ≡ Waiting number → IsLedgerSound ledger
    → IsLedgerSound (ready_from (Waiting number) work job arg ledger)
ready_sound ledger work number job arg within waits sound =
    let lacks = sound.not_in_list work (ap is_ready waits) in
    changed_sound ledger work (Ready number job arg) (ledger.ready ++ work ∷ []) ledger.story within
    sound (record {
      in_list = λ _. holds_push work ledger.ready;
      not_in_list = λ is. absurd cc;
      others_in = λ k _ holds. holds_more k work ledger.ready holds;
      others_not_in = λ k apart. lacks_more k work ledger.ready apart;
      distinct = distinct_more work ledger.ready lacks sound.distinct;
      numbered = λ n is. sound.numbered work n (ap work_number_in waits ∙ is);
      others_numbered = λ k n _ is. is;
      told = λ n told there. inl (
        there,
        λ same p.
            ap work_number_in (sym waits) ∙ ap (λ w. work_number_in (standing_of w ledger)) (sym same)
            ∙ (sound.told n told there).pending p,
      );
    })

-- the story with the end of a queueing
end_told : (ledger : LedgerState) (work number : ℕ) (end : End) → IsLedgerSound ledger
    → work_number_in (standing_of work ledger) ≡ Some number → end ≢ Pending → (n : ℕ) (told : WorkTold)
    → slice_get (slice_set ledger.story number (number, work, end)) n ≡ Some told
    → IsOldOrNew ledger work Free n told
end_told ledger work number end sound has over n told there =
    elim (get_set_is ledger.story number n (number, work, end) told there) [
      | inl old ↦ inl (
        old.1,
        λ same p. absurd (old.0 (sym (same_Some number n
            (sym has ∙ ap (λ w. work_number_in (standing_of w ledger)) (sym same) ∙ (sound.told n told old.1).pending p)))),
      )
      | inr new ↦ inr (ap (λ (t : WorkTold). t.0) new.1 ∙ sym new.0, λ p. absurd (over (sym (ap (λ (t : WorkTold). t.2) new.1) ∙ p)))
    ]

end_others : (ledger : LedgerState) (work number : ℕ) (end : End) → IsLedgerSound ledger
    → work_number_in (standing_of work ledger) ≡ Some number → (k n : ℕ) → k ≢ work
    → slice_get ledger.story n ≡ Some (n, k, Pending)
    → slice_get (slice_set ledger.story number (number, work, end)) n ≡ Some (n, k, Pending)
end_others ledger work number end sound has k n apart is =
    let away : n ≢ number = λ same. apart (ap (λ (t : WorkTold). t.1) (same_Some (n, k, Pending) (number, work, Pending)
    (sym is ∙ ap (λ m. slice_get ledger.story m) same ∙ sound.numbered work number has))) in
    get_set_other ledger.story number n (number, work, end) away ∙ is

pub ended_sound : (ledger : LedgerState) (work : ℕ) (end : End) (standing : Standing)
    → work < length ledger.standings
    → end ≢ Pending → standing_of work ledger ≡ standing → IsLedgerSound ledger
    → IsLedgerSound (ended_from standing work end ledger)
ended_sound ledger work end Free within over is sound = sound
ended_sound ledger work end (Waiting number) within over is sound =
    changed_sound ledger work Free ledger.ready (slice_set ledger.story number (number, work, end))
    within sound (record {
      in_list = λ is. absurd cc;
      not_in_list = λ _. sound.not_in_list work (ap is_ready is);
      others_in = λ k _ holds. holds;
      others_not_in = λ k _ lacks. lacks;
      distinct = sound.distinct;
      numbered = λ n none. absurd (none-some n none);
      others_numbered = end_others ledger work number end sound (ap work_number_in is);
      told = end_told ledger work number end sound (ap work_number_in is) over;
    })
ended_sound ledger work end (Ready number job arg) within over is sound =
    changed_sound ledger work Free (without work ledger.ready)
    (slice_set ledger.story number (number, work, end)) within sound (record {
      in_list = λ is. absurd cc;
      not_in_list = λ _. gone work ledger.ready sound.distinct;
      others_in = λ k apart holds. holds_without k work ledger.ready apart holds;
      others_not_in = λ k _ lacks. lacks_without k work ledger.ready lacks;
      distinct = distinct_without work ledger.ready sound.distinct;
      numbered = λ n none. absurd (none-some n none);
      others_numbered = end_others ledger work number end sound (ap work_number_in is);
      told = end_told ledger work number end sound (ap work_number_in is) over;
    })

-- a work that there isn't is free
pub past_free : (ledger : LedgerState) (work : ℕ) → length ledger.standings ≤ work
    → standing_of work ledger ≡ Free
past_free ledger work past = get_or_past ledger.standings work Free past

-- the ready works are no more than the works
pub few_ready : (ledger : LedgerState) → IsLedgerSound ledger
    → length ledger.ready ≤ length ledger.standings
few_ready ledger sound =
    few (length ledger.standings) ledger.ready sound.distinct
    (λ work past. sound.not_in_list work (ap is_ready (past_free ledger work past)))

-- a ready work is one of the works
pub ready_within : (ledger : LedgerState) (work : ℕ) → IsLedgerSound ledger → Holds work ledger.ready
    → work < length ledger.standings
ready_within ledger work sound holds = elim (cases_lt work (length ledger.standings)) [
  | inl low ↦ low
  | inr past ↦ absurd (not_both work ledger.ready holds
      (sound.not_in_list work (ap is_ready (past_free ledger work past))))
]
