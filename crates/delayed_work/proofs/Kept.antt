-- what a ledger keeps, as one work changes in its three parts
use Rattle.std.proofs.Common.{◌≡◌, ◌≢◌, ℕ, ◌+◌, ◌-◌, ◌<◌, ◌≤◌, List, [], ◌∷◌, ◌++◌, Some, length}
use Rattle.std.proofs.Common.{sym, ap, ◌∙◌, subst, arith, length-append, Bool, get_or, Option}
use Rattle.std.specs.Prelude.{slice_set}
use Rattle.std.proofs.lemmas.List.{length-set}
use Rattle.std.proofs.lemmas.Option.{same_Some, slice_get-get_or, slice_get_within}
use Rattle.tm_base.specs.declared.limits.TheConstants.{MOST_TIMERS}
use Rattle.key_lists.specs.Tables.{KeyTable, Lacks, first_key, list_of, without}
use Rattle.delayed_work.specs.declared.standing.Standing.{Standing}
use Rattle.delayed_work.specs.declared.standing.Standing.TheVariants.{Free, Waiting, Ready}
use Rattle.delayed_work.specs.declared.standing.End.{End}
use Rattle.delayed_work.specs.declared.standing.End.TheVariants.{Pending}
use Rattle.delayed_work.specs.Ledger.{IsLedgerSound, WorkTold, is_ready, work_number_in, standing_of}
use Rattle.delayed_work.specs.Kept.{IsKept, ledger_of}
use Rattle.delayed_work.proofs.Lists.{first_holds, length_without}
use Rattle.delayed_work.proofs.Sound.{accepted_ready_sound, accepted_waiting_sound, ended_sound}
use Rattle.delayed_work.proofs.Sound.{few_ready, ready_sound, ready_within}

-- what each call of a ledger starts from
pub record Before (standings : List Standing) (table : KeyTable) (ready_len : ℕ) (story : List WorkTold)
    (work : ℕ) (standing : Standing) : Type 0 where
  pub kept : IsKept standings table ready_len story
  pub within : work < length standings
  pub stands : standing_of work (ledger_of standings table story) ≡ standing

-- so it is where a read found the work to stand so
pub before_read : (standings : List Standing) (table : KeyTable) (ready_len : ℕ) (story : List WorkTold)
    (work i : ℕ) (found standing : Standing) → IsKept standings table ready_len story
    → work < length standings → i ≡ work → found ≡ get_or standings i found → found ≡ standing
    → Before standings table ready_len story work standing
before_read standings table ready_len story work i found standing kept within is_i read is = record {
  kept = kept;
  within = within;
  stands = same_Some _ _ (sym (slice_get-get_or standings work Free within)
      ∙ slice_get-get_or standings work found within)
      ∙ ap (λ k. get_or standings k found) (sym is_i) ∙ sym read ∙ is;
}

-- a key came to the end of the one list
pub record Pushed (old new : KeyTable) (work : ℕ) : Type 0 where
  pub number : new.number ≡ old.number
  pub room : new.room ≡ old.room
  pub list : list_of new 0 ≡ list_of old 0 ++ work ∷ []

-- or left it
pub record Unlinked (old new : KeyTable) (work : ℕ) : Type 0 where
  pub number : new.number ≡ old.number
  pub room : new.room ≡ old.room
  pub list : list_of new 0 ≡ without work (list_of old 0)

pub kept_waiting : (standings : List Standing) (table : KeyTable) (ready_len : ℕ) (story now : List WorkTold)
    (work i number : ℕ) → Before standings table ready_len story work Free → i ≡ work
    → number ≡ length story → now ≡ story ++ (number, work, Pending) ∷ []
    → IsKept (slice_set standings i (Waiting number)) table ready_len now
kept_waiting standings table ready_len story now work i number b is_i is_number is_now =
    let sound = accepted_waiting_sound (ledger_of standings table story) work b.within b.stands b.kept.sound in
    let whole : IsKept (slice_set standings work (Waiting (length story))) table ready_len
    (story ++ (length story, work, Pending) ∷ []) = record {
      sound = sound;
      one_list = b.kept.one_list;
      room = rw length-set b.kept.room;
      counted = b.kept.counted;
      few = rw length-set b.kept.few;
    } in
    rw (is_now, is_number, is_i) whole

pub kept_ready : (standings : List Standing) (table table_now : KeyTable) (ready_len : ℕ)
    (story now : List WorkTold) (work i number job arg : ℕ)
    → Before standings table ready_len story work Free → i ≡ work
    → number ≡ length story → now ≡ story ++ (number, work, Pending) ∷ []
    → Pushed table table_now work
    → IsKept (slice_set standings i (Ready number job arg)) table_now (ready_len + 1) now
kept_ready standings table table_now ready_len story now work i number job arg b is_i is_number is_now pushed =
    let sound = accepted_ready_sound (ledger_of standings table story) work job arg b.within b.stands b.kept.sound in
    let whole : IsKept (slice_set standings work (Ready (length story) job arg)) table_now (ready_len + 1)
    (story ++ (length story, work, Pending) ∷ []) = record {
      sound = subst (λ ready. IsLedgerSound (record {
        standings = slice_set standings work (Ready (length story) job arg);
        ready = ready;
        story = story ++ (length story, work, Pending) ∷ [];
      })) (sym pushed.list) sound;
      one_list = pushed.number ∙ b.kept.one_list;
      room = rw (length-set, pushed.room) b.kept.room;
      counted = rw (pushed.list, b.kept.counted) (omega (arith, length-append (list_of table 0) (work ∷ [])));
      few = rw length-set b.kept.few;
    } in
    rw (is_now, is_number, is_i) whole

pub kept_come : (standings : List Standing) (table table_now : KeyTable) (ready_len : ℕ)
    (story : List WorkTold) (work i number job arg : ℕ)
    → Before standings table ready_len story work (Waiting number) → i ≡ work
    → Pushed table table_now work
    → IsKept (slice_set standings i (Ready number job arg)) table_now (ready_len + 1) story
kept_come standings table table_now ready_len story work i number job arg b is_i pushed =
    let sound = ready_sound (ledger_of standings table story) work number job arg b.within b.stands b.kept.sound in
    let whole : IsKept (slice_set standings work (Ready number job arg)) table_now (ready_len + 1) story = record {
      sound = subst (λ ready. IsLedgerSound (record {
        standings = slice_set standings work (Ready number job arg);
        ready = ready;
        story = story;
      })) (sym pushed.list) sound;
      one_list = pushed.number ∙ b.kept.one_list;
      room = rw (length-set, pushed.room) b.kept.room;
      counted = rw (pushed.list, b.kept.counted) (omega (arith, length-append (list_of table 0) (work ∷ [])));
      few = rw length-set b.kept.few;
    } in
    rw is_i whole

pub kept_waiting_ended : (standings standings_now : List Standing) (table : KeyTable) (ready_len : ℕ)
    (story now : List WorkTold) (work number : ℕ) (end : End)
    → Before standings table ready_len story work (Waiting number) → end ≢ Pending
    → standings_now ≡ slice_set standings work Free
    → now ≡ slice_set story number (number, work, end)
    → IsKept standings_now table ready_len now
kept_waiting_ended standings standings_now table ready_len story now work number end b over is_standings is_now =
    let sound = ended_sound (ledger_of standings table story) work end (Waiting number) b.within over b.stands b.kept.sound in
    let whole : IsKept (slice_set standings work Free) table ready_len
    (slice_set story number (number, work, end)) = record {
      sound = sound;
      one_list = b.kept.one_list;
      room = rw length-set b.kept.room;
      counted = b.kept.counted;
      few = rw length-set b.kept.few;
    } in
    rw (is_standings, is_now) whole

pub kept_ready_ended : (standings standings_now : List Standing) (table table_now : KeyTable) (ready_len : ℕ)
    (story now : List WorkTold) (work number job arg : ℕ) (end : End)
    → Before standings table ready_len story work (Ready number job arg) → end ≢ Pending
    → standings_now ≡ slice_set standings work Free
    → now ≡ slice_set story number (number, work, end)
    → Unlinked table table_now work
    → IsKept standings_now table_now (ready_len - 1) now
kept_ready_ended standings standings_now table table_now ready_len story now work number job arg end b over is_standings is_now gone =
    let sound = ended_sound (ledger_of standings table story) work end (Ready number job arg) b.within over b.stands b.kept.sound in
    let shorter = length_without work (list_of table 0) (b.kept.sound.in_list work (ap is_ready b.stands)) in
    let whole : IsKept (slice_set standings work Free) table_now (ready_len - 1)
    (slice_set story number (number, work, end)) = record {
      sound = subst (λ ready. IsLedgerSound (record {
        standings = slice_set standings work Free;
        ready = ready;
        story = slice_set story number (number, work, end);
      })) (sym gone.list) sound;
      one_list = gone.number ∙ b.kept.one_list;
      room = rw (length-set, gone.room) b.kept.room;
      counted = rw (gone.list, b.kept.counted) (omega (arith, shorter));
      few = rw length-set b.kept.few;
    } in
    rw (is_standings, is_now) whole

-- a work's number is told of
pub told_within : (standings : List Standing) (table : KeyTable) (ready_len : ℕ) (story : List WorkTold)
    (work number : ℕ) (standing : Standing) → Before standings table ready_len story work standing
    → work_number_in standing ≡ Some number → number < length story
told_within standings table ready_len story work number standing b is =
    slice_get_within story number _
    (b.kept.sound.numbered work number (ap work_number_in b.stands ∙ is))

-- there is room to count one ready work more, and a ready work counts
pub counts_more : (standings : List Standing) (table : KeyTable) (ready_len : ℕ) (story : List WorkTold)
    → IsKept standings table ready_len story → ready_len ≤ MOST_TIMERS
counts_more standings table ready_len story kept =
    let bound = few_ready (ledger_of standings table story) kept.sound in
    let counted = kept.counted in let few = kept.few in
    omega arith

pub counts_one : (standings : List Standing) (table : KeyTable) (ready_len : ℕ) (story : List WorkTold)
    (work number job arg : ℕ) → Before standings table ready_len story work (Ready number job arg)
    → 1 ≤ ready_len
counts_one standings table ready_len story work number job arg b =
    let shorter = length_without work (list_of table 0) (b.kept.sound.in_list work (ap is_ready b.stands)) in
    let counted = b.kept.counted in
    omega arith

-- the first ready work is one of the works
pub first_low : (standings : List Standing) (table : KeyTable) (ready_len : ℕ) (story : List WorkTold)
    (first : ℕ) (found : Option ℕ) → IsKept standings table ready_len story
    → found ≡ first_key (list_of table 0) → found ≡ Some first → first < MOST_TIMERS
first_low standings table ready_len story first found kept is some =
    let low = ready_within (ledger_of standings table story) first kept.sound
    (first_holds first (list_of table 0) (sym is ∙ some)) in
    let few = kept.few in
    omega arith

-- the one list of keys holds exactly the ready works
pub one_only : (standings : List Standing) (table : KeyTable) (ready_len : ℕ) (story : List WorkTold)
    (work : ℕ) (standing : Standing) → Before standings table ready_len story work standing
    → is_ready standing ≡ Bool.false → (c : ℕ) → c < table.number → Lacks work (list_of table c)
one_only standings table ready_len story work standing b is c low =
    let one = b.kept.one_list in
    let zero_is : c ≡ 0 = omega arith in
    subst (λ k. Lacks work (list_of table k)) (sym zero_is)
    (b.kept.sound.not_in_list work (ap is_ready b.stands ∙ is))
