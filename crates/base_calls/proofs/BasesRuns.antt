-- a list of calls, so far
use Rattle.std.proofs.Common.{◌≡◌, ℕ, ◌<◌, ◌≤◌, ◌+◌, List, [], ◌∷◌, ◌++◌, length, get_or, take}
use Rattle.std.proofs.Common.{drop}
use Rattle.std.proofs.Common.{refl, ap, subst, sym, ◌∙◌, arith, append_assoc, drop-cons, add-one}
use Rattle.std.proofs.lemmas.List.{take_more}
use Rattle.base_calls.specs.declared.bases.BasesCall.{BasesCall}
use Rattle.base_calls.specs.declared.bases.BasesAnswer.{BasesAnswer}
use Rattle.cpu_bases.specs.CpuBases.{RoomyBases}
use Rattle.cpu_bases.specs.Journals.{LegalUpTo}
use Rattle.base_calls.specs.BasesCalls.{InOrder, IsByRight, MayCallBasesAll, BasesStandAfterSome, bases_after_call}
use Rattle.base_calls.specs.BasesCalls.{bases_after_calls, answer_of_bases, answers_of_bases, time_after_calls, bases_call_time}
use Rattle.cpu_bases.specs.Replay.{AddsReplay}
use Rattle.cpu_bases.proofs.Replays.{adds_both}

-- the answers so far and those to what is left are those to all; what is left may be called; what
-- was legal is legal, and what was done is told by new entries
pub record RanSoFar (list : List BasesCall) (i : ℕ) (told : List BasesAnswer)
    (start bases : RoomyBases) : Type 0 where
  pub all_told : told ++ answers_of_bases (drop i list) bases ≡ answers_of_bases list start
  pub all_made : bases_after_calls (drop i list) bases ≡ bases_after_calls list start
  pub made : bases ≡ bases_after_calls (take i list) start
  pub may : MayCallBasesAll (drop i list) bases
  pub replay : AddsReplay start.plain bases.plain
  pub legal : (cpu time : ℕ) → InOrder cpu time list → LegalUpTo cpu time start.plain.journal
      → (now : ℕ) × InOrder cpu now (drop i list) × LegalUpTo cpu now bases.plain.journal
      × (time_after_calls now (drop i list) ≡ time_after_calls time list)

after_calls_push : (list : List BasesCall) (call : BasesCall) (bases : RoomyBases)
    → bases_after_calls (list ++ call ∷ []) bases ≡ bases_after_call call (bases_after_calls list bases)
after_calls_push [] call bases = refl
after_calls_push (first ∷ list) call bases = after_calls_push list call (bases_after_call first bases)

next_call : (list : List BasesCall) (i : ℕ) (d : BasesCall) → i < length list
    → drop i list ≡ get_or list i d ∷ drop (i + 1) list
next_call list i d within = rw add-one (drop-cons list i d within)

pub may_next : (list : List BasesCall) (i : ℕ) (d : BasesCall) (told : List BasesAnswer)
    (start bases : RoomyBases) → i < length list → RanSoFar list i told start bases
    → MayCallBasesAll (get_or list i d ∷ drop (i + 1) list) bases
may_next list i d told start bases within so_far =
    subst (λ rest. MayCallBasesAll rest bases) (next_call list i d within) so_far.may

made_more : (list : List BasesCall) (i : ℕ) (d : BasesCall) (start bases next : RoomyBases)
    → i < length list → bases ≡ bases_after_calls (take i list) start
    → next ≡ bases_after_call (get_or list i d) bases → next ≡ bases_after_calls (take (i + 1) list) start
made_more list i d start bases next within so_far is =
    is
    ∙ (ap (bases_after_call (get_or list i d)) so_far
    ∙ (sym (after_calls_push (take i list) (get_or list i d) start)
    ∙ ap (λ made. bases_after_calls made start) (sym (take_more list i d within))))

pub run_more : (list : List BasesCall) (i : ℕ) (d : BasesCall) (told now_told : List BasesAnswer)
    (answer : BasesAnswer) (start bases next : RoomyBases) → i < length list
    → RanSoFar list i told start bases → answer ≡ answer_of_bases (get_or list i d) bases.plain
    → next ≡ bases_after_call (get_or list i d) bases → AddsReplay bases.plain next.plain
    → ((cpu time : ℕ) → time ≤ bases_call_time (get_or list i d) time → IsByRight cpu (get_or list i d)
    → LegalUpTo cpu time bases.plain.journal
    → LegalUpTo cpu (bases_call_time (get_or list i d) time) next.plain.journal)
    → now_told ≡ told ++ answer ∷ [] → RanSoFar list (i + 1) now_told start next
run_more list i d told now_told answer start bases next within so_far says is adds keeps pushed =
    let call = get_or list i d in
    let split = next_call list i d within in
    let may = may_next list i d told start bases within so_far in
    record {
      all_told =
          rw (pushed, is, says)
          (append_assoc told (answer_of_bases call bases.plain ∷ [])
          (answers_of_bases (drop (i + 1) list) (bases_after_call call bases))
          ∙ (ap (λ rest. told ++ answers_of_bases rest bases) (sym split) ∙ so_far.all_told));
      all_made = rw is (ap (λ rest. bases_after_calls rest bases) (sym split) ∙ so_far.all_made);
      made = made_more list i d start bases next within so_far.made is;
      may = subst (MayCallBasesAll (drop (i + 1) list)) (sym is) may.1;
      replay = adds_both start.plain bases.plain next.plain so_far.replay adds;
      legal = λ cpu time ordered was.
          let (now, left, legal_now, same) = so_far.legal cpu time ordered was in
          let here = subst (InOrder cpu now) split left in (
            bases_call_time call now,
            here.2,
            keeps cpu now here.0 here.1 legal_now,
            sym (ap (time_after_calls now) split) ∙ same,
          );
    }

pub stands_more : (list : List BasesCall) (i : ℕ) (d : BasesCall) (told : List BasesAnswer)
    (start bases next : RoomyBases) → i < length list → RanSoFar list i told start bases
    → next ≡ bases_after_call (get_or list i d) bases → BasesStandAfterSome list start next
stands_more list i d told start bases next within so_far is =
    (i + 1, omega arith, made_more list i d start bases next within so_far.made is)

pub stands_still : (list : List BasesCall) (i : ℕ) (told : List BasesAnswer)
    (start bases next : RoomyBases) → i < length list → RanSoFar list i told start bases
    → next ≡ bases → BasesStandAfterSome list start next
stands_still list i told start bases next within so_far is =
    (i, omega arith, is ∙ so_far.made)
