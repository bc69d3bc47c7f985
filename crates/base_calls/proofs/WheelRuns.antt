-- a list of calls, so far
use Rattle.std.proofs.Common.{◌≡◌, ℕ, ◌<◌, ◌+◌, List, [], ◌∷◌, ◌++◌, length, get_or, take, drop}
use Rattle.std.proofs.Common.{refl, ap, subst, sym, ◌∙◌, arith, append_assoc, drop-cons, add-one}
use Rattle.std.proofs.lemmas.List.{take_more}
use Rattle.base_calls.specs.declared.wheel.BaseCall.{BaseCall}
use Rattle.base_calls.specs.declared.wheel.BaseAnswer.{BaseAnswer}
use Rattle.wheel_core.specs.PlainBase.{RoomyBase}
use Rattle.base_calls.specs.WheelCalls.{MayCallBaseAll, BaseStandsAfterSome, base_after_call, base_after_calls, answer_of_base}
use Rattle.base_calls.specs.WheelCalls.{answers_of_base}

-- the answers so far and those to what is left are those to all, and what is left may be called
pub record RanSoFar (list : List BaseCall) (i : ℕ) (told : List BaseAnswer) (start base : RoomyBase) : Type 0 where
  pub all_told : told ++ answers_of_base (drop i list) base ≡ answers_of_base list start
  pub all_made : base_after_calls (drop i list) base ≡ base_after_calls list start
  pub made : base ≡ base_after_calls (take i list) start
  pub may : MayCallBaseAll (drop i list) base

after_calls_push : (list : List BaseCall) (call : BaseCall) (base : RoomyBase)
    → base_after_calls (list ++ call ∷ []) base ≡ base_after_call call (base_after_calls list base)
after_calls_push [] call base = refl
after_calls_push (first ∷ list) call base = after_calls_push list call (base_after_call first base)

next_call : (list : List BaseCall) (i : ℕ) (d : BaseCall) → i < length list
    → drop i list ≡ get_or list i d ∷ drop (i + 1) list
next_call list i d within = rw add-one (drop-cons list i d within)

-- the base after one call more
pub made_more : (list : List BaseCall) (i : ℕ) (d : BaseCall) (start base next : RoomyBase)
    → i < length list
    → base ≡ base_after_calls (take i list) start → next ≡ base_after_call (get_or list i d) base
    → next ≡ base_after_calls (take (i + 1) list) start
made_more list i d start base next within so_far is =
    is ∙ (ap (base_after_call (get_or list i d)) so_far
    ∙ (sym (after_calls_push (take i list) (get_or list i d) start) ∙ ap (λ made. base_after_calls made start) (sym (take_more list i d within))))

pub run_more : (list : List BaseCall) (i : ℕ) (d : BaseCall) (told now_told : List BaseAnswer) (answer : BaseAnswer) (start base next : RoomyBase)
    → i < length list → RanSoFar list i told start base
    → answer ≡ answer_of_base (get_or list i d) base.plain → next ≡ base_after_call (get_or list i d) base
    → now_told ≡ told ++ answer ∷ [] → RanSoFar list (i + 1) now_told start next
run_more list i d told now_told answer start base next within so_far says is pushed =
    let split = next_call list i d within in
    let may = subst (λ rest. MayCallBaseAll rest base) split so_far.may in
    record {
      all_told =
          rw (pushed, is, says)
          (append_assoc told (answer_of_base (get_or list i d) base.plain ∷ []) (answers_of_base (drop (i + 1) list) (base_after_call (get_or list i d) base))
          ∙ (ap (λ rest. told ++ answers_of_base rest base) (sym split) ∙ so_far.all_told));
      all_made = rw is (ap (λ rest. base_after_calls rest base) (sym split) ∙ so_far.all_made);
      made = made_more list i d start base next within so_far.made is;
      may = subst (MayCallBaseAll (drop (i + 1) list)) (sym is) may.1;
    }

pub stands_more : (list : List BaseCall) (i : ℕ) (d : BaseCall) (told : List BaseAnswer) (start base next : RoomyBase)
    → i < length list → RanSoFar list i told start base → next ≡ base_after_call (get_or list i d) base
    → BaseStandsAfterSome list start next
stands_more list i d told start base next within so_far is = (i + 1, omega arith, made_more list i d start base next within so_far.made is)
