-- lists of calls on a base, and what a plain base answers them
use Rattle.std.specs.Prelude.{◌≡◌, ℕ, ◌^◌, ◌<◌, ◌≤◌, take, List, [], ◌∷◌, None, length}
use Rattle.base_calls.specs.declared.wheel.BaseCall.{BaseCall}
use Rattle.base_calls.specs.declared.wheel.BaseCall.TheVariants as calls
use Rattle.base_calls.specs.declared.wheel.BaseAnswer.{BaseAnswer}
use Rattle.base_calls.specs.declared.wheel.BaseAnswer.TheVariants as answers
use Rattle.wheel_core.specs.PlainBase.{NoneBehind, PlainBase, RoomyBase, on_plain, reserved}
use Rattle.wheel_core.specs.PlainBase.{added, forwarded, item_of, least, next_out, oldest_of}
use Rattle.wheel_core.specs.PlainBase.{item_added, removed, taken}

-- the answer of a plain base to a call
abbrev pub answer_of_base : BaseCall → PlainBase → BaseAnswer
answer_of_base calls.Clock base = answers.Clock base.clock
answer_of_base calls.Len base = answers.Len (length base.items)
answer_of_base (calls.Get id) base = answers.Found (item_of id base.items)
answer_of_base calls.First base = answers.First (least base.items)
answer_of_base (calls.Forward now) base = answers.Done
answer_of_base (calls.Add id expires job arg) base =
    answers.Added (item_added base.clock id expires job arg)
answer_of_base (calls.Remove id) base = answers.Found (item_of id base.items)
answer_of_base (calls.PeekNext now) base = answers.Found (next_out now base)
answer_of_base calls.Oldest base = answers.Oldest (oldest_of base.items)
answer_of_base (calls.TakeNext now) base = answers.Found (next_out now base)
answer_of_base (calls.Reserve n) base = answers.Done

-- the base after a call
abbrev pub base_after_call : BaseCall → RoomyBase → RoomyBase
base_after_call (calls.Forward now) base = on_plain (forwarded now) base
base_after_call (calls.Add id expires job arg) base = on_plain (added id expires job arg) base
base_after_call (calls.Remove id) base = on_plain (removed id) base
base_after_call (calls.TakeNext now) base = on_plain (taken now) base
base_after_call (calls.Reserve n) base = reserved n base
base_after_call call base = base

-- what `add` asks of a base
pub record MayAdd (id expires : ℕ) (base : RoomyBase) : Type 0 where
  pub room : length base.plain.items < base.capacity
  pub not_queued : item_of id base.plain.items ≡ None
  pub expires_in_time : expires < 2 ^ 47
  pub clock_in_time : base.plain.clock < 2 ^ 47
  pub none_behind : NoneBehind base.plain

-- a call may be made
abbrev pub MayCallBase : BaseCall → RoomyBase → Type 0
MayCallBase (calls.Add id expires job arg) base = MayAdd id expires base
MayCallBase call base = Unit {0}

-- each call of a list may be made where it stands
abbrev pub MayCallBaseAll : List BaseCall → RoomyBase → Type 0
MayCallBaseAll [] base = Unit {0}
MayCallBaseAll (call ∷ rest) base =
    MayCallBase call base × MayCallBaseAll rest (base_after_call call base)

-- the answers to a list of calls, in order
abbrev pub answers_of_base : List BaseCall → RoomyBase → List BaseAnswer
answers_of_base [] base = []
answers_of_base (call ∷ rest) base =
    answer_of_base call base.plain ∷ answers_of_base rest (base_after_call call base)

-- the base after a list of calls
abbrev pub base_after_calls : List BaseCall → RoomyBase → RoomyBase
base_after_calls [] base = base
base_after_calls (call ∷ rest) base = base_after_calls rest (base_after_call call base)

-- a base stands where the first so many of the calls bring it
abbrev pub BaseStandsAfterSome : List BaseCall → (before now : RoomyBase) → Type 0
BaseStandsAfterSome list before now =
    (n : ℕ) × (n ≤ length list) × (now ≡ base_after_calls (take n list) before)
