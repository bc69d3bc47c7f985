-- for crates above: journals only grow, so that what comes from an arming still does
use Rattle.std.proofs.Common.{ℕ, [], ◌∷◌, ◌++◌, Option, Some, None, sym, subst, inl, inr}
use Rattle.std.specs.Prelude.{Contains}
use Rattle.std.proofs.lemmas.List.Elements.{Contains-append_left}
use Rattle.tm_base.specs.declared.names.Class.{Class}
use Rattle.tm_base.specs.declared.names.CpuId.{CpuId}
use Rattle.wheel_core.specs.declared.item.Item.{Item}
use Rattle.wheel_core.specs.PlainBase.{next_out}
use Rattle.cpu_bases.specs.declared.entry.Entry.{Entry}
use Rattle.cpu_bases.specs.CpuBases.{CpuBases, after_cancel, after_hand_out, after_move_out, armed}
use Rattle.cpu_bases.specs.CpuBases.{base_of, cancelled, found_in, handed_out, moved_in, moved_out}
use Rattle.cpu_bases.specs.CpuBases.{oldest_in}
use Rattle.core_world.specs.Origins.{HasOrigin}
use Rattle.core_world.specs.Steps.{handed_of}
use Rattle.core_world.specs.World.{World, cpu_of}
use Rattle.core_laws.proofs.Timers.Bases.{SameBases}

-- what one journal has, another has
abbrev pub Grows : (old new : CpuBases) → Type 0
Grows old new = (entry : Entry) → Contains old.journal entry → Contains new.journal entry

pub record JournalsGrow (old new : World) : Type 0 where
  pub each : (c : ℕ) → Grows (cpu_of old c).bases (cpu_of new c).bases

pub origin_grows : (w v : World) → JournalsGrow w v → (time : ℕ) → HasOrigin w time
    → HasOrigin v time
origin_grows w v grow time (inl never) = inl never
origin_grows w v grow time (inr armed) = inr (record {
  cpu = armed.cpu;
  entry = armed.entry;
  written = grow.each armed.cpu armed.entry armed.written;
  arming = armed.arming;
  wheel = armed.wheel;
})

pub same_grow : (w v : World) → SameBases w v → JournalsGrow w v
same_grow w v same = record {
  each = λ c. subst (Grows (cpu_of w c).bases) (sym (same.each c))
      (λ entry there. there);
}

-- CALLS write at the end
adds : (old : CpuBases) (entry : Entry) (e : Entry) → Contains old.journal e
    → Contains (old.journal ++ entry ∷ []) e
adds old entry e there = Contains-append_left old.journal (entry ∷ []) e there

cancel : (found : Option (Class × Item)) (now line : ℕ) (by : CpuId) (cpu : CpuBases)
    → Grows cpu (after_cancel found now line by cpu)
cancel None now line by cpu = λ entry there. there
cancel (Some (class, item)) now line by cpu = adds cpu _

hand_out : (out : Option Item) (now : ℕ) (class : Class) (by : CpuId) (cpu : CpuBases)
    → Grows cpu (after_hand_out out now class by cpu)
hand_out None now class by cpu = adds cpu _
hand_out (Some item) now class by cpu = adds cpu _

move_out : (out : Option Item) (now : ℕ) (class : Class) (by : CpuId) (cpu : CpuBases)
    → Grows cpu (after_move_out out now class by cpu)
move_out None now class by cpu = λ entry there. there
move_out (Some item) now class by cpu = adds cpu _

pub armed_grows : (now : ℕ) (class : Class) (timer expires job arg line : ℕ) (by : CpuId)
    (cpu : CpuBases) → Grows cpu (armed now class timer expires job arg line by cpu)
armed_grows now class timer expires job arg line by cpu = adds cpu _

pub moved_in_grows : (now : ℕ) (class : Class) (timer expires job arg : ℕ) (by : CpuId)
    (cpu : CpuBases) → Grows cpu (moved_in now class timer expires job arg by cpu)
moved_in_grows now class timer expires job arg by cpu = adds cpu _

pub cancelled_grows : (now timer line : ℕ) (by : CpuId) (cpu : CpuBases)
    → Grows cpu (cancelled now timer line by cpu)
cancelled_grows now timer line by cpu = cancel (found_in timer cpu) now line by cpu

pub handed_out_grows : (now : ℕ) (class : Class) (by : CpuId) (cpu : CpuBases)
    → Grows cpu (handed_out now class by cpu)
handed_out_grows now class by cpu = hand_out (next_out now (base_of class cpu)) now class by cpu

pub handed_of_grows : (now : ℕ) (m : Option Class) (by : CpuId) (cpu : CpuBases)
    → Grows cpu (handed_of now m by cpu)
handed_of_grows now None by cpu = λ entry there. there
handed_of_grows now (Some class) by cpu = handed_out_grows now class by cpu

pub moved_out_grows : (now : ℕ) (class : Class) (by : CpuId) (cpu : CpuBases)
    → Grows cpu (moved_out now class by cpu)
moved_out_grows now class by cpu = move_out (oldest_in (base_of class cpu).items) now class by cpu
