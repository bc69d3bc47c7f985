-- what the look of an interrupt loads, and what becomes of the CPUs that it tries
use Rattle.std.specs.Prelude.{◌≡◌, ◌==◌, ℕ, suc, zero, ⊤, ◌⊎◌, Bool, true, false, not, ◌||◌, List}
use Rattle.std.specs.Prelude.{◌∷◌, ◌++◌, Option, Some, None, length, map, Contains}
use Rattle.std.specs.FinSet.{empty}
use Rattle.tm_base.specs.declared.names.Class.TheVariants.{Global}
use Rattle.tm_base.specs.declared.names.CpuId.{CpuId}
use Rattle.tm_base.specs.CpuSet as cpus
use Rattle.event_queue.specs.declared.event.Event.{Event}
use Rattle.event_queue.specs.EventMap.{IsTakenUp, NoneFits}
use Rattle.event_queue.specs.Word.{slot_of}
use Rattle.cpu_word.specs.declared.state.CpuState.{CpuState}
use Rattle.cpu_word.specs.Word.{IsStateOf}
use Rattle.cpu_bases.specs.declared.entry.Act.TheVariants.{Ticked}
use Rattle.tree_plan.specs.Paths.{group_at_of}
use Rattle.walk_rules.specs.Hierarchy.{side}
use Rattle.core_world.specs.World.{World}
use Rattle.shared_timers.specs.shared_rule.declared.parts.Deed.{Deed}
use Rattle.shared_timers.specs.shared_rule.declared.parts.Deed.TheVariants as deeds
use Rattle.shared_timers.specs.shared_rule.declared.parts.Look.{Look}
use Rattle.shared_timers.specs.shared_rule.declared.parts.Receipt.{Receipt}
use Rattle.shared_looks.specs.shared_cpus.Pairs.{cpu_place, leaf_place}
use Rattle.shared_looks.specs.Sights.{LooksBy, OtherBy, events_in, slot_looks, state_look}

-- a load as a deed of a pass
abbrev pub saw : Look → Deed
saw x = deeds.Saw x.word x.found

-- an event that is none to take up at this time: there is none, or it is ignored or not due
abbrev pub IsNoneDue : (now : ℕ) → Option Event → Type 0
IsNoneDue now None = ⊤
IsNoneDue now (Some e) = IsTakenUp now empty e → ⊥

-- whether a mark is that of a third
abbrev pub is_for_others : (looker : ℕ) → Option CpuId → Bool
is_for_others looker None = false
is_for_others looker (Some by) = not (by.0 == looker)

-- whether a CPU in this state is not one for whom this one looks: it is offline or active, or
-- marked by a third
abbrev pub is_let_be : (looker : ℕ) → CpuState → Bool
is_let_be looker s = not s.online || not s.idle || is_for_others looker s.remote

-- LEFT ALONE: what the look saw of a CPU that it tried and didn't take: its word, or its slot in
-- its leaf
pub data IsLeftAlone (o : World) (looker d : ℕ) (did : List Deed) : Type 0 where
  by_word : (found : ℕ) (s : CpuState) → Contains did (deeds.Saw (cpu_place o d) found) →
      IsStateOf found s → is_let_be looker s ≡ true → IsLeftAlone o looker d did
  by_slot : (found : ℕ) → Contains did (deeds.Saw (leaf_place o d) found) →
      IsNoneDue o.clock (slot_of found) → IsLeftAlone o looker d did

-- what came after a CPU was marked: its next event was carried upwards, or its word showed it
-- offline or active, and the mark was taken back
pub data IsClosed (o : World) (d : ℕ) (did : List Deed) : Type 0 where
  by_carrying : (before between after : List Deed) (next : ℕ) →
      did ≡ before ++ deeds.Took d ∷ between ++ deeds.Carried d next ∷ after → IsClosed o d did
  by_release : (before between late after : List Deed) (found : ℕ) (s : CpuState) →
      did ≡ before ++ deeds.Took d ∷ between ++ deeds.Saw (cpu_place o d) found ∷ late
      ++ deeds.Released d ∷ after →
      IsStateOf found s → (not s.online || not s.idle) ≡ true → IsClosed o d did

-- SERVED: the global timers of a CPU that the look took were drained by this pass, and its event
-- was seen to
pub record IsServed (o : World) (looker d : ℕ) (did : List Deed) (receipts : List Receipt) : Type 0
  where
    pub drain : Receipt
    pub has : Contains receipts drain
    pub home : drain.cpu.0 ≡ d
    pub act : drain.entry.act ≡ Ticked
    pub class : drain.entry.class ≡ Global
    pub by : drain.entry.by.0 ≡ looker
    pub closed : IsClosed o d did

-- TRIED: a CPU that the look tried was served, or left alone for a reason that was seen
abbrev pub IsTried : World → (looker : ℕ) → List Deed → List Receipt → (d : ℕ) → Type 0
IsTried o looker did receipts d =
    IsServed o looker d did receipts ⊎ IsLeftAlone o looker d did

-- A LOOK at the group of a level: in its last round the group's word said that the CPU's side looks
-- after it, and none of its eight slots showed an event that is due and of a CPU that this look
-- hasn't tried
pub record HasLookedAtGroup (o : World) (looker level : ℕ) (receipts : List Receipt)
    (did rest : List Deed) : Type 0 where
  pub before : List Deed
  pub tried : cpus.Cpus
  pub group : ℕ
  pub path : group_at_of o.tree looker level ≡ Some group
  pub word : ℕ
  pub looks : LooksBy word (side o.tree looker level)
  pub founds : List ℕ
  pub eight : length founds ≡ 8
  pub loads : did
      ≡ before ++ map saw (state_look o group word ∷ slot_looks o group 0 founds) ++ rest
  pub none : NoneFits (IsTakenUp o.clock tried) (events_in founds)
  pub each : (d : ℕ) → cpus.Contains tried d → IsTried o looker before receipts d

-- the look ends at a group whose word showed another migrator
pub record HasLookEnded (o : World) (looker level : ℕ) (did : List Deed) : Type 0 where
  pub before : List Deed
  pub group : ℕ
  pub path : group_at_of o.tree looker level ≡ Some group
  pub word : ℕ
  pub other : OtherBy word (side o.tree looker level)
  pub rest : List Deed
  pub load : did ≡ before ++ saw (state_look o group word) ∷ rest

-- THE LOOKS of an interrupt, from a level on, of so many levels that are left: up to where the CPU
-- has no group, or to a group with another migrator
unfoldable pub LooksFrom : World → (looker : ℕ) → List Receipt → (levels level : ℕ) → List Deed
    → Type 0
LooksFrom o looker receipts zero level did = ⊤
LooksFrom o looker receipts (suc n) level did =
    (group_at_of o.tree looker level ≡ None)
    ⊎ (HasLookEnded o looker level did
    ⊎ ((rest : List Deed) × HasLookedAtGroup o looker level receipts did rest
    × LooksFrom o looker receipts n (suc level) rest))
