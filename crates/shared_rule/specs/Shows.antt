-- what holds of the core and of what the table knows beside it
use Rattle.std.specs.Prelude.{◌≡◌, ◌≢◌, ◌↔◌, ◌⊎◌, ℕ, zero, suc, ◌+◌, ◌/◌, ◌^◌, ◌<◌, ◌≤◌, ◌==◌}
use Rattle.std.specs.Prelude.{◌&&◌, ◌||◌, not, nat_lt, nat_le, Bool, true, false, List, ◌++◌}
use Rattle.std.specs.Prelude.{Option, Some, None, length, slice_get, take, Contains}
use Rattle.std.specs.Prelude.{if◌then◌else◌}
use Rattle.std.specs.Option.{option_map_or}
use Rattle.tm_base.specs.declared.names.Class.{Class}
use Rattle.cpu_bases.specs.declared.entry.Entry.{Entry}
use Rattle.cpu_bases.specs.declared.entry.Act.TheVariants.{Armed}
use Rattle.cpu_bases.specs.CpuBases.{class_in, empty_bases}
use Rattle.cpu_bases.specs.Laws.{HasEnd, is_end}
use Rattle.cpu_bases.specs.Replay.{AddsReplay, replay}
use Rattle.tree_plan.specs.Shape.{Shape}
use Rattle.tree_plan.specs.Paths.{group_at_of, level_of}
use Rattle.walk_rules.specs.declared.walk.Walk.{Walk}
use Rattle.walk_rules.specs.declared.walk.WalkKind.{WalkKind}
use Rattle.walk_rules.specs.declared.walk.WalkKind.TheVariants as kinds
use Rattle.walk_rules.specs.Scene.{Group}
use Rattle.core_world.specs.World.{CpuRecord, World, cpu_of, is_reading, moved}
use Rattle.core_world.specs.Frames.{SameSize}
use Rattle.core_world.specs.Lists.{IsRun}
use Rattle.core_world.specs.declared.step.Step.{Step}
use Rattle.core_world.specs.Enabled.{Enabled}
use Rattle.core_world.specs.Steps.{stepped}
use Rattle.core_state.specs.core_facts.Exchanges.{stage_number}
use Rattle.core_state.specs.Kept.{WorldFits, is_queued}
use Rattle.shared_words.specs.declared.spot.Spot.{Spot}
use Rattle.shared_words.specs.Exchanges.{HasRoom}
use Rattle.shared_words.specs.Layout.{index_of}
use Rattle.shared_words.specs.Words.{spot_of}
use Rattle.shared_rule.specs.declared.parts.PassView.{PassView}
use Rattle.shared_rule.specs.declared.parts.Looked.{Looked}
use Rattle.shared_rule.specs.declared.parts.Receipt.{Receipt}
use Rattle.shared_rule.specs.declared.parts.Did.{Did}
use Rattle.shared_rule.specs.declared.parts.Deed.{Deed}
use Rattle.shared_rule.specs.declared.parts.Deed.TheVariants as deeds
use Rattle.shared_rule.specs.Whole.{Whole, group_word, layout_of, spot_at, timer_at}

-- EXCHANGES STILL TO COME: the walk is past its exchange at a level
abbrev pub is_past : ℕ → Walk → Bool
is_past level k = nat_lt level k.level || (k.level == level && nat_le 5 (stage_number k.stage))

-- the kinds of walk that exchange the words of groups
abbrev pub exchanges : WalkKind → Bool
exchanges kinds.Activate = true
exchanges kinds.Deactivate = true
exchanges kinds.Offline = true
exchanges kinds.Reeval = false
exchanges (kinds.Remote by) = false

-- the path of c has group g at a level
abbrev pub is_on_path : Shape → (g c level : ℕ) → Bool
is_on_path t g c level = option_map_or (λ h. h == g) (group_at_of t c level) false

-- 1 where the walk has its exchange at group g, of this level, still to make
abbrev pub owes_at : Shape → (g c level : ℕ) → Walk → ℕ
owes_at t g c level k =
    if exchanges k.kind && (is_on_path t g c level && not (is_past level k)) then 1 else 0

-- how many exchanges at group g the walk of c, if it has one, has still to make
abbrev pub owes : Shape → (g c : ℕ) → Option Walk → ℕ
owes t g c None = 0
owes t g c (Some k) = owes_at t g c (level_of t g) k

-- the sum of the first so many numbers
abbrev pub sum_to : ℕ → (ℕ → ℕ) → ℕ
sum_to zero f = 0
sum_to (suc n) f = f n + sum_to n f

-- READINGS: what a walk that has read and not yet exchanged knows: it is fresh exactly where the
-- group's word is the one that it read, the sequence has not fallen since, and what it read is the
-- word of a state
pub record ReadsOf (t : Shape) (c : ℕ) (m : Option Walk) (read : ℕ) (word seq : ℕ → ℕ) :
    Type 0 where
  pub fresh : (k : Walk) (g : ℕ) → m ≡ Some k → is_reading k.stage ≡ true →
      group_at_of t c k.level ≡ Some g → k.fresh ≡ (word g == read)
  pub before : (k : Walk) (g : ℕ) → m ≡ Some k → is_reading k.stage ≡ true →
      group_at_of t c k.level ≡ Some g → read / 2 ^ 16 ≤ seq g
  pub good : (k : Walk) → m ≡ Some k → is_reading k.stage ≡ true → HasRoom read

-- the same of the walk of c in a whole
abbrev pub Reads : Whole → ℕ → Type 0
Reads s c =
    ReadsOf s.world.tree c (cpu_of s.world c).walk (s.read c) (group_word s) s.seq

-- PASSES: a re-evaluation
abbrev pub is_reeval : WalkKind → Bool
is_reeval kinds.Activate = false
is_reeval kinds.Deactivate = false
is_reeval kinds.Offline = false
is_reeval kinds.Reeval = true
is_reeval (kinds.Remote by) = false

-- the walk of a CPU, if it has one, is a re-evaluation
abbrev pub reevaluates : Option Walk → Bool
reevaluates m = option_map_or (λ (k : Walk). is_reeval k.kind) m false

-- what a pass says of its CPU
pub record FlagsOf (y : CpuRecord) (p : PassView) : Type 0 where
  pub idle : p.idle ≡ y.idle
  pub inside : p.inside ≡ y.inside
  pub wakeup : p.wakeup ≡ y.wakeup
  pub reeval : p.reeval ≡ reevaluates y.walk

-- JOURNALS: that of a CPU
abbrev pub journal_of : World → ℕ → List Entry
journal_of w c = (cpu_of w c).bases.journal

-- one journal begins with another
abbrev pub BeginsWith : (new old : List Entry) → Type 0
BeginsWith new old = (more : List Entry) × (new ≡ old ++ more)

-- RECEIPTS: receipt i of the pass of c is true: its entry stands where it says, is new since the
-- opening, was made by c at the time of the run, in c's own journal where it arms, and this is the
-- one receipt of that place
pub record IsTrueReceipt (o w : World) (holder : ℕ → ℕ → ℕ × ℕ) (c i : ℕ) (r : Receipt) :
    Type 0 where
  pub stands : slice_get (journal_of w r.cpu.0) r.place ≡ Some r.entry
  pub later : length (journal_of o r.cpu.0) ≤ r.place
  pub line : r.line ≡ r.entry.line
  pub at : r.entry.at ≡ o.clock
  pub by : r.entry.by.0 ≡ c
  pub armed : r.entry.act ≡ Armed → r.cpu.0 ≡ c
  pub held : holder r.cpu.0 r.place ≡ (c, i)

-- the receipt of an entry of the journal of d
abbrev pub receipt_of : (d place : ℕ) → Entry → Receipt
receipt_of d place e = record { line = e.line; cpu = record { 0 = d }; place = place; entry = e }

-- a receipt stands in a pass, at a place among its receipts
pub record HasReceipt (n : ℕ) (pass : ℕ → PassView) (at : ℕ × ℕ) (r : Receipt) : Type 0 where
  pub in_range : at.0 < n
  pub stands : slice_get (pass at.0).receipts at.1 ≡ Some r

-- the receipts of all passes are true, exactly those of the entries that are new since the opening,
-- and in order; of each place the holder tells which pass has its receipt, and which of them it is
pub record Noted (o w : World) (pass : ℕ → PassView) (holder : ℕ → ℕ → ℕ × ℕ) : Type 0 where
  pub true : (c i : ℕ) (r : Receipt) → slice_get (pass c).receipts i ≡ Some r →
      IsTrueReceipt o w holder c i r
  pub all : (d place : ℕ) (e : Entry) → slice_get (journal_of w d) place ≡ Some e →
      length (journal_of o d) ≤ place →
      HasReceipt (length o.cpus) pass (holder d place) (receipt_of d place e)
  pub order : (c i j : ℕ) (r q : Receipt) → slice_get (pass c).receipts i ≡ Some r →
      slice_get (pass c).receipts j ≡ Some q → r.cpu.0 ≡ q.cpu.0 → i < j → r.place < q.place

-- WHAT WAS SEEN: the word of a timer
abbrev pub saw_timer : World → (t found : ℕ) → Deed
saw_timer o t found = deeds.Saw (index_of (layout_of o) (timer_at t)) found

-- a timer is queued by these entries, played again from empty bases
abbrev pub is_queued_by : (t : ℕ) → List Entry → Bool
is_queued_by t journal =
    is_queued t (record { bases = replay journal empty_bases.bases; journal = journal })

-- a timer was queued on d after some number of d's entries, not fewer than at the opening
pub record WasQueued (o w : World) (t d : ℕ) : Type 0 where
  pub after : ℕ
  pub since : length (journal_of o d) ≤ after
  pub within : after ≤ length (journal_of w d)
  pub queued : is_queued_by t (take after (journal_of w d)) ≡ true

-- an end of a timer is among the entries of a CPU that are new since the opening
pub record HasNewEnd (o w : World) (t : ℕ) : Type 0 where
  pub cpu : ℕ
  pub place : ℕ
  pub ending : Entry
  pub stands : slice_get (journal_of w cpu) place ≡ Some ending
  pub later : length (journal_of o cpu) ≤ place
  pub timer : ending.timer.0 ≡ t
  pub ends : is_end ending.act ≡ true

-- what a pass with these receipts did is right: what it found was so. Where it found that the word
-- of a timer names a CPU, the timer was queued there since the opening; where it found that the
-- timer isn't queued, each arming of it that was among the receipts then has an end, and so has
-- what was queued at the opening
pub record DidRight (o w : World) (receipts : List Receipt) (x : Did) : Type 0 where
  pub held : x.held ≤ length receipts
  pub named : (found t : ℕ) (p : Spot) → x.deed ≡ saw_timer o t found → t < o.timers →
      spot_of found ≡ Some p → WasQueued o w t p.cpu.0
  pub armed : (t i : ℕ) (r : Receipt) → x.deed ≡ saw_timer o t 0 → t < o.timers → i < x.held →
      slice_get receipts i ≡ Some r → r.entry.act ≡ Armed → r.entry.timer.0 ≡ t →
      HasEnd (journal_of w r.cpu.0) r.place r.entry
  pub opening : (t : ℕ) → x.deed ≡ saw_timer o t 0 → t < o.timers →
      ((d : ℕ) → class_in t (cpu_of o d).bases ≡ None) ⊎ HasNewEnd o w t

-- REACHED: steps lead from one core to another, each enabled where it stands
abbrev pub StepsLead : (before after : World) → Type 0
StepsLead before after = (steps : List Step) × IsRun steps before after

-- a step of the core
abbrev pub CoreStep : Type 0
CoreStep = Step

-- MADE: between two cores no step was made, or this one, enabled where it stands
abbrev pub StepMade : Option CoreStep → (before after : World) → Type 0
StepMade None before after = after ≡ before
StepMade (Some step) before after = Enabled before step × (after ≡ stepped before step)

-- THE RULE, of a whole and the core with which the run began
pub record IsShown (o : World) (s : Whole) : Type 0 where
  -- the core that is shown is lawful and fits, and the opening was
  pub opening : WorldFits o
  pub fits : WorldFits s.world
  -- steps of the core lead to it from the opening
  pub reached : StepsLead o s.world
  -- what no step changes
  pub same : SameSize o s.world
  pub clock : s.world.clock ≡ o.clock
  pub online : (c : ℕ) → (cpu_of s.world c).online ≡ (cpu_of o c).online
  -- no walk is an Offline one
  pub staying : (c : ℕ) (k : Walk) → (cpu_of s.world c).walk ≡ Some k → k.kind ≢ kinds.Offline
  -- what walks read
  pub reads : (c : ℕ) → Reads s c
  -- a sequence, with the exchanges still to come, is at most the number of walks that were begun
  pub bound : (g : ℕ) →
      s.seq g + sum_to (length o.cpus) (λ c. owes o.tree g c (cpu_of s.world c).walk)
      ≤ sum_to (length o.cpus) (λ c. (s.pass c).walks)
  pub few : (c : ℕ) → (s.pass c).walks < 2 ^ 32
  -- passes: whose they are, what they say of their CPU, whose marks they have set
  pub opened : (c : ℕ) → (s.pass c).opening ≡ o
  pub passes : (c : ℕ) → (s.pass c).cpu ≡ c
  pub flags : (c : ℕ) → FlagsOf (cpu_of s.world c) (s.pass c)
  pub marked : (c b : ℕ) → ((cpu_of s.world c).mark ≡ Some b) ↔ Contains (s.pass b).marks c
  -- a timer's word names exactly where it is queued
  pub named : (t d : ℕ) (class : Class) → class_in t (cpu_of s.world d).bases ≡ Some class →
      s.spot t ≡ Some (spot_at d class)
  pub queued : (t : ℕ) (p : Spot) → s.spot t ≡ Some p →
      (p.cpu.0 < length o.cpus) × (class_in t (cpu_of s.world p.cpu.0).bases ≡ Some p.class)
  -- bases and journals are those of the opening with what new entries make of them
  pub replayed : (c : ℕ) → AddsReplay (cpu_of o c).bases (cpu_of s.world c).bases
  pub journals : (c : ℕ) → BeginsWith (journal_of s.world c) (s.pass c).journal
  pub parted : (c : ℕ) → BeginsWith (s.pass c).journal (journal_of o c)
  -- receipts, and what passes saw and did
  pub noted : (holder : ℕ → ℕ → ℕ × ℕ) × Noted o s.world s.pass holder
  pub seen : (c i : ℕ) (x : Did) → slice_get (s.pass c).did i ≡ Some x →
      DidRight o s.world (s.pass c).receipts x
  -- no timer comes to an offline CPU
  pub left : (c t : ℕ) → (cpu_of o c).online ≡ false → class_in t (cpu_of o c).bases ≡ None →
      class_in t (cpu_of s.world c).bases ≡ None

-- STEPS: a sequence rises by one where a group's state is exchanged
abbrev pub raised : Bool → ℕ → (ℕ → ℕ) → ℕ → ℕ
raised true g seq h = if h == g then suc (seq h) else seq h
raised false g seq h = seq h

-- a function with another value at one place
abbrev pub set_at : {X : Type 0} → ℕ → X → (ℕ → X) → ℕ → X
set_at c x f d = if d == c then x else f d

-- the whole after a step of the core on the group g and the CPU c that leaves all timers
abbrev pub after : Whole → ℕ → Group → ℕ → CpuRecord → Bool → ℕ → (ℕ → ℕ → Bool) → Looked
    → (ℕ → PassView) → Whole
after s g x c y r n stray looked pass = record s {
  world = moved s.world g x c y r;
  seq = raised r g s.seq;
  read = set_at c n s.read;
  stray = stray;
  looked = set_at c looked s.looked;
  pass = pass;
}
