-- the table at its start and end: the whole of a settled core, and the seat that knows all
use Rattle.std.specs.Prelude.{◌≡◌, ℕ, zero, suc, false, List, [], ◌∷◌, ◌++◌, Option, Some, None}
use Rattle.std.specs.Prelude.{length, slice_get}
use Rattle.tm_base.specs.declared.names.Class.{Class}
use Rattle.cpu_bases.specs.CpuBases.{class_in}
use Rattle.core_world.specs.Covered.{IsSettled}
use Rattle.core_world.specs.World.{World, cpu_of}
use Rattle.core_state.specs.core_facts.Cover.Rest.{GroupsRest}
use Rattle.shared_words.specs.declared.spot.Spot.{Spot}
use Rattle.shared_rule.specs.declared.parts.BoxView.{BoxView}
use Rattle.shared_rule.specs.declared.parts.PassView.{PassView}
use Rattle.shared_rule.specs.declared.parts.View.{View}
use Rattle.shared_rule.specs.Whole.{Spell, Whole, box_of, layout_of, no_looks, spot_at}
use Rattle.shared_rule.specs.Shows.{IsShown, journal_of}
use Rattle.shared_rule.specs.Rule.{Each, box_cpu, pass_cpu, seen}

-- the timer is queued on c, or where it is queued otherwise
abbrev pub spot_or : Option Class → (c : ℕ) → Option Spot → Option Spot
spot_or None c else = else
spot_or (Some class) c else = Some (spot_at c class)

-- where a timer is queued among the first so many CPUs
abbrev pub spot_below : World → (t n : ℕ) → Option Spot
spot_below o t zero = None
spot_below o t (suc n) = spot_or (class_in t (cpu_of o n).bases) n (spot_below o t n)

-- where a timer is queued
abbrev pub spot_in : World → (t : ℕ) → Option Spot
spot_in o t = spot_below o t (length o.cpus)

-- a CPU's pass at the start, with so many walks begun
abbrev pub first_pass_of : World → (made c : ℕ) → PassView
first_pass_of o made c = record {
  opening = o;
  cpu = c;
  walks = made;
  receipts = [];
  did = [];
  idle = (cpu_of o c).idle;
  inside = (cpu_of o c).inside;
  reeval = false;
  wakeup = (cpu_of o c).wakeup;
  journal = journal_of o c;
  marks = [];
}

-- the whole at the start: no exchange was made, nothing read, no stray bit
abbrev pub first_whole : World → (made : ℕ) → Whole
first_whole o made = record {
  world = o;
  seq = λ g. 0;
  read = λ c. 0;
  stray = λ g k. false;
  spot = spot_in o;
  looked = λ c. no_looks;
  pass = first_pass_of o made;
}

-- the box parts of the first so many CPUs
abbrev pub all_boxes : World → Whole → ℕ → List BoxView
all_boxes o s zero = []
all_boxes o s (suc n) = all_boxes o s n ++ box_of o s n ∷ []

-- the pass parts of the first so many CPUs
abbrev pub all_passes : Whole → ℕ → List PassView
all_passes s zero = []
all_passes s (suc n) = all_passes s n ++ s.pass n ∷ []

-- all parts of a whole
abbrev pub whole_view : World → Whole → View
whole_view o s = seen (all_boxes o s (length o.cpus)) (all_passes s (length o.cpus))

-- the view of the first seat
abbrev pub first_view : World → (made : ℕ) → View
first_view o made = whole_view o (first_whole o made)

-- THE END: a part for each CPU, in order
pub record IsFull {X : Type 0} (n : ℕ) (cpu : X → ℕ) (xs : List X) : Type 0 where
  pub count : length xs ≡ n
  pub order : (i : ℕ) (x : X) → slice_get xs i ≡ Some x → cpu x ≡ i

-- a seat that has all parts, no box with a walk and no pass inside an interrupt
pub record HasAll (o : World) (bs : List BoxView) (ps : List PassView) : Type 0 where
  pub boxes : IsFull (length o.cpus) box_cpu bs
  pub passes : IsFull (length o.cpus) pass_cpu ps
  pub free : Each (λ b. b.own.walk ≡ None) bs
  pub outside : Each (λ p. p.inside ≡ false) ps

-- the core that words and such a seat show: it fits, is settled and at rest; its CPUs are those of
-- the boxes, its groups are spelled by the words, and the passes are those of the whole
pub record EndsAs (o : World) (words : List ℕ) (bs : List BoxView) (ps : List PassView) : Type 0
  where
    pub whole : Whole
    pub shown : IsShown o whole
    pub spelled : Spell (layout_of o) words whole
    pub settled : IsSettled whole.world
    pub rests : GroupsRest whole.world
    pub cpus : (i : ℕ) (b : BoxView) → slice_get bs i ≡ Some b → cpu_of whole.world i ≡ b.own
    pub passes : (i : ℕ) (p : PassView) → slice_get ps i ≡ Some p → p ≡ whole.pass i
