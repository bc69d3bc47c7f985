-- what a walk that tells looks at under the locks of its groups, and what it finds so to wake for
use Rattle.std.specs.Prelude.{◌≡◌, ℕ, suc, ◌&&◌, not, Bool, false, List, [], ◌∷◌, ◌++◌, length}
use Rattle.std.specs.Prelude.{Option, Some, None, if◌then◌else◌}
use Rattle.std.specs.List.{fold, list_any}
use Rattle.tm_base.specs.declared.names.TheConstants.{NEVER}
use Rattle.event_queue.specs.Word.{slot_of}
use Rattle.tree_plan.specs.Shape.{Shape}
use Rattle.walk_rules.specs.declared.walk.WalkKind.{WalkKind}
use Rattle.walk_rules.specs.Hierarchy.{at_top}
use Rattle.walk_rules.specs.Stages.{first_of, is_remote}
use Rattle.core_world.specs.World.{World}
use Rattle.shared_words.specs.Exchanges.{shows_migrator}
use Rattle.shared_cpus.specs.shared_rule.declared.parts.Look.{Look}
use Rattle.shared_walks.specs.Steps.{slot_place, state_place}

-- the loads of the words of the groups on a CPU's path, one a level, from a level on
abbrev pub group_looks : World → (cpu level : ℕ) → (found : List ℕ) → List Look
group_looks o cpu level [] = []
group_looks o cpu level (x ∷ xs) =
    record { word = state_place o cpu level; found = x } ∷ group_looks o cpu (suc level) xs

-- the loads of the slots of one of these groups, one a child, from a child on
abbrev pub walk_slot_looks : World → (cpu level number : ℕ) → (found : List ℕ) → List Look
walk_slot_looks o cpu level number [] = []
walk_slot_looks o cpu level number (x ∷ xs) =
    record { word = slot_place o cpu level number; found = x }
    ∷ walk_slot_looks o cpu level (suc number) xs

-- FIRST: the least expiry of the events in these slots that aren't ignored, `NEVER` where there is
-- none
abbrev pub first_by : (slots : List ℕ) → ℕ
first_by slots = fold (λ first found. first_of first (slot_of found)) NEVER slots

-- whether a walk reads the slots of the group of a level, of whose word this was the load: that is
-- the top and showed no migrator, and no other CPU makes the walk
abbrev pub reads_slots : Shape → (cpu level word : ℕ) → WalkKind → Bool
reads_slots t cpu level word kind =
    at_top t cpu level && (not (shows_migrator word) && not (is_remote kind))

-- THE LOOKS of a walk that has come to its end: at one group a level, of which those below the last
-- showed no migrator, and at the slots of the last one, or at none; and what it has found so
pub record HasWalkLooked (o : World) (cpu : ℕ) (kind : WalkKind) (looked : List Look) (first : ℕ) :
    Type 0 where
  pub below : List ℕ
  pub last : ℕ
  pub slots : List ℕ
  pub looks : looked
      ≡ group_looks o cpu 0 (below ++ last ∷ []) ++ walk_slot_looks o cpu (length below) 0 slots
  pub passed : list_any shows_migrator below ≡ false
  pub read : length slots ≡ (if reads_slots o.tree cpu (length below) last kind then 8 else 0)
  pub first_is : first ≡ first_by slots

-- WAKEUPS: what a walk of a CPU with this leaf has found to wake for besides its pinned timers: by
-- what it looked at, or without a leaf what it was to tell
abbrev pub FindsFirst : Option ℕ → World → (cpu : ℕ) → WalkKind → (next : ℕ) → List Look
    → (first : ℕ) → Type 0
FindsFirst None o cpu kind next looked first = (looked ≡ []) × (first ≡ next)
FindsFirst (Some leaf) o cpu kind next looked first = HasWalkLooked o cpu kind looked first
