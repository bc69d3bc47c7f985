-- what a part keeps and shows after a step of its CPU
use Rattle.std.proofs.Common.{◌≡◌, ℕ, List, [], ◌∷◌, Option, Some, sym, ap, ◌∙◌}
use Rattle.std.specs.Prelude.{unwrap_or}
use Rattle.tree_plan.specs.Shape.{Shape}
use Rattle.tree_plan.specs.Paths.{group_at_of}
use Rattle.walk_rules.specs.Hierarchy.{group_on}
use Rattle.atomic_table.specs.Seated.{TableId}
use Rattle.event_queue.specs.declared.event.Event.{Event}
use Rattle.cpu_bases.specs.CpuBases.{CpuBases, Room}
use Rattle.core_world.specs.World.{CpuRecord, World}
use Rattle.shared_rule.specs.core_state.Status.{CpuStatus}
use Rattle.shared_rule.specs.declared.parts.BoxView.{BoxView}
use Rattle.shared_rule.specs.declared.parts.Looked.{Looked}
use Rattle.shared_rule.specs.declared.parts.PassView.{PassView}
use Rattle.shared_rule.specs.Plays.{PartFits, Sound, head_pass}
use Rattle.shared_rule.specs.Rule.{Me, seat_of}
use Rattle.shared_rule.specs.TurnLaws.{IsOwnTurn}
use Rattle.shared_rule.specs.Whole.{own_word}
use Rattle.shared_rule.specs.declared.box_part.Guest.{Guest}
use Rattle.shared_rule.specs.Parts.{HeldPart, Hosts, PartHolds, box_held, guest_room, looked_of}
use Rattle.shared_rule.proofs.Holding.{holds}
use Rattle.shared_cpus.specs.Conditions.{IsTurn}
use Rattle.shared_cpus.specs.Pairs.{box_by, by_pair}

-- a CPU's own turn, in the words of the rule
pub own_turn : (part : HeldPart) (p : PassView) (y : CpuRecord) (new : ℕ) → PartFits part.box
    → IsTurn part p → new ≡ own_word y → IsOwnTurn part.box.opening part.box p y new
own_turn part p y new fits turn word = record {
  cpu = fits.cpu;
  own = turn.own;
  free = turn.free;
  online = turn.online;
  word = word;
}

-- the group of a path
pub path_on : (t : Shape) (c g : ℕ) → group_at_of t c 0 ≡ Some g
    → group_at_of t c 0 ≡ Some (group_on t c 0)
path_on t c g is = is ∙ ap Some (sym (ap (λ (m : Option ℕ). unwrap_or m 0) is))

module _ (name table : TableId) (o : World) (cpu : ℕ) (status : CpuStatus) (bases : CpuBases)
    (leaf : Option Event) (read : ℕ) (looked : Looked) (guest : Option Guest) (m : Me)
    (f : BoxView → PassView → BoxView) (h : BoxView → PassView → PassView) (b : BoxView)
    (p : PassView) (is : m ≡ seat_of (f b p ∷ []) (h b p ∷ []))
    (same : box_held o cpu status bases leaf read looked ≡ f b p) where
  -- the bytes are those of the box and the pass after the step
  pub keeps : table ≡ name → Sound m → Hosts guest (h b p ∷ [])
      → PartHolds name table (box_held o cpu status bases leaf read (looked_of m.0.boxes)) guest m
  keeps named sound hosts =
      holds name table o cpu status bases leaf read looked m guest (h b p ∷ []) named
      (is ∙ ap (λ (z : BoxView). seat_of (z ∷ []) (h b p ∷ [])) (sym same)) sound hosts

  -- the part is the one before, changed by pair
  pub shows : (room : Room) (receipts : ℕ) (ps : List PassView) → guest_room guest ≡ receipts
      → ps ≡ p ∷ [] → record {
        box = box_held o cpu status bases leaf read (looked_of m.0.boxes);
        brought = m.0.passes;
        room = room;
        receipts_room = guest_room guest;
      }
      ≡ by_pair f h
      (record { box = b; brought = ps; room = room; receipts_room = receipts })
  shows room receipts ps memory brought =
      let box_is : box_held o cpu status bases leaf read (looked_of m.0.boxes) ≡ box_by f b ps =
      ap (box_held o cpu status bases leaf read)
      (ap (λ (z : Me). looked_of z.0.boxes) is ∙ sym (ap (λ (z : BoxView). z.looked) same))
      ∙ (same ∙ ap (box_by f b) (sym brought)) in
      let passes_are : m.0.passes ≡ head_pass (h b) ps = ap (λ (z : Me). z.0.passes) is
      ∙ ap (head_pass (h b)) (sym brought) in
      λ i. record {
        box = box_is i;
        brought = passes_are i;
        room = room;
        receipts_room = memory i;
      }
