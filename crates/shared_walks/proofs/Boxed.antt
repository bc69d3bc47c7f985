-- what a part keeps and shows after a step of a walk, which changes its box alone
use Rattle.std.proofs.Common.{◌≡◌, ℕ, List, [], ◌∷◌, Option, Some, sym, ap, ◌∙◌}
use Rattle.atomic_table.specs.Seated.{TableId}
use Rattle.event_queue.specs.declared.event.Event.{Event}
use Rattle.walk_rules.specs.declared.walk.Walk.{Walk}
use Rattle.core_world.specs.World.{CpuRecord, World}
use Rattle.shared_rule.specs.core_state.Status.{CpuStatus}
use Rattle.shared_rule.specs.declared.parts.BoxView.{BoxView}
use Rattle.shared_rule.specs.declared.parts.Looked.{Looked}
use Rattle.shared_rule.specs.declared.parts.PassView.{PassView}
use Rattle.shared_rule.specs.Plays.{Sound, bound_walk, by_walk}
use Rattle.shared_rule.specs.Rule.{Me, seat_of}
use Rattle.shared_rule.specs.declared.box_part.Guest.{Guest}
use Rattle.shared_rule.specs.Parts.{HeldPart, Hosts, PartHolds, box_held, looked_of}
use Rattle.shared_rule.proofs.Holding.{holds}
use Rattle.shared_walks.specs.Steps.{on_part}

-- the box whose walk has gone on to this one, or ended
pub walked : (o : World) (cpu : ℕ) (status : CpuStatus) (y : CpuRecord) (leaf : Option Event)
    (read : ℕ) (looked : Looked) (f : BoxView → Walk → Option Walk) (k : Walk) (w : Option Walk)
    → status.walk ≡ Some k → w ≡ f (box_held o cpu status y.bases leaf read looked) k
    → box_held o cpu (record status { walk = w }) y.bases leaf read looked
    ≡ by_walk f (box_held o cpu status y.bases leaf read looked)
walked o cpu status y leaf read looked f k w at is =
    let b : BoxView = box_held o cpu status y.bases leaf read looked in
    let so : w ≡ bound_walk (f b) status.walk = is ∙ sym (ap (bound_walk (f b)) at) in
    ap (λ (z : Option Walk). box_held o cpu (record status { walk = z })
    y.bases leaf read looked) so

module _ (name table : TableId) (o : World) (cpu : ℕ) (status : CpuStatus) (y : CpuRecord)
    (leaf : Option Event) (read : ℕ) (looked : Looked) (guest : Option Guest) (m : Me)
    (f : BoxView → BoxView) (b : BoxView) (ps : List PassView) (is : m ≡ seat_of (f b ∷ []) ps)
    (same : box_held o cpu status y.bases leaf read looked ≡ f b) where
  -- the bytes are those of the box after the step
  pub keeps : table ≡ name → Sound m → Hosts guest ps
      → PartHolds name table (box_held o cpu status y.bases leaf read (looked_of m.0.boxes)) guest m
  keeps named sound hosts =
      holds name table o cpu status y.bases leaf read looked m guest ps named
      (is ∙ ap (λ (z : BoxView). seat_of (z ∷ []) ps) (sym same)) sound hosts

  -- the part is the one before, with its box changed so
  pub shows : (v : HeldPart) → record v {
    box = box_held o cpu status y.bases leaf read (looked_of m.0.boxes);
    brought = m.0.passes;
  }
      ≡ on_part f (record v { box = b; brought = ps })
  shows v =
      let box_is : box_held o cpu status y.bases leaf read (looked_of m.0.boxes) ≡ f b =
      ap (box_held o cpu status y.bases leaf read)
      (ap (λ (z : Me). looked_of z.0.boxes) is ∙ sym (ap (λ (z : BoxView). z.looked) same))
      ∙ same in
      let passes_are : m.0.passes ≡ ps = ap (λ (z : Me). z.0.passes) is in
      λ i. record v { box = box_is i; brought = passes_are i }
