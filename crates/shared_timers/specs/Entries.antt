-- what a step that writes an entry makes of the part of a CPU and of the pass that is brought
use Rattle.std.specs.Prelude.{◌<◌, List, [], ◌∷◌, ◌++◌, length}
use Rattle.shared_rule.specs.declared.parts.BoxView.{BoxView}
use Rattle.shared_rule.specs.declared.parts.PassView.{PassView}
use Rattle.shared_rule.specs.declared.parts.Receipt.{Receipt}
use Rattle.shared_rule.specs.declared.box_part.Guest.{Guest}
use Rattle.shared_rule.specs.Parts.{HeldPart}

-- a part whose box and pass change by what both are
abbrev pub pair_changed : (BoxView → PassView → BoxView) → (BoxView → PassView → PassView)
    → List PassView → HeldPart → HeldPart
pair_changed f h [] part = part
pair_changed f h (p ∷ ps) part = record part { box = f part.box p; brought = h part.box p ∷ ps }

-- a part, with the pass that is brought, after a change of both
abbrev pub on_both_of : (BoxView → PassView → BoxView) → (BoxView → PassView → PassView)
    → HeldPart → HeldPart
on_both_of f h part = pair_changed f h part.brought part

-- there is room for one more entry in the journal of a part, and for its receipt in the pass that
-- is brought
pub record HasEntryRoom (part : HeldPart) (p : PassView) : Type 0 where
  pub entry : length part.box.own.bases.journal < part.room.entries
  pub receipt : length p.receipts < part.receipts_room

-- the bytes of a pass with one more receipt (no public clause cites it)
abbrev pub with_receipt : Receipt → Guest → Guest
with_receipt r guest = record guest {
  receipts = record guest.receipts { receipts = guest.receipts.receipts ++ r ∷ [] };
}
