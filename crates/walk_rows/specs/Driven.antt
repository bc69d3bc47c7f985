-- the part of a CPU whose steps are made one call at a time (no public clause cites these)
use Rattle.std.specs.Prelude.{◌≡◌, ℕ, [], ◌∷◌, false}
use Rattle.idle_wakeup.specs.shared_rule.declared.parts.PassView.{PassView}
use Rattle.idle_wakeup.specs.shared_rule.Parts.{HeldPart}
use Rattle.shared_rows.specs.shared_table.Readied.{HasNoneBehind}

-- the part is that of this CPU, outside an interrupt; its own pass is brought, and none of its
-- bases is behind
pub record IsDriven (cpu : ℕ) (part : HeldPart) : Type 0 where
  pub pass : PassView
  pub brought : part.brought ≡ pass ∷ []
  pub own : pass.cpu ≡ cpu
  pub left_out : pass.inside ≡ false
  pub here : part.box.cpu ≡ cpu
  pub outside : part.box.own.inside ≡ false
  pub whole : HasNoneBehind part.box.own.bases

-- whatever CPU's part it was, it is so still
abbrev pub DrivenOn : (old new : HeldPart) → Type 0
DrivenOn old new = (cpu : ℕ) → IsDriven cpu old → IsDriven cpu new
