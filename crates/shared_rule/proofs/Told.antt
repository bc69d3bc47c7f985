-- a load that changes nothing tells that the parts of a seat fit and agree
use Rattle.std.proofs.Common.{◌≡◌, ℕ, ◌<◌, List, [], ◌∷◌, length, refl, sym, subst}
use mathlib.Core.Option.{none}
use Rattle.atomic_table.specs.Table.{step}
use Rattle.core_world.specs.World.{World}
use Rattle.shared_words.specs.Layout.{index_of}
use Rattle.shared_rule.specs.declared.parts.BoxView.{BoxView}
use Rattle.shared_rule.specs.declared.parts.PassView.{PassView}
use Rattle.shared_rule.specs.CoreLaws.{CoreLaws}
use Rattle.shared_rule.specs.Whole.{cpu_at, layout_of}
use Rattle.shared_rule.specs.Rule.{Goes, seat_of}
use Rattle.shared_rule.specs.Laws.{Stays, none_made}
use Rattle.shared_rule.proofs.Going.{allows}
use Rattle.shared_rule.proofs.Rising.{still}
use Rattle.shared_rule.specs.Parts.{Meets}

pub meets : (law : CoreLaws) (o : World) (slots id : ℕ) (b : BoxView) (ps : List PassView)
    → b.cpu < length o.cpus → Stays o slots id b ps (cpu_at b.cpu) (λ n. n) none_made
    (Meets (step slots (index_of (layout_of o) (cpu_at b.cpu)) 0 0 none) (seat_of (b ∷ []) ps))
meets law o slots id b ps low =
    allows law o slots id b ps (cpu_at b.cpu) (λ n. n) none_made (λ n v. v ≡ seat_of (b ∷ []) ps) low
    (λ s h hc is known fits.
    subst (λ (z : BoxView). Goes o s z ps (cpu_at b.cpu) (λ n. n) none_made
    (λ n v. v ≡ seat_of (z ∷ []) ps)) (sym is)
    (still o s b.cpu ps (cpu_at b.cpu) _ _ h known refl refl))
