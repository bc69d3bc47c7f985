-- for crates above: what a part keeps after a step of its seat
use Rattle.std.proofs.Common.{◌≡◌, ℕ, List, [], ◌∷◌, Option, Some, refl, sym, ap, ◌∙◌, subst}
use Rattle.atomic_table.specs.Seated.{TableId}
use Rattle.event_queue.specs.declared.event.Event.{Event}
use Rattle.cpu_bases.specs.CpuBases.{CpuBases}
use Rattle.core_world.specs.World.{World}
use Rattle.core_state.specs.Status.{CpuStatus}
use Rattle.shared_rule.specs.declared.parts.BoxView.{BoxView}
use Rattle.shared_rule.specs.declared.parts.Looked.{Looked}
use Rattle.shared_rule.specs.declared.parts.PassView.{PassView}
use Rattle.shared_rule.specs.Rule.{HasFirst, Me, pass_cpu, renewed_pass}
use Rattle.shared_rule.specs.Rule.{seat_of, together, with_journal}
use Rattle.shared_rule.specs.Plays.{Sound}
use Rattle.shared_rule.specs.declared.box_part.Guest.{Guest}
use Rattle.shared_rule.specs.Parts.{Hosts, IsGuest, PartHolds, box_held, looked_of}

-- bytes that are those of the seat's box, of which its step told that it is sound
pub holds : (name table : TableId) (o : World) (cpu : ℕ) (status : CpuStatus) (bases : CpuBases)
    (leaf : Option Event) (read : ℕ) (looked : Looked) (m : Me) (guest : Option Guest)
    (ps : List PassView) → table ≡ name
    → m ≡ seat_of (box_held o cpu status bases leaf read looked ∷ []) ps → Sound m → Hosts guest ps
    → PartHolds name table (box_held o cpu status bases leaf read (looked_of m.0.boxes)) guest m
holds name table o cpu status bases leaf read looked m guest ps named is sound hosts =
    let b : BoxView = box_held o cpu status bases leaf read looked in
    let s : Sound (seat_of (b ∷ []) ps) = subst Sound is sound in
    subst (λ (z : Me).
    PartHolds name table (box_held o cpu status bases leaf read (looked_of z.0.boxes)) guest z)
    (sym is)
    (record { named = named; seat = refl; fits = s.0.0; agrees = s.0.1; hosts = hosts })

-- a part's seat joined with a pass's
pub joined : (m n k : Me) (b : BoxView) (p : PassView) → m ≡ seat_of (b ∷ []) m.0.passes
    → m.0.passes ≡ [] → n ≡ seat_of [] (p ∷ []) → k ≡ (together m.0 n.0, m.1)
    → k ≡ seat_of (b ∷ []) (p ∷ [])
joined m n k b p is none alone both =
    let e : m ≡ seat_of (b ∷ []) [] = is ∙ ap (seat_of (b ∷ [])) none in
    both ∙ (λ i. (together (e i).0 (alone i).0, (e i).1))

-- one pass is brought, so it is the first of its CPU
pub has_first : (ps : List PassView) (p : PassView) → ps ≡ p ∷ [] → HasFirst pass_cpu ps
has_first ps p is = subst (HasFirst pass_cpu) (sym is) tt

-- the seat of the pass that goes from a part, of which its bytes are those of the guest
pub parted : (m k : Me) (b : BoxView) (guest : Guest) → m ≡ seat_of (b ∷ []) m.0.passes
    → Hosts (Some guest) m.0.passes → k ≡ (renewed_pass m.0, [])
    → (p : PassView) × (k ≡ seat_of [] (p ∷ [])) × IsGuest guest p
parted m k b guest is hosts off = (
  with_journal b hosts.0,
  off ∙ (λ i. (renewed_pass ((is ∙ ap (seat_of (b ∷ [])) hosts.1) i).0, [])),
  record { cpu = hosts.2.cpu; walks = hosts.2.walks; receipts = hosts.2.receipts },
)
