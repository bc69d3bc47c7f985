use Rattle.std.proofs.Common.{◌≡◌, ◌<◌, [], ◌∷◌, length, sym, ap, ◌∙◌, subst}
use mathlib.Core.Option.{none}
use Rattle.atomic_table.specs.Table.{step}
use Rattle.core_world.specs.World.{World}
use Rattle.shared_words.specs.Layout.{index_of}
use Rattle.shared_rule.specs.Whole.{cpu_at, layout_of}
use Rattle.shared_rule.specs.Rule.{Me, seat_of}
use Rattle.shared_rule.specs.Parts.{Meets}
use Rattle.shared_rule.proofs.Calls.{allowed, below, place}
use Rattle.shared_rule.proofs.Told.{meets}
use Rattle.shared_rule.proofs.meeting.meet.Goals as goal

pub load-requires : goal.load-requires
load-requires g c =
    let run = c.args.run.now in
    let o : World = g.N.RunName.opening in
    let table = run.words.shared.table_id in
    let key : World = run.words.shared.key.core in
    let part = c.requires.part in
    let b = part.0 in
    let me : Me = c.args.seat.now.me in
    let low : b.cpu < length o.cpus = subst (λ n. n < length o.cpus) (sym part.1) c.requires.cpu in
    let at : c.index-place.result ≡ index_of (layout_of o) (cpu_at b.cpu) = c.index-place.ensures
    ∙ (place _ o table key run.tree run.layout run.fits (cpu_at c.args.cpu.0)
    ∙ ap (λ n. index_of (layout_of o) (cpu_at n)) (sym part.1)) in (
      c.requires.table ∙ sym run.fits.named,
      subst (λ n. n < table.words) (sym c.index-place.ensures)
          (below _ o table key run.tree run.layout run.fits (cpu_at c.args.cpu.0) c.requires.cpu),
      allowed o key table.slots c.args.seat.now.id me (seat_of (b ∷ []) me.0.passes)
          c.index-place.result (index_of (layout_of o) (cpu_at b.cpu)) (λ n. n)
          (λ i v n w. Meets (step table.slots i 0 0 none) v n w) run.fits.opened part.2 at
          (meets c.core_laws.ensures o table.slots c.args.seat.now.id b me.0.passes low).allowed,
    )
