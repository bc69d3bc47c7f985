use Rattle.std.proofs.Common.{◌≡◌, ◌∷◌, [], sym, ap, ◌∙◌, subst}
use mathlib.Core.Option.{none}
use Rattle.atomic_table.specs.Table.{step}
use Rattle.tm_base.specs.declared.names.Class.{Class}
use Rattle.tm_base.specs.declared.names.Class.TheVariants.{Pinned, Global, Deferrable}
use Rattle.core_world.specs.World.{World}
use Rattle.shared_rule.specs.TurnLaws.{MayStoreTick}
use Rattle.shared_rule.specs.Turns as turns
use Rattle.shared_rule.specs.Whole.{cpu_at}
use Rattle.shared_words.specs.Layout.{index_of}
use Rattle.shared_rule.proofs.Calls.{asks}
use Rattle.shared_timers.proofs.exchanges.tick.Goals as goal

pub load-requires : goal.load-requires
load-requires g c =
    let run = c.args.run.now in
    let o : World = g.N.RunName.opening in
    let table = run.words.shared.table_id in
    let may = c.requires.may in
    let b = may.box in
    let p = may.pass in
    let seat = c.args.seat.now in
    asks g.N.RunName.table o table run.words.shared.key.core run.tree run.layout run.fits
    seat.table_id seat.id c.index-place.result seat.me b (p ∷ []) (cpu_at b.cpu) (λ n. n)
    (λ i v n w. turns.Ticks Pinned (step table.slots i 0 0 none) v n w) c.requires.table may.seat
    (c.index-place.ensures ∙ ap (λ n. index_of run.layout (cpu_at n)) (sym may.cpu_is)) may.fits.cpu
    (c.law_tick.ensures o table.slots seat.id Pinned b p
    (subst (λ (k : Class). MayStoreTick o b k p) c.in-Pinned.is may.fits))

pub load-requires-in-Global : goal.load-requires-in-Global
load-requires-in-Global g c =
    let run = c.args.run.now in
    let o : World = g.N.RunName.opening in
    let table = run.words.shared.table_id in
    let may = c.requires.may in
    let b = may.box in
    let p = may.pass in
    let seat = c.args.seat.now in
    asks g.N.RunName.table o table run.words.shared.key.core run.tree run.layout run.fits
    seat.table_id seat.id c.index-place.result seat.me b (p ∷ []) (cpu_at b.cpu) (λ n. n)
    (λ i v n w. turns.Ticks Global (step table.slots i 0 0 none) v n w) c.requires.table may.seat
    (c.index-place.ensures ∙ ap (λ n. index_of run.layout (cpu_at n)) (sym may.cpu_is)) may.fits.cpu
    (c.law_tick.ensures o table.slots seat.id Global b p
    (subst (λ (k : Class). MayStoreTick o b k p) c.in-Global.is may.fits))

pub load-requires-in-Deferrable : goal.load-requires-in-Deferrable
load-requires-in-Deferrable g c =
    let run = c.args.run.now in
    let o : World = g.N.RunName.opening in
    let table = run.words.shared.table_id in
    let may = c.requires.may in
    let b = may.box in
    let p = may.pass in
    let seat = c.args.seat.now in
    asks g.N.RunName.table o table run.words.shared.key.core run.tree run.layout run.fits
    seat.table_id seat.id c.index-place.result seat.me b (p ∷ []) (cpu_at b.cpu) (λ n. n)
    (λ i v n w. turns.Ticks Deferrable (step table.slots i 0 0 none) v n w) c.requires.table may.seat
    (c.index-place.ensures ∙ ap (λ n. index_of run.layout (cpu_at n)) (sym may.cpu_is)) may.fits.cpu
    (c.law_tick.ensures o table.slots seat.id Deferrable b p
    (subst (λ (k : Class). MayStoreTick o b k p) c.in-Deferrable.is may.fits))

pub returns-in-Pinned-clause-table : goal.returns-in-Pinned-clause-table
returns-in-Pinned-clause-table g c = c.load.ensures.0 ∙ c.requires.table

pub returns-in-Pinned-clause-told : goal.returns-in-Pinned-clause-told
returns-in-Pinned-clause-told g c =
    subst (λ (k : Class). c.load.new.seat.me
    ≡ turns.on_pair (turns.ticked_box k) (turns.ticked_pass k) c.args.seat.now.me)
    (sym c.in-Pinned.is) c.load.ensures.2.0

pub returns-in-Pinned-clause-sound : goal.returns-in-Pinned-clause-sound
returns-in-Pinned-clause-sound g c = c.load.ensures.2.1

pub returns-in-Global-clause-table : goal.returns-in-Global-clause-table
returns-in-Global-clause-table g c = c.load-in-Global.ensures.0 ∙ c.requires.table

pub returns-in-Global-clause-told : goal.returns-in-Global-clause-told
returns-in-Global-clause-told g c =
    subst (λ (k : Class). c.load-in-Global.new.seat.me
    ≡ turns.on_pair (turns.ticked_box k) (turns.ticked_pass k) c.args.seat.now.me)
    (sym c.in-Global.is) c.load-in-Global.ensures.2.0

pub returns-in-Global-clause-sound : goal.returns-in-Global-clause-sound
returns-in-Global-clause-sound g c = c.load-in-Global.ensures.2.1

pub returns-in-Deferrable-clause-table : goal.returns-in-Deferrable-clause-table
returns-in-Deferrable-clause-table g c = c.load-in-Deferrable.ensures.0 ∙ c.requires.table

pub returns-in-Deferrable-clause-told : goal.returns-in-Deferrable-clause-told
returns-in-Deferrable-clause-told g c =
    subst (λ (k : Class). c.load-in-Deferrable.new.seat.me
    ≡ turns.on_pair (turns.ticked_box k) (turns.ticked_pass k) c.args.seat.now.me)
    (sym c.in-Deferrable.is) c.load-in-Deferrable.ensures.2.0

pub returns-in-Deferrable-clause-sound : goal.returns-in-Deferrable-clause-sound
returns-in-Deferrable-clause-sound g c = c.load-in-Deferrable.ensures.2.1
