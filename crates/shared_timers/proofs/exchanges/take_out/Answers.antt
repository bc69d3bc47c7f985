use Rattle.std.proofs.Common.{◌≡◌, ◌==◌, ◌∷◌, [], Some, sym, ap, ◌∙◌, subst}
use mathlib.Core.Option.{some}
use prog.Atomic.{either}
use Rattle.atomic_table.specs.Table.{step}
use Rattle.core_world.specs.World.{World}
use Rattle.shared_words.specs.Layout.{index_of}
use Rattle.core_world.specs.declared.step.Step.TheVariants as steps
use Rattle.shared_rule.specs.declared.parts.Said.TheVariants as saids
use Rattle.shared_rule.specs.Laws.{Stays}
use Rattle.shared_rule.specs.Rule.{seat_of}
use Rattle.shared_rule.specs.TimerLaws.{queued_word}
use Rattle.shared_rule.specs.Timers as timers
use Rattle.shared_rule.specs.Whole.{layout_of, timer_at}
use Rattle.shared_rule.proofs.Calls.{asks}
use Rattle.shared_timers.proofs.exchanges.take_out.Goals as goal

pub compare_exchange_with-requires : goal.compare_exchange_with-requires
compare_exchange_with-requires g c =
    let run = c.args.run.now in
    let o : World = g.N.RunName.opening in
    let table = run.words.shared.table_id in
    let may = c.requires.may in
    let b = may.box in
    let ps = may.pass ∷ [] in
    let seat = c.args.seat.now in
    let timer = c.args.timer in
    let class = c.args.class in
    let said = some (saids.Cancel timer c.args.line) in
    let here = c.pack_spot-here.result in
    let is : here ≡ queued_word b.cpu class =
    c.pack_spot-here.ensures ∙ ap (λ n. queued_word n class) (sym may.cpu_is) in
    asks g.N.RunName.table o table run.words.shared.key.core run.tree run.layout run.fits
    seat.table_id seat.id c.index-place.result seat.me b ps (timer_at timer.0)
    (λ n. either (n == here) 0 n) (λ i v n w. timers.Cancels (step table.slots i here 0 said) v n w)
    c.requires.table may.seat c.index-place.ensures may.fits.known
    (subst (λ x. Stays o table.slots seat.id b ps (timer_at timer.0) (λ n. either (n == x) 0 n)
    (λ n. Some (steps.Cancel (record { 0 = b.cpu }) timer (record { 0 = may.pass.cpu }) c.args.line))
    (timers.Cancels (step table.slots (index_of (layout_of o) (timer_at timer.0)) x 0 said)
    (seat_of (b ∷ []) ps))) (sym is)
    (c.law_cancel.ensures o table.slots seat.id c.args.line class timer b may.pass may.fits))
