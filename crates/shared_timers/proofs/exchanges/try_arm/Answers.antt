use Rattle.std.proofs.Common.{◌≡◌, ◌==◌, ◌∷◌, [], sym, ap, ◌∙◌, subst}
use mathlib.Core.Option.{some}
use prog.Atomic.{either}
use Rattle.atomic_table.specs.Table.{step}
use Rattle.core_world.specs.World.{World}
use Rattle.shared_words.specs.Layout.{index_of}
use Rattle.core_world.specs.declared.step.Step.TheVariants as steps
use Rattle.shared_rule.specs.declared.parts.Said.TheVariants as saids
use Rattle.shared_rule.specs.Laws.{Stays, where_made}
use Rattle.shared_rule.specs.Rule.{seat_of}
use Rattle.shared_rule.specs.TimerLaws.{queued_word}
use Rattle.shared_rule.specs.Timers as timers
use Rattle.shared_rule.specs.Whole.{layout_of, timer_at}
use Rattle.shared_rule.proofs.Calls.{asks}
use Rattle.shared_timers.proofs.exchanges.try_arm.Goals as goal

pub compare_exchange_with-requires : goal.compare_exchange_with-requires
compare_exchange_with-requires g c =
    let run = c.args.run.now in
    let o : World = g.N.RunName.opening in
    let table = run.words.shared.table_id in
    let may = c.requires.may in
    let b = may.box in
    let ps = may.pass ∷ [] in
    let seat = c.args.seat.now in
    let a = c.args.arming in
    let said = some (saids.Arm a.timer a.class a.expires a.job a.arg a.line) in
    let mine = c.pack_spot-mine.result in
    let is : mine ≡ queued_word b.cpu a.class =
    c.pack_spot-mine.ensures ∙ ap (λ n. queued_word n a.class) (sym may.cpu_is) in
    asks g.N.RunName.table o table run.words.shared.key.core run.tree run.layout run.fits
    seat.table_id seat.id c.index-place.result seat.me b ps (timer_at a.timer.0)
    (λ n. either (n == 0) mine n) (λ i v n w. timers.Arms (step table.slots i 0 mine said) v n w)
    c.requires.table may.seat c.index-place.ensures may.fits.known
    (subst (λ x. Stays o table.slots seat.id b ps (timer_at a.timer.0) (λ n. either (n == 0) x n)
    (λ n. where_made (n == 0)
    (steps.Arm (record { 0 = b.cpu }) a.timer a.class a.expires a.job a.arg a.line))
    (timers.Arms (step table.slots (index_of (layout_of o) (timer_at a.timer.0)) 0 x said)
    (seat_of (b ∷ []) ps))) (sym is)
    (c.law_arm.ensures o table.slots seat.id a.expires a.job a.arg a.line a.class a.timer b may.pass
    may.fits))
