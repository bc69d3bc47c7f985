use Rattle.std.proofs.Common.{◌≡◌, ◌∙◌, ◌+◌, ◌*◌, ap, arith}
use Rattle.wheel_base.specs.Files.{in_bucket, last_entry, place_at}
use Rattle.wheel_base.proofs.Granules.{shifts_granule}
use Rattle.wheel_base.proofs.GoingOut.{bucket_is_level, no_granule}
use Rattle.wheel_base.proofs.outs.newest_at.Goals as goal

pub returns-then-wheel-shift-clause-last : goal.returns-then-wheel-shift-clause-last
returns-then-wheel-shift-clause-last c =
    no_granule c.args.level c.args.wheel c.args.store.now.filed c.requires.level (omega arith) c.requires.near c.if-wheel-shift.true

pub returns-clause-last : goal.returns-clause-last
returns-clause-last c =
    let bucket : 64 * c.from.result + c.from-2.result ≡ 64 * c.args.level + place_at c.args.level c.args.wheel =
    omega (arith, c.from.ensures, c.from-2.ensures, c.wheel_place.ensures.place) in
    let granule = shifts_granule c.args.level c.args.wheel c.requires.level (omega arith) c.if-wheel-shift.false in
    c.newest.ensures.last
    ∙ (ap (λ b. last_entry (in_bucket b c.args.store.now.filed)) bucket
    ∙ ap last_entry (bucket_is_level c.args.level c.args.wheel c.args.store.now.filed c.requires.level granule c.requires.near))
