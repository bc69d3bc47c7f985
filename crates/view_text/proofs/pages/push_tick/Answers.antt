use Rattle.std.proofs.Common.{◌≡◌, ◌+◌, ◌-◌, ◌∷◌, ◌++◌, ap, length, replicate, subst, sym, ◌∙◌}
use Rattle.std.proofs.Common.{false, true}
use Rattle.std.specs.Prelude.{codes}
use Rattle.std.specs.Fmt.{decimal}
use Rattle.view_text.specs.declared.pages.TheConstants.{SPACE}
use Rattle.view_text.specs.Pages.{has_room, ruler_from}
use Rattle.view_text.proofs.Steps.{passed_over, skipped, ticked}
use Rattle.view_text.proofs.pages.push_tick.Goals as goal

pub returns-then-not-has_room : goal.returns-then-not-has_room
returns-then-not-has_room c =
    passed_over c.args.begin c.args.at c.args.point (sym c.if-not-has_room.ensures.room)
    c.args.text.now.items

pub returns-then-not-has_room-2 : goal.returns-then-not-has_room-2
returns-then-not-has_room-2 c = λ rest.
    let p = c.args.point in
    let count : c.count_of-count.result ≡ length (decimal p.at) =
    c.count_of-count.ensures ∙ ap length (c.deref.ensures.value ∙ c.in_ok-number.ensures) in
    skipped c.args.begin c.args.at p
    (subst (λ n. has_room c.args.begin c.args.at p.column n ≡ false) count
    (sym c.if-not-has_room-2.ensures.room))
    c.args.text.now.items rest

pub returns : goal.returns
returns c = λ rest.
    let p = c.args.point in
    let begin = c.args.begin in
    let old = c.args.text.now.items in
    let new = c.push_mark.new.text.items in
    let spaces = replicate (p.column - begin - c.args.at) SPACE in
    let count : c.count_of-count.result ≡ length (decimal p.at) =
    c.count_of-count.ensures ∙ ap length (c.deref.ensures.value ∙ c.in_ok-number.ensures) in
    let room = subst (λ n. has_room begin c.args.at p.column n ≡ true) count
    (sym c.if-not-has_room-2.ensures.room) in
    let written = subst (λ xs. new ≡ old ++ (spaces ++ (xs ++ codes " ")))
    (c.deref-2.ensures.value ∙ c.in_ok-number.ensures) c.in_ok-push_mark.ensures in
    subst (λ n. new ++ ruler_from begin (p.column - begin + n + 1) rest
    ≡ old ++ ruler_from begin c.args.at (p ∷ rest)) (sym count)
    (ticked begin c.args.at p room old new written rest)
